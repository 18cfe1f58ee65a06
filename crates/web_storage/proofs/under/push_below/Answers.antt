-- The walk goes on, stops at another site, or comes to the end.
use Rattle.std.proofs.Common.{◌∷◌, [], ◌++◌, ◌∙◌, ap, map, sym}
use Rattle.std.specs.Prelude.{reverse}
use Rattle.std.specs.List.{take_while}
use Rattle.std.proofs.lemmas.List.{reverse-append}
use Rattle.origin_site.specs.Plain.{plain_site}
use Rattle.web_storage.specs.Evicting.{entry_of, is_entry_under}
use Rattle.web_storage.proofs.UnderLemmas.{walk-on, walk-stopped, walk-ended}
use Rattle.web_storage.proofs.under.push_below.Goals as goal

pub returns-then-not-same_site : goal.returns-then-not-same_site
returns-then-not-same_site g c = record {
  pushed =
      walk-stopped (is_entry_under (plain_site c.args.site.now)) (c.in-Some.key.now, c.in-Some.value.now)
      (reverse c.next.new.self.iter) _ _
      (sym c.same_site.ensures.test ∙ c.if-not-same_site.true)
      (ap (λ r. map entry_of c.loop-key.found.items ++ take_while (is_entry_under (plain_site c.args.site.now)) r)
      (sym (ap reverse c.in-Some.ensures.steps
      ∙ reverse-append c.next.new.self.iter ((c.in-Some.key.now, c.in-Some.value.now) ∷ [])))
      ∙ c.loop-key.invariant);
}

pub loop-key-preserved : goal.loop-key-preserved
loop-key-preserved g c =
    ap (λ es. es ++ take_while (is_entry_under (plain_site c.args.site.now)) (reverse c.next.new.self.iter))
    c.in_ok-push_entry.ensures.pushed
    ∙ walk-on (is_entry_under (plain_site c.args.site.now)) (c.in-Some.key.now, c.in-Some.value.now)
    (reverse c.next.new.self.iter) _ _
    (sym c.same_site.ensures.test ∙ c.if-not-same_site.false)
    (ap (λ r. map entry_of c.loop-key.found.items ++ take_while (is_entry_under (plain_site c.args.site.now)) r)
    (sym (ap reverse c.in-Some.ensures.steps
    ∙ reverse-append c.next.new.self.iter ((c.in-Some.key.now, c.in-Some.value.now) ∷ [])))
    ∙ c.loop-key.invariant)

pub returns : goal.returns
returns g c = record {
  pushed =
      walk-ended (is_entry_under (plain_site c.args.site.now)) _ _
      (ap (λ r. map entry_of c.loop-key.found.items
      ++ take_while (is_entry_under (plain_site c.args.site.now)) (reverse r)) (sym c.in-None.ensures.steps.0)
      ∙ c.loop-key.invariant);
}
