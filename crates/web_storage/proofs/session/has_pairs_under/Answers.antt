-- Without a first key there are no areas, and else the walk meets all of them.
use Rattle.std.proofs.Common.{◌∙◌, ap, sym}
use Rattle.std.specs.List.{list_any}
use Rattle.origin_site.specs.Plain.{plain_site}
use Rattle.web_storage.specs.SiteSessions.{has_pairs_under}
use Rattle.web_storage.proofs.SiteSessionLemmas.{from_all, met, passed_by}
use Rattle.web_storage.proofs.UnderLemmas.{none_there}
use Rattle.web_storage.proofs.session.has_pairs_under.Goals as goal

pub returns-in_default-clause-pairs : goal.returns-in_default-clause-pairs
returns-in_default-clause-pairs c =
    ap (list_any (has_pairs_under (plain_site c.args.site.now))) (sym (none_there c.args.areas.now c.in_default.ensures.key))

pub loop-key-init : goal.loop-key-init
loop-key-init c =
    ap (list_any (has_pairs_under (plain_site c.args.site.now)))
    (c.into_iter-key-iterator.ensures.into_iter_gives
    ∙ from_all c.args.areas.now c.range_from-key-items.result c.in-Some.first.now c.next_key.ensures.ordered
    c.in-Some.ensures.key c.range_from-key-items.ensures.entries)

pub returns-then-has_pairs-clause-pairs : goal.returns-then-has_pairs-clause-pairs
returns-then-has_pairs-clause-pairs c =
    met (plain_site c.args.site.now) (c.in-Some-2.key.now, c.in-Some-2.area.now) c.next.new.self
    (sym c.has_pairs.ensures ∙ c.if-has_pairs.true)
    ∙ ap (list_any (has_pairs_under (plain_site c.args.site.now))) (sym c.in-Some-2.ensures.steps)
    ∙ c.loop-key.invariant

pub loop-key-preserved : goal.loop-key-preserved
loop-key-preserved c =
    sym (passed_by (plain_site c.args.site.now) (c.in-Some-2.key.now, c.in-Some-2.area.now) c.next.new.self
    (sym c.has_pairs.ensures ∙ c.if-has_pairs.false))
    ∙ ap (list_any (has_pairs_under (plain_site c.args.site.now))) (sym c.in-Some-2.ensures.steps)
    ∙ c.loop-key.invariant

pub returns-clause-pairs : goal.returns-clause-pairs
returns-clause-pairs c =
    ap (list_any (has_pairs_under (plain_site c.args.site.now))) (sym c.in-None.ensures.steps.0) ∙ c.loop-key.invariant
