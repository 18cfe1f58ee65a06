-- The document is there.
use Rattle.std.proofs.Common.{◌||◌, sym, ap, ◌∙◌}
use Rattle.origin_site.specs.Plain.{plain_address}
use Rattle.frame_tree.specs.Keys.{is_first_at}
use Rattle.local_scripts.proofs.CellLemmas.{fetch_is, fetch_none}
use Rattle.local_scripts.proofs.cells.of_request.Goals as goal

pub returns-then-not-is_there : goal.returns-then-not-is_there
returns-then-not-is_there c = record {
  cells = fetch_none c.args.list.now.rules c.args.tab.now c.args.frame (plain_address c.args.url.now)
      (sym c.is_there.ensures ∙ c.if-not-is_there.true);
}

pub returns : goal.returns
returns c = record {
  cells =
      fetch_is c.args.list.now.rules c.args.tab.now c.args.frame (plain_address c.args.url.now) c.used.result
      (sym c.is_there.ensures ∙ c.if-not-is_there.false)
      (λ how url uses. c.used.ensures.used how url
      (uses ∙ (λ i. (ap (is_first_at c.args.frame c.args.tab.now) (sym c.in_ok-target.ensures.site)
      ∙ sym c.first_party-first.ensures.first) i || sym c.in_ok-granted.ensures.granted i)));
}
