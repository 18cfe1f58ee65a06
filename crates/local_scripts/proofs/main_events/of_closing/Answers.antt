-- A tab is closed where it is open.
use Rattle.std.proofs.Common.{Some, refl, sym, ap, ◌∙◌}
use Rattle.local_scripts.proofs.EventLemmas.{closing, closing_none}
use Rattle.local_scripts.proofs.main_events.of_closing.Goals as goal

pub returns-in_default : goal.returns-in_default
returns-in_default c = record {
  event = λ rules. closing_none rules c.args.live.now.tabs c.args.tab
      (sym c.in_default.ensures.place);
}

pub returns : goal.returns
returns c = record {
  event = λ rules. closing rules c.args.live.now.tabs c.args.tab _
      (sym c.in-Some.ensures.place ∙ ap Some (sym c.in_ok-copy.ensures.same)) refl;
}
