-- A tab of the number stands at the given place.
use Rattle.std.proofs.Common.{sym, ◌∙◌}
use Rattle.std.proofs.lemmas.Option.{slice_get_within}
use Rattle.live_state.proofs.SearchLemmas.{found-given}
use Rattle.live_state.proofs.live.place_by.Goals as goal

pub returns-in-Some-clause-place : goal.returns-in-Some-clause-place
returns-in-Some-clause-place c =
    found-given c.args.number c.args.given c.args.tabs.now.items c.in-Some.tab.now c.requires.rising (sym c.in-Some.ensures.tab)
    (sym c.number.ensures.number ∙ c.if-number.true)

pub returns-in-Some-clause-fits : goal.returns-in-Some-clause-fits
returns-in-Some-clause-fits c = slice_get_within c.args.tabs.now.items c.args.given c.in-Some.tab.now (sym c.in-Some.ensures.tab)
