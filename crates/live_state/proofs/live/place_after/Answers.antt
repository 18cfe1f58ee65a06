-- The first tab behind the place is the next one.
use Rattle.std.proofs.Common.{◌+◌, List, ap, sym, ◌∙◌}
use Rattle.std.specs.Prelude.{option_map, slice_get}
use Rattle.std.proofs.Math.Numerals.{add-one}
use Rattle.live_state.specs.ExistingQueues.{PlainOpenTab}
use Rattle.live_state.specs.Tabs.{next_tab}
use Rattle.live_state.proofs.TabPlaceLemmas.{next-at, next-first, next-gap}
use Rattle.live_state.proofs.SearchLemmas.{plain_of, number_at}
use Rattle.live_state.proofs.live.place_after.Goals as goal

pub returns-in_default : goal.returns-in_default
returns-in_default c =
    let ts : List PlainOpenTab = c.args.tabs.now.items in record {
      place = ap (λ o. next_tab o (plain_of ts)) c.in_default.is ∙ next-first (plain_of ts) ∙ number_at ts 0;
    }

pub returns-in-Ok : goal.returns-in-Ok
returns-in-Ok c =
    let ts : List PlainOpenTab = c.args.tabs.now.items in record {
      place =
          ap (λ o. next_tab o (plain_of ts)) c.in-Some.is
          ∙ next-at c.in-Some.number (plain_of ts) c.in-Ok.place c.in-Ok.ensures.place
          ∙ ap (λ i. option_map (λ t. t.number) (slice_get (plain_of ts) i)) (sym (add-one c.in-Ok.place))
          ∙ number_at ts (c.in-Ok.place + 1);
    }

pub returns-in-Err : goal.returns-in-Err
returns-in-Err c =
    let ts : List PlainOpenTab = c.args.tabs.now.items in record {
      place =
          ap (λ o. next_tab o (plain_of ts)) c.in-Some.is
          ∙ next-gap c.in-Some.number (plain_of ts) c.in-Err.place c.in-Err.ensures.place
          ∙ number_at ts c.in-Err.place;
    }
