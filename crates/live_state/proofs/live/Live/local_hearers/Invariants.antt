-- The hearers in the tabs so far are listed.
use Rattle.std.proofs.Common.{◌≡◌, take}
use Rattle.std.specs.List.{flat_map}
use Rattle.storage_key.specs.Plain.{plain_key}
use Rattle.storage_events.specs.declared.event.AreaKind.TheVariants.{Local}
use Rattle.live_state.specs.Hearers.{hearers_by}
use Rattle.live_state.specs.Tabs.{tab_at}
use Rattle.live_state.proofs.live.Live.local_hearers.Given as goal

abbrev pub invariant-loop-number : goal.invariant-loop-number
invariant-loop-number l =
    l.to.items
    ≡ flat_map (λ n. hearers_by Local l.writer (plain_key l.key) (tab_at n l.self.tabs)) (take l.number-index l.number-items)
