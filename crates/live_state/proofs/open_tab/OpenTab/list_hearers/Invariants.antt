-- The hearers among the frames so far are listed.
use Rattle.std.proofs.Common.{◌≡◌, ◌++◌}
use Rattle.std.specs.List.{filter_map, range_with_len}
use Rattle.storage_key.specs.Plain.{plain_key}
use Rattle.live_state.specs.Documents.{keyed}
use Rattle.live_state.specs.Hearers.{hearing}
use Rattle.live_state.proofs.open_tab.OpenTab.list_hearers.Given as goal

abbrev pub invariant-loop-frame : goal.invariant-loop-frame
invariant-loop-frame l =
    l.to.items
    ≡ l.initial.to.items
    ++ hearing l.kind l.writer (plain_key l.key) (filter_map (keyed l.self.plain.number l.self.plain.frames) (range_with_len 0 l.frame))
