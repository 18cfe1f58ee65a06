-- The documents of the frames so far are listed.
use Rattle.std.proofs.Common.{◌≡◌, ◌++◌, map}
use Rattle.std.specs.List.{filter_map, range_with_len}
use Rattle.live_state.specs.Documents.{keyed, plain_keyed}
use Rattle.live_state.proofs.open_tab.OpenTab.list_documents.Given as goal

abbrev pub invariant-loop-frame : goal.invariant-loop-frame
invariant-loop-frame l =
    map plain_keyed l.documents.items
    ≡ map plain_keyed l.initial.documents.items ++ filter_map (keyed l.self.plain.number l.self.plain.frames) (range_with_len 0 l.frame)
