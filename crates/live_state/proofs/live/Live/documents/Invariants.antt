-- The documents of the tabs so far are listed.
use Rattle.std.proofs.Common.{◌≡◌, map, take}
use Rattle.live_state.specs.Documents.{documents, plain_keyed}
use Rattle.live_state.proofs.live.Live.documents.Given as goal

abbrev pub invariant-loop-place : goal.invariant-loop-place
invariant-loop-place l = map plain_keyed l.documents.items ≡ documents (take l.place l.self.tabs)
