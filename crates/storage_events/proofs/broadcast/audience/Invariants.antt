-- The labels so far are the audience among the documents so far.
use Rattle.std.proofs.Common.{◌≡◌, take}
use Rattle.storage_events.specs.Audience.{audience}
use Rattle.storage_events.proofs.broadcast.audience.Given as goal

abbrev pub invariant-loop-document : goal.invariant-loop-document
invariant-loop-document g l = l.labels.items ≡ audience g.K.PartialEq.eq l.area l.writer l.key (take l.document-index l.documents)
