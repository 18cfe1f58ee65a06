-- The keys so far are copied.
use Rattle.session_area.specs.Sessions.{IsCopied}
use Rattle.session_area.proofs.sessions.copies_of.Given as goal

abbrev pub invariant-loop-key : goal.invariant-loop-key
invariant-loop-key g l = IsCopied g.K.Ord.cmp l.yielded l.areas l.copies
