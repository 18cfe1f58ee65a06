-- One key more is copied, if it has an area.
use Rattle.std.proofs.Common.{sym}
use Rattle.session_area.proofs.CopyLemmas.{IsCopied-found, IsCopied-missing}
use Rattle.session_area.proofs.sessions.copies_of.Goals as goal

pub loop-key-preserved-in_ok-insert : goal.loop-key-preserved-in_ok-insert
loop-key-preserved-in_ok-insert g c = λ q.
    rw (c.in_ok-insert.ensures.inserted, c.in_ok-share.ensures.same)
    (IsCopied-found g.K.Ord.cmp g.met.K.Ord.total c.loop-key.yielded c.in-Some.key c.in-Some-get.area.now c.args.areas.now c.loop-key.copies
    c.loop-key.invariant (sym c.in-Some-get.ensures.value) q)

pub loop-key-preserved : goal.loop-key-preserved
loop-key-preserved g c =
    IsCopied-missing g.K.Ord.cmp g.met.K.Ord.total c.loop-key.yielded c.in-Some.key c.args.areas.now c.loop-key.copies
    c.loop-key.invariant (sym c.in_default.ensures.value)
