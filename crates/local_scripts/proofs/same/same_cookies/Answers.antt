use Rattle.local_scripts.proofs.FrontLemmas.{fronts_more}
use Rattle.local_scripts.proofs.same.same_cookies.Goals as goal

pub loop-place-preserved : goal.loop-place-preserved
loop-place-preserved c =
    fronts_more c.args.a.now.cookies c.args.b.now.cookies c.loop-place.place c.loop-place.invariant (c.same_at.ensures.0 c.if-not-same_at.false)
