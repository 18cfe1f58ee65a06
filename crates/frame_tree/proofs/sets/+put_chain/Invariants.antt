use Rattle.std.proofs.Common.{length}
use Rattle.frame_tree.proofs.sets.+put_chain.Given as goal

abbrev pub decreases-put_chain : goal.decreases-put_chain
decreases-put_chain l = length l.frames.now
