use Rattle.std.proofs.Common.{length}
use Rattle.frame_tree.proofs.frames.+is_https_chain.Given as goal

abbrev pub decreases-is_https_chain : goal.decreases-is_https_chain
decreases-is_https_chain l = length l.frames.now
