use Rattle.std.proofs.Common.{length}
use Rattle.frame_tree.proofs.frames.+sites_of.Given as goal

abbrev pub decreases-sites_of : goal.decreases-sites_of
decreases-sites_of l = length l.frames.now
