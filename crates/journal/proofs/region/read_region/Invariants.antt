use Rattle.std.proofs.Common.{◌≡◌, ◌+◌, ◌-◌, List, length, true}
use Rattle.journal.specs.Frame.{Frame, AreSound, frames_len, base_of}
use Rattle.journal.specs.Region.{OpensAt, Runs, is_first}
use Rattle.journal.proofs.region.read_region.Given as goal

abbrev pub invariant-loop-taken : goal.invariant-loop-taken
invariant-loop-taken g l =
    (frames : List Frame) × OpensAt l.bytes l.begin frames × Runs (g.R.Replay.takes (g.R.Replay.rules l.fn.into)) true g.R.Replay.empty 0 frames (g.R.Replay.state l.into) l.last
    × (l.at ≡ l.begin + frames_len frames) × (l.fresh ≡ is_first frames) × AreSound l.bytes frames × (l.base ≡ base_of frames) × (g.R.Replay.rules l.into ≡ g.R.Replay.rules l.fn.into)

abbrev pub decreases-loop-taken : goal.decreases-loop-taken
decreases-loop-taken g l = length l.bytes - l.at
