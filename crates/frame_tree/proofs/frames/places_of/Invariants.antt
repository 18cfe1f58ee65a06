-- The frames so far have their places.
use Rattle.std.proofs.Common.{◌≡◌, length, take, true}
use Rattle.frame_tree.proofs.PlaceLemmas.{ArePlacesUpto, are_low}
use Rattle.frame_tree.proofs.frames.places_of.Given as goal

abbrev pub invariant-loop-place : goal.invariant-loop-place
invariant-loop-place l = record {
  long : length l.places ≡ 256;
  places : ArePlacesUpto l.place l.places l.frames;
  low : are_low (take l.place l.frames) ≡ true;
}
