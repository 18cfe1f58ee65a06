-- There are at most as many durable changes as lines.
use Rattle.std.proofs.Common.{◌≡◌, ℕ, ◌+◌, ◌≤◌, true, List, [], ◌∷◌, ◌++◌, Option, Some, None}
use Rattle.std.proofs.Common.{length, map, ap, ◌∙◌, arith}
use Rattle.std.proofs.lemmas.List.{length-append, length-map}
use Rattle.unwinding.specs.Machine.{Occurrence, Machine, WorldOf}
use Rattle.unwinding.specs.World.{outcome, after_sides, world_step, world_after}
use Rattle.unwinding.specs.Durable.{Keeping, durable_change, main_changes, line_changes}
use Rattle.unwinding.specs.Epochs.{all_changes}
use Rattle.unwinding.specs.Admissible.{Acts, OpeningOf, closed_steps}
use Rattle.unwinding.specs.Course.{Course, executed_lines, course_steps}
use Rattle.unwinding.specs.CourseSteps.{SeenOf, MayFind, begins, last_opening, IsOn}
use Rattle.unwinding.proofs.CourseSums.{base_is, pending_is}

module _ {Site Cell Cells Partition Content Rest Line Event Reply Change : Type 0}
    (m : Machine Site Cell Cells Partition Content Rest Line Event Reply Change) where
  pub few_of : (s : Site) (cs : List Change) → length (durable_change m s cs) ≤ 1
  few_of s [] = omega arith
  few_of s (c ∷ cs) = omega arith

  pub few_main : (w : WorldOf m) (o : Option (Occurrence Site Event)) → length (main_changes m w o) ≤ 1
  few_main w None = omega arith
  few_main w (Some a) = few_of a.site (outcome m a.site (w.partition a.site) w.cells a.event).changes

  pub line_few : (w : WorldOf m) (l : Line) → length (line_changes m w l) ≤ 1
  unfolding line_changes
  line_few w l = few_main (after_sides m w l) (m.main w l)

  pub all_few : (w : WorldOf m) (ls : List Line) → length (all_changes m w ls) ≤ length ls
  all_few w [] = omega arith
  all_few w (l ∷ ls) = omega (arith, length-append (line_changes m w l) (all_changes m (world_step m w l) ls), line_few w l, all_few (world_step m w l) ls)

module _
    {Site Cell Cells Partition Content Rest Line Event Reply Change KeptPartition KeptCell KeptCells
    : Type 0}
    (m : Machine Site Cell Cells Partition Content Rest Line Event Reply Change)
    (k : Keeping Site Cell Cells Partition Content Rest Change KeptPartition KeptCell KeptCells)
    (batch : ℕ) (x : OpeningOf m k) where
  -- changes are at most as many as lines
  pub on_count : (r : Course Line) (a : SeenOf m k) (may : MayFind m k) → IsOn m k batch x r a may → a.up ≡ true → a.base.count + length a.pending ≤ length (course_steps r)
  on_count r a may on up =
      let was = on.up up in
      let w = begins m k (last_opening m k x r) in
      let count : a.base.count ≡ length (all_changes m w r.answered) = ap (λ s. s.base.count) was.1 ∙ ap (λ b. b.count) (base_is m k (last_opening m k x r) r) ∙ zero_more (length (all_changes m w r.answered)) in
      let pending : length a.pending ≡ length (all_changes m (world_after m w r.answered) r.waiting) = ap (λ s. length s.pending) was.1 ∙ ap length (pending_is m k (last_opening m k x r) r) in
      omega (
        arith,
        count,
        pending,
        all_few m w r.answered,
        all_few m (world_after m w r.answered) r.waiting,
        length-append r.answered r.waiting,
        length-append (closed_steps r.closed) (map (λ l. Acts l) (executed_lines r) ++ r.downs),
        length-append (map (λ l. Acts l) (executed_lines r)) r.downs,
        length-map (executed_lines r) (λ l. Acts l),
      )
    where
      zero_more : (n : ℕ) → 0 + n ≡ n
      zero_more n = omega arith
