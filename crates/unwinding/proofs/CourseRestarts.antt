-- A restart closes the open stretch, and a run that ends has an admissible history.
use Rattle.std.proofs.Common.{◌≡◌, inl, inr, ℕ, ◌+◌, ◌*◌, ◌/◌, ◌%◌, ◌<◌, Bool, true, false, List, [], ◌∷◌}
use Rattle.std.proofs.Common.{◌++◌, Option, Some, None, take, length, refl, sym, ap, subst, ◌∙◌}
use Rattle.std.proofs.Common.{append_assoc, append-nil, arith}
use Rattle.std.proofs.lemmas.List.{length-append}
use Rattle.std.proofs.lemmas.Nat.{div-mul-add}
use Rattle.std.proofs.Math.Seq.{take-append_seam, take-length}
use Rattle.unwinding.specs.Machine.{Machine}
use Rattle.unwinding.specs.World.{world_after}
use Rattle.unwinding.specs.Durable.{Keeping, DurableOf, apply_all}
use Rattle.unwinding.specs.Epochs.{all_changes, with_interrupted, next_durable}
use Rattle.unwinding.specs.Admissible.{Stretch, OpeningOf, interrupted_line, next_opening}
use Rattle.unwinding.specs.Admissible.{opening_after, EndsBatch, IsAdmissibleStretch, AreAdmissible}
use Rattle.unwinding.specs.Admissible.{IsAdmissible}
use Rattle.unwinding.specs.Course.{Course, empty_course, executed_lines, IsAt, AtBase, answer_all}
use Rattle.unwinding.specs.Course.{stretch_of, reopen}
use Rattle.unwinding.specs.CourseSteps.{SeenOf, MayFind, reopened, begins, last_opening, stands}
use Rattle.unwinding.specs.CourseSteps.{MayKeep, MayEnd, IsOn, history_of, base_of}
use Rattle.unwinding.specs.Machine.{WorldOf}
use Rattle.unwinding.proofs.Fronts.{all_changes_append}
use Rattle.unwinding.proofs.CourseSums.{world_rest, base_is}

module _
    {Site Cell Cells Partition Content Rest Line Event Reply Change KeptPartition KeptCell KeptCells
    : Type 0}
    (m : Machine Site Cell Cells Partition Content Rest Line Event Reply Change)
    (k : Keeping Site Cell Cells Partition Content Rest Change KeptPartition KeptCell KeptCells)
  where
    pub opening_after_more : (y : OpeningOf m k) (ss : List (Stretch Line)) (s : Stretch Line) → opening_after m k y (ss ++ s ∷ []) ≡ next_opening m k (opening_after m k y ss) s
    opening_after_more y [] s = refl
    opening_after_more y (t ∷ ss) s = opening_after_more (next_opening m k y t) ss s

module _
    {Site Cell Cells Partition Content Rest Line Event Reply Change KeptPartition KeptCell KeptCells
    : Type 0}
    (m : Machine Site Cell Cells Partition Content Rest Line Event Reply Change)
    (k : Keeping Site Cell Cells Partition Content Rest Change KeptPartition KeptCell KeptCells)
    (batch : ℕ) (x : OpeningOf m k) where
  pub times_zero : (b : ℕ) → b * 0 ≡ 0
  times_zero b = omega arith

  pub with_last_is : (ls : List Line) (o : Option Line) → (ks : List Line) × (with_interrupted ls o ≡ ls ++ ks)
  with_last_is ls None = ([], sym (append-nil ls))
  with_last_is ls (Some l) = (l ∷ [], refl)

  pub whole_batches : (r : Course Line) (batches : ℕ) → length r.answered ≡ batch * batches → length r.waiting < batch → length r.answered ≡ batch * (length (executed_lines r) / batch)
  whole_batches r batches whole short =
      let swap : batch * batches ≡ batches * batch = omega arith in
      let sum : length (executed_lines r) ≡ batches * batch + length r.waiting = omega (arith, length-append r.answered r.waiting, whole, swap) in
      whole ∙ ap (λ j. batch * j) (sym (ap (λ j. j / batch) sum ∙ div-mul-add batches batch (length r.waiting) short))

  -- what may be kept is good
  pub admissible_stretch : (o : OpeningOf m k) (r : Course Line) (batches : ℕ) → length r.answered ≡ batch * batches → length r.waiting < batch → (d : DurableOf k) (n : ℕ) → MayKeep m k batch o r d n
      → IsAdmissibleStretch m k batch o (stretch_of r n) × (d ≡ (next_opening m k o (stretch_of r n)).state)
  unfolding next_durable
  admissible_stretch o r batches whole short d n (inl at) =
      let w = begins m k o in
      let more = with_last_is (executed_lines r) (interrupted_line r.downs) in
      let all : with_interrupted (executed_lines r) (interrupted_line r.downs) ≡ r.answered ++ (r.waiting ++ more.0) = more.1 ∙ append_assoc r.answered r.waiting more.0 in
      let mades = ap (all_changes m w) all ∙ all_changes_append m w r.answered (r.waiting ++ more.0) in
      let number : n ≡ length (all_changes m w r.answered) = omega (arith, at.1) in
      let front = ap (λ i. take i (all_changes m w (with_interrupted (executed_lines r) (interrupted_line r.downs)))) number ∙ ap (take (length (all_changes m w r.answered))) mades ∙ take-append_seam (all_changes m w r.answered) _ in
      ((refl, whole_batches r batches whole short, inl (number ∙ ap (λ ls. length (all_changes m w ls)) (sym (take-append_seam r.answered r.waiting)))), at.0 ∙ ap (λ ms. apply_all k ms o.state) (sym front))
  admissible_stretch o r batches whole short d n (inr one) =
      let w = begins m k o in
      let all : with_interrupted (executed_lines r) (interrupted_line r.downs) ≡ executed_lines r ++ one.0 ∷ [] = ap (with_interrupted (executed_lines r)) one.1 in
      let number : n ≡ length (all_changes m w (executed_lines r ++ one.0 ∷ [])) = omega (arith, one.3.1) in
      let same = ap (all_changes m w) all in
      let front = ap (λ i. take i (all_changes m w (with_interrupted (executed_lines r) (interrupted_line r.downs)))) number ∙ ap (take (length (all_changes m w (executed_lines r ++ one.0 ∷ [])))) same ∙ take-length _ in
      ((refl, whole_batches r batches whole short, inr (subst (λ l. EndsBatch batch (stretch_of r n).epoch l) (sym one.1) one.2, number ∙ sym (ap length same))), one.3.0 ∙ ap (λ ms. apply_all k ms o.state) (sym front))

  pub admissible_more : (y : OpeningOf m k) (ss : List (Stretch Line)) (s : Stretch Line) → AreAdmissible m k batch y ss → IsAdmissibleStretch m k batch (opening_after m k y ss) s → AreAdmissible m k batch y (ss ++ s ∷ [])
  admissible_more y [] s g h = (h, tt)
  admissible_more y (t ∷ ss) s g h = (g.0, admissible_more (next_opening m k y t) ss s g.1 h)

  pub reopened_stands : (o : OpeningOf m k) (r : Course Line) (n : ℕ) (rest : Rest) (d : DurableOf k) → k.rest_again rest ≡ k.rest_again (world_after m (begins m k o) (executed_lines r)).rest → d ≡ (next_opening m k o (stretch_of r n)).state
      → reopened m k rest d ≡ stands m k (next_opening m k o (stretch_of r n)) (reopen r n)
  unfolding reopened stands
  reopened_stands o r n rest d is_rest is_state i =
      let opened : WorldOf m = record {
        partition = λ s. k.partition_again s ((is_state i).partition s);
        cells = k.cells_again (is_state i).cells;
        rest = is_rest i;
      } in
      record { world = opened; base = record { state = is_state i; count = 0 }; pending = []; held = []; up = true }

  -- opened again
  pub on_reopened : (r : Course Line) (kept : ℕ) (d : DurableOf k) (a b : SeenOf m k) (may may' : MayFind m k)
      → 0 < batch → IsOn m k batch x r a may → may d kept → b ≡ reopened m k a.world.rest d → AtBase b.base may' → IsOn m k batch x (reopen r kept) b may'
  on_reopened r kept d a b may may' some on left is at_base =
      let g = admissible_stretch (last_opening m k x r) r on.batches on.whole on.short d kept (on.images d kept left) in
      let o = opening_after_more m k x r.closed (stretch_of r kept) in
      let same : b ≡ stands m k (last_opening m k x (reopen r kept)) (reopen r kept) = is ∙ reopened_stands (last_opening m k x r) r kept a.world.rest d on.rest g.1 ∙ ap (λ p. stands m k p (reopen r kept)) (sym o) in
      record {
        admissible = admissible_more x r.closed (stretch_of r kept) on.admissible g.0;
        batches = 0;
        whole = omega arith;
        short = some;
        rest = world_rest m k (last_opening m k x (reopen r kept)) (reopen r kept) b same;
        up = λ e. (refl, same);
        images = λ d n left. inl (subst (λ s. IsAt s d n) (ap (λ s. s.base) same ∙ base_is m k (last_opening m k x (reopen r kept)) (reopen r kept)) (at_base d n left));
      }

  pub first : reopened m k x.rest x.state ≡ stands m k x (empty_course)
  unfolding reopened stands
  first = refl

  -- opened at first
  pub on_opened : (b : SeenOf m k) (may' : MayFind m k)
      → 0 < batch → b ≡ reopened m k x.rest x.state → AtBase b.base may' → IsOn m k batch x (empty_course) b may'
  on_opened b may' some is at_base =
      let same : b ≡ stands m k x (empty_course) = is ∙ first in
      record {
        admissible = tt;
        batches = 0;
        whole = sym (times_zero batch);
        short = some;
        rest = world_rest m k x (empty_course) b same;
        up = λ e. (refl, same);
        images = λ d n left. inl (subst (λ s. IsAt s d n) (ap (λ s. s.base) same ∙ base_is m k x (empty_course)) (at_base d n left));
      }

  -- a run whose waiting lines are lost was not committed
  not_committed : (r : Course Line) → ◌≡◌ {A = Bool} false true → r.downs ≡ []
  not_committed r wrong = absurd (never wrong)
    where
      never : ◌≡◌ {A = Bool} false true → ⊥
      never wrong = cc

  -- a run that ends here has a good history: what waits is lost
  pub ends_lost : (r : Course Line) (a : SeenOf m k) (may : MayFind m k) → IsOn m k batch x r a may → IsAdmissible m k batch x (history_of m k x false r)
  ends_lost r a may on = (on.admissible, (refl, not_committed r, whole_batches r on.batches on.whole on.short, omega (arith, ap (λ ls. length (all_changes m (begins m k (last_opening m k x r)) ls)) (take-append_seam r.answered r.waiting))))

  -- or was committed
  pub ends_answered : (r : Course Line) (a : SeenOf m k) (may : MayFind m k) → r.downs ≡ [] → IsOn m k batch x r a may → IsAdmissible m k batch x (history_of m k x true (answer_all r))
  ends_answered r a may none on = (on.admissible, (refl, (λ e. none), sym (ap length (append-nil (executed_lines r))), omega (arith, ap (λ ls. length (all_changes m (begins m k (last_opening m k x r)) ls)) (take-append_seam (executed_lines r) []))))

  -- what a restart might find once all lines are answered, the store may stand for at the end
  pub flushed : (r : Course Line) (d : DurableOf k) (n : ℕ) → MayKeep m k batch x (answer_all r) d n → MayEnd m k batch x r d n
  flushed r d n (inl at) = inr at
  flushed r d n (inr tried) =
      let lines : executed_lines r ++ [] ≡ executed_lines r = append-nil (executed_lines r) in
      let whole : (length (executed_lines r) + 1) % batch ≡ 0 = subst (λ ls. (length ls + 1) % batch ≡ 0) lines tried.2 in
      let at : IsAt (base_of m k x (executed_lines r ++ tried.0 ∷ [])) d n = subst (λ ls. IsAt (base_of m k x (ls ++ tried.0 ∷ [])) d n) lines tried.3 in
      inl (inr (tried.0, tried.1, whole, at))
