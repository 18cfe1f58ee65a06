-- What an agent stands for after a line, a commit and an opening is what the course says.
use Rattle.std.proofs.Common.{◌≡◌, ◌+◌, true, List, [], ◌∷◌, ◌++◌, length, refl, sym, ap, ◌∙◌}
use Rattle.std.proofs.Common.{arith}
use Rattle.std.proofs.lemmas.List.{length-append}
use Rattle.unwinding.specs.Machine.{Machine}
use Rattle.unwinding.specs.World.{world_after}
use Rattle.unwinding.specs.Durable.{Keeping, DurableChange, DurableOf}
use Rattle.unwinding.specs.Epochs.{all_changes}
use Rattle.unwinding.specs.Admissible.{OpeningOf}
use Rattle.unwinding.specs.Course.{Base, Course, executed_lines, wait, answer_all}
use Rattle.unwinding.specs.CourseSteps.{SeenOf, forward, holding, committed, begins, base_of}
use Rattle.unwinding.specs.CourseSteps.{stands}
use Rattle.unwinding.proofs.Fronts.{world_append, all_changes_append, replies_append}
use Rattle.unwinding.proofs.Fronts.{length_replies, changes_one, apply_append}

module _
    {Site Cell Cells Partition Content Rest Line Event Reply Change KeptPartition KeptCell KeptCells
    : Type 0}
    (m : Machine Site Cell Cells Partition Content Rest Line Event Reply Change)
    (k : Keeping Site Cell Cells Partition Content Rest Change KeptPartition KeptCell KeptCells)
  where
    pub forward_append : (xs ys : List (DurableChange Site Change)) (b : Base (DurableOf k)) → forward m k ys (forward m k xs b) ≡ forward m k (xs ++ ys) b
    forward_append xs ys b =
        let states = apply_append k xs ys b.state in
        let counts : b.count + length (xs ++ ys) ≡ b.count + length xs + length ys = omega (arith, length-append xs ys) in
        λ i. record { state = sym states i; count = sym counts i }

    -- a line that waits
    pub holding_stands : (o : OpeningOf m k) (r : Course Line) (l : Line) → holding m k (stands m k o r) l ≡ stands m k o (wait r l)
    unfolding holding stands
    holding_stands o r l =
        let v = world_after m (begins m k o) r.answered in
        let worlds = sym (world_append m v r.waiting (l ∷ [])) in
        let mades = sym (changes_one m v r.waiting l) in
        let tolds = sym (replies_append m v r.waiting (l ∷ [])) in
        λ i. record { world = worlds i; base = base_of m k o r.answered; pending = mades i; held = tolds i; up = true }

    pub base_append : (o : OpeningOf m k) (ls ks : List Line) → forward m k (all_changes m (world_after m (begins m k o) ls) ks) (base_of m k o ls) ≡ base_of m k o (ls ++ ks)
    base_append o ls ks = forward_append _ _ _ ∙ ap (λ ms. forward m k ms (record { state = o.state; count = 0 })) (sym (all_changes_append m (begins m k o) ls ks))

    -- a commit
    pub committed_stands : (o : OpeningOf m k) (r : Course Line) → committed m k (stands m k o r) ≡ stands m k o (answer_all r)
    unfolding committed stands
    committed_stands o r =
        let worlds = sym (world_append m (begins m k o) r.answered r.waiting) in
        let bases = base_append o r.answered r.waiting in
        λ i. record { world = worlds i; base = bases i; pending = []; held = []; up = true }

    pub length_held : (o : OpeningOf m k) (r : Course Line) (a : SeenOf m k) → a ≡ stands m k o r → length a.held ≡ length r.waiting
    unfolding stands
    length_held o r a is = ap (λ s. length s.held) is ∙ length_replies m _ r.waiting

    pub world_rest : (o : OpeningOf m k) (r : Course Line) (a : SeenOf m k) → a ≡ stands m k o r → k.rest_again a.world.rest ≡ k.rest_again (world_after m (begins m k o) (executed_lines r)).rest
    unfolding stands
    world_rest o r a is = ap (λ s. k.rest_again s.world.rest) is ∙ ap (λ w. k.rest_again w.rest) (sym (world_append m (begins m k o) r.answered r.waiting))

    pub base_is : (o : OpeningOf m k) (r : Course Line) → (stands m k o r).base ≡ base_of m k o r.answered
    unfolding stands
    base_is o r = refl

    pub pending_is : (o : OpeningOf m k) (r : Course Line) → (stands m k o r).pending ≡ all_changes m (world_after m (begins m k o) r.answered) r.waiting
    unfolding stands
    pending_is o r = refl
