-- Which changes a restart may find where lines are committed in batches, worked out by hand over the
-- example of `unwinding`. A change that waits for its batch is kept by no restart but that behind a
-- line which was to end the batch, and a line that ends its batch does not wait.
-- Source: none; no standard speaks of batches.
use Rattle.std.proofs.Common.{◌≡◌, ℕ, true, false, List, [], ◌∷◌, refl, inl, inr, arith}
use Rattle.unwinding.specs.declared.example.Site.{Site}
use Rattle.unwinding.specs.declared.example.Site.TheVariants.{First, Second}
use Rattle.unwinding.specs.declared.example.Event.TheVariants.{Read, Write}
use Rattle.unwinding.specs.Admissible.{Acts, IsAdmissibleEnd, IsAdmissibleStretch, Reopens, Step, Stretch, interrupted_line}
use Rattle.unwinding.specs.Course.{Course, answer_all, course_steps, down_one, empty_course, reopen, wait}
use Rattle.unwinding.specs.CourseSteps.{IsOn, MayFind, MayKeep, SeenOf, base_of}
use Rattle.unwinding.specs.Durable.{Durable, line_changes}
use Rattle.unwinding.specs.Epochs.{Opening}
use Rattle.unwinding.specs.Example.{Cell, Line}
use Rattle.unwinding.specs.ExampleSetting.{keeping, machine}
use Rattle.unwinding.specs.World.{world_step}

-- ---- names

-- a line that writes a text, which is one durable change
abbrev writes : ℕ → Line
writes text = record { site = First; event = Write text }

-- a line that reads, which has none
abbrev reads : Line
reads = record { site = Second; event = Read }

-- where a run begins that finds nothing durable
abbrev begins : Opening ℕ (Durable Site ℕ (Cell → ℕ))
begins = record { rest = 0; state = record { partition = λ s. 0; cells = λ c. 0 } }

-- lines were executed, and so many of them acknowledged; then these met a device fault; and the
-- restart found so many changes
abbrev stretch : List Line → ℕ → List (Step Line) → ℕ → Stretch Line
stretch executed acknowledged downs kept =
    record {
      epoch = record {
        executed = executed;
        interrupted = interrupted_line downs;
        acknowledged = acknowledged;
        kept = kept;
      };
      downs = downs;
    }

-- ---- what a restart may find, in batches of two

-- the first line waits for its batch, and the restart loses its change
waiting_is_lost : IsAdmissibleStretch machine keeping 2 begins (stretch (writes 1 ∷ []) 0 [] 0)
unfolding world_step line_changes machine keeping
waiting_is_lost = (refl, refl, inl refl)

waiting_is_not_kept : IsAdmissibleStretch machine keeping 2 begins (stretch (writes 1 ∷ []) 0 [] 1) → ⊥
unfolding world_step line_changes machine keeping
waiting_is_not_kept is = elim is.2 [ inl e ↦ cc | inr e ↦ absurd e.0 ]

-- nor is it kept where the restart itself met a fault first
failed_restart : IsAdmissibleStretch machine keeping 2 begins (stretch (writes 1 ∷ []) 0 (Reopens ∷ []) 1) → ⊥
unfolding world_step line_changes machine keeping
failed_restart is = elim is.2 [ inl e ↦ cc | inr e ↦ absurd e.0 ]

-- the second line ends the batch, and met a fault: both changes are there, or none
both_are_lost : IsAdmissibleStretch machine keeping 2 begins (stretch (writes 1 ∷ []) 0 (Acts (writes 2) ∷ []) 0)
unfolding world_step line_changes machine keeping
both_are_lost = (refl, refl, inl refl)

both_are_kept : IsAdmissibleStretch machine keeping 2 begins (stretch (writes 1 ∷ []) 0 (Acts (writes 2) ∷ []) 2)
unfolding world_step line_changes machine keeping
both_are_kept = (refl, refl, inr (refl, refl))

one_is_not_kept : IsAdmissibleStretch machine keeping 2 begins (stretch (writes 1 ∷ []) 0 (Acts (writes 2) ∷ []) 1) → ⊥
unfolding world_step line_changes machine keeping
one_is_not_kept is = elim is.2 [ inl e ↦ cc | inr e ↦ cc ]

-- the third line ends no batch: its own change is not kept, whatever became of the call
third_is_lost : IsAdmissibleStretch machine keeping 2 begins (stretch (writes 1 ∷ writes 2 ∷ []) 2 (Acts (writes 3) ∷ []) 2)
unfolding world_step line_changes machine keeping
third_is_lost = (refl, refl, inl refl)

third_is_not_kept : IsAdmissibleStretch machine keeping 2 begins (stretch (writes 1 ∷ writes 2 ∷ []) 2 (Acts (writes 3) ∷ []) 3) → ⊥
unfolding world_step line_changes machine keeping
third_is_not_kept is = elim is.2 [ inl e ↦ cc | inr e ↦ cc ]

-- a change that was acknowledged is never lost
acknowledged_is_kept : IsAdmissibleStretch machine keeping 2 begins (stretch (writes 1 ∷ writes 2 ∷ []) 2 [] 1) → ⊥
unfolding world_step line_changes machine keeping
acknowledged_is_kept is = elim is.2 [ inl e ↦ cc | inr e ↦ cc ]

-- ---- how many lines are acknowledged, in batches of two

-- a line that ends its batch does not wait
ended_batch_waits : IsAdmissibleStretch machine keeping 2 begins (stretch (writes 1 ∷ writes 2 ∷ []) 0 [] 0) → ⊥
ended_batch_waits is = let never = is.1 in cc

-- and one that ends none does
open_batch_is_told : IsAdmissibleStretch machine keeping 2 begins (stretch (writes 1 ∷ []) 1 [] 1) → ⊥
open_batch_is_told is = let never = is.1 in cc

-- lines without a change count for their batch, too
reading_ends_a_batch : IsAdmissibleStretch machine keeping 2 begins (stretch (writes 1 ∷ reads ∷ []) 2 [] 1)
unfolding world_step line_changes machine keeping
reading_ends_a_batch = (refl, refl, inl refl)

-- ---- the end of a run, in batches of two

-- where the commit at the end succeeded, the line that waited is acknowledged, and its change there
end_is_told : IsAdmissibleEnd machine keeping 2 begins true (stretch (writes 1 ∷ []) 1 [] 1)
unfolding world_step line_changes machine keeping
end_is_told = (refl, (λ committed. refl), refl, refl)

end_is_not_told : IsAdmissibleEnd machine keeping 2 begins true (stretch (writes 1 ∷ []) 0 [] 0) → ⊥
end_is_not_told is = let never = is.2 in cc

-- where it did not, that line is lost
end_is_lost : IsAdmissibleEnd machine keeping 2 begins false (stretch (writes 1 ∷ []) 0 [] 0)
unfolding world_step line_changes machine keeping
end_is_lost = (refl, (λ (never : ◌≡◌ false true). cc), refl, refl)

lost_end_is_told : IsAdmissibleEnd machine keeping 2 begins false (stretch (writes 1 ∷ []) 1 [] 1) → ⊥
lost_end_is_told is = let never = is.2 in cc

-- no commit at the end succeeds behind a line that met a device fault
down_at_the_end : IsAdmissibleEnd machine keeping 2 begins true (stretch (writes 1 ∷ []) 1 (Acts (writes 2) ∷ []) 1) → ⊥
down_at_the_end is = let never = is.1 refl in cc

-- ---- the same of a run that is under way

-- the first line waits
abbrev one_waits : Course Line
one_waits = wait empty_course (writes 1)

its_steps : course_steps one_waits ≡ Acts (writes 1) ∷ []
its_steps = refl

-- a restart now finds nothing
finds_nothing : (d : Durable Site ℕ (Cell → ℕ)) (n : ℕ) → MayKeep machine keeping 2 begins one_waits d n → n ≡ 0
finds_nothing d n (inl at) = at.1
finds_nothing d n (inr tried) = let never = tried.1 in cc

-- behind a second one that met a fault it may find both changes
abbrev second_down : Course Line
second_down = down_one one_waits (Acts (writes 2))

finds_both : MayKeep machine keeping 2 begins second_down (base_of machine keeping begins (writes 1 ∷ writes 2 ∷ [])).state 2
unfolding world_step line_changes machine keeping
finds_both = inr (writes 2, refl, refl, (refl, refl))

-- in batches of three that line ends none, and it finds nothing
finds_none_of_three : (d : Durable Site ℕ (Cell → ℕ)) (n : ℕ) → MayKeep machine keeping 3 begins second_down d n → n ≡ 0
finds_none_of_three d n (inl at) = at.1
finds_none_of_three d n (inr tried) = let never = tried.2 in cc

-- no run in batches of two has two lines that wait
two_wait : (a : SeenOf machine keeping) (may : MayFind machine keeping) → IsOn machine keeping 2 begins (wait one_waits (writes 2)) a may → ⊥
two_wait a may on =
    let short = on.short in
    omega (arith, short)

-- all lines that wait are answered together, in their order
all_answered : answer_all (wait one_waits (writes 2)) ≡ record { closed = []; answered = writes 1 ∷ writes 2 ∷ []; waiting = []; downs = [] }
all_answered = refl

-- a restart closes the stretch, with the lines that waited among the executed ones
reopened : reopen second_down 2 ≡ record { closed = stretch (writes 1 ∷ []) 0 (Acts (writes 2) ∷ []) 2 ∷ []; answered = []; waiting = []; downs = [] }
reopened = refl
