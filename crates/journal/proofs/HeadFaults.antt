-- A head has one first fault, and none where it is right.
use Rattle.std.proofs.Common.{◌≡◌, inl, inr, ℕ, ◌^◌, ◌<◌, ◌≤◌, Bool, true, false, List, length, arith, sym, ◌∙◌, ap}
use Rattle.std.specs.Prelude.{◌⊎◌}
use Rattle.journal.specs.Store.{IsClosed, Head}
use Rattle.journal.specs.HeadFault.{IsLive, IsSlotFault, IsHeadFault, begin_at}
use Rattle.journal.proofs.Unique.{live_unique, live_of_head}

not_closed : (file : List ℕ) (live : Bool) (number begin : ℕ) → IsClosed file 44 → IsClosed file 61 → IsLive file live number begin → ⊥
not_closed file true number begin first second is = is.slot.1 second.1
not_closed file false number begin first second is = is.slot.1 first.1

slot_fault : (file : List ℕ) (a b : ℕ) → IsSlotFault file a → IsSlotFault file b → a ≡ b
slot_fault file a b (inl p) (inl q) = p.2 ∙ sym q.2
slot_fault file a b (inl p) (inr (inl q)) = absurd (q.0.1 p.0.1)
slot_fault file a b (inl p) (inr (inr (inl q))) = absurd (not_closed file q.0 q.1 q.2 p.0 p.1 q.3)
slot_fault file a b (inl p) (inr (inr (inr q))) = absurd (not_closed file q.0 q.1 q.2 p.0 p.1 q.3)
slot_fault file a b (inr (inl p)) (inl q) = absurd (p.0.1 q.0.1)
slot_fault file a b (inr (inl p)) (inr (inl q)) = p.3 ∙ sym q.3
slot_fault file a b (inr (inl p)) (inr (inr (inl q))) = absurd (p.2 q.0 q.1 q.2 q.3)
slot_fault file a b (inr (inl p)) (inr (inr (inr q))) = absurd (p.2 q.0 q.1 q.2 q.3)
slot_fault file a b (inr (inr (inl p))) (inl q) = absurd (not_closed file p.0 p.1 p.2 q.0 q.1 p.3)
slot_fault file a b (inr (inr (inl p))) (inr (inl q)) = absurd (q.2 p.0 p.1 p.2 p.3)
slot_fault file a b (inr (inr (inl p))) (inr (inr (inl q))) = p.5 ∙ sym q.5
slot_fault file a b (inr (inr (inl p))) (inr (inr (inr q))) = absurd (p.4 q.4)
slot_fault file a b (inr (inr (inr p))) (inl q) = absurd (not_closed file p.0 p.1 p.2 q.0 q.1 p.3)
slot_fault file a b (inr (inr (inr p))) (inr (inl q)) = absurd (q.2 p.0 p.1 p.2 p.3)
slot_fault file a b (inr (inr (inr p))) (inr (inr (inl q))) = absurd (q.4 p.4)
slot_fault file a b (inr (inr (inr p))) (inr (inr (inr q))) = let same = live_unique file p.0 q.0 p.1 q.1 p.2 q.2 p.5 q.5 p.3 q.3 in p.7 ∙ ap (λ (k : Bool). begin_at k) same.0 ∙ sym q.7

pub head_fault : (file : List ℕ) (a b : ℕ) → IsHeadFault file a → IsHeadFault file b → a ≡ b
head_fault file a b (inl p) (inl q) = p.1 ∙ sym q.1
head_fault file a b (inl p) (inr (inl q)) = absurd (omega (arith, p.0, q.0))
head_fault file a b (inl p) (inr (inr (inl q))) = absurd (omega (arith, p.0, q.0))
head_fault file a b (inl p) (inr (inr (inr q))) = absurd (omega (arith, p.0, q.0.long))
head_fault file a b (inr (inl p)) (inl q) = absurd (omega (arith, q.0, p.0))
head_fault file a b (inr (inl p)) (inr (inl q)) = p.2 ∙ sym q.2
head_fault file a b (inr (inl p)) (inr (inr (inl q))) = absurd (p.1 q.1)
head_fault file a b (inr (inl p)) (inr (inr (inr q))) = absurd (p.1 q.0.name)
head_fault file a b (inr (inr (inl p))) (inl q) = absurd (omega (arith, q.0, p.0))
head_fault file a b (inr (inr (inl p))) (inr (inl q)) = absurd (q.1 p.1)
head_fault file a b (inr (inr (inl p))) (inr (inr (inl q))) = p.3 ∙ sym q.3
head_fault file a b (inr (inr (inl p))) (inr (inr (inr q))) = absurd (p.2 q.0.padding)
head_fault file a b (inr (inr (inr p))) (inl q) = absurd (omega (arith, q.0, p.0.long))
head_fault file a b (inr (inr (inr p))) (inr (inl q)) = absurd (q.1 p.0.name)
head_fault file a b (inr (inr (inr p))) (inr (inr (inl q))) = absurd (q.2 p.0.padding)
head_fault file a b (inr (inr (inr p))) (inr (inr (inr q))) = slot_fault file a b p.1 q.1

within : (x y n : ℕ) → x ≡ y → 128 ≤ x → x < n → (y < 128) ⊎ (n ≤ y) → ⊥
within x y n is from below (inl low) = omega arith
within x y n is from below (inr high) = omega arith

slots_right : (kept file : List ℕ) (live : Bool) (number begin offset : ℕ) → Head kept file live number begin → 128 ≤ begin → begin < length file → begin < 2 ^ 64 → IsSlotFault file offset → ⊥
slots_right kept file live number begin offset h from below small (inl p) = not_closed file live number begin p.0 p.1 (live_of_head kept file live number begin h)
slots_right kept file live number begin offset h from below small (inr (inl p)) = p.2 live number begin (live_of_head kept file live number begin h)
slots_right kept file live number begin offset h from below small (inr (inr (inl p))) = p.4 h.zero
slots_right kept file live number begin offset h from below small (inr (inr (inr p))) =
    let same = live_unique file live p.0 number p.1 begin p.2 small p.5 (live_of_head kept file live number begin h) p.3 in
    within begin p.2 (length file) same.1 from below p.6

-- a right head, with a begin where a region may be, has no fault
pub head_right : (kept file : List ℕ) (live : Bool) (number begin offset : ℕ) → Head kept file live number begin → 128 ≤ begin → begin < length file → begin < 2 ^ 64 → IsHeadFault file offset → ⊥
head_right kept file live number begin offset h from below small (inl p) = omega (arith, p.0, from, below)
head_right kept file live number begin offset h from below small (inr (inl p)) = p.1 h.name
head_right kept file live number begin offset h from below small (inr (inr (inl p))) = p.2 h.padding
head_right kept file live number begin offset h from below small (inr (inr (inr p))) = slots_right kept file live number begin offset h from below small p.1
