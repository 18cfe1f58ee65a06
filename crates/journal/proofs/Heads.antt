-- A head from its parts, and its live slot.
use Rattle.std.proofs.Common.{◌≡◌, inl, inr, ℕ, ◌+◌, ◌%◌, ◌^◌, ◌≤◌, ◌<◌, Bool, true, false, List, length, slice_index, arith, refl}
use Rattle.std.specs.Prelude.{replicate, IsTrue, ◌↔◌}
use Rattle.std.proofs.lemmas.Bool.{cases_eq}
use Rattle.disk_model.specs.Disk.{Holds}
use Rattle.journal.specs.Store.{IsOpen, IsClosed, Head, IsOlder, slot_bytes}
use Rattle.journal.specs.HeadFault.{IsLive, IsFront}
use Rattle.journal.specs.ReaderAnswers.{IsNext, IsSlotRead, IsHeadRead}
use Rattle.journal.specs.declared.head.HeadRead.{HeadRead}
use Rattle.journal.specs.declared.head.HeadRead.TheVariants.{Live, Bad}
use Rattle.journal.proofs.Unique.{same_number}

true_false : (b : Bool) → IsTrue b → b ≡ false → ⊥
true_false b is not = cc

pub shut : (file : List ℕ) (at : ℕ) (b : Bool) → at < length file → (IsTrue b ↔ IsOpen file at) → b ≡ false → IsClosed file at
shut file at b there gate is = elim (cases_eq (slice_index file at) 0) [
  | inl zero ↦ (there, zero)
  | inr is_open ↦ absurd (true_false b (gate.1 (there, is_open)) is)
]

module _ (file : List ℕ) (first second : Bool) (a x b y : ℕ) (long : 129 ≤ length file)
    (first_gate : IsTrue first ↔ IsOpen file 44) (first_says : Holds file 45 (slot_bytes a x)) (second_gate : IsTrue second ↔ IsOpen file 61) (second_says : Holds file 62 (slot_bytes b y)) where
  second_older : (p q : Bool) → first ≡ p → second ≡ q → IsNext p a q b true → IsOpen file 61 × IsOlder file 44 b
  second_older true true e f next = (second_gate.0 f, inr (a, x, first_gate.0 e, next, first_says))
  second_older true false e f next = absurd (cc)
  second_older false true e f next = (second_gate.0 f, inl (shut file 44 first (omega arith) first_gate e))
  second_older false false e f next = absurd next

  first_older : (p q : Bool) → first ≡ p → second ≡ q → IsNext p a q b false → IsOpen file 44 × IsOlder file 61 a
  first_older true true e f next = (first_gate.0 e, inr (b, y, second_gate.0 f, next, second_says))
  first_older true false e f next = (first_gate.0 e, inl (shut file 61 second (omega arith) second_gate f))
  first_older false true e f next = absurd (cc)
  first_older false false e f next = absurd next

  pub second_live : IsNext first a second b true → IsLive file true b y
  second_live next = let o = second_older first second refl refl next in record { slot = o.0; says = second_says; older = o.1 }

  pub first_live : IsNext first a second b false → IsLive file false a x
  first_live next = let o = first_older first second refl refl next in record { slot = o.0; says = first_says; older = o.1 }

  pub any_live : (live : Bool) → IsNext first a second b live → (number : ℕ) × (begin : ℕ) × IsLive file live number begin
  any_live true next = (b, y, second_live next)
  any_live false next = (a, x, first_live next)

  -- the number of the live slot comes after that of the other one, where both are open
  comes_after : (at other n k begun was : ℕ) → n < 2 ^ 64 → k < 2 ^ 64 → Holds file (at + 1) (slot_bytes n begun) → IsOpen file other → Holds file (other + 1) (slot_bytes k was)
      → (number begin : ℕ) → Holds file (at + 1) (slot_bytes number begin) → IsOlder file other number → n ≡ (k + 1) % 2 ^ 64
  comes_after at other n k begun was small_n small_k says is_open other_says number begin live_says (inl closed) = absurd (is_open.1 closed.1)
  comes_after at other n k begun was small_n small_k says is_open other_says number begin live_says (inr o) =
      follows number o.0 (same_number file (at + 1) number n begin begun live_says says) (same_number file (other + 1) o.0 k o.1 was o.4 other_says) o.3
    where
      follows : (m l : ℕ) → m % 2 ^ 64 ≡ n % 2 ^ 64 → l % 2 ^ 64 ≡ k % 2 ^ 64 → m ≡ (l + 1) % 2 ^ 64 → n ≡ (k + 1) % 2 ^ 64
      follows m l one two is = omega (arith, small_n, small_k)

  -- a slot that is live by the file is so by its parts
  next_live : (small_a : a < 2 ^ 64) (small_b : b < 2 ^ 64) (p q : Bool) → first ≡ p → second ≡ q → (live : Bool) (number begin : ℕ) → IsLive file live number begin → IsNext p a q b live
  next_live small_a small_b true true e f true number begin is = comes_after 61 44 b a y x small_b small_a second_says (first_gate.0 e) first_says number begin is.says is.older
  next_live small_a small_b true true e f false number begin is = comes_after 44 61 a b x y small_a small_b first_says (second_gate.0 f) second_says number begin is.says is.older
  next_live small_a small_b true false e f true number begin is = absurd (true_false second (second_gate.1 is.slot) f)
  next_live small_a small_b true false e f false number begin is = refl
  next_live small_a small_b false true e f true number begin is = refl
  next_live small_a small_b false true e f false number begin is = absurd (true_false first (first_gate.1 is.slot) e)
  next_live small_a small_b false false e f true number begin is = true_false second (second_gate.1 is.slot) f
  next_live small_a small_b false false e f false number begin is = true_false first (first_gate.1 is.slot) e

  pub none_live : a < 2 ^ 64 → b < 2 ^ 64 → ((live : Bool) → IsNext first a second b live → ⊥) → (live : Bool) (number begin : ℕ) → IsLive file live number begin → ⊥
  none_live small_a small_b none live number begin is = none live (next_live small_a small_b first second refl refl live number begin is)

  -- where a slot is open and none is live, both are open
  both : (p q : Bool) → first ≡ p → second ≡ q → ((p ≡ false) × (q ≡ false) → ⊥) → ((live : Bool) → IsNext p a q b live → ⊥) → IsOpen file 44 × IsOpen file 61
  both true true e f some none = (first_gate.0 e, second_gate.0 f)
  both true false e f some none = absurd (none false refl)
  both false true e f some none = absurd (none true refl)
  both false false e f some none = absurd (some (refl, refl))

  pub both_open : ((first ≡ false) × (second ≡ false) → ⊥) → ((live : Bool) → IsNext first a second b live → ⊥) → IsOpen file 44 × IsOpen file 61
  both_open = both first second refl refl

-- the head of a front, a digest and a live slot
pub head_of_live : (kept file : List ℕ) (live : Bool) (number begin : ℕ) → IsOpen file 0 → IsFront file → length kept ≡ 32 → Holds file 12 kept → IsLive file live number begin → Holds file 78 (replicate 50 0) → Head kept file live number begin
head_of_live kept file live number begin gate front size at is zero = record {
  gate = gate;
  name = front.name;
  padding = front.padding;
  kept_size = size;
  kept_at = at;
  slot = is.slot;
  slot_says = is.says;
  older = is.older;
  zero = zero;
}

-- what the slots say is what the head says
pub head_read : (file : List ℕ) (read : HeadRead) → IsOpen file 0 → IsFront file → IsSlotRead file read → IsHeadRead file read
head_read file (Live live number begin) gate front is = (λ kept size at. head_of_live kept file live number begin gate front size at is.0 is.1, is.2, is.3)
head_read file (Bad offset) gate front is = inr (inr (inr (front, is)))
