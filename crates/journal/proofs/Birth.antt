-- What a cut leaves while a store is made.
use Rattle.std.proofs.Common.{◌≡◌, inl, inr, ◌⊎◌, ℕ, suc, ◌+◌, ◌≤◌, ◌<◌, false, List, [], ◌∷◌, ◌++◌, length, slice_index, arith, refl, ◌∙◌, ap, subst, length-append}
use Rattle.std.specs.Prelude.{replicate}
use Rattle.std.proofs.lemmas.Bool.{cases_eq}
use Rattle.disk_model.specs.Disk.{Holds, Written}
use Rattle.journal.specs.Append.{Same, IsAppending}
use Rattle.journal.specs.Frame.{IsSecond}
use Rattle.journal.specs.Store.{IsOpen, FramesAt, slot_bytes, magic, version_bytes, Head, IsStore, IsUnborn, new_head}
use Rattle.journal.proofs.Ranges.{torn_before}
use Rattle.journal.proofs.Commit.{holds_front, holds_back}

module _ (digest file : List ℕ) (size : length digest ≡ 32) (stands : Holds file 1 (new_head digest)) where
  one : List ℕ
  one = magic ++ version_bytes

  two : List ℕ
  two = magic ++ version_bytes ++ digest

  three : List ℕ
  three = magic ++ version_bytes ++ digest ++ (1 ∷ slot_bytes 1 128)

  four : List ℕ
  four = magic ++ version_bytes ++ digest ++ (1 ∷ slot_bytes 1 128) ++ replicate 17 0

  five : List ℕ
  five = magic ++ version_bytes ++ digest ++ (1 ∷ slot_bytes 1 128) ++ replicate 17 0 ++ replicate 50 0

  len_two : length two ≡ 43
  unfolding two
  len_two = omega (arith, length-append (magic ++ version_bytes) digest, size)

  len_three : length three ≡ 60
  unfolding two three
  len_three = omega (arith, length-append two (1 ∷ slot_bytes 1 128), len_two)

  len_four : length four ≡ 77
  unfolding three four
  len_four = omega (arith, length-append three (replicate 17 0), len_three)

  len_five : length five ≡ 127
  unfolding four five
  len_five = omega (arith, length-append four (replicate 50 0), len_four)

  at_five : Holds file 1 five
  unfolding five
  at_five = holds_front file 1 five (0 ∷ []) stands

  at_four : Holds file 1 four
  unfolding four five
  at_four = holds_front file 1 four (replicate 50 0) at_five

  at_three : Holds file 1 three
  unfolding three four
  at_three = holds_front file 1 three (replicate 17 0) at_four

  at_two : Holds file 1 two
  unfolding two three
  at_two = holds_front file 1 two (1 ∷ slot_bytes 1 128) at_three

  at_one : Holds file 1 one
  unfolding one two
  at_one = holds_front file 1 one digest at_two

  moved : (at place : ℕ) (bytes : List ℕ) → at ≡ place → Holds file at bytes → Holds file place bytes
  moved at place bytes is = subst (λ (k : ℕ). Holds file k bytes) is

  first_of_slot : (at b : ℕ) (bytes : List ℕ) → Holds file at (b ∷ bytes) → (at < length file) × (slice_index file at ≡ b)
  first_of_slot at b bytes h = (omega (arith, h.within), (let p : at ≡ at + 0 = omega arith in ap (λ (k : ℕ). slice_index file k) p) ∙ h.each 0 (omega arith))

  one_zero : (n : ℕ) → n ≡ 1 → n ≡ 0 → ⊥
  one_zero n is e = omega arith

  version : Holds file 8 (2 ∷ replicate 3 0)
  unfolding one
  version = holds_back file 1 magic version_bytes at_one

  pub is_second : IsSecond file
  is_second first = two_one (slice_index file 8) (first_of_slot 8 2 (replicate 3 0) version).1 first
    where
      two_one : (n : ℕ) → n ≡ 2 → n ≡ 1 → ⊥
      two_one n is e = omega arith

  pub born_parts : IsOpen file 0 → Head digest file false 1 128 × FramesAt file 128 []
  unfolding one two three four five
  born_parts gate =
      let slot0 : Holds file 44 (1 ∷ slot_bytes 1 128) = moved (1 + length two) 44 (1 ∷ slot_bytes 1 128) (omega (arith, len_two)) (holds_back file 1 two (1 ∷ slot_bytes 1 128) at_three) in
      let slot1 : Holds file 61 (replicate 17 0) = moved (1 + length three) 61 (replicate 17 0) (omega (arith, len_three)) (holds_back file 1 three (replicate 17 0) at_four) in
      let last : Holds file 128 (0 ∷ []) = moved (1 + length five) 128 (0 ∷ []) (omega (arith, len_five)) (holds_back file 1 five (0 ∷ []) stands) in
      let open0 = first_of_slot 44 1 (slot_bytes 1 128) slot0 in (
        record {
          gate = gate;
          name = holds_front file 1 magic version_bytes at_one;
          padding = holds_back file 8 (2 ∷ []) (replicate 3 0) version;
          kept_size = size;
          kept_at = holds_back file 1 (magic ++ version_bytes) digest at_two;
          slot = (open0.0, one_zero (slice_index file 44) open0.1);
          slot_says = holds_back file 44 (1 ∷ []) (slot_bytes 1 128) slot0;
          older = inl (first_of_slot 61 0 (replicate 16 0) slot1);
          zero = moved (1 + length four) 78 (replicate 50 0) (omega (arith, len_four)) (holds_back file 1 four (replicate 50 0) at_five);
        },
        first_of_slot 128 0 [] last,
      )

  pub born : IsOpen file 0 → IsStore digest file []
  born gate =
      let parts = born_parts gate in
      record { kept = digest; live = false; number = 1; begin = 128; head = parts.0; from = omega arith; fits = omega arith; frames_at = parts.1; sound = tt; under = refl }

-- the images while the head is appended behind the file's first byte
pub birth : (digest c file : List ℕ) → length digest ≡ 32 → 1 ≤ length c → slice_index c 0 ≡ 0 → IsAppending 0 (new_head digest) c file → IsUnborn file ⊎ IsStore digest file []
birth digest c file size some shut (inl torn) =
    let same : Same 0 1 c file = torn_before 1 (length (new_head digest)) 1 c file (omega arith) some torn in
    inl (inr (same.each 0 (omega arith) (omega arith) ∙ shut))
birth digest c file size some shut (inr gated) = elim (cases_eq (slice_index file 0) 0) [
  | inl is_shut ↦ inl (inr is_shut)
  | inr is_open ↦ inr (born digest file size gated.1 (omega (arith, gated.1.within), is_open))
]

-- once it is appended
pub opened : (digest c file : List ℕ) → Written 0 (1 ∷ new_head digest) c file → IsOpen file 0 × Holds file 1 (new_head digest)
opened digest c file w = ((omega (arith, w.len), is_one (slice_index file 0) (w.each 0 (omega arith))), record { within = omega (arith, w.len); each = λ i below. shifted i below })
  where
    is_one : (n : ℕ) → n ≡ 1 → n ≡ 0 → ⊥
    is_one n is e = omega arith

    shifted : (i : ℕ) → i < length (new_head digest) → slice_index file (1 + i) ≡ slice_index (new_head digest) i
    shifted i below = (let p : 1 + i ≡ 0 + suc i = omega arith in ap (λ (k : ℕ). slice_index file k) p) ∙ w.each (suc i) (omega arith)

-- how long a new store's head is, with its closed gate
pub head_long : (digest : List ℕ) → length digest ≡ 32 → length (new_head digest) ≡ 128
head_long digest size =
    let two = magic ++ version_bytes ++ digest in
    let three = two ++ (1 ∷ slot_bytes 1 128) in
    let four = three ++ replicate 17 0 in
    let five = four ++ replicate 50 0 in
    omega (arith, size, length-append (magic ++ version_bytes) digest, length-append two (1 ∷ slot_bytes 1 128), length-append three (replicate 17 0), length-append four (replicate 50 0), length-append five (0 ∷ []))
