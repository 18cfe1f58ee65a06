-- Numbers and frames that stand whole in a file.
use Rattle.std.proofs.Common.{◌≡◌, inl, inr, ◌+◌, ◌-◌, ◌<◌, ◌≤◌, ◌^◌, Bool, List, [], ◌∷◌, ◌++◌, ℕ, zero, suc, length, slice_index, get_or, true, arith, refl, sym, ap, subst}
use Rattle.std.specs.Int.{w64, to_le_bytes, from_le_bytes}
use Rattle.std.proofs.lemmas.Nat.{le_bytes_8}
use Rattle.disk_model.specs.Disk.{Holds}
use Rattle.journal.specs.Frame.{Frame, IsSecond, IsListed, frame_kind}
use Rattle.journal.specs.Store.{IsOpen}
use Rattle.journal.specs.Region.{IsRightKind, IsSized}
use Rattle.journal.specs.ReaderAnswers.{IsRead}
use Rattle.journal.specs.declared.fields.Read.TheVariants.{Whole}
use Rattle.journal.proofs.Whole.{whole, holds_join, bytes_at, bytes_long, bytes_hold}

-- eight bytes of a file
unfoldable pub eight : List ℕ → ℕ → List ℕ
eight file at =
    slice_index file at ∷ slice_index file (at + 1) ∷ slice_index file (at + 2) ∷ slice_index file (at + 3)
    ∷ slice_index file (at + 4) ∷ slice_index file (at + 5) ∷ slice_index file (at + 6) ∷ slice_index file (at + 7) ∷ []

bytes_below : (file : List ℕ) (at : ℕ) → ((i : ℕ) → slice_index file i < 256) → (i : ℕ) → get_or (eight file at) i 0 < 256
unfolding eight
bytes_below file at each zero = each at
bytes_below file at each (suc zero) = each (at + 1)
bytes_below file at each (suc (suc zero)) = each (at + 2)
bytes_below file at each (suc (suc (suc zero))) = each (at + 3)
bytes_below file at each (suc (suc (suc (suc zero)))) = each (at + 4)
bytes_below file at each (suc (suc (suc (suc (suc zero))))) = each (at + 5)
bytes_below file at each (suc (suc (suc (suc (suc (suc zero)))))) = each (at + 6)
bytes_below file at each (suc (suc (suc (suc (suc (suc (suc zero))))))) = each (at + 7)
bytes_below file at each (suc (suc (suc (suc (suc (suc (suc (suc i)))))))) = omega arith

holds_eight : (file : List ℕ) (at : ℕ) → at + 8 ≤ length file → Holds file at (eight file at)
unfolding eight
holds_eight file at there = record { within = there; each = each }
  where
    each : (i : ℕ) → i < 8 → slice_index file (at + i) ≡ slice_index (eight file at) i
    each zero below = let p : at + 0 ≡ at = omega arith in ap (λ (k : ℕ). slice_index file k) p
    each (suc zero) below = refl
    each (suc (suc zero)) below = refl
    each (suc (suc (suc zero))) below = refl
    each (suc (suc (suc (suc zero)))) below = refl
    each (suc (suc (suc (suc (suc zero))))) below = refl
    each (suc (suc (suc (suc (suc (suc zero)))))) below = refl
    each (suc (suc (suc (suc (suc (suc (suc zero))))))) below = refl
    each (suc (suc (suc (suc (suc (suc (suc (suc i)))))))) below = absurd (omega arith)

eight_long : (file : List ℕ) (at : ℕ) → length (eight file at) ≡ 8
unfolding eight
eight_long file at = refl

pub holds_number : (file : List ℕ) (at n : ℕ) → at + 8 ≤ length file → ((i : ℕ) → slice_index file i < 256) → n ≡ from_le_bytes w64 (eight file at) → Holds file at (to_le_bytes w64 n)
holds_number file at n there each is =
    let same : to_le_bytes w64 n ≡ eight file at = le_bytes_8 (eight file at) n (eight_long file at) (bytes_below file at each) is in
    subst (λ (l : List ℕ). Holds file at l) (sym same) (holds_eight file at there)

-- the number of eight bytes
pub number_of : (file : List ℕ) (at : ℕ) → ((i : ℕ) → slice_index file i < 256) → at + 8 ≤ length file → (n : ℕ) × (n < 2 ^ 64) × Holds file at (to_le_bytes w64 n)
unfolding eight
number_of file at each there =
    let n = from_le_bytes w64 (eight file at) in
    (n, omega (arith, each at, each (at + 1), each (at + 2), each (at + 3), each (at + 4), each (at + 5), each (at + 6), each (at + 7)), holds_number file at n there each refl)

-- a frame that is there whole, by the bytes of its digest and of its body
found : (file : List ℕ) (at size last list : ℕ) (fresh snapshot : Bool) (f : Frame) → f.snapshot ≡ snapshot → f.last ≡ last → length f.list ≡ list → length f.list + length f.body ≡ size → Holds file (at + 18) (f.list ++ f.body)
    → IsOpen file at → at + 18 + size ≤ length file → size < 2 ^ 64 → last < 2 ^ 64 → slice_index file (at + 1) ≡ frame_kind f → Holds file (at + 2) (to_le_bytes w64 last) → Holds file (at + 10) (to_le_bytes w64 size)
    → IsRightKind fresh f.snapshot f.body → IsListed file f → IsRead file at fresh (Whole snapshot last list size)
found file at size last list fresh snapshot f is_snapshot is_last is_list is_size holds is_open there small_size small_last kind last_at size_at right listed =
    let last_there = subst (λ (n : ℕ). Holds file (at + 2) (to_le_bytes w64 n)) (sym is_last) last_at in
    let size_there = subst (λ (n : ℕ). Holds file (at + 10) (to_le_bytes w64 n)) (sym is_size) size_at in (
      f,
      (is_open, whole file at f kind last_there size_there holds, right, omega (arith, there, is_size), omega (arith, is_last, small_last), omega (arith, is_size, small_size), listed),
      is_snapshot,
      is_last,
      is_list,
      is_size,
    )

-- changes, or a snapshot that names no list
pub plain : (file : List ℕ) (at size last : ℕ) (fresh snapshot : Bool) → IsSized file at size → size < 2 ^ 64 → last < 2 ^ 64 → slice_index file (at + 1) ≡ frame_kind (record { snapshot = snapshot; last = last; list = []; body = [] }) → Holds file (at + 2) (to_le_bytes w64 last)
    → ((body : List ℕ) → length body ≡ size → IsRightKind fresh snapshot body) → IsRead file at fresh (Whole snapshot last 0 size)
plain file at size last fresh snapshot sized small_size small_last kind last_at right =
    let body = bytes_at file (at + 18) size in
    let long = bytes_long file (at + 18) size sized.2 in
    found file at size last 0 fresh snapshot (record { snapshot = snapshot; last = last; list = []; body = body }) refl refl refl (omega (arith, long)) (bytes_hold file (at + 18) size sized.2)
    sized.0 sized.2 small_size small_last kind last_at sized.1 (right body long) (inl refl)

kind_three : (list : List ℕ) (k : ℕ) (last : ℕ) (body : List ℕ) → length list ≡ 32 → k ≡ 3 → k ≡ frame_kind (record { snapshot = true; last = last; list = list; body = body })
kind_three [] k last body long is = absurd (omega arith)
kind_three (byte ∷ rest) k last body long is = is

-- a snapshot that names a list
pub listed : (file : List ℕ) (at size last : ℕ) (fresh : Bool) → IsSized file at size → size < 2 ^ 64 → last < 2 ^ 64 → 32 ≤ size → slice_index file (at + 1) ≡ 3 → Holds file (at + 2) (to_le_bytes w64 last) → fresh ≡ true → IsSecond file
    → IsRead file at fresh (Whole true last 32 size)
listed file at size last fresh sized small_size small_last enough kind last_at is_fresh second =
    let list = bytes_at file (at + 18) 32 in
    let body = bytes_at file (at + 18 + 32) (size - 32) in
    let list_fits : at + 18 + 32 ≤ length file = omega (arith, sized.2, enough) in
    let body_fits : at + 18 + 32 + (size - 32) ≤ length file = omega (arith, sized.2, enough) in
    let list_long = bytes_long file (at + 18) 32 list_fits in
    let body_long = bytes_long file (at + 18 + 32) (size - 32) body_fits in
    let both = holds_join file (at + 18) (at + 18 + 32) list body (omega (arith, list_long)) (bytes_hold file (at + 18) 32 list_fits) (bytes_hold file (at + 18 + 32) (size - 32) body_fits) in
    found file at size last 32 fresh true (record { snapshot = true; last = last; list = list; body = body }) refl refl list_long (omega (arith, list_long, body_long, enough)) both
    sized.0 sized.2 small_size small_last (kind_three list (slice_index file (at + 1)) last body list_long kind) last_at sized.1 is_fresh (inr (refl, list_long, second))
