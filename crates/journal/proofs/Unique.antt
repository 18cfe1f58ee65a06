-- A file determines its frames.
use Rattle.std.proofs.Common.{◌≡◌, ◌⊎◌, inl, inr, ⊎_elim, ℕ, ◌+◌, ◌%◌, ◌^◌, ◌<◌, Bool, true, false, List, [], ◌∷◌, ◌++◌, length, slice_index, arith, refl, sym, ◌∙◌, ap, subst}
use Rattle.std.specs.Prelude.{if◌then◌else◌}
use Rattle.std.specs.Int.{w64, to_le_bytes, from_le_bytes}
use Rattle.std.proofs.lemmas.Nat.{from_le_bytes-to_le_bytes_8}
use Rattle.std.proofs.lemmas.Grind.{same_number_lists}
use Rattle.disk_model.specs.Disk.{Holds}
use Rattle.journal.specs.Frame.{Frame, IsSecond, IsListed, snapshot_kind, frame_kind, encoded, frame_len, AreSound, region_digest}
use Rattle.journal.specs.Store.{FramesAt, slot_bytes, Head, IsStore}
use Rattle.journal.specs.HeadFault.{IsLive}
use Rattle.journal.proofs.Commit.{holds_front, holds_back}

pub holds_unique : (file : List ℕ) (at : ℕ) (xs ys : List ℕ) → length xs ≡ length ys → Holds file at xs → Holds file at ys → xs ≡ ys
holds_unique file at xs ys size one two = same_number_lists xs ys size (λ k below. sym (one.each k below) ∙ two.each k (omega arith))

pub number_unique : (file : List ℕ) (at m n : ℕ) → m < 2 ^ 64 → n < 2 ^ 64 → Holds file at (to_le_bytes w64 m) → Holds file at (to_le_bytes w64 n) → m ≡ n
number_unique file at m n small_m small_n one two =
    sym (from_le_bytes-to_le_bytes_8 m small_m) ∙ ap (λ (l : List ℕ). from_le_bytes w64 l) (holds_unique file at (to_le_bytes w64 m) (to_le_bytes w64 n) refl one two) ∙ from_le_bytes-to_le_bytes_8 n small_n

-- the fields of a frame in its file
pub record Fields (file : List ℕ) (at : ℕ) (f : Frame) : Type 0 where
  pub kind : slice_index file (at + 1) ≡ frame_kind f
  pub last : Holds file (at + 2) (to_le_bytes w64 f.last)
  pub size : Holds file (at + 10) (to_le_bytes w64 (length f.list + length f.body))
  pub list : Holds file (at + 18) f.list
  pub body : Holds file (at + 18 + length f.list) f.body

moved : (file : List ℕ) (at place : ℕ) (bytes : List ℕ) → at ≡ place → Holds file at bytes → Holds file place bytes
moved file at place bytes is = subst (λ (k : ℕ). Holds file k bytes) is

pub fields : (file : List ℕ) (at : ℕ) (f : Frame) → Holds file (at + 1) (encoded f) → Fields file at f
unfolding encoded
fields file at f h =
    let kind = frame_kind f ∷ [] in
    let last = to_le_bytes w64 f.last in
    let size = to_le_bytes w64 (length f.list + length f.body) in
    let both = f.list ++ f.body in
    let three = holds_front file (at + 1) (kind ++ last ++ size) both h in
    let two = holds_front file (at + 1) (kind ++ last) size three in
    let one = holds_front file (at + 1) kind last two in
    let behind = moved file (at + 1 + 17) (at + 18) both (omega arith) (holds_back file (at + 1) (kind ++ last ++ size) both h) in
    record {
      kind = (let p : at + 1 ≡ at + 1 + 0 = omega arith in ap (λ (k : ℕ). slice_index file k) p) ∙ one.each 0 (omega arith);
      last = moved file (at + 1 + 1) (at + 2) last (omega arith) (holds_back file (at + 1) kind last two);
      size = moved file (at + 1 + 9) (at + 10) size (omega arith) (holds_back file (at + 1) (kind ++ last) size three);
      list = holds_front file (at + 18) f.list f.body behind;
      body = holds_back file (at + 18) f.list f.body behind;
    }

-- the digest that a frame of one kind names is of one length
same_kind : (a b : Bool) (xs ys : List ℕ) (k : ℕ) (P Q : Type 0) → k ≡ (if a then snapshot_kind xs else 1) → k ≡ (if b then snapshot_kind ys else 1)
    → (xs ≡ []) ⊎ ((a ≡ true) × (length xs ≡ 32) × P) → (ys ≡ []) ⊎ ((b ≡ true) × (length ys ≡ 32) × Q) → (a ≡ b) × (length xs ≡ length ys)
same_kind true true [] [] k P Q one two l m = (refl, refl)
same_kind true true [] (y ∷ ys) k P Q one two l m = absurd (omega arith)
same_kind true true (x ∷ xs) [] k P Q one two l m = absurd (omega arith)
same_kind true true (x ∷ xs) (y ∷ ys) k P Q one two (inl none) m = absurd (cc)
same_kind true true (x ∷ xs) (y ∷ ys) k P Q one two (inr l) (inl none) = absurd (cc)
same_kind true true (x ∷ xs) (y ∷ ys) k P Q one two (inr l) (inr m) = (refl, l.1 ∙ sym m.1)
same_kind true false [] ys k P Q one two l m = absurd (omega arith)
same_kind true false (x ∷ xs) ys k P Q one two l m = absurd (omega arith)
same_kind false true xs [] k P Q one two l m = absurd (omega arith)
same_kind false true xs (y ∷ ys) k P Q one two l m = absurd (omega arith)
same_kind false false xs ys k P Q one two (inl none) (inl nothing) = (refl, ap length none ∙ sym (ap length nothing))
same_kind false false xs ys k P Q one two (inl none) (inr m) = absurd (let e = m.0 in cc)
same_kind false false xs ys k P Q one two (inr l) m = absurd (let e = l.0 in cc)

pub frame_unique : (file : List ℕ) (at : ℕ) (f g : Frame) → Fields file at f → Fields file at g → f.last < 2 ^ 64 → g.last < 2 ^ 64 → length f.list + length f.body < 2 ^ 64 → length g.list + length g.body < 2 ^ 64
    → IsListed file f → IsListed file g → f ≡ g
frame_unique file at f g one two fl gl fb gb fn gn =
    let kind = same_kind f.snapshot g.snapshot f.list g.list (slice_index file (at + 1)) (IsSecond file) (IsSecond file) one.kind two.kind fn gn in
    let last = number_unique file (at + 2) f.last g.last fl gl one.last two.last in
    let size = number_unique file (at + 10) (length f.list + length f.body) (length g.list + length g.body) fb gb one.size two.size in
    let list = holds_unique file (at + 18) f.list g.list kind.1 one.list two.list in
    let there = moved file (at + 18 + length f.list) (at + 18 + length g.list) f.body (omega (arith, kind.1)) one.body in
    let body = holds_unique file (at + 18 + length g.list) f.body g.body (omega (arith, size, kind.1)) there two.body in
    λ i. record { snapshot = kind.0 i; last = last i; list = list i; body = body i }

pub frames_unique : (frames others : List Frame) (file : List ℕ) (at : ℕ) → AreSound file frames → AreSound file others → FramesAt file at frames → FramesAt file at others → frames ≡ others
frames_unique [] [] file at fs gs one two = refl
frames_unique [] (g ∷ others) file at fs gs one two = absurd (two.0.1 one.1)
frames_unique (f ∷ frames) [] file at fs gs one two = absurd (one.0.1 two.1)
frames_unique (f ∷ frames) (g ∷ others) file at fs gs one two =
    let same = frame_unique file at f g (fields file at f one.1) (fields file at g two.1) fs.0 gs.0 fs.1 gs.1 fs.2 gs.2 in
    let rest : FramesAt file (at + frame_len f) others = subst (λ (x : Frame). FramesAt file (at + frame_len x) others) (sym same) two.2 in
    let more = frames_unique frames others file (at + frame_len f) fs.3 gs.3 one.2 rest in
    λ i. same i ∷ more i

-- of two numbers of eight bytes at one place, what is left modulo 2^64 is the same
wrap : (o : ℕ) → from_le_bytes w64 (to_le_bytes w64 o) ≡ o % 2 ^ 64
wrap o = omega arith

pub number_wraps : (file : List ℕ) (at m n : ℕ) → m < 2 ^ 64 → Holds file at (to_le_bytes w64 m) → Holds file at (to_le_bytes w64 n) → m ≡ n % 2 ^ 64
number_wraps file at m n small one two =
    sym (from_le_bytes-to_le_bytes_8 m small) ∙ ap (from_le_bytes w64) (holds_unique file at (to_le_bytes w64 m) (to_le_bytes w64 n) refl one two) ∙ wrap n

pub same_number : (file : List ℕ) (at m n x y : ℕ) → Holds file at (slot_bytes m x) → Holds file at (slot_bytes n y) → m % 2 ^ 64 ≡ n % 2 ^ 64
same_number file at m n x y one two =
    sym (wrap m) ∙ ap (from_le_bytes w64) (holds_unique file at (to_le_bytes w64 m) (to_le_bytes w64 n) refl (holds_front file at (to_le_bytes w64 m) (to_le_bytes w64 x) one) (holds_front file at (to_le_bytes w64 n) (to_le_bytes w64 y) two)) ∙ wrap n

same_begin : (file : List ℕ) (at m n x y : ℕ) → x < 2 ^ 64 → y < 2 ^ 64 → Holds file at (slot_bytes m x) → Holds file at (slot_bytes n y) → x ≡ y
same_begin file at m n x y small_x small_y one two =
    number_unique file (at + 8) x y small_x small_y (holds_back file at (to_le_bytes w64 m) (to_le_bytes w64 x) one) (holds_back file at (to_le_bytes w64 n) (to_le_bytes w64 y) two)

clash : (a b c d : ℕ) → a ≡ (c + 1) % 2 ^ 64 → b ≡ (d + 1) % 2 ^ 64 → a % 2 ^ 64 ≡ d % 2 ^ 64 → b % 2 ^ 64 ≡ c % 2 ^ 64 → ⊥
clash a b c d one two same_a same_b = omega arith

-- the two slots are not both live
not_both : (file : List ℕ) (m n x y : ℕ) → IsLive file false m x → IsLive file true n y → ⊥
not_both file m n x y one two =
    ⊎_elim (λ shut. two.slot.1 shut.1) (λ a.
    ⊎_elim (λ shut. one.slot.1 shut.1) (λ b. clash m n a.0 b.0 a.3 b.3 (same_number file 45 m b.0 x b.1 one.says b.4) (same_number file 62 n a.0 y a.1 two.says a.4)) two.older) one.older

-- a file has one live slot
pub live_unique : (file : List ℕ) (k l : Bool) (m n x y : ℕ) → x < 2 ^ 64 → y < 2 ^ 64 → IsLive file k m x → IsLive file l n y → (k ≡ l) × (x ≡ y)
live_unique file false false m n x y small_x small_y one two = (refl, same_begin file 45 m n x y small_x small_y one.says two.says)
live_unique file true true m n x y small_x small_y one two = (refl, same_begin file 62 m n x y small_x small_y one.says two.says)
live_unique file false true m n x y small_x small_y one two = absurd (not_both file m n x y one two)
live_unique file true false m n x y small_x small_y one two = absurd (not_both file n m y x two one)

pub live_of_head : (kept file : List ℕ) (live : Bool) (number begin : ℕ) → Head kept file live number begin → IsLive file live number begin
live_of_head kept file live number begin h = record { slot = h.slot; says = h.slot_says; older = h.older }

-- a head keeps one digest
pub kept_unique : (kept other file : List ℕ) (k l : Bool) (m n x y : ℕ) → Head kept file k m x → Head other file l n y → kept ≡ other
kept_unique kept other file k l m n x y g h = holds_unique file 12 kept other (g.kept_size ∙ sym h.kept_size) g.kept_at h.kept_at

-- a file determines its frames, and the digest of the list under which they stand
pub store_unique : (digest other file : List ℕ) (frames others : List Frame) → IsStore digest file frames → IsStore other file others → (frames ≡ others) × (digest ≡ other)
store_unique digest other file frames others s t =
    let same = live_unique file s.live t.live s.number t.number s.begin t.begin s.fits t.fits (live_of_head s.kept file s.live s.number s.begin s.head) (live_of_head t.kept file t.live t.number t.begin t.head) in
    let one = frames_unique frames others file t.begin s.sound t.sound (subst (λ (b : ℕ). FramesAt file b frames) same.1 s.frames_at) t.frames_at in
    let kept = kept_unique s.kept t.kept file s.live t.live s.number t.number s.begin t.begin s.head t.head in
    (one, s.under ∙ ap (λ (l : List ℕ). region_digest l frames) kept ∙ ap (λ (l : List Frame). region_digest t.kept l) one ∙ sym t.under)
