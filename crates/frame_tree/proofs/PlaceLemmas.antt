-- Places of frames by their numbers, and the frame that stands at one.
use Rattle.std.proofs.Common.{◌≡◌, ◌≢◌, ℕ, zero, suc, ◌<◌, ◌≤◌, ◌+◌, Bool, true, false, cond, List, [], ◌∷◌, map, take, length, get_or, set, inl, inr, refl, ap, ◌∙◌, sym, subst, get_or-set_other, get_or-set_same, arith}
use Rattle.std.specs.Prelude.{◌||◌, ◌&&◌, ◌==◌, ◌⊎◌, eqb, find, nat_lt, option_map, slice_get, None, Some, Option}
use Rattle.std.specs.List.{AllByRecursion, IsDistinct, list_all, list_any}
use Rattle.std.proofs.Math.Bool.{or-false}
use Rattle.std.proofs.lemmas.Bool.{eq-eqb}
use Rattle.std.proofs.lemmas.Bool.Decides.{eqb_tells, nat_tests}
use Rattle.std.proofs.lemmas.List.{length-map, length-take-le, take_all}
use Rattle.std.proofs.lemmas.List.Folds.{list_any-append, list_all-map, list_all_more}
use Rattle.std.proofs.lemmas.Map.Steps.{length-le_from_distinct_below}
use Rattle.std.proofs.lemmas.Option.{get_or_from_slice_get, slice_get-get_or, slice_get-map, slice_get_within}
use Rattle.frame_tree.specs.Places.{ArePlaces, IsPlaceOf, number_at}
use Rattle.frame_tree.specs.Plain.{plain_frame}
use Rattle.frame_tree.specs.Tree.{IsTree, has_frame}
use Rattle.frame_tree.specs.declared.frames.Frame.{Frame}
use Rattle.frame_tree.proofs.ApartLemmas.{Apart, ApartBy, any_at, apart-tree, elsewhere}
use Rattle.frame_tree.proofs.KeyLemmas.{there-found}
use Rattle.frame_tree.proofs.SetLemmas.{frames-more}
use Rattle.frame_tree.proofs.ShapeLemmas.{flip_apart, or_none}

-- ---- the frame at a place

number_found : {X : Type 0} (number : X → ℕ) (n : ℕ) (xs : List X) (i : ℕ) (x : X) → ApartBy number xs → slice_get xs i ≡ Some x → number x ≡ n
    → Some x ≡ find (λ y. number y == n) xs
number_found number n [] i x apart is own = absurd (cc is)
number_found number n (y ∷ ys) zero x apart is own =
    let same : y ≡ x = cc is in
    sym is ∙ ap (λ b. cond b (Some y) (find (λ z. number z == n) ys)) (sym (eq-eqb (number y) n (ap number same ∙ own)))
number_found number n (y ∷ ys) (suc i) x apart is own =
    let within : i < length ys = slice_get_within ys i x is in
    let there = any_at number n ys i x within (ap number (get_or_from_slice_get ys i x x is) ∙ own) in
    number_found number n ys i x apart.1 is own
    ∙ ap (λ b. cond b (Some y) (find (λ z. number z == n) ys)) (sym (elsewhere number y n ys apart.0 there (eqb_tells (number y) n)))

has_number : (n : ℕ) (xs : List Frame) → list_any (λ f. f.frame == n) xs ≡ has_frame n (map plain_frame xs)
has_number n [] = refl
has_number n (x ∷ xs) = ap (λ b. (x.frame == n) || b) (has_number n xs)

apart_numbers : (xs : List Frame) → Apart (map plain_frame xs) → ApartBy (λ f. f.frame) xs
apart_numbers [] apart = tt
apart_numbers (x ∷ xs) apart = (has_number x.frame xs ∙ apart.0, apart_numbers xs apart.1)

-- the frame at a place is the first of its number
pub found-place : (n : ℕ) (xs : List Frame) (i : ℕ) (f : Frame) → IsTree (map plain_frame xs) → slice_get xs i ≡ Some f → f.frame ≡ n
    → Some f ≡ find (λ g. g.frame == n) xs
found-place n xs i f tree is own =
    number_found (λ g. g.frame) n xs i f (apart_numbers xs (apart-tree (map plain_frame xs) tree)) is own

-- a number that does not stand at its place is that of no frame
pub absent-place : (n place : ℕ) (xs : List Frame) → IsPlaceOf n place (map plain_frame xs)
    → (option_map (λ f. f.frame) (slice_get xs place) ≡ Some n → ⊥) → None ≡ find (λ g. g.frame == n) xs
absent-place n place xs placed other = by (find (λ g. g.frame == n) xs) refl
  where
    number : (o : Option Frame) → option_map (λ f. f.frame) (option_map plain_frame o) ≡ option_map (λ f. f.frame) o
    number None = refl
    number (Some f) = refl

    by : (o : Option Frame) → o ≡ find (λ g. g.frame == n) xs → None ≡ o
    by None is = refl
    by (Some f) is =
        absurd (other (sym (number (slice_get xs place)) ∙ sym (ap (option_map (λ f. f.frame)) (slice_get-map plain_frame xs place))
        ∙ placed (there-found n xs f is)))

-- ---- the places, one frame more at a time

-- the places of the first frames
abbrev pub ArePlacesUpto : ℕ → List ℕ → List Frame → Type 0
ArePlacesUpto i places xs =
    (n : ℕ) → has_frame n (map plain_frame (take i xs)) ≡ true → number_at (get_or places n 0) (map plain_frame xs) ≡ Some n

module _ (xs : List Frame) (i : ℕ) (f : Frame) (within : i < length xs) (read : f ≡ get_or xs i f) where
  stands : (n : ℕ) → f.frame ≡ n → number_at i (map plain_frame xs) ≡ Some n
  stands n own =
      ap (option_map (λ g. g.frame)) (slice_get-map plain_frame xs i ∙ ap (option_map plain_frame) (slice_get-get_or xs i f within))
      ∙ ap (λ (g : Frame). Some g.frame) (sym read) ∙ ap Some own

  pub places-more : (places : List ℕ) → f.frame < length places → ArePlacesUpto i places xs → ArePlacesUpto (i + 1) (set places f.frame i) xs
  places-more places low so n there = by (eqb_tells f.frame n)
    where
      by : (((f.frame == n) ≡ true) × (f.frame ≡ n)) ⊎ (((f.frame == n) ≡ false) × (f.frame ≢ n))
          → number_at (get_or (set places f.frame i) n 0) (map plain_frame xs) ≡ Some n
      by (inl same) =
          ap (λ m. number_at (get_or (set places f.frame i) m 0) (map plain_frame xs)) (sym same.1)
          ∙ ap (λ place. number_at place (map plain_frame xs)) (get_or-set_same places f.frame i 0 low)
          ∙ stands n same.1
      by (inr other) =
          ap (λ place. number_at place (map plain_frame xs)) (get_or-set_other places f.frame n i 0 (λ same. other.1 (sym same)))
          ∙ so n
          (sym (ap (has_frame n) (frames-more xs i f within)
          ∙ list_any-append (λ g. g.frame == n) (map plain_frame (take i xs)) (plain_frame (get_or xs i f) ∷ [])
          ∙ ap (λ (g : Frame). has_frame n (map plain_frame (take i xs)) || ((g.frame == n) || false)) (sym read)
          ∙ ap (λ b. has_frame n (map plain_frame (take i xs)) || (b || false)) other.0
          ∙ or-false (has_frame n (map plain_frame (take i xs))))
          ∙ there)

pub places-all : (i : ℕ) (places : List ℕ) (xs : List Frame) → length xs ≤ i → ArePlacesUpto i places xs → ArePlaces places (map plain_frame xs)
places-all i places xs all so = λ n there. so n (ap (λ l. has_frame n (map plain_frame l)) (take_all i xs all) ∙ there)

-- ---- a tab has at most 256 frames

-- each number is one of a u8
abbrev pub are_low : List Frame → Bool
are_low xs = list_all (λ f. nat_lt f.frame 256) xs

others_apart : {X : Type 0} (number : X → ℕ) (n : ℕ) (xs : List X) → list_any (λ y. number y == n) xs ≡ false
    → AllByRecursion (λ m. eqb n m ≡ false) (map number xs)
others_apart number n [] none = tt
others_apart number n (x ∷ xs) none =
    let parts = or_none (number x == n) (list_any (λ y. number y == n) xs) none in
    (flip_apart (number x) n parts.0, others_apart number n xs parts.1)

distinct_numbers : {X : Type 0} (number : X → ℕ) (xs : List X) → ApartBy number xs → IsDistinct eqb (map number xs)
unfolding IsDistinct
distinct_numbers number [] apart = tt
distinct_numbers number (x ∷ xs) apart = (others_apart number (number x) xs apart.0, distinct_numbers number xs apart.1)

none_before : {X : Type 0} (p : X → Bool) (i : ℕ) (xs : List X) → list_any p xs ≡ false → list_any p (take i xs) ≡ false
none_before p zero xs none = refl
none_before p (suc i) [] none = refl
none_before p (suc i) (x ∷ xs) none =
    let parts = or_none (p x) (list_any p xs) none in
    ap (λ b. b || list_any p (take i xs)) parts.0 ∙ none_before p i xs parts.1

apart_before : {X : Type 0} (number : X → ℕ) (i : ℕ) (xs : List X) → ApartBy number xs → ApartBy number (take i xs)
apart_before number zero xs apart = tt
apart_before number (suc i) [] apart = tt
apart_before number (suc i) (x ∷ xs) apart =
    (none_before (λ y. number y == number x) i xs apart.0, apart_before number i xs apart.1)

low_number : (q : ℕ) (ns : List ℕ) → list_all (λ n. nat_lt n 256) ns ≡ true → list_any (eqb q) ns ≡ true → q < 256
low_number q [] low there = absurd (cc there)
low_number q (n ∷ ns) low there = by (nat_lt n 256) refl (eqb_tells q n) (low_number q ns)
  where
    by : (b : Bool) → nat_lt n 256 ≡ b → (((q == n) ≡ true) × (q ≡ n)) ⊎ (((q == n) ≡ false) × (q ≢ n))
        → (list_all (λ n. nat_lt n 256) ns ≡ true → list_any (eqb q) ns ≡ true → q < 256) → q < 256
    by false is which rest = absurd (cc (sym (ap (λ b. b && list_all (λ n. nat_lt n 256) ns) is) ∙ low))
    by true is (inl same) rest = let own : q ≡ n = same.1 in grind (arith, nat_tests)
    by true is (inr other) rest =
        rest (sym (ap (λ b. b && list_all (λ n. nat_lt n 256) ns) is) ∙ low) (sym (ap (λ b. b || list_any (eqb q) ns) other.0) ∙ there)

few_frames : (xs : List Frame) → ApartBy (λ f. f.frame) xs → are_low xs ≡ true → length xs ≤ 256
few_frames xs apart low =
    let numbers : List ℕ = map (λ f. f.frame) xs in
    let all : list_all (λ n. nat_lt n 256) numbers ≡ true = list_all-map (λ n. nat_lt n 256) (λ (f : Frame). f.frame) xs ∙ low in
    subst (λ n. n ≤ 256) (length-map xs (λ f. f.frame))
    (length-le_from_distinct_below numbers 256 (distinct_numbers (λ f. f.frame) xs apart) (λ q there. low_number q numbers all there))

-- the place of a frame is low where its number and those before are
module _ (xs : List Frame) (i : ℕ) (f : Frame) (within : i < length xs) (read : f ≡ get_or xs i f) (own : f.frame < 256) (before : are_low (take i xs) ≡ true) where
  pub low-more : are_low (take (i + 1) xs) ≡ true
  low-more =
      let is : nat_lt f.frame 256 ≡ true = grind (arith, nat_tests) in
      list_all_more (λ g. nat_lt g.frame 256) xs i f within
      ∙ ap (λ b. b && nat_lt (get_or xs i f).frame 256) before
      ∙ ap (λ (g : Frame). nat_lt g.frame 256) (sym read) ∙ is

  pub low-place : IsTree (map plain_frame xs) → i < 256
  low-place tree =
      let apart = apart_numbers xs (apart-tree (map plain_frame xs) tree) in
      let all : length (take (i + 1) xs) ≤ 256 = few_frames (take (i + 1) xs) (apart_before (λ f. f.frame) (i + 1) xs apart) low-more in
      let much : length (take (i + 1) xs) ≡ i + 1 = length-take-le (i + 1) xs (omega arith) in
      omega arith
