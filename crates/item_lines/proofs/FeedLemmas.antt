-- A compact text has no line feed, so lines can be told apart.
use Rattle.std.proofs.Common.{◌≡◌, ℕ, zero, suc, ◌<◌, ◌≤◌, ◌^◌, ◌==◌, pos, negsuc, Bool, true, false, not, ◌&&◌, List, [], ◌∷◌, ◌++◌, length, get_or, drop, decimal, refl, sym, ap, ap₂, ◌∙◌, arith, inl, inr, ne_eqb}
use Rattle.std.proofs.lemmas.Bool.{and_parts, and_from, cases_lt, cases_eq, true≢false}
use Rattle.std.proofs.lemmas.Fmt.{decimal_is_IsNumeral}
use Rattle.std.proofs.lemmas.List.Folds.{list_all-append}
use Rattle.std.proofs.lemmas.Str.Parse.{digit_at}
use Rattle.std.specs.List.{list_all}
use Rattle.json.specs.Print.{escape_byte, escape, quoted}
use Rattle.json.proofs.Printed.Strings.{escape_byte_plain}
use Rattle.serde_json.specs.Data.{Num, unsigned, negative, float, Data, null, boolean, number, string, array, object, Items, no_items, item, Members, no_members, member}
use Rattle.serde_json.specs.Written.{compact_text, items_text, members_text, number_text, comma_if}
use Rattle.item_lines.specs.Numbers.{IsShort, HasShortNumbers, ItemsHaveShortNumbers, MembersHaveShortNumbers}

-- no byte is a line feed
abbrev pub lacks : List ℕ → Bool
lacks bytes = list_all (λ b. not (b == 10)) bytes

lacks_both : (xs ys : List ℕ) → lacks xs ≡ true → lacks ys ≡ true → lacks (xs ++ ys) ≡ true
lacks_both xs ys x y = list_all-append _ xs ys ∙ and_from _ _ x y

-- ---- numbers

lacks_digits : (ds : List ℕ) → ((i : ℕ) → i < length ds → (48 ≤ get_or ds i 0) × (get_or ds i 0 ≤ 57)) → lacks ds ≡ true
lacks_digits [] h = refl
lacks_digits (d ∷ ds) h =
    let first = h 0 (omega arith) in
    and_from _ _ (ap not (ne_eqb d 10 (λ e. omega (arith, first.0)))) (lacks_digits ds (λ i l. h (suc i) (omega arith)))

lacks_decimal : (n : ℕ) → n < 2 ^ 64 → lacks (decimal n) ≡ true
lacks_decimal n short = lacks_digits (decimal n) (λ i l. digit_at (decimal n) i (decimal_is_IsNumeral n short).0.1 l)

lacks_number : (n : Num) → IsShort n → lacks (number_text n) ≡ true
lacks_number (unsigned n) short = lacks_decimal n short
lacks_number (negative (pos n)) short = absurd short
lacks_number (negative (negsuc n)) short = lacks_decimal (suc n) (omega (arith, short))
lacks_number (float x) short = absurd short

-- ---- strings

abbrev escapes_lack : ℕ → Bool
escapes_lack zero = true
escapes_lack (suc n) = lacks (escape_byte n) && escapes_lack n

lack_below : (n : ℕ) → escapes_lack n ≡ true → (x : ℕ) → x < n → lacks (escape_byte x) ≡ true
lack_below zero e x h = absurd (omega arith)
lack_below (suc n) e x h =
    let p = and_parts _ _ e in
    elim (cases_eq x n) [ inl same ↦ rw same p.0 | inr other ↦ lack_below n p.1 x (omega arith) ]

all_lack : escapes_lack 93 ≡ true
unfolding escape_byte
all_lack = refl

lacks_byte : (x : ℕ) → lacks (escape_byte x) ≡ true
lacks_byte x = elim (cases_lt x 93) [
  | inl small ↦ lack_below 93 all_lack x small
  | inr big ↦
      ap lacks (escape_byte_plain x (λ e. omega arith) (λ e. omega arith) (omega arith))
      ∙ and_from _ _ (ap not (ne_eqb x 10 (λ e. omega arith))) refl
]

lacks_escape : (s : List ℕ) → lacks (escape s) ≡ true
lacks_escape [] = refl
lacks_escape (x ∷ s) = lacks_both (escape_byte x) (escape s) (lacks_byte x) (lacks_escape s)

lacks_quoted : (s : List ℕ) → lacks (quoted s) ≡ true
lacks_quoted s = lacks_both (escape s) (34 ∷ []) (lacks_escape s) refl

-- ---- values

lacks_comma : (later : Bool) → lacks (comma_if later) ≡ true
lacks_comma true = refl
lacks_comma false = refl

mutual
  pub lacks_text : (d : Data) → HasShortNumbers d → lacks (compact_text d) ≡ true
  lacks_text null short = refl
  lacks_text (boolean true) short = refl
  lacks_text (boolean false) short = refl
  lacks_text (number n) short = lacks_number n short
  lacks_text (string s) short = lacks_quoted s
  lacks_text (array ds) short = lacks_items false ds short
  lacks_text (object ms) short = lacks_members false ms short

  lacks_items : (later : Bool) (ds : Items) → ItemsHaveShortNumbers ds → lacks (items_text later ds) ≡ true
  lacks_items later no_items short = refl
  lacks_items later (item d ds) short =
      lacks_both (comma_if later) _ (lacks_comma later) (lacks_both (compact_text d) _ (lacks_text d short.0) (lacks_items true ds short.1))

  lacks_members : (later : Bool) (ms : Members) → MembersHaveShortNumbers ms → lacks (members_text later ms) ≡ true
  lacks_members later no_members short = refl
  lacks_members later (member k d ms) short =
      lacks_both (comma_if later) _ (lacks_comma later)
      (lacks_both (quoted k) (58 ∷ (compact_text d ++ members_text true ms)) (lacks_quoted k) (lacks_both (compact_text d) _ (lacks_text d short.0) (lacks_members true ms short.1)))

-- ---- lines

abbrev first : List ℕ → ℕ
first [] = 0
first (x ∷ xs) = x

no_feed : (b : ℕ) (bs : List ℕ) → lacks (b ∷ bs) ≡ true → b ≡ 10 → ⊥
no_feed b bs none e = true≢false (sym (and_parts _ _ none).0 ∙ ap (λ x. not (x == 10)) e)

-- two texts that begin with a line begin with the same one, and go on in the same way
pub first_line : (xs ys rest more : List ℕ) → lacks xs ≡ true → lacks ys ≡ true → xs ++ 10 ∷ rest ≡ ys ++ 10 ∷ more → (xs ≡ ys) × (rest ≡ more)
first_line [] [] rest more lx ly same = (refl, ap (drop 1) same)
first_line [] (y ∷ ys) rest more lx ly same = absurd (no_feed y ys ly (sym (ap first same)))
first_line (x ∷ xs) [] rest more lx ly same = absurd (no_feed x xs lx (ap first same))
first_line (x ∷ xs) (y ∷ ys) rest more lx ly same =
    let tail = first_line xs ys rest more (and_parts _ _ lx).1 (and_parts _ _ ly).1 (ap (drop 1) same) in
    (ap₂ (λ b bs. b ∷ bs) (ap first same) tail.0, tail.1)
