-- Lines that are made and lines that are left are the whole, and a loop moves one from left to made.
use Rattle.std.proofs.Common.{◌≡◌, ℕ, ◌+◌, ◌-◌, ◌<◌, suc, zero, List, [], ◌∷◌, ◌++◌, map, length, refl, sym, ap, ◌∙◌, arith, append-nil}
use Rattle.std.specs.List.{range_with_len}
use Rattle.std.proofs.lemmas.List.FromFn.{length-range_with_len}
use Rattle.script_actions.specs.Action.{PlainStep}
use Rattle.generated_day.specs.Day.{drawn_line, drawn_lines, numbers_from, open_line, open_lines}

moved : {A B : Type 0} (f : A → B) (items : List A) (x : A) (rest : List B) → map f (items ++ x ∷ []) ++ rest ≡ map f items ++ f x ∷ rest
moved f [] x rest = refl
moved f (a ∷ items) x rest = ap (λ l. f a ∷ l) (moved f items x rest)

-- one more is made
pub moves : {A B : Type 0} (f : A → B) (items made : List A) (x : A) (y : B) (left rest whole : List B) → made ≡ items ++ x ∷ [] → f x ≡ y → left ≡ y ∷ rest → map f items ++ left ≡ whole → map f made ++ rest ≡ whole
moves f items made x y left rest whole adds is takes before =
    ap (λ l. map f l ++ rest) adds ∙ moved f items x rest ∙ ap (λ z. map f items ++ z ∷ rest) is
    ∙ ap (λ l. map f items ++ l) (sym takes) ∙ before

-- nothing is left
pub ends : {B : Type 0} (made left whole : List B) → left ≡ [] → made ++ left ≡ whole → made ≡ whole
ends made left whole none before = sym (append-nil made) ∙ ap (λ l. made ++ l) (sym none) ∙ before

range_first : (a n : ℕ) → 0 < n → range_with_len a n ≡ a ∷ range_with_len (a + 1) (n - 1)
range_first a zero some = absurd (omega arith)
range_first a (suc n) some = let e : suc n - 1 ≡ n = omega arith in rw e refl

pub number_first : (n : ℕ) → n < 5021 → numbers_from n ≡ n ∷ numbers_from (n + 1)
unfolding numbers_from
number_first n small =
    let e : 5021 - n - 1 ≡ 5021 - (n + 1) = omega arith in
    range_first n (5021 - n) (omega arith) ∙ ap (λ k. n ∷ range_with_len (n + 1) k) e

pub no_numbers : numbers_from 5021 ≡ []
unfolding numbers_from
no_numbers = refl

pub day_count : length (numbers_from 1) ≡ 5020
unfolding numbers_from
day_count = length-range_with_len 1 5020

-- the lines that open the tabs from this one on
unfoldable pub opens_from : ℕ → List PlainStep
opens_from tab = map open_line (range_with_len tab (21 - tab))

pub open_first : (n : ℕ) → n < 21 → opens_from n ≡ open_line n ∷ opens_from (n + 1)
unfolding opens_from
open_first n small =
    let e : 21 - n - 1 ≡ 21 - (n + 1) = omega arith in
    ap (map open_line) (range_first n (21 - n) (omega arith)) ∙ ap (λ k. open_line n ∷ map open_line (range_with_len (n + 1) k)) e

pub all_opens : opens_from 1 ≡ open_lines
unfolding opens_from open_lines
all_opens = refl

pub no_opens : opens_from 21 ≡ []
unfolding opens_from
no_opens = refl

pub drawn_first : (n x : ℕ) → 0 < n → drawn_lines n x ≡ (drawn_line x).0 ∷ drawn_lines (n - 1) (drawn_line x).1
unfolding drawn_lines
drawn_first zero x some = absurd (omega arith)
drawn_first (suc n) x some = let e : suc n - 1 ≡ n = omega arith in rw e refl

pub none_drawn : (x : ℕ) → drawn_lines 0 x ≡ []
unfolding drawn_lines
none_drawn x = refl
