-- Digits are a numeral that does not begin with a plus, and a number is in its range.
use Rattle.std.proofs.Common.{◌≡◌, ℕ, ◌<◌, ◌≤◌, ◌^◌, Bool, true, false, cond, ◌==◌, ◌&&◌, List, [], ◌∷◌, length, drop}
use Rattle.std.proofs.Common.{None, Err, refl, ap, sym, subst, ⊎_elim, Some, ◌∙◌, arith, IfSome}
use Rattle.std.specs.Prelude.{nat_le}
use Rattle.std.specs.List.{list_all}
use Rattle.std.specs.Char.{digit_value}
use Rattle.std.specs.Str.Parse.{AllDigits, IsNumeral, ParsesUnsigned, digits_value, without_leading_plus}
use Rattle.std.proofs.lemmas.Bool.{and_parts, cases_lt, leb-true, lt-leb, ne_eqb}
use Rattle.std.proofs.lemmas.Bool.Decides.{nat_tests}
use Rattle.command_line.specs.Options.{is_digit, is_number, most_digits, number_of, within}

pub digit_bounds : (b : ℕ) → is_digit b ≡ true → (48 ≤ b) × (b ≤ 57)
digit_bounds b is =
    let parts = and_parts (nat_le 48 b) (nat_le b 57) is in
    (leb-true 48 b parts.0, leb-true b 57 parts.1)

digit_below : (b : ℕ) → is_digit b ≡ true → digit_value b < 10
digit_below b is =
    let low = (digit_bounds b is).0 in
    let high = (digit_bounds b is).1 in
    grind (arith, nat_tests)

all_digits : (text : List ℕ) → list_all is_digit text ≡ true → AllDigits 10 text
all_digits [] is = tt
all_digits (b ∷ text) is =
    let parts = and_parts (is_digit b) (list_all is_digit text) is in
    (digit_below b parts.0, all_digits text parts.1)

no_plus : (text : List ℕ) → list_all is_digit text ≡ true → without_leading_plus text ≡ text
no_plus [] is = refl
no_plus (b ∷ text) is =
    let low = (digit_bounds b (and_parts (is_digit b) (list_all is_digit text) is).0).0 in
    let other : (b == 43) ≡ false = ne_eqb b 43 (λ e. omega (arith, low, e)) in
    ap (λ plus. drop (cond plus 1 0) (b ∷ text)) other

pub digits : (text : List ℕ) → is_number text ≡ true → list_all is_digit text ≡ true
digits text is = (and_parts (nat_le (length text) most_digits) (list_all is_digit text) (and_parts (nat_le 1 (length text)) _ is).1).1

numeral : (text : List ℕ) → is_number text ≡ true → IsNumeral 10 text
numeral text is =
    let some = leb-true 1 (length text) (and_parts (nat_le 1 (length text)) _ is).0 in
    (omega (arith, some), all_digits text (digits text is))

-- past the last there is no number
past_last : (first last n : ℕ) → last < n → within first last n ≡ None
past_last first last n past = ap (λ to. cond (nat_le first n && to) (Some n) None) (lt-leb n last past) ∙ at (nat_le first n)
  where
    at : (from : Bool) → cond (from && false) (Some n) None ≡ None
    at true = refl
    at false = refl

-- a number that was not read is past each last one
pub number_past : {E : Type 0} (text : List ℕ) (why : E) (first last : ℕ) → is_number text ≡ true → last < 2 ^ 64 → ParsesUnsigned {E = E} 64 10 text (Err why) → None ≡ number_of first last text
number_past text why first last is fits read =
    let plain = no_plus text (digits text is) in
    let past : 2 ^ 64 ≤ digits_value 10 text =
    ⊎_elim (λ below. absurd (read (subst (λ t. IsNumeral 10 t × (digits_value 10 t < 2 ^ 64)) (sym plain) (numeral text is, below)))) (λ past. past) (cases_lt (digits_value 10 text) (2 ^ 64)) in
    sym (ap (λ b. cond b (within first last (digits_value 10 text)) None) is ∙ past_last first last (digits_value 10 text) (omega (arith, past, fits)))

-- a number of a text is in its range
pub number_in_range : (first last : ℕ) (text : List ℕ) → IfSome (number_of first last text) (λ n. (first ≤ n) × (n ≤ last))
number_in_range first last text = at (is_number text)
  where
    in_range : (n : ℕ) (b : Bool) → (nat_le first n && nat_le n last) ≡ b → IfSome (cond b (Some n) None) (λ n. (first ≤ n) × (n ≤ last))
    in_range n true is =
        let parts = and_parts (nat_le first n) (nat_le n last) is in
        (leb-true first n parts.0, leb-true n last parts.1)
    in_range n false is = tt

    at : (b : Bool) → IfSome (cond b (within first last (digits_value 10 text)) None) (λ n. (first ≤ n) × (n ≤ last))
    at true = in_range (digits_value 10 text) (nat_le first (digits_value 10 text) && nat_le (digits_value 10 text) last) refl
    at false = tt
