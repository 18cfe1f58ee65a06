-- Numbers that digits write, and the digits that a text begins with.
use Rattle.std.proofs.Common.{◌≡◌, ℕ, ◌+◌, ◌*◌, ◌-◌, ◌<◌, ◌≤◌, ◌^◌, true, List, [], ◌∷◌, length, take, min, ◌&&◌, Some, nat_le, ap, ◌∙◌, arith, lit<}
use Rattle.std.specs.Char.{is_ascii_digit, digit_value}
use Rattle.std.specs.List.{prefix_len, AllPass}
use Rattle.std.specs.Str.Parse.{digits_value, AllDigits}
use Rattle.std.proofs.lemmas.Bool.Decides.{nat_tests}
use Rattle.std.proofs.lemmas.List.Elements.{All-head, All-tail}
use Rattle.std.proofs.lemmas.List.{get_or-take}
use Rattle.std.proofs.lemmas.List.Folds.{length-prefix_len}
use Rattle.std.proofs.lemmas.List.Sums.{prefix_len_passes}
use Rattle.std.proofs.lemmas.Int.Digits.{digits_value-lt}
use Rattle.std.proofs.Math.Nat.{pow-le-pow_right}
use Rattle.std.proofs.lemmas.Str.{digit_value_digit}
use Rattle.setcookie_parse.specs.CookieDate.{leading_number}

-- one more digit of a number that is cut at a limit
pub capped_more : (value number digit limit : ℕ) → number ≡ min value limit
    → min (number * 10 + digit) limit ≡ min (value * 10 + digit) limit
capped_more value number digit limit same = omega arith

digit_range : (b : ℕ) → is_ascii_digit b ≡ true → (48 ≤ b) × (b ≤ 57)
digit_range b passes = (grind (arith, nat_tests), grind (arith, nat_tests))

pub digit_of : (b : ℕ) → is_ascii_digit b ≡ true → digit_value b ≡ b - 48
digit_of b passes = let range = digit_range b passes in omega (arith, digit_value_digit b range)

-- the digits that a text begins with are digits
pub leading_pass : (text : List ℕ) → AllPass is_ascii_digit (take (prefix_len is_ascii_digit text) text)
leading_pass text k d inside =
    let early : k < prefix_len is_ascii_digit text = omega (arith, length-prefix_len is_ascii_digit text) in
    ap is_ascii_digit (get_or-take (prefix_len is_ascii_digit text) text k d early) ∙ prefix_len_passes is_ascii_digit text k d early

digits_have_values : (digits : List ℕ) → AllPass is_ascii_digit digits → AllDigits 10 digits
digits_have_values [] pass = tt
digits_have_values (b ∷ bs) pass =
    let range = digit_range b (All-head (λ x. is_ascii_digit x ≡ true) b bs pass) in
    (omega (arith, digit_value_digit b range), digits_have_values bs (All-tail (λ x. is_ascii_digit x ≡ true) b bs pass))

-- four digits write less than 10,000
pub four_digits : (digits : List ℕ) → AllPass is_ascii_digit digits → length digits ≤ 4
    → min (digits_value 10 digits) 9999 ≡ digits_value 10 digits
four_digits digits pass short =
    let below = digits_value-lt 10 digits (digits_have_values digits pass) in
    let most : 10 ^ length digits ≤ 10 ^ 4 = pow-le-pow_right (lit< tt) short in
    omega arith

-- the number that a text begins with, where it has as many digits as are wanted
pub leading_value : (text : List ℕ) (least most count : ℕ) → count ≡ prefix_len is_ascii_digit text
    → least ≤ count → count ≤ most → most ≤ 4
    → (number : ℕ) → number ≡ min (digits_value 10 (take count text)) 9999
    → Some number ≡ leading_number least most text
leading_value text least most count counted enough few short number value =
    let front = take (prefix_len is_ascii_digit text) text in
    let measured = length-prefix_len is_ascii_digit text in
    let fits : (nat_le least (length front) && nat_le (length front) most) ≡ true = grind (arith, nat_tests) in
    let four = four_digits front (leading_pass text) (omega arith) in
    let exact : number ≡ digits_value 10 front =
    value ∙ ap (λ n. min (digits_value 10 (take n text)) 9999) counted ∙ four in
    rw fits (ap Some exact)
