-- A token that begins with a digit is no month, and one that begins with none is no number.
use Rattle.std.proofs.Common.{◌≡◌, ℕ, ◌<◌, ◌≤◌, Bool, true, false, nat_lt, nat_le, ◌==◌, List, [], ◌∷◌, Option, None, inl, inr, ◌⊎◌, refl, arith, lit≤, lit<}
use Rattle.std.specs.Char.{is_ascii_digit}
use Rattle.std.proofs.lemmas.Bool.Decides.{nat_tests}
use Rattle.setcookie_parse.specs.CookieDate.{leading_number, clock_of, time_of, day_of, month_of, year_of}

-- a token is no month, or it is no time, no day and no year
abbrev pub IsOneKind : List ℕ → Type 0
IsOneKind token =
    (month_of token ≡ None) ⊎ ((time_of token ≡ None) × (day_of token ≡ None) × (year_of token ≡ None))

digit_is_small : (b : ℕ) → is_ascii_digit b ≡ true → nat_lt b 65 ≡ true
digit_is_small b digit = grind (arith, nat_tests)

digit_is_no_letter : (b letter : ℕ) → is_ascii_digit b ≡ true → 65 ≤ letter → (letter == b) ≡ false
digit_is_no_letter b letter digit big = grind (arith, nat_tests)

digit_is_no_month : (b : ℕ) (bs : List ℕ) → is_ascii_digit b ≡ true → month_of (b ∷ bs) ≡ None
digit_is_no_month b bs digit =
    let small = digit_is_small b digit in
    let j : (106 == b) ≡ false = digit_is_no_letter b 106 digit (lit≤ tt) in
    let f : (102 == b) ≡ false = digit_is_no_letter b 102 digit (lit≤ tt) in
    let m : (109 == b) ≡ false = digit_is_no_letter b 109 digit (lit≤ tt) in
    let a : (97 == b) ≡ false = digit_is_no_letter b 97 digit (lit≤ tt) in
    let s : (115 == b) ≡ false = digit_is_no_letter b 115 digit (lit≤ tt) in
    let o : (111 == b) ≡ false = digit_is_no_letter b 111 digit (lit≤ tt) in
    let n : (110 == b) ≡ false = digit_is_no_letter b 110 digit (lit≤ tt) in
    let d : (100 == b) ≡ false = digit_is_no_letter b 100 digit (lit≤ tt) in
    rw (small, j, f, m, a, s, o, n, d)

no_number : (least most b : ℕ) (bs : List ℕ) → is_ascii_digit b ≡ false → 0 < least → leading_number least most (b ∷ bs) ≡ None
no_number least most b bs other some =
    let more : nat_le least 0 ≡ false = grind (arith, nat_tests) in
    rw (other, more)

no_clock : (minute second : Option ℕ) → clock_of None minute second ≡ None
no_clock minute second = refl

by_first : (b : ℕ) (bs : List ℕ) (digit : Bool) → is_ascii_digit b ≡ digit → IsOneKind (b ∷ bs)
by_first b bs true digit = inl (digit_is_no_month b bs digit)
by_first b bs false digit =
    let short = no_number 1 2 b bs digit (lit< tt) in
    let long = no_number 2 4 b bs digit (lit< tt) in
    inr (rw short refl, short, long)

pub one_kind : (token : List ℕ) → IsOneKind token
one_kind [] = inl refl
one_kind (b ∷ bs) = by_first b bs (is_ascii_digit b) refl
