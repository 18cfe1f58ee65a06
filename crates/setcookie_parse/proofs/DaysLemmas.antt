-- The days from 1970-01-01 on, and their seconds.
use Rattle.std.proofs.Common.{◌≡◌, ℕ, ◌+◌, ◌*◌, ◌≤◌, Bool, true, false, if◌then◌else◌, nat_le, Some, None, FitsSigned, w64, arith, lit<, refl, ap, ◌∙◌}
use Rattle.std.specs.Prelude.{ℤ, pos, ◌+ℤ◌, ◌-ℤ◌, ◌*ℤ◌, int_div}
use Rattle.std.specs.Int.{is_in_range}
use Rattle.std.proofs.lemmas.Bool.Decides.{nat_tests}
use Rattle.std.proofs.lemmas.Int.{quot-rem, rem_below, ints, to_z-of_z}
use mir.Val.{to_z, of_z}
use Rattle.jiff_core.specs.Calendar.{days_from_civil, day_count, IsWithin}
use Rattle.setcookie_parse.specs.declared.token.Clock.{Clock}
use Rattle.setcookie_parse.specs.CookieDate.{is_civil_day, is_moment, seconds_at}

pub div_days : (x : ℤ) → int_div (x *ℤ pos 86400000000000) (pos 1000000000) ≡ x *ℤ pos 86400
div_days x =
    let whole = quot-rem (x *ℤ pos 86400000000000) (pos 1000000000) in
    let small = rem_below (x *ℤ pos 86400000000000) (pos 1000000000) (lit< tt) in
    omega (arith, ints)

sub_self : (n : ℕ) → pos n -ℤ pos n ≡ pos 0
sub_self n = omega (arith, ints)

pub epoch_zero : days_from_civil (pos 1970) 1 1 ≡ pos 0
unfolding days_from_civil
epoch_zero = sub_self (day_count (pos 1970) 1 1)

-- the seconds of a day added to its beginning
pub sum_fits : (start : ℤ) (seconds : ℕ) (added : ℤ) → IsWithin 400000000000 start → seconds ≤ 86399 → added ≡ pos seconds
    → FitsSigned w64 (to_z w64 (of_z w64 start) +ℤ to_z w64 (of_z w64 added))
    × (to_z w64 (of_z w64 (to_z w64 (of_z w64 start) +ℤ to_z w64 (of_z w64 added))) ≡ start +ℤ pos seconds)
sum_fits start seconds added range few same =
    let low = range.0 in
    let high = range.1 in
    let first : to_z w64 (of_z w64 start) ≡ start = to_z-of_z w64 start (omega (arith, ints)) in
    let second : to_z w64 (of_z w64 added) ≡ added = to_z-of_z w64 added (omega (arith, ints)) in
    let fits : FitsSigned w64 (start +ℤ added) = omega (arith, ints) in
    rw (first, second) (fits, to_z-of_z w64 (start +ℤ added) fits ∙ ap (λ z. start +ℤ z) same)

moment_at : (time : Clock) (day month year : ℕ) (start : ℤ) (there : Bool) → is_civil_day year month day ≡ there
    → Some start ≡ (if there then Some (days_from_civil (pos year) month day *ℤ pos 86400) else None)
    → (is_in_range 1601 9999 year ≡ true) → (nat_le time.hour 23 ≡ true) → (nat_le time.minute 59 ≡ true) → (nat_le time.second 59 ≡ true)
    → (seconds : ℕ) → seconds ≡ time.hour * 3600 + time.minute * 60 + time.second
    → Some (start +ℤ pos seconds)
    ≡ (if is_moment time day month year then Some (seconds_at time day month year) else None)
moment_at time day month year start true there begins y h m s seconds counted =
    let begin : start ≡ days_from_civil (pos year) month day *ℤ pos 86400 = cc in
    rw (there, y, h, m, s) (rw (begin, counted) refl)
moment_at time day month year start false there begins y h m s seconds counted = cc

-- four parts whose day is there, and whose numbers are in range
pub moment_is : (time : Clock) (day month year : ℕ) (start : ℤ)
    → Some start ≡ (if is_civil_day year month day then Some (days_from_civil (pos year) month day *ℤ pos 86400) else None)
    → 1601 ≤ year → year ≤ 9999 → time.hour ≤ 23 → time.minute ≤ 59 → time.second ≤ 59
    → (seconds : ℕ) → seconds ≡ time.hour * 3600 + time.minute * 60 + time.second
    → Some (start +ℤ pos seconds)
    ≡ (if is_moment time day month year then Some (seconds_at time day month year) else None)
moment_is time day month year start begins old new h m s seconds counted =
    moment_at time day month year start (is_civil_day year month day) refl begins
    (grind (arith, nat_tests)) (grind (arith, nat_tests)) (grind (arith, nat_tests)) (grind (arith, nat_tests)) seconds counted
