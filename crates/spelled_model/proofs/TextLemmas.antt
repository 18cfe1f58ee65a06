-- What of a Set-Cookie text is kept: its bytes are few and not none, its path begins with `/`, and
-- its expiry fits 64 bits.
use Rattle.std.proofs.Common.{◌≡◌, ℤ, pos, ℕ, ◌+◌, ◌≤◌, Bool, true, false, cond, List, [], ◌∷◌, length, Option, Some, None, refl, subst, arith}
use Rattle.std.specs.Prelude.{◌==◌, ◌+ℤ◌, ◌≤ℤ◌, neg_ℤ, FitsSigned, drop, min, nat_lt}
use Rattle.std.specs.Int.{int_min, w64}
use Rattle.std.specs.List.{before_first, list_any, slice_index, slice_split}
use Rattle.std.specs.Str.Parse.{digits_value}
use Rattle.std.specs.Option.{option_or}
use Rattle.std.proofs.lemmas.Bool.{both_ways, eqb-false, ltb-false}
use Rattle.std.proofs.lemmas.Int.{int_min_is, ints}
use Rattle.std.proofs.lemmas.Option.{cond_some, none-some, option_and_then_some, same_Some}
use Rattle.jiff_core.proofs.CalendarLemmas.{days_from_civil-day_count}
use Rattle.setcookie_parse.specs.declared.attribute.Kind.{Kind}
use Rattle.setcookie_parse.specs.declared.attribute.Kind.TheVariants as kind
use Rattle.setcookie_parse.specs.declared.cookie.DropCause.TheVariants as why
use Rattle.setcookie_parse.specs.declared.token.Clock.{Clock}
use Rattle.setcookie_parse.specs.CookieDate.{cookie_date, day_of, first_of, full_year, is_moment, moment_of, month_of, seconds_at, time_of, tokens_of, without_first, year_of}
use Rattle.setcookie_parse.specs.SetCookie as text_of
use Rattle.setcookie_parse.specs.SetCookie.{CookieText, Parsed, Kept, Dropped, age_limit, cookie_of, expires_of, expiry_of, is_negative, is_number, max_age, max_age_of, path_in, set_cookie_text}
use Rattle.row_changes.specs.Spelled.{begins_with_slash}
use Rattle.agent_base.specs.Seconds.{last_moment}

-- a text that is kept
pub record IsReadText (text : CookieText) : Type 0 where
  pub some : 1 ≤ length text.name + length text.value
  pub small : length text.name + length text.value ≤ 4096
  pub path : (path : List ℕ) → text.path ≡ Some path → begins_with_slash path ≡ true
  pub expiry : (end : ℤ) → text.expiry ≡ Some end → FitsSigned w64 end

-- ---- what the last piece says

-- what holds of all that a piece says holds of what the last one says
last_says : {A : Type 0} (P : A → Type 0) (said : Option Kind → List ℕ → Option A) → ((k : Option Kind) (value : List ℕ) (a : A) → said k value ≡ Some a → P a)
    → (pieces : List (List ℕ)) (a : A) → text_of.last_of said pieces ≡ Some a → P a
last_says {A = A} P said each [] a e = absurd (none-some a e)
last_says {A = A} P said each (piece ∷ pieces) a e = by (text_of.last_of said pieces) (last_says P said each pieces a) e
  where
    by : (later : Option A) → (later ≡ Some a → P a) → option_or later (said (text_of.kind_of piece) (text_of.attribute_value piece)) ≡ Some a → P a
    by None is e = each (text_of.kind_of piece) (text_of.attribute_value piece) a e
    by (Some b) is e = is e

-- ---- the path

-- a text whose first byte is `/` begins with it
pub slash_first : (value : List ℕ) → (slice_index value 0 == 47) ≡ true → begins_with_slash value ≡ true
slash_first [] e = absurd (both_ways false refl e)
slash_first (b ∷ value) e = e

path_slash : (value path : List ℕ) → path_in value ≡ Some path → begins_with_slash path ≡ true
path_slash value path e =
    let is = cond_some (slice_index value 0 == 47) value path e in
    subst (λ p. begins_with_slash p ≡ true) is.1 (slash_first value is.0)

-- ---- the expiry

age_small : (k : Option Kind) (value : List ℕ) (age : ℕ) → max_age_of k value ≡ Some age → age ≤ 34560000
age_small None value age e = absurd (none-some age e)
age_small (Some kind.Expires) value age e = absurd (none-some age e)
age_small (Some kind.MaxAge) value age e = by (is_number value) (is_negative value) e
  where
    by : (number negative : Bool) → cond number (Some (min (digits_value 10 value) age_limit)) (cond negative (Some 0) None) ≡ Some age → age ≤ 34560000
    by true negative e = let is : min (digits_value 10 value) age_limit ≡ age = same_Some _ age e in omega (arith, is)
    by false true e = let is : ◌≡◌ {A = ℕ} 0 age = same_Some 0 age e in omega (arith, is)
    by false false e = absurd (none-some age e)
age_small (Some kind.Domain) value age e = absurd (none-some age e)
age_small (Some kind.Path) value age e = absurd (none-some age e)
age_small (Some kind.Secure) value age e = absurd (none-some age e)
age_small (Some kind.HttpOnly) value age e = absurd (none-some age e)
age_small (Some kind.Partitioned) value age e = absurd (none-some age e)
age_small (Some kind.SameSite) value age e = absurd (none-some age e)

-- a moment not before the calendar's first day
abbrev IsAfterFirst : ℤ → Type 0
IsAfterFirst z = neg_ℤ (pos 400000000000) ≤ℤ z

seconds_late : (time : Clock) (day month year : ℕ) → IsAfterFirst (seconds_at time day month year)
seconds_late time day month year = omega (arith, ints, days_from_civil-day_count (pos year) month day)

moment_late : (time : Option Clock) (day month year : Option ℕ) (z : ℤ) → moment_of time day month year ≡ Some z → IsAfterFirst z
moment_late None day month year z e = absurd (none-some z e)
moment_late (Some time) None month year z e = absurd (none-some z e)
moment_late (Some time) (Some day) None year z e = absurd (none-some z e)
moment_late (Some time) (Some day) (Some month) None z e = absurd (none-some z e)
moment_late (Some time) (Some day) (Some month) (Some year) z e =
    let is = cond_some (is_moment time day month (full_year year)) (seconds_at time day month (full_year year)) z e in
    subst IsAfterFirst is.1 (seconds_late time day month (full_year year))

date_late : (value : List ℕ) (z : ℤ) → cookie_date value ≡ Some z → IsAfterFirst z
date_late value z e =
    let tokens = tokens_of value in
    let others = without_first time_of tokens in
    moment_late (first_of time_of tokens) (first_of day_of others) (first_of month_of tokens) (first_of year_of (without_first day_of others)) z e

expires_late : (k : Option Kind) (value : List ℕ) (z : ℤ) → expires_of k value ≡ Some z → IsAfterFirst z
expires_late None value z e = absurd (none-some z e)
expires_late (Some kind.Expires) value z e = date_late value z e
expires_late (Some kind.MaxAge) value z e = absurd (none-some z e)
expires_late (Some kind.Domain) value z e = absurd (none-some z e)
expires_late (Some kind.Path) value z e = absurd (none-some z e)
expires_late (Some kind.Secure) value z e = absurd (none-some z e)
expires_late (Some kind.HttpOnly) value z e = absurd (none-some z e)
expires_late (Some kind.Partitioned) value z e = absurd (none-some z e)
expires_late (Some kind.SameSite) value z e = absurd (none-some z e)

expiry_fits : (now : ℕ) → now ≤ last_moment → (age : Option ℕ) → ((n : ℕ) → age ≡ Some n → n ≤ 34560000) → (date : Option ℤ) → ((z : ℤ) → date ≡ Some z → IsAfterFirst z)
    → (end : ℤ) → expiry_of (pos now) age date ≡ Some end → FitsSigned w64 end
expiry_fits now short (Some n) young date late end e =
    let is : pos now +ℤ pos n ≡ end = same_Some _ end e in
    let few = young n refl in
    subst (FitsSigned w64) is (omega (arith, ints, few, short))
expiry_fits now short None young (Some z) late end e =
    let is : int_min z (pos now +ℤ pos age_limit) ≡ end = same_Some _ end e in
    let after = late z refl in
    subst (FitsSigned w64) is (omega (arith, ints, after, short, int_min_is z (pos now +ℤ pos 34560000)))
expiry_fits now short None young None late end e = absurd (none-some end e)

-- ---- a text

-- a text that is kept
abbrev pub IsReadParsed : Parsed → Type 0
IsReadParsed (Kept text) = IsReadText text
IsReadParsed (Dropped cause) = Unit {0}

pub parsed_read : (text : List ℕ) (now : ℕ) → now ≤ last_moment → IsReadParsed (set_cookie_text text (pos now))
parsed_read text now short = at (list_any text_of.is_control text)
  where
    pair : List ℕ
    pair = before_first text_of.is_semicolon text

    pieces : List (List ℕ)
    pieces = drop 1 (slice_split text_of.is_semicolon text)

    octets : ℕ
    octets = length (text_of.name_of pair) + length (text_of.value_of pair)

    kept : octets ≤ 4096 → (octets ≡ 0 → ⊥) → IsReadText (cookie_of pair pieces (pos now))
    kept small some =
        record {
          some = omega (arith, some);
          small = small;
          path = λ path e. option_and_then_some path_in (text_of.last_of text_of.path_of pieces) path e (λ value there is. path_slash value path is);
          expiry = expiry_fits now short (text_of.last_of max_age_of pieces) (last_says (λ n. n ≤ 34560000) max_age_of age_small pieces)
              (text_of.last_of expires_of pieces) (last_says IsAfterFirst expires_of expires_late pieces);
        }

    by : (long empty : Bool) → nat_lt 4096 octets ≡ long → (octets == 0) ≡ empty
        → IsReadParsed (cond long (Dropped why.TooLong) (cond empty (Dropped why.Empty) (Kept (cookie_of pair pieces (pos now)))))
    by true empty is none = tt
    by false true is none = tt
    by false false is none = kept (ltb-false 4096 octets is) (eqb-false octets 0 none)

    at : (b : Bool) → IsReadParsed (cond b (Dropped why.Control) (text_of.answer_of pair pieces (pos now)))
    at true = tt
    at false = by (nat_lt 4096 octets) (octets == 0) refl refl
