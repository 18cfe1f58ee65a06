-- The moment that a cookie-date stands for, over the list of its tokens.
-- Source: RFC 6265bis, "Dates": the algorithm to parse a cookie-date.
-- Our own choice: none. A leap second has no moment, and zones and weekdays are passed over.
use Rattle.std.specs.Prelude.{ℕ, ◌+◌, ◌*◌, Bool, ◌==◌, ◌&&◌, ◌||◌, nat_le, nat_lt, if◌then◌else◌}
use Rattle.std.specs.Prelude.{List, [], ◌∷◌, length, take, drop, filter, codes, Option, Some, None}
use Rattle.std.specs.Prelude.{is_some, ℤ, pos, ◌+ℤ◌, ◌*ℤ◌}
use Rattle.std.specs.List.{prefix_len, take_while, slice_split, slice_index}
use Rattle.std.specs.Option.{option_or, option_and_then}
use Rattle.std.specs.Char.{is_ascii_digit}
use Rattle.std.specs.Int.{is_in_range}
use Rattle.std.specs.Str.{byte}
use Rattle.std.specs.Str.Parse.{digits_value}
use Rattle.jiff_core.specs.Calendar.{days_in_month, days_from_civil}
use Rattle.case_tables.specs.Rows.{first_value, same_in_any_case}
use Rattle.setcookie_parse.specs.declared.token.Clock.{Clock}

-- tab, space to `/`, `;` to `@`, `[` to the backquote, and `{` to `~`
abbrev pub is_delimiter : ℕ → Bool
is_delimiter b =
    (b == 0x09) || is_in_range 0x20 0x2F b || is_in_range 0x3B 0x40 b
    || is_in_range 0x5B 0x60 b || is_in_range 0x7B 0x7E b

-- the longest runs without a delimiter, in order
abbrev pub tokens_of : List ℕ → List (List ℕ)
tokens_of text = filter (λ token. nat_lt 0 (length token)) (slice_split is_delimiter text)

-- the number that a text begins with, where it has from `least` to `most` digits
abbrev pub leading_number : ℕ → ℕ → List ℕ → Option ℕ
leading_number least most text =
    let digits = take_while is_ascii_digit text in
    if nat_le least (length digits) && nat_le (length digits) most
    then Some (digits_value 10 digits)
    else None

-- what follows the digits that a text begins with and a colon, if a colon follows them
abbrev pub after_colon : List ℕ → Option (List ℕ)
after_colon text =
    let rest = drop (prefix_len is_ascii_digit text) text in
    if slice_index rest 0 == byte ":" then Some (drop 1 rest) else None

-- three numbers make a time of day
abbrev pub clock_of : Option ℕ → Option ℕ → Option ℕ → Option Clock
clock_of (Some hour) (Some minute) (Some second) =
    Some (record { hour = hour; minute = minute; second = second })
clock_of _ _ _ = None

-- a token of time form: three numbers of one or two digits with colons between them
abbrev pub time_of : List ℕ → Option Clock
time_of token =
    let field = leading_number 1 2 in
    let minute = after_colon token in
    let second = option_and_then after_colon minute in
    clock_of (field token) (option_and_then field minute) (option_and_then field second)

-- a token of day form
abbrev pub day_of : List ℕ → Option ℕ
day_of token = leading_number 1 2 token

-- the months by the letters that they begin with
abbrev pub months : List (List ℕ × ℕ)
months =
    (codes "jan", 1) ∷ (codes "feb", 2) ∷ (codes "mar", 3) ∷ (codes "apr", 4)
    ∷ (codes "may", 5) ∷ (codes "jun", 6) ∷ (codes "jul", 7) ∷ (codes "aug", 8)
    ∷ (codes "sep", 9) ∷ (codes "oct", 10) ∷ (codes "nov", 11) ∷ (codes "dec", 12) ∷ []

-- a token of month form
abbrev pub month_of : List ℕ → Option ℕ
month_of token = first_value (λ name. same_in_any_case name (take 3 token)) months

-- a token of year form
abbrev pub year_of : List ℕ → Option ℕ
year_of token = leading_number 2 4 token

-- what the first token of a form says
abbrev pub first_of : {A : Type 0} → (List ℕ → Option A) → List (List ℕ) → Option A
first_of form [] = None
first_of form (token ∷ tokens) = option_or (form token) (first_of form tokens)

-- the tokens without the first of a form
abbrev pub without_first : {A : Type 0} → (List ℕ → Option A) → List (List ℕ) → List (List ℕ)
without_first form [] = []
without_first form (token ∷ tokens) =
    if is_some (form token) then tokens else token ∷ without_first form tokens

-- a year of two digits is one of 1970 to 2069
abbrev pub full_year : ℕ → ℕ
full_year year =
    if nat_le year 69 then 2000 + year else (if nat_le year 99 then 1900 + year else year)

-- whether the calendar has a day
abbrev pub is_civil_day : ℕ → ℕ → ℕ → Bool
is_civil_day year month day =
    is_in_range 1 12 month && is_in_range 1 (days_in_month (pos year) month) day

-- whether four parts name a moment; a year of four digits is at most 9999
abbrev pub is_moment : Clock → ℕ → ℕ → ℕ → Bool
is_moment time day month year =
    is_in_range 1601 9999 year && is_civil_day year month day
    && nat_le time.hour 23 && nat_le time.minute 59 && nat_le time.second 59

-- the seconds from 1970-01-01T00:00:00 to a time of a civil day, in UTC
abbrev pub seconds_at : Clock → ℕ → ℕ → ℕ → ℤ
seconds_at time day month year =
    days_from_civil (pos year) month day *ℤ pos 86400
    +ℤ pos (time.hour * 3600 + time.minute * 60 + time.second)

-- the moment of four parts, if all are there and name one
abbrev pub moment_of : Option Clock → Option ℕ → Option ℕ → Option ℕ → Option ℤ
moment_of (Some time) (Some day) (Some month) (Some year) =
    if is_moment time day month (full_year year)
    then Some (seconds_at time day month (full_year year))
    else None
moment_of _ _ _ _ = None

-- the moment of a cookie-date. The day is no part of the time's token, and the year is no part
-- of the time's or the day's.
abbrev pub date_of : List (List ℕ) → Option ℤ
date_of tokens =
    let others = without_first time_of tokens in
    moment_of (first_of time_of tokens) (first_of day_of others) (first_of month_of tokens)
    (first_of year_of (without_first day_of others))

-- the moment of a text
abbrev pub cookie_date : List ℕ → Option ℤ
cookie_date text = date_of (tokens_of text)
