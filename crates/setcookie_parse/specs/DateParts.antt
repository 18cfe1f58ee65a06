-- What the tokens of a cookie-date have said so far, and what the tokens behind them add.
use Rattle.std.specs.Prelude.{ℕ, ℤ, Bool, ◌==◌, ◌&&◌, if◌then◌else◌, List, [], length, Option}
use Rattle.std.specs.Prelude.{Some, None, is_some, is_none}
use Rattle.std.specs.List.{slice_split}
use Rattle.std.specs.Option.{option_or}
use Rattle.setcookie_parse.specs.declared.parts.Parts.{Parts}
use Rattle.setcookie_parse.specs.CookieDate.{time_of, day_of, month_of, year_of, first_of}
use Rattle.setcookie_parse.specs.CookieDate.{without_first, moment_of}

-- whether a token is taken as a part that is not found yet
abbrev pub is_taken : {A : Type 0} → Option A → Option A → Bool
is_taken found said = is_none found && is_some said

-- the parts with one more token
abbrev pub with_token : Parts → List ℕ → Parts
with_token parts token =
    if is_taken parts.time (time_of token) then record parts { time = time_of token }
    else (if is_taken parts.day (day_of token) then record parts { day = day_of token }
    else (if is_taken parts.month (month_of token) then record parts { month = month_of token }
    else (if is_taken parts.year (year_of token) then record parts { year = year_of token }
    else parts)))

-- the parts with one more piece, which may be empty
abbrev pub with_piece : Parts → List ℕ → Parts
with_piece parts piece = if length piece == 0 then parts else with_token parts piece

-- the tokens that are left for later parts
abbrev pub left_by : {A : Type 0} → Option A → (List ℕ → Option A) → List (List ℕ) → List (List ℕ)
left_by None form tokens = without_first form tokens
left_by (Some _) form tokens = tokens

-- the moment of the parts so far and the tokens behind them
abbrev pub completed : Parts → List (List ℕ) → Option ℤ
completed parts tokens =
    let others = left_by parts.time time_of tokens in
    moment_of (option_or parts.time (first_of time_of tokens))
    (option_or parts.day (first_of day_of others))
    (option_or parts.month (first_of month_of tokens))
    (option_or parts.year (first_of year_of (left_by parts.day day_of others)))

-- the pieces of what stands behind a delimiter
abbrev pub pieces_after : (ℕ → Bool) → Option (List ℕ) → List (List ℕ)
pieces_after divides (Some rest) = slice_split divides rest
pieces_after divides None = []
