-- One more token of a cookie-date, over the parts so far and the tokens behind.
use Rattle.std.specs.Prelude.{ℤ}
use Rattle.std.proofs.Common.{◌≡◌, ℕ, Bool, true, false, List, [], ◌∷◌, Option, Some, None, refl, ap, ◌∙◌, sym, if◌then◌else◌, ◌⊎◌, ⊎_elim, length, filter, nat_lt, ◌==◌, arith}
use Rattle.std.proofs.lemmas.Bool.{false≢true}
use Rattle.std.proofs.lemmas.Bool.Decides.{nat_tests}
use Rattle.std.specs.List.{slice_split}
use Rattle.std.specs.Option.{option_or}
use Rattle.setcookie_parse.specs.declared.parts.Parts.{Parts}
use Rattle.setcookie_parse.specs.declared.token.Clock.{Clock}
use Rattle.setcookie_parse.specs.CookieDate.{is_delimiter, tokens_of, time_of, day_of, month_of, year_of, first_of, moment_of}
use Rattle.setcookie_parse.proofs.MonthsLemmas.{one_kind}
use Rattle.setcookie_parse.specs.DateParts.{is_taken, with_token, with_piece, left_by, completed}

-- a token that is not taken changes nothing of its part
passed_value : {A : Type 0} (found said rest : Option A) → is_taken found said ≡ false
    → option_or found (option_or said rest) ≡ option_or found rest
passed_value None None rest free = refl
passed_value None (Some x) rest free = cc
passed_value (Some x) said rest free = refl

passed_tokens : {A : Type 0} (found said : Option A) (form : List ℕ → Option A) (token : List ℕ) (tokens : List (List ℕ))
    → form token ≡ said → is_taken found said ≡ false
    → left_by found form (token ∷ tokens) ≡ token ∷ left_by found form tokens
passed_tokens None None form token tokens same free = rw same refl
passed_tokens None (Some x) form token tokens same free = cc
passed_tokens (Some x) said form token tokens same free = refl

-- a token that is taken is the part, and leaves the tokens behind it
taken_value : {A : Type 0} (found said rest : Option A) → is_taken found said ≡ true
    → option_or found (option_or said rest) ≡ option_or said rest
taken_value None said rest free = refl
taken_value (Some x) said rest free = cc

taken_tokens : {A : Type 0} (found said : Option A) (form : List ℕ → Option A) (token : List ℕ) (tokens : List (List ℕ))
    → form token ≡ said → is_taken found said ≡ true
    → left_by found form (token ∷ tokens) ≡ left_by said form tokens
taken_tokens None None form token tokens same free = cc
taken_tokens None (Some x) form token tokens same free = rw same refl
taken_tokens (Some x) said form token tokens same free = cc

-- a token that has not the form of a part changes nothing of it
no_value : {A : Type 0} (found said rest : Option A) → said ≡ None
    → option_or found (option_or said rest) ≡ option_or found rest
no_value found said rest same = rw same refl

-- a token of one kind that is taken as another has not the form of a month
taken_is_said : {A : Type 0} (found said : Option A) → said ≡ None → is_taken found said ≡ false
taken_is_said None said none = rw none refl
taken_is_said (Some x) said none = refl

nothing_left : {A : Type 0} (found : Option A) (form : List ℕ → Option A) → left_by found form [] ≡ []
nothing_left None form = refl
nothing_left (Some x) form = refl

option_or_none : {A : Type 0} (found : Option A) → option_or found None ≡ found
option_or_none None = refl
option_or_none (Some x) = refl

module _ (time : List ℕ → Option Clock) (day month year : List ℕ → Option ℕ) where
  -- the parts with one more token, over any four forms
  abbrev pub taken_in : Parts → List ℕ → Parts
  taken_in parts token =
      if is_taken parts.time (time token) then record parts { time = time token }
      else (if is_taken parts.day (day token) then record parts { day = day token }
      else (if is_taken parts.month (month token) then record parts { month = month token }
      else (if is_taken parts.year (year token) then record parts { year = year token }
      else parts)))

  -- the moment of the parts so far and the tokens behind them
  abbrev pub finished : Parts → List (List ℕ) → Option ℤ
  finished parts tokens =
      let others = left_by parts.time time tokens in
      moment_of (option_or parts.time (first_of time tokens)) (option_or parts.day (first_of day others))
      (option_or parts.month (first_of month tokens))
      (option_or parts.year (first_of year (left_by parts.day day others)))

  module _ (parts : Parts) (token : List ℕ) (tokens : List (List ℕ)) where
    -- the token is no month, or it is no time, no day and no year
    abbrev pub OneKind : Type 0
    OneKind = (month token ≡ None) ⊎ ((time token ≡ None) × (day token ≡ None) × (year token ≡ None))

    by_time : is_taken parts.time (time token) ≡ true → month token ≡ None
        → finished (record parts { time = time token }) tokens ≡ finished parts (token ∷ tokens)
    by_time taken other =
        let value = taken_value parts.time (time token) (first_of time tokens) taken in
        let left = taken_tokens parts.time (time token) time token tokens refl taken in
        let kept = no_value parts.month (month token) (first_of month tokens) other in
        sym (rw (value, left, kept))

    module _ (not_time : is_taken parts.time (time token) ≡ false) where
      same_clock : option_or parts.time (first_of time (token ∷ tokens)) ≡ option_or parts.time (first_of time tokens)
      same_clock = passed_value parts.time (time token) (first_of time tokens) not_time

      same_others : left_by parts.time time (token ∷ tokens) ≡ token ∷ left_by parts.time time tokens
      same_others = passed_tokens parts.time (time token) time token tokens refl not_time

      by_day : is_taken parts.day (day token) ≡ true → month token ≡ None
          → finished (record parts { day = day token }) tokens ≡ finished parts (token ∷ tokens)
      by_day taken other =
          let others = left_by parts.time time tokens in
          let value = taken_value parts.day (day token) (first_of day others) taken in
          let left = taken_tokens parts.day (day token) day token others refl taken in
          let kept = no_value parts.month (month token) (first_of month tokens) other in
          sym (rw (same_clock, same_others, value, left, kept))

      module _ (not_day : is_taken parts.day (day token) ≡ false) where
        same_day : option_or parts.day (first_of day (token ∷ left_by parts.time time tokens)) ≡ option_or parts.day (first_of day (left_by parts.time time tokens))
        same_day = passed_value parts.day (day token) (first_of day (left_by parts.time time tokens)) not_day

        same_left : left_by parts.day day (token ∷ left_by parts.time time tokens) ≡ token ∷ left_by parts.day day (left_by parts.time time tokens)
        same_left = passed_tokens parts.day (day token) day token (left_by parts.time time tokens) refl not_day

        by_month : is_taken parts.month (month token) ≡ true → year token ≡ None
            → finished (record parts { month = month token }) tokens ≡ finished parts (token ∷ tokens)
        by_month taken other =
            let value = taken_value parts.month (month token) (first_of month tokens) taken in
            let kept = no_value parts.year (year token) (first_of year (left_by parts.day day (left_by parts.time time tokens))) other in
            sym (rw (same_clock, same_others, same_day, same_left, value, kept))

        by_year : is_taken parts.month (month token) ≡ false → is_taken parts.year (year token) ≡ true
            → finished (record parts { year = year token }) tokens ≡ finished parts (token ∷ tokens)
        by_year not_month taken =
            let value = taken_value parts.year (year token) (first_of year (left_by parts.day day (left_by parts.time time tokens))) taken in
            let kept = passed_value parts.month (month token) (first_of month tokens) not_month in
            sym (rw (same_clock, same_others, same_day, same_left, value, kept))

        by_nothing : is_taken parts.month (month token) ≡ false → is_taken parts.year (year token) ≡ false
            → finished parts tokens ≡ finished parts (token ∷ tokens)
        by_nothing not_month not_year =
            let value = passed_value parts.year (year token) (first_of year (left_by parts.day day (left_by parts.time time tokens))) not_year in
            let kept = passed_value parts.month (month token) (first_of month tokens) not_month in
            sym (rw (same_clock, same_others, same_day, same_left, value, kept))

        at_year : is_taken parts.month (month token) ≡ false → (taken : Bool) → is_taken parts.year (year token) ≡ taken
            → finished (if taken then record parts { year = year token } else parts) tokens ≡ finished parts (token ∷ tokens)
        at_year not_month true taken = by_year not_month taken
        at_year not_month false free = by_nothing not_month free

        at_month : OneKind → (taken : Bool) → is_taken parts.month (month token) ≡ taken
            → finished (if taken then record parts { month = month token }
            else (if is_taken parts.year (year token) then record parts { year = year token } else parts)) tokens
            ≡ finished parts (token ∷ tokens)
        at_month kind true taken =
            ⊎_elim
            (λ none. absurd (false≢true (sym (taken_is_said parts.month (month token) none) ∙ taken)))
            (λ others. by_month taken others.2)
            kind
        at_month kind false free = at_year free (is_taken parts.year (year token)) refl

      at_day : OneKind → (taken : Bool) → is_taken parts.day (day token) ≡ taken
          → finished (if taken then record parts { day = day token }
          else (if is_taken parts.month (month token) then record parts { month = month token }
          else (if is_taken parts.year (year token) then record parts { year = year token } else parts))) tokens
          ≡ finished parts (token ∷ tokens)
      at_day kind true taken =
          ⊎_elim
          (λ none. by_day taken none)
          (λ others. absurd (false≢true (sym (taken_is_said parts.day (day token) others.1) ∙ taken)))
          kind
      at_day kind false free = at_month free kind (is_taken parts.month (month token)) refl

    at_time : OneKind → (taken : Bool) → is_taken parts.time (time token) ≡ taken
        → finished (if taken then record parts { time = time token }
        else (if is_taken parts.day (day token) then record parts { day = day token }
        else (if is_taken parts.month (month token) then record parts { month = month token }
        else (if is_taken parts.year (year token) then record parts { year = year token } else parts)))) tokens
        ≡ finished parts (token ∷ tokens)
    at_time kind true taken =
        ⊎_elim
        (λ none. by_time taken none)
        (λ others. absurd (false≢true (sym (taken_is_said parts.time (time token) others.0) ∙ taken)))
        kind
    at_time kind false free = at_day free kind (is_taken parts.day (day token)) refl

    -- one more token
    pub finished_more : OneKind → finished (taken_in parts token) tokens ≡ finished parts (token ∷ tokens)
    finished_more kind = at_time kind (is_taken parts.time (time token)) refl

  -- no token is left
  pub finished_all : (parts : Parts) → finished parts [] ≡ moment_of parts.time parts.day parts.month parts.year
  finished_all parts =
      rw (nothing_left parts.time time, nothing_left parts.day day, option_or_none parts.time, option_or_none parts.day, option_or_none parts.month, option_or_none parts.year)

-- one more piece, which may be empty
pub completed_piece : (parts : Parts) (piece : List ℕ) (pieces : List (List ℕ))
    → completed (with_piece parts piece) (filter (λ token. nat_lt 0 (length token)) pieces)
    ≡ completed parts (filter (λ token. nat_lt 0 (length token)) (piece ∷ pieces))
completed_piece parts [] pieces = refl
completed_piece parts (b ∷ bs) pieces =
    let rest = filter (λ token. nat_lt 0 (length token)) pieces in
    let more : nat_lt 0 (length (b ∷ bs)) ≡ true = grind (arith, nat_tests) in
    let some : (length (b ∷ bs) == 0) ≡ false = grind (arith, nat_tests) in
    let token : with_piece parts (b ∷ bs) ≡ with_token parts (b ∷ bs) =
    ap (λ test. if test then parts else with_token parts (b ∷ bs)) some in
    let kept : filter (λ token. nat_lt 0 (length token)) ((b ∷ bs) ∷ pieces) ≡ (b ∷ bs) ∷ rest =
    ap (λ test. if test then (b ∷ bs) ∷ rest else rest) more in
    ap (λ p. completed p rest) token
    ∙ finished_more time_of day_of month_of year_of parts (b ∷ bs) rest (one_kind (b ∷ bs))
    ∙ ap (completed parts) (sym kept)

-- no token is left
pub completed_all : (parts : Parts) → completed parts [] ≡ moment_of parts.time parts.day parts.month parts.year
completed_all parts = finished_all time_of day_of month_of year_of parts

-- the step of a walk over the pieces of a text
pub completed_step : (parts next : Parts) (text piece rest : List ℕ) → next ≡ with_piece parts piece
    → slice_split is_delimiter text ≡ piece ∷ slice_split is_delimiter rest
    → completed next (tokens_of rest) ≡ completed parts (tokens_of text)
completed_step parts next text piece rest taken split =
    ap (λ p. completed p (tokens_of rest)) taken
    ∙ completed_piece parts piece (slice_split is_delimiter rest)
    ∙ ap (λ pieces. completed parts (filter (λ token. nat_lt 0 (length token)) pieces)) (sym split)

-- its end
pub completed_end : (parts next : Parts) (text piece : List ℕ) → next ≡ with_piece parts piece
    → slice_split is_delimiter text ≡ piece ∷ []
    → moment_of next.time next.day next.month next.year ≡ completed parts (tokens_of text)
completed_end parts next text piece taken split =
    sym (completed_all next)
    ∙ ap (λ p. completed p []) taken
    ∙ completed_piece parts piece []
    ∙ ap (λ pieces. completed parts (filter (λ token. nat_lt 0 (length token)) pieces)) (sym split)
