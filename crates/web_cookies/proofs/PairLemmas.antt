-- What of a Set-Cookie text is kept: its name and its value have at most 4096 octets together.
use Rattle.std.proofs.Common.{◌≡◌, ℤ, ℕ, ◌+◌, ◌≤◌, Bool, true, false, cond, List, length, refl}
use Rattle.std.specs.Prelude.{◌==◌, drop, nat_lt}
use Rattle.std.specs.List.{before_first, list_any, slice_split}
use Rattle.std.proofs.lemmas.Bool.{ltb-false}
use Rattle.setcookie_parse.specs.declared.cookie.DropCause.TheVariants as why
use Rattle.setcookie_parse.specs.SetCookie as text_of
use Rattle.setcookie_parse.specs.SetCookie.{Parsed, Kept, Dropped, cookie_of, set_cookie_text}

-- the pair of what was kept
abbrev pub HasShortPair : Parsed → Type 0
HasShortPair (Kept text) = length text.name + length text.value ≤ 4096
HasShortPair (Dropped cause) = Unit {0}

pub short_pair : (text : List ℕ) (now : ℤ) → HasShortPair (set_cookie_text text now)
short_pair text now = at (list_any text_of.is_control text)
  where
    pair : List ℕ
    pair = before_first text_of.is_semicolon text

    pieces : List (List ℕ)
    pieces = drop 1 (slice_split text_of.is_semicolon text)

    octets : ℕ
    octets = length (text_of.name_of pair) + length (text_of.value_of pair)

    by : (long empty : Bool) → nat_lt 4096 octets ≡ long
        → HasShortPair (cond long (Dropped why.TooLong) (cond empty (Dropped why.Empty) (Kept (cookie_of pair pieces now))))
    by true empty is = tt
    by false true is = tt
    by false false is = ltb-false 4096 octets is

    at : (b : Bool) → HasShortPair (cond b (Dropped why.Control) (text_of.answer_of pair pieces now))
    at true = tt
    at false = by (nat_lt 4096 octets) (octets == 0) refl
