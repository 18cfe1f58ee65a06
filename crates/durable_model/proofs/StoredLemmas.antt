-- What is stored of a Set-Cookie text: it has few bytes, and its cell has no two cookies that are the
-- same.
use Rattle.std.proofs.Common.{◌≡◌, ℕ, ℤ, ◌+◌, ◌≤◌, Bool, true, false, cond, List, [], ◌∷◌, length, refl, sym, ap, subst}
use Rattle.std.specs.Prelude.{◌==◌, drop, nat_lt}
use Rattle.std.specs.List.{before_first, list_any, slice_split}
use Rattle.std.proofs.lemmas.Bool.{ltb-false, ltb-true}
use Rattle.setcookie_parse.specs.SetCookie as text_of
use Rattle.setcookie_parse.specs.SetCookie.{CookieText, Parsed, Kept, Dropped, set_cookie_text}
use Rattle.setcookie_parse.specs.declared.cookie.DropCause.TheVariants as why
use Rattle.stored_cookie.specs.StoredCookie.{PlainCookie}
use Rattle.partition_limits.specs.declared.tally.CellKind.{CellKind}
use Rattle.cookie_jar.specs.Cookie.{copies}
use Rattle.cookie_jar.specs.Lifetime.{is_expired}
use Rattle.cookie_jar.specs.Steps.{after_steps, live_steps, place_of, remove_step, removal_at, stored}
use Rattle.cookie_jar.proofs.CellLemmas.{removed_once}
use Rattle.cookie_jar.proofs.ValidLaws.{stored_once}
use Rattle.agent_model.specs.CookieCells.{Cookies}

-- a text that is kept has at most 4,096 bytes in name and value
abbrev pub IsSmall : Parsed → Type 0
IsSmall (Kept text) = length text.name + length text.value ≤ 4096
IsSmall (Dropped cause) = Unit {0}

pub parsed_small : (text : List ℕ) (now : ℤ) → IsSmall (set_cookie_text text now)
parsed_small text now = at (list_any text_of.is_control text)
  where
    pair : List ℕ
    pair = before_first text_of.is_semicolon text

    octets : ℕ
    octets = length (text_of.name_of pair) + length (text_of.value_of pair)

    by : (pieces : List (List ℕ)) (long empty : Bool) → nat_lt 4096 octets ≡ long
        → IsSmall (cond long (Dropped why.TooLong) (cond empty (Dropped why.Empty) (Kept (text_of.cookie_of pair pieces now))))
    by pieces true empty is = tt
    by pieces false true is = tt
    by pieces false false is = ltb-false 4096 octets is

    at : (b : Bool) → IsSmall (cond b (Dropped why.Control) (text_of.answer_of pair (drop 1 (slice_split text_of.is_semicolon text)) now))
    at true = tt
    at false = by (drop 1 (slice_split text_of.is_semicolon text)) (nat_lt 4096 octets) (octets == 0) refl

-- no two cookies are the same
abbrev pub AreOnce : Cookies → Type 0
AreOnce cookies = (c : PlainCookie) → copies c cookies ≤ 1

-- none are after a store
pub stays_once : (cell : CellKind) (now : ℤ) (fresh : PlainCookie) (cs : Cookies) → AreOnce cs → AreOnce (stored cell now fresh cs)
stays_once cell now fresh cs once = at (is_expired now fresh) refl
  where
    removed : (b : Bool) → nat_lt (place_of fresh cs) (length cs) ≡ b → AreOnce (after_steps fresh cs (cond b (remove_step (place_of fresh cs) cs ∷ []) []))
    removed true is = removed_once cs (place_of fresh cs) fresh (ltb-true (place_of fresh cs) (length cs) is) once
    removed false is = once

    at : (b : Bool) → is_expired now fresh ≡ b → AreOnce (stored cell now fresh cs)
    at true is =
        subst AreOnce (sym (ap (λ b. after_steps fresh cs (cond b (removal_at (place_of fresh cs) cs) (live_steps cell now fresh cs))) is))
        (removed (nat_lt (place_of fresh cs) (length cs)) refl)
    at false is = stored_once cell now fresh cs is once
