-- What is stored in cells whose jars are not copied: a cookie in the place of the same one.
use Rattle.std.specs.Prelude.{◌≡◌, ℕ, ℤ, List, Some, map}
use Rattle.suffix_list.specs.Suffix.{Rule}
use Rattle.partition_limits.specs.declared.tally.CellKind.{CellKind}
use Rattle.partition_limits.specs.declared.tally.CellKind.TheVariants as kind
use Rattle.setcookie_parse.specs.SetCookie.{CookieText}
use Rattle.cookie_jar.specs.Access.{PlainAccess}
use Rattle.cookie_jar.specs.Key.{PlainKey as PlainCell}
use Rattle.cookie_jar.specs.Planned.{planned}
use Rattle.cookie_jar.specs.Sending.{marked}
use Rattle.row_changes.specs.Plain.{plain_change}
use Rattle.agent_model.specs.CookieCells.{Cookies}
use Rattle.agent_model.specs.CookieStore.{BothCells, StoredText, StoredTexts}
use Rattle.web_cookies.specs.Becoming.{replaced_in}
use Rattle.web_cookies.specs.Words.{AreStored, IsStored, jar_left, rows_by, word_by}
use Rattle.web_cookies.specs.declared.in_place.InPlace.{InPlace}
use Rattle.web_cookies.specs.declared.in_place.Replaced.{Replaced}

-- storing a cookie in a cell of a kind is this, whichever of its cookies were used before
abbrev pub IsReplaced : List Rule → ℤ → CookieText → PlainAccess → CellKind → Cookies → PlainCell
    → Replaced → Type 0
IsReplaced rules now text access kind old cell stored =
    (places : List ℕ) (at : ℤ)
    → let cookies = marked places at old in
    let plan = planned rules text access kind now cookies in
    (replaced_in kind (Some stored.new) cookies ≡ jar_left cookies plan)
    × (stored.word.now ≡ word_by plan) × (map plain_change stored.rows.items ≡ rows_by cell plan)

-- both cells, where cookies at these places were used at a moment
abbrev pub both_used : List ℕ → List ℕ → ℤ → BothCells → BothCells
both_used own partition at both =
    record { own = marked own at both.own; partition = marked partition at both.partition }

-- both cells, where cookies may be put in the places of the same ones
abbrev pub both_replaced : InPlace → BothCells → BothCells
both_replaced stored both =
    record {
      own = replaced_in kind.Own stored.own both.own;
      partition = replaced_in kind.Partition stored.partition both.partition;
    }

-- storing a text in both cells is this, whichever of their cookies were used before
abbrev pub IsInPlace : (BothCells → StoredText) → BothCells → InPlace → List ℕ → Type 0
IsInPlace store both stored word =
    (own partition : List ℕ) (at : ℤ)
    → let used = both_used own partition at both in
    IsStored (store used) (both_replaced stored used) word
    × (map plain_change stored.rows.items ≡ (store used).changes)

-- and so are several
abbrev pub AreInPlace : (BothCells → StoredTexts) → BothCells → InPlace → List (List ℕ) → Type 0
AreInPlace store both stored words =
    (own partition : List ℕ) (at : ℤ)
    → let used = both_used own partition at both in
    AreStored (store used) (both_replaced stored used) words
    × (map plain_change stored.rows.items ≡ (store used).changes)
