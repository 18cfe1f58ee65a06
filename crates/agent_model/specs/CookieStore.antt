-- The cookies of both cells of a use: what goes out, and what storing texts makes of them.
-- Source: RFC 6265bis, "Retrieval Model" (the Cookie header field, the retrieval algorithm, whose
-- last step sets the last-access-time) and "Storage Model"; CHIPS, "Using Set-Cookie with
-- Partitioned".
-- Our own choice: a script's reading sets no time of last use, where the draft's algorithm sets it.
use Rattle.std.specs.Prelude.{ℕ, pos, List, [], ◌∷◌, ◌++◌, map, filter, codes, Option, Some, None}
use Rattle.std.specs.Prelude.{Result, Ok, Err}
use Rattle.case_tables.specs.Rows.{same_in_any_case}
use Rattle.suffix_list.specs.Suffix.{Rule}
use Rattle.setcookie_parse.specs.SetCookie.{CookieText, Parsed, Kept, Dropped, set_cookie_text}
use Rattle.partition_limits.specs.declared.tally.CellKind.TheVariants as kind
use Rattle.cookie_jar.specs.declared.access.Destination.{Destination}
use Rattle.cookie_jar.specs.declared.access.Destination.TheVariants as to
use Rattle.cookie_jar.specs.declared.cause.CookieDrop.{CookieDrop}
use Rattle.cookie_jar.specs.Access.{destination}
use Rattle.cookie_jar.specs.Planned.{PlainPlan, planned}
use Rattle.cookie_jar.specs.Sending.{PlainSent, select, marked, ordered, joined}
use Rattle.cookie_jar.specs.Sending as sending
use Rattle.cookie_jar.specs.Key.{PlainKey as PlainCell}
use Rattle.cookie_jar.specs.Persistent.{CookieRow, RowInsert, RowReplace, RowRemove}
use Rattle.cookie_jar.specs.Persistent.{rows_of_steps}
use Rattle.cookie_jar.specs.Steps.{after_steps}
use Rattle.row_changes.specs.Change.{PlainChange, CookieInsert, CookieReplace, CookieRemove}
use Rattle.script_actions.specs.Action.{HeadField}
use Rattle.agent_model.specs.CookieCells.{Cookies}
use Rattle.agent_model.specs.CookieUse.{CookieUse, access_of, own_cell, partition_cell}
use Rattle.agent_model.specs.CookieWords.{drop_word, parse_word, stored_word}

-- the cookies of the unpartitioned and of the partitioned cell
pub record BothCells : Type 0 where
  pub own : Cookies
  pub partition : Cookies

-- ---- what goes out

-- the places of the cookies that go out of the unpartitioned cell
abbrev pub own_places : ℕ → CookieUse → BothCells → List ℕ
own_places now how both = select kind.Own (access_of how) (pos now) both.own

-- the places of those that go out of the partitioned one
abbrev pub partition_places : ℕ → CookieUse → BothCells → List ℕ
partition_places now how both = select kind.Partition (access_of how) (pos now) both.partition

-- the cookies that go out, in order
abbrev pub sent : ℕ → CookieUse → BothCells → List PlainSent
sent now how both =
    ordered (sending.sent both.own (own_places now how both) both.partition
    (partition_places now how both))

-- the text of a header, where there is one: without a cookie there is none
abbrev pub header_text : List PlainSent → Option (List ℕ)
header_text [] = None
header_text (s ∷ ss) = Some (joined (s ∷ ss))

-- both cells, where the cookies that went out were used now
abbrev pub both_marked : ℕ → CookieUse → BothCells → BothCells
both_marked now how both =
    record {
      own = marked (own_places now how both) (pos now) both.own;
      partition = marked (partition_places now how both) (pos now) both.partition;
    }

-- ---- what is stored

-- both cells after a text, the row changes, and the word that answers it
pub record StoredText : Type 0 where
  pub both : BothCells
  pub changes : List PlainChange
  pub word : List ℕ

-- a change of the persistent cookies of a cell, as a row change
abbrev pub in_cell : PlainCell → CookieRow → PlainChange
in_cell cell (RowInsert place cookie) = CookieInsert cell place cookie
in_cell cell (RowReplace place cookie) = CookieReplace cell place cookie
in_cell cell (RowRemove place) = CookieRemove cell place

-- nothing is stored
abbrev pub stores_none : BothCells → List ℕ → StoredText
stores_none both word = record { both = both; changes = []; word = word }

-- a plan for one of the cells is done, or the cookie is dropped
abbrev pub done_by : PlainCell → (Cookies → BothCells) → Cookies → BothCells
    → Result PlainPlan CookieDrop → StoredText
done_by cell with cs both (Ok plan) =
    record {
      both = with (after_steps plan.fresh cs plan.steps);
      changes = map (in_cell cell) (rows_of_steps plan.fresh plan.steps);
      word = stored_word plan.kind;
    }
done_by cell with cs both (Err why) = stores_none both (drop_word why)

-- a cookie that goes to no cell is dropped
abbrev pub dropped_by : BothCells → Result PlainPlan CookieDrop → StoredText
dropped_by both (Ok plan) = stores_none both (stored_word plan.kind)
dropped_by both (Err why) = stores_none both (drop_word why)

-- a cookie is stored in the cell that it goes to
abbrev pub stored_in : Destination → List Rule → ℕ → CookieUse → CookieText → BothCells
    → StoredText
stored_in to.Own rules now how text both =
    done_by (own_cell rules how) (λ cs. record both { own = cs }) both.own both
    (planned rules text (access_of how) kind.Own (pos now) both.own)
stored_in to.Partition rules now how text both =
    done_by (partition_cell rules how) (λ cs. record both { partition = cs }) both.partition both
    (planned rules text (access_of how) kind.Partition (pos now) both.partition)
stored_in to.Nowhere rules now how text both =
    dropped_by both (planned rules text (access_of how) kind.Own (pos now) [])

-- the same of what a text was read as
abbrev pub store_parsed : List Rule → ℕ → CookieUse → BothCells → Parsed → StoredText
store_parsed rules now how both (Dropped why) = stores_none both (parse_word why)
store_parsed rules now how both (Kept text) =
    stored_in (destination text (access_of how)) rules now how text both

-- a Set-Cookie text is stored
abbrev pub store_text : List Rule → ℕ → CookieUse → BothCells → List ℕ → StoredText
store_text rules now how both text =
    store_parsed rules now how both (set_cookie_text text (pos now))

-- both cells after texts, the row changes, and the words that answer them
pub record StoredTexts : Type 0 where
  pub both : BothCells
  pub changes : List PlainChange
  pub words : List (List ℕ)

-- texts are stored in their order
abbrev pub store_texts : List Rule → ℕ → CookieUse → BothCells → List (List ℕ) → StoredTexts
store_texts rules now how both [] = record { both = both; changes = []; words = [] }
store_texts rules now how both (text ∷ texts) =
    let one = store_text rules now how both text in
    let more = store_texts rules now how one.both texts in
    record {
      both = more.both;
      changes = one.changes ++ more.changes;
      words = one.word ∷ more.words;
    }

-- the Set-Cookie texts of a response, whose field names count in any case
abbrev pub cookie_texts : List HeadField → List (List ℕ)
cookie_texts head =
    map (λ field. field.value)
    (filter (λ field. same_in_any_case field.name (codes "Set-Cookie")) head)
