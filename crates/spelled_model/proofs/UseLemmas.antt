-- Uses of cookies at read addresses: the row changes of what they store have a spelling.
use Rattle.std.proofs.Common.{◌≡◌, ℕ, pos, ◌≤◌, Bool, true, false, cond, List, [], ◌∷◌, Option, Some, None, refl, arith}
use Rattle.std.specs.List.{All}
use Rattle.std.proofs.lemmas.Bool.{and_from}
use Rattle.std.proofs.lemmas.Int.{ints}
use Rattle.std.proofs.lemmas.List.Elements.{All-append, All-nil}
use Rattle.suffix_list.specs.Suffix.{Rule}
use Rattle.setcookie_parse.specs.SetCookie.{CookieText, Parsed, Kept, Dropped, set_cookie_text}
use Rattle.stored_cookie.specs.StoredCookie.{PlainCookie}
use Rattle.partition_limits.specs.declared.tally.CellKind.{CellKind}
use Rattle.partition_limits.specs.declared.tally.CellKind.TheVariants as kind
use Rattle.cookie_jar.specs.declared.access.Destination.TheVariants as to
use Rattle.cookie_jar.specs.declared.cause.CookieDrop.{CookieDrop}
use Rattle.cookie_jar.specs.Drops.{dropped}
use Rattle.cookie_jar.specs.NewCookie.{made, renewed}
use Rattle.cookie_jar.specs.Planned.{PlainPlan, plan_of, unless_dropped}
use Rattle.cookie_jar.specs.Steps.{steps}
use Rattle.cookie_jar.proofs.PutLemmas.{small_pair}
use Rattle.row_changes.specs.Change.{PlainChange}
use Rattle.agent_model.specs.CookieCells.{Cookies}
use Rattle.agent_model.specs.CookieStore.{BothCells, StoredText, done_by, dropped_by, store_parsed, store_text, store_texts, stored_in}
use Rattle.agent_model.specs.CookieUse.{CookieUse, access_of, own_cell, partition_cell, uses_own}
use Rattle.agent_base.specs.Seconds.{last_moment}
use Rattle.spelled_model.specs.Addresses.{IsReadAddress}
use Rattle.spelled_model.specs.Rows.{IsReadCell}
use Rattle.spelled_model.proofs.CellLemmas.{IsTimed, steps_low, stored_read}
use Rattle.spelled_model.proofs.CookieLemmas.{new_host, new_sound, renewed_timed}
use Rattle.spelled_model.proofs.NameLemmas.{IsNamedSite, domain_named}
use Rattle.spelled_model.proofs.SpellsLemmas.{IsNamedCell, Spells, steps_spell}
use Rattle.spelled_model.proofs.TextLemmas.{IsReadParsed, IsReadText, parsed_read}

-- a use whose address was read, at a named site
pub record IsReadUse (rules : List Rule) (how : CookieUse) : Type 0 where
  pub url : IsReadAddress how.url
  pub top : IsNamedSite rules how.top

-- both cells were read
abbrev pub AreReadCells : BothCells → Type 0
AreReadCells both = IsReadCell both.own × IsReadCell both.partition

-- row changes that have a spelling, and the cells that they lead to
pub record StoresRead (rules : List Rule) (both : BothCells) (changes : List PlainChange) : Type 0 where
  pub spells : All (Spells rules) changes
  pub cells : AreReadCells both

module _ (rules : List Rule) (now : ℕ) (short : now ≤ last_moment) (how : CookieUse) (read : IsReadUse rules how) where
  own_named : IsNamedCell rules (own_cell rules how)
  own_named = domain_named rules how.url read.url

  partition_named : IsNamedCell rules (partition_cell rules how)
  partition_named = (read.top, domain_named rules how.url read.url)

  -- the same of a text that was stored
  abbrev TextRead : StoredText → Type 0
  TextRead one = StoresRead rules one.both one.changes

  module _ (both : BothCells) (cells : AreReadCells both) where
    none_stored : StoresRead rules both []
    none_stored = record { spells = All-nil (Spells rules); cells = cells }

    module _ (text : CookieText) (kept : IsReadText text) where
      -- the cookie of the text, as a cell has it afterwards
      abbrev fresh : Cookies → PlainCookie
      fresh cs = renewed (pos now) (made rules text (access_of how) (pos now)) cs

      abbrev planned_in : CellKind → Cookies → PlainPlan
      planned_in cell cs = plan_of cell (pos now) (made rules text (access_of how) (pos now)) cs

      fresh_timed : (cs : Cookies) → IsReadCell cs → IsTimed (fresh cs)
      fresh_timed cs cell = renewed_timed (pos now) (made rules text (access_of how) (pos now)) cs (omega (arith, ints, short)) cell.times

      own_stored : (o : Option CookieDrop) → dropped rules text (access_of how) (pos now) both.own ≡ o
          → TextRead (done_by (own_cell rules how) (λ cs. record both { own = cs }) both.own both (unless_dropped (planned_in kind.Own both.own) o))
      own_stored None none =
          let timed = fresh_timed both.own cells.0 in
          let sound = new_sound rules how read.url now text kept both.own none false (λ other. cc) in
          let host = new_host rules how read.url now text kept both.own none in
          record {
            spells = steps_spell rules (own_cell rules how) own_named (fresh both.own) timed kept.expiry (and_from _ _ sound host.0) host.1
                (steps kind.Own (pos now) (fresh both.own) both.own) (steps_low kind.Own (pos now) (fresh both.own) both.own cells.0.few);
            cells = (stored_read kind.Own (pos now) (fresh both.own) both.own (small_pair kind.Own (fresh both.own) kept.small) timed cells.0, cells.1);
          }
      own_stored (Some cause) is = none_stored

      partition_stored : text.partitioned ≡ true → (o : Option CookieDrop) → dropped rules text (access_of how) (pos now) both.partition ≡ o
          → TextRead (done_by (partition_cell rules how) (λ cs. record both { partition = cs }) both.partition both (unless_dropped (planned_in kind.Partition both.partition) o))
      partition_stored asks None none =
          let timed = fresh_timed both.partition cells.1 in
          let sound = new_sound rules how read.url now text kept both.partition none true (λ other. asks) in
          let host = new_host rules how read.url now text kept both.partition none in
          record {
            spells = steps_spell rules (partition_cell rules how) partition_named (fresh both.partition) timed kept.expiry (and_from _ _ sound host.0) host.1
                (steps kind.Partition (pos now) (fresh both.partition) both.partition) (steps_low kind.Partition (pos now) (fresh both.partition) both.partition cells.1.few);
            cells = (cells.0, stored_read kind.Partition (pos now) (fresh both.partition) both.partition (small_pair kind.Partition (fresh both.partition) kept.small) timed cells.1);
          }
      partition_stored asks (Some cause) is = none_stored

      nowhere_stored : (o : Option CookieDrop) → TextRead (dropped_by both (unless_dropped (planned_in kind.Own []) o))
      nowhere_stored None = none_stored
      nowhere_stored (Some cause) = none_stored

      text_stored : TextRead (store_parsed rules now how both (Kept text))
      text_stored = at text.partitioned (uses_own how) refl
        where
          at : (partitioned own : Bool) → text.partitioned ≡ partitioned → TextRead (stored_in (cond partitioned to.Partition (cond own to.Own to.Nowhere)) rules now how text both)
          at true own asks = partition_stored asks (dropped rules text (access_of how) (pos now) both.partition) refl
          at false true asks = own_stored (dropped rules text (access_of how) (pos now) both.own) refl
          at false false asks = nowhere_stored (dropped rules text (access_of how) (pos now) [])

    parsed_stored : (parsed : Parsed) → IsReadParsed parsed → TextRead (store_parsed rules now how both parsed)
    parsed_stored (Kept text) kept = text_stored text kept
    parsed_stored (Dropped cause) kept = none_stored

    pub one_stored : (text : List ℕ) → TextRead (store_text rules now how both text)
    one_stored text = parsed_stored (set_cookie_text text (pos now)) (parsed_read text now short)

  pub texts_stored : (both : BothCells) → AreReadCells both → (texts : List (List ℕ)) → StoresRead rules (store_texts rules now how both texts).both (store_texts rules now how both texts).changes
  texts_stored both cells [] = none_stored both cells
  texts_stored both cells (text ∷ texts) =
      let one = one_stored both cells text in
      let left = store_text rules now how both text in
      let more = texts_stored left.both one.cells texts in
      record { spells = All-append (Spells rules) left.changes (store_texts rules now how left.both texts).changes one.spells more.spells; cells = more.cells }
