-- What writes of areas change of what is kept.
use Rattle.std.proofs.Common.{◌≡◌, ℕ, Bool, true, false, cond, List, [], ◌∷◌, Some, None, Option, refl, sym, ap, arith, ◌∙◌}
use Rattle.std.specs.Prelude.{codes, is_some, length, nat_lt}
use Rattle.std.proofs.lemmas.Bool.{le-leb, lt-ltb, ltb-false}
use Rattle.unwinding.specs.FiniteCells.{get_cell}
use Rattle.origin_site.specs.Site.{PlainSite}
use Rattle.storage_key.specs.Key.{key_order}
use Rattle.storage_key.proofs.OrderLemmas.{key_order_total, key_order_same}
use Rattle.local_area.specs.Area.{Pair, quota, area_get, area_put, area_weight}
use Rattle.local_area.specs.Put as put
use Rattle.local_area.specs.Put.{PlainPut, put_answer}
use Rattle.row_changes.specs.Change.{AreaPut, AreaRemove, AreaClear}
use Rattle.storage_events.specs.declared.event.AreaKind.{AreaKind}
use Rattle.storage_events.specs.declared.event.AreaKind.TheVariants.{Local, Session}
use Rattle.storage_events.specs.Event.{PlainEvent}
use Rattle.reply_lines.specs.Reply.{Plain}
use Rattle.agent_model.specs.CookieCells.{Domain}
use Rattle.agent_model.specs.Partition.{Holdings, with_area}
use Rattle.agent_model.specs.Effects.{SharedCells, answers, changes_to, ok}
use Rattle.agent_model.specs.Changes.{changes_of_write}
use Rattle.agent_model.specs.Documents.{Keyed, told}
use Rattle.agent_model.specs.AreaActions.{change_event, clear_area, pairs_of, remove_by, remove_item, set_by, set_item, write}
use Rattle.durable_model.proofs.CellsLemmas.{set_known}
use Rattle.durable_model.proofs.FollowsLemmas.{DoneFollows, IsOnce, one_follows, rows_of, stays}

module _ (site : PlainSite) (names : List Domain) (cells : SharedCells) (held : Holdings) (once : IsOnce cells held.cookies) (writer : Keyed) (under : writer.key.top ≡ site) where
  -- what is held after a write
  abbrev written : AreaKind → List Pair → PlainEvent → Holdings
  written kind pairs event =
      let stored = with_area kind writer.at.tab writer.key pairs held in
      record stored { tabs = told kind writer event stored.tabs }

  -- a name is given a value, unless the area gets too heavy
  put_follows : (kind : AreaKind) (name value : List ℕ) (before : Option (List ℕ)) → nat_lt quota (area_weight (area_put name value (pairs_of kind writer held))) ≡ false
      → DoneFollows site names cells (rows_of held) (write kind writer (area_put name value (pairs_of kind writer held)) (change_event kind writer (Some name) before (Some value)) cells held)
  put_follows Session name value before small = stays site names cells (written Session _ _) ok once
  put_follows Local name value before small =
      one_follows site names cells (rows_of held) (AreaPut writer.key name value) (written Local _ _) ok refl (ap Some under)
      (le-leb _ quota (ltb-false quota _ small)) refl once

  set_follows : (kind : AreaKind) (name value : List ℕ) (answer : PlainPut) → DoneFollows site names cells (rows_of held) (set_by answer kind writer name value (area_put name value (pairs_of kind writer held)) cells held)
  set_follows kind name value answer = by answer
    where
      pairs : List Pair
      pairs = area_put name value (pairs_of kind writer held)

      stored : (before : Option (List ℕ)) (b : Bool) → nat_lt quota (area_weight pairs) ≡ b
          → DoneFollows site names cells (rows_of held) (cond b (answers (Plain (codes "quota")) cells held) (write kind writer pairs (change_event kind writer (Some name) before (Some value)) cells held))
      stored before true is = stays site names cells held (Plain (codes "quota")) once
      stored before false is = put_follows kind name value before is

      by : (answer : PlainPut) → DoneFollows site names cells (rows_of held) (set_by answer kind writer name value pairs cells held)
      by put.same = stays site names cells held ok once
      by put.added = stored None (nat_lt quota (area_weight pairs)) refl
      by (put.changed before) = stored (Some before) (nat_lt quota (area_weight pairs)) refl

  pub set_item_follows : (kind : AreaKind) (name value : List ℕ) → DoneFollows site names cells (rows_of held) (set_item kind name value writer cells held)
  set_item_follows kind name value = set_follows kind name value (put_answer name value (pairs_of kind writer held))

  -- a name is removed, where it is there
  pub remove_item_follows : (kind : AreaKind) (name : List ℕ) → DoneFollows site names cells (rows_of held) (remove_item kind name writer cells held)
  remove_item_follows kind name = by kind (area_get name (pairs_of kind writer held)) refl
    where
      by : (kind : AreaKind) (found : Option (List ℕ)) → area_get name (pairs_of kind writer held) ≡ found → DoneFollows site names cells (rows_of held) (remove_by found kind writer name cells held)
      by kind None is = stays site names cells held ok once
      by Session (Some before) is = stays site names cells (written Session _ _) ok once
      by Local (Some before) is =
          one_follows site names cells (rows_of held) (AreaRemove writer.key name) (written Local _ _) ok refl (ap Some under)
          (ap is_some is) refl once

  -- an area is cleared, which is a row change where it has pairs
  pub clear_follows : (kind : AreaKind) → DoneFollows site names cells (rows_of held) (clear_area kind writer cells held)
  clear_follows Session = stays site names cells (written Session _ _) ok once
  clear_follows Local = by (get_cell key_order held.areas writer.key) refl
    where
      cleared : Holdings
      cleared = written Local [] (change_event Local writer None None None)

      by : (pairs : List Pair) → get_cell key_order held.areas writer.key ≡ pairs → DoneFollows site names cells (rows_of held) (changes_to (changes_of_write writer.key None None pairs) ok cells cleared)
      by [] is =
          let same = set_known key_order key_order_total key_order_same writer.key [] held.areas is in
          record { under = tt; among = tt; valid = λ d has. tt; cell = λ domain is. refl; rows = ap (λ areas. record (rows_of held) { areas = areas }) (sym same); once = once }
      by (pair ∷ pairs) is =
          one_follows site names cells (rows_of held) (AreaClear writer.key) cleared ok refl (ap Some under)
          (ap (λ ps. nat_lt 0 (length ps)) is ∙ lt-ltb 0 (length (pair ∷ pairs)) (omega arith)) refl once
