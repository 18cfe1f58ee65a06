-- Actions on areas, at the site of the document and at another one.
use Rattle.std.proofs.Common.{◌≡◌, ℕ, Bool, true, false, cond, List, [], Option, Some, None, refl, sym, ap, ◌∙◌}
use Rattle.std.specs.Prelude.{nat_lt, length, codes}
use Rattle.origin_site.specs.Site.{PlainSite}
use Rattle.local_area.specs.Area.{Pair, quota, area_get, area_nth, area_put, area_remove, area_weight}
use Rattle.local_area.specs.Put.{PlainPut, same, added, changed, put_answer}
use Rattle.storage_events.specs.declared.event.AreaKind.{AreaKind}
use Rattle.storage_events.specs.Event.{PlainEvent}
use Rattle.reply_lines.specs.Reply.{PlainBody, Plain, Text, Number}
use Rattle.agent_model.specs.Partition.{Holdings, is_under, with_area}
use Rattle.row_changes.specs.Change.{PlainChange}
use Rattle.agent_model.specs.Effects.{SharedCells, Effect, answers, changes_to, ok}
use Rattle.agent_model.specs.Changes.{changes_of_write, durable_in}
use Rattle.agent_model.specs.Documents.{Keyed, told}
use Rattle.agent_model.specs.AreaActions.{pairs_of, change_event, write, store, set_by, set_item, remove_by, remove_item, clear_area, get_item, get_name, get_length}
use Rattle.one_store.specs.HeldAt.{held_at, done_at, IsKeyed}
use Rattle.agent_model.proofs.HoldingsLemmas.{with_area_tabs}
use Rattle.one_store.proofs.HeldLemmas.{area_seen, with_area_seen, with_area_unseen}
use Rattle.one_store.proofs.DocumentLemmas.{told_seen, told_unseen, keyed_by_tabs}

-- the tabs of some holdings are told of a change
abbrev with_told : AreaKind → Keyed → PlainEvent → Holdings → Holdings
with_told kind writer event held = record held { tabs = told kind writer event held.tabs }

-- ---- at the site of the document

module _ (site : PlainSite) (here : ℕ → Bool) (kind : AreaKind) (writer : Keyed) (under : is_under site writer.key ≡ true) (cells : SharedCells) where
  -- an action that goes by the pairs of the document's area, and is done alike with any pairs
  by_pairs : (action : List Pair → Effect) (held : Holdings)
      → ((pairs : List Pair) → action pairs cells (held_at site here held) ≡ done_at site here (action pairs cells held))
      → action (pairs_of kind writer (held_at site here held)) cells (held_at site here held) ≡ done_at site here (action (pairs_of kind writer held) cells held)
  by_pairs action held each =
      ap (λ pairs. action pairs cells (held_at site here held)) (area_seen site here held kind writer.at.tab writer.key under)
      ∙ each (pairs_of kind writer held)

  pub write_seen : (pairs : List Pair) (event : PlainEvent) (held : Holdings) → write kind writer pairs event cells (held_at site here held) ≡ done_at site here (write kind writer pairs event cells held)
  write_seen pairs event held =
      ap (λ before. changes_to (changes before) ok cells (with_told kind writer event (with_area kind writer.at.tab writer.key pairs (held_at site here held)))) (area_seen site here held kind writer.at.tab writer.key under)
      ∙ ap (changes_to (changes (pairs_of kind writer held)) ok cells) (stored ∙ heard (with_area kind writer.at.tab writer.key pairs held))
    where
      changes : List Pair → List PlainChange
      changes before = durable_in kind (changes_of_write writer.key event.key event.after before)

      stored : with_told kind writer event (with_area kind writer.at.tab writer.key pairs (held_at site here held)) ≡ with_told kind writer event (held_at site here (with_area kind writer.at.tab writer.key pairs held))
      stored = ap (with_told kind writer event) (sym (with_area_seen site here held kind writer.at.tab writer.key pairs under))

      heard : (all : Holdings) → with_told kind writer event (held_at site here all) ≡ held_at site here (with_told kind writer event all)
      heard all = ap (λ tabs. record (held_at site here all) { tabs = tabs }) (sym (told_seen kind writer event all.tabs here))

  store_seen : (pairs : List Pair) (event : PlainEvent) (held : Holdings) → store kind writer pairs event cells (held_at site here held) ≡ done_at site here (store kind writer pairs event cells held)
  store_seen pairs event held = at (nat_lt quota (area_weight pairs))
    where
      at : (b : Bool) → cond b (answers (Plain (codes "quota")) cells (held_at site here held)) (write kind writer pairs event cells (held_at site here held))
          ≡ done_at site here (cond b (answers (Plain (codes "quota")) cells held) (write kind writer pairs event cells held))
      at true = refl
      at false = write_seen pairs event held

  set_by_seen : (answer : PlainPut) (name value : List ℕ) (pairs : List Pair) (held : Holdings)
      → set_by answer kind writer name value pairs cells (held_at site here held) ≡ done_at site here (set_by answer kind writer name value pairs cells held)
  set_by_seen same name value pairs held = refl
  set_by_seen added name value pairs held = store_seen pairs (change_event kind writer (Some name) None (Some value)) held
  set_by_seen (changed before) name value pairs held = store_seen pairs (change_event kind writer (Some name) (Some before) (Some value)) held

  pub set_item_seen : (name value : List ℕ) (held : Holdings) → set_item kind name value writer cells (held_at site here held) ≡ done_at site here (set_item kind name value writer cells held)
  set_item_seen name value held =
      by_pairs (λ pairs. set_by (put_answer name value pairs) kind writer name value (area_put name value pairs)) held
      (λ pairs. set_by_seen (put_answer name value pairs) name value (area_put name value pairs) held)

  remove_by_seen : (found : Option (List ℕ)) (name : List ℕ) (held : Holdings) → remove_by found kind writer name cells (held_at site here held) ≡ done_at site here (remove_by found kind writer name cells held)
  remove_by_seen None name held = refl
  remove_by_seen (Some before) name held =
      by_pairs (λ pairs. write kind writer (area_remove name pairs) (change_event kind writer (Some name) (Some before) None)) held
      (λ pairs. write_seen (area_remove name pairs) (change_event kind writer (Some name) (Some before) None) held)

  pub remove_item_seen : (name : List ℕ) (held : Holdings) → remove_item kind name writer cells (held_at site here held) ≡ done_at site here (remove_item kind name writer cells held)
  remove_item_seen name held =
      by_pairs (λ pairs. remove_by (area_get name pairs) kind writer name) held
      (λ pairs. remove_by_seen (area_get name pairs) name held)

  pub clear_area_seen : (held : Holdings) → clear_area kind writer cells (held_at site here held) ≡ done_at site here (clear_area kind writer cells held)
  clear_area_seen held = write_seen [] (change_event kind writer None None None) held

  -- an answer that is read off the pairs
  pub read_seen : (answer : List Pair → PlainBody) (held : Holdings)
      → answers (answer (pairs_of kind writer (held_at site here held))) cells (held_at site here held) ≡ done_at site here (answers (answer (pairs_of kind writer held)) cells held)
  read_seen answer held = by_pairs (λ pairs. answers (answer pairs)) held (λ pairs. refl)

  pub get_item_seen : (name : List ℕ) (held : Holdings) → get_item kind name writer cells (held_at site here held) ≡ done_at site here (get_item kind name writer cells held)
  get_item_seen name = read_seen (λ pairs. Text (area_get name pairs))

  pub get_name_seen : (place : ℕ) (held : Holdings) → get_name kind place writer cells (held_at site here held) ≡ done_at site here (get_name kind place writer cells held)
  get_name_seen place = read_seen (λ pairs. Text (area_nth place pairs))

  pub get_length_seen : (held : Holdings) → get_length kind writer cells (held_at site here held) ≡ done_at site here (get_length kind writer cells held)
  get_length_seen = read_seen (λ pairs. Number (length pairs))

-- ---- at another site

module _ (site : PlainSite) (here : ℕ → Bool) (kind : AreaKind) (writer : Keyed) (apart : is_under site writer.key ≡ false) (cells : SharedCells) (held : Holdings) (keyed : IsKeyed site here held) where
  pub write_unseen : (pairs : List Pair) (event : PlainEvent) → held_at site here (write kind writer pairs event cells held).held ≡ held_at site here held
  write_unseen pairs event = told_nothing ∙ with_area_unseen site here held kind writer.at.tab writer.key pairs apart
    where
      stored : Holdings
      stored = with_area kind writer.at.tab writer.key pairs held

      told_nothing : held_at site here (with_told kind writer event stored) ≡ held_at site here stored
      told_nothing = ap (λ tabs. record (held_at site here stored) { tabs = tabs }) (told_unseen site kind writer apart event here stored
          (keyed_by_tabs site here held stored (with_area_tabs kind writer.at.tab writer.key pairs held) keyed))

  store_unseen : (pairs : List Pair) (event : PlainEvent) → held_at site here (store kind writer pairs event cells held).held ≡ held_at site here held
  store_unseen pairs event = at (nat_lt quota (area_weight pairs))
    where
      at : (b : Bool) → held_at site here (cond b (answers (Plain (codes "quota")) cells held) (write kind writer pairs event cells held)).held ≡ held_at site here held
      at true = refl
      at false = write_unseen pairs event

  set_by_unseen : (answer : PlainPut) (name value : List ℕ) (pairs : List Pair) → held_at site here (set_by answer kind writer name value pairs cells held).held ≡ held_at site here held
  set_by_unseen same name value pairs = refl
  set_by_unseen added name value pairs = store_unseen pairs (change_event kind writer (Some name) None (Some value))
  set_by_unseen (changed before) name value pairs = store_unseen pairs (change_event kind writer (Some name) (Some before) (Some value))

  pub set_item_unseen : (name value : List ℕ) → held_at site here (set_item kind name value writer cells held).held ≡ held_at site here held
  set_item_unseen name value = set_by_unseen (put_answer name value (pairs_of kind writer held)) name value (area_put name value (pairs_of kind writer held))

  pub remove_item_unseen : (name : List ℕ) → held_at site here (remove_item kind name writer cells held).held ≡ held_at site here held
  remove_item_unseen name = at (area_get name (pairs_of kind writer held))
    where
      at : (found : Option (List ℕ)) → held_at site here (remove_by found kind writer name cells held).held ≡ held_at site here held
      at None = refl
      at (Some before) = write_unseen (area_remove name (pairs_of kind writer held)) (change_event kind writer (Some name) (Some before) None)

  pub clear_area_unseen : held_at site here (clear_area kind writer cells held).held ≡ held_at site here held
  clear_area_unseen = write_unseen [] (change_event kind writer None None None)
