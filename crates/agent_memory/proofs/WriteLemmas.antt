-- What is held after a change was stored and its event sent.
use Rattle.std.proofs.Common.{◌≡◌, ◌<◌, ◌≤◌, ◌⊎◌, inl, inr, ℕ, Bool, true, false, cond, List, map, Option, Some, None, Bor, refl, sym, ap, subst, ◌∙◌, arith}
use Rattle.std.proofs.lemmas.Bool.{le-ltb, lt-ltb}
use Rattle.std.proofs.lemmas.Slice.Eq.{bytes_eq-Decides}
use Rattle.std.specs.Prelude.{◌≢◌, ◌↔◌, Result, Ok, Err, bytes_eq, codes, is_none, nat_lt, option_copied}
use Rattle.std.proofs.lemmas.Bool.Decides.{nat_tests}
use Rattle.agent_base.specs.declared.refusals.Label.{Label}
use Rattle.storage_key.specs.Key.{PlainKey}
use Rattle.local_area.specs.Area.{Pair, area_get, area_put, area_remove, area_weight, quota}
use Rattle.local_area.specs.Put.{answer_over, changed, same}
use Rattle.local_area.specs.declared.area.AreaFault.{AreaFault}
use Rattle.local_area.specs.declared.area.AreaFault.TheVariants as fault
use Rattle.storage_events.specs.declared.event.AreaKind.{AreaKind}
use Rattle.storage_events.specs.declared.event.AreaKind.TheVariants.{Local, Session}
use Rattle.storage_events.specs.Event.{PlainEvent}
use Rattle.live_state.specs.Tabs.{PlainLive, is_rising}
use Rattle.live_state.specs.Queues.{sent}
use Rattle.std.proofs.lemmas.List.Folds.{list_all-map}
use Rattle.std.specs.List.{list_all}
use Rattle.storage_events.specs.declared.event.Event.{Event}
use Rattle.web_storage.specs.Stored.{Entries, held_with}
use Rattle.web_cookies.specs.Stored.{shared_in}
use Rattle.reply_lines.specs.Reply.{PlainBody, Plain}
use Rattle.agent_model.specs.Partition.{Holdings, with_area}
use Rattle.agent_model.specs.Effects.{Done, SharedCells, answers, ok}
use Rattle.agent_model.specs.AreaActions.{change_event, pairs_of, remove_by, remove_item, set_by, set_item, store, write}
use Rattle.agent_model.specs.Documents.{Keyed, told}
use Rattle.agent_memory.specs.AgentState.{beside_storage, places_in, tabs_in}
use Rattle.agent_memory.specs.FrameTrees.{AreTrees}
use Rattle.agent_memory.specs.HoldingsView.{HoldingsView}
use Rattle.agent_memory.specs.Documents.{each_sent}
use Rattle.live_state.specs.Hearers.{hearers}
use Rattle.agent_memory.specs.HoldingsView.{cells_of, held_of}
use Rattle.agent_memory.specs.Actions.{IsDone, put_sent}
use Rattle.agent_memory.proofs.DoneLemmas.{held_tabs, tabs_held}
use Rattle.agent_memory.proofs.TabLemmas.{places_after_send}
use Rattle.agent_memory.proofs.SendLemmas.{tabs_after_send}

-- ---- a change is stored and its event sent

-- the tabs do not change where an area does
tabs_kept : (kind : AreaKind) (tab : ℕ) (key : PlainKey) (pairs : List Pair) (held : Holdings)
    → (with_area kind tab key pairs held).tabs ≡ held.tabs
tabs_kept Local tab key pairs held = refl
tabs_kept Session tab key pairs held = refl

-- the events for the documents that hear, by the address of the one that wrote
pub these_sent : {url : List ℕ} {to : List Label} {hear : List Label} {events : List (Label × PlainEvent)} (event : PlainEvent)
    → events ≡ each_sent (record event { url = url }) to → url ≡ event.url → to ≡ hear → events ≡ each_sent event hear
these_sent {url} {to} event these own are =
    these ∙ ap (λ url. each_sent (record event { url = url }) to) own ∙ ap (each_sent event) are

module _ (event : PlainEvent) (writer : Keyed) (change : List Pair → List Pair) (old inside : HoldingsView)
    (seen : inside ≡ old) (trees : AreTrees inside.live.tabs) (rising : is_rising old.live.tabs ≡ true)
    (reserved : PlainLive) (kept : reserved.tabs ≡ inside.live.tabs) where
  -- the pairs of the area after the change, and what is held with them
  abbrev pairs : List Pair
  pairs = change (pairs_of event.area writer (held_of old))

  abbrev with_pairs : Holdings → Holdings
  with_pairs held = with_area event.area writer.at.tab writer.key (change (pairs_of event.area writer held)) held

  -- the area has its pairs, and each document that hears is told
  pub is_written : {live : PlainLive} {entries : Entries} {body : PlainBody} {events : List (Label × PlainEvent)}
      → events ≡ each_sent event (hearers event.area writer.at writer.key old.live.tabs)
      → live.tabs ≡ sent events reserved.tabs → ((beside : Holdings)
      → held_with beside entries ≡ with_pairs (held_with beside inside.storage))
      → body ≡ ok → IsDone (write event.area writer pairs event (cells_of old) (held_of old)) old
      (record inside { live = live; storage = entries }) body
  is_written {live} {entries} {body} {events} these after stored answer =
      let tabs : reserved.tabs ≡ old.live.tabs = kept ∙ ap (λ (h : HoldingsView). h.live.tabs) seen in
      let same : inside.cookies ≡ old.cookies = ap (λ (h : HoldingsView). h.cookies) seen in
      let rows : inside.grants ≡ old.grants = ap (λ (h : HoldingsView). h.grants) seen in
      record {
        held =
            (λ i. held_with (beside_storage live.tabs (same i) (rows i)) entries)
            ∙ held_tabs old.live.tabs live.tabs old.cookies old.grants entries
            ∙ ap {A = Holdings} (λ held. record held { tabs = tabs_in live.tabs })
            (stored (beside_storage old.live.tabs old.cookies old.grants)
            ∙ ap (λ (h : HoldingsView). with_pairs
            (held_with (beside_storage old.live.tabs old.cookies old.grants) h.storage)) seen)
            ∙ ap {B = Holdings} (λ tabs. record (with_pairs (held_of old)) { tabs = tabs })
            (ap tabs_in (after ∙ λ i. sent (these i) (tabs i))
            ∙ tabs_after_send event.area writer event old.live.tabs rising
            (subst (λ (h : HoldingsView). AreTrees h.live.tabs) seen trees)
            ∙ ap (told event.area writer event)
            (sym (tabs_kept event.area writer.at.tab writer.key pairs (held_of old)
            ∙ tabs_held old.live.tabs old.cookies old.grants old.storage)));
        cells = ap shared_in same;
        answer = answer;
        places = ap places_in after ∙ places_after_send events reserved.tabs ∙ ap places_in tabs;
      }

-- ---- within the quota

module _ (kind : AreaKind) (writer : Keyed) (pairs : List Pair) (event : PlainEvent) (cells : SharedCells) (held : Holdings) where
  -- what is done, by whether the pairs pass it
  abbrev stores : Bool → Done
  stores past = cond past (answers (Plain (codes "quota")) cells held) (write kind writer pairs event cells held)

  pub stored_is : area_weight pairs ≤ quota → store kind writer pairs event cells held ≡ write kind writer pairs event cells held
  stored_is within = ap stores (le-ltb quota (area_weight pairs) within)

  pub refused_is : quota < area_weight pairs → store kind writer pairs event cells held
      ≡ answers (Plain (codes "quota")) cells held
  refused_is past = ap stores (lt-ltb quota (area_weight pairs) past)

module _ (kind : AreaKind) (writer : Keyed) (pairs : List Pair) (event : PlainEvent) (cells : SharedCells)
    (held : Holdings) (old new : HoldingsView) (body : PlainBody) where
  pub is_stored : area_weight pairs ≤ quota → IsDone (write kind writer pairs event cells held) old new body
      → IsDone (store kind writer pairs event cells held) old new body
  is_stored within done = subst (λ d. IsDone d old new body) (sym (stored_is kind writer pairs event cells held within)) done

  pub is_refused : quota < area_weight pairs → IsDone (answers (Plain (codes "quota")) cells held)
      old new body → IsDone (store kind writer pairs event cells held) old new body
  is_refused past done = subst (λ d. IsDone d old new body) (sym (refused_is kind writer pairs event cells held past)) done

-- a refusal for the quota passes it
pub is_past : {T : Type 0} (why : AreaFault) (said weight : ℕ) → why ≡ fault.Quota said
    → (why ≡ fault.Quota weight) ⊎ (why ≡ fault.NoMemory)
    → (◌≡◌ {A = Result T AreaFault} (Err why) (Err (fault.Quota weight))) ↔ (quota < weight) → quota < weight
is_past why said weight refused (inl is) exact = exact.0 (ap Err is)
is_past why said weight refused (inr none) exact = let differ : fault.Quota said ≡ fault.NoMemory =
    sym refused ∙ none in absurd (cc differ)

-- what is not refused is within the quota
pub is_within : {T : Type 0} (done : T) (weight : ℕ)
    → (◌≡◌ {A = Result T AreaFault} (Ok done) (Err (fault.Quota weight))) ↔ (quota < weight) → weight ≤ quota
is_within {T} done weight exact = by (nat_lt quota weight) refl
  where
    by : (b : Bool) → nat_lt quota weight ≡ b → weight ≤ quota
    by true past =
        let low : quota < weight = grind (arith, nat_tests) in
        let refused : ◌≡◌ {A = Result T AreaFault} (Ok done) (Err (fault.Quota weight)) = exact.1 low in absurd (cc refused)
    by false isnt = grind (arith, nat_tests)

-- ---- by what is there

-- a reference to a text is there where the text is
pub none_copied : {X : Type 0} (found : Option (Bor X)) → is_none (option_copied found) ≡ is_none found
none_copied None = refl
none_copied (Some found) = refl

module _ (kind : AreaKind) (writer : Keyed) (name : List ℕ) (cells : SharedCells) (held : Holdings) where
  -- a name that has another value, or none, is given one
  pub is_set : (value : List ℕ) (found : Option (List ℕ)) → found ≢ Some value → found ≡ area_get name (pairs_of kind writer held)
      → put_sent kind name value (change_event kind writer (Some name) found (Some value)) writer cells held
      ≡ set_item kind name value writer cells held
  is_set value found other is = sets found other ∙ ap (λ found. set_by (answer_over value found)
      kind writer name value (area_put name value (pairs_of kind writer held)) cells held) is
    where
      by : (before : List ℕ) (b : Bool) → b ≡ false
          → put_sent kind name value (change_event kind writer (Some name) (Some before) (Some value)) writer cells held
          ≡ set_by (cond b same (changed before)) kind writer name value
          (area_put name value (pairs_of kind writer held)) cells held
      by before true apart = absurd (cc apart)
      by before false apart = refl

      sets : (found : Option (List ℕ)) → found ≢ Some value
          → put_sent kind name value (change_event kind writer (Some name) found (Some value)) writer cells held
          ≡ set_by (answer_over value found) kind writer name value (area_put name value (pairs_of kind writer held)) cells held
      sets None other = refl
      sets (Some before) other = by before (bytes_eq before value) (differ (bytes_eq before value) refl)
        where
          differ : (b : Bool) → bytes_eq before value ≡ b → b ≡ false
          differ true equal = absurd (other (ap Some ((bytes_eq-Decides before value).0 equal)))
          differ false apart = refl

  -- a name that is there is removed
  removes : (found : Option (List ℕ)) → is_none found ≡ false
      → write kind writer (area_remove name (pairs_of kind writer held))
      (change_event kind writer (Some name) found None) cells held ≡ remove_by found kind writer name cells held
  removes None there = absurd (cc there)
  removes (Some before) there = refl

  pub removed_is : (found : Option (List ℕ)) → is_none found ≡ false → found ≡ area_get name (pairs_of kind writer held)
      → write kind writer (area_remove name (pairs_of kind writer held))
      (change_event kind writer (Some name) found None) cells held ≡ remove_item kind name writer cells held
  removed_is found there is = removes found there ∙ ap (λ found. remove_by found kind writer name cells held) is

  pub is_removed : (found : Option (List ℕ)) (old new : HoldingsView) (body : PlainBody)
      → is_none found ≡ false → found ≡ area_get name (pairs_of kind writer held)
      → IsDone (write kind writer (area_remove name (pairs_of kind writer held))
      (change_event kind writer (Some name) found None) cells held) old new body
      → IsDone (remove_item kind name writer cells held) old new body
  is_removed found old new body there is done = subst (λ done. IsDone done old new body) (removed_is found there is) done

-- ---- the events of the documents that hear

-- each is for a document that is ready
pub events_ready : {to those : List Label} (events : List (Label × Event)) → map (λ e. e.0) events ≡ to
    → (ready : Label → Bool) → those ≡ to → list_all ready those ≡ true
    → list_all (λ e. ready e.0) events ≡ true
events_ready events labels ready equal all =
    sym (list_all-map ready (λ e. e.0) events) ∙ ap (list_all ready) (labels ∙ sym equal) ∙ all
