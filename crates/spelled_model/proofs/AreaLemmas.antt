-- What actions on areas and on buckets do at a site whose holdings were read.
use Rattle.std.proofs.Common.{◌≡◌, ◌<◌, ℕ, Bool, true, false, cond, not, ◌||◌, List, [], ◌∷◌, length, Option, Some, None, refl, sym, ap, subst, arith, ◌∙◌}
use Rattle.std.specs.Prelude.{codes, fold, is_some, nat_lt}
use Rattle.std.specs.List.{All, list_any}
use Rattle.std.specs.Ordering.{eq_by_cmp, is_lt}
use Rattle.std.specs.Cmp.{eq_by_cmp_equiv}
use Rattle.std.proofs.Math.Bool.{or-true}
use Rattle.std.specs.FinMap.{contains_key-keys, get, keys}
use Rattle.std.proofs.lemmas.Bool.{false≢true}
use Rattle.std.proofs.lemmas.List.Elements.{All-cons, All-head, All-map, All-nil, All-tail, All-weaker}
use Rattle.unwinding.specs.FiniteCells.{Full, get_cell, list_of}
use Rattle.unwinding.proofs.FiniteCellsLemmas.{get_kept, get_set}
use Rattle.suffix_list.specs.Suffix.{Rule}
use Rattle.origin_site.specs.Site.{PlainSite}
use Rattle.storage_key.specs.Key.{PlainKey, key_order}
use Rattle.storage_key.proofs.OrderLemmas.{key_order_total, key_order_same}
use Rattle.local_area.specs.Area.{Pair, quota, area_get, area_put, area_remove, area_weight}
use Rattle.local_area.specs.Put as put
use Rattle.local_area.specs.Put.{PlainPut, put_answer}
use Rattle.storage_events.specs.declared.event.AreaKind.{AreaKind}
use Rattle.storage_events.specs.declared.event.AreaKind.TheVariants.{Local, Session}
use Rattle.storage_events.specs.Event.{PlainEvent}
use Rattle.script_actions.specs.declared.words.Prompt.{Prompt}
use Rattle.reply_lines.specs.Reply.{Plain, Truth}
use Rattle.row_changes.specs.Appended.{HasKeyTexts}
use Rattle.row_changes.specs.Change.{PlainChange, AreaPut, AreaRemove, AreaClear, SetMode}
use Rattle.row_changes.specs.Spelled.{IsKey}
use Rattle.agent_model.specs.PartitionedCells.{PartitionedKey, partitioned_order}
use Rattle.agent_model.specs.Partition.{Areas, Holdings, with_area}
use Rattle.agent_model.specs.Effects.{SharedCells, answers, ok}
use Rattle.agent_model.specs.Changes.{by_text, changes_of_write, durable_in, in_text_order, key_text_order}
use Rattle.agent_model.specs.Documents.{Keyed, told_tab}
use Rattle.agent_model.specs.AreaActions.{change_event, clear_area, pairs_of, remove_by, remove_item, set_by, set_item, write}
use Rattle.agent_model.specs.Buckets.{areas_left, areas_taken, evict, is_evicted, is_grant, is_persistent, persist, persist_by}
use Rattle.agent_model.proofs.EachTabLemmas.{each_by_tabs, each_mapped}
use Rattle.agent_model.proofs.HoldingsLemmas.{with_area_tabs}
use Rattle.agent_model.proofs.KeptLemmas.{kept_cell, tied}
use Rattle.spelled_model.specs.Frames.{IsReadTab}
use Rattle.spelled_model.specs.Rows.{IsNamedKey, IsReadCell, IsReadKey}
use Rattle.spelled_model.specs.Worlds.{AreNamed}
use Rattle.spelled_model.proofs.DoneLemmas.{AreReadShared, IsReadDone, IsReadHeld, answered, by_frames}
use Rattle.spelled_model.proofs.SpellsLemmas.{Spells}

-- a key that was read has a spelling, where its texts are texts
key_spelled : (key : PlainKey) → IsReadKey key → HasKeyTexts key → IsKey key
key_spelled key read texts = (texts.0, read.origin, (texts.1, read.top))

one_spells : (rules : List Rule) (change : PlainChange) → Spells rules change → All (Spells rules) (change ∷ [])
one_spells rules change spells = All-cons (Spells rules) change [] spells (All-nil (Spells rules))

-- ---- writes

module _ (rules : List Rule) (key : PlainKey) (named : IsNamedKey rules key) where
  write_spells : (name value : Option (List ℕ)) (pairs : List Pair) → All (Spells rules) (changes_of_write key name value pairs)
  write_spells (Some name) (Some value) pairs = one_spells rules (AreaPut key name value) (λ texts. ((key_spelled key named.read texts.0, texts.1, texts.2), named.stays))
  write_spells (Some name) None pairs = one_spells rules (AreaRemove key name) (λ texts. ((key_spelled key named.read texts.0, texts.1), named.stays))
  write_spells None value [] = All-nil (Spells rules)
  write_spells None value (pair ∷ pairs) = one_spells rules (AreaClear key) (λ texts. (key_spelled key named.read texts, named.stays))

  durable_spells : (kind : AreaKind) (changes : List PlainChange) → All (Spells rules) changes → All (Spells rules) (durable_in kind changes)
  durable_spells Local changes spells = spells
  durable_spells Session changes spells = All-nil (Spells rules)

  -- a set of areas with another one of a named key
  set_named : (areas : Areas) → AreNamed rules areas → (tab : ℕ) (kind : AreaKind) (pairs : List Pair) (held : Holdings) → held.areas ≡ areas → AreNamed rules (with_area kind tab key pairs held).areas
  set_named areas all tab Session pairs held is = subst (AreNamed rules) (sym is) all
  set_named areas all tab Local pairs held is = λ q some. at q (eq_by_cmp key_order q key) refl (subst (λ ps. 0 < length ps) (get_set key_order key_order_total key_order_same q key pairs held.areas) some)
    where
      at : (q : PlainKey) (b : Bool) → eq_by_cmp key_order q key ≡ b → 0 < length (cond b pairs (get_cell key_order held.areas q)) → IsNamedKey rules q
      at q true tie some = subst (IsNamedKey rules) (sym (tied key_order key_order_total key_order_same q key tie)) named
      at q false tie some = subst (AreNamed rules) (sym is) all q some

with_area_cookies : (kind : AreaKind) (tab : ℕ) (key : PlainKey) (pairs : List Pair) (held : Holdings) → (with_area kind tab key pairs held).cookies ≡ held.cookies
with_area_cookies Local tab key pairs held = refl
with_area_cookies Session tab key pairs held = refl

module _ (rules : List Rule) (cells : SharedCells) (held : Holdings) (shared : AreReadShared cells) (read : IsReadHeld rules held) where
  module _ (writer : Keyed) (named : IsNamedKey rules writer.key) where
    write_read : (kind : AreaKind) (pairs : List Pair) (event : PlainEvent) → IsReadDone rules (write kind writer pairs event cells held)
    write_read kind pairs event =
        let stored : Holdings = with_area kind writer.at.tab writer.key pairs held in
        record {
          spells = durable_spells rules writer.key named kind _ (write_spells rules writer.key named event.key event.after (pairs_of kind writer held));
          held = record {
            tabs = each_mapped (λ n. IsReadTab rules) (by_frames rules) stored (told_tab kind writer event) (λ number tab. refl)
                (each_by_tabs (λ n. IsReadTab rules) held stored (with_area_tabs kind writer.at.tab writer.key pairs held) read.tabs);
            areas = set_named rules writer.key named held.areas read.areas writer.at.tab kind pairs held refl;
            partitioned = subst (λ cookies. (k : PartitionedKey) → IsReadCell (get_cell partitioned_order cookies k)) (sym (with_area_cookies kind writer.at.tab writer.key pairs held)) read.partitioned;
          };
          shared = shared;
        }

    pub set_item_read : (kind : AreaKind) (name value : List ℕ) → IsReadDone rules (set_item kind name value writer cells held)
    set_item_read kind name value = by (put_answer name value (pairs_of kind writer held))
      where
        pairs : List Pair
        pairs = area_put name value (pairs_of kind writer held)

        stored : (b : Bool) (event : PlainEvent) → IsReadDone rules (cond b (answers (Plain (codes "quota")) cells held) (write kind writer pairs event cells held))
        stored true event = answered rules cells held (Plain (codes "quota")) shared read
        stored false event = write_read kind pairs event

        by : (answer : PlainPut) → IsReadDone rules (set_by answer kind writer name value pairs cells held)
        by put.same = answered rules cells held ok shared read
        by put.added = stored (nat_lt quota (area_weight pairs)) (change_event kind writer (Some name) None (Some value))
        by (put.changed before) = stored (nat_lt quota (area_weight pairs)) (change_event kind writer (Some name) (Some before) (Some value))

    pub remove_item_read : (kind : AreaKind) (name : List ℕ) → IsReadDone rules (remove_item kind name writer cells held)
    remove_item_read kind name = by (area_get name (pairs_of kind writer held))
      where
        by : (found : Option (List ℕ)) → IsReadDone rules (remove_by found kind writer name cells held)
        by None = answered rules cells held ok shared read
        by (Some before) = write_read kind (area_remove name (pairs_of kind writer held)) (change_event kind writer (Some name) (Some before) None)

    pub clear_read : (kind : AreaKind) → IsReadDone rules (clear_area kind writer cells held)
    clear_read kind = write_read kind [] (change_event kind writer None None None)

    -- ---- buckets

    pub persist_read : (answer : Prompt) → IsReadDone rules (persist answer writer cells held)
    persist_read answer = by (is_persistent writer.key held) (is_grant answer)
      where
        by : (before granted : Bool) → IsReadDone rules (persist_by before granted writer cells held)
        by true granted = answered rules cells held (Truth true) shared read
        by false true =
            record {
              spells = one_spells rules (SetMode writer.key) (λ texts. (key_spelled writer.key named.read texts, named.stays));
              held = record { tabs = read.tabs; areas = read.areas; partitioned = read.partitioned };
              shared = shared;
            }
        by false false = answered rules cells held (Truth false) shared read

  -- ---- eviction

  in_order_all : (P : PlainKey → Type 0) (others : List PlainKey) (key : PlainKey) → All P others → P key → All P (in_text_order others key)
  in_order_all P [] key all is = All-cons P key [] is all
  in_order_all P (other ∷ others) key all is = by (is_lt (key_text_order key other)) (in_order_all P others key (All-tail P other others all) is)
    where
      by : (b : Bool) → All P (in_text_order others key) → All P (cond b (key ∷ other ∷ others) (other ∷ in_text_order others key))
      by true later = All-cons P key (other ∷ others) is all
      by false later = All-cons P other (in_text_order others key) (All-head P other others all) later

  ordered_all : (P : PlainKey → Type 0) (keys begun : List PlainKey) → All P keys → All P begun → All P (fold in_text_order begun keys)
  ordered_all P [] begun all before = before
  ordered_all P (key ∷ keys) begun all before = ordered_all P keys (in_text_order begun key) (All-tail P key keys all) (in_order_all P begun key before (All-head P key keys all))

  -- each of some keys is among them
  each_there : (all keys : List PlainKey) → ((q : PlainKey) → list_any (eq_by_cmp key_order q) keys ≡ true → list_any (eq_by_cmp key_order q) all ≡ true)
      → All (λ q. list_any (eq_by_cmp key_order q) all ≡ true) keys
  each_there all [] each = All-nil (λ q. list_any (eq_by_cmp key_order q) all ≡ true)
  each_there all (key ∷ keys) each =
      All-cons (λ q. list_any (eq_by_cmp key_order q) all ≡ true) key keys
      (each key (ap (λ b. b || list_any (eq_by_cmp key_order key) keys) ((eq_by_cmp_equiv key_order_total).refl key)))
      (each_there all keys (λ q there. each q (ap (λ b. eq_by_cmp key_order q key || b) there ∙ or-true (eq_by_cmp key_order q key))))

  module _ (site : PlainSite) where
    -- a key of the areas that are taken is a named key
    taken_named : (q : PlainKey) → list_any (eq_by_cmp key_order q) (keys (areas_taken site held)) ≡ true → IsNamedKey rules q
    unfolding get_cell
    taken_named q there =
        by (is_evicted site held q) (get held.areas q) refl (sym (sym (contains_key-keys (areas_taken site held) q) ∙ ap is_some (get_kept key_order key_order_same (is_evicted site held) held.areas q)) ∙ there)
      where
        by : (b : Bool) (found : Option (Full Pair)) → get held.areas q ≡ found → is_some (cond b found None) ≡ true → IsNamedKey rules q
        by true (Some pairs) is some = read.areas q (subst (λ (ps : List Pair). 0 < length ps) (sym (ap list_of is)) (omega arith))
        by true None is some = absurd (false≢true some)
        by false found is some = absurd (false≢true some)

    left_named : AreNamed rules (areas_left site held)
    left_named q some = at (not (is_evicted site held q)) (subst (λ ps. 0 < length ps) (kept_cell key_order key_order_total key_order_same held.areas (λ key. not (is_evicted site held key)) q) some)
      where
        at : (b : Bool) → 0 < length (cond b (get_cell key_order held.areas q) []) → IsNamedKey rules q
        at true some = read.areas q some
        at false some = absurd (omega (arith, some))

    pub evict_read : IsReadDone rules (evict site cells held)
    evict_read =
        let all = keys (areas_taken site held) in
        let there = ordered_all (λ q. list_any (eq_by_cmp key_order q) all ≡ true) all [] (each_there all all (λ q is. is)) (All-nil (λ q. list_any (eq_by_cmp key_order q) all ≡ true)) in
        record {
          spells = All-map (Spells rules) (λ key. AreaClear key) (by_text all)
              (All-weaker (λ q. list_any (eq_by_cmp key_order q) all ≡ true) (λ q. Spells rules (AreaClear q)) (λ q is texts. (key_spelled q (taken_named q is).read texts, (taken_named q is).stays)) (by_text all) there);
          held = record { tabs = read.tabs; areas = left_named; partitioned = read.partitioned };
          shared = shared;
        }
