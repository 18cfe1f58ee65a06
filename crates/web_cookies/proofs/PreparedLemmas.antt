-- What is prepared does to the cookies what the effect does.
use Rattle.std.proofs.Common.{◌≡◌, ℕ, Bool, true, false, cond, List, map, Option, Some, None, pos, refl, sym, ap, subst, ◌∙◌}
use Rattle.std.specs.Prelude.{IfSome, is_some, ◌==◌, ◌&&◌, length}
use Rattle.std.specs.Ordering.{eq_by_cmp}
use Rattle.std.specs.Rc.{rc_value}
use Rattle.key_map.specs.Entries.{map_get, map_put, map_set}
use Rattle.partition_limits.specs.declared.tally.CellKind.TheVariants as kind
use Rattle.suffix_list.specs.Suffix.{Rule}
use Rattle.cookie_jar.specs.declared.key.CellKey.{CellKey}
use Rattle.cookie_jar.specs.Cookie.{PlainJar}
use Rattle.cookie_jar.specs.Key.{PlainKey, OwnCell, plain_key}
use Rattle.cookie_jar.specs.Sending.{joined, marked}
use Rattle.reply_lines.specs.Plain.{body_of}
use Rattle.reply_lines.specs.Reply.{Cookie, Load, SetOne}
use Rattle.script_actions.specs.Action.{HeadField}
use Rattle.agent_model.specs.CookieCells.{Cookies}
use Rattle.agent_model.specs.Partition.{Holdings}
use Rattle.agent_model.specs.Effects.{Effect, answers}
use Rattle.agent_model.specs.CookieUse.{CookieUse, cookie_domain, uses_own}
use Rattle.agent_model.specs.CookieStore.{BothCells, both_marked, cookie_texts, header_text, own_places, partition_places, sent, store_text, store_texts}
use Rattle.agent_model.specs.Cookies.{leaves, read_cookies_by, request, set_cookie_by}
use Rattle.row_changes.specs.Change.{PlainChange}
use Rattle.row_changes.specs.Plain.{plain_change}
use Rattle.web_cookies.specs.Words.{AreStored, IsStored}
use Rattle.web_cookies.specs.Stored.{Entries, IsDoneBy, held_with, shared_in}
use Rattle.web_cookies.specs.Cells.{HaveKinds, cell_order, cookies_at, jar_at, kind_of}
use Rattle.web_cookies.specs.Becoming.{becomes_of}
use Rattle.web_cookies.specs.Keys.{own_of, partition_of}
use Rattle.web_cookies.specs.Prepared.{AreReady, HasPlace, HasPlaceIf, Prepares, changed, changed_if, cookies_after}
use Rattle.web_cookies.specs.declared.change.Becomes.{Becomes}
use Rattle.web_cookies.specs.declared.change.Becomes.TheVariants.{Marked, Stored}
use Rattle.web_cookies.specs.declared.change.BothChanges.{BothChanges}
use Rattle.web_cookies.specs.CellsOfUse.{AreKeysOf, HasKey, HoldSame, KeepKeys, LeaveBoth, cookies_if, found, is_key, left_at, own_key, partition_key}
use Rattle.web_cookies.specs.declared.prepared.Prepared.{Prepared}
use Rattle.web_cookies.proofs.OrderOfCells.{alike, cell_order_total, equal_keys, order, own_tie}
use Rattle.key_map.proofs.PlainKeyLemmas as plain
use Rattle.web_cookies.proofs.LeftLemmas.{done_leaves, found_is, found_same}
use Rattle.web_cookies.proofs.HeaderLemmas.{header_is}

-- ---- effects, by what a use finds

module _ (rules : List Rule) (now : ℕ) (how : CookieUse) (entries : Entries) (held : Holdings) where
  pub request_is : (head : List HeadField)
      → request rules now how head (shared_in entries) (held_with entries held)
      ≡ leaves rules how (store_texts rules now how (both_marked now how (found rules how entries)) (cookie_texts head)).both
      (store_texts rules now how (both_marked now how (found rules how entries)) (cookie_texts head)).changes
      (Load (header_text (sent now how (found rules how entries))) (store_texts rules now how (both_marked now how (found rules how entries)) (cookie_texts head)).words)
      (shared_in entries) (held_with entries held)
  request_is head =
      ap (λ both. leaves rules how (store_texts rules now how (both_marked now how both) (cookie_texts head)).both
      (store_texts rules now how (both_marked now how both) (cookie_texts head)).changes
      (Load (header_text (sent now how both)) (store_texts rules now how (both_marked now how both) (cookie_texts head)).words)
      (shared_in entries) (held_with entries held)) (found_is rules how entries held)

  pub set_is : (text : List ℕ)
      → set_cookie_by rules now how text (shared_in entries) (held_with entries held)
      ≡ leaves rules how (store_text rules now how (found rules how entries) text).both (store_text rules now how (found rules how entries) text).changes
      (SetOne (store_text rules now how (found rules how entries) text).word)
      (shared_in entries) (held_with entries held)
  set_is text =
      ap (λ both. leaves rules how (store_text rules now how both text).both (store_text rules now how both text).changes
      (SetOne (store_text rules now how both text).word)
      (shared_in entries) (held_with entries held)) (found_is rules how entries held)

  pub read_is : read_cookies_by rules now how (shared_in entries) (held_with entries held)
      ≡ answers (Cookie (joined (sent now how (found rules how entries)))) (shared_in entries) (held_with entries held)
  read_is = ap (λ both. answers (Cookie (joined (sent now how both))) (shared_in entries) (held_with entries held)) (found_is rules how entries held)

-- ---- what is prepared

-- an effect that leaves what was prepared
prepares_left : (rules : List Rule) (how : CookieUse) (entries : Entries) (prepared : Prepared) (both : BothCells) (changes : List PlainChange) (does : Effect)
    → AreReady prepared.cells entries → LeaveBoth rules how both entries prepared.cells
    → map plain_change prepared.rows.items ≡ changes
    → ((held : Holdings) → does (shared_in entries) (held_with entries held) ≡ leaves rules how both changes (body_of prepared.body) (shared_in entries) (held_with entries held))
    → Prepares does entries prepared
prepares_left rules how entries prepared both changes does ready left rows is = record {
  ready = ready;
  done = λ new after. done_leaves rules how both entries new (λ key. after key ∙ left.left key) does changes (body_of prepared.body) is;
  rows = λ held. rows ∙ sym (ap (λ d. d.changes) (is held));
}

-- what both cells become, where the keys are those of a use
module _ (rules : List Rule) (how : CookieUse) (entries : Entries) (cells : BothChanges) (keys : AreKeysOf rules how (rc_value cells.keys)) where
  abbrev own_makes : Cookies → Cookies
  own_makes = becomes_of kind.Own cells.own

  abbrev partition_makes : Cookies → Cookies
  partition_makes = becomes_of kind.Partition cells.partition

  abbrev made : BothCells
  made = record { own = own_makes (found rules how entries).own; partition = partition_makes (found rules how entries).partition }

  abbrev after : PlainKey → Cookies
  after key = cookies_after cells key (cookies_at key entries)

  abbrev wanted : PlainKey → Cookies
  wanted key = left_at rules how made key (cookies_at key entries)

  own_changed : (key : PlainKey) (cookies : Cookies)
      → changed_if (own_of (rc_value cells.keys)) cells.own key cookies ≡ cond (is_key key (own_key rules how)) (own_makes cookies) cookies
  own_changed key cookies = ap (λ cell. changed_if cell cells.own key cookies) keys.own ∙ at (uses_own how)
    where
      at : (b : Bool) → changed_if (cond b (Some (OwnCell (cookie_domain rules how))) None) cells.own key cookies
          ≡ cond (is_key key (cond b (Some (OwnCell (cookie_domain rules how))) None)) (own_makes cookies) cookies
      at true = refl
      at false = refl

  after_is : (key : PlainKey) → after key ≡ changed (partition_key rules how) cells.partition key (changed_if (own_of (rc_value cells.keys)) cells.own key (cookies_at key entries))
  after_is key = ap (λ cell. changed cell cells.partition key (changed_if (own_of (rc_value cells.keys)) cells.own key (cookies_at key entries))) keys.partition

  not_own : is_key (partition_key rules how) (own_key rules how) ≡ false
  not_own = at (uses_own how)
    where
      at : (first : Bool) → is_key (partition_key rules how) (cond first (Some (OwnCell (cookie_domain rules how))) None) ≡ false
      at true = refl
      at false = refl

  at_partition : after (partition_key rules how) ≡ wanted (partition_key rules how)
  at_partition =
      let key = partition_key rules how in
      let cookies = cookies_at key entries in
      let before = changed_if (own_of (rc_value cells.keys)) cells.own key cookies in
      after_is key
      ∙ ap (λ b. cond b (partition_makes before) before) (own_tie key)
      ∙ ap partition_makes (own_changed key cookies ∙ ap (λ b. cond b (own_makes cookies) cookies) not_own)
      ∙ sym (ap (λ b. cond b made.partition (cond (is_key key (own_key rules how)) made.own cookies)) (own_tie key))

  own_cookies : (key : PlainKey) (own : Option PlainKey) (b : Bool) → is_key key own ≡ b
      → cond b (own_makes (cookies_at key entries)) (cookies_at key entries) ≡ cond b (own_makes (cookies_if own entries)) (cookies_at key entries)
  own_cookies key own false is = refl
  own_cookies key None true is = cc
  own_cookies key (Some other) true is = ap (λ k. own_makes (cookies_at k entries)) (equal_keys key other is)

  elsewhere : (key : PlainKey) → eq_by_cmp cell_order key (partition_key rules how) ≡ false → after key ≡ wanted key
  elsewhere key apart =
      let cookies = cookies_at key entries in
      let before = changed_if (own_of (rc_value cells.keys)) cells.own key cookies in
      after_is key
      ∙ ap (λ b. cond b (partition_makes before) before) apart
      ∙ own_changed key cookies
      ∙ own_cookies key (own_key rules how) (is_key key (own_key rules how)) refl
      ∙ sym (ap (λ b. cond b made.partition (cond (is_key key (own_key rules how)) made.own cookies)) apart)

  pub made_left : LeaveBoth rules how made entries cells
  made_left = record { left = λ key. at key (eq_by_cmp cell_order key (partition_key rules how)) refl }
    where
      at : (key : PlainKey) (b : Bool) → eq_by_cmp cell_order key (partition_key rules how) ≡ b → after key ≡ wanted key
      at key true tie = subst (λ k. after k ≡ wanted k) (sym (equal_keys key (partition_key rules how) tie)) at_partition
      at key false apart = elsewhere key apart

-- ---- what was prepared is done

place_kept : (key : PlainKey) (becomes : Becomes) (old mid : Entries) → KeepKeys old mid → HasPlace key old becomes → HasPlace key mid becomes
place_kept key (Marked places now new) old mid kept place = tt
place_kept key (Stored jar) old mid kept place = kept key place

-- both changes, one after the other
pub both_done : (prepared : Prepared) (old mid new : Entries) → let cells = prepared.cells in
    (HasPlaceIf (own_of (rc_value cells.keys)) old cells.own → (key : PlainKey) → cookies_at key mid ≡ changed_if (own_of (rc_value cells.keys)) cells.own key (cookies_at key old))
    → KeepKeys old mid
    → (HasPlace (partition_of (rc_value cells.keys)) mid cells.partition → (key : PlainKey) → cookies_at key new ≡ changed (partition_of (rc_value cells.keys)) cells.partition key (cookies_at key mid))
    → (does : Effect) → Prepares does old prepared → IsDoneBy does old new (body_of prepared.body)
both_done prepared old mid new first kept second does is =
    let cells = prepared.cells in
    is.done new (λ key.
    second (place_kept (partition_of (rc_value cells.keys)) cells.partition old mid kept is.ready.partition) key
    ∙ ap (changed (partition_of (rc_value cells.keys)) cells.partition key) (first is.ready.own key))

-- ---- a request

module _ (rules : List Rule) (now : ℕ) (how : CookieUse) where
  -- the cells that are marked
  pub marked_is : (at : BothCells) (own_at partition_at : List ℕ) (before after : BothCells) → before ≡ at
      → after.own ≡ marked own_at (pos now) before.own → after.partition ≡ marked partition_at (pos now) before.partition
      → own_at ≡ own_places now how at → partition_at ≡ partition_places now how at
      → after ≡ both_marked now how at
  marked_is at own_at partition_at before after is own partition are_own are_partition = λ i. record {
    own = (own ∙ ap (λ b. marked own_at (pos now) b.own) is ∙ ap (λ places. marked places (pos now) at.own) are_own) i;
    partition = (partition ∙ ap (λ b. marked partition_at (pos now) b.partition) is ∙ ap (λ places. marked places (pos now) at.partition) are_partition) i;
  }

  -- the header that is told
  pub header_told : (at : BothCells) (own_at partition_at text : List ℕ) (header : Option (List ℕ))
      → header ≡ cond ((length own_at == 0) && (length partition_at == 0)) None (Some text)
      → own_at ≡ own_places now how at → partition_at ≡ partition_places now how at → text ≡ joined (sent now how at)
      → header ≡ header_text (sent now how at)
  header_told at own_at partition_at text header is are_own are_partition is_text =
      is
      ∙ ap (λ places. cond ((length places == 0) && (length partition_at == 0)) None (Some text)) are_own
      ∙ ap (λ places. cond ((length (own_places now how at) == 0) && (length places == 0)) None (Some text)) are_partition
      ∙ ap (λ t. cond ((length (own_places now how at) == 0) && (length (partition_places now how at) == 0)) None (Some t)) is_text
      ∙ sym (header_is now how at)

  pub request_prepared : (old new : Entries) (head : List HeadField) (prepared : Prepared)
      (before after : BothCells) (header : Option (List ℕ)) (words : List (List ℕ))
      → HoldSame old new
      → before ≡ both_marked now how (found rules how old)
      → AreStored (store_texts rules now how before (cookie_texts head)) after words
      → map plain_change prepared.rows.items ≡ (store_texts rules now how before (cookie_texts head)).changes
      → header ≡ header_text (sent now how (found rules how old))
      → body_of prepared.body ≡ Load header words
      → LeaveBoth rules how after new prepared.cells → AreReady prepared.cells new
      → Prepares (request rules now how head) new prepared
  request_prepared old new head prepared before after header words same marks stores rows tells is_body left can =
      let stored = store_texts rules now how before (cookie_texts head) in
      prepares_left rules how new prepared after stored.changes (request rules now how head) can left rows (λ held.
      request_is rules now how new held head
      ∙ ap (λ f. leaves rules how (store_texts rules now how (both_marked now how f) (cookie_texts head)).both
      (store_texts rules now how (both_marked now how f) (cookie_texts head)).changes
      (Load (header_text (sent now how f)) (store_texts rules now how (both_marked now how f) (cookie_texts head)).words)
      (shared_in new) (held_with new held)) (found_same rules how old new same)
      ∙ ap (λ b. let t = store_texts rules now how b (cookie_texts head) in
      leaves rules how t.both t.changes (Load (header_text (sent now how (found rules how old))) t.words) (shared_in new) (held_with new held)) (sym marks)
      ∙ (λ i. leaves rules how (stores.0 i) stored.changes (Load (sym tells i) (stores.1 i)) (shared_in new) (held_with new held))
      ∙ ap (λ b. leaves rules how after stored.changes b (shared_in new) (held_with new held)) (sym is_body))

  -- a script that sets a cookie
  pub set_prepared : (old new : Entries) (text : List ℕ) (prepared : Prepared) (after : BothCells) (word : List ℕ)
      → HoldSame old new
      → IsStored (store_text rules now how (found rules how old) text) after word
      → map plain_change prepared.rows.items ≡ (store_text rules now how (found rules how old) text).changes
      → body_of prepared.body ≡ SetOne word
      → LeaveBoth rules how after new prepared.cells → AreReady prepared.cells new
      → Prepares (set_cookie_by rules now how text) new prepared
  set_prepared old new text prepared after word same stores rows is_body left can =
      let stored = store_text rules now how (found rules how old) text in
      prepares_left rules how new prepared after stored.changes (set_cookie_by rules now how text) can left rows (λ held.
      set_is rules now how new held text
      ∙ ap (λ f. let t = store_text rules now how f text in
      leaves rules how t.both t.changes (SetOne t.word) (shared_in new) (held_with new held)) (found_same rules how old new same)
      ∙ (λ i. leaves rules how (stores.0 i) stored.changes (SetOne (stores.1 i)) (shared_in new) (held_with new held))
      ∙ ap (λ b. leaves rules how after stored.changes b (shared_in new) (held_with new held)) (sym is_body))

  pub read_done : (entries : Entries) (text : List ℕ) → text ≡ joined (sent now how (found rules how entries)) → IsDoneBy (read_cookies_by rules now how) entries entries (Cookie text)
  read_done entries text is = λ held. record {
    cells = sym (ap (λ done. done.cells) (read_is rules now how entries held));
    held = sym (ap (λ done. done.held) (read_is rules now how entries held));
    body = ap Cookie is ∙ sym (ap (λ done. done.body) (read_is rules now how entries held));
  }

-- marks have a place wherever their key is
pub marks_place : (key : Option PlainKey) (entries : Entries) (becomes : Becomes) → ((k : PlainKey) → HasPlace k entries becomes) → HasPlaceIf key entries becomes
marks_place None entries becomes place = tt
marks_place (Some key) entries becomes place = place key

-- what is stored has a place where its key has one
pub stored_place : (key : Option PlainKey) (entries : Entries) (jar : PlainJar) → HasKey key entries → HasPlaceIf key entries (Stored jar)
stored_place None entries jar place = tt
stored_place (Some key) entries jar place = place

-- ---- kinds

kind_by : (q key : PlainKey) (jar : PlainJar) (old : Option PlainJar) (b : Bool) → eq_by_cmp cell_order q key ≡ b → jar.kind ≡ kind_of key
    → IfSome old (λ j. j.kind ≡ kind_of q) → IfSome (cond b (Some jar) old) (λ j. j.kind ≡ kind_of q)
kind_by q key jar old true tie is before = is ∙ ap kind_of (sym (equal_keys q key tie))
kind_by q key jar old false apart is before = before

-- jars stay of the kind of their key
pub kinds_set : (key : CellKey) (jar : PlainJar) (entries : Entries) → HaveKinds entries → jar.kind ≡ kind_of (plain_key key)
    → is_some (map_get order key entries) ≡ true → HaveKinds (map_set order key jar entries)
kinds_set key jar entries kinds is there = λ q.
    subst (λ o. IfSome o (λ j. j.kind ≡ kind_of q)) (sym (plain.found-set plain_key cell_order cell_order_total order alike q key jar entries there))
    (kind_by q (plain_key key) jar (jar_at q entries) (eq_by_cmp cell_order q (plain_key key)) refl is (kinds q))

pub kinds_put : (key : CellKey) (jar : PlainJar) (entries : Entries) → HaveKinds entries → jar.kind ≡ kind_of (plain_key key)
    → HaveKinds (map_put order key jar entries)
kinds_put key jar entries kinds is = λ q.
    subst (λ o. IfSome o (λ j. j.kind ≡ kind_of q)) (sym (plain.found-put plain_key cell_order cell_order_total order alike q key jar entries))
    (kind_by q (plain_key key) jar (jar_at q entries) (eq_by_cmp cell_order q (plain_key key)) refl is (kinds q))
