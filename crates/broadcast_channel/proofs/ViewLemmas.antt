-- The channels that contracts see after what is held of them changed.
use Rattle.std.proofs.Common.{◌≡◌, Bool, not, sym, true, false, cond, List, [], ◌∷◌, ◌++◌, map, Option, Some, None, refl, ap, ◌∙◌, ℕ}
use Rattle.std.specs.Prelude.{is_some, ◌&&◌, filter, option_map, unwrap_or, string_bytes}
use Rattle.std.specs.List.{AllByRecursion}
use Rattle.std.specs.List.Sorted.{IsStrictlySortedBy}
use Rattle.std.specs.Map.{keys_of}
use Rattle.std.specs.Cmp.{IsTotalOrder, then_total, on_total, nat_cmp_total}
use Rattle.std.specs.Cmp.Lexicographic.{slice_cmp, nat_list_cmp_total}
use Rattle.std.specs.declared.cmp.Ordering.{Ordering}
use Rattle.std.specs.Ordering.{is_eq, is_lt, nat_cmp, ordering_then}
use Rattle.std.specs.Rc.{rc_value}
use Rattle.std.specs.declared.rc.Rc.{Rc}
use Rattle.key_map.specs.Entries.{map_get, map_put, map_remove}
use Rattle.key_map.proofs.EntriesLemmas.{eq-flip}
use Rattle.broadcast_channel.specs.Channel.{PlainChannel, channel_at, changed_at, emptied, shut, fresh, with_channel, told, told_by, is_channel_of, id_order, is_open_at, waits_at, without_owner, posted, posted_on}
use Rattle.broadcast_channel.specs.Queue.{PlainQueue, waiting_after}
use Rattle.broadcast_channel.specs.Hearers.{by_id, by_line, channel_of, channels_of, waiting_at, ChangesAt, WaitsAsBefore, TellsLine}
use Rattle.broadcast_channel.specs.declared.hearers.ChannelId.{ChannelId}
use Rattle.broadcast_channel.specs.declared.hearers.Line.{Line}
use Rattle.broadcast_channel.proofs.MapLemmas.{itself, eq-along, map-given, only-found, apart-missing, map_put-parts, none_from}
use Rattle.broadcast_channel.proofs.LineLemmas.{waits-same}

pub by_id_total : {O : Type 0} (by_owner : O → O → Ordering) → IsTotalOrder by_owner → IsTotalOrder (by_id by_owner)
by_id_total by_owner total = then_total (on_total (λ i. i.owner) total) (on_total (λ i. i.id) nat_cmp_total)

pub by_line_total : {K : Type 0} (Z : Type 0) (by_key : K → K → Ordering) → IsTotalOrder by_key → IsTotalOrder (by_line {K = K} {Z = Z} by_key)
by_line_total {K = K} Z by_key total =
    then_total (on_total (λ (l : Rc (Line K) Z). (rc_value l).key) total) (on_total (λ (l : Rc (Line K) Z). string_bytes (rc_value l).name) nat_list_cmp_total)

map_map : {A B C : Type 0} (f : A → B) (g : B → C) (xs : List A) → map g (map f xs) ≡ map (λ x. g (f x)) xs
map_map f g [] = refl
map_map f g (x ∷ xs) = ap (λ r. g (f x) ∷ r) (map_map f g xs)

map_append : {A B : Type 0} (f : A → B) (xs ys : List A) → map f (xs ++ ys) ≡ map f xs ++ map f ys
map_append f [] ys = refl
map_append f (x ∷ xs) ys = ap (λ r. f x ∷ r) (map_append f xs ys)

and_false : (a : Bool) → a && false ≡ false
and_false true = refl
and_false false = refl

module _ {O K : Type 0} (Z : Type 0) (by_owner : O → O → Ordering) (owner_order : IsTotalOrder by_owner) (by_key : K → K → Ordering) (key_order : IsTotalOrder by_key) where
  abbrev Own : Type 0
  Own = List (ChannelId O × Rc (Line K) Z)

  abbrev Held : Type 0
  Held = List (Rc (Line K) Z × List (ChannelId O × PlainQueue))

  abbrev ids : ChannelId O → ChannelId O → Ordering
  ids = by_id by_owner

  abbrev rows : Rc (Line K) Z → Rc (Line K) Z → Ordering
  rows = by_line by_key

  abbrev waits : Rc (Line K) Z → ChannelId O → Held → Option (List (List ℕ) × ℕ)
  waits = waiting_at rows ids

  -- an entry as a channel
  abbrev seen : Held → ChannelId O × Rc (Line K) Z → PlainChannel O K
  seen lines e = channel_of by_owner by_key e.0 e.1 (waits e.1 e.0 lines)

  abbrev view : Own → Held → List (PlainChannel O K)
  view = channels_of by_owner by_key

  ids_total : IsTotalOrder ids
  ids_total = by_id_total by_owner owner_order

  rows_total : IsTotalOrder rows
  rows_total = by_line_total Z by_key key_order

  -- ---- the channel of an owner and an id

  -- what is found at an id
  pub record IsFound (id : ChannelId O) (own : Own) (lines : Held) (line : Rc (Line K) Z) : Type 0 where
    pub stored : ChannelId O
    pub same : is_eq (ids id stored) ≡ true
    pub found : channel_at by_owner id.owner id.id (view own lines) ≡ Some (channel_of by_owner by_key stored line (waits line stored lines))

  found_step : (id : ChannelId O) (e : ChannelId O × Rc (Line K) Z) (es : Own) (lines : Held) (line : Rc (Line K) Z) (b : Bool) → is_eq (ids id e.0) ≡ b
      → (map_get ids id es ≡ Some line → IsFound id es lines line) → cond b (Some e.1) (map_get ids id es) ≡ Some line → IsFound id (e ∷ es) lines line
  found_step id e es lines line true is later found =
      let at : e.1 ≡ line = cc found in
      record { stored = e.0; same = is; found = rw is (ap (λ l. Some (channel_of by_owner by_key e.0 l (waits l e.0 lines))) at) }
  found_step id e es lines line false is later found =
      let rest = later found in
      record { stored = rest.stored; same = rest.same; found = rw is rest.found }

  pub is_found : (id : ChannelId O) (own : Own) (lines : Held) (line : Rc (Line K) Z) → map_get ids id own ≡ Some line → IsFound id own lines line
  is_found id [] lines line found = absurd (cc found)
  is_found id (e ∷ es) lines line found = found_step id e es lines line (is_eq (ids id e.0)) refl (is_found id es lines line) found

  missing_step : (id : ChannelId O) (e : ChannelId O × Rc (Line K) Z) (es : Own) (lines : Held) (b : Bool) → is_eq (ids id e.0) ≡ b
      → (map_get ids id es ≡ None → channel_at by_owner id.owner id.id (view es lines) ≡ None) → cond b (Some e.1) (map_get ids id es) ≡ None
      → channel_at by_owner id.owner id.id (view (e ∷ es) lines) ≡ None
  missing_step id e es lines true is later missing = absurd (cc missing)
  missing_step id e es lines false is later missing = rw is (later missing)

  pub is_missing : (id : ChannelId O) (own : Own) (lines : Held) → map_get ids id own ≡ None → channel_at by_owner id.owner id.id (view own lines) ≡ None
  is_missing id [] lines missing = refl
  is_missing id (e ∷ es) lines missing = missing_step id e es lines (is_eq (ids id e.0)) refl (is_missing id es lines) missing

  some_step : (b : Bool) (x : PlainChannel O K) (y : Rc (Line K) Z) (o : Option (PlainChannel O K)) (p : Option (Rc (Line K) Z)) → is_some o ≡ is_some p
      → is_some (cond b (Some x) o) ≡ is_some (cond b (Some y) p)
  some_step true x y o p later = refl
  some_step false x y o p later = later

  -- whether there is a channel
  pub is_there : (id : ChannelId O) (own : Own) (lines : Held) → is_some (channel_at by_owner id.owner id.id (view own lines)) ≡ is_some (map_get ids id own)
  is_there id [] lines = refl
  is_there id (e ∷ es) lines =
      some_step (is_eq (ids id e.0)) (seen lines e) e.1 (channel_at by_owner id.owner id.id (view es lines)) (map_get ids id es) (is_there id es lines)

  -- where no channel is seen, none is held
  pub not_there : (id : ChannelId O) (own : Own) (lines : Held) → channel_at by_owner id.owner id.id (view own lines) ≡ None → map_get ids id own ≡ None
  not_there id own lines none = none_from (map_get ids id own) (ap is_some (sym none) ∙ is_there id own lines)

  -- what waits in a channel that is held
  pub waits_found : (id : ChannelId O) (own : Own) (lines : Held) (line : Rc (Line K) Z) → map_get ids id own ≡ Some line
      → waits_at by_owner id.owner id.id (view own lines) ≡ Some (unwrap_or (waits line id lines) ([], 0))
  waits_found id own lines line is =
      let here = is_found id own lines line is in
      ap (option_map (λ c. (c.messages, c.lost))) here.found
      ∙ ap (λ w. Some (unwrap_or w ([], 0))) (waits-same rows rows_total ids ids_total line line id here.stored lines (ap is_eq (itself rows rows_total line)) here.same)

  -- whether a channel that is held is open
  pub open_found : (id : ChannelId O) (own : Own) (lines : Held) (line : Rc (Line K) Z) (channels : List (PlainChannel O K)) (b : Bool) → view own lines ≡ channels
      → map_get ids id own ≡ Some line → b ≡ is_some (waits line id lines) → is_open_at by_owner id.owner id.id channels ≡ Some b
  open_found id own lines line channels b are is opens =
      let here = is_found id own lines line is in
      ap (is_open_at by_owner id.owner id.id) (sym are)
      ∙ ap (option_map (λ c. c.is_open)) here.found
      ∙ ap (λ w. Some (is_some w)) (waits-same rows rows_total ids ids_total line line id here.stored lines (ap is_eq (itself rows rows_total line)) here.same)
      ∙ ap Some (sym opens)

  -- a channel that is not held is not there
  pub open_missing : (id : ChannelId O) (own : Own) (lines : Held) (channels : List (PlainChannel O K)) → view own lines ≡ channels → map_get ids id own ≡ None
      → is_open_at by_owner id.owner id.id channels ≡ None
  open_missing id own lines channels are missing =
      ap (is_open_at by_owner id.owner id.id) (sym are) ∙ ap (option_map (λ c. c.is_open)) (is_missing id own lines missing)

  -- whether an id is used
  pub used_found : (id : ChannelId O) (own : Own) (lines : Held) (channels : List (PlainChannel O K)) (b : Bool) → view own lines ≡ channels → b ≡ is_some (map_get ids id own)
      → is_some (channel_at by_owner id.owner id.id channels) ≡ b
  used_found id own lines channels b are used =
      ap (λ v. is_some (channel_at by_owner id.owner id.id v)) (sym are) ∙ is_there id own lines ∙ sym used

  -- a line of the same storage key and channel name changes as that one does
  pub changes-alike : (line same : Rc (Line K) Z) (id : ChannelId O) (value : Option (List (List ℕ) × ℕ)) (old new : Held) → rc_value line ≡ rc_value same
      → ChangesAt rows ids line id value old new → ChangesAt rows ids same id value old new
  changes-alike line same id value old new alike changes = λ l i.
      changes l i
      ∙ ap (λ (v : Line K). cond (is_eq (ordering_then (by_key (rc_value l).key v.key) (slice_cmp nat_cmp (string_bytes (rc_value l).name) (string_bytes v.name)))
      && is_eq (ids id i)) value (waits l i old)) alike

  -- channels of other owners stay
  pub view-kept : (owner : O) (own : Own) (lines : Held) → AllByRecursion (λ k. is_eq (by_owner owner k.owner) ≡ false) (keys_of own)
      → without_owner by_owner owner (view own lines) ≡ view own lines
  view-kept owner [] lines others = refl
  view-kept owner (e ∷ es) lines others = rw others.0 (ap (λ r. seen lines e ∷ r) (view-kept owner es lines others.1))

  -- ---- one channel changed

  changed_step : (change : PlainChannel O K → PlainChannel O K) (line : Rc (Line K) Z) (id : ChannelId O) (value : Option (List (List ℕ) × ℕ)) (old new : Held)
      → ChangesAt rows ids line id value old new
      → ((i : ChannelId O) → change (channel_of by_owner by_key i line (waits line id old)) ≡ channel_of by_owner by_key i line value)
      → (e : ChannelId O × Rc (Line K) Z) → (is_eq (ids id e.0) ≡ true → e.1 ≡ line) → (b : Bool) → is_eq (ids id e.0) ≡ b
      → cond b (change (seen old e)) (seen old e) ≡ seen new e
  changed_step change line id value old new changes turns e only true is =
      let at = only is in
      rw (at, changes line e.0, ap is_eq (itself rows rows_total line), is, waits-same rows rows_total ids ids_total line line id e.0 old (ap is_eq (itself rows rows_total line)) is)
      (turns e.0)
  changed_step change line id value old new changes turns e only false is =
      rw (changes e.1 e.0, is, and_false (is_eq (rows e.1 line))) refl

  -- a channel changed, and all others are as they were
  pub view-changed : (change : PlainChannel O K → PlainChannel O K) (line : Rc (Line K) Z) (id : ChannelId O) (value : Option (List (List ℕ) × ℕ)) (own : Own) (old new : Held)
      → IsStrictlySortedBy ids (keys_of own) → map_get ids id own ≡ Some line → ChangesAt rows ids line id value old new
      → ((i : ChannelId O) → change (channel_of by_owner by_key i line (waits line id old)) ≡ channel_of by_owner by_key i line value)
      → view own new ≡ changed_at by_owner change id.owner id.id (view own old)
  view-changed change line id value own old new sorted found changes turns =
      sym (map_map (seen old) (λ c. cond (is_channel_of by_owner id.owner id.id c) (change c) c) own
      ∙ map-given (λ e. is_eq (ids id e.0) ≡ true → e.1 ≡ line) (λ e. cond (is_eq (ids id e.0)) (change (seen old e)) (seen old e)) (seen new)
      (λ e only. changed_step change line id value old new changes turns e only (is_eq (ids id e.0)) refl)
      own (only-found ids ids_total id line own sorted found))

  emptied_value : (i : ChannelId O) (line : Rc (Line K) Z) (w : Option (List (List ℕ) × ℕ))
      → emptied (channel_of by_owner by_key i line w) ≡ channel_of by_owner by_key i line (option_map (λ _. ([], 0)) w)
  emptied_value i line None = refl
  emptied_value i line (Some w) = refl

  -- what waited in a channel was received
  pub view-received : (line : Rc (Line K) Z) (id : ChannelId O) (own : Own) (old new : Held) → IsStrictlySortedBy ids (keys_of own) → map_get ids id own ≡ Some line
      → ChangesAt rows ids line id (option_map (λ _. ([], 0)) (waits line id old)) old new
      → view own new ≡ changed_at by_owner emptied id.owner id.id (view own old)
  view-received line id own old new sorted found changes =
      view-changed emptied line id (option_map (λ _. ([], 0)) (waits line id old)) own old new sorted found changes (λ i. emptied_value i line (waits line id old))

  -- a channel was closed
  pub view-closed : (line : Rc (Line K) Z) (id : ChannelId O) (own : Own) (old new : Held) → IsStrictlySortedBy ids (keys_of own) → map_get ids id own ≡ Some line
      → ChangesAt rows ids line id None old new → view own new ≡ changed_at by_owner shut id.owner id.id (view own old)
  view-closed line id own old new sorted found changes = view-changed shut line id None own old new sorted found changes (λ i. refl)

  -- no channel is that of an id which is not there
  pub view-unchanged : (change : PlainChannel O K → PlainChannel O K) (id : ChannelId O) (own : Own) (lines : Held) → map_get ids id own ≡ None
      → view own lines ≡ changed_at by_owner change id.owner id.id (view own lines)
  view-unchanged change id own lines missing = at own (apart-missing ids ids_total id own missing)
    where
      at : (es : Own) → AllByRecursion (λ k. is_eq (ids id k) ≡ false) (keys_of es) → view es lines ≡ changed_at by_owner change id.owner id.id (view es lines)
      at [] apart = refl
      at (e ∷ es) apart = rw apart.0 (ap (λ r. seen lines e ∷ r) (at es apart.1))

  -- where all waits as before, the channels are as they were
  pub view-same : (own : Own) (old new : Held) → WaitsAsBefore rows ids old new → view own new ≡ view own old
  view-same [] old new same = refl
  view-same (e ∷ es) old new same =
      rw (same e.1 e.0) (ap (λ r. seen old e ∷ r) (view-same es old new same))

  -- ---- a channel was dropped

  dropped_step : (id : ChannelId O) (e : ChannelId O × Rc (Line K) Z) (es : Own) (old new : Held)
      → ((l : Rc (Line K) Z) (i : ChannelId O) → is_eq (ids id i) ≡ false → waits l i new ≡ waits l i old)
      → view (map_remove ids id es) new ≡ filter (λ c. not (is_channel_of by_owner id.owner id.id c)) (view es old) → (b : Bool) → is_eq (ids id e.0) ≡ b
      → view (cond (not b) (e ∷ map_remove ids id es) (map_remove ids id es)) new
      ≡ cond (not b) (seen old e ∷ filter (λ c. not (is_channel_of by_owner id.owner id.id c)) (view es old)) (filter (λ c. not (is_channel_of by_owner id.owner id.id c)) (view es old))
  dropped_step id e es old new same later true is = later
  dropped_step id e es old new same later false is = rw (same e.1 e.0 is) (ap (λ r. seen old e ∷ r) later)

  pub view-dropped : (id : ChannelId O) (own : Own) (old new : Held) → ((l : Rc (Line K) Z) (i : ChannelId O) → is_eq (ids id i) ≡ false → waits l i new ≡ waits l i old)
      → view (map_remove ids id own) new ≡ filter (λ c. not (is_channel_of by_owner id.owner id.id c)) (view own old)
  view-dropped id [] old new same = refl
  view-dropped id (e ∷ es) old new same = dropped_step id e es old new same (view-dropped id es old new same) (is_eq (ids id e.0)) refl

  -- what a change of one channel leaves of all others
  pub others-same : (line : Rc (Line K) Z) (id : ChannelId O) (value : Option (List (List ℕ) × ℕ)) (old new : Held) → ChangesAt rows ids line id value old new
      → (l : Rc (Line K) Z) (i : ChannelId O) → is_eq (ids id i) ≡ false → waits l i new ≡ waits l i old
  others-same line id value old new changes l i apart =
      changes l i ∙ ap (λ b. cond (is_eq (rows l line) && b) value (waits l i old)) apart
      ∙ ap (λ b. cond b value (waits l i old)) (and_false (is_eq (rows l line)))

  -- ---- a channel was opened

  part_step : (test : Ordering → Bool) (id : ChannelId O) (e : ChannelId O × Rc (Line K) Z) (es : Own) (old new : Held) → waits e.1 e.0 new ≡ waits e.1 e.0 old
      → view (filter (λ e. test (ids id e.0)) es) new ≡ filter (λ c. test (id_order by_owner id.owner id.id c)) (view es old) → (b : Bool)
      → view (cond b (e ∷ filter (λ e. test (ids id e.0)) es) (filter (λ e. test (ids id e.0)) es)) new
      ≡ cond b (seen old e ∷ filter (λ c. test (id_order by_owner id.owner id.id c)) (view es old)) (filter (λ c. test (id_order by_owner id.owner id.id c)) (view es old))
  part_step test id e es old new same later true = rw same (ap (λ r. seen old e ∷ r) later)
  part_step test id e es old new same later false = later

  part : (test : Ordering → Bool) (id : ChannelId O) (own : Own) (old new : Held)
      → ((l : Rc (Line K) Z) (i : ChannelId O) → is_eq (ids id i) ≡ false → waits l i new ≡ waits l i old)
      → AllByRecursion (λ k. is_eq (ids id k) ≡ false) (keys_of own)
      → view (filter (λ e. test (ids id e.0)) own) new ≡ filter (λ c. test (id_order by_owner id.owner id.id c)) (view own old)
  part test id [] old new same apart = refl
  part test id (e ∷ es) old new same apart =
      part_step test id e es old new (same e.1 e.0 apart.0) (part test id es old new same apart.1) (test (ids id e.0))

  here_value : (line : Rc (Line K) Z) (id : ChannelId O) (value : Option (List (List ℕ) × ℕ)) (old new : Held) → ChangesAt rows ids line id value old new → waits line id new ≡ value
  here_value line id value old new changes =
      changes line id ∙ rw (itself rows rows_total line, itself ids ids_total id) refl

  -- a channel that was opened stands between the others
  pub view-opened : (line : Rc (Line K) Z) (id : ChannelId O) (own : Own) (old new : Held) → IsStrictlySortedBy ids (keys_of own) → map_get ids id own ≡ None
      → ChangesAt rows ids line id (Some ([], 0)) old new
      → view (map_put ids id line own) new ≡ with_channel by_owner (fresh id.owner id.id (rc_value line).key (string_bytes (rc_value line).name)) (view own old)
  view-opened line id own old new sorted missing changes =
      let same = others-same line id (Some ([], 0)) old new changes in
      let apart = apart-missing ids ids_total id own missing in
      rw (
        map_put-parts ids ids_total id line own sorted missing,
        map_append (seen new) (filter (λ e. not (is_lt (ids id e.0))) own) ((id, line) ∷ filter (λ e. is_lt (ids id e.0)) own),
        part (λ o. not (is_lt o)) id own old new same apart,
        part is_lt id own old new same apart,
        here_value line id (Some ([], 0)) old new changes,
      )
      refl

  -- ---- a text was posted

  told_step : (text : List ℕ) (w : Option (List (List ℕ) × ℕ)) (i : ChannelId O) (line : Rc (Line K) Z) (a b : Bool)
      → channel_of by_owner by_key i line (cond (a && not b) (option_map (waiting_after text) w) w)
      ≡ cond (is_some w && (a && not b)) (told text (channel_of by_owner by_key i line w)) (channel_of by_owner by_key i line w)
  told_step text None i line true true = refl
  told_step text None i line true false = refl
  told_step text None i line false b = refl
  told_step text (Some w) i line true true = refl
  told_step text (Some w) i line true false = refl
  told_step text (Some w) i line false b = refl

  -- a text that is posted on a channel comes to those that hear it
  pub view-told : (text : List ℕ) (line : Rc (Line K) Z) (id stored : ChannelId O) (w : Option (List (List ℕ) × ℕ)) (own : Own) (old new : Held) → is_eq (ids id stored) ≡ true
      → TellsLine rows ids line id text old new
      → view own new ≡ told_by by_owner by_key (channel_of by_owner by_key stored line w) text (view own old)
  view-told text line id stored w [] old new same tells = refl
  view-told text line id stored w (e ∷ es) old new same tells =
      let one = tells e.1 e.0 ∙ ap (λ a. cond (a && not (is_eq (ids id e.0))) (option_map (waiting_after text) (waits e.1 e.0 old)) (waits e.1 e.0 old)) (eq-flip rows rows_total e.1 line)
      ∙ ap (λ b. cond (is_eq (rows line e.1) && not b) (option_map (waiting_after text) (waits e.1 e.0 old)) (waits e.1 e.0 old)) (alike id stored e.0 same) in
      let head = ap (channel_of by_owner by_key e.0 e.1) one ∙ told_step text (waits e.1 e.0 old) e.0 e.1 (is_eq (rows line e.1)) (is_eq (ids stored e.0)) in
      let rest = view-told text line id stored w es old new same tells in
      ap (λ c. c ∷ view es new) head
      ∙ ap (λ r. cond (is_some (waits e.1 e.0 old) && (is_eq (rows line e.1) && not (is_eq (ids stored e.0)))) (told text (seen old e)) (seen old e) ∷ r) rest
    where
      alike : (id stored other : ChannelId O) → is_eq (ids id stored) ≡ true → is_eq (ids id other) ≡ is_eq (ids stored other)
      alike id stored other same =
          eq-flip ids ids_total id other ∙ eq-along ids ids_total other id stored same ∙ eq-flip ids ids_total other stored

  -- a post on a channel that is open
  pub view-posted : (text : List ℕ) (line : Rc (Line K) Z) (id : ChannelId O) (own : Own) (old new : Held) → map_get ids id own ≡ Some line
      → true ≡ is_some (waits line id old) → TellsLine rows ids line id text old new → view own new ≡ posted by_owner by_key id.owner id.id text (view own old)
  view-posted text line id own old new found is tells =
      let here = is_found id own old line found in
      let opens = ap is_some (waits-same rows rows_total ids ids_total line line id here.stored old (ap is_eq (itself rows rows_total line)) here.same) ∙ sym is in
      view-told text line id here.stored (waits line here.stored old) own old new here.same tells
      ∙ sym (ap (λ o. posted_on by_owner by_key o text (view own old)) here.found
      ∙ ap (λ b. cond b (told_by by_owner by_key (channel_of by_owner by_key here.stored line (waits line here.stored old)) text (view own old)) (view own old)) opens)
