-- What the storage holds, after its shed or its session areas changed.
use Rattle.std.proofs.Common.{◌≡◌, ℕ, List, [], Option, Some, None, Bor, true, refl, sym, ap, ◌∙◌}
use Rattle.std.specs.Prelude.{MatchOption, is_some, option_copied, option_map, unwrap_or, Result, Ok, Err, IfOk, IsOk}
use Rattle.std.specs.Borrow.{MutBor}
use Rattle.storage_key.proofs.OrderLemmas.{key_order_total, key_order_same}
use Rattle.agent_model.proofs.HoldingsLemmas.{session_order_total, session_order_same}
use Rattle.web_storage.proofs.SessionWrites.{cell_itself}
use Rattle.unwinding.specs.FiniteCells.{get_cell, set_cell}
use Rattle.storage_key.specs.Key.{PlainKey, key_order}
use Rattle.storage_key.specs.declared.key.StorageKey.{StorageKey}
use Rattle.local_area.specs.Area.{Pair}
use Rattle.buckets.specs.declared.shed.Bucket.{Bucket}
use Rattle.buckets.specs.Shed.{fresh_bucket}
use Rattle.storage_events.specs.declared.event.AreaKind.{AreaKind}
use Rattle.storage_events.specs.declared.event.AreaKind.TheVariants.{Local, Session}
use Rattle.agent_model.specs.Partition.{Holdings, area_of, with_area, session_order}
use Rattle.web_storage.specs.Stored.{Entries, areas_in, keys_in, sessions_in, held_with}

module _ (beside : Holdings) (kind : AreaKind) (tab : ℕ) (key : PlainKey) where
  -- a local area is one of the shed
  pub local_of : kind ≡ Local → (entries : Entries)
      → area_of kind tab key (held_with beside entries) ≡ get_cell key_order (areas_in entries.local) key
  unfolding held_with
  local_of is entries = ap (λ k. area_of k tab key (held_with beside entries)) is

  -- a session area is one of a tab
  pub session_of : kind ≡ Session → (entries : Entries)
      → area_of kind tab key (held_with beside entries) ≡ get_cell session_order (sessions_in entries.session) (tab, key)
  unfolding held_with
  session_of is entries = ap (λ k. area_of k tab key (held_with beside entries)) is

  -- another shed, whose areas differ at one key
  pub local_held : kind ≡ Local → (pairs : List Pair) (old : Entries) (shed : List (StorageKey × Bucket))
      → areas_in shed ≡ set_cell key_order key pairs (areas_in old.local) → keys_in shed ≡ keys_in old.local
      → held_with beside (record { local = shed; session = old.session }) ≡ with_area kind tab key pairs (held_with beside old)
  unfolding held_with
  local_held is pairs old shed areas modes =
      (λ i. record beside { areas = areas i; persistent = modes i; sessions = sessions_in old.session })
      ∙ ap (λ k. with_area k tab key pairs (held_with beside old)) (sym is)

  -- other session areas, which differ at one tab and key
  pub session_held_with : kind ≡ Session → (pairs : List Pair) (old : Entries)
      (sessions : List (ℕ × List (StorageKey × List Pair)))
      → sessions_in sessions ≡ set_cell session_order (tab, key) pairs (sessions_in old.session)
      → held_with beside (record { local = old.local; session = sessions }) ≡ with_area kind tab key pairs (held_with beside old)
  unfolding held_with
  session_held_with is pairs old sessions changed =
      (λ i. record beside { areas = areas_in old.local; persistent = keys_in old.local; sessions = changed i })
      ∙ ap (λ k. with_area k tab key pairs (held_with beside old)) (sym is)

module _ (beside : Holdings) (old : Entries) where
  -- another shed with the same areas and modes
  pub local_kept : (shed : List (StorageKey × Bucket)) → areas_in shed ≡ areas_in old.local → keys_in shed ≡ keys_in old.local
      → held_with beside (record { local = shed; session = old.session }) ≡ held_with beside old
  unfolding held_with
  local_kept shed areas modes = λ i. record beside { areas = areas i; persistent = modes i; sessions = sessions_in old.session }

  -- other session areas that are the same
  pub session_kept : (sessions : List (ℕ × List (StorageKey × List Pair))) → sessions_in sessions ≡ sessions_in old.session
      → held_with beside (record { local = old.local; session = sessions }) ≡ held_with beside old
  unfolding held_with
  session_kept sessions same = λ i. record beside {
    areas = areas_in old.local;
    persistent =
        keys_in old.local;
    sessions = same i;
  }

-- a bucket's area, where it may not be there
pub area_or : (bucket : Option Bucket) → unwrap_or (option_map (λ b. b.area) bucket) [] ≡ (unwrap_or bucket fresh_bucket).area
area_or None = refl
area_or (Some bucket) = refl

-- what is lent are the pairs, and none is lent where there are none
pub lent_pairs : (lent : Option (Bor (List Pair))) (at : Option (List Pair)) (pairs : List Pair) → option_copied lent ≡ at
    → unwrap_or at [] ≡ pairs → MatchOption lent (pairs ≡ []) (λ area. area.now ≡ pairs)
lent_pairs None at pairs is same = sym same ∙ ap (λ a. unwrap_or a []) (sym is)
lent_pairs (Some area) at pairs is same = ap (λ a. unwrap_or a []) is ∙ same

-- what is lent is there
pub lent_there : {E : Type 0} (r : Result (MutBor (List Pair)) E) (at : Option (List Pair))
    → IfOk r (λ area. Some area.now ≡ at) → IsOk r → is_some at ≡ true
lent_there (Ok area) at is ok = ap is_some (sym is)
lent_there (Err e) at is ok = absurd (cc ok)

pub some_area : (bucket : Option Bucket) → is_some (option_map (λ b. b.area) bucket) ≡ true → is_some bucket ≡ true
some_area None is = is
some_area (Some bucket) is = refl

-- an area that is given the pairs that it has
pub area_itself : (beside : Holdings) (kind : AreaKind) (tab : ℕ) (key : PlainKey) (pairs : List Pair)
    (entries : Entries) → pairs ≡ area_of kind tab key (held_with beside entries)
    → with_area kind tab key pairs (held_with beside entries) ≡ held_with beside entries
unfolding held_with
area_itself beside Local tab key pairs entries is = λ i. record beside {
  areas = (ap (λ p. set_cell key_order key p (areas_in entries.local)) is
      ∙ cell_itself key_order key_order_total key_order_same key (areas_in entries.local)) i;
  persistent = keys_in entries.local;
  sessions = sessions_in entries.session;
}
area_itself beside Session tab key pairs entries is = λ i. record beside {
  areas = areas_in entries.local;
  persistent = keys_in entries.local;
  sessions = (ap (λ p. set_cell session_order (tab, key) p (sessions_in entries.session)) is
      ∙ cell_itself session_order session_order_total session_order_same (tab, key) (sessions_in entries.session)) i;
}
