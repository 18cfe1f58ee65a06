-- Each call keeps every name's requests in one of the forms.
use Rattle.std.proofs.Common.{◌≡◌, inl, ℕ, Bool, true, false, cond, not, List, [], ◌∷◌, ◌++◌, Option, Some, None, refl, sym, ap, subst, ◌∙◌}
use Rattle.std.specs.Prelude.{◌&&◌, ◌||◌, filter, find, fold}
use Rattle.std.specs.List.{IsDistinct, list_any}
use Rattle.std.specs.Cmp.{IsTotalOrder}
use Rattle.std.specs.declared.cmp.Ordering.{Ordering}
use Rattle.std.proofs.lemmas.List.Elements.{filter-append}
use Rattle.std.proofs.lemmas.List.{append-nil}
use Rattle.std.proofs.lemmas.Map.Keys.{IsDistinct-push}
use Rattle.agent_base.specs.declared.refusals.Label.{Label}
use Rattle.web_locks.specs.declared.request.LockMode.{LockMode}
use Rattle.web_locks.specs.declared.request.LockMode.TheVariants.{Exclusive, Shared}
use Rattle.web_locks.specs.Lock.{PlainLock, has_request, in_line, is_exclusive, is_request_of, line_of, owned_ids}
use Rattle.web_locks.specs.Queue.{held_modes, is_grantable}
use Rattle.web_locks.specs.Requests.{holding, waiting, is_reserved, is_unsupported, released, released_by, requested}
use Rattle.web_locks.specs.Calls.{LockCall, Request, Release, DropOwner, IsGoverned, after_calls, after_call}
use Rattle.web_locks.specs.Forms.{IsKept, AllWaiting, IsFormed, same_request}
use Rattle.web_locks.proofs.LineLemmas.{formed_processed, given}
use Rattle.web_locks.proofs.PushLemmas.{formed_held, formed_stolen, formed_waiting}
use Rattle.web_locks.proofs.GovernedLemmas.{formed_governed}
use Rattle.web_locks.proofs.TableLemmas.{any_kept, distinct_kept, filter_both, granted_distinct, granted_elsewhere, granted_here, in_line-alike, in_line-apart, removed_elsewhere, same_request-equiv}

either_false : (a b : Bool) → (a || b) ≡ false → (a ≡ false) × (b ≡ false)
either_false true b is = absurd (cc is)
either_false false b is = (refl, is)

module _ {K : Type 0} (cmp : K → K → Ordering) (order : IsTotalOrder cmp) where
  -- ---- releases

  release_lines : (owner : Label) (id : ℕ) (table : List (PlainLock K)) (lock : PlainLock K) → find (is_request_of owner id) table ≡ Some lock → IsKept cmp table
      → (key : K) (name : List ℕ) → IsFormed (line_of cmp key name (released_by cmp owner id (Some lock) table))
  release_lines owner id table lock found kept key name = at (in_line cmp key name lock) refl
    where
      rest : List (PlainLock K)
      rest = filter (λ y. not (is_request_of owner id y)) table

      at : (b : Bool) → in_line cmp key name lock ≡ b
          → IsFormed (line_of cmp key name (released_by cmp owner id (Some lock) table))
      at true is =
          let alike = in_line-alike cmp order key name lock is in
          let ms = held_modes (line_of cmp lock.key lock.name rest) in
          subst IsFormed
          (sym (granted_here cmp order lock.key lock.name (in_line cmp key name) rest ms alike (λ q. refl)
          ∙ ap (λ t. given (held_modes (filter t rest)) (line_of cmp key name rest)) (λ i q. alike q i)
          ∙ ap (λ r. given (held_modes r) r) (filter_both (in_line cmp key name) (λ y. not (is_request_of owner id y)) table)))
          (formed_processed (λ y. not (is_request_of owner id y)) (line_of cmp key name table) (kept.formed key name))
      at false off =
          let ms = held_modes (line_of cmp lock.key lock.name rest) in
          subst IsFormed
          (sym (granted_elsewhere cmp order lock.key lock.name (in_line cmp key name) rest ms (in_line-apart cmp order key name lock off) (λ q. refl)
          ∙ removed_elsewhere owner id (in_line cmp key name) lock table kept.distinct found off))
          (kept.formed key name)

  kept_by : (owner : Label) (id : ℕ) (table : List (PlainLock K)) (found : Option (PlainLock K)) → find (is_request_of owner id) table ≡ found → IsKept cmp table
      → IsKept cmp (released_by cmp owner id found table)
  kept_by owner id table None found kept = kept
  kept_by owner id table (Some lock) found kept = record {
    distinct = granted_distinct cmp order lock.key lock.name (in_line cmp lock.key lock.name) _ _ (distinct_kept same_request _ table kept.distinct);
    formed = release_lines owner id table lock found kept;
  }

  pub kept_released : (owner : Label) (id : ℕ) (table : List (PlainLock K)) → IsKept cmp table → IsKept cmp (released cmp owner id table)
  kept_released owner id table kept = kept_by owner id table (find (is_request_of owner id) table) refl kept

  pub kept_dropped : (owner : Label) (ids : List ℕ) (table : List (PlainLock K)) → IsKept cmp table
      → IsKept cmp (fold (λ rest id. released cmp owner id rest) table ids)
  kept_dropped owner [] table kept = kept
  kept_dropped owner (id ∷ ids) table kept =
      kept_dropped owner ids (released cmp owner id table) (kept_released owner id table kept)

  -- ---- requests

  -- one more, of which its own name is told
  pushed : (x : PlainLock K) (table : List (PlainLock K)) → has_request x.owner x.id table ≡ false → IsKept cmp table
      → (start : List (PlainLock K)) → IsDistinct same_request start → list_any (is_request_of x.owner x.id) start ≡ false
      → ((key : K) (name : List ℕ) → in_line cmp key name x ≡ false → line_of cmp key name start ≡ line_of cmp key name table)
      → ((key : K) (name : List ℕ) → in_line cmp key name x ≡ true → IsFormed (line_of cmp key name start ++ x ∷ []))
      → IsKept cmp (start ++ x ∷ [])
  pushed x table free kept start d none elsewhere here = record {
    distinct = IsDistinct-push same_request-equiv start x d none;
    formed = λ key name.
        subst IsFormed (sym (filter-append (in_line cmp key name) start (x ∷ []))) (at key name (in_line cmp key name x) refl);
  }
    where
      at : (key : K) (name : List ℕ) (b : Bool) → in_line cmp key name x ≡ b
          → IsFormed (line_of cmp key name start ++ cond b (x ∷ []) [])
      at key name true is = here key name is
      at key name false off =
          subst IsFormed (sym (append-nil (line_of cmp key name start) ∙ elsewhere key name off)) (kept.formed key name)

  -- a steal leaves those that wait
  stolen_waiting : (x : PlainLock K) (key : K) (name : List ℕ) → ((q : PlainLock K) → in_line cmp x.key x.name q ≡ in_line cmp key name q)
      → (table : List (PlainLock K))
      → AllWaiting (line_of cmp key name (filter (λ y. not (in_line cmp x.key x.name y && y.held)) table))
  stolen_waiting x key name alike [] = tt
  stolen_waiting x key name alike (l ∷ ls) =
      at (in_line cmp x.key x.name l) (sym (alike l)) l.held refl (stolen_waiting x key name alike ls)
    where
      at : (a : Bool) → in_line cmp key name l ≡ a → (h : Bool) → l.held ≡ h
          → AllWaiting (line_of cmp key name (filter (λ y. not (in_line cmp x.key x.name y && y.held)) ls))
          → AllWaiting (line_of cmp key name
          (cond (not (a && h)) (l ∷ filter (λ y. not (in_line cmp x.key x.name y && y.held)) ls)
          (filter (λ y. not (in_line cmp x.key x.name y && y.held)) ls)))
      at true e true i later = later
      at true e false i later = rw e (i, later)
      at false e h i later = rw e later

  -- and takes none of another name
  pub stolen_elsewhere : (x : PlainLock K) (test : PlainLock K → Bool) → ((q : PlainLock K) → in_line cmp x.key x.name q ≡ true → test q ≡ false)
      → (table : List (PlainLock K))
      → filter test (filter (λ y. not (in_line cmp x.key x.name y && y.held)) table) ≡ filter test table
  stolen_elsewhere x test apart [] = refl
  stolen_elsewhere x test apart (l ∷ ls) = at (in_line cmp x.key x.name l) refl l.held (stolen_elsewhere x test apart ls)
    where
      at : (a : Bool) → in_line cmp x.key x.name l ≡ a → (h : Bool)
          → filter test (filter (λ y. not (in_line cmp x.key x.name y && y.held)) ls) ≡ filter test ls
          → filter test
          (cond (not (a && h)) (l ∷ filter (λ y. not (in_line cmp x.key x.name y && y.held)) ls)
          (filter (λ y. not (in_line cmp x.key x.name y && y.held)) ls))
          ≡ cond (test l) (l ∷ filter test ls) (filter test ls)
      at true is true later = rw (apart l is) later
      at true is false later = ap (λ r. cond (test l) (l ∷ r) r) later
      at false is h later = ap (λ r. cond (test l) (l ∷ r) r) later

  exclusive_of : (mode : LockMode) → is_exclusive mode ≡ true → mode ≡ Exclusive
  exclusive_of Exclusive is = refl
  exclusive_of Shared is = absurd (cc is)

  -- a steal that is supported is exclusive
  pub steal_mode : (if_available : Bool) (x : PlainLock K) → is_unsupported if_available x ≡ false → x.stole ≡ true → x.mode ≡ Exclusive
  steal_mode if_available x is stole =
      let steals = (either_false (is_reserved x.name) (x.stole && (if_available || not (is_exclusive x.mode))) is).1 in
      let now : (if_available || not (is_exclusive x.mode)) ≡ false = subst (λ b. (b && (if_available || not (is_exclusive x.mode))) ≡ false) stole steals in
      exclusive_of x.mode (not_false (is_exclusive x.mode) (either_false if_available (not (is_exclusive x.mode)) now).1)
    where
      not_false : (b : Bool) → not b ≡ false → b ≡ true
      not_false true is = refl
      not_false false is = absurd (cc is)

  -- the requests of one's own name
  own_line : (x : PlainLock K) (table : List (PlainLock K)) (key : K) (name : List ℕ) → in_line cmp key name x ≡ true
      → line_of cmp x.key x.name table ≡ line_of cmp key name table
  own_line x table key name is = ap (λ t. filter t table) (λ i q. in_line-alike cmp order key name x is q i)

  pub kept_requested : (if_available : Bool) (x : PlainLock K) (table : List (PlainLock K)) → is_unsupported if_available x ≡ false
      → has_request x.owner x.id table ≡ false → IsKept cmp table → IsKept cmp (requested cmp if_available x table)
  kept_requested if_available x table supported free kept =
      at x.stole refl (is_grantable x.mode (line_of cmp x.key x.name table)) refl if_available
    where
      more : (y : PlainLock K) → has_request y.owner y.id table ≡ false
          → ((key : K) (name : List ℕ) → in_line cmp key name y ≡ true → IsFormed (line_of cmp key name table ++ y ∷ []))
          → IsKept cmp (table ++ y ∷ [])
      more y none here = pushed y table none kept table kept.distinct none (λ key name off. refl) here

      at : (s : Bool) → x.stole ≡ s → (g : Bool) → is_grantable x.mode (line_of cmp x.key x.name table) ≡ g → (i : Bool)
          → IsKept cmp (cond s (filter (λ y. not (in_line cmp x.key x.name y && y.held)) table ++ holding x ∷ [])
          (cond g (table ++ holding x ∷ []) (cond i table (table ++ waiting x ∷ []))))
      at true stole g can i =
          pushed (holding x) table free kept (filter (λ y. not (in_line cmp x.key x.name y && y.held)) table)
          (distinct_kept same_request _ table kept.distinct) (any_kept (is_request_of x.owner x.id) _ table free)
          (λ key name off. stolen_elsewhere x (in_line cmp key name) (in_line-apart cmp order key name x off) table)
          (λ key name is. formed_stolen (holding x) _ refl (steal_mode if_available x supported stole) stole
          (stolen_waiting x key name (in_line-alike cmp order key name x is) table))
      at false stole true can i =
          more (holding x) free (λ key name is.
          formed_held (holding x) (line_of cmp key name table) refl (kept.formed key name)
          (ap (is_grantable x.mode) (sym (own_line x table key name is)) ∙ can))
      at false stole false can true = kept
      at false stole false can false =
          more (waiting x) free (λ key name is.
          formed_waiting (waiting x) (line_of cmp key name table) refl (kept.formed key name)
          (ap (is_grantable x.mode) (sym (own_line x table key name is)) ∙ can))

  -- ---- calls

  kept_called : (call : LockCall K) (table : List (PlainLock K)) → IsKept cmp table → IsKept cmp (after_call cmp call table)
  kept_called (Request if_available x) table kept =
      at (is_unsupported if_available x) refl (has_request x.owner x.id table) refl
    where
      at : (a : Bool) → is_unsupported if_available x ≡ a → (b : Bool) → has_request x.owner x.id table ≡ b
          → IsKept cmp (cond (a || b) table (requested cmp if_available x table))
      at true e b f = kept
      at false e true f = kept
      at false e false f = kept_requested if_available x table e f kept
  kept_called (Release owner id) table kept = kept_released owner id table kept
  kept_called (DropOwner owner) table kept = kept_dropped owner (owned_ids owner table) table kept

  kept_calls : (calls : List (LockCall K)) (table : List (PlainLock K)) → IsKept cmp table → IsKept cmp (fold (λ t call. after_call cmp call t) table calls)
  kept_calls [] table kept = kept
  kept_calls (call ∷ calls) table kept = kept_calls calls (after_call cmp call table) (kept_called call table kept)

  pub none_kept : IsKept cmp []
  unfolding IsDistinct
  none_kept = record { distinct = tt; formed = λ key name. inl tt }

  -- what holds after any calls
  pub governed : (calls : List (LockCall K)) → IsGoverned cmp (after_calls cmp calls)
  governed calls =
      let kept = kept_calls calls [] none_kept in
      record { distinct = kept.distinct; lines = λ key name. formed_governed _ (kept.formed key name) }
