-- A part of the table after a call of that part, and after a call of another.
use Rattle.std.proofs.Common.{◌≡◌, ℕ, Bool, true, false, cond, not, List, [], ◌∷◌, ◌++◌, map, Option, Some, None, refl, sym, ap, ◌∙◌}
use Rattle.std.specs.Prelude.{◌&&◌, ◌||◌, nat_eq, bytes_eq, filter, find, fold, unwrap_or}
use Rattle.std.specs.List.{AllByRecursion}
use Rattle.std.specs.Cmp.{Equal-is, IsTotalOrder}
use Rattle.std.specs.Ordering.{is_eq}
use Rattle.std.specs.declared.cmp.Ordering.{Ordering}
use Rattle.std.proofs.lemmas.Bool.Decides.{Decides-eqb}
use Rattle.std.proofs.lemmas.List.Elements.{filter-append}
use Rattle.std.proofs.lemmas.List.{append-nil}
use Rattle.agent_base.specs.declared.refusals.Label.{Label}
use Rattle.web_locks.specs.declared.request.LockMode.{LockMode}
use Rattle.web_locks.specs.Lock.{PlainLock, has_request, in_line, is_request_of, is_owned, line_of, owned_ids}
use Rattle.web_locks.specs.Queue.{fits, granted, held_modes, is_grantable, processed}
use Rattle.web_locks.specs.Requests.{holding, waiting, is_unsupported, released, released_by, requested}
use Rattle.web_locks.specs.Calls.{LockCall, Request, Release, DropOwner, after_call}
use Rattle.web_locks.specs.Parts.{ArePartsApart, AsksWithin, IsEven, is_within}
use Rattle.web_locks.proofs.TableLemmas.{and_both, filter_both, granted_elsewhere}
use Rattle.web_locks.proofs.CallLemmas.{stolen_elsewhere}

-- a filter of what a wider one keeps
filter_within : {A : Type 0} (p q : A → Bool) (xs : List A) → ((x : A) → p x ≡ true → q x ≡ true) → filter p (filter q xs) ≡ filter p xs
filter_within p q [] wider = refl
filter_within p q (x ∷ xs) wider = at (p x) refl (q x) refl (filter_within p q xs wider)
  where
    at : (a : Bool) → p x ≡ a → (b : Bool) → q x ≡ b → filter p (filter q xs) ≡ filter p xs
        → filter p (cond b (x ∷ filter q xs) (filter q xs)) ≡ cond a (x ∷ filter p xs) (filter p xs)
    at true e true f later = rw e (ap (λ r. x ∷ r) later)
    at true e false f later = absurd (cc (sym f ∙ wider x e))
    at false e true f later = rw e later
    at false e false f later = later

-- one label is the other, where their numbers are
same_label : (a b : Label) → (nat_eq a.tab b.tab && nat_eq a.frame b.frame) ≡ true → a ≡ b
same_label a b is =
    let parts = and_both (nat_eq a.tab b.tab) (nat_eq a.frame b.frame) is in
    let tab : a.tab ≡ b.tab = (Decides-eqb a.tab b.tab).0 parts.0 in
    let frame : a.frame ≡ b.frame = (Decides-eqb a.frame b.frame).0 parts.1 in
    λ i. record { tab = tab i; frame = frame i }

module _ {K : Type 0} (cmp : K → K → Ordering) (order : IsTotalOrder cmp) (under : K → Bool) (own : Label → Bool) (even : IsEven cmp under) where
  abbrev test : PlainLock K → Bool
  test l = under l.key

  -- each request's owner is of the part of its key
  abbrev AreOwn : List (PlainLock K) → Type 0
  AreOwn table = AllByRecursion (λ l. under l.key ≡ own l.owner) table

  -- the requests for a name are of the part of its key
  under_line : (key : K) (name : List ℕ) (l : PlainLock K) → in_line cmp key name l ≡ true → under l.key ≡ under key
  under_line key name l is =
      sym (even key l.key ((Equal-is (cmp key l.key)).0 (and_both (is_eq (cmp key l.key)) (bytes_eq name l.name) is).0))

  own_of : (owner : Label) (l : PlainLock K) → is_owned owner l ≡ true → own l.owner ≡ own owner
  own_of owner l is = ap own (sym (same_label owner l.owner is))

  line_within : (key : K) (name : List ℕ) (table : List (PlainLock K)) → under key ≡ true
      → line_of cmp key name (filter test table) ≡ line_of cmp key name table
  line_within key name table within =
      filter_within (in_line cmp key name) test table (λ l is. under_line key name l is ∙ within)

  -- ---- documents of the part

  module _ (owner : Label) where
    find_within : (id : ℕ) (table : List (PlainLock K)) → own owner ≡ true → AreOwn table
        → find (is_request_of owner id) (filter test table) ≡ find (is_request_of owner id) table
    find_within id [] within all = refl
    find_within id (l ∷ ls) within all = at (is_owned owner l) refl (test l) refl (find_within id ls within all.1)
      where
        at : (a : Bool) → is_owned owner l ≡ a → (b : Bool) → test l ≡ b
            → find (is_request_of owner id) (filter test ls) ≡ find (is_request_of owner id) ls
            → find (is_request_of owner id) (cond b (l ∷ filter test ls) (filter test ls))
            ≡ cond (a && nat_eq id l.id) (Some l) (find (is_request_of owner id) ls)
        at true e true f later = rw e (ap (λ r. cond (nat_eq id l.id) (Some l) r) later)
        at true e false f later = absurd (cc (sym f ∙ all.0 ∙ own_of owner l e ∙ within))
        at false e true f later = rw e later
        at false e false f later = later

    any_within : (id : ℕ) (table : List (PlainLock K)) → own owner ≡ true → AreOwn table
        → has_request owner id (filter test table) ≡ has_request owner id table
    any_within id [] within all = refl
    any_within id (l ∷ ls) within all = at (is_owned owner l) refl (test l) refl (any_within id ls within all.1)
      where
        at : (a : Bool) → is_owned owner l ≡ a → (b : Bool) → test l ≡ b
            → has_request owner id (filter test ls) ≡ has_request owner id ls
            → has_request owner id (cond b (l ∷ filter test ls) (filter test ls)) ≡ ((a && nat_eq id l.id) || has_request owner id ls)
        at true e true f later = rw e (ap (λ r. nat_eq id l.id || r) later)
        at true e false f later = absurd (cc (sym f ∙ all.0 ∙ own_of owner l e ∙ within))
        at false e true f later = rw e later
        at false e false f later = later

    ids_within : (table : List (PlainLock K)) → own owner ≡ true → AreOwn table → owned_ids owner (filter test table) ≡ owned_ids owner table
    ids_within [] within all = refl
    ids_within (l ∷ ls) within all = at (is_owned owner l) refl (test l) refl (ids_within ls within all.1)
      where
        at : (a : Bool) → is_owned owner l ≡ a → (b : Bool) → test l ≡ b
            → owned_ids owner (filter test ls) ≡ owned_ids owner ls
            → owned_ids owner (cond b (l ∷ filter test ls) (filter test ls))
            ≡ map (λ l. l.id) (cond a (l ∷ filter (is_owned owner) ls) (filter (is_owned owner) ls))
        at true e true f later = rw e (ap (λ r. l.id ∷ r) later)
        at true e false f later = absurd (cc (sym f ∙ all.0 ∙ own_of owner l e ∙ within))
        at false e true f later = rw e later
        at false e false f later = later

    -- the one that is found is of the owner's part
    found_within : (id : ℕ) (table : List (PlainLock K)) (lock : PlainLock K) → AreOwn table → find (is_request_of owner id) table ≡ Some lock
        → under lock.key ≡ own owner
    found_within id [] lock all is = absurd (cc is)
    found_within id (l ∷ ls) lock all is = at (is_request_of owner id l) refl is (found_within id ls lock all.1)
      where
        at : (a : Bool) → is_request_of owner id l ≡ a → cond a (Some l) (find (is_request_of owner id) ls) ≡ Some lock
            → (find (is_request_of owner id) ls ≡ Some lock → under lock.key ≡ own owner) → under lock.key ≡ own owner
        at true e one later =
            let same : l ≡ lock = ap (λ o. unwrap_or o l) one in
            ap test (sym same) ∙ all.0 ∙ own_of owner l (and_both (is_owned owner l) (nat_eq id l.id) e).0
        at false e one later = later one

    -- a document of another part takes none of this part's
    kept_outside : (id : ℕ) (table : List (PlainLock K)) → own owner ≡ false → AreOwn table
        → filter test (filter (λ y. not (is_request_of owner id y)) table) ≡ filter test table
    kept_outside id [] out all = refl
    kept_outside id (l ∷ ls) out all = at (is_owned owner l) refl (nat_eq id l.id) (kept_outside id ls out all.1)
      where
        at : (a : Bool) → is_owned owner l ≡ a → (b : Bool)
            → filter test (filter (λ y. not (is_request_of owner id y)) ls) ≡ filter test ls
            → filter test (cond (not (a && b)) (l ∷ filter (λ y. not (is_request_of owner id y)) ls) (filter (λ y. not (is_request_of owner id y)) ls))
            ≡ cond (test l) (l ∷ filter test ls) (filter test ls)
        at true e true later = rw (all.0 ∙ own_of owner l e ∙ out) later
        at true e false later = ap (λ r. cond (test l) (l ∷ r) r) later
        at false e b later = ap (λ r. cond (test l) (l ∷ r) r) later

  -- ---- the queue of a name of the part

  granted_within : (key : K) (name : List ℕ) (table : List (PlainLock K)) (ms : List LockMode) → under key ≡ true
      → filter test (granted cmp key name ms table) ≡ granted cmp key name ms (filter test table)
  granted_within key name [] ms within = refl
  granted_within key name (l ∷ ls) ms within =
      at (in_line cmp key name l) refl l.held refl (fits l.mode ms) refl (test l) refl (λ ns. granted_within key name ls ns within)
    where
      at : (a : Bool) → in_line cmp key name l ≡ a → (h : Bool) → l.held ≡ h → (f : Bool) → fits l.mode ms ≡ f → (b : Bool) → test l ≡ b
          → ((ns : List LockMode) → filter test (granted cmp key name ns ls) ≡ granted cmp key name ns (filter test ls))
          → filter test (cond (not a || h) (l ∷ granted cmp key name ms ls)
          (cond f (holding l ∷ granted cmp key name (l.mode ∷ ms) ls) (l ∷ ls)))
          ≡ granted cmp key name ms (cond b (l ∷ filter test ls) (filter test ls))
      at true e h i f j false u later = absurd (cc (sym u ∙ under_line key name l e ∙ within))
      at false e h i f j false u later = rw u (later ms)
      at false e h i f j true u later =
          rw u (ap (λ r. l ∷ r) (later ms) ∙ ap (λ x. cond (not x || l.held) (l ∷ granted cmp key name ms (filter test ls))
          (cond (fits l.mode ms) (holding l ∷ granted cmp key name (l.mode ∷ ms) (filter test ls)) (l ∷ filter test ls))) (sym e))
      at true e true i f j true u later =
          rw u (ap (λ r. l ∷ r) (later ms)
          ∙ ap (λ x. cond (not true || x) (l ∷ granted cmp key name ms (filter test ls))
          (cond (fits l.mode ms) (holding l ∷ granted cmp key name (l.mode ∷ ms) (filter test ls)) (l ∷ filter test ls))) (sym i)
          ∙ ap (λ x. cond (not x || l.held) (l ∷ granted cmp key name ms (filter test ls))
          (cond (fits l.mode ms) (holding l ∷ granted cmp key name (l.mode ∷ ms) (filter test ls)) (l ∷ filter test ls))) (sym e))
      at true e false i true j true u later =
          rw u (ap (λ r. holding l ∷ r) (later (l.mode ∷ ms))
          ∙ ap (λ x. cond x (holding l ∷ granted cmp key name (l.mode ∷ ms) (filter test ls)) (l ∷ filter test ls)) (sym j)
          ∙ ap (λ x. cond (not true || x) (l ∷ granted cmp key name ms (filter test ls))
          (cond (fits l.mode ms) (holding l ∷ granted cmp key name (l.mode ∷ ms) (filter test ls)) (l ∷ filter test ls))) (sym i)
          ∙ ap (λ x. cond (not x || l.held) (l ∷ granted cmp key name ms (filter test ls))
          (cond (fits l.mode ms) (holding l ∷ granted cmp key name (l.mode ∷ ms) (filter test ls)) (l ∷ filter test ls))) (sym e))
      at true e false i false j true u later =
          rw u (ap (λ x. cond x (holding l ∷ granted cmp key name (l.mode ∷ ms) (filter test ls)) (l ∷ filter test ls)) (sym j)
          ∙ ap (λ x. cond (not true || x) (l ∷ granted cmp key name ms (filter test ls))
          (cond (fits l.mode ms) (holding l ∷ granted cmp key name (l.mode ∷ ms) (filter test ls)) (l ∷ filter test ls))) (sym i)
          ∙ ap (λ x. cond (not x || l.held) (l ∷ granted cmp key name ms (filter test ls))
          (cond (fits l.mode ms) (holding l ∷ granted cmp key name (l.mode ∷ ms) (filter test ls)) (l ∷ filter test ls))) (sym e))

  -- ---- owners stay of the parts of their keys

  own_kept : (keep : PlainLock K → Bool) (table : List (PlainLock K)) → AreOwn table → AreOwn (filter keep table)
  own_kept keep [] all = tt
  own_kept keep (l ∷ ls) all = at (keep l) (own_kept keep ls all.1)
    where
      at : (b : Bool) → AreOwn (filter keep ls) → AreOwn (cond b (l ∷ filter keep ls) (filter keep ls))
      at true later = (all.0, later)
      at false later = later

  own_more : (table : List (PlainLock K)) (x : PlainLock K) → AreOwn table → under x.key ≡ own x.owner → AreOwn (table ++ x ∷ [])
  own_more [] x all is = (is, tt)
  own_more (l ∷ ls) x all is = (all.0, own_more ls x all.1 is)

  own_granted : (key : K) (name : List ℕ) (table : List (PlainLock K)) (ms : List LockMode) → AreOwn table → AreOwn (granted cmp key name ms table)
  own_granted key name [] ms all = tt
  own_granted key name (l ∷ ls) ms all =
      at (not (in_line cmp key name l) || l.held) (fits l.mode ms) (λ ns. own_granted key name ls ns all.1)
    where
      at : (a f : Bool) → ((ns : List LockMode) → AreOwn (granted cmp key name ns ls))
          → AreOwn (cond a (l ∷ granted cmp key name ms ls) (cond f (holding l ∷ granted cmp key name (l.mode ∷ ms) ls) (l ∷ ls)))
      at true f later = (all.0, later ms)
      at false true later = (all.0, later (l.mode ∷ ms))
      at false false later = all

  own_released : (owner : Label) (id : ℕ) (table : List (PlainLock K)) (found : Option (PlainLock K)) → AreOwn table
      → AreOwn (released_by cmp owner id found table)
  own_released owner id table None all = all
  own_released owner id table (Some l) all = own_granted l.key l.name _ _ (own_kept (λ y. not (is_request_of owner id y)) table all)

  -- ---- releases

  released_within : (owner : Label) (id : ℕ) (table : List (PlainLock K)) → own owner ≡ true → AreOwn table
      → filter test (released cmp owner id table) ≡ released cmp owner id (filter test table)
  released_within owner id table within all =
      at (find (is_request_of owner id) table) refl
      ∙ ap (λ found. released_by cmp owner id found (filter test table)) (sym (find_within owner id table within all))
    where
      rest : List (PlainLock K)
      rest = filter (λ y. not (is_request_of owner id y)) table

      at : (found : Option (PlainLock K)) → find (is_request_of owner id) table ≡ found
          → filter test (released_by cmp owner id found table) ≡ released_by cmp owner id found (filter test table)
      at None is = refl
      at (Some l) is =
          let here : under l.key ≡ true = found_within owner id table l all is ∙ within in
          granted_within l.key l.name rest (held_modes (line_of cmp l.key l.name rest)) here
          ∙ ap (λ r. granted cmp l.key l.name (held_modes r) (filter test rest)) (sym (line_within l.key l.name rest here))
          ∙ ap (λ r. processed cmp l.key l.name r) (filter_both test (λ y. not (is_request_of owner id y)) table)

  released_outside : (owner : Label) (id : ℕ) (table : List (PlainLock K)) → own owner ≡ false → AreOwn table
      → filter test (released cmp owner id table) ≡ filter test table
  released_outside owner id table out all = at (find (is_request_of owner id) table) refl
    where
      rest : List (PlainLock K)
      rest = filter (λ y. not (is_request_of owner id y)) table

      at : (found : Option (PlainLock K)) → find (is_request_of owner id) table ≡ found
          → filter test (released_by cmp owner id found table) ≡ filter test table
      at None is = refl
      at (Some l) is =
          let there : under l.key ≡ false = found_within owner id table l all is ∙ out in
          granted_elsewhere cmp order l.key l.name test rest (held_modes (line_of cmp l.key l.name rest))
          (λ q on. under_line l.key l.name q on ∙ there) (λ q. refl)
          ∙ kept_outside owner id table out all

  -- ---- the end of a document

  dropped_within : (owner : Label) (ids : List ℕ) (table : List (PlainLock K)) → own owner ≡ true → AreOwn table
      → filter test (fold (λ rest id. released cmp owner id rest) table ids)
      ≡ fold (λ rest id. released cmp owner id rest) (filter test table) ids
  dropped_within owner [] table within all = refl
  dropped_within owner (id ∷ ids) table within all =
      dropped_within owner ids (released cmp owner id table) within (own_released owner id table (find (is_request_of owner id) table) all)
      ∙ ap (λ t. fold (λ rest id. released cmp owner id rest) t ids) (released_within owner id table within all)

  dropped_outside : (owner : Label) (ids : List ℕ) (table : List (PlainLock K)) → own owner ≡ false → AreOwn table
      → filter test (fold (λ rest id. released cmp owner id rest) table ids) ≡ filter test table
  dropped_outside owner [] table out all = refl
  dropped_outside owner (id ∷ ids) table out all =
      dropped_outside owner ids (released cmp owner id table) out (own_released owner id table (find (is_request_of owner id) table) all)
      ∙ released_outside owner id table out all

  own_dropped : (owner : Label) (ids : List ℕ) (table : List (PlainLock K)) → AreOwn table
      → AreOwn (fold (λ rest id. released cmp owner id rest) table ids)
  own_dropped owner [] table all = all
  own_dropped owner (id ∷ ids) table all =
      own_dropped owner ids (released cmp owner id table) (own_released owner id table (find (is_request_of owner id) table) all)

  -- ---- requests

  pushed_within : (x : PlainLock K) (start : List (PlainLock K)) → under x.key ≡ true
      → filter test (start ++ x ∷ []) ≡ filter test start ++ x ∷ []
  pushed_within x start within = filter-append test start (x ∷ []) ∙ ap (λ b. filter test start ++ cond b (x ∷ []) []) within

  pushed_outside : (x : PlainLock K) (start : List (PlainLock K)) → under x.key ≡ false → filter test (start ++ x ∷ []) ≡ filter test start
  pushed_outside x start out =
      filter-append test start (x ∷ []) ∙ ap (λ b. filter test start ++ cond b (x ∷ []) []) out ∙ append-nil (filter test start)

  abbrev taken : PlainLock K → List (PlainLock K) → List (PlainLock K)
  taken x table = filter (λ y. not (in_line cmp x.key x.name y && y.held)) table

  requested_within : (if_available : Bool) (x : PlainLock K) (table : List (PlainLock K)) → under x.key ≡ true
      → filter test (requested cmp if_available x table) ≡ requested cmp if_available x (filter test table)
  requested_within if_available x table within =
      at x.stole (is_grantable x.mode (line_of cmp x.key x.name table)) if_available
      ∙ ap (λ line. cond x.stole (taken x (filter test table) ++ holding x ∷ [])
      (cond (is_grantable x.mode line) (filter test table ++ holding x ∷ [])
      (cond if_available (filter test table) (filter test table ++ waiting x ∷ [])))) (sym (line_within x.key x.name table within))
    where
      at : (s g i : Bool)
          → filter test (cond s (taken x table ++ holding x ∷ []) (cond g (table ++ holding x ∷ []) (cond i table (table ++ waiting x ∷ []))))
          ≡ cond s (taken x (filter test table) ++ holding x ∷ [])
          (cond g (filter test table ++ holding x ∷ []) (cond i (filter test table) (filter test table ++ waiting x ∷ [])))
      at true g i =
          pushed_within (holding x) (taken x table) within
          ∙ ap (λ r. r ++ holding x ∷ []) (filter_both test (λ y. not (in_line cmp x.key x.name y && y.held)) table)
      at false true i = pushed_within (holding x) table within
      at false false true = refl
      at false false false = pushed_within (waiting x) table within

  requested_outside : (if_available : Bool) (x : PlainLock K) (table : List (PlainLock K)) → under x.key ≡ false
      → filter test (requested cmp if_available x table) ≡ filter test table
  requested_outside if_available x table out =
      at x.stole (is_grantable x.mode (line_of cmp x.key x.name table)) if_available
    where
      at : (s g i : Bool)
          → filter test (cond s (taken x table ++ holding x ∷ []) (cond g (table ++ holding x ∷ []) (cond i table (table ++ waiting x ∷ []))))
          ≡ filter test table
      at true g i =
          pushed_outside (holding x) (taken x table) out
          ∙ stolen_elsewhere cmp order x test (λ q on. under_line x.key x.name q on ∙ out) table
      at false true i = pushed_outside (holding x) table out
      at false false true = refl
      at false false false = pushed_outside (waiting x) table out

  own_requested : (if_available : Bool) (x : PlainLock K) (table : List (PlainLock K)) → under x.key ≡ own x.owner → AreOwn table
      → AreOwn (requested cmp if_available x table)
  own_requested if_available x table is all =
      at x.stole (is_grantable x.mode (line_of cmp x.key x.name table)) if_available
    where
      at : (s g i : Bool)
          → AreOwn (cond s (taken x table ++ holding x ∷ []) (cond g (table ++ holding x ∷ []) (cond i table (table ++ waiting x ∷ []))))
      at true g i = own_more (taken x table) (holding x) (own_kept (λ y. not (in_line cmp x.key x.name y && y.held)) table all) is
      at false true i = own_more table (holding x) all is
      at false false true = all
      at false false false = own_more table (waiting x) all is

  -- ---- calls

  own_called : (call : LockCall K) (table : List (PlainLock K)) → AsksWithin under own call → AreOwn table → AreOwn (after_call cmp call table)
  own_called (Request if_available x) table is all = at (is_unsupported if_available x || has_request x.owner x.id table)
    where
      at : (b : Bool) → AreOwn (cond b table (requested cmp if_available x table))
      at true = all
      at false = own_requested if_available x table is all
  own_called (Release owner id) table is all = own_released owner id table (find (is_request_of owner id) table) all
  own_called (DropOwner owner) table is all = own_dropped owner (owned_ids owner table) table all

  called_within : (call : LockCall K) (table : List (PlainLock K)) → AsksWithin under own call → AreOwn table → is_within under own call ≡ true
      → filter test (after_call cmp call table) ≡ after_call cmp call (filter test table)
  called_within (Request if_available x) table is all within =
      at (is_unsupported if_available x || has_request x.owner x.id table)
      ∙ ap (λ b. cond (is_unsupported if_available x || b) (filter test table) (requested cmp if_available x (filter test table)))
      (sym (any_within x.owner x.id table (sym is ∙ within) all))
    where
      at : (b : Bool) → filter test (cond b table (requested cmp if_available x table))
          ≡ cond b (filter test table) (requested cmp if_available x (filter test table))
      at true = refl
      at false = requested_within if_available x table within
  called_within (Release owner id) table is all within = released_within owner id table within all
  called_within (DropOwner owner) table is all within =
      dropped_within owner (owned_ids owner table) table within all
      ∙ ap (λ ids. fold (λ rest id. released cmp owner id rest) (filter test table) ids) (sym (ids_within owner table within all))

  called_outside : (call : LockCall K) (table : List (PlainLock K)) → AsksWithin under own call → AreOwn table → is_within under own call ≡ false
      → filter test (after_call cmp call table) ≡ filter test table
  called_outside (Request if_available x) table is all out =
      at (is_unsupported if_available x || has_request x.owner x.id table)
    where
      at : (b : Bool) → filter test (cond b table (requested cmp if_available x table)) ≡ filter test table
      at true = refl
      at false = requested_outside if_available x table out
  called_outside (Release owner id) table is all out = released_outside owner id table out all
  called_outside (DropOwner owner) table is all out = dropped_outside owner (owned_ids owner table) table out all

  calls_apart : (calls : List (LockCall K)) (table : List (PlainLock K)) → AllByRecursion (AsksWithin under own) calls → AreOwn table
      → filter test (fold (λ t call. after_call cmp call t) table calls)
      ≡ fold (λ t call. after_call cmp call t) (filter test table) (filter (is_within under own) calls)
  calls_apart [] table ask all = refl
  calls_apart (call ∷ calls) table ask all =
      calls_apart calls (after_call cmp call table) ask.1 (own_called call table ask.0 all) ∙ at (is_within under own call) refl
    where
      at : (b : Bool) → is_within under own call ≡ b
          → fold (λ t c. after_call cmp c t) (filter test (after_call cmp call table)) (filter (is_within under own) calls)
          ≡ fold (λ t c. after_call cmp c t) (filter test table)
          (cond b (call ∷ filter (is_within under own) calls) (filter (is_within under own) calls))
      at true is = ap (λ t. fold (λ t c. after_call cmp c t) t (filter (is_within under own) calls)) (called_within call table ask.0 all is)
      at false is = ap (λ t. fold (λ t c. after_call cmp c t) t (filter (is_within under own) calls)) (called_outside call table ask.0 all is)

pub parts_apart : {K : Type 0} (cmp : K → K → Ordering) → IsTotalOrder cmp → ArePartsApart cmp
parts_apart cmp order = λ under own calls even ask. calls_apart cmp order under own even calls [] ask tt
