-- The requests for one name, after a call of that name and of another.
use Rattle.std.proofs.Common.{◌≡◌, ℕ, Bool, true, false, cond, not, List, [], ◌∷◌, Some, refl, sym, ap, ◌∙◌}
use Rattle.std.specs.Prelude.{◌&&◌, ◌||◌, nat_eq, bytes_eq, filter, find, unwrap_or}
use Rattle.std.specs.List.{AllByRecursion, IsDistinct, list_any}
use Rattle.std.specs.Cmp.{Equal-is, IsEquivalence, IsTotalOrder, both_ways}
use Rattle.std.specs.Ordering.{is_eq}
use Rattle.std.specs.declared.cmp.Ordering.{Ordering}
use Rattle.std.proofs.lemmas.Cmp.{tied_itself}
use Rattle.std.proofs.lemmas.Bool.Decides.{Decides-eqb}
use Rattle.std.proofs.lemmas.Slice.Eq.{bytes_eq-Decides}
use Rattle.agent_base.specs.declared.refusals.Label.{Label}
use Rattle.web_locks.specs.declared.request.LockMode.{LockMode}
use Rattle.web_locks.specs.Lock.{PlainLock, is_request_of, in_line}
use Rattle.web_locks.specs.Queue.{fits, granted}
use Rattle.web_locks.specs.Requests.{holding}
use Rattle.web_locks.specs.Forms.{same_request}
use Rattle.web_locks.proofs.LineLemmas.{given, given_fits, given_held, given_stops}

pub and_both : (a b : Bool) → (a && b) ≡ true → (a ≡ true) × (b ≡ true)
and_both true b is = (refl, is)
and_both false b is = absurd (cc is)

-- two filters, in either order
pub filter_both : {A : Type 0} (p q : A → Bool) (xs : List A) → filter p (filter q xs) ≡ filter q (filter p xs)
filter_both p q [] = refl
filter_both {A} p q (x ∷ xs) = at (p x) refl (q x) refl (filter_both p q xs)
  where
    at : (a : Bool) → p x ≡ a → (b : Bool) → q x ≡ b → filter p (filter q xs) ≡ filter q (filter p xs)
        → filter p (cond b (x ∷ filter q xs) (filter q xs)) ≡ filter q (cond a (x ∷ filter p xs) (filter p xs))
    at true e true f later = rw e (rw f (ap (λ r. x ∷ r) later))
    at true e false f later = rw f later
    at false e true f later = rw e later
    at false e false f later = later

-- a filter that lets everything through
pub filter_all : {A : Type 0} (p : A → Bool) (xs : List A) → AllByRecursion (λ x. p x ≡ false) xs → filter (λ x. not (p x)) xs ≡ xs
filter_all p [] all = refl
filter_all p (x ∷ xs) all = rw all.0 (ap (λ r. x ∷ r) (filter_all p xs all.1))

-- a test that all fail is failed by those that are kept
pub all_kept : {A : Type 0} (p test : A → Bool) (xs : List A) → AllByRecursion (λ x. p x ≡ false) xs
    → AllByRecursion (λ x. p x ≡ false) (filter test xs)
all_kept p test [] all = tt
all_kept p test (x ∷ xs) all = at (test x) (all_kept p test xs all.1)
  where
    at : (b : Bool) → AllByRecursion (λ x. p x ≡ false) (filter test xs)
        → AllByRecursion (λ x. p x ≡ false) (cond b (x ∷ filter test xs) (filter test xs))
    at true later = (all.0, later)
    at false later = later

pub distinct_kept : {A : Type 0} (same : A → A → Bool) (test : A → Bool) (xs : List A) → IsDistinct same xs → IsDistinct same (filter test xs)
unfolding IsDistinct
distinct_kept same test [] d = tt
distinct_kept same test (x ∷ xs) d = at (test x) (distinct_kept same test xs d.1)
  where
    at : (b : Bool) → IsDistinct same (filter test xs) → IsDistinct same (cond b (x ∷ filter test xs) (filter test xs))
    at true later = (all_kept (same x) test xs d.0, later)
    at false later = later

-- one that none of more is, none of those kept is
pub any_kept : {A : Type 0} (p test : A → Bool) (xs : List A) → list_any p xs ≡ false → list_any p (filter test xs) ≡ false
any_kept p test [] none = refl
any_kept p test (x ∷ xs) none = at (p x) refl (test x) none (any_kept p test xs)
  where
    at : (a : Bool) → p x ≡ a → (b : Bool) → (a || list_any p xs) ≡ false → (list_any p xs ≡ false → list_any p (filter test xs) ≡ false)
        → list_any p (cond b (x ∷ filter test xs) (filter test xs)) ≡ false
    at true e b is later = absurd (cc is)
    at false e true is later = rw e (later is)
    at false e false is later = later is

module _ {K : Type 0} where
  -- one of a document's number is told from others as the number is
  pub is_request_of-alike : (owner : Label) (id : ℕ) (l : PlainLock K) → is_request_of owner id l ≡ true
      → (y : PlainLock K) → is_request_of l.owner l.id y ≡ is_request_of owner id y
  is_request_of-alike owner id l is y =
      let parts = and_both (nat_eq owner.tab l.owner.tab && nat_eq owner.frame l.owner.frame) (nat_eq id l.id) is in
      let own = and_both (nat_eq owner.tab l.owner.tab) (nat_eq owner.frame l.owner.frame) parts.0 in
      let tab : owner.tab ≡ l.owner.tab = (Decides-eqb owner.tab l.owner.tab).0 own.0 in
      let frame : owner.frame ≡ l.owner.frame = (Decides-eqb owner.frame l.owner.frame).0 own.1 in
      let number : id ≡ l.id = (Decides-eqb id l.id).0 parts.1 in
      ap (λ t. (nat_eq t y.owner.tab && nat_eq l.owner.frame y.owner.frame) && nat_eq l.id y.id) (sym tab)
      ∙ ap (λ f. (nat_eq owner.tab y.owner.tab && nat_eq f y.owner.frame) && nat_eq l.id y.id) (sym frame)
      ∙ ap (λ n. (nat_eq owner.tab y.owner.tab && nat_eq owner.frame y.owner.frame) && nat_eq n y.id) (sym number)

  pub is_request_of-itself : (l : PlainLock K) → is_request_of l.owner l.id l ≡ true
  is_request_of-itself l =
      rw ((Decides-eqb l.owner.tab l.owner.tab).1 refl) (rw ((Decides-eqb l.owner.frame l.owner.frame).1 refl) ((Decides-eqb l.id l.id).1 refl))

  pub same_request-equiv : IsEquivalence (same_request {K = K})
  same_request-equiv = record {
    refl = is_request_of-itself;
    symm = λ a b. both_ways (same_request a b) (same_request b a)
        (λ is. is_request_of-alike a.owner a.id b is a ∙ is_request_of-itself a) (λ is. is_request_of-alike b.owner b.id a is b ∙ is_request_of-itself b);
    congr = λ a b c is. sym (is_request_of-alike a.owner a.id b is c);
  }

  -- all others differ from the one that is found
  pub others : (owner : Label) (id : ℕ) (l : PlainLock K) (ls : List (PlainLock K)) → is_request_of owner id l ≡ true
      → AllByRecursion (λ y. same_request l y ≡ false) ls → AllByRecursion (λ y. is_request_of owner id y ≡ false) ls
  others owner id l [] is all = tt
  others owner id l (y ∷ ls) is all = (sym (is_request_of-alike owner id l is y) ∙ all.0, others owner id l ls is all.1)

  -- a name that the request found is not of keeps its requests
  pub removed_elsewhere : (owner : Label) (id : ℕ) (test : PlainLock K → Bool) (lock : PlainLock K) (table : List (PlainLock K))
      → IsDistinct same_request table → find (is_request_of owner id) table ≡ Some lock → test lock ≡ false
      → filter test (filter (λ y. not (is_request_of owner id y)) table) ≡ filter test table
  unfolding IsDistinct
  removed_elsewhere owner id test lock [] d found off = refl
  removed_elsewhere owner id test lock (l ∷ ls) d found off =
      at (is_request_of owner id l) refl found (λ later. removed_elsewhere owner id test lock ls d.1 later off)
    where
      at : (b : Bool) → is_request_of owner id l ≡ b → cond b (Some l) (find (is_request_of owner id) ls) ≡ Some lock
          → (find (is_request_of owner id) ls ≡ Some lock → filter test (filter (λ y. not (is_request_of owner id y)) ls) ≡ filter test ls)
          → filter test (cond (not b) (l ∷ filter (λ y. not (is_request_of owner id y)) ls) (filter (λ y. not (is_request_of owner id y)) ls))
          ≡ cond (test l) (l ∷ filter test ls) (filter test ls)
      at true is one later =
          let same : l ≡ lock = ap (λ o. unwrap_or o l) one in
          let off_l : test l ≡ false = ap test same ∙ off in
          rw off_l (ap (filter test) (filter_all (is_request_of owner id) ls (others owner id l ls is d.0)))
      at false is one later = ap (λ r. cond (test l) (l ∷ r) r) (later one)

module _ {K : Type 0} (cmp : K → K → Ordering) (order : IsTotalOrder cmp) where
  -- ---- names

  -- a name is that of its requests
  pub in_line-alike : (key : K) (name : List ℕ) (l : PlainLock K) → in_line cmp key name l ≡ true
      → (q : PlainLock K) → in_line cmp l.key l.name q ≡ in_line cmp key name q
  in_line-alike key name l is q =
      let parts = and_both (is_eq (cmp key l.key)) (bytes_eq name l.name) is in
      let text : name ≡ l.name = (bytes_eq-Decides name l.name).0 parts.1 in
      ap (λ o. is_eq o && bytes_eq l.name q.name) (sym (order.congr key l.key q.key ((Equal-is (cmp key l.key)).0 parts.0)))
      ∙ ap (λ n. is_eq (cmp key q.key) && bytes_eq n q.name) (sym text)

  pub in_line-itself : (l : PlainLock K) → in_line cmp l.key l.name l ≡ true
  in_line-itself l = rw (tied_itself order l.key) ((bytes_eq-Decides l.name l.name).1 refl)

  -- a request is for one name
  pub in_line-apart : (key : K) (name : List ℕ) (l : PlainLock K) → in_line cmp key name l ≡ false
      → (q : PlainLock K) → in_line cmp l.key l.name q ≡ true → in_line cmp key name q ≡ false
  in_line-apart key name l off q on = at (in_line cmp key name q) refl
    where
      at : (b : Bool) → in_line cmp key name q ≡ b → in_line cmp key name q ≡ false
      at false is = is
      at true is = absurd (cc (sym off ∙ sym (in_line-alike key name q is l) ∙ in_line-alike l.key l.name q on l ∙ in_line-itself l))

  -- ---- the queue of a name

  module _ (key : K) (name : List ℕ) (test : PlainLock K → Bool) where
    -- the requests of the name are given their locks
    pub granted_here : (table : List (PlainLock K)) (ms : List LockMode) → ((q : PlainLock K) → in_line cmp key name q ≡ test q)
        → ((q : PlainLock K) → test (holding q) ≡ test q)
        → filter test (granted cmp key name ms table) ≡ given ms (filter test table)
    granted_here [] ms alike holds = refl
    granted_here (l ∷ ls) ms alike holds =
        at (in_line cmp key name l) (sym (alike l)) l.held refl (fits l.mode ms) refl (λ ns. granted_here ls ns alike holds)
      where
        at : (a : Bool) → test l ≡ a → (h : Bool) → l.held ≡ h → (f : Bool) → fits l.mode ms ≡ f
            → ((ns : List LockMode) → filter test (granted cmp key name ns ls) ≡ given ns (filter test ls))
            → filter test (cond (not a || h) (l ∷ granted cmp key name ms ls)
            (cond f (holding l ∷ granted cmp key name (l.mode ∷ ms) ls) (l ∷ ls)))
            ≡ given ms (cond (test l) (l ∷ filter test ls) (filter test ls))
        at false e h i f j later = rw e (later ms)
        at true e true i f j later = rw e (ap (λ r. l ∷ r) (later ms) ∙ sym (given_held l (filter test ls) ms i))
        at true e false i true j later =
            rw (holds l) (rw e (ap (λ r. holding l ∷ r) (later (l.mode ∷ ms)) ∙ sym (given_fits l (filter test ls) ms i j)))
        at true e false i false j later = rw e (sym (given_stops l (filter test ls) ms i j))

    -- those of another name stay
    pub granted_elsewhere : (table : List (PlainLock K)) (ms : List LockMode)
        → ((q : PlainLock K) → in_line cmp key name q ≡ true → test q ≡ false) → ((q : PlainLock K) → test (holding q) ≡ test q)
        → filter test (granted cmp key name ms table) ≡ filter test table
    granted_elsewhere [] ms apart holds = refl
    granted_elsewhere (l ∷ ls) ms apart holds =
        at (in_line cmp key name l) refl l.held (fits l.mode ms) (λ ns. granted_elsewhere ls ns apart holds)
      where
        at : (a : Bool) → in_line cmp key name l ≡ a → (h f : Bool)
            → ((ns : List LockMode) → filter test (granted cmp key name ns ls) ≡ filter test ls)
            → filter test (cond (not a || h) (l ∷ granted cmp key name ms ls)
            (cond f (holding l ∷ granted cmp key name (l.mode ∷ ms) ls) (l ∷ ls)))
            ≡ cond (test l) (l ∷ filter test ls) (filter test ls)
        at false is h f later = ap (λ r. cond (test l) (l ∷ r) r) (later ms)
        at true is true f later = ap (λ r. cond (test l) (l ∷ r) r) (later ms)
        at true is false true later = rw (holds l) (rw (apart l is) (later (l.mode ∷ ms)))
        at true is false false later = refl

    -- and a request keeps its number
    granted_numbers : (owner : Label) (id : ℕ) (table : List (PlainLock K)) (ms : List LockMode)
        → AllByRecursion (λ y. is_request_of owner id y ≡ false) table
        → AllByRecursion (λ y. is_request_of owner id y ≡ false) (granted cmp key name ms table)
    granted_numbers owner id [] ms all = tt
    granted_numbers owner id (l ∷ ls) ms all =
        at (not (in_line cmp key name l) || l.held) (fits l.mode ms) (λ ns. granted_numbers owner id ls ns all.1)
      where
        at : (a f : Bool) → ((ns : List LockMode) → AllByRecursion (λ y. is_request_of owner id y ≡ false) (granted cmp key name ns ls))
            → AllByRecursion (λ y. is_request_of owner id y ≡ false)
            (cond a (l ∷ granted cmp key name ms ls) (cond f (holding l ∷ granted cmp key name (l.mode ∷ ms) ls) (l ∷ ls)))
        at true f later = (all.0, later ms)
        at false true later = (all.0, later (l.mode ∷ ms))
        at false false later = all

    pub granted_distinct : (table : List (PlainLock K)) (ms : List LockMode) → IsDistinct same_request table
        → IsDistinct same_request (granted cmp key name ms table)
    unfolding IsDistinct
    granted_distinct [] ms d = tt
    granted_distinct (l ∷ ls) ms d =
        at (not (in_line cmp key name l) || l.held) (fits l.mode ms) (λ ns. granted_distinct ls ns d.1)
      where
        at : (a f : Bool) → ((ns : List LockMode) → IsDistinct same_request (granted cmp key name ns ls))
            → IsDistinct same_request
            (cond a (l ∷ granted cmp key name ms ls) (cond f (holding l ∷ granted cmp key name (l.mode ∷ ms) ls) (l ∷ ls)))
        at true f later = (granted_numbers l.owner l.id ls ms d.0, later ms)
        at false true later = (granted_numbers l.owner l.id ls (l.mode ∷ ms) d.0, later (l.mode ∷ ms))
        at false false later = d
