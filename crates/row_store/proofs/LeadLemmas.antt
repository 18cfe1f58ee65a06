-- Row changes that are valid one after another, and lead from a state to another.
use Rattle.std.proofs.Common.{◌≡◌, ℕ, ◌+◌, ◌≤◌, ◌<◌, Bool, true, false, cond, ◌||◌, List, [], ◌∷◌, ◌++◌, refl, sym, ap, subst, ◌∙◌, arith}
use Rattle.std.specs.Prelude.{fold, nat_lt}
use Rattle.std.specs.List.{flat_map, list_any}
use Rattle.std.specs.Cmp.{IsTotalOrder, eq_by_cmp_equiv}
use Rattle.std.specs.Ordering.{eq_by_cmp}
use Rattle.std.specs.declared.cmp.Ordering.{Ordering}
use Rattle.std.specs.FinMap.{IsAntisymmetric}
use Rattle.std.proofs.lemmas.Bool.{ltb-true, or_right}
use Rattle.std.proofs.lemmas.List.Sums.{fold-append}
use Rattle.agent_model.proofs.KeptLemmas.{tied}
use Rattle.row_changes.specs.Change.{PlainChange}
use Rattle.durable_model.specs.Saved.{Saved}
use Rattle.durable_model.specs.RowEdits.{AreValid, after_change, after_changes, edited, is_valid}
use Rattle.durable_model.proofs.EachValidLemmas.{valid_append}
use Rattle.row_store.proofs.BodyLaws.{valid_done}

pub record Leads (e : Saved) (changes : List PlainChange) (f : Saved) : Type 0 where
  pub valid : AreValid e changes
  pub after : after_changes e changes ≡ f

-- no row change leads nowhere
pub stays : (e f : Saved) → e ≡ f → Leads e [] f
stays e f is = record { valid = tt; after = is }

-- a row change, and others
pub first : (e : Saved) (change : PlainChange) (changes : List PlainChange) (f : Saved)
    → is_valid change e ≡ true → Leads (edited change e) changes f → Leads e (change ∷ changes) f
first e change changes f valid later = record {
  valid = (valid, later.valid);
  after = ap (λ d. after_changes d changes) (valid_done e change valid) ∙ later.after;
}

-- row changes, and others behind them
pub then : (e : Saved) (xs : List PlainChange) (f : Saved) (ys : List PlainChange) (g : Saved) → Leads e xs f
    → Leads f ys g → Leads e (xs ++ ys) g
then e xs f ys g one two = record {
  valid = valid_append e xs ys one.valid (subst (λ d. AreValid d ys) (sym one.after) two.valid);
  after = fold-append after_change e xs ys ∙ ap (λ d. after_changes d ys) one.after ∙ two.after;
}

pub to : (e : Saved) (xs : List PlainChange) (f g : Saved) → Leads e xs f → f ≡ g → Leads e xs g
to e xs f g one is = record { valid = one.valid; after = one.after ∙ is }

-- ---- how often a key stands in a list

-- how many keys pass a test
abbrev pub times : {K : Type 0} → (K → Bool) → List K → ℕ
times test [] = 0
times test (k ∷ ks) = cond (test k) 1 0 + times test ks

pub any_times : {K : Type 0} (test : K → Bool) (ks : List K) → list_any test ks ≡ nat_lt 0 (times test ks)
any_times test [] = refl
any_times test (k ∷ ks) = at (test k) (any_times test ks)
  where
    at : (b : Bool) → list_any test ks ≡ nat_lt 0 (times test ks)
        → (b || list_any test ks) ≡ nat_lt 0 (cond b 1 0 + times test ks)
    at true later = grind arith
    at false later = later ∙ ap (nat_lt 0) (let same : times test ks ≡ 0 + times test ks = omega arith in same)

-- ---- one key after another

module _ {K : Type 0} (R : K → K → Ordering) (o : IsTotalOrder R) (same : IsAntisymmetric R)
    (rows : K → List PlainChange) (done : K → Saved → Saved) (IsFree : K → Saved → Type 0)
    (one : (k : K) (e : Saved) → IsFree k e → Leads e (rows k) (done k e))
    (other : (q k : K) (e : Saved) → eq_by_cmp R q k ≡ false → IsFree k e → IsFree q e → IsFree q (done k e)) where
  -- the state after all of these keys
  abbrev pub all_done : List K → Saved → Saved
  all_done ks e = fold (λ f k. done k f) e ks

  -- each key that is to come is free, and stands once
  pub record AreFree (ks : List K) (e : Saved) : Type 0 where
    pub once : (q : K) → times (eq_by_cmp R q) ks ≤ 1
    pub free : (q : K) → list_any (eq_by_cmp R q) ks ≡ true → IsFree q e

  head_free : (k : K) (ks : List K) (e : Saved) → AreFree (k ∷ ks) e → IsFree k e
  head_free k ks e are = are.free k (ap (λ b. b || list_any (eq_by_cmp R k) ks) ((eq_by_cmp_equiv o).refl k))

  -- a key that is to come is another one
  apart : (q k : K) (ks : List K) → times (eq_by_cmp R q) (k ∷ ks) ≤ 1 → list_any (eq_by_cmp R q) ks ≡ true
      → eq_by_cmp R q k ≡ false
  apart q k ks once any = at (eq_by_cmp R q k) once
    where
      some : nat_lt 0 (times (eq_by_cmp R q) ks) ≡ true
      some = sym (any_times (eq_by_cmp R q) ks) ∙ any

      at : (b : Bool) → cond b 1 0 + times (eq_by_cmp R q) ks ≤ 1 → b ≡ false
      at true few = absurd (let lt : 0 < times (eq_by_cmp R q) ks =
          ltb-true 0 (times (eq_by_cmp R q) ks) some in omega (arith, few, lt))
      at false few = refl

  tail_free : (k : K) (ks : List K) (e : Saved) → AreFree (k ∷ ks) e → AreFree ks (done k e)
  tail_free k ks e are = record {
    once = λ q. fewer q (eq_by_cmp R q k) (are.once q);
    free = λ q any. other q k e (apart q k ks (are.once q) any) (head_free k ks e are)
        (are.free q (or_right (eq_by_cmp R q k) _ any));
  }
    where
      fewer : (q : K) (b : Bool) → cond b 1 0 + times (eq_by_cmp R q) ks ≤ 1 → times (eq_by_cmp R q) ks ≤ 1
      fewer q b few = omega (arith, few)

  pub all_lead : (ks : List K) (e : Saved) → AreFree ks e → Leads e (flat_map rows ks) (all_done ks e)
  all_lead [] e are = stays e e refl
  all_lead (k ∷ ks) e are =
      then e (rows k) (done k e) (flat_map rows ks) (all_done ks (done k e)) (one k e (head_free k ks e are))
      (all_lead ks (done k e) (tail_free k ks e are))

  -- what is seen of a state at a key: at a key that is done it is what is wanted
  module _ {X : Type 0} (seen : K → Saved → X) (wanted : K → X)
      (seen_one : (q k : K) (e : Saved) → IsFree k e → seen q (done k e) ≡ cond (eq_by_cmp R q k) (wanted k) (seen q e)) where
    pub all_seen : (q : K) (ks : List K) (e : Saved) → AreFree ks e
        → seen q (all_done ks e) ≡ cond (list_any (eq_by_cmp R q) ks) (wanted q) (seen q e)
    all_seen q [] e are = refl
    all_seen q (k ∷ ks) e are =
        all_seen q ks (done k e) (tail_free k ks e are)
        ∙ ap (cond (list_any (eq_by_cmp R q) ks) (wanted q)) (seen_one q k e (head_free k ks e are))
        ∙ at (eq_by_cmp R q k) refl (list_any (eq_by_cmp R q) ks)
      where
        at : (b : Bool) → eq_by_cmp R q k ≡ b → (a : Bool)
            → cond a (wanted q) (cond b (wanted k) (seen q e)) ≡ cond (b || a) (wanted q) (seen q e)
        at true tie true = refl
        at true tie false = ap wanted (sym (tied R o same q k tie))
        at false tie a = refl

-- what no key changes stays
pub all_keep : {K X : Type 0} (done : K → Saved → Saved) (part : Saved → X) → ((k : K) (e : Saved) → part (done k e) ≡ part e)
    → (ks : List K) (e : Saved) → part (fold (λ f k. done k f) e ks) ≡ part e
all_keep done part keeps [] e = refl
all_keep done part keeps (k ∷ ks) e = all_keep done part keeps ks (done k e) ∙ keeps k e
