-- Ordered maps: an entry that is put, taken out, or found.
use Rattle.std.proofs.Common.{◌≡◌, Bool, not, sym, true, false, cond, List, [], ◌∷◌, ◌++◌, map, Option, Some, None, refl, ap, ◌∙◌, subst, suc, ◌+◌, arith}
use Rattle.std.specs.Prelude.{filter, is_some, length, ◌==◌, OnOk, OnErr, OnSome, MatchOption, Result, Ok, Err}
use Rattle.std.proofs.lemmas.Bool.Decides.{nat_tests}
use Rattle.std.specs.Int.{from_bool}
use Rattle.std.specs.List.{AllByRecursion, AllZip}
use Rattle.std.specs.List.Sorted.{IsStrictlySortedBy}
use Rattle.std.specs.Map.{keys_of}
use Rattle.std.specs.Map.Calls.{RetainsPairs}
use Rattle.std.specs.BTreeMap.{insert_entry}
use Rattle.std.specs.Cmp.{IsTotalOrder, Equal-is}
use Rattle.std.specs.declared.cmp.Ordering.{Ordering}
use Rattle.std.specs.declared.cmp.Ordering.TheVariants.{Less, Equal, Greater}
use Rattle.std.specs.Ordering.{is_eq, is_lt, match_ordering, ordering_reverse}
use Rattle.key_map.specs.Entries.{map_get, map_put, map_remove}
use Rattle.key_map.proofs.EntriesLemmas.{apart-behind, map_remove-apart, eq-flip}

-- what each call of a closure that keeps all makes of an entry
module _ {F K X : Type 0} (T : F → K → X → Bool → X → F → Type 0) (P : K × X → K × X → Type 0) (f : F)
    (step : (k : K) (v : X) (b : Bool) (w : X) (f' : F) → T f k v b w f' → (b ≡ true) × P (k, v) (k, w) × (f' ≡ f)) where
  pub each-retained : (es kept : List (K × X)) → RetainsPairs T f es kept → AllZip P es kept
  each-retained [] kept r = subst (λ k. AllZip P [] k) (sym r) tt
  each-retained (e ∷ es) kept r =
      let a = step e.0 e.1 r.0 r.1 r.2 r.4 in
      let rest = each-retained es r.3 (subst (λ u. RetainsPairs T u es r.3) a.2 r.5) in
      subst (λ k. AllZip P (e ∷ es) k) (sym (r.6 ∙ ap (λ b. cond b ((e.0, r.1) ∷ r.3) r.3) a.0)) (a.1, rest)

-- two functions that agree wherever a fact holds
pub map-given : {A B : Type 0} (Q : A → Type 0) (f g : A → B) → ((e : A) → Q e → f e ≡ g e) → (es : List A) → AllByRecursion Q es → map f es ≡ map g es
map-given Q f g agree [] all = refl
map-given Q f g agree (e ∷ es) all = rw (agree e all.0) (ap (λ r. g e ∷ r) (map-given Q f g agree es all.1))

self_step : (o : Ordering) → o ≡ ordering_reverse o → o ≡ Equal
self_step Less is = absurd (cc is)
self_step Equal is = refl
self_step Greater is = absurd (cc is)

module _ {K : Type 0} (cmp : K → K → Ordering) (order : IsTotalOrder cmp) where
  -- a key is equal to itself
  pub itself : (k : K) → cmp k k ≡ Equal
  itself k = self_step (cmp k k) (order.antisymm k k)

  -- a key that is equal to another is found as that one is
  pub eq-along : (q a b : K) → is_eq (cmp a b) ≡ true → is_eq (cmp q a) ≡ is_eq (cmp q b)
  eq-along q a b same =
      eq-flip cmp order q a ∙ ap is_eq (order.congr a b q ((Equal-is (cmp a b)).0 same)) ∙ eq-flip cmp order b q

  below : (k e : K) → cmp k e ≡ Less → (ks : List K) → AllByRecursion (λ y. cmp e y ≡ Less) ks → AllByRecursion (λ y. cmp k y ≡ Less) ks
  below k e less [] all = tt
  below k e less (y ∷ ys) all = (order.trans k e y less all.0, below k e less ys all.1)

module _ {K V : Type 0} (cmp : K → K → Ordering) (order : IsTotalOrder cmp) where
  all_behind : (k : K) (es : List (K × V)) → AllByRecursion (λ y. cmp k y ≡ Less) (keys_of es) → filter (λ e. is_lt (cmp k e.0)) es ≡ es
  all_behind k [] all = refl
  all_behind k (e ∷ es) all = rw all.0 (ap (λ r. e ∷ r) (all_behind k es all.1))

  none_before : (k : K) (es : List (K × V)) → AllByRecursion (λ y. cmp k y ≡ Less) (keys_of es) → filter (λ e. not (is_lt (cmp k e.0))) es ≡ []
  none_before k [] all = refl
  none_before k (e ∷ es) all = rw all.0 (none_before k es all.1)

  -- the entries with one more, in parts
  abbrev pub parted : K → V → List (K × V) → List (K × V)
  parted k v es = filter (λ e. not (is_lt (cmp k e.0))) es ++ (k, v) ∷ filter (λ e. is_lt (cmp k e.0)) es

  parts_step : (k : K) (v : V) (e : K × V) (es : List (K × V)) (o : Ordering) → cmp k e.0 ≡ o → AllByRecursion (λ y. cmp e.0 y ≡ Less) (keys_of es)
      → (map_get cmp k es ≡ None → map_put cmp k v es ≡ parted k v es) → cond (is_eq o) (Some e.1) (map_get cmp k es) ≡ None
      → match_ordering o ((k, v) ∷ e ∷ es) ((e.0, v) ∷ es) (e ∷ insert_entry cmp es k v)
      ≡ cond (not (is_lt o)) (e ∷ filter (λ e. not (is_lt (cmp k e.0))) es) (filter (λ e. not (is_lt (cmp k e.0))) es)
      ++ (k, v) ∷ cond (is_lt o) (e ∷ filter (λ e. is_lt (cmp k e.0)) es) (filter (λ e. is_lt (cmp k e.0)) es)
  parts_step k v e es Less is all later missing =
      let far = below cmp order k e.0 is (keys_of es) all in
      rw (none_before k es far, all_behind k es far) refl
  parts_step k v e es Equal is all later missing = absurd (cc missing)
  parts_step k v e es Greater is all later missing = ap (λ r. e ∷ r) (later missing)

  -- a key that is not there is put between the lesser and the greater ones
  pub map_put-parts : (k : K) (v : V) (es : List (K × V)) → IsStrictlySortedBy cmp (keys_of es) → map_get cmp k es ≡ None → map_put cmp k v es ≡ parted k v es
  unfolding IsStrictlySortedBy
  map_put-parts k v [] sorted missing = refl
  map_put-parts k v (e ∷ es) sorted missing = parts_step k v e es (cmp k e.0) refl sorted.0 (map_put-parts k v es sorted.1) missing

  apart_step : (k : K) (e : K × V) (es : List (K × V)) (b : Bool) → cond b (Some e.1) (map_get cmp k es) ≡ None → (b ≡ false) × (map_get cmp k es ≡ None)
  apart_step k e es true missing = absurd (cc missing)
  apart_step k e es false missing = (refl, missing)

  -- a key that is not found is none of the keys
  pub apart-missing : (k : K) (es : List (K × V)) → map_get cmp k es ≡ None → AllByRecursion (λ y. is_eq (cmp k y) ≡ false) (keys_of es)
  apart-missing k [] missing = tt
  apart-missing k (e ∷ es) missing =
      let step = apart_step k e es (is_eq (cmp k e.0)) missing in
      (step.0, apart-missing k es step.1)

  removed_step : (k : K) (v : V) (e : K × V) (es : List (K × V)) (o : Ordering) → cmp k e.0 ≡ o → cond (is_eq o) (Some e.1) (map_get cmp k es) ≡ None
      → (map_get cmp k es ≡ None → map_remove cmp k (map_put cmp k v es) ≡ es)
      → map_remove cmp k (match_ordering o ((k, v) ∷ e ∷ es) ((e.0, v) ∷ es) (e ∷ insert_entry cmp es k v)) ≡ e ∷ es
  removed_step k v e es Less is missing later =
      rw (itself cmp order k, is) (ap (λ r. e ∷ r) (map_remove-apart cmp order k es (apart-missing k es missing)))
  removed_step k v e es Equal is missing later = absurd (cc missing)
  removed_step k v e es Greater is missing later = rw is (ap (λ r. e ∷ r) (later missing))

  -- a key that was put and is taken out again
  pub map_remove-put : (k : K) (v : V) (es : List (K × V)) → map_get cmp k es ≡ None → map_remove cmp k (map_put cmp k v es) ≡ es
  map_remove-put k v [] missing = rw (itself cmp order k) refl
  map_remove-put k v (e ∷ es) missing = removed_step k v e es (cmp k e.0) refl missing (map_remove-put k v es)

  length_step : (k : K) (e : K × V) (es : List (K × V)) (b : Bool) → is_eq (cmp k e.0) ≡ b → AllByRecursion (λ y. cmp e.0 y ≡ Less) (keys_of es)
      → length (map_remove cmp k es) + from_bool (is_some (map_get cmp k es)) ≡ length es
      → length (cond (not b) (e ∷ map_remove cmp k es) (map_remove cmp k es)) + from_bool (is_some (cond b (Some e.1) (map_get cmp k es))) ≡ suc (length es)
  length_step k e es true is all later =
      ap (λ kept. length kept + 1) (map_remove-apart cmp order k es (apart-behind cmp order k e.0 (keys_of es) is all)) ∙ omega arith
  length_step k e es false is all later = omega (arith, later)

  -- the entries without a key, and that of the key where it is there, are all
  pub length-parts : (k : K) (es : List (K × V)) → IsStrictlySortedBy cmp (keys_of es)
      → length (map_remove cmp k es) + from_bool (is_some (map_get cmp k es)) ≡ length es
  unfolding IsStrictlySortedBy
  length-parts k [] sorted = refl
  length-parts k (e ∷ es) sorted = length_step k e es (is_eq (cmp k e.0)) refl sorted.0 (length-parts k es sorted.1)

  none_at : (k : K) (v : V) (es : List (K × V)) → AllByRecursion (λ y. is_eq (cmp k y) ≡ false) (keys_of es)
      → AllByRecursion (λ e. is_eq (cmp k e.0) ≡ true → e.1 ≡ v) es
  none_at k v [] all = tt
  none_at k v (e ∷ es) all = ((λ same. absurd (cc (sym all.0 ∙ same))), none_at k v es all.1)

  only_step : (k : K) (v : V) (e : K × V) (es : List (K × V)) (b : Bool) → is_eq (cmp k e.0) ≡ b → AllByRecursion (λ y. cmp e.0 y ≡ Less) (keys_of es)
      → (map_get cmp k es ≡ Some v → AllByRecursion (λ e. is_eq (cmp k e.0) ≡ true → e.1 ≡ v) es)
      → cond b (Some e.1) (map_get cmp k es) ≡ Some v
      → (is_eq (cmp k e.0) ≡ true → e.1 ≡ v) × AllByRecursion (λ e. is_eq (cmp k e.0) ≡ true → e.1 ≡ v) es
  only_step k v e es true is all later found =
      ((λ same. cc found), none_at k v es (apart-behind cmp order k e.0 (keys_of es) is all))
  only_step k v e es false is all later found = ((λ same. absurd (cc (sym is ∙ same))), later found)

  -- a key has one entry
  pub only-found : (k : K) (v : V) (es : List (K × V)) → IsStrictlySortedBy cmp (keys_of es) → map_get cmp k es ≡ Some v
      → AllByRecursion (λ e. is_eq (cmp k e.0) ≡ true → e.1 ≡ v) es
  unfolding IsStrictlySortedBy
  only-found k v [] sorted found = tt
  only-found k v (e ∷ es) sorted found = only_step k v e es (is_eq (cmp k e.0)) refl sorted.0 (only-found k v es sorted.1) found

-- what follows on either answer
pub both_ways : {A E P : Type 0} (r : Result A E) → OnOk r P → OnErr r P → P
both_ways (Ok x) ok err = ok
both_ways (Err e) ok err = err

-- what is known where there is something
pub of_some : {A P : Type 0} (o : Option A) (x : A) → o ≡ Some x → OnSome o P → P
of_some None x is holds = absurd (cc is)
of_some (Some y) x is holds = holds

-- and where there is nothing
pub of_none : {A N : Type 0} (S : A → Type 0) (o : Option A) → o ≡ None → MatchOption o N S → N
of_none S None is holds = holds
of_none S (Some x) is holds = absurd (cc is)

pub none_from : {A : Type 0} (o : Option A) → false ≡ is_some o → o ≡ None
none_from None is = refl
none_from (Some x) is = absurd (cc is)

pub empty_from : {A : Type 0} (xs : List A) (b : Bool) → b ≡ (length xs == 0) → b ≡ true → xs ≡ []
empty_from [] b is said = refl
empty_from (x ∷ xs) b is said = grind (arith, nat_tests)

-- no keys are in order
pub sorted-none : {K : Type 0} (cmp : K → K → Ordering) → IsStrictlySortedBy cmp []
unfolding IsStrictlySortedBy
sorted-none cmp = tt

-- what is known anyway
pub err_of : {A E P : Type 0} (r : Result A E) → P → OnErr r P
err_of (Ok x) p = tt
err_of (Err e) p = p
