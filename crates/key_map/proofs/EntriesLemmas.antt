-- Look-ups after a write at a key.
use Rattle.std.proofs.Common.{◌≡◌, Bool, not, sym, true, false, cond, List, [], ◌∷◌, Option, Some, None, refl, ap, ◌∙◌}
use Rattle.std.specs.Prelude.{is_some}
use Rattle.std.specs.Cmp.{IsTotalOrder, Equal-is}
use Rattle.std.specs.BTreeMap.{insert_entry}
use Rattle.std.specs.Ordering.{is_eq, match_ordering, ordering_reverse}
use Rattle.std.specs.declared.cmp.Ordering.{Ordering}
use Rattle.std.specs.declared.cmp.Ordering.TheVariants.{Less, Equal, Greater}
use Rattle.std.specs.List.Sorted.{IsStrictlySortedBy}
use Rattle.std.specs.Map.{keys_of, remove_entry}
use Rattle.std.specs.BTreeMap.{is_at}
use Rattle.std.specs.List.{AllByRecursion}
use Rattle.key_map.specs.Entries.{map_get, map_set, map_put, map_remove, HasSameValues, ClonesCompareEqual, IsCopy}

eq-reversed : (o : Ordering) → is_eq (ordering_reverse o) ≡ is_eq o
eq-reversed Less = refl
eq-reversed Equal = refl
eq-reversed Greater = refl

-- equal keys are equal from either side
pub eq-flip : {K : Type 0} (cmp : K → K → Ordering) → IsTotalOrder cmp → (a b : K) → is_eq (cmp a b) ≡ is_eq (cmp b a)
eq-flip cmp order a b = ap is_eq (order.antisymm a b) ∙ eq-reversed (cmp b a)

-- a key equal to another is found as that one is
eq-along : {K : Type 0} (cmp : K → K → Ordering) → IsTotalOrder cmp → (q a b : K) → is_eq (cmp a b) ≡ true → is_eq (cmp q a) ≡ is_eq (cmp q b)
eq-along cmp order q a b same =
    eq-flip cmp order q a ∙ ap is_eq (order.congr a b q ((Equal-is (cmp a b)).0 same)) ∙ eq-flip cmp order b q

-- no key behind an equal one is equal
pub apart-behind : {K : Type 0} (cmp : K → K → Ordering) → IsTotalOrder cmp → (key first : K) (ks : List K) → is_eq (cmp key first) ≡ true
    → AllByRecursion (λ k. cmp first k ≡ Less) ks → AllByRecursion (λ k. is_eq (cmp key k) ≡ false) ks
apart-behind cmp order key first [] same below = tt
apart-behind cmp order key first (k ∷ ks) same below =
    (ap is_eq (order.congr key first k ((Equal-is (cmp key first)).0 same) ∙ below.0), apart-behind cmp order key first ks same below.1)

module _ {K V : Type 0} (cmp : K → K → Ordering) (order : IsTotalOrder cmp) where
  pub map_get-same : (a b : K) (es : List (K × V)) → is_eq (cmp a b) ≡ true → map_get cmp a es ≡ map_get cmp b es
  map_get-same a b [] same = refl
  map_get-same a b (e ∷ es) same =
      rw (order.congr a b e.0 ((Equal-is (cmp a b)).0 same)) (ap (λ r. cond (is_eq (cmp b e.0)) (Some e.1) r) (map_get-same a b es same))

  cond_twice : (a : Bool) (x y z : Option V) → cond a x y ≡ cond a x (cond a z y)
  cond_twice true x y z = refl
  cond_twice false x y z = refl

  -- an entry of another key is found or not, whatever is written
  told_apart : (q k e : K) (x value rest : Option V) (a : Bool) → is_eq (cmp q e) ≡ a → is_eq (cmp k e) ≡ false
      → cond a x (cond (is_eq (cmp q k)) value rest) ≡ cond (is_eq (cmp q k)) value (cond a x rest)
  told_apart q k e x value rest false is apart = refl
  told_apart q k e x value rest true is apart = rw (eq-flip cmp order q k ∙ eq-along cmp order k q e is ∙ apart) refl

  set_step : (q k : K) (value : V) (e : K × V) (es : List (K × V)) (b : Bool) → is_eq (cmp k e.0) ≡ b
      → (is_some (map_get cmp k es) ≡ true → map_get cmp q (map_set cmp k value es) ≡ cond (is_eq (cmp q k)) (Some value) (map_get cmp q es))
      → is_some (cond b (Some e.1) (map_get cmp k es)) ≡ true
      → map_get cmp q (cond b ((e.0, value) ∷ es) (e ∷ map_set cmp k value es))
      ≡ cond (is_eq (cmp q k)) (Some value) (cond (is_eq (cmp q e.0)) (Some e.1) (map_get cmp q es))
  set_step q k value e es true is rest there =
      rw (eq-along cmp order q k e.0 is) (cond_twice (is_eq (cmp q e.0)) (Some value) (map_get cmp q es) (Some e.1))
  set_step q k value e es false is rest there =
      ap (λ r. cond (is_eq (cmp q e.0)) (Some e.1) r) (rest there)
      ∙ told_apart q k e.0 (Some e.1) (Some value) (map_get cmp q es) (is_eq (cmp q e.0)) refl is

  -- so is one that was there and was set
  pub map_get-set : (q k : K) (value : V) (es : List (K × V)) → is_some (map_get cmp k es) ≡ true
      → map_get cmp q (map_set cmp k value es) ≡ cond (is_eq (cmp q k)) (Some value) (map_get cmp q es)
  map_get-set q k value [] there = absurd (cc there)
  map_get-set q k value (e ∷ es) there =
      set_step q k value e es (is_eq (cmp k e.0)) refl (map_get-set q k value es) there

  insert_step : (q k : K) (value : V) (e : K × V) (es : List (K × V)) (o : Ordering) → cmp k e.0 ≡ o
      → map_get cmp q (insert_entry cmp es k value) ≡ cond (is_eq (cmp q k)) (Some value) (map_get cmp q es)
      → map_get cmp q (match_ordering o ((k, value) ∷ e ∷ es) ((e.0, value) ∷ es) (e ∷ insert_entry cmp es k value))
      ≡ cond (is_eq (cmp q k)) (Some value) (cond (is_eq (cmp q e.0)) (Some e.1) (map_get cmp q es))
  insert_step q k value e es Less is rest = refl
  insert_step q k value e es Equal is rest =
      rw (eq-along cmp order q k e.0 (ap is_eq is)) (cond_twice (is_eq (cmp q e.0)) (Some value) (map_get cmp q es) (Some e.1))
  insert_step q k value e es Greater is rest =
      ap (λ r. cond (is_eq (cmp q e.0)) (Some e.1) r) rest
      ∙ told_apart q k e.0 (Some e.1) (Some value) (map_get cmp q es) (is_eq (cmp q e.0)) refl (ap is_eq is)

  -- a key is found with the value that was put at it, and every other key as before
  pub map_get-put : (q k : K) (value : V) (es : List (K × V))
      → map_get cmp q (map_put cmp k value es) ≡ cond (is_eq (cmp q k)) (Some value) (map_get cmp q es)
  map_get-put q k value [] = refl
  map_get-put q k value (e ∷ es) = insert_step q k value e es (cmp k e.0) refl (map_get-put q k value es)

  missing_step : (k : K) (value : V) (e : K × V) (es : List (K × V)) (b : Bool) → (map_get cmp k es ≡ None → map_set cmp k value es ≡ es)
      → cond b (Some e.1) (map_get cmp k es) ≡ None → cond b ((e.0, value) ∷ es) (e ∷ map_set cmp k value es) ≡ e ∷ es
  missing_step k value e es true rest missing = absurd (cc missing)
  missing_step k value e es false rest missing = ap (λ r. e ∷ r) (rest missing)

  -- a key that is not there is not set
  pub map_set-missing : (k : K) (value : V) (es : List (K × V)) → map_get cmp k es ≡ None → map_set cmp k value es ≡ es
  map_set-missing k value [] missing = refl
  map_set-missing k value (e ∷ es) missing = missing_step k value e es (is_eq (cmp k e.0)) (map_set-missing k value es) missing

  remove_step : (q k : K) (e : K × V) (es : List (K × V)) (b c d : Bool) → is_eq (cmp k e.0) ≡ b → is_eq (cmp q e.0) ≡ c → is_eq (cmp k q) ≡ d
      → map_get cmp q (map_remove cmp k es) ≡ cond d None (map_get cmp q es)
      → map_get cmp q (cond (not b) (e ∷ map_remove cmp k es) (map_remove cmp k es)) ≡ cond d None (cond c (Some e.1) (map_get cmp q es))
  remove_step q k e es true c true is same tie later = later
  remove_step q k e es true true false is same tie later =
      absurd (cc (sym is ∙ sym (eq-along cmp order k q e.0 same) ∙ tie))
  remove_step q k e es true false false is same tie later = later
  remove_step q k e es false true true is same tie later =
      absurd (cc (sym is ∙ sym (eq-along cmp order k q e.0 same) ∙ tie))
  remove_step q k e es false true false is same tie later = rw same refl
  remove_step q k e es false false d is same tie later = rw same later

  -- a key that was taken out is not found, and every other key as before
  pub map_get-remove : (q k : K) (es : List (K × V))
      → map_get cmp q (map_remove cmp k es) ≡ cond (is_eq (cmp k q)) None (map_get cmp q es)
  map_get-remove q k [] = none (is_eq (cmp k q))
    where
      none : (b : Bool) → ◌≡◌ {A = Option V} None (cond b None None)
      none true = refl
      none false = refl
  map_get-remove q k (e ∷ es) =
      remove_step q k e es (is_eq (cmp k e.0)) (is_eq (cmp q e.0)) (is_eq (cmp k q)) refl refl refl (map_get-remove q k es)

  -- a key that is none of the entries' is not taken out
  pub map_remove-apart : (key : K) (es : List (K × V)) → AllByRecursion (λ k. is_eq (cmp key k) ≡ false) (keys_of es) → map_remove cmp key es ≡ es
  map_remove-apart key [] apart = refl
  map_remove-apart key (e ∷ es) apart = rw apart.0 (ap (λ r. e ∷ r) (map_remove-apart key es apart.1))

  removed_step : (key : K) (e : K × V) (es : List (K × V)) (b : Bool) → is_eq (cmp key e.0) ≡ b → AllByRecursion (λ k. cmp e.0 k ≡ Less) (keys_of es)
      → remove_entry (is_at (cmp key)) es ≡ map_remove cmp key es
      → cond b es (e ∷ remove_entry (is_at (cmp key)) es) ≡ cond (not b) (e ∷ map_remove cmp key es) (map_remove cmp key es)
  removed_step key e es true is below later = sym (map_remove-apart key es (apart-behind cmp order key e.0 (keys_of es) is below))
  removed_step key e es false is below later = ap (λ r. e ∷ r) later

  -- keys that ascend have no key twice, so that one entry goes at most
  pub map_remove-first : (key : K) (es : List (K × V)) → IsStrictlySortedBy cmp (keys_of es) → remove_entry (is_at (cmp key)) es ≡ map_remove cmp key es
  unfolding IsStrictlySortedBy
  map_remove-first key [] sorted = refl
  map_remove-first key (e ∷ es) sorted = removed_step key e es (is_eq (cmp key e.0)) refl sorted.0 (map_remove-first key es sorted.1)

  copy_step : (q e c : K) (value : V) (rest rest' : Option V) → cmp e c ≡ Equal → rest' ≡ rest
      → cond (is_eq (cmp q c)) (Some value) rest' ≡ cond (is_eq (cmp q e)) (Some value) rest
  copy_step q e c value rest rest' tie same =
      rw (← eq-along cmp order q e c (ap is_eq tie), same) refl

  -- clones of the keys with the same values: each key has the value that it had
  pub map_get-copy : (C : K → K → Type 0) → ClonesCompareEqual cmp C → (D : V → V → Type 0) → ((value clone : V) → D value clone → clone ≡ value)
      → (es es' : List (K × V)) → IsCopy C D es es' → HasSameValues cmp es es'
  map_get-copy C ties D same [] [] zip = λ q. refl
  map_get-copy C ties D same [] (f ∷ fs) zip = absurd zip
  map_get-copy C ties D same (e ∷ es) [] zip = absurd zip
  map_get-copy C ties D same (e ∷ es) (f ∷ fs) zip = λ q.
      rw (same e.1 f.1 zip.0.1)
      (copy_step q e.0 f.0 e.1 (map_get cmp q es) (map_get cmp q fs) (ties e.0 f.0 zip.0.0) (map_get-copy C ties D same es fs zip.1 q))
