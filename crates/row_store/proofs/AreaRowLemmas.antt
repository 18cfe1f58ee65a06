-- What the row changes of a key lead to: its pairs, one after another, and its mode.
use Rattle.std.proofs.Common.{◌≡◌, ℕ, ◌≤◌, Bool, true, false, cond, ◌||◌, List, [], ◌∷◌, ◌++◌, map, Some, refl, sym, ap, subst, ◌∙◌, arith, append_assoc, append-nil}
use Rattle.std.specs.Prelude.{find, is_some, option_map, bytes_eq, not}
use Rattle.std.specs.List.{AllByRecursion, IsDistinct, list_any}
use Rattle.std.specs.Cmp.{IsEquivalence, decided}
use Rattle.std.specs.FinMap as finite
use Rattle.std.specs.FinMap.{get-insert}
use Rattle.std.specs.Ordering.{eq_by_cmp}
use Rattle.std.proofs.lemmas.Bool.{le-leb}
use Rattle.std.proofs.lemmas.List.Sums.{sum_by-append}
use Rattle.std.proofs.lemmas.Map.Keys.{IsDistinct-head, IsDistinct-tail}
use Rattle.std.proofs.lemmas.Slice.Eq.{bytes_eq-Decides}
use Rattle.unwinding.proofs.FiniteCellsLemmas.{get_set}
use Rattle.storage_key.specs.Key.{PlainKey, key_order}
use Rattle.storage_key.proofs.OrderLemmas.{key_order_total, key_order_same}
use Rattle.local_area.specs.Area.{HasDistinctNames, Pair, area_get, area_put, area_weight, has_name, pair_weight, quota}
use Rattle.agent_model.proofs.KeptLemmas.{tied}
use Rattle.row_changes.specs.Change.{AreaPut, SetMode}
use Rattle.durable_model.specs.Saved.{Saved, pairs_at, with_pairs}
use Rattle.durable_model.specs.RowEdits.{edited, is_valid}
use Rattle.durable_model.proofs.CellsLemmas.{get_own, set_known, set_twice}
use Rattle.row_store.specs.Listing.{key_rows, mode_rows, pair_rows}
use Rattle.row_store.proofs.LeadLemmas.{Leads, first, stays, then, to}

-- ---- lists of what has distinct names

behind_front : {A K : Type 0} (eq : K → K → Bool) (name : A → K) (k : K) (front : List A) (x : A) (rest : List A)
    → AllByRecursion (λ y. eq k y ≡ false) (map name (front ++ x ∷ rest)) → eq k (name x) ≡ false
behind_front eq name k [] x rest all = all.0
behind_front eq name k (f ∷ front) x rest all = behind_front eq name k front x rest all.1

-- what stands behind others has no name of theirs
pub absent_before : {A K : Type 0} (eq : K → K → Bool) (laws : IsEquivalence eq) (name : A → K)
    (front : List A) (x : A) (rest : List A)
    → IsDistinct eq (map name (front ++ x ∷ rest)) → list_any (λ y. eq (name x) (name y)) front ≡ false
absent_before eq laws name [] x rest apart = refl
absent_before eq laws name (f ∷ front) x rest apart =
    let others = map name (front ++ x ∷ rest) in
    let here : eq (name x) (name f) ≡ false = laws.symm (name x) (name f)
    ∙ behind_front eq name (name f) front x rest (IsDistinct-head eq (name f) others apart) in
    ap (λ b. b || list_any (λ y. eq (name x) (name y)) front) here
    ∙ absent_before eq laws name front x rest (IsDistinct-tail eq (name f) others apart)

pub bytes_equiv : IsEquivalence bytes_eq
bytes_equiv = decided bytes_eq bytes_eq-Decides

pub found_any : (name : List ℕ) (pairs : List Pair) → is_some (area_get name pairs) ≡ list_any (has_name name) pairs
found_any name [] = refl
found_any name (p ∷ ps) = at (has_name name p) (found_any name ps)
  where
    at : (b : Bool) → is_some (area_get name ps) ≡ list_any (has_name name) ps
        → is_some (option_map (λ (pair : Pair). pair.value) (cond b (Some p) (find (has_name name) ps)))
        ≡ (b || list_any (has_name name) ps)
    at true later = refl
    at false later = later

-- a pair of a new name comes last
put_last : (pair : Pair) (front rest : List Pair) → HasDistinctNames (front ++ pair ∷ rest)
    → area_put pair.name pair.value front ≡ front ++ pair ∷ []
put_last pair front rest apart =
    let new : is_some (area_get pair.name front) ≡ false =
    found_any pair.name front ∙ absent_before bytes_eq bytes_equiv (λ p. p.name) front pair rest apart in
    ap (λ b. cond b (map (λ p. cond (has_name pair.name p) (record p { value = pair.value }) p) front) (front ++ pair ∷ [])) new

-- ---- pairs

-- an area with other pairs
pub pairs_with : (q key : PlainKey) (pairs : List Pair) (e : Saved)
    → pairs_at q (with_pairs key pairs e) ≡ cond (eq_by_cmp key_order q key) pairs (pairs_at q e)
pairs_with q key pairs e = get_set key_order key_order_total key_order_same q key pairs e.under.areas

module _ (key : PlainKey) where
  -- an area that is set to what it has
  pub same_pairs : (pairs : List Pair) (e : Saved) → pairs_at key e ≡ pairs → e ≡ with_pairs key pairs e
  same_pairs pairs e is = ap (λ areas. record e { under = record (e.under) { areas = areas } })
      (sym (set_known key_order key_order_total key_order_same key pairs e.under.areas is))

  pairs_twice : (xs ys : List Pair) (e : Saved) → with_pairs key ys (with_pairs key xs e) ≡ with_pairs key ys e
  pairs_twice xs ys e = ap (λ areas. record e { under = record (e.under) { areas = areas } })
      (set_twice key_order key_order_total key_order_same key xs ys e.under.areas)

  pub pairs_lead : (front rest : List Pair) (e : Saved) → pairs_at key e ≡ front
      → HasDistinctNames (front ++ rest) → area_weight (front ++ rest) ≤ quota
      → Leads e (pair_rows key rest) (with_pairs key (front ++ rest) e)
  pairs_lead front [] e is apart light = stays e _ (same_pairs (front ++ []) e (is ∙ sym (append-nil front)))
  pairs_lead front (p ∷ ps) e is apart light =
      let made : area_put p.name p.value (pairs_at key e) ≡ front ++ p ∷ [] =
      ap (area_put p.name p.value) is ∙ put_last p front ps apart in
      let whole : (front ++ p ∷ []) ++ ps ≡ front ++ p ∷ ps = append_assoc front (p ∷ []) ps in
      let heavy : area_weight (front ++ p ∷ []) ≤ quota =
      omega (arith, light, ap area_weight whole, sum_by-append pair_weight (front ++ p ∷ []) ps) in
      let valid : is_valid (AreaPut key p.name p.value) e ≡ true =
      le-leb _ quota (subst (λ pairs. area_weight pairs ≤ quota) (sym made) heavy) in
      let next : Saved = edited (AreaPut key p.name p.value) e in
      let there : pairs_at key next ≡ front ++ p ∷ [] =
      get_own key_order key_order_total key_order_same key _ e.under.areas ∙ made in
      first e (AreaPut key p.name p.value) (pair_rows key ps) _ valid
      (to next (pair_rows key ps) _ _
      (pairs_lead (front ++ p ∷ []) ps next there (subst HasDistinctNames (sym whole) apart)
      (subst (λ pairs. area_weight pairs ≤ quota) (sym whole) light))
      (pairs_twice _ ((front ++ p ∷ []) ++ ps) e ∙ ap (λ pairs. with_pairs key pairs e) whole))

-- ---- the mode

-- a bucket that is made persistent, or left
abbrev pub with_mode : PlainKey → Bool → Saved → Saved
with_mode key b e = cond b (edited (SetMode key) e) e

mode_leads : (key : PlainKey) (b : Bool) (e : Saved) → finite.contains_key e.under.persistent key ≡ false
    → Leads e (mode_rows key b) (with_mode key b e)
mode_leads key true e new = first e (SetMode key) [] _ (ap not new) (stays _ _ refl)
mode_leads key false e new = stays e e refl

-- ---- a key

-- the state with what another has at a key
abbrev pub keyed : Saved → PlainKey → Saved → Saved
keyed d key e = with_mode key (finite.contains_key d.under.persistent key) (with_pairs key (pairs_at key d) e)

-- nothing is stored at a key
pub record IsFreeKey (key : PlainKey) (e : Saved) : Type 0 where
  pub pairs : pairs_at key e ≡ []
  pub mode : finite.contains_key e.under.persistent key ≡ false

pub key_leads : (d : Saved) (key : PlainKey) (e : Saved) → HasDistinctNames (pairs_at key d)
    → area_weight (pairs_at key d) ≤ quota → IsFreeKey key e
    → Leads e (key_rows d key) (keyed d key e)
key_leads d key e apart light free =
    let b = finite.contains_key d.under.persistent key in
    then e (pair_rows key (pairs_at key d)) (with_pairs key (pairs_at key d) e) (mode_rows key b) (keyed d key e)
    (pairs_lead key [] (pairs_at key d) e free.pairs apart light)
    (mode_leads key b (with_pairs key (pairs_at key d) e) free.mode)

-- a mode leaves the areas
mode_pairs : (q key : PlainKey) (b : Bool) (e : Saved) → pairs_at q (with_mode key b e) ≡ pairs_at q e
mode_pairs q key true e = refl
mode_pairs q key false e = refl

pub keyed_pairs : (d : Saved) (q key : PlainKey) (e : Saved)
    → pairs_at q (keyed d key e) ≡ cond (eq_by_cmp key_order q key) (pairs_at key d) (pairs_at q e)
keyed_pairs d q key e = mode_pairs q key _ (with_pairs key (pairs_at key d) e) ∙ pairs_with q key (pairs_at key d) e

modes_with : (q key : PlainKey) (b : Bool) (e : Saved) → finite.contains_key e.under.persistent key ≡ false
    → finite.contains_key (with_mode key b e).under.persistent q
    ≡ cond (eq_by_cmp key_order q key) b (finite.contains_key e.under.persistent q)
modes_with q key true e new = ap is_some (get-insert key_order_total e.under.persistent key tt q) ∙ at (eq_by_cmp key_order q key)
  where
    at : (t : Bool) → is_some (cond t (Some tt) (finite.get e.under.persistent q))
        ≡ cond t true (finite.contains_key e.under.persistent q)
    at true = refl
    at false = refl
modes_with q key false e new = at (eq_by_cmp key_order q key) refl
  where
    at : (t : Bool) → eq_by_cmp key_order q key ≡ t
        → finite.contains_key e.under.persistent q ≡ cond t false (finite.contains_key e.under.persistent q)
    at true tie = ap (finite.contains_key e.under.persistent) (tied key_order key_order_total key_order_same q key tie) ∙ new
    at false tie = refl

pub keyed_mode : (d : Saved) (q key : PlainKey) (e : Saved) → IsFreeKey key e
    → finite.contains_key (keyed d key e).under.persistent q
    ≡ cond (eq_by_cmp key_order q key) (finite.contains_key d.under.persistent key) (finite.contains_key e.under.persistent q)
keyed_mode d q key e free = modes_with q key (finite.contains_key d.under.persistent key)
    (with_pairs key (pairs_at key d) e) free.mode

-- another key stays free
pub free_other : (d : Saved) (q key : PlainKey) (e : Saved) → eq_by_cmp key_order q key ≡ false
    → IsFreeKey key e → IsFreeKey q e → IsFreeKey q (keyed d key e)
free_other d q key e apart here free = record {
  pairs = keyed_pairs d q key e ∙ ap (λ b. cond b (pairs_at key d) (pairs_at q e)) apart ∙ free.pairs;
  mode = keyed_mode d q key e here
      ∙ ap (λ b. cond b (finite.contains_key d.under.persistent key)
      (finite.contains_key e.under.persistent q)) apart ∙ free.mode;
}
