-- What a test on keys keeps of a map, before and after a change of the map.
use Rattle.std.proofs.Common.{◌≡◌, Bool, true, false, cond, ◌&&◌, ◌||◌, List, [], ◌∷◌, map, Option, Some, None, refl, sym, ap, ◌∙◌}
use Rattle.std.specs.declared.cmp.Ordering.{Ordering}
use Rattle.std.proofs.lemmas.Bool.{true≢false}
use Rattle.std.proofs.Math.Bool.{or-true}
use Rattle.std.specs.Prelude.{is_some}
use Rattle.std.specs.List.{list_any, list_all}
use Rattle.std.specs.Cmp.{IsTotalOrder, Equal-is, eq_by_cmp_equiv}
use Rattle.std.specs.Ordering.{eq_by_cmp}
use Rattle.std.specs.Option.{option_map}
use Rattle.std.specs.FinMap.{FinMap, IsAntisymmetric, get, insert, remove, retain_keys, entries, keys, from_entries, find}
use Rattle.std.specs.FinMap.{empty, get-empty, get-insert, get-remove, get-from_entries, get-entries, contains_key-keys, same_map}
use Rattle.unwinding.specs.FiniteCells.{Full, get_cell, set_cell, restrict_cells}
use Rattle.unwinding.proofs.FiniteCellsLemmas.{get_kept, get_restrict}

-- a test before and after a change at one key: it is the same at every other key
abbrev pub AgreesBut : {K : Type 0} → (K → K → Ordering) → K → (test before : K → Bool) → Type 0
AgreesBut {K} R k test before = (q : K) → eq_by_cmp R q k ≡ false → test q ≡ before q

-- a map with this value at a key, or with none there
abbrev pub changed_at : {K X : Type 0} {R : K → K → Ordering} → K → Option X → FinMap R X → FinMap R X
changed_at k None m = remove m k
changed_at k (Some v) m = insert m k v

-- each value replaced by what a function makes of its key and itself
abbrev pub mapped : {K X : Type 0} {R : K → K → Ordering} → (K → X → X) → FinMap R X → FinMap R X
mapped f m = from_entries (map (λ e. (e.0, f e.0 e.1)) (entries m))

module _ {K : Type 0} (R : K → K → Ordering) (o : IsTotalOrder R) (same : IsAntisymmetric R) where
  -- keys that tie are equal
  pub tied : (a b : K) → eq_by_cmp R a b ≡ true → a ≡ b
  tied a b is = same a b ((Equal-is (R a b)).0 is)

  module _ {X : Type 0} where
    -- two maps are equal that answer alike
    pub kept_as : (m n : FinMap R X) (test : K → Bool) → ((k : K) → cond (test k) (get m k) None ≡ get n k) → retain_keys m test ≡ n
    kept_as m n test h = same_map o same _ _ (λ k. get_kept R same test m k ∙ h k)

    -- two tests keep the same of two maps that answer alike where they pass
    pub same_kept : (m n : FinMap R X) (p q : K → Bool) → ((k : K) → cond (p k) (get m k) None ≡ cond (q k) (get n k) None) → retain_keys m p ≡ retain_keys n q
    same_kept m n p q h = kept_as m _ p (λ k. h k ∙ sym (get_kept R same q n k))

    -- the same of one test
    pub same_where : (m n : FinMap R X) (test : K → Bool) → ((k : K) → test k ≡ true → get m k ≡ get n k) → retain_keys m test ≡ retain_keys n test
    same_where m n test h = same_kept m n test test (λ k. at k (test k) refl)
      where
        at : (k : K) (b : Bool) → test k ≡ b → cond b (get m k) None ≡ cond b (get n k) None
        at k true is = h k is
        at k false is = refl

    -- a test that each key passes where a value is keeps all
    pub all_kept : (m : FinMap R X) (test : K → Bool) → ((k : K) → test k ≡ false → get m k ≡ None) → retain_keys m test ≡ m
    all_kept m test h = kept_as m m test (λ k. at k (test k) refl)
      where
        at : (k : K) (b : Bool) → test k ≡ b → cond b (get m k) None ≡ get m k
        at k true is = refl
        at k false is = sym (h k is)

    -- no key has a value
    abbrev nothing : FinMap R X
    nothing = empty

    -- and nothing is kept
    pub kept_nothing : (test : K → Bool) → retain_keys nothing test ≡ nothing
    kept_nothing test = all_kept nothing test (λ k isnt. get-empty R k)

    -- two tests, in either order
    pub kept_twice : (m : FinMap R X) (p q : K → Bool) → retain_keys (retain_keys m p) q ≡ retain_keys (retain_keys m q) p
    kept_twice m p q = same_kept _ _ q p (λ k. ap (λ v. cond (q k) v None) (get_kept R same p m k) ∙ at k (p k) (q k) ∙ sym (ap (λ v. cond (p k) v None) (get_kept R same q m k)))
      where
        at : (k : K) (b c : Bool) → cond c (cond b (get m k) None) None ≡ cond b (cond c (get m k) None) None
        at k true c = refl
        at k false true = refl
        at k false false = refl

    -- each key of what is kept passes
    pub kept_pass : (m : FinMap R X) (test : K → Bool) → list_all test (keys (retain_keys m test)) ≡ true
    kept_pass m test = all_members (keys (retain_keys m test)) (λ q there. at q (test q) refl (ap is_some (sym (get_kept R same test m q)) ∙ contains_key-keys (retain_keys m test) q ∙ there))
      where
        at : (q : K) (b : Bool) → test q ≡ b → is_some (cond b (get m q) None) ≡ true → test q ≡ true
        at q true is there = is
        at q false is there = cc

        all_members : (ks : List K) → ((q : K) → list_any (eq_by_cmp R q) ks ≡ true → test q ≡ true) → list_all test ks ≡ true
        all_members [] each = refl
        all_members (k ∷ ks) each =
            ap (λ b. b && list_all test ks) (each k (ap (λ b. b || list_any (eq_by_cmp R k) ks) ((eq_by_cmp_equiv o).refl k)))
            ∙ all_members ks (λ q there. each q (ap (λ b. eq_by_cmp R q k || b) there ∙ or-true (eq_by_cmp R q k)))

    -- where no key passes a test, a key that passes has no value
    pub none_passes : (m : FinMap R X) (test : K → Bool) → list_any test (keys m) ≡ false → (k : K) → test k ≡ true → get m k ≡ None
    none_passes m test none k is = get-entries m k ∙ found (entries m) none
      where
        first_false : (a b : Bool) → (a || b) ≡ false → (a ≡ false) × (b ≡ false)
        first_false true b e = cc
        first_false false b e = (refl, e)

        found : (es : List (K × X)) → list_any test (map (λ e. e.0) es) ≡ false → find R k es ≡ None
        found [] none = refl
        found (e ∷ es) none = at (eq_by_cmp R k e.0) refl (first_false (test e.0) _ none) (found es (first_false (test e.0) _ none).1)
          where
            at : (b : Bool) → eq_by_cmp R k e.0 ≡ b → (test e.0 ≡ false) × (list_any test (map (λ e. e.0) es) ≡ false) → find R k es ≡ None → cond b (Some e.1) (find R k es) ≡ None
            at true tie both later = absurd (true≢false (sym is ∙ ap test (tied k e.0 tie) ∙ both.0))
            at false tie both later = later

    -- ---- a change at one key

    pub get_changed : (m : FinMap R X) (k : K) (x : Option X) (q : K) → get (changed_at k x m) q ≡ cond (eq_by_cmp R q k) x (get m q)
    get_changed m k None q = get-remove o m k q
    get_changed m k (Some v) q = get-insert o m k v q

    -- it is the same change of what is kept, or takes the key out where it does not pass any more
    pub kept_changed : (m : FinMap R X) (test before : K → Bool) (k : K) (x : Option X) → AgreesBut R k test before
        → retain_keys (changed_at k x m) test ≡ changed_at k (cond (test k) x None) (retain_keys m before)
    kept_changed m test before k x alike = kept_as _ _ test each
      where
        at : (q : K) (b : Bool) → eq_by_cmp R q k ≡ b → cond (test q) (cond b x (get m q)) None ≡ cond b (cond (test k) x None) (cond (before q) (get m q) None)
        at q true tie = ap (λ k. cond (test k) x None) (tied q k tie)
        at q false tie = ap (λ b. cond b (get m q) None) (alike q tie)

        each : (q : K) → cond (test q) (get (changed_at k x m) q) None ≡ get (changed_at k (cond (test k) x None) (retain_keys m before)) q
        each q =
            ap (λ v. cond (test q) v None) (get_changed m k x q) ∙ at q (eq_by_cmp R q k) refl
            ∙ sym (get_changed (retain_keys m before) k (cond (test k) x None) q ∙ ap (cond (eq_by_cmp R q k) (cond (test k) x None)) (get_kept R same before m q))

    -- the value that is there changes nothing
    pub unchanged : (m : FinMap R X) (k : K) → changed_at k (get m k) m ≡ m
    unchanged m k = same_map o same _ _ (λ q. get_changed m k (get m k) q ∙ at q (eq_by_cmp R q k) refl)
      where
        at : (q : K) (b : Bool) → eq_by_cmp R q k ≡ b → cond b (get m k) (get m q) ≡ get m q
        at q true tie = sym (ap (get m) (tied q k tie))
        at q false tie = refl

    -- where there is no value, none is taken out
    pub remove_absent : (m : FinMap R X) (k : K) → get m k ≡ None → remove m k ≡ m
    remove_absent m k none = ap (λ x. changed_at k x m) (sym none) ∙ unchanged m k

    -- where the key passes, the change is seen
    pub change_seen : (m : FinMap R X) (test before : K → Bool) (k : K) (x : Option X) → test k ≡ true → AgreesBut R k test before
        → retain_keys (changed_at k x m) test ≡ changed_at k x (retain_keys m before)
    change_seen m test before k x is alike = kept_changed m test before k x alike ∙ ap (λ b. changed_at k (cond b x None) (retain_keys m before)) is

    -- where it passes no more, the key is gone
    pub change_gone : (m : FinMap R X) (test before : K → Bool) (k : K) (x : Option X) → test k ≡ false → AgreesBut R k test before
        → retain_keys (changed_at k x m) test ≡ remove (retain_keys m before) k
    change_gone m test before k x is alike = kept_changed m test before k x alike ∙ ap (λ b. changed_at k (cond b x None) (retain_keys m before)) is

    -- where it never passes, the change is not seen
    pub change_unseen : (m : FinMap R X) (test : K → Bool) (k : K) (x : Option X) → test k ≡ false → retain_keys (changed_at k x m) test ≡ retain_keys m test
    change_unseen m test k x is = change_gone m test test k x is (λ q apart. refl) ∙ remove_absent _ k (get_kept R same test m k ∙ ap (λ b. cond b (get m k) None) is)

    -- a key is taken out before the test or after it
    pub kept_remove : (m : FinMap R X) (test before : K → Bool) (k : K) → AgreesBut R k test before → retain_keys (remove m k) test ≡ remove (retain_keys m before) k
    kept_remove m test before k alike = kept_changed m test before k None alike ∙ at (test k)
      where
        at : (b : Bool) → changed_at k (cond b None None) (retain_keys m before) ≡ remove (retain_keys m before) k
        at true = refl
        at false = refl

    -- ---- values that a function makes

    find_mapped : (f : K → X → X) (es : List (K × X)) (q : K) → find R q (map (λ e. (e.0, f e.0 e.1)) es) ≡ option_map (f q) (find R q es)
    find_mapped f [] q = refl
    find_mapped f (e ∷ es) q = at (eq_by_cmp R q e.0) refl (find_mapped f es q)
      where
        at : (b : Bool) → eq_by_cmp R q e.0 ≡ b → find R q (map (λ e. (e.0, f e.0 e.1)) es) ≡ option_map (f q) (find R q es)
            → cond b (Some (f e.0 e.1)) (find R q (map (λ e. (e.0, f e.0 e.1)) es)) ≡ option_map (f q) (cond b (Some e.1) (find R q es))
        at true tie later = ap (λ k. Some (f k e.1)) (sym (tied q e.0 tie))
        at false tie later = later

    pub get_mapped : (f : K → X → X) (m : FinMap R X) (q : K) → get (mapped f m) q ≡ option_map (f q) (get m q)
    get_mapped f m q = get-from_entries o (map (λ e. (e.0, f e.0 e.1)) (entries m)) q ∙ find_mapped f (entries m) q ∙ ap (option_map (f q)) (sym (get-entries m q))

    -- the values of what is kept are made alike
    pub kept_mapped : (f : K → X → X) (m : FinMap R X) (test : K → Bool) → retain_keys (mapped f m) test ≡ mapped f (retain_keys m test)
    kept_mapped f m test = kept_as _ _ test each
      where
        at : (q : K) (b : Bool) → cond b (option_map (f q) (get m q)) None ≡ option_map (f q) (cond b (get m q) None)
        at q true = refl
        at q false = refl

        each : (q : K) → cond (test q) (get (mapped f m) q) None ≡ get (mapped f (retain_keys m test)) q
        each q =
            ap (λ v. cond (test q) v None) (get_mapped f m q) ∙ at q (test q)
            ∙ sym (get_mapped f (retain_keys m test) q ∙ ap (option_map (f q)) (get_kept R same test m q))

    -- what is kept stays where the function leaves its values
    pub mapped_unseen : (f : K → X → X) (m : FinMap R X) (test : K → Bool) → ((k : K) (v : X) → test k ≡ true → get m k ≡ Some v → f k v ≡ v) → retain_keys (mapped f m) test ≡ retain_keys m test
    mapped_unseen f m test leaves = same_where _ _ test (λ k is. get_mapped f m k ∙ at k is (get m k) refl)
      where
        at : (k : K) → test k ≡ true → (x : Option X) → get m k ≡ x → option_map (f k) x ≡ x
        at k is None there = refl
        at k is (Some v) there = ap Some (leaves k v is there)

  -- ---- cells that hold lists

  module _ {A : Type 0} where
    -- a cell whose key passes has the list that it has in all, and another one is empty
    pub kept_cell : (m : FinMap R (Full A)) (test : K → Bool) (c : K) → get_cell R (retain_keys m test) c ≡ cond (test c) (get_cell R m c) []
    unfolding restrict_cells
    kept_cell m test c = get_restrict R o same test m c

    -- a cell whose key passes is replaced before the test or after it
    pub cell_seen : (m : FinMap R (Full A)) (test : K → Bool) (c : K) (xs : List A) → test c ≡ true → retain_keys (set_cell R c xs m) test ≡ set_cell R c xs (retain_keys m test)
    unfolding set_cell
    cell_seen m test c [] is = change_seen m test test c None is (λ q apart. refl)
    cell_seen m test c (x ∷ xs) is = change_seen m test test c (Some (record { first = x; rest = xs })) is (λ q apart. refl)

    -- another cell is not seen
    pub cell_unseen : (m : FinMap R (Full A)) (test : K → Bool) (c : K) (xs : List A) → test c ≡ false → retain_keys (set_cell R c xs m) test ≡ retain_keys m test
    unfolding set_cell
    cell_unseen m test c [] is = change_unseen m test c None is
    cell_unseen m test c (x ∷ xs) is = change_unseen m test c (Some (record { first = x; rest = xs })) is
