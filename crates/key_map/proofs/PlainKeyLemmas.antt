-- Look-ups by plain keys in a map whose keys are ordered as their plain keys are.
use Rattle.std.proofs.Common.{◌≡◌, Bool, true, false, cond, not, List, [], ◌∷◌, map, Option, Some, None, refl, sym, ap, ◌∙◌}
use Rattle.std.specs.Prelude.{is_some, ◌&&◌}
use Rattle.std.specs.declared.cmp.Ordering.{Ordering}
use Rattle.std.specs.declared.cmp.Ordering.TheVariants.{Less, Equal, Greater}
use Rattle.std.specs.BTreeMap.{insert_entry}
use Rattle.std.specs.Cmp.{Equal-is, IsTotalOrder, eq_by_cmp_equiv}
use Rattle.std.specs.FinMap.{IsAntisymmetric}
use Rattle.std.specs.List.{AllByRecursion}
use Rattle.std.specs.List.Sorted.{IsStrictlySortedBy}
use Rattle.std.specs.Map.{keys_of}
use Rattle.std.proofs.lemmas.Bool.{and_parts}
use Rattle.std.proofs.lemmas.Map.Entries.{option_filter}
use Rattle.std.specs.Ordering.{is_eq, eq_by_cmp, match_ordering}
use Rattle.key_map.specs.Entries.{map_get, map_set, map_put, map_remove}
use Rattle.key_map.specs.Retain.{all_pass, retain_entries}
use Rattle.key_map.proofs.EntriesLemmas.{map_get-put, map_get-set, map_get-remove, eq-flip}

module _ {K P V : Type 0} (plain : K → P) where
  -- entries by plain keys
  abbrev pub plain_of : List (K × V) → List (P × V)
  plain_of es = map (λ e. (plain e.0, e.1)) es

  cond_entries : (b : Bool) (x y : List (K × V)) → plain_of (cond b x y) ≡ cond b (plain_of x) (plain_of y)
  cond_entries true x y = refl
  cond_entries false x y = refl

  match_entries : (o : Ordering) (x y z : List (K × V)) → plain_of (match_ordering o x y z) ≡ match_ordering o (plain_of x) (plain_of y) (plain_of z)
  match_entries Less x y z = refl
  match_entries Equal x y z = refl
  match_entries Greater x y z = refl

  module _ (by_plain : P → P → Ordering) where
    -- the value that a plain key has
    abbrev pub found : P → List (K × V) → Option V
    found key es = map_get by_plain key (plain_of es)

    module _ (total : IsTotalOrder by_plain) (cmp : K → K → Ordering) (alike : (a b : K) → cmp a b ≡ by_plain (plain a) (plain b)) where
      -- a key has what its plain key has
      pub found-key : (key : K) (es : List (K × V)) → map_get cmp key es ≡ found (plain key) es
      found-key key [] = refl
      found-key key (e ∷ es) =
          ap (λ o. cond (is_eq o) (Some e.1) (map_get cmp key es)) (alike key e.0)
          ∙ ap (λ r. cond (is_eq (by_plain (plain key) (plain e.0))) (Some e.1) r) (found-key key es)

      set_plain : (key : K) (value : V) (es : List (K × V)) → plain_of (map_set cmp key value es) ≡ map_set by_plain (plain key) value (plain_of es)
      set_plain key value [] = refl
      set_plain key value (e ∷ es) =
          cond_entries (is_eq (cmp key e.0)) ((e.0, value) ∷ es) (e ∷ map_set cmp key value es)
          ∙ ap (λ o. cond (is_eq o) ((plain e.0, value) ∷ plain_of es) ((plain e.0, e.1) ∷ plain_of (map_set cmp key value es))) (alike key e.0)
          ∙ ap (λ r. cond (is_eq (by_plain (plain key) (plain e.0))) ((plain e.0, value) ∷ plain_of es) ((plain e.0, e.1) ∷ r)) (set_plain key value es)

      insert_plain : (key : K) (value : V) (es : List (K × V)) → plain_of (insert_entry cmp es key value) ≡ insert_entry by_plain (plain_of es) (plain key) value
      insert_plain key value [] = refl
      insert_plain key value (e ∷ es) =
          match_entries (cmp key e.0) ((key, value) ∷ e ∷ es) ((e.0, value) ∷ es) (e ∷ insert_entry cmp es key value)
          ∙ ap (λ o. match_ordering o ((plain key, value) ∷ plain_of (e ∷ es)) ((plain e.0, value) ∷ plain_of es) ((plain e.0, e.1) ∷ plain_of (insert_entry cmp es key value))) (alike key e.0)
          ∙ ap (λ r. match_ordering (by_plain (plain key) (plain e.0)) ((plain key, value) ∷ plain_of (e ∷ es)) ((plain e.0, value) ∷ plain_of es) ((plain e.0, e.1) ∷ r)) (insert_plain key value es)

      remove_plain : (key : K) (es : List (K × V)) → plain_of (map_remove cmp key es) ≡ map_remove by_plain (plain key) (plain_of es)
      remove_plain key [] = refl
      remove_plain key (e ∷ es) =
          cond_entries (not (is_eq (cmp key e.0))) (e ∷ map_remove cmp key es) (map_remove cmp key es)
          ∙ ap (λ o. cond (not (is_eq o)) ((plain e.0, e.1) ∷ plain_of (map_remove cmp key es)) (plain_of (map_remove cmp key es))) (alike key e.0)
          ∙ ap (λ r. cond (not (is_eq (by_plain (plain key) (plain e.0)))) ((plain e.0, e.1) ∷ r) r) (remove_plain key es)

      -- a plain key is found with the value that was put at it, and every other as before
      pub found-put : (q : P) (key : K) (value : V) (es : List (K × V))
          → found q (map_put cmp key value es) ≡ cond (eq_by_cmp by_plain q (plain key)) (Some value) (found q es)
      found-put q key value es =
          ap (map_get by_plain q) (insert_plain key value es)
          ∙ map_get-put by_plain total q (plain key) value (plain_of es)

      -- so is one that was there and was set
      pub found-set : (q : P) (key : K) (value : V) (es : List (K × V)) → is_some (map_get cmp key es) ≡ true
          → found q (map_set cmp key value es) ≡ cond (eq_by_cmp by_plain q (plain key)) (Some value) (found q es)
      found-set q key value es there =
          ap (map_get by_plain q) (set_plain key value es)
          ∙ map_get-set by_plain total q (plain key) value (plain_of es) (ap is_some (sym (found-key key es)) ∙ there)

      -- a plain key that was taken out is not found, and every other as before
      pub found-removed : (q : P) (key : K) (es : List (K × V))
          → found q (map_remove cmp key es) ≡ cond (eq_by_cmp by_plain q (plain key)) None (found q es)
      found-removed q key es =
          ap (map_get by_plain q) (remove_plain key es)
          ∙ map_get-remove by_plain total q (plain key) (plain_of es)
          ∙ ap (λ b. cond b None (found q es)) (eq-flip by_plain total (plain key) q)

      -- a key behind lesser ones is not found among these
      none_behind : (first : K) (es : List (K × V)) → AllByRecursion (λ k. cmp first k ≡ Less) (keys_of es) → found (plain first) es ≡ None
      none_behind first [] below = refl
      none_behind first (e ∷ es) below =
          ap (λ o. cond (is_eq o) (Some e.1) (found (plain first) es)) (sym (alike first e.0) ∙ below.0) ∙ none_behind first es below.1

      module _ (same : IsAntisymmetric by_plain) (test : K → V → Bool) (plain_test : P → V → Bool) (agree : (k : K) (v : V) → test k v ≡ plain_test (plain k) v) where
        tied : (q : P) (k : K) → eq_by_cmp by_plain q (plain k) ≡ true → q ≡ plain k
        tied q k tie = same q (plain k) ((Equal-is (by_plain q (plain k))).0 tie)

        -- a plain key is found with its value where both pass, among the entries that pass
        pub found-retained : (q : P) (es : List (K × V)) → IsStrictlySortedBy cmp (keys_of es)
            → found q (retain_entries test es) ≡ option_filter (plain_test q) (found q es)
        unfolding IsStrictlySortedBy
        found-retained q [] sorted = refl
        found-retained q (e ∷ es) sorted =
            at (eq_by_cmp by_plain q (plain e.0)) refl (test e.0 e.1) refl (found-retained q es sorted.1)
          where
            rest : List (K × V)
            rest = retain_entries test es

            at : (c : Bool) → eq_by_cmp by_plain q (plain e.0) ≡ c → (b : Bool) → test e.0 e.1 ≡ b
                → found q rest ≡ option_filter (plain_test q) (found q es)
                → found q (cond b (e ∷ rest) rest) ≡ option_filter (plain_test q) (cond c (Some e.1) (found q es))
            at c tie true passes later = ap (λ t. cond t (Some e.1) (found q rest)) tie ∙ by c tie
              where
                by : (c : Bool) → eq_by_cmp by_plain q (plain e.0) ≡ c → cond c (Some e.1) (found q rest) ≡ option_filter (plain_test q) (cond c (Some e.1) (found q es))
                by true tie = ap (λ t. cond t (Some e.1) None) (sym passes ∙ agree e.0 e.1 ∙ ap (λ p. plain_test p e.1) (sym (tied q e.0 tie)))
                by false tie = later
            at true tie false fails later =
                later
                ∙ ap (option_filter (plain_test q)) (ap (λ p. found p es) (tied q e.0 tie) ∙ none_behind e.0 es sorted.0)
                ∙ ap (λ t. cond t (Some e.1) None) (sym fails ∙ agree e.0 e.1 ∙ ap (λ p. plain_test p e.1) (sym (tied q e.0 tie)))
            at false apart false fails later = later

        -- where all entries pass, so does each plain key with its value
        pub passes_at : (es : List (K × V)) → all_pass test es ≡ true → (q : P) (v : V) → found q es ≡ Some v → plain_test q v ≡ true
        passes_at [] all q v is = cc
        passes_at (e ∷ es) all q v is =
            let parts = and_parts (test e.0 e.1) _ all in
            at parts.0 (eq_by_cmp by_plain q (plain e.0)) refl is (passes_at es parts.1 q v)
          where
            at : test e.0 e.1 ≡ true → (c : Bool) → eq_by_cmp by_plain q (plain e.0) ≡ c → cond c (Some e.1) (found q es) ≡ Some v
                → (found q es ≡ Some v → plain_test q v ≡ true) → plain_test q v ≡ true
            at passes true tie here later =
                let value : e.1 ≡ v = cc here in
                (λ i. plain_test (tied q e.0 tie i) (sym value i)) ∙ sym (agree e.0 e.1) ∙ passes
            at passes false apart here later = later here

        -- and only there
        pub all_found : (es : List (K × V)) → IsStrictlySortedBy cmp (keys_of es) → ((q : P) (v : V) → found q es ≡ Some v → plain_test q v ≡ true) → all_pass test es ≡ true
        unfolding IsStrictlySortedBy
        all_found [] sorted each = refl
        all_found (e ∷ es) sorted each =
            let own : test e.0 e.1 ≡ true =
            agree e.0 e.1 ∙ each (plain e.0) e.1 (ap (λ c. cond c (Some e.1) (found (plain e.0) es)) ((eq_by_cmp_equiv total).refl (plain e.0))) in
            let behind = all_found es sorted.1 (λ q v is. each q v (later q v is (eq_by_cmp by_plain q (plain e.0)) refl)) in
            λ i. own i && behind i
          where
            later : (q : P) (v : V) → found q es ≡ Some v → (c : Bool) → eq_by_cmp by_plain q (plain e.0) ≡ c → cond (eq_by_cmp by_plain q (plain e.0)) (Some e.1) (found q es) ≡ Some v
            later q v is true tie = absurd (cc (sym is ∙ ap (λ p. found p es) (tied q e.0 tie) ∙ none_behind e.0 es sorted.0))
            later q v is false apart = ap (λ c. cond c (Some e.1) (found q es)) apart ∙ is
