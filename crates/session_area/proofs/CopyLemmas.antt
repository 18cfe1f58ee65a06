-- Copies of areas, one key after another.
use Rattle.std.proofs.Common.{◌≡◌, Bool, true, false, cond, List, [], ◌∷◌, ◌++◌, Option, Some, None, refl, ap, ◌∙◌, sym}
use Rattle.std.specs.Prelude.{◌||◌}
use Rattle.std.proofs.Math.Bool.{or-false}
use Rattle.std.proofs.lemmas.List.Folds.{list_any-append}
use Rattle.std.specs.Cmp.{IsTotalOrder}
use Rattle.std.specs.Ordering.{is_eq}
use Rattle.std.specs.declared.cmp.Ordering.{Ordering}
use Rattle.local_area.specs.Area.{Pair}
use Rattle.key_map.specs.Entries.{map_get, map_put, is_among}
use Rattle.key_map.proofs.EntriesLemmas.{map_get-put, map_get-same, eq-flip}
use Rattle.session_area.specs.Sessions.{IsCopied}

module _ {K : Type 0} (cmp : K → K → Ordering) (order : IsTotalOrder cmp) where
  among-push : (keys : List K) (key q : K) → is_among cmp (keys ++ key ∷ []) q ≡ (is_among cmp keys q || is_eq (cmp key q))
  among-push keys key q =
      list_any-append (λ k. is_eq (cmp k q)) keys (key ∷ []) ∙ ap (λ b. is_among cmp keys q || b) (or-false (is_eq (cmp key q)))

  missing_step : (found : Option (List Pair)) (a b : Bool) → (b ≡ true → found ≡ None)
      → cond a found None ≡ cond (a || b) found None
  missing_step found true b none = refl
  missing_step found false true none = sym (none refl)
  missing_step found false false none = refl

  -- a key without an area adds none
  pub IsCopied-missing : (keys : List K) (key : K) (from to : List (K × List Pair)) → IsCopied cmp keys from to
      → map_get cmp key from ≡ None → IsCopied cmp (keys ++ key ∷ []) from to
  IsCopied-missing keys key from to copied missing = λ q.
      copied q
      ∙ missing_step (map_get cmp q from) (is_among cmp keys q) (is_eq (cmp key q))
      (λ same. sym (map_get-same cmp order key q from same) ∙ missing)
      ∙ ap (λ b. cond b (map_get cmp q from) None) (sym (among-push keys key q))

  found_step : (area : List Pair) (found : Option (List Pair)) (a b : Bool) → (b ≡ true → found ≡ Some area)
      → cond b (Some area) (cond a found None) ≡ cond (a || b) found None
  found_step area found true true is = sym (is refl)
  found_step area found false true is = sym (is refl)
  found_step area found true false is = refl
  found_step area found false false is = refl

  -- a key with an area adds its copy
  pub IsCopied-found : (keys : List K) (key : K) (area : List Pair) (from to : List (K × List Pair)) → IsCopied cmp keys from to
      → map_get cmp key from ≡ Some area
      → IsCopied cmp (keys ++ key ∷ []) from (map_put cmp key area to)
  IsCopied-found keys key area from to copied found =
      λ q.
      (map_get-put cmp order q key area to
      ∙ ap (λ b. cond b (Some area) (map_get cmp q to)) (eq-flip cmp order q key)
      ∙ ap (λ o. cond (is_eq (cmp key q)) (Some area) o) (copied q)
      ∙ found_step area (map_get cmp q from) (is_among cmp keys q) (is_eq (cmp key q))
      (λ equal. sym (map_get-same cmp order key q from equal) ∙ found)
      ∙ ap (λ b. cond b (map_get cmp q from) None) (sym (among-push keys key q)))

  -- no keys copy nothing
  pub IsCopied-nil : (from : List (K × List Pair)) → IsCopied cmp [] from []
  IsCopied-nil from = λ q. refl
