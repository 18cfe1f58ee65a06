-- What the law asks of the container of cells.
use Rattle.std.proofs.Common.{◌≡◌, Bool, true, false, cond, not, List, [], ◌∷◌, ◌++◌, Option, Some}
use Rattle.std.proofs.Common.{None, refl, sym, ap, ◌∙◌}
use Rattle.std.specs.declared.cmp.Ordering.{Ordering}
use Rattle.std.specs.Cmp.{IsTotalOrder}
use Rattle.std.specs.Option.{option_or}
use Rattle.std.specs.Ordering.{eq_by_cmp}
use Rattle.std.specs.FinMap.{FinMap, IsAntisymmetric, get, retain_keys, entries, find, get-insert}
use Rattle.std.specs.FinMap.{get-remove, get-retain_keys, get-from_entries, get-entries, same_map}
use Rattle.unwinding.specs.FiniteCells.{Full, list_of, get_cell, set_cell, restrict_cells}
use Rattle.unwinding.specs.FiniteCells.{merge_cells}

head_same : {A : Type 0} (f g : Option (Full A)) → list_of f ≡ list_of g → f ≡ g
head_same None None e = refl
head_same None (Some g) e = cc
head_same (Some f) None e = cc
head_same (Some f) (Some g) e =
    let a : f.first ≡ g.first = cc in
    let b : f.rest ≡ g.rest = cc in
    λ i. Some (record { first = a i; rest = b i })

list_cond : {A : Type 0} (b : Bool) (x y : Option (Full A)) → list_of (cond b x y) ≡ cond b (list_of x) (list_of y)
list_cond true x y = refl
list_cond false x y = refl

or_nothing : {A : Type 0} (b : Bool) (x y : Option A) → option_or (cond b x None) (cond (not b) y None) ≡ cond b x y
or_nothing true None y = refl
or_nothing true (Some x) y = refl
or_nothing false x y = refl

-- two lists of entries, one behind the other, find what the first finds, or else what the second does
pub find_two : {K X : Type 0} (R : K → K → Ordering) (es fs : List (K × X)) (c : K) → find R c (es ++ fs) ≡ option_or (find R c es) (find R c fs)
find_two R [] fs c = refl
find_two R (e ∷ es) fs c = at (eq_by_cmp R c e.0) (find_two R es fs c)
  where
    at : (b : Bool) → find R c (es ++ fs) ≡ option_or (find R c es) (find R c fs) → cond b (Some e.1) (find R c (es ++ fs)) ≡ option_or (cond b (Some e.1) (find R c es)) (find R c fs)
    at true h = refl
    at false h = h

-- a test on keys keeps the values whose key passes it
pub get_kept : {K X : Type 0} (R : K → K → Ordering) (same : IsAntisymmetric R) (test : K → Bool) (m : FinMap R X) (c : K) → get (retain_keys m test) c ≡ cond (test c) (get m c) None
get_kept R same test m c = get-retain_keys m test c (λ x tie. ap test (sym (same c x tie)))

module _ {K A : Type 0} (R : K → K → Ordering) (o : IsTotalOrder R) (same : IsAntisymmetric R) where
  pub get_set : (c d : K) (xs : List A) (m : FinMap R (Full A)) → get_cell R (set_cell R d xs m) c ≡ cond (eq_by_cmp R c d) xs (get_cell R m c)
  unfolding get_cell set_cell
  get_set c d [] m = ap list_of (get-remove o m d c) ∙ list_cond (eq_by_cmp R c d) None (get m c)
  get_set c d (x ∷ xs) m = ap list_of (get-insert o m d (record { first = x; rest = xs }) c) ∙ list_cond (eq_by_cmp R c d) (Some (record { first = x; rest = xs })) (get m c)

  pub get_restrict : (test : K → Bool) (m : FinMap R (Full A)) (c : K) → get_cell R (restrict_cells R test m) c ≡ cond (test c) (get_cell R m c) []
  unfolding get_cell restrict_cells
  get_restrict test m c = ap list_of (get_kept R same test m c) ∙ list_cond (test c) (get m c) None

  pub get_merge : (test : K → Bool) (new old : FinMap R (Full A)) (c : K) → get_cell R (merge_cells R test new old) c ≡ cond (test c) (get_cell R new c) (get_cell R old c)
  unfolding get_cell merge_cells
  get_merge test new old c =
      ap list_of
      (get-from_entries o (entries (retain_keys new test) ++ entries (retain_keys old (λ d. not (test d)))) c
      ∙ find_two R (entries (retain_keys new test)) (entries (retain_keys old (λ d. not (test d)))) c
      ∙ rw (← get-entries (retain_keys new test) c, ← get-entries (retain_keys old (λ d. not (test d))) c, get_kept R same test new c, get_kept R same (λ d. not (test d)) old c) (or_nothing (test c) (get new c) (get old c)))
      ∙ list_cond (test c) (get new c) (get old c)

  pub same_cells : (x y : FinMap R (Full A)) → ((c : K) → get_cell R x c ≡ get_cell R y c) → x ≡ y
  unfolding get_cell
  same_cells x y h = same_map o same x y (λ c. head_same (get x c) (get y c) (h c))
