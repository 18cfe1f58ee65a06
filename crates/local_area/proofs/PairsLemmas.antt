-- An area's pairs, changed at the first pair of a name, as a map of entries is.
use Rattle.std.proofs.Common.{◌≡◌, ℕ, ◌+◌, ◌-◌, ◌≤◌, Bool, true, false, not, cond, List, [], ◌∷◌, map, filter, length, Option, Some, None, refl, ap, ◌∙◌, sym, arith}
use Rattle.std.specs.Prelude.{bytes_eq, is_some, if◌then◌else◌}
use Rattle.std.specs.List.{AllByRecursion, IsDistinct}
use Rattle.std.proofs.lemmas.Map.Keys.{IsDistinct-head, IsDistinct-tail}
use Rattle.std.proofs.lemmas.Slice.Eq.{bytes_eq-Decides}
use Rattle.std.proofs.lemmas.List.Sums.{sum_by-cons}
use Rattle.local_area.specs.Put.{changed, answer_over}
use Rattle.local_area.specs.Area.{Pair, has_name, area_get, area_put, area_remove, area_weight, pair_weight, HasDistinctNames}

-- a function of a choice
pub choice : {A B : Type 0} (f : A → B) (b : Bool) (x y : A) → f (cond b x y) ≡ cond b (f x) (f y)
choice f true x y = refl
choice f false x y = refl

-- the pairs with the value at the first pair of the name, or at the end
abbrev pub put_first : List ℕ → List ℕ → List Pair → List Pair
put_first name value [] = record { name = name; value = value } ∷ []
put_first name value (p ∷ ps) =
    if has_name name p then record p { value = value } ∷ ps else p ∷ put_first name value ps

-- the pairs without the first pair of the name
abbrev pub remove_first : List ℕ → List Pair → List Pair
remove_first name [] = []
remove_first name (p ∷ ps) = if has_name name p then ps else p ∷ remove_first name ps

-- no pair has the name
abbrev pub IsAbsent : List ℕ → List Pair → Type 0
IsAbsent name ps = AllByRecursion (λ other. bytes_eq name other ≡ false) (map (λ pair. pair.name) ps)

-- a name that the first pair has is not among the others
absent_behind : (name : List ℕ) (p : Pair) (ps : List Pair) → has_name name p ≡ true
    → HasDistinctNames (p ∷ ps) → IsAbsent name ps
absent_behind name p ps is distinct =
    let same : name ≡ p.name = (bytes_eq-Decides name p.name).0 is in
    rw same (IsDistinct-head bytes_eq p.name (map (λ pair. pair.name) ps) distinct)

map_absent : (name value : List ℕ) (ps : List Pair) → IsAbsent name ps
    → map (λ pair. cond (has_name name pair) (record pair { value = value }) pair) ps ≡ ps
map_absent name value [] absent = refl
map_absent name value (p ∷ ps) absent = rw absent.0 (ap (λ rest. p ∷ rest) (map_absent name value ps absent.1))

filter_absent : (name : List ℕ) (ps : List Pair) → IsAbsent name ps
    → filter (λ pair. not (has_name name pair)) ps ≡ ps
filter_absent name [] absent = refl
filter_absent name (p ∷ ps) absent = rw absent.0 (ap (λ rest. p ∷ rest) (filter_absent name ps absent.1))

put_step : (name value : List ℕ) (p : Pair) (ps : List Pair) (b : Bool) → has_name name p ≡ b
    → HasDistinctNames (p ∷ ps) → put_first name value ps ≡ area_put name value ps
    → put_first name value (p ∷ ps) ≡ area_put name value (p ∷ ps)
put_step name value p ps true is distinct rest =
    let changed : Pair = record p { value = value } in
    rw is (ap (λ r. changed ∷ r) (sym (map_absent name value ps (absent_behind name p ps is distinct))))
put_step name value p ps false is distinct rest =
    rw is (ap (λ r. p ∷ r) rest ∙ choice (λ r. p ∷ r) (is_some (area_get name ps)) _ _)

pub put_first-is : (name value : List ℕ) (ps : List Pair) → HasDistinctNames ps
    → put_first name value ps ≡ area_put name value ps
put_first-is name value [] distinct = refl
put_first-is name value (p ∷ ps) distinct =
    put_step name value p ps (has_name name p) refl distinct
    (put_first-is name value ps (IsDistinct-tail bytes_eq p.name (map (λ pair. pair.name) ps) distinct))

remove_step : (name : List ℕ) (p : Pair) (ps : List Pair) (b : Bool) → has_name name p ≡ b
    → HasDistinctNames (p ∷ ps) → remove_first name ps ≡ area_remove name ps
    → remove_first name (p ∷ ps) ≡ area_remove name (p ∷ ps)
remove_step name p ps true is distinct rest =
    rw is (sym (filter_absent name ps (absent_behind name p ps is distinct)))
remove_step name p ps false is distinct rest = rw is (ap (λ r. p ∷ r) rest)

pub remove_first-is : (name : List ℕ) (ps : List Pair) → HasDistinctNames ps
    → remove_first name ps ≡ area_remove name ps
remove_first-is name [] distinct = refl
remove_first-is name (p ∷ ps) distinct =
    remove_step name p ps (has_name name p) refl distinct
    (remove_first-is name ps (IsDistinct-tail bytes_eq p.name (map (λ pair. pair.name) ps) distinct))

-- the bytes of a value that may be there
abbrev pub value_weight : Option (List ℕ) → ℕ
value_weight None = 0
value_weight (Some value) = length value

-- the bytes that a name adds where it is new
abbrev pub name_weight : List ℕ → Option (List ℕ) → ℕ
name_weight name None = length name
name_weight name (Some value) = 0

put_weight_step : (name value : List ℕ) (p : Pair) (ps : List Pair) (b : Bool) → has_name name p ≡ b
    → area_weight (put_first name value ps) + value_weight (area_get name ps)
    ≡ area_weight ps + (name_weight name (area_get name ps) + length value)
    → area_weight (put_first name value (p ∷ ps)) + value_weight (area_get name (p ∷ ps))
    ≡ area_weight (p ∷ ps) + (name_weight name (area_get name (p ∷ ps)) + length value)
put_weight_step name value p ps true is rest =
    let changed : Pair = record p { value = value } in
    rw is (omega (arith, sum_by-cons pair_weight p ps, sum_by-cons pair_weight changed ps))
put_weight_step name value p ps false is rest =
    rw is (omega (arith, rest, sum_by-cons pair_weight p ps, sum_by-cons pair_weight p (put_first name value ps)))

-- the weight after a put, and the value that went, are the weight before and what came
pub area_weight-put_first : (name value : List ℕ) (ps : List Pair)
    → area_weight (put_first name value ps) + value_weight (area_get name ps)
    ≡ area_weight ps + (name_weight name (area_get name ps) + length value)
area_weight-put_first name value [] = omega arith
area_weight-put_first name value (p ∷ ps) =
    put_weight_step name value p ps (has_name name p) refl (area_weight-put_first name value ps)

remove_weight_step : (name value : List ℕ) (p : Pair) (ps : List Pair) (b : Bool) → has_name name p ≡ b
    → (area_get name ps ≡ Some value → area_weight (remove_first name ps) + (length name + length value) ≡ area_weight ps)
    → area_get name (p ∷ ps) ≡ Some value
    → area_weight (remove_first name (p ∷ ps)) + (length name + length value) ≡ area_weight (p ∷ ps)
remove_weight_step name value p ps true is rest =
    let same : name ≡ p.name = (bytes_eq-Decides name p.name).0 is in
    rw is (λ found. let there : p.value ≡ value = cc found in
    omega (arith, sum_by-cons pair_weight p ps, ap length same, ap length there))
remove_weight_step name value p ps false is rest =
    rw is (λ found. omega (arith, rest found, sum_by-cons pair_weight p ps, sum_by-cons pair_weight p (remove_first name ps)))

-- a name with its value is the weight that a removal takes
pub area_weight-remove_first : (name value : List ℕ) (ps : List Pair) → area_get name ps ≡ Some value
    → area_weight (remove_first name ps) + (length name + length value) ≡ area_weight ps
area_weight-remove_first name value [] found = absurd (cc found)
area_weight-remove_first name value (p ∷ ps) found =
    remove_weight_step name value p ps (has_name name p) refl (area_weight-remove_first name value ps) found

-- a put of the value that is there
same_step : (name value : List ℕ) (p : Pair) (ps : List Pair) (b : Bool) → has_name name p ≡ b
    → (area_get name ps ≡ Some value → put_first name value ps ≡ ps)
    → area_get name (p ∷ ps) ≡ Some value → put_first name value (p ∷ ps) ≡ p ∷ ps
same_step name value p ps true is rest =
    rw is (λ found. let there : p.value ≡ value = cc found in rw (← there) refl)
same_step name value p ps false is rest = rw is (λ found. ap (λ r. p ∷ r) (rest found))

pub put_first-same : (name value : List ℕ) (ps : List Pair) → area_get name ps ≡ Some value
    → put_first name value ps ≡ ps
put_first-same name value [] found = absurd (cc found)
put_first-same name value (p ∷ ps) found =
    same_step name value p ps (has_name name p) refl (put_first-same name value ps) found

-- the weight after a put over a value
pub area_weight-put_over : (name value before : List ℕ) (ps : List Pair) → HasDistinctNames ps
    → area_get name ps ≡ Some before
    → (length before ≤ area_weight ps) × (area_weight ps - length before + length value ≡ area_weight (area_put name value ps))
area_weight-put_over name value before ps distinct found =
    let stored : area_weight (put_first name value ps) ≡ area_weight (area_put name value ps) =
    ap area_weight (put_first-is name value ps distinct) in
    let balance : area_weight (put_first name value ps) + length before ≡ area_weight ps + (0 + length value) =
    rw found at (area_weight-put_first name value ps) in
    let emptied : area_weight (put_first name [] ps) + length before ≡ area_weight ps + (0 + 0) =
    rw found at (area_weight-put_first name [] ps) in
    (omega (arith, emptied), omega (arith, balance, stored))

-- the weight after a put of a new name
pub area_weight-put_new : (name value : List ℕ) (ps : List Pair) → HasDistinctNames ps
    → area_get name ps ≡ None
    → area_weight ps + length name + length value ≡ area_weight (area_put name value ps)
area_weight-put_new name value ps distinct missing =
    let stored : area_weight (put_first name value ps) ≡ area_weight (area_put name value ps) =
    ap area_weight (put_first-is name value ps distinct) in
    let balance : area_weight (put_first name value ps) + 0 ≡ area_weight ps + (length name + length value) =
    rw missing at (area_weight-put_first name value ps) in
    omega (arith, balance, stored)

-- a put of the value that is there changes nothing
pub area_put-same : (name value : List ℕ) (ps : List Pair) → HasDistinctNames ps
    → area_get name ps ≡ Some value → area_put name value ps ≡ ps
area_put-same name value ps distinct found =
    sym (put_first-is name value ps distinct) ∙ put_first-same name value ps found

other_choice : (value before : List ℕ) (b : Bool) → bytes_eq before value ≡ b → (before ≡ value → ⊥)
    → answer_over value (Some before) ≡ changed before
other_choice value before true is differs = absurd (differs ((bytes_eq-Decides before value).0 is))
other_choice value before false is differs = rw is refl

-- the answer over another value
pub answer_over-other : (value before : List ℕ) → (before ≡ value → ⊥)
    → answer_over value (Some before) ≡ changed before
answer_over-other value before differs = other_choice value before (bytes_eq before value) refl differs

-- a name with its value is the weight that a removal takes from distinct names
pub area_weight-remove : (name value : List ℕ) (ps : List Pair) → HasDistinctNames ps → area_get name ps ≡ Some value
    → area_weight (area_remove name ps) + (length name + length value) ≡ area_weight ps
area_weight-remove name value ps distinct found =
    omega (arith, area_weight-remove_first name value ps found, ap area_weight (remove_first-is name ps distinct))

pub distinct-none : (ps : List Pair) → ps ≡ [] → HasDistinctNames ps
unfolding IsDistinct
distinct-none ps none = rw none tt

remove_absent_step : (name : List ℕ) (p : Pair) (ps : List Pair) (b : Bool) → has_name name p ≡ b
    → (area_get name ps ≡ None → remove_first name ps ≡ ps)
    → area_get name (p ∷ ps) ≡ None → remove_first name (p ∷ ps) ≡ p ∷ ps
remove_absent_step name p ps true is rest = rw is (λ none. absurd (cc none))
remove_absent_step name p ps false is rest = rw is (λ none. ap (λ r. p ∷ r) (rest none))

remove_first-absent : (name : List ℕ) (ps : List Pair) → area_get name ps ≡ None → remove_first name ps ≡ ps
remove_first-absent name [] none = refl
remove_first-absent name (p ∷ ps) none =
    remove_absent_step name p ps (has_name name p) refl (remove_first-absent name ps) none

-- a removal of a name that is not there changes nothing
pub area_remove-absent : (name : List ℕ) (ps : List Pair) → HasDistinctNames ps → area_get name ps ≡ None
    → area_remove name ps ≡ ps
area_remove-absent name ps distinct none =
    sym (remove_first-is name ps distinct) ∙ remove_first-absent name ps none
