-- The cells that have cookies are the keys of the maps of cells.
use Rattle.std.proofs.Common.{◌≡◌, true, false, cond, not, List, [], ◌∷◌, map, length, Option, Some, None, refl, sym, ap, subst, ◌∙◌, arith}
use Rattle.std.specs.Prelude.{◌&&◌, ◌||◌, filter, is_some, nat_lt}
use Rattle.std.specs.List.{AllByRecursion, list_any}
use Rattle.std.specs.List.Sorted.{IsStrictlySortedBy}
use Rattle.std.specs.Map.{keys_of}
use Rattle.std.specs.Cmp.{IsTotalOrder, on_total}
use Rattle.std.proofs.lemmas.Bool.{lt-ltb}
use Rattle.std.specs.Ordering.{eq_by_cmp, is_eq}
use Rattle.std.specs.declared.cmp.Ordering.{Ordering}
use Rattle.std.specs.declared.cmp.Ordering.TheVariants.{Less}
use Rattle.std.specs.FinMap as finite
use Rattle.std.specs.FinMap.{FinMap, IsAntisymmetric, contains_key-keys, entries, entries-insert, len-empty, len-entries}
use Rattle.std.specs.FinMap.Entries.{by_order, put}
use Rattle.unwinding.specs.FiniteCells.{Full, set_cell}
use Rattle.key_map.specs.Entries.{entries_from, next_key}
use Rattle.key_map.proofs.FiniteKeys.{from_first}
use Rattle.partition_limits.specs.declared.tally.CellKind.{CellKind}
use Rattle.partition_limits.specs.declared.tally.CellKind.TheVariants as kind
use Rattle.cookie_jar.specs.declared.key.CellKey.{CellKey}
use Rattle.cookie_jar.specs.Cookie.{PlainCookie, PlainJar}
use Rattle.cookie_jar.specs.Key.{PlainKey, OwnCell, PartitionCell, plain_key}
use Rattle.agent_model.specs.CookieCells.{Cookies, Domain, domain_order, no_cookies}
use Rattle.agent_model.specs.PartitionedCells.{PartitionedKey, no_partitioned_cells, partitioned_order}
use Rattle.agent_model.proofs.CookieCellsLemmas.{domain_order_total, domain_order_same}
use Rattle.agent_model.proofs.KeptLemmas as kept
use Rattle.agent_model.proofs.PartitionedLemmas.{partitioned_order_total, partitioned_order_same}
use Rattle.web_cookies.specs.Cells.{cell_key, cell_order, is_partition}
use Rattle.web_cookies.specs.Listed.{cells_in, is_listed}
use Rattle.web_cookies.specs.Stored.{Entries, partitioned_in, shared_in, with_partitioned, with_shared}
use Rattle.web_cookies.proofs.OrderOfCells.{alike, cell_order_total, order}

-- ---- a cell that stands before all others of a map

some_there : {A : Type 0} (x : A) (xs : List A) → nat_lt 0 (length (x ∷ xs)) ≡ true
some_there x xs = lt-ltb 0 (length (x ∷ xs)) (omega arith)

-- one key more, where the cell is not empty
abbrev more_key : {K A : Type 0} → K → List A → List K → List K
more_key k [] ks = ks
more_key k (x ∷ xs) ks = k ∷ ks

not_some : {X : Type 0} (x : Option X) → is_some x ≡ false → x ≡ None
not_some None is = refl
not_some (Some v) is = cc

module _ {K : Type 0} (R : K → K → Ordering) where
  put_first : {X : Type 0} (k : K) (v : X) (es : List (K × X)) → AllByRecursion (λ q. R k q ≡ Less) (map (λ e. e.0) es) → put R k v es ≡ (k, v) ∷ es
  put_first k v [] below = refl
  put_first k v (e ∷ es) below = ap (λ r. by_order r ((k, v) ∷ e ∷ es) ((e.0, v) ∷ es) (e ∷ put R k v es)) below.0

  none_in : (k : K) (ks : List K) → AllByRecursion (λ q. R k q ≡ Less) ks → list_any (eq_by_cmp R k) ks ≡ false
  none_in k [] below = refl
  none_in k (q ∷ ks) below = ap (λ r. is_eq r || list_any (eq_by_cmp R k) ks) below.0 ∙ none_in k ks below.1

  keys_more : (o : IsTotalOrder R) (same : IsAntisymmetric R) {A : Type 0} (m : FinMap R (Full A)) (k : K) (xs : List A) → AllByRecursion (λ q. R k q ≡ Less) (finite.keys m)
      → finite.keys (set_cell R k xs m) ≡ more_key k xs (finite.keys m)
  unfolding set_cell
  keys_more o same m k [] below =
      ap finite.keys (kept.remove_absent R o same m k (not_some (finite.get m k) (contains_key-keys m k ∙ none_in k (finite.keys m) below)))
  keys_more o same m k (x ∷ xs) below =
      ap (map (λ e. e.0)) (entries-insert o m k (record { first = x; rest = xs }) ∙ put_first k (record { first = x; rest = xs }) (entries m) below)

-- ---- the keys that are listed

abbrev own_more : PlainKey → Cookies → List Domain → List Domain
own_more (OwnCell domain) cookies ds = more_key domain cookies ds
own_more (PartitionCell top bit domain) cookies ds = ds

-- the domains of unpartitioned cells that have cookies
abbrev own_listed : Entries → List Domain
own_listed [] = []
own_listed (e ∷ es) = own_more (plain_key e.0) e.1.cookies (own_listed es)

abbrev partitioned_more : PlainKey → Cookies → List PartitionedKey → List PartitionedKey
partitioned_more (OwnCell domain) cookies ks = ks
partitioned_more (PartitionCell top bit domain) cookies ks = more_key (record { top = top; bit = bit; domain = domain }) cookies ks

-- the keys of partitioned cells that have cookies
abbrev partitioned_listed : Entries → List PartitionedKey
partitioned_listed [] = []
partitioned_listed (e ∷ es) = partitioned_more (plain_key e.0) e.1.cookies (partitioned_listed es)

-- each key of these stands behind one
abbrev AreAfter : PlainKey → Entries → Type 0
AreAfter k es = AllByRecursion (λ other. cell_order k (plain_key other) ≡ Less) (keys_of es)

own_after : (d : Domain) (es : Entries) → AreAfter (OwnCell d) es → AllByRecursion (λ q. domain_order d q ≡ Less) (own_listed es)
own_after d [] after = tt
own_after d (e ∷ es) after = at (plain_key e.0) e.1.cookies after.0 (own_after d es after.1)
  where
    at : (k : PlainKey) (cs : Cookies) → cell_order (OwnCell d) k ≡ Less → AllByRecursion (λ q. domain_order d q ≡ Less) (own_listed es)
        → AllByRecursion (λ q. domain_order d q ≡ Less) (own_more k cs (own_listed es))
    at (OwnCell c) [] is later = later
    at (OwnCell c) (x ∷ xs) is later = (is, later)
    at (PartitionCell top bit c) cs is later = later

partitioned_after : (p : PartitionedKey) (es : Entries) → AreAfter (cell_key p) es → AllByRecursion (λ q. partitioned_order p q ≡ Less) (partitioned_listed es)
partitioned_after p [] after = tt
partitioned_after p (e ∷ es) after = at (plain_key e.0) e.1.cookies after.0 (partitioned_after p es after.1)
  where
    at : (k : PlainKey) (cs : Cookies) → cell_order (cell_key p) k ≡ Less → AllByRecursion (λ q. partitioned_order p q ≡ Less) (partitioned_listed es)
        → AllByRecursion (λ q. partitioned_order p q ≡ Less) (partitioned_more k cs (partitioned_listed es))
    at (OwnCell c) cs is later = later
    at (PartitionCell top bit c) [] is later = later
    at (PartitionCell top bit c) (x ∷ xs) is later = (is, later)

-- entries whose plain keys rise
abbrev Rise : Entries → Type 0
Rise [] = Unit {0}
Rise (e ∷ es) = AreAfter (plain_key e.0) es × Rise es

rise_of : (es : Entries) → IsStrictlySortedBy order (keys_of es) → Rise es
unfolding IsStrictlySortedBy
rise_of [] sorted = tt
rise_of (e ∷ es) sorted = (behind es sorted.0, rise_of es sorted.1)
  where
    behind : (fs : Entries) → AllByRecursion (λ other. order e.0 other ≡ Less) (keys_of fs) → AreAfter (plain_key e.0) fs
    behind [] all = tt
    behind (f ∷ fs) all = (sym (alike e.0 f.0) ∙ all.0, behind fs all.1)

no_items : {K X : Type 0} (es : List (K × X)) → length es ≡ 0 → map (λ e. e.0) es ≡ []
no_items [] is = refl
no_items (e ∷ es) is = cc

none_shared : finite.keys no_cookies ≡ []
unfolding no_cookies
none_shared = no_items (entries no_cookies) (sym (len-entries no_cookies) ∙ len-empty domain_order (Full PlainCookie))

none_partitioned : finite.keys no_partitioned_cells ≡ []
unfolding no_partitioned_cells
none_partitioned = no_items (entries no_partitioned_cells) (sym (len-entries no_partitioned_cells) ∙ len-empty partitioned_order (Full PlainCookie))

own_keys : (es : Entries) → Rise es → finite.keys (shared_in es) ≡ own_listed es
own_keys [] rise = none_shared
own_keys (e ∷ es) rise = at (plain_key e.0) e.1.cookies rise.0 (own_keys es rise.1)
  where
    at : (k : PlainKey) (cs : Cookies) → AreAfter k es → finite.keys (shared_in es) ≡ own_listed es
        → finite.keys (with_shared k cs (shared_in es)) ≡ own_more k cs (own_listed es)
    at (OwnCell d) cs after later =
        keys_more domain_order domain_order_total domain_order_same (shared_in es) d cs
        (subst (λ ks. AllByRecursion (λ q. domain_order d q ≡ Less) ks) (sym later) (own_after d es after))
        ∙ ap (more_key d cs) later
    at (PartitionCell top bit d) cs after later = later

partitioned_keys : (es : Entries) → Rise es → finite.keys (partitioned_in es) ≡ partitioned_listed es
partitioned_keys [] rise = none_partitioned
partitioned_keys (e ∷ es) rise = at (plain_key e.0) e.1.cookies rise.0 (partitioned_keys es rise.1)
  where
    at : (k : PlainKey) (cs : Cookies) → AreAfter k es → finite.keys (partitioned_in es) ≡ partitioned_listed es
        → finite.keys (with_partitioned k cs (partitioned_in es)) ≡ partitioned_more k cs (partitioned_listed es)
    at (OwnCell d) cs after later = later
    at (PartitionCell top bit d) cs after later =
        let p : PartitionedKey = record { top = top; bit = bit; domain = d } in
        keys_more partitioned_order partitioned_order_total partitioned_order_same (partitioned_in es) p cs
        (subst (λ ks. AllByRecursion (λ q. partitioned_order p q ≡ Less) ks) (sym later) (partitioned_after p es after))
        ∙ ap (more_key p cs) later

-- ---- what a walk lists

listed_own : (es : Entries) → map plain_key (keys_of (filter (is_listed kind.Own) es)) ≡ map (λ domain. OwnCell domain) (own_listed es)
listed_own [] = refl
listed_own (e ∷ es) = at (plain_key e.0) refl e.1.cookies (listed_own es)
  where
    rest : List (CellKey × PlainJar)
    rest = filter (is_listed kind.Own) es

    at : (k : PlainKey) → plain_key e.0 ≡ k → (cs : Cookies) → map plain_key (keys_of rest) ≡ map (λ domain. OwnCell domain) (own_listed es)
        → map plain_key (keys_of (cond (not (is_partition k) && nat_lt 0 (length cs)) (e ∷ rest) rest))
        ≡ map (λ domain. OwnCell domain) (own_more k cs (own_listed es))
    at (OwnCell d) is [] later = later
    at (OwnCell d) is (x ∷ xs) later =
        ap (λ b. map plain_key (keys_of (cond b (e ∷ rest) rest))) (some_there x xs) ∙ (λ i. is i ∷ later i)
    at (PartitionCell top bit d) is cs later = later

listed_partitioned : (es : Entries) → map plain_key (keys_of (filter (is_listed kind.Partition) es)) ≡ map cell_key (partitioned_listed es)
listed_partitioned [] = refl
listed_partitioned (e ∷ es) = at (plain_key e.0) refl e.1.cookies (listed_partitioned es)
  where
    rest : List (CellKey × PlainJar)
    rest = filter (is_listed kind.Partition) es

    at : (k : PlainKey) → plain_key e.0 ≡ k → (cs : Cookies) → map plain_key (keys_of rest) ≡ map cell_key (partitioned_listed es)
        → map plain_key (keys_of (cond (is_partition k && nat_lt 0 (length cs)) (e ∷ rest) rest))
        ≡ map cell_key (partitioned_more k cs (partitioned_listed es))
    at (OwnCell d) is cs later = later
    at (PartitionCell top bit d) is [] later = later
    at (PartitionCell top bit d) is (x ∷ xs) later =
        ap (λ b. map plain_key (keys_of (cond b (e ∷ rest) rest))) (some_there x xs) ∙ (λ i. is i ∷ later i)

-- a walk over all cells lists those that have cookies
pub listed_all : (kind : CellKind) (es : Entries) → IsStrictlySortedBy order (keys_of es) → map plain_key (keys_of (filter (is_listed kind) es)) ≡ cells_in kind es
listed_all kind.Own es sorted = listed_own es ∙ ap (map (λ domain. OwnCell domain)) (sym (own_keys es (rise_of es sorted)))
listed_all kind.Partition es sorted = listed_partitioned es ∙ ap (map cell_key) (sym (partitioned_keys es (rise_of es sorted)))

-- ---- a walk from the first key on

order_total : IsTotalOrder order
order_total =
    let same : order ≡ (λ a b. cell_order (plain_key a) (plain_key b)) = λ i a b. alike a b i in
    subst IsTotalOrder (sym same) (on_total plain_key cell_order_total)

pub walked_all : (kind : CellKind) (es all : Entries) (first : CellKey) → IsStrictlySortedBy order (keys_of es) → Some first ≡ next_key order None es
    → all ≡ entries_from order first es → map plain_key (keys_of (filter (is_listed kind) all)) ≡ cells_in kind es
walked_all kind es all first sorted found from =
    ap (λ l. map plain_key (keys_of (filter (is_listed kind) l))) (from ∙ from_first order order_total first es sorted found) ∙ listed_all kind es sorted

pub none_listed : (kind : CellKind) (es : Entries) → IsStrictlySortedBy order (keys_of es) → None ≡ next_key order None es → [] ≡ cells_in kind es
none_listed kind [] sorted none = listed_all kind [] sorted
none_listed kind (e ∷ es) sorted none = absurd (cc none)
