-- What is kept of a state, and what of it is listed.
use Rattle.std.proofs.Common.{◌≡◌, ℕ, ◌+◌, Bool, true, false, cond, ◌||◌, List, [], ◌∷◌, ◌++◌, map, length, Option, Some, None, T, refl, sym, ap, subst, ◌∙◌}
use Rattle.std.specs.Prelude.{filter, fold, is_some}
use Rattle.std.specs.Cmp.{IsTotalOrder, IsStrictWeakOrder, eq_by_cmp_equiv}
use Rattle.std.specs.List.{AllByRecursion, flat_map, list_any}
use Rattle.std.specs.Ordering.{eq_by_cmp, is_eq, is_lt}
use Rattle.std.specs.declared.cmp.Ordering.{Ordering}
use Rattle.std.specs.declared.cmp.Ordering.TheVariants.{Less, Equal, Greater}
use Rattle.std.specs.FinMap as finite
use Rattle.std.specs.FinMap.{FinMap, IsAntisymmetric, contains_key-keys, entries, entries_sorted, entries-insert, find, get-empty, get-entries, is_sorted, len-empty, len-entries}
use Rattle.std.specs.FinMap.Entries.{below_all, by_order, put}
use Rattle.std.proofs.lemmas.Bool.{true≢false}
use Rattle.std.proofs.lemmas.Grind.{flat_map-append}
use Rattle.std.proofs.lemmas.List.{map-append}
use Rattle.std.proofs.lemmas.List.Folds.{flat_map-map}
use Rattle.std.proofs.lemmas.List.Sorted.{ranks_by}
use Rattle.unwinding.specs.FiniteCells.{Full, get_cell, list_of, set_cell}
use Rattle.unwinding.proofs.FiniteCellsLemmas.{get_set, same_cells}
use Rattle.cookie_jar.specs.Cookie.{PlainCookie}
use Rattle.cookie_jar.specs.Key.{PlainKey as PlainCell, OwnCell, PartitionCell}
use Rattle.cookie_jar.specs.Lifetime.{is_persistent}
use Rattle.cookie_jar.specs.Persistent.{persistent_part, kept_cookie}
use Rattle.row_changes.specs.Change.{CookieInsert, PlainChange}
use Rattle.agent_model.specs.CookieCells.{CookieCells, Cookies, Domain, domain_order, no_cookies}
use Rattle.agent_model.specs.PartitionedCells.{PartitionedCells, PartitionedKey, no_partitioned_cells, partitioned_order}
use Rattle.agent_model.proofs.CookieCellsLemmas.{domain_order_total, domain_order_same}
use Rattle.agent_model.proofs.KeptLemmas as absent
use Rattle.agent_model.proofs.PartitionedLemmas.{partitioned_order_total, partitioned_order_same}
use Rattle.durable_model.specs.Keeping.{kept_cells, kept_entries}
use Rattle.durable_model.specs.Saved.{IsValid, Saved, cookies_at}
use Rattle.durable_model.proofs.CellsLemmas.{get_kept, kept_all}
use Rattle.durable_model.proofs.KeptCellLemmas.{kept_same}
use Rattle.row_store.specs.Kept.{kept_change, kept_of, kept_own_cells, kept_own_entries}
use Rattle.row_store.specs.Listing.{cell_rows, cell_text_order, cells_by_text, cookie_rows, in_cell_order, stored_cells}
use Rattle.row_store.proofs.CellTextLemmas.{text_order_total}
use Rattle.row_store.proofs.TimesLemmas.{lt_parts}

-- whether there is a cookie
abbrev pub has_some : Cookies → Bool
has_some [] = false
has_some (c ∷ cs) = true

none_there : (cs : Cookies) → has_some cs ≡ false → cs ≡ []
none_there [] is = refl
none_there (c ∷ cs) is = cc

-- ---- lists that are filtered

kept_head : {X : Type 0} (p : X → Bool) (x : X) (xs : List X) → p x ≡ true → filter p (x ∷ xs) ≡ x ∷ filter p xs
kept_head p x xs is = ap (λ b. cond b (x ∷ filter p xs) (filter p xs)) is

left_out : {X : Type 0} (p : X → Bool) (x : X) (xs : List X) → p x ≡ false → filter p (x ∷ xs) ≡ filter p xs
left_out p x xs is = ap (λ b. cond b (x ∷ filter p xs) (filter p xs)) is

all_filtered : {X : Type 0} (P : X → Type 0) (p : X → Bool) (xs : List X) → AllByRecursion P xs → AllByRecursion P (filter p xs)
all_filtered P p [] all = tt
all_filtered P p (x ∷ xs) all = at (p x) (all_filtered P p xs all.1)
  where
    at : (b : Bool) → AllByRecursion P (filter p xs) → AllByRecursion P (cond b (x ∷ filter p xs) (filter p xs))
    at true later = (all.0, later)
    at false later = later

-- what gives nothing may be left out
flat_filtered : {X Y : Type 0} (f : X → List Y) (p : X → Bool) → ((x : X) → p x ≡ false → f x ≡ [])
    → (xs : List X) → flat_map f (filter p xs) ≡ flat_map f xs
flat_filtered f p none [] = refl
flat_filtered f p none (x ∷ xs) = at (p x) refl (flat_filtered f p none xs)
  where
    at : (b : Bool) → p x ≡ b → flat_map f (filter p xs) ≡ flat_map f xs
        → flat_map f (cond b (x ∷ filter p xs) (filter p xs)) ≡ f x ++ flat_map f xs
    at true is later = ap (λ l. f x ++ l) later
    at false is later = later ∙ ap (λ l. l ++ flat_map f xs) (sym (none x is))

pub map_flat : {X Y Z : Type 0} (g : Y → Z) (f : X → List Y) (xs : List X)
    → flat_map (λ x. map g (f x)) xs ≡ map g (flat_map f xs)
map_flat g f [] = refl
map_flat g f (x ∷ xs) = ap (λ l. map g (f x) ++ l) (map_flat g f xs) ∙ sym (map-append g (f x) (flat_map f xs))

-- ---- cells that are made of what is kept of others

no_items : {K X : Type 0} (es : List (K × X)) → length es ≡ 0 → map (λ e. e.0) es ≡ []
no_items [] is = refl
no_items (e ∷ es) is = cc

not_some : {X : Type 0} (x : Option X) → is_some x ≡ false → x ≡ None
not_some None is = refl
not_some (Some v) is = cc

is_less : (r : Ordering) → is_lt r ≡ true → r ≡ Less
is_less Less is = refl
is_less Equal is = cc
is_less Greater is = cc

-- one key more, where the cell is not empty
abbrev more_key : {K : Type 0} → K → Cookies → List K → List K
more_key k [] ks = ks
more_key k (x ∷ xs) ks = k ∷ ks

module _ {K : Type 0} (R : K → K → Ordering) (o : IsTotalOrder R) (same : IsAntisymmetric R) where
  abbrev Cells : Type 0
  Cells = FinMap R (Full PlainCookie)

  put_first : {X : Type 0} (k : K) (v : X) (es : List (K × X))
      → AllByRecursion (λ q. R k q ≡ Less) (map (λ e. e.0) es) → put R k v es ≡ (k, v) ∷ es
  put_first k v [] below = refl
  put_first k v (e ∷ es) below = ap (λ r. by_order r ((k, v) ∷ e ∷ es) ((e.0, v) ∷ es) (e ∷ put R k v es)) below.0

  none_in : (k : K) (ks : List K) → AllByRecursion (λ q. R k q ≡ Less) ks → list_any (eq_by_cmp R k) ks ≡ false
  none_in k [] below = refl
  none_in k (q ∷ ks) below = ap (λ r. is_eq r || list_any (eq_by_cmp R k) ks) below.0 ∙ none_in k ks below.1

  keys_more : (m : Cells) (k : K) (xs : Cookies) → AllByRecursion (λ q. R k q ≡ Less) (finite.keys m)
      → finite.keys (set_cell R k xs m) ≡ more_key k xs (finite.keys m)
  unfolding set_cell
  keys_more m k [] below =
      ap finite.keys (absent.remove_absent R o same m k
      (not_some (finite.get m k) (contains_key-keys m k ∙ none_in k (finite.keys m) below)))
  keys_more m k (x ∷ xs) below =
      ap (map (λ e. e.0)) (entries-insert o m k (record { first = x; rest = xs })
      ∙ put_first k (record { first = x; rest = xs }) (entries m) below)

  abbrev no_cells : Cells
  no_cells = finite.empty

  no_keys : finite.keys no_cells ≡ []
  no_keys = no_items (entries no_cells) (sym (len-entries no_cells) ∙ len-empty R (Full PlainCookie))

  -- a key below all is below each
  below_each : {X : Type 0} (q : K) (es : List (K × X)) → T (below_all R q es)
      → AllByRecursion (λ k. R q k ≡ Less) (map (λ e. e.0) es)
  below_each q [] below = tt
  below_each q (e ∷ es) below =
      let parts = lt_parts (is_lt (R q e.0)) (below_all R q es) below in
      (is_less (R q e.0) parts.0, below_each q es parts.1)

  -- something is kept at a key of these entries
  abbrev keeps : List (K × Full PlainCookie) → K → Bool
  keeps es k = has_some (persistent_part (list_of (find R k es)))

  -- an entry says nothing of greater keys
  keeps_alike : (e : K × Full PlainCookie) (es : List (K × Full PlainCookie)) (ks : List K)
      → AllByRecursion (λ k. R e.0 k ≡ Less) ks
      → filter (keeps (e ∷ es)) ks ≡ filter (keeps es) ks
  keeps_alike e es [] below = refl
  keeps_alike e es (k ∷ ks) below =
      let apart : eq_by_cmp R k e.0 ≡ false = (eq_by_cmp_equiv o).symm k e.0 ∙ ap is_eq below.0 in
      let one : keeps (e ∷ es) k ≡ keeps es k = ap (λ b. has_some (persistent_part (list_of (cond b (Some e.1) (find R k es))))) apart in
      let later : filter (keeps (e ∷ es)) ks ≡ filter (keeps es) ks = keeps_alike e es ks below.1 in
      λ i. cond (one i) (k ∷ later i) (later i)

  module _ (made : List (K × Full PlainCookie) → Cells) (none : made [] ≡ finite.empty)
      (more : (e : K × Full PlainCookie) (es : List (K × Full PlainCookie))
      → made (e ∷ es) ≡ set_cell R e.0 (persistent_part (e.1.first ∷ e.1.rest)) (made es)) where
    get_first : (q : K) → get_cell R (made []) q ≡ []
    unfolding get_cell
    get_first q = ap (λ m. list_of (finite.get m q)) none ∙ ap list_of (get-empty R q)

    made_found : (es : List (K × Full PlainCookie)) (q : K) → get_cell R (made es) q ≡ persistent_part (list_of (find R q es))
    made_found [] q = get_first q
    made_found (e ∷ es) q =
        ap (λ m. get_cell R m q) (more e es)
        ∙ get_set R o same q e.0 (persistent_part (e.1.first ∷ e.1.rest)) (made es)
        ∙ at (eq_by_cmp R q e.0) (made_found es q)
      where
        at : (b : Bool) → get_cell R (made es) q ≡ persistent_part (list_of (find R q es))
            → cond b (persistent_part (e.1.first ∷ e.1.rest)) (get_cell R (made es) q) ≡ persistent_part (list_of (cond b (Some e.1) (find R q es)))
        at true later = refl
        at false later = later

    -- a cell has what is kept of it
    pub get_made : (m : Cells) (q : K) → get_cell R (made (entries m)) q ≡ persistent_part (get_cell R m q)
    unfolding get_cell
    get_made m q = made_found (entries m) q ∙ ap (λ found. persistent_part (list_of found)) (sym (get-entries m q))

    made_keys : (es : List (K × Full PlainCookie)) → T (is_sorted R es)
        → finite.keys (made es) ≡ filter (keeps es) (map (λ e. e.0) es)
    made_keys [] sorted = ap finite.keys none ∙ no_keys
    made_keys (e ∷ es) sorted = at (made_keys es (lt_parts (below_all R e.0 es) (is_sorted R es) sorted).1)
      where
        ks : List K
        ks = map (λ f. f.0) es

        these : Cookies
        these = persistent_part (e.1.first ∷ e.1.rest)

        below : AllByRecursion (λ q. R e.0 q ≡ Less) ks
        below = below_each e.0 es (subst T (sym (lt_parts (below_all R e.0 es) (is_sorted R es) sorted).0) tt)

        own : keeps (e ∷ es) e.0 ≡ has_some these
        own = ap (λ b. has_some (persistent_part (list_of (cond b (Some e.1) (find R e.0 es))))) ((eq_by_cmp_equiv o).refl e.0)

        first : (cs : Cookies) → these ≡ cs → more_key e.0 cs (filter (keeps (e ∷ es)) ks) ≡ filter (keeps (e ∷ es)) (e.0 ∷ ks)
        first [] is = sym (left_out (keeps (e ∷ es)) e.0 ks (own ∙ ap has_some is))
        first (x ∷ xs) is = sym (kept_head (keeps (e ∷ es)) e.0 ks (own ∙ ap has_some is))

        at : finite.keys (made es) ≡ filter (keeps es) ks → finite.keys (made (e ∷ es)) ≡ filter (keeps (e ∷ es)) (e.0 ∷ ks)
        at later =
            ap finite.keys (more e es)
            ∙ keys_more (made es) e.0 these (subst (λ l. AllByRecursion (λ q. R e.0 q ≡ Less) l) (sym later)
            (all_filtered (λ q. R e.0 q ≡ Less) (keeps es) ks below))
            ∙ ap (more_key e.0 these) (later ∙ sym (keeps_alike e es ks below))
            ∙ first these refl

    -- the keys of cells of which something is kept, in their order
    pub keys_made : (m : Cells) → finite.keys (made (entries m)) ≡ filter (λ k. has_some (persistent_part (get_cell R m k))) (finite.keys m)
    unfolding get_cell
    keys_made m =
        made_keys (entries m) (entries_sorted m)
        ∙ (λ i. filter (λ k. has_some (persistent_part (list_of (sym (get-entries m k) i)))) (finite.keys m))

-- ---- cells of both kinds

none_own : kept_own_entries [] ≡ finite.empty
unfolding no_cookies
none_own = refl

none_parted : kept_entries [] ≡ finite.empty
unfolding no_partitioned_cells
none_parted = refl

pub get_kept_own : (m : CookieCells) (domain : Domain)
    → get_cell domain_order (kept_own_cells m) domain ≡ persistent_part (get_cell domain_order m domain)
get_kept_own m domain = get_made domain_order domain_order_total domain_order_same kept_own_entries none_own
    (λ e es. refl) m domain

-- what is kept of a cell
pub cookies_kept : (cell : PlainCell) (d : Saved) → cookies_at cell (kept_of d) ≡ persistent_part (cookies_at cell d)
cookies_kept (OwnCell domain) d = get_kept_own d.cells domain
cookies_kept (PartitionCell top bit domain) d = get_kept d.under.cookies (record { top = top; bit = bit; domain = domain })

own_keys : (m : CookieCells) → finite.keys (kept_own_cells m)
    ≡ filter (λ domain. has_some (persistent_part (get_cell domain_order m domain))) (finite.keys m)
own_keys m = keys_made domain_order domain_order_total domain_order_same kept_own_entries none_own (λ e es. refl) m

parted_keys : (m : PartitionedCells) → finite.keys (kept_cells m)
    ≡ filter (λ key. has_some (persistent_part (get_cell partitioned_order m key))) (finite.keys m)
parted_keys m = keys_made partitioned_order partitioned_order_total partitioned_order_same kept_entries
    none_parted (λ e es. refl) m

-- all is kept of a state whose cells are kept ones
pub valid_kept : (d : Saved) → IsValid d → kept_of d ≡ d
valid_kept d valid = λ i. record {
  under = record (d.under) { cookies = parted i };
  cells = own i;
}
  where
    own : kept_own_cells d.cells ≡ d.cells
    own = same_cells domain_order domain_order_total domain_order_same _ _ (λ domain.
        get_kept_own d.cells domain ∙ kept_same (get_cell domain_order d.cells domain) (valid (OwnCell domain)).0)

    parted : kept_cells d.under.cookies ≡ d.under.cookies
    parted = kept_all d.under.cookies (λ key. kept_same (get_cell partitioned_order d.under.cookies key)
        (valid (PartitionCell key.top key.bit key.domain)).0)

-- ---- cells by their texts, without some of them

abbrev comes_before : PartitionedKey → PartitionedKey → Bool
comes_before a b = is_lt (cell_text_order a b)

text_order : IsStrictWeakOrder comes_before
text_order = ranks_by text_order_total (λ cell. cell)

-- none of these stands before a cell
abbrev AreBehind : PartitionedKey → List PartitionedKey → Type 0
AreBehind cell others = AllByRecursion (λ other. comes_before other cell ≡ false) others

-- none stands before one that is ahead of it
abbrev Rise : List PartitionedKey → Type 0
Rise [] = Unit {0}
Rise (cell ∷ cells) = AreBehind cell cells × Rise cells

far_behind : (x y : PartitionedKey) (us : List PartitionedKey) → comes_before y x ≡ false → AreBehind y us → AreBehind x us
far_behind x y [] first later = tt
far_behind x y (u ∷ us) first later = (text_order.chain u y x later.0 first, far_behind x y us first later.1)

behind_more : (y x : PartitionedKey) (us : List PartitionedKey) → comes_before x y ≡ false → AreBehind y us
    → AreBehind y (in_cell_order us x)
behind_more y x [] is all = (is, tt)
behind_more y x (u ∷ us) is all = at (comes_before x u) (behind_more y x us is all.1)
  where
    at : (b : Bool) → AreBehind y (in_cell_order us x) → AreBehind y (cond b (x ∷ u ∷ us) (u ∷ in_cell_order us x))
    at true later = (is, all)
    at false later = (all.0, later)

rise_more : (ys : List PartitionedKey) (x : PartitionedKey) → Rise ys → Rise (in_cell_order ys x)
rise_more [] x up = (tt, tt)
rise_more (y ∷ ys) x up = at (comes_before x y) refl (rise_more ys x up.1)
  where
    at : (b : Bool) → comes_before x y ≡ b → Rise (in_cell_order ys x) → Rise (cond b (x ∷ y ∷ ys) (y ∷ in_cell_order ys x))
    at true is later = let back = text_order.one_way x y is in ((back, far_behind x y ys back up.0), up)
    at false is later = (behind_more y x ys is up.0, later)

-- a cell that stands before another stands before those behind that one
before_each : (x y : PartitionedKey) (us : List PartitionedKey) → comes_before x y ≡ true → AreBehind y us
    → AllByRecursion (λ u. comes_before x u ≡ true) us
before_each x y [] less behind = tt
before_each x y (u ∷ us) less behind = (at (comes_before x u) refl, before_each x y us less behind.1)
  where
    at : (b : Bool) → comes_before x u ≡ b → comes_before x u ≡ true
    at true is = is
    at false is = absurd (true≢false (sym less ∙ text_order.chain x u y is behind.0))

put_ahead : (x : PartitionedKey) (us : List PartitionedKey) → AllByRecursion (λ u. comes_before x u ≡ true) us
    → in_cell_order us x ≡ x ∷ us
put_ahead x [] all = refl
put_ahead x (u ∷ us) all = ap (λ b. cond b (x ∷ u ∷ us) (u ∷ in_cell_order us x)) all.0

module _ (p : PartitionedKey → Bool) where
  one_kept : (ys : List PartitionedKey) (x : PartitionedKey) → Rise ys → p x ≡ true
      → filter p (in_cell_order ys x) ≡ in_cell_order (filter p ys) x
  one_kept [] x up is = kept_head p x [] is
  one_kept (y ∷ ys) x up is = at (comes_before x y) refl (one_kept ys x up.1 is)
    where
      behind : filter p (in_cell_order ys x) ≡ in_cell_order (filter p ys) x → comes_before x y ≡ false
          → (b : Bool) → p y ≡ b → filter p (y ∷ in_cell_order ys x) ≡ in_cell_order (filter p (y ∷ ys)) x
      behind later less true here =
          kept_head p y (in_cell_order ys x) here ∙ ap (λ l. y ∷ l) later
          ∙ sym (ap (λ b. cond b (x ∷ y ∷ filter p ys) (y ∷ in_cell_order (filter p ys) x)) less)
          ∙ ap (λ l. in_cell_order l x) (sym (kept_head p y ys here))
      behind later less false here = left_out p y (in_cell_order ys x) here ∙ later
          ∙ ap (λ l. in_cell_order l x) (sym (left_out p y ys here))

      at : (b : Bool) → comes_before x y ≡ b → filter p (in_cell_order ys x) ≡ in_cell_order (filter p ys) x
          → filter p (cond b (x ∷ y ∷ ys) (y ∷ in_cell_order ys x)) ≡ in_cell_order (filter p (y ∷ ys)) x
      at true less later =
          kept_head p x (y ∷ ys) is
          ∙ sym (put_ahead x (filter p (y ∷ ys)) (all_filtered (λ u. comes_before x u ≡ true) p (y ∷ ys)
          (less, before_each x y ys less up.0)))
      at false less later = behind later less (p y) refl

  one_left_out : (ys : List PartitionedKey) (x : PartitionedKey) → p x ≡ false → filter p (in_cell_order ys x) ≡ filter p ys
  one_left_out [] x is = left_out p x [] is
  one_left_out (y ∷ ys) x is = at (comes_before x y) (one_left_out ys x is)
    where
      at : (b : Bool) → filter p (in_cell_order ys x) ≡ filter p ys
          → filter p (cond b (x ∷ y ∷ ys) (y ∷ in_cell_order ys x)) ≡ filter p (y ∷ ys)
      at true later = left_out p x (y ∷ ys) is
      at false later = λ i. cond (p y) (y ∷ later i) (later i)

  all_kept : (done xs : List PartitionedKey) → Rise done
      → fold in_cell_order (filter p done) (filter p xs) ≡ filter p (fold in_cell_order done xs)
  all_kept done [] up = refl
  all_kept done (x ∷ xs) up = at (p x) refl (all_kept (in_cell_order done x) xs (rise_more done x up))
    where
      at : (b : Bool) → p x ≡ b → fold in_cell_order (filter p (in_cell_order done x)) (filter p xs)
          ≡ filter p (fold in_cell_order (in_cell_order done x) xs)
          → fold in_cell_order (filter p done) (cond b (x ∷ filter p xs) (filter p xs))
          ≡ filter p (fold in_cell_order (in_cell_order done x) xs)
      at true is later = ap (λ l. fold in_cell_order l (filter p xs)) (sym (one_kept done x up is)) ∙ later
      at false is later = ap (λ l. fold in_cell_order l (filter p xs)) (sym (one_left_out done x is)) ∙ later

  -- some cells by their texts are some of the cells by their texts
  pub some_by_text : (cells : List PartitionedKey) → cells_by_text (filter p cells) ≡ filter p (cells_by_text cells)
  some_by_text cells = all_kept [] cells tt

-- ---- what is listed

rows_kept : (cell : PlainCell) (place : ℕ) (cs : Cookies)
    → cookie_rows cell place (map kept_cookie cs) ≡ map kept_change (cookie_rows cell place cs)
rows_kept cell place [] = refl
rows_kept cell place (c ∷ cs) = ap (λ l. CookieInsert cell place (kept_cookie c) ∷ l) (rows_kept cell (place + 1) cs)

abbrev own : Domain → PlainCell
own domain = OwnCell domain

abbrev parted : PartitionedKey → PlainCell
parted key = PartitionCell key.top key.bit key.domain

module _ (d : Saved) where
  abbrev persistent_rows : PlainCell → List PlainChange
  persistent_rows cell = cookie_rows cell 0 (filter (λ c. is_persistent c) (cookies_at cell d))

  cell_kept : (cell : PlainCell) → cell_rows (kept_of d) cell ≡ map kept_change (persistent_rows cell)
  cell_kept cell = ap (cookie_rows cell 0) (cookies_kept cell d) ∙ rows_kept cell 0 (filter is_persistent (cookies_at cell d))

  -- a cell of which nothing is kept has no row change
  none_kept : (cell : PlainCell) → has_some (persistent_part (cookies_at cell d)) ≡ false → cell_rows (kept_of d) cell ≡ []
  none_kept cell none = ap (cookie_rows cell 0) (cookies_kept cell d ∙ none_there (persistent_part (cookies_at cell d)) none)

  abbrev own_has : Domain → Bool
  own_has domain = has_some (persistent_part (get_cell domain_order d.cells domain))

  abbrev parted_has : PartitionedKey → Bool
  parted_has key = has_some (persistent_part (get_cell partitioned_order d.under.cookies key))

  -- the row changes of cells, of which those that keep nothing may be left out
  pub cells_kept : flat_map (cell_rows (kept_of d)) (stored_cells (kept_of d))
      ≡ map kept_change (flat_map persistent_rows (stored_cells d))
  cells_kept =
      flat_map-append f (map own (finite.keys (kept_own_cells d.cells)))
      (map parted (cells_by_text (finite.keys (kept_cells d.under.cookies))))
      ∙ (λ i. here i ++ there i)
      ∙ sym (flat_map-append f (map own (finite.keys d.cells)) (map parted (cells_by_text (finite.keys d.under.cookies))))
      ∙ (λ i. flat_map (λ cell. cell_kept cell i) (stored_cells d))
      ∙ map_flat kept_change persistent_rows (stored_cells d)
    where
      f : PlainCell → List PlainChange
      f = cell_rows (kept_of d)

      here : flat_map f (map own (finite.keys (kept_own_cells d.cells))) ≡ flat_map f (map own (finite.keys d.cells))
      here =
          flat_map-map f own (finite.keys (kept_own_cells d.cells))
          ∙ ap (flat_map (λ domain. f (own domain))) (own_keys d.cells)
          ∙ flat_filtered (λ domain. f (own domain)) own_has (λ domain none. none_kept (own domain) none) (finite.keys d.cells)
          ∙ sym (flat_map-map f own (finite.keys d.cells))

      there : flat_map f (map parted (cells_by_text (finite.keys (kept_cells d.under.cookies))))
          ≡ flat_map f (map parted (cells_by_text (finite.keys d.under.cookies)))
      there =
          flat_map-map f parted (cells_by_text (finite.keys (kept_cells d.under.cookies)))
          ∙ ap (flat_map (λ key. f (parted key))) (ap cells_by_text (parted_keys d.under.cookies)
          ∙ some_by_text parted_has (finite.keys d.under.cookies))
          ∙ flat_filtered (λ key. f (parted key)) parted_has (λ key none. none_kept (parted key) none)
          (cells_by_text (finite.keys d.under.cookies))
          ∙ sym (flat_map-map f parted (cells_by_text (finite.keys d.under.cookies)))
