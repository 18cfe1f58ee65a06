-- Cells that are set, and what is kept of them.
use Rattle.std.proofs.Common.{◌≡◌, Bool, true, false, cond, List, [], ◌∷◌, Some, refl, sym, ap, ◌∙◌}
use Rattle.std.specs.declared.cmp.Ordering.{Ordering}
use Rattle.std.specs.Cmp.{IsTotalOrder, eq_by_cmp_equiv}
use Rattle.std.specs.Ordering.{eq_by_cmp}
use Rattle.std.specs.FinMap.{FinMap, IsAntisymmetric, entries, find, get-entries, get-empty}
use Rattle.unwinding.specs.FiniteCells.{Full, list_of, get_cell, set_cell}
use Rattle.unwinding.proofs.FiniteCellsLemmas.{get_set, same_cells}
use Rattle.stored_cookie.specs.StoredCookie.{PlainCookie}
use Rattle.cookie_jar.specs.Persistent.{persistent_part}
use Rattle.agent_model.specs.CookieCells.{Cookies}
use Rattle.agent_model.specs.PartitionedCells.{PartitionedCells, PartitionedKey, no_partitioned_cells, partitioned_order}
use Rattle.agent_model.proofs.KeptLemmas.{tied}
use Rattle.agent_model.proofs.PartitionedLemmas.{partitioned_order_total, partitioned_order_same}
use Rattle.durable_model.specs.Keeping.{kept_cells, kept_entries}

module _ {K A : Type 0} (R : K → K → Ordering) (o : IsTotalOrder R) (same : IsAntisymmetric R) where
  -- a cell that is set has what it was set to
  pub get_own : (c : K) (xs : List A) (m : FinMap R (Full A)) → get_cell R (set_cell R c xs m) c ≡ xs
  get_own c xs m = get_set R o same c c xs m ∙ ap (λ b. cond b xs (get_cell R m c)) ((eq_by_cmp_equiv o).refl c)

  -- a cell that is set to what it has
  pub set_own : (c : K) (m : FinMap R (Full A)) → set_cell R c (get_cell R m c) m ≡ m
  set_own c m = same_cells R o same _ _ (λ q. get_set R o same q c (get_cell R m c) m ∙ at q (eq_by_cmp R q c) refl)
    where
      at : (q : K) (b : Bool) → eq_by_cmp R q c ≡ b → cond b (get_cell R m c) (get_cell R m q) ≡ get_cell R m q
      at q true tie = ap (get_cell R m) (sym (tied R o same q c tie))
      at q false tie = refl

  -- the same, of what it is known to have
  pub set_known : (c : K) (xs : List A) (m : FinMap R (Full A)) → get_cell R m c ≡ xs → set_cell R c xs m ≡ m
  set_known c xs m is = ap (λ ys. set_cell R c ys m) (sym is) ∙ set_own c m

  -- a cell that is set twice
  pub set_twice : (c : K) (xs ys : List A) (m : FinMap R (Full A)) → set_cell R c ys (set_cell R c xs m) ≡ set_cell R c ys m
  set_twice c xs ys m =
      same_cells R o same _ _
      (λ q.
      get_set R o same q c ys (set_cell R c xs m) ∙ ap (cond (eq_by_cmp R q c) ys) (get_set R o same q c xs m)
      ∙ at (eq_by_cmp R q c) (get_cell R m q) ∙ sym (get_set R o same q c ys m))
    where
      at : (b : Bool) (zs : List A) → cond b ys (cond b xs zs) ≡ cond b ys zs
      at true zs = refl
      at false zs = refl

-- ---- what is kept

-- a cell of none
pub get_none : (key : PartitionedKey) → get_cell partitioned_order no_partitioned_cells key ≡ []
unfolding get_cell no_partitioned_cells
get_none key = ap list_of (get-empty partitioned_order key)

kept_found : (es : List (PartitionedKey × Full PlainCookie)) (key : PartitionedKey) → get_cell partitioned_order (kept_entries es) key ≡ persistent_part (list_of (find partitioned_order key es))
kept_found [] key = get_none key
kept_found (e ∷ es) key =
    get_set partitioned_order partitioned_order_total partitioned_order_same key e.0 (persistent_part (e.1.first ∷ e.1.rest)) (kept_entries es)
    ∙ at (eq_by_cmp partitioned_order key e.0) (kept_found es key)
  where
    at : (b : Bool) → get_cell partitioned_order (kept_entries es) key ≡ persistent_part (list_of (find partitioned_order key es))
        → cond b (persistent_part (e.1.first ∷ e.1.rest)) (get_cell partitioned_order (kept_entries es) key)
        ≡ persistent_part (list_of (cond b (Some e.1) (find partitioned_order key es)))
    at true later = refl
    at false later = later

-- what is kept of cells has what is kept of each
pub get_kept : (m : PartitionedCells) (key : PartitionedKey) → get_cell partitioned_order (kept_cells m) key ≡ persistent_part (get_cell partitioned_order m key)
unfolding get_cell
get_kept m key = kept_found (entries m) key ∙ ap (λ found. persistent_part (list_of found)) (sym (get-entries m key))

-- and of a cell that is set
pub kept_set : (key : PartitionedKey) (cookies : Cookies) (m : PartitionedCells) → kept_cells (set_cell partitioned_order key cookies m) ≡ set_cell partitioned_order key (persistent_part cookies) (kept_cells m)
kept_set key cookies m =
    same_cells partitioned_order partitioned_order_total partitioned_order_same _ _
    (λ q.
    get_kept (set_cell partitioned_order key cookies m) q
    ∙ ap persistent_part (get_set partitioned_order partitioned_order_total partitioned_order_same q key cookies m)
    ∙ at q (eq_by_cmp partitioned_order q key)
    ∙ sym (get_set partitioned_order partitioned_order_total partitioned_order_same q key (persistent_part cookies) (kept_cells m)))
  where
    at : (q : PartitionedKey) (b : Bool) → persistent_part (cond b cookies (get_cell partitioned_order m q)) ≡ cond b (persistent_part cookies) (get_cell partitioned_order (kept_cells m) q)
    at q true = refl
    at q false = sym (get_kept m q)

-- what cells keep that have kept cookies alone is all that they have
pub kept_all : (m : PartitionedCells) → ((key : PartitionedKey) → persistent_part (get_cell partitioned_order m key) ≡ get_cell partitioned_order m key) → kept_cells m ≡ m
kept_all m alike = same_cells partitioned_order partitioned_order_total partitioned_order_same _ _ (λ key. get_kept m key ∙ alike key)
