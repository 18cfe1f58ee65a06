-- What the session areas of tabs hold by plain keys.
use Rattle.std.proofs.Common.{◌≡◌, ℕ, ◌==◌, Bool, true, false, cond, not, List, [], ◌∷◌, Option, Some, None, refl, sym, ap, ◌∙◌}
use Rattle.std.specs.Prelude.{unwrap_or}
use Rattle.std.specs.declared.cmp.Ordering.{Ordering}
use Rattle.std.specs.declared.cmp.Ordering.TheVariants.{Less, Equal, Greater}
use Rattle.std.specs.Cmp.{unsigned_tied}
use Rattle.std.specs.Ordering.{nat_cmp, is_eq, eq_by_cmp, ordering_then}
use Rattle.std.specs.FinMap as finite
use Rattle.std.specs.FinMap.{get-empty, get-retain_keys}
use Rattle.unwinding.specs.FiniteCells.{get_cell, set_cell, list_of}
use Rattle.unwinding.proofs.FiniteCellsLemmas as cells
use Rattle.storage_key.specs.Key.{PlainKey, key_order}
use Rattle.storage_key.specs.Plain.{plain_key}
use Rattle.storage_key.specs.declared.key.StorageKey.{StorageKey}
use Rattle.local_area.specs.Area.{Pair}
use Rattle.key_map.specs.Entries.{map_get}
use Rattle.session_area.specs.Sessions.{areas_of}
use Rattle.agent_model.specs.Partition.{SessionAreas, session_order}
use Rattle.agent_model.proofs.HoldingsLemmas.{session_order_total, session_order_same}
use Rattle.web_storage.specs.Stored.{sessions_in, with_areas, without_areas}
use Rattle.web_storage.proofs.ShedLemmas.{found}

-- the pairs of an area that may not be there
abbrev pub pairs_or : Option (List Pair) → List Pair
pairs_or area = unwrap_or area []

tie_parts : (a b : Ordering) {X : Type 0} (x y : X) → cond (is_eq (ordering_then a b)) x y ≡ cond (is_eq a) (cond (is_eq b) x y) y
tie_parts Less b x y = refl
tie_parts Equal b x y = refl
tie_parts Greater b x y = refl

-- one area was set, and another tab or key is looked at
pub set_found : (tab : ℕ) (key : PlainKey) (n : ℕ) (q : PlainKey) (pairs : List Pair) (sessions : SessionAreas)
    → get_cell session_order (set_cell session_order (tab, key) pairs sessions) (n, q)
    ≡ cond (is_eq (nat_cmp n tab)) (cond (eq_by_cmp key_order q key) pairs
    (get_cell session_order sessions (n, q))) (get_cell session_order sessions (n, q))
set_found tab key n q pairs sessions =
    cells.get_set session_order session_order_total session_order_same (n, q) (tab, key) pairs sessions
    ∙ tie_parts (nat_cmp n tab) (key_order q key) pairs (get_cell session_order sessions (n, q))

-- the area of a tab, where its areas stand before others
with_found : (tab : ℕ) (areas : List (StorageKey × List Pair)) (n : ℕ) (q : PlainKey) (sessions : SessionAreas)
    → get_cell session_order (with_areas tab areas sessions) (n, q)
    ≡ cond (is_eq (nat_cmp n tab)) (unwrap_or (found q areas) (get_cell session_order sessions (n, q)))
    (get_cell session_order sessions (n, q))
with_found tab [] n q sessions = same (is_eq (nat_cmp n tab))
  where
    same : (b : Bool) → get_cell session_order sessions (n, q)
        ≡ cond b (get_cell session_order sessions (n, q)) (get_cell session_order sessions (n, q))
    same true = refl
    same false = refl
with_found tab (e ∷ es) n q sessions =
    set_found tab (plain_key e.0) n q e.1 (with_areas tab es sessions)
    ∙ at (is_eq (nat_cmp n tab)) (eq_by_cmp key_order q (plain_key e.0)) (with_found tab es n q sessions)
  where
    at : (b c : Bool)
        → get_cell session_order (with_areas tab es sessions) (n, q)
        ≡ cond b (unwrap_or (found q es) (get_cell session_order sessions (n, q))) (get_cell session_order sessions (n, q))
        → cond b (cond c e.1 (get_cell session_order (with_areas tab es sessions) (n, q)))
        (get_cell session_order (with_areas tab es sessions) (n, q))
        ≡ cond b (unwrap_or (cond c (Some e.1) (found q es)) (get_cell session_order sessions (n, q)))
        (get_cell session_order sessions (n, q))
    at true true later = refl
    at true false later = later
    at false c later = later

-- no area is left of a tab that is taken out
pub without_found : (tab n : ℕ) (q : PlainKey) (sessions : SessionAreas)
    → get_cell session_order (without_areas tab sessions) (n, q) ≡ cond (n == tab) [] (get_cell session_order sessions (n, q))
unfolding get_cell
without_found tab n q sessions =
    ap list_of (get-retain_keys sessions (λ key. not (key.0 == tab)) (n, q)
    (λ x tie. ap (λ k. not (k.0 == tab)) (sym (session_order_same (n, q) x tie))))
    ∙ at (n == tab)
  where
    at : (b : Bool) → list_of (cond (not b) (finite.get sessions (n, q)) None) ≡ cond b [] (list_of (finite.get sessions (n, q)))
    at true = refl
    at false = refl

-- the session area of a tab and a plain key
pub session_at : (n : ℕ) (q : PlainKey) (tabs : List (ℕ × List (StorageKey × List Pair)))
    → get_cell session_order (sessions_in tabs) (n, q) ≡ pairs_or (found q (areas_of n tabs))
unfolding get_cell
session_at n q [] = ap list_of (get-empty session_order (n, q))
session_at n q (t ∷ ts) =
    with_found t.0 t.1 n q (without_areas t.0 (sessions_in ts))
    ∙ ap (λ r. cond (is_eq (nat_cmp n t.0)) (unwrap_or (found q t.1) r) r) (without_found t.0 n q (sessions_in ts))
    ∙ at (is_eq (nat_cmp n t.0)) (n == t.0) (sym (unsigned_tied n t.0)) (session_at n q ts)
  where
    at : (b c : Bool) → c ≡ b → get_cell session_order (sessions_in ts) (n, q) ≡ pairs_or (found q (areas_of n ts))
        → cond b (unwrap_or (found q t.1) (cond c [] (get_cell session_order (sessions_in ts) (n, q))))
        (cond c [] (get_cell session_order (sessions_in ts) (n, q)))
        ≡ pairs_or (found q (unwrap_or (cond b (Some t.1) (map_get nat_cmp n ts)) []))
    at true true is later = refl
    at true false is later = cc
    at false true is later = cc
    at false false is later = later
