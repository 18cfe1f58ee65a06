-- What a write at a tab makes of the session areas.
use Rattle.std.proofs.Common.{◌≡◌, ℕ, ◌==◌, Bool, true, false, cond, List, [], ◌∷◌, length, Option, Some, None, refl, sym, ap, ◌∙◌, arith}
use Rattle.std.specs.Prelude.{is_some, option_map, unwrap_or}
use Rattle.std.proofs.lemmas.Bool.Decides.{nat_tests}
use Rattle.std.specs.declared.cmp.Ordering.{Ordering}
use Rattle.std.specs.Cmp.{unsigned_tied, IsTotalOrder}
use Rattle.std.specs.FinMap as finite
use Rattle.std.specs.FinMap.{IsAntisymmetric}
use Rattle.std.specs.Ordering.{nat_cmp, is_eq, eq_by_cmp}
use Rattle.unwinding.specs.FiniteCells.{Full, get_cell, set_cell}
use Rattle.unwinding.proofs.FiniteCellsLemmas as cells
use Rattle.storage_key.specs.Key.{PlainKey, key_order}
use Rattle.storage_key.specs.Plain.{plain_key}
use Rattle.storage_key.specs.declared.key.StorageKey.{StorageKey}
use Rattle.storage_key.proofs.OrderLemmas.{key_order_total}
use Rattle.local_area.specs.Area.{Pair}
use Rattle.key_map.specs.Entries.{map_get, map_put, map_remove, map_set}
use Rattle.key_map.proofs.PlainKeyLemmas.{found-put, found-set, found-removed, found-key}
use Rattle.session_area.specs.Sessions.{areas_of, session_area, made_area, has_empty, without_empty, ChangesTab, SameAreas, session_pairs}
use Rattle.agent_model.specs.Partition.{SessionAreas, session_order}
use Rattle.web_storage.specs.Stored.{sessions_in, without_areas}
use Rattle.web_storage.proofs.ShedLemmas.{found}
use Rattle.web_storage.proofs.WriteLemmas.{equal_tie, cond_same}
use Rattle.web_storage.proofs.SessionsLemmas.{pairs_or, session_at, set_found, without_found}
use Rattle.agent_model.proofs.HoldingsLemmas.{session_order_total, session_order_same}

-- the session areas of tabs, as a list
abbrev pub Tabs : Type 0
Tabs = List (ℕ × List (StorageKey × List Pair))

-- session areas that answer alike are equal
pub same_sessions : (x y : SessionAreas) → ((n : ℕ) (q : PlainKey)
    → get_cell session_order x (n, q) ≡ get_cell session_order y (n, q)) → x ≡ y
same_sessions x y same = cells.same_cells session_order session_order_total session_order_same x y (λ k. same k.0 k.1)

-- a cell that is set to what it has
pub cell_itself : {K : Type 0} (cmp : K → K → Ordering) → IsTotalOrder cmp → IsAntisymmetric cmp
    → (key : K) (m : finite.FinMap cmp (Full Pair))
    → set_cell cmp key (get_cell cmp m key) m ≡ m
cell_itself {K} cmp total same key m = cells.same_cells cmp total same _ _ each
  where
    at : (q : K) (b : Bool) → eq_by_cmp cmp q key ≡ b → cond b (get_cell cmp m key) (get_cell cmp m q) ≡ get_cell cmp m q
    at q true is = ap (get_cell cmp m) (sym (same q key (equal_tie (cmp q key) is)))
    at q false is = refl

    each : (q : K) → get_cell cmp (set_cell cmp key (get_cell cmp m key) m) q ≡ get_cell cmp m q
    each q = cells.get_set cmp total same q key (get_cell cmp m key) m ∙ at q (eq_by_cmp cmp q key) refl

-- a tab is another one, or not
tab_tie : (n tab : ℕ) → is_eq (nat_cmp n tab) ≡ (n == tab)
tab_tie n tab = unsigned_tied n tab

-- the areas of each tab after one tab's were changed
pub found_after : (tab : ℕ) (areas : List (StorageKey × List Pair)) (old new : Tabs) → ChangesTab tab areas old new
    → (n : ℕ) (b : Bool) → (n == tab) ≡ b → areas_of n new ≡ cond b areas (areas_of n old)
found_after tab areas old new changes n true is =
    let same : n ≡ tab = grind (arith, nat_tests) in ap (λ k. areas_of k new) same ∙ changes.here
found_after tab areas old new changes n false is =
    changes.elsewhere n (λ same. grind (arith, nat_tests, is, same))

pairs_cond : (b : Bool) (x : List Pair) (y : Option (List Pair)) → pairs_or (cond b (Some x) y) ≡ cond b x (pairs_or y)
pairs_cond true x y = refl
pairs_cond false x y = refl

-- tabs with the same areas
pub sessions_kept : (old new : Tabs) → SameAreas old new → sessions_in new ≡ sessions_in old
sessions_kept old new same = same_sessions _ _ (λ n q.
    session_at n q new ∙ ap (λ areas. pairs_or (found q areas)) (same n) ∙ sym (session_at n q old))

-- a tab without areas
pub sessions_closed : (tab : ℕ) (old new : Tabs) → ChangesTab tab [] old new
    → sessions_in new ≡ without_areas tab (sessions_in old)
sessions_closed tab old new changes = same_sessions _ _ each
  where
    at : (n : ℕ) (q : PlainKey) (b : Bool) → (n == tab) ≡ b
        → pairs_or (found q (areas_of n new)) ≡ cond b [] (pairs_or (found q (areas_of n old)))
    at n q true is = ap (λ areas. pairs_or (found q areas)) (found_after tab [] old new changes n true is)
    at n q false is = ap (λ areas. pairs_or (found q areas)) (found_after tab [] old new changes n false is)

    each : (n : ℕ) (q : PlainKey) → get_cell session_order (sessions_in new) (n, q)
        ≡ get_cell session_order (without_areas tab (sessions_in old)) (n, q)
    each n q =
        session_at n q new ∙ at n q (n == tab) refl
        ∙ ap (λ r. cond (n == tab) [] r) (sym (session_at n q old))
        ∙ sym (without_found tab n q (sessions_in old))

-- an area of a tab that was written
pub sessions_written : (tab : ℕ) (key : PlainKey) (pairs : List Pair) (areas : List (StorageKey × List Pair))
    (old new : Tabs) → ChangesTab tab areas old new
    → ((q : PlainKey) → pairs_or (found q areas) ≡ cond (eq_by_cmp key_order q key) pairs (pairs_or (found q (areas_of tab old))))
    → sessions_in new ≡ set_cell session_order (tab, key) pairs (sessions_in old)
sessions_written tab key pairs areas old new changes written = same_sessions _ _ each
  where
    at : (n : ℕ) (q : PlainKey) (b : Bool) → (n == tab) ≡ b
        → pairs_or (found q (areas_of n new))
        ≡ cond b (cond (eq_by_cmp key_order q key) pairs (pairs_or (found q (areas_of n old))))
        (pairs_or (found q (areas_of n old)))
    at n q true is =
        let same : n ≡ tab = grind (arith, nat_tests) in
        ap (λ areas. pairs_or (found q areas)) (found_after tab areas old new changes n true is)
        ∙ written q
        ∙ ap (λ k. cond (eq_by_cmp key_order q key) pairs (pairs_or (found q (areas_of k old)))) (sym same)
    at n q false is = ap (λ areas. pairs_or (found q areas)) (found_after tab areas old new changes n false is)

    each : (n : ℕ) (q : PlainKey) → get_cell session_order (sessions_in new) (n, q)
        ≡ get_cell session_order (set_cell session_order (tab, key) pairs (sessions_in old)) (n, q)
    each n q =
        session_at n q new ∙ at n q (n == tab) refl
        ∙ ap (λ b. cond b (cond (eq_by_cmp key_order q key) pairs (pairs_or (found q (areas_of n old))))
        (pairs_or (found q (areas_of n old)))) (sym (tab_tie n tab))
        ∙ ap (λ r. cond (is_eq (nat_cmp n tab)) (cond (eq_by_cmp key_order q key) pairs r) r) (sym (session_at n q old))
        ∙ sym (set_found tab key n q pairs (sessions_in old))

-- a tab whose areas have the pairs that they had
pub sessions_alike : (tab : ℕ) (areas : List (StorageKey × List Pair)) (old new : Tabs) → ChangesTab tab areas old new
    → ((q : PlainKey) → pairs_or (found q areas) ≡ pairs_or (found q (areas_of tab old))) → sessions_in new ≡ sessions_in old
sessions_alike tab areas old new changes same = same_sessions _ _ (λ n q.
    session_at n q new ∙ at n q (n == tab) refl ∙ sym (session_at n q old))
  where
    at : (n : ℕ) (q : PlainKey) (b : Bool) → (n == tab) ≡ b
        → pairs_or (found q (areas_of n new)) ≡ pairs_or (found q (areas_of n old))
    at n q true is =
        let tie : n ≡ tab = grind (arith, nat_tests) in
        ap (λ areas. pairs_or (found q areas)) (found_after tab areas old new changes n true is) ∙ same q
        ∙ ap (λ k. pairs_or (found q (areas_of k old))) (sym tie)
    at n q false is = ap (λ areas. pairs_or (found q areas)) (found_after tab areas old new changes n false is)

none_pairs : (b : Bool) (y : Option (List Pair)) → pairs_or (cond b None y) ≡ cond b [] (pairs_or y)
none_pairs true y = refl
none_pairs false y = refl

pub no_pairs : (o : Option (List Pair)) → is_some o ≡ false → pairs_or o ≡ []
no_pairs None is = refl
no_pairs (Some x) is = cc

empty_pairs : (o : Option (List Pair)) → unwrap_or (option_map (λ pairs. length pairs == 0) o) false ≡ true → pairs_or o ≡ []
empty_pairs None is = cc
empty_pairs (Some []) is = refl
empty_pairs (Some (x ∷ xs)) is = grind (arith, nat_tests)

module _ (cmp : StorageKey → StorageKey → Ordering)
    (alike : (a b : StorageKey) → cmp a b ≡ key_order (plain_key a) (plain_key b)) where
  -- the pairs that a tab has under a key are those of the plain key
  pub session_held : (tab : ℕ) (key : StorageKey) (tabs : Tabs)
      → session_pairs cmp tab key tabs ≡ get_cell session_order (sessions_in tabs) (tab, plain_key key)
  session_held tab key tabs = ap pairs_or (found-key plain_key key_order key_order_total cmp alike key (areas_of tab tabs))
      ∙ sym (session_at tab (plain_key key) tabs)

  -- an area that is there was written
  pub sessions_set : (tab : ℕ) (key : StorageKey) (pairs : List Pair) (old new : Tabs)
      → is_some (session_area cmp tab key old) ≡ true
      → ChangesTab tab (map_set cmp key pairs (areas_of tab old)) old new
      → sessions_in new ≡ set_cell session_order (tab, plain_key key) pairs (sessions_in old)
  sessions_set tab key pairs old new there changes =
      sessions_written tab (plain_key key) pairs _ old new changes (λ q.
      ap pairs_or (found-set plain_key key_order key_order_total cmp alike q key pairs (areas_of tab old) there)
      ∙ pairs_cond (eq_by_cmp key_order q (plain_key key)) pairs (found q (areas_of tab old)))

  -- where a key has no pairs, none are found in its place
  in_place : (q : PlainKey) (key : StorageKey) (areas : List (StorageKey × List Pair)) → pairs_or (map_get cmp key areas) ≡ []
      → cond (eq_by_cmp key_order q (plain_key key)) [] (pairs_or (found q areas)) ≡ pairs_or (found q areas)
  in_place q key areas none =
      ap (λ p. cond (eq_by_cmp key_order q (plain_key key)) p (pairs_or (found q areas)))
      (sym none ∙ ap pairs_or (found-key plain_key key_order key_order_total cmp alike key areas))
      ∙ cond_same (λ k. pairs_or (found k areas)) q (plain_key key) (eq_by_cmp key_order q (plain_key key)) refl

  -- room for an area
  pub made_alike : (key : StorageKey) (areas : List (StorageKey × List Pair)) (q : PlainKey)
      → pairs_or (found q (made_area cmp key areas)) ≡ pairs_or (found q areas)
  made_alike key areas q = at (is_some (map_get cmp key areas)) refl
    where
      at : (b : Bool) → is_some (map_get cmp key areas) ≡ b
          → pairs_or (found q (cond b areas (map_put cmp key [] areas))) ≡ pairs_or (found q areas)
      at true is = refl
      at false is =
          ap pairs_or (found-put plain_key key_order key_order_total cmp alike q key [] areas)
          ∙ pairs_cond (eq_by_cmp key_order q (plain_key key)) [] (found q areas)
          ∙ in_place q key areas (no_pairs (map_get cmp key areas) is)

  -- an empty area is dropped
  pub dropped_alike : (key : StorageKey) (areas : List (StorageKey × List Pair)) (q : PlainKey)
      → pairs_or (found q (without_empty cmp key areas)) ≡ pairs_or (found q areas)
  dropped_alike key areas q = at (has_empty cmp key areas) refl
    where
      at : (b : Bool) → has_empty cmp key areas ≡ b
          → pairs_or (found q (cond b (map_remove cmp key areas) areas)) ≡ pairs_or (found q areas)
      at true is =
          ap pairs_or (found-removed plain_key key_order key_order_total cmp alike q key areas)
          ∙ none_pairs (eq_by_cmp key_order q (plain_key key)) (found q areas)
          ∙ in_place q key areas (empty_pairs (map_get cmp key areas) is)
      at false is = refl

  -- an area is taken out
  pub sessions_removed : (tab : ℕ) (key : StorageKey) (old new : Tabs)
      → ChangesTab tab (map_remove cmp key (areas_of tab old)) old new
      → sessions_in new ≡ set_cell session_order (tab, plain_key key) [] (sessions_in old)
  sessions_removed tab key old new changes =
      sessions_written tab (plain_key key) [] _ old new changes (λ q.
      ap pairs_or (found-removed plain_key key_order key_order_total cmp alike q key (areas_of tab old))
      ∙ none_pairs (eq_by_cmp key_order q (plain_key key)) (found q (areas_of tab old)))

  -- a tab without an area at a key has no pairs there
  pub no_session : (tab : ℕ) (key : StorageKey) (tabs : Tabs) → is_some (session_area cmp tab key tabs) ≡ false
      → get_cell session_order (sessions_in tabs) (tab, plain_key key) ≡ []
  no_session tab key tabs is = sym (session_held tab key tabs) ∙ no_pairs (session_area cmp tab key tabs) is
