-- Row changes and restarts, worked out by hand from the rules, so that a wrong rule in the specs does
-- not check.
use Rattle.std.proofs.Common.{◌≡◌, ℕ, ℤ, pos, true, false, cond, not, List, [], ◌∷◌, Option, Some, None, refl, ap, ◌∙◌}
use Rattle.std.specs.Prelude.{codes, is_some, length, nat_le, nat_lt}
use Rattle.std.specs.Ordering.{nat_cmp}
use Rattle.std.specs.Cmp.{eq_by_cmp_equiv}
use Rattle.std.specs.FinMap.{get, get-empty, get-insert}
use Rattle.unwinding.specs.FiniteCells.{get_cell, list_of, set_cell}
use Rattle.unwinding.specs.Durable.{restarted}
use Rattle.origin_site.specs.Origin.{origin_of_address}
use Rattle.storage_key.specs.Key.{PlainKey, key_order}
use Rattle.storage_key.proofs.OrderLemmas.{key_order_total}
use Rattle.local_area.specs.Area.{area_get, area_put, area_weight, quota}
use Rattle.setcookie_parse.specs.declared.cookie.SameSite.TheVariants as when
use Rattle.stored_cookie.specs.StoredCookie.{PlainCookie}
use Rattle.cookie_jar.specs.Key.{OwnCell, PartitionCell}
use Rattle.cookie_jar.specs.Persistent.{RowInsert, RowReplace, RowRemove}
use Rattle.access_grants.specs.Grant.{PlainGrant}
use Rattle.row_changes.specs.Change.{AreaPut, AreaRemove, AreaClear, SetMode, CookieInsert, CookieReplace, CookieRemove, Grant}
use Rattle.agent_model.specs.Lines.{Rest, no_places, site_at}
use Rattle.agent_model.proofs.StandardFacts.{a, address, b, site}
use Rattle.durable_model.specs.Saved.{SiteRows, no_rows, pairs_at}
use Rattle.durable_model.specs.RowEdits.{edited, is_valid}
use Rattle.durable_model.specs.Keeping.{AgentDurable, cell_changed, keeping, rows_alone, rows_changed}
use Rattle.durable_model.proofs.CellRowLemmas.{own_alone}
use Rattle.durable_model.proofs.RowLemmas.{cell_elsewhere, row_done, row_elsewhere}

-- ---- one cell

-- a cookie of a name, a value and an expiry, which was never used
abbrev cookie : List ℕ → List ℕ → Option ℤ → PlainCookie
cookie name value expiry =
    record {
      name = name;
      value = value;
      domain = a;
      path = codes "/";
      host_only = true;
      secure = false;
      http_only = false;
      same_site = when.Default;
      creation = pos 7;
      expiry = expiry;
      last = pos 0;
    }

abbrev old : PlainCookie
old = cookie (codes "n") (codes "1") (Some (pos 100))

abbrev new : PlainCookie
new = cookie (codes "n") (codes "2") (Some (pos 200))

abbrev other : PlainCookie
other = cookie (codes "m") (codes "1") (Some (pos 100))

-- a cookie is inserted at a place of the cell
inserted : cell_changed a (CookieInsert (OwnCell a) 0 other) (old ∷ []) ≡ other ∷ old ∷ []
inserted = own_alone a (RowInsert 0 other) (old ∷ [])

last : cell_changed a (CookieInsert (OwnCell a) 1 other) (old ∷ []) ≡ old ∷ other ∷ []
last = own_alone a (RowInsert 1 other) (old ∷ [])

past_the_end : cell_changed a (CookieInsert (OwnCell a) 2 other) (old ∷ []) ≡ old ∷ []
past_the_end = own_alone a (RowInsert 2 other) (old ∷ [])

-- not where the same one is, and not one that does not outlive a restart
twice : cell_changed a (CookieInsert (OwnCell a) 1 new) (old ∷ []) ≡ old ∷ []
twice = own_alone a (RowInsert 1 new) (old ∷ [])

session : cell_changed a (CookieInsert (OwnCell a) 0 (cookie (codes "m") (codes "1") None)) (old ∷ []) ≡ old ∷ []
session = own_alone a (RowInsert 0 (cookie (codes "m") (codes "1") None)) (old ∷ [])

used : cell_changed a (CookieInsert (OwnCell a) 0 (record other { last = pos 8 })) (old ∷ []) ≡ old ∷ []
used = own_alone a (RowInsert 0 (record other { last = pos 8 })) (old ∷ [])

-- one is replaced by the same one alone
replaced : cell_changed a (CookieReplace (OwnCell a) 1 new) (other ∷ old ∷ []) ≡ other ∷ new ∷ []
replaced = own_alone a (RowReplace 1 new) (other ∷ old ∷ [])

not_the_same : cell_changed a (CookieReplace (OwnCell a) 0 new) (other ∷ old ∷ []) ≡ other ∷ old ∷ []
not_the_same = own_alone a (RowReplace 0 new) (other ∷ old ∷ [])

-- and removed at its place
removed : cell_changed a (CookieRemove (OwnCell a) 0) (other ∷ old ∷ []) ≡ old ∷ []
removed = own_alone a (RowRemove 0) (other ∷ old ∷ [])

none_there : cell_changed a (CookieRemove (OwnCell a) 2) (other ∷ old ∷ []) ≡ other ∷ old ∷ []
none_there = own_alone a (RowRemove 2) (other ∷ old ∷ [])

-- a row change of another cell leaves it
of_another_domain : cell_changed a (CookieRemove (OwnCell b) 0) (old ∷ []) ≡ old ∷ []
of_another_domain = cell_elsewhere a (CookieRemove (OwnCell b) 0) (old ∷ []) refl

of_a_partition : cell_changed a (CookieRemove (PartitionCell (site a) false a) 0) (old ∷ []) ≡ old ∷ []
of_a_partition = cell_elsewhere a (CookieRemove (PartitionCell (site a) false a) 0) (old ∷ []) refl

-- ---- the rows of a site

-- the key of a top document
abbrev key : List ℕ → PlainKey
key host = record { top = site host; origin = origin_of_address (address host); bit = false }

no_pairs : (host : List ℕ) → pairs_at (key host) (rows_alone no_rows) ≡ []
unfolding get_cell no_rows
no_pairs host = ap list_of (get-empty key_order (key host))

-- a pair is put under its own site
put : rows_changed (site a) (AreaPut (key a) (codes "k") (codes "v")) no_rows ≡ record no_rows { areas = set_cell key_order (key a) (record { name = codes "k"; value = codes "v" } ∷ []) no_rows.areas }
put =
    row_done (site a) (AreaPut (key a) (codes "k") (codes "v")) no_rows refl (ap (λ pairs. nat_le (area_weight (area_put (codes "k") (codes "v") pairs)) quota) (no_pairs a))
    ∙ ap (λ pairs. record no_rows { areas = set_cell key_order (key a) (area_put (codes "k") (codes "v") pairs) no_rows.areas }) (no_pairs a)

under_another : (rows : SiteRows) → rows_changed (site b) (AreaPut (key a) (codes "k") (codes "v")) rows ≡ rows
under_another rows = row_elsewhere (site b) (AreaPut (key a) (codes "k") (codes "v")) rows refl

-- a name that is not there is not removed, and an empty area not cleared
nothing_removed : rows_changed (site a) (AreaRemove (key a) (codes "k")) no_rows ≡ no_rows
nothing_removed = ap (λ pairs. (cond (is_some (area_get (codes "k") pairs)) (edited (AreaRemove (key a) (codes "k")) (rows_alone no_rows)) (rows_alone no_rows)).under) (no_pairs a)

nothing_cleared : rows_changed (site a) (AreaClear (key a)) no_rows ≡ no_rows
nothing_cleared = ap (λ pairs. (cond (nat_lt 0 (length pairs)) (edited (AreaClear (key a)) (rows_alone no_rows)) (rows_alone no_rows)).under) (no_pairs a)

-- none of these is valid, nor is it to make a bucket persistent twice
absent_name : is_valid (AreaRemove (key a) (codes "k")) (rows_alone no_rows) ≡ false
absent_name = ap (λ pairs. is_some (area_get (codes "k") pairs)) (no_pairs a)

empty_area : is_valid (AreaClear (key a)) (rows_alone no_rows) ≡ false
empty_area = ap (λ pairs. nat_lt 0 (length pairs)) (no_pairs a)

persistent_twice : is_valid (SetMode (key a)) (edited (SetMode (key a)) (rows_alone no_rows)) ≡ false
persistent_twice =
    ap (λ found. not (is_some found))
    (get-insert key_order_total no_rows.persistent (key a) tt (key a) ∙ ap (λ b. cond b (Some tt) (get no_rows.persistent (key a))) ((eq_by_cmp_equiv key_order_total).refl (key a)))

-- a permission of a pair stays in its place when it is renewed
abbrev permission : List ℕ → ℤ → PlainGrant
permission host until = record { top = site a; site = site host; granted = true; until = until }

renewed : (rows_changed (site a) (Grant (permission a (pos 9))) (record no_rows { grants = permission a (pos 8) ∷ permission b (pos 8) ∷ [] })).grants ≡ permission a (pos 9) ∷ permission b (pos 8) ∷ []
renewed = refl

-- ---- restarts

-- after a restart no tab is open, whatever was before, and the clock goes on
no_tab_open : (rest : Rest) (d : AgentDurable) (tab : ℕ) → site_at tab (restarted keeping rest d).rest.places ≡ None
unfolding keeping no_places
no_tab_open rest d tab = get-empty nat_cmp tab

same_clock : (rest : Rest) (d : AgentDurable) → (restarted keeping rest d).rest.now ≡ rest.now
unfolding keeping
same_clock rest d = refl
