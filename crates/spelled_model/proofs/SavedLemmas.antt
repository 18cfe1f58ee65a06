-- Durable states that were read: what a restart opens with one, and what row changes make of it.
use Rattle.std.proofs.Common.{◌≡◌, ◌<◌, ◌≤◌, ℕ, suc, Bool, true, false, cond, List, [], ◌∷◌, length, take, drop, refl, sym, ap, subst, arith, ◌∙◌}
use Rattle.std.specs.Prelude.{nat_le, slice_set, ◌==◌}
use Rattle.std.specs.List.{All, insert, remove}
use Rattle.std.specs.Ordering.{eq_by_cmp, nat_cmp}
use Rattle.std.specs.FinMap.{get-empty}
use Rattle.std.proofs.lemmas.Bool.{and_parts, cond_both}
use Rattle.std.proofs.lemmas.List.{length-set}
use Rattle.std.proofs.lemmas.List.Elements.{All-append, All-cons, All-drop, All-head, All-set, All-tail, All-take}
use Rattle.unwinding.specs.FiniteCells.{get_cell, list_of}
use Rattle.unwinding.proofs.FiniteCellsLemmas as cells_of
use Rattle.suffix_list.specs.Suffix.{Rule}
use Rattle.origin_site.specs.Site.{PlainSite}
use Rattle.storage_key.specs.Key.{PlainKey, key_order}
use Rattle.storage_key.specs.Stays.{key_stays}
use Rattle.storage_key.proofs.OrderLemmas.{key_order_total, key_order_same}
use Rattle.stored_cookie.specs.StoredCookie.{PlainCookie}
use Rattle.local_area.specs.Area.{Pair, area_put, area_remove}
use Rattle.cookie_jar.specs.Cookie.{copies, keeps_limits}
use Rattle.cookie_jar.specs.Key.{PlainKey as PlainCell, OwnCell, PartitionCell}
use Rattle.cookie_jar.specs.Persistent.{RowInsert, RowReplace, RowRemove, row_fits}
use Rattle.cookie_jar.proofs.CellLemmas.{count_small}
use Rattle.row_changes.specs.Change.{PlainChange, AreaPut, AreaRemove, AreaClear, SetMode, CookieInsert, CookieReplace, CookieRemove, Grant}
use Rattle.row_changes.specs.Spelled.{IsKey, HasSpelledFields, IsSpelled, IsSpelledUnder}
use Rattle.agent_model.specs.CookieCells.{Cookies, domain_order}
use Rattle.agent_model.specs.PartitionedCells.{PartitionedKey, partitioned_order}
use Rattle.agent_model.specs.Partition.{is_cell_under, is_under, no_holdings}
use Rattle.agent_base.specs.Seconds.{last_moment}
use Rattle.agent_model.specs.TheMachine.{beginning}
use Rattle.agent_model.proofs.CookieCellsLemmas.{domain_order_total, domain_order_same, get_none}
use Rattle.agent_model.proofs.KeptLemmas.{kept_cell, tied}
use Rattle.agent_model.proofs.PartitionedLemmas.{partitioned_order_total, partitioned_order_same}
use Rattle.durable_model.specs.Keeping.{keeping, rows_under}
use Rattle.durable_model.specs.RowEdits.{after_change, after_changes, edited, edited_in, is_valid, is_valid_in, puts_kept}
use Rattle.durable_model.specs.Saved.{Saved, cookies_at, kind_of, no_rows, nothing_saved, pairs_at, with_cookies, with_pairs}
use Rattle.durable_model.proofs.CellsLemmas as kept
use Rattle.durable_model.proofs.NothingLemmas.{nothing_opens}
use Rattle.spelled_model.specs.Frames.{IsReadTab}
use Rattle.spelled_model.specs.Laws.{NothingIsRead, OpensRead, ReadUnder, RowsStayRead, RowsStayUnder}
use Rattle.spelled_model.specs.Rows.{IsNamedKey, IsReadCell, IsReadKey, IsReadSaved, IsReadSavedUnder}
use Rattle.spelled_model.specs.Worlds.{IsReadWorld}
use Rattle.spelled_model.proofs.CellLemmas.{IsTimed, either_read, length_remove, none_read}

-- ---- a restart

module _ (rules : List Rule) (now : ℕ) (d : Saved) (short : now ≤ last_moment) (read : IsReadSavedUnder rules d) where
  areas_again : (site : PlainSite) (key : PlainKey) → 0 < length (get_cell key_order (rows_under site d.under).areas key) → IsNamedKey rules key
  areas_again site key some =
      at (is_under site key) (subst (λ ps. 0 < length ps) (kept_cell key_order key_order_total key_order_same d.under.areas (is_under site) key) some)
    where
      at : (b : Bool) → 0 < length (cond b (pairs_at key d) []) → IsNamedKey rules key
      at true some = read.keys key some
      at false some = absurd (omega (arith, some))

  cells_again : (site : PlainSite) (key : PartitionedKey) → IsReadCell (get_cell partitioned_order (rows_under site d.under).cookies key)
  cells_again site key =
      subst IsReadCell (sym (cells_of.get_restrict partitioned_order partitioned_order_total partitioned_order_same (is_cell_under site) d.under.cookies key))
      (either_read (is_cell_under site key) (get_cell partitioned_order d.under.cookies key) [] (read.cells (PartitionCell key.top key.bit key.domain)) none_read)

pub opens_read : OpensRead
unfolding keeping no_holdings
opens_read rules now d short read =
    record {
      clock = short;
      tabs = λ site tab. subst (IsReadTab rules) (sym (get-empty nat_cmp tab)) tt;
      areas = areas_again rules now d short read;
      shared = λ domain. read.cells (OwnCell domain);
      partitioned = cells_again rules now d short read;
    }

-- ---- nothing

no_pairs : (key : PlainKey) → get_cell key_order no_rows.areas key ≡ []
unfolding get_cell no_rows
no_pairs key = ap list_of (get-empty key_order key)

-- ---- what holds of each key that has a local area

-- each key that has a local area is so, and each cell was read
pub record IsReadBy (Is : PlainKey → Type 0) (d : Saved) : Type 0 where
  pub keys : (key : PlainKey) → 0 < length (pairs_at key d) → Is key
  pub cells : (cell : PlainCell) → IsReadCell (cookies_at cell d)

nothing_by : (Is : PlainKey → Type 0) → IsReadBy Is nothing_saved
unfolding nothing_saved no_rows
nothing_by Is = record { keys = λ key some. absurd (none_some (subst (λ ps. 0 < length ps) (no_pairs key) some)); cells = by }
  where
    none_some : 0 < 0 → ⊥
    none_some some = omega (arith, some)

    by : (cell : PlainCell) → IsReadCell (cookies_at cell nothing_saved)
    by (OwnCell domain) = subst IsReadCell (sym (get_none domain)) none_read
    by (PartitionCell top bit domain) = subst IsReadCell (sym (kept.get_none (record { top = top; bit = bit; domain = domain }))) none_read

free : (d : Saved) → IsReadBy IsReadKey d → IsReadSaved d
free d read = record { keys = read.keys; cells = read.cells }

under : (rules : List Rule) (d : Saved) → IsReadBy (IsNamedKey rules) d → IsReadSavedUnder rules d
under rules d read = record { keys = read.keys; cells = read.cells }

pub nothing_read : NothingIsRead
nothing_read = (free nothing_saved (nothing_by IsReadKey), λ rules. under rules nothing_saved (nothing_by (IsNamedKey rules)))

-- ---- row changes

-- the key of a row change of an area is so
abbrev OfKey : (PlainKey → Type 0) → PlainChange → Type 0
OfKey Is (AreaPut key name value) = Is key
OfKey Is (AreaRemove key name) = Is key
OfKey Is (AreaClear key) = Is key
OfKey Is (SetMode key) = Unit {0}
OfKey Is (CookieInsert cell place c) = Unit {0}
OfKey Is (CookieReplace cell place c) = Unit {0}
OfKey Is (CookieRemove cell place) = Unit {0}
OfKey Is (Grant row) = Unit {0}

read_from : (key : PlainKey) → IsKey key → IsReadKey key
read_from key is = record { origin = is.1; top = is.2.1 }

read_of : (change : PlainChange) → IsSpelled change → OfKey IsReadKey change
read_of (AreaPut key name value) is = read_from key is.0
read_of (AreaRemove key name) is = read_from key is.0
read_of (AreaClear key) is = read_from key is
read_of (SetMode key) is = tt
read_of (CookieInsert cell place c) is = tt
read_of (CookieReplace cell place c) is = tt
read_of (CookieRemove cell place) is = tt
read_of (Grant row) is = tt

named_of : (rules : List Rule) (change : PlainChange) → IsSpelledUnder rules change → OfKey (IsNamedKey rules) change
named_of rules (AreaPut key name value) is = record { read = read_from key is.0.0; stays = is.1 }
named_of rules (AreaRemove key name) is = record { read = read_from key is.0.0; stays = is.1 }
named_of rules (AreaClear key) is = record { read = read_from key is.0; stays = is.1 }
named_of rules (SetMode key) is = tt
named_of rules (CookieInsert cell place c) is = tt
named_of rules (CookieReplace cell place c) is = tt
named_of rules (CookieRemove cell place) is = tt
named_of rules (Grant row) is = tt

module _ (Is : PlainKey → Type 0) (d : Saved) (read : IsReadBy Is d) where
  -- the area of such a key is another one
  pairs_read : (key : PlainKey) → Is key → (pairs : List Pair) → IsReadBy Is (with_pairs key pairs d)
  pairs_read key named pairs = record { keys = λ q some. at q (eq_by_cmp key_order q key) refl (subst (λ ps. 0 < length ps) (cells_of.get_set key_order key_order_total key_order_same q key pairs d.under.areas) some); cells = by }
    where
      at : (q : PlainKey) (b : Bool) → eq_by_cmp key_order q key ≡ b → 0 < length (cond b pairs (pairs_at q d)) → Is q
      at q true tie some = subst Is (sym (tied key_order key_order_total key_order_same q key tie)) named
      at q false tie some = read.keys q some

      by : (cell : PlainCell) → IsReadCell (cookies_at cell (with_pairs key pairs d))
      by (OwnCell domain) = read.cells (OwnCell domain)
      by (PartitionCell top bit domain) = read.cells (PartitionCell top bit domain)

  -- a cell has other cookies
  cookies_read : (cell : PlainCell) (cookies : Cookies) → IsReadCell cookies → IsReadBy Is (with_cookies cell cookies d)
  cookies_read (OwnCell changed) cookies is = record { keys = read.keys; cells = by }
    where
      by : (cell : PlainCell) → IsReadCell (cookies_at cell (with_cookies (OwnCell changed) cookies d))
      by (OwnCell domain) =
          subst IsReadCell (sym (cells_of.get_set domain_order domain_order_total domain_order_same domain changed cookies d.cells))
          (either_read (eq_by_cmp domain_order domain changed) cookies (get_cell domain_order d.cells domain) is (read.cells (OwnCell domain)))
      by (PartitionCell top bit domain) = read.cells (PartitionCell top bit domain)
  cookies_read (PartitionCell top bit domain) cookies is = record { keys = read.keys; cells = by }
    where
      key : PartitionedKey
      key = record { top = top; bit = bit; domain = domain }

      by : (cell : PlainCell) → IsReadCell (cookies_at cell (with_cookies (PartitionCell top bit domain) cookies d))
      by (OwnCell other) = read.cells (OwnCell other)
      by (PartitionCell t b other) =
          let q : PartitionedKey = record { top = t; bit = b; domain = other } in
          subst IsReadCell (sym (cells_of.get_set partitioned_order partitioned_order_total partitioned_order_same q key cookies d.under.cookies))
          (either_read (eq_by_cmp partitioned_order q key) cookies (get_cell partitioned_order d.under.cookies q) is (read.cells (PartitionCell t b other)))

  -- a change of a cell that is valid, and puts a cookie that began at a moment of 64 bits
  insert_read : (cell : PlainCell) (place : ℕ) (c : PlainCookie) → IsTimed c → is_valid_in cell (RowInsert place c) d ≡ true → IsReadBy Is (edited_in cell (RowInsert place c) d)
  insert_read cell place c timed valid =
      let cs = cookies_at cell d in
      let fits = and_parts (puts_kept (RowInsert place c)) (row_fits (kind_of cell) cs (RowInsert place c)) valid in
      let there = and_parts (nat_le place (length cs)) _ fits.1 in
      let within = and_parts (copies c cs == 0) (keeps_limits (kind_of cell) (insert cs place c)) there.1 in
      let times = (read.cells cell).times in
      cookies_read cell (insert cs place c)
      (record {
        few = count_small (kind_of cell) (length (insert cs place c)) _ within.1;
        times = All-append IsTimed (take place cs) (c ∷ drop place cs) (All-take IsTimed place cs times) (All-cons IsTimed c (drop place cs) timed (All-drop IsTimed place cs times));
      })

  replace_read : (cell : PlainCell) (place : ℕ) (c : PlainCookie) → IsTimed c → IsReadBy Is (edited_in cell (RowReplace place c) d)
  replace_read cell place c timed =
      let cs = cookies_at cell d in
      let here = read.cells cell in
      let few = here.few in
      cookies_read cell (slice_set cs place c) (record { few = omega (arith, length-set cs place c, few); times = All-set IsTimed cs place c timed here.times })

  remove_read : (cell : PlainCell) (place : ℕ) → IsReadBy Is (edited_in cell (RowRemove place) d)
  remove_read cell place =
      let cs = cookies_at cell d in
      let here = read.cells cell in
      let few = here.few in
      cookies_read cell (remove cs place)
      (record {
        few = omega (arith, length_remove cs place, few);
        times = All-append IsTimed (take place cs) (drop (suc place) cs) (All-take IsTimed place cs here.times) (All-drop IsTimed (suc place) cs here.times);
      })

  -- a row change that is valid and has a spelling
  edited_read : (change : PlainChange) → IsSpelled change → OfKey Is change → is_valid change d ≡ true → IsReadBy Is (edited change d)
  edited_read (AreaPut key name value) is of valid = pairs_read key of (area_put name value (pairs_at key d))
  edited_read (AreaRemove key name) is of valid = pairs_read key of (area_remove name (pairs_at key d))
  edited_read (AreaClear key) is of valid = pairs_read key of []
  edited_read (SetMode key) is of valid = record { keys = read.keys; cells = by }
    where
      by : (cell : PlainCell) → IsReadCell (cookies_at cell (edited (SetMode key) d))
      by (OwnCell domain) = read.cells (OwnCell domain)
      by (PartitionCell top bit domain) = read.cells (PartitionCell top bit domain)
  edited_read (CookieInsert cell place c) is of valid = let kept : HasSpelledFields c = is.2 in insert_read cell place c kept.creation valid
  edited_read (CookieReplace cell place c) is of valid = let kept : HasSpelledFields c = is.2 in replace_read cell place c kept.creation
  edited_read (CookieRemove cell place) is of valid = remove_read cell place
  edited_read (Grant row) is of valid = record { keys = read.keys; cells = by }
    where
      by : (cell : PlainCell) → IsReadCell (cookies_at cell (edited (Grant row) d))
      by (OwnCell domain) = read.cells (OwnCell domain)
      by (PartitionCell top bit domain) = read.cells (PartitionCell top bit domain)

  stays_read : (change : PlainChange) → IsSpelled change → OfKey Is change → IsReadBy Is (after_change d change)
  stays_read change is of = cond_both (is_valid change d) (edited change d) d (IsReadBy Is) (λ valid. edited_read change is of valid) (λ other. read)

pub rows_stay_read : RowsStayRead
rows_stay_read d change is read =
    free (after_change d change) (stays_read IsReadKey d (record { keys = read.keys; cells = read.cells }) change is (read_of change is))

pub rows_stay_under : RowsStayUnder
rows_stay_under rules d change is read =
    under rules (after_change d change) (stays_read (IsNamedKey rules) d (record { keys = read.keys; cells = read.cells }) change is.0 (named_of rules change is))

-- and so do several, in their order
pub changes_stay_read : (changes : List PlainChange) (d : Saved) → All IsSpelled changes → IsReadSaved d → IsReadSaved (after_changes d changes)
changes_stay_read [] d spelled read = read
changes_stay_read (change ∷ changes) d spelled read =
    changes_stay_read changes (after_change d change) (All-tail IsSpelled change changes spelled) (rows_stay_read d change (All-head IsSpelled change changes spelled) read)

pub changes_stay_under : (rules : List Rule) (changes : List PlainChange) (d : Saved) → All (IsSpelledUnder rules) changes → IsReadSavedUnder rules d
    → IsReadSavedUnder rules (after_changes d changes)
changes_stay_under rules [] d spelled read = read
changes_stay_under rules (change ∷ changes) d spelled read =
    changes_stay_under rules changes (after_change d change) (All-tail (IsSpelledUnder rules) change changes spelled)
    (rows_stay_under rules d change (All-head (IsSpelledUnder rules) change changes spelled) read)

-- the world in which a run begins was read
pub begins_read : (rules : List Rule) (start : ℕ) → start ≤ last_moment → IsReadWorld rules (beginning start)
begins_read rules start short = subst (IsReadWorld rules) (nothing_opens start) (opens_read rules start nothing_saved short (nothing_read.1 rules))

-- ---- a state of which all stays under a list

pub read_under : ReadUnder
read_under rules d read is = record { keys = by; cells = read.cells }
  where
    at : (key : PlainKey) (b : Bool) → key_stays rules key ≡ b → 0 < length (cond b (pairs_at key d) []) → IsNamedKey rules key
    at key true stays some = record { read = read.keys key some; stays = stays }
    at key false stays some = absurd (omega (arith, some))

    by : (key : PlainKey) → 0 < length (pairs_at key d) → IsNamedKey rules key
    by key some =
        let left : pairs_at key d ≡ cond (key_stays rules key) (pairs_at key d) [] = sym (ap (pairs_at key) is) ∙ kept_cell key_order key_order_total key_order_same d.under.areas (key_stays rules) key in
        at key (key_stays rules key) refl (subst (λ ps. 0 < length ps) left some)
