-- What an edit of one part makes of the durable state of all.
use Rattle.std.proofs.Common.{◌≡◌, ℕ, Bool, true, false, cond, List, [], ◌∷◌, Option, Some, None, String, Global, refl, sym, ap, ◌∙◌}
use Rattle.std.specs.Prelude.{◌&&◌, Result, Ok, Err, IfOk, OnErr, find, is_some, not, option_map, string_bytes}
use Rattle.storage_key.specs.Key.{PlainKey}
use Rattle.local_area.specs.Area.{Pair, area_get, area_remove, has_name}
use Rattle.cookie_jar.specs.Cookie.{PlainCookie}
use Rattle.cookie_jar.specs.Key.{PlainKey as PlainCell, OwnCell, PartitionCell}
use Rattle.cookie_jar.specs.Persistent.{CookieRow, RowInsert, RowRemove, RowReplace, row_edit, row_fits}
use Rattle.access_grants.specs.Grant.{PlainGrant, PlainGrants, with_row}
use Rattle.row_changes.specs.Change.{PlainChange, AreaRemove, CookieInsert, CookieRemove, CookieReplace, Grant, SetMode}
use Rattle.storage_events.specs.declared.event.AreaKind.TheVariants.{Local}
use Rattle.agent_model.specs.CookieCells.{Cookies}
use Rattle.agent_model.specs.Partition.{no_holdings}
use Rattle.agent_model.specs.Buckets.{made_persistent}
use Rattle.web_storage.specs.Stored as storage
use Rattle.web_storage.specs.Lends.{HoldsPairs}
use Rattle.web_cookies.specs.Stored as cookies
use Rattle.web_cookies.specs.Cells as web
use Rattle.web_cookies.specs.Rows.{IsRowDone, cookies_after_row}
use Rattle.web_cookies.proofs.CellLemmas.{partitioned_at, shared_at}
use Rattle.durable_model.specs.Saved.{cookies_at, is_kept_cookie, kind_of, pairs_at, with_cookies, with_pairs}
use Rattle.durable_model.specs.RowEdits.{edited, edited_in, is_valid, is_valid_in, puts_kept}
use Rattle.row_store.specs.Edits.{IsEdited, IsUndone}
use Rattle.row_store.specs.Stored.{HasNoSession, saved_in, saved_of}
use Rattle.row_store.specs.declared.parts.Parts.{Parts}
use Rattle.row_store.proofs.AreaRowLemmas.{same_pairs}
use Rattle.row_store.proofs.CookieRowLemmas.{same_cookies}

-- ---- done, or passed over

-- a row change that is valid, and is done
pub did : (change : PlainChange) (old new : Parts) → is_valid change (saved_of old) ≡ true
    → saved_of new ≡ edited change (saved_of old)
    → (HasNoSession old.storage → HasNoSession new.storage) → IsEdited change old new true
did change old new valid saved sessions = record {
  valid = sym valid;
  saved = saved ∙ sym (ap (λ b. cond b (edited change (saved_of old)) (saved_of old)) valid);
  sessions = sessions;
}

-- one that is not valid, and leaves the state
pub passed : (change : PlainChange) (old new : Parts) → is_valid change (saved_of old) ≡ false
    → IsUndone old new → IsEdited change old new false
passed change old new valid stays = record {
  valid = sym valid;
  saved = stays.saved ∙ sym (ap (λ b. cond b (edited change (saved_of old)) (saved_of old)) valid);
  sessions = stays.sessions;
}

-- ---- areas and modes

-- an answer tells whether there is a value
pub is_there : (answer : Option (String Global)) (value : Option (List ℕ))
    → option_map string_bytes answer ≡ value → is_some answer ≡ is_some value
is_there (Some text) value is = ap is_some is
is_there None value is = ap is_some is

-- an area without a name stays where the name is removed
absent : (name : List ℕ) (pairs : List Pair) → is_some (area_get name pairs) ≡ false → area_remove name pairs ≡ pairs
absent name [] is = refl
absent name (pair ∷ pairs) is = at (has_name name pair) (absent name pairs) is
  where
    at : (b : Bool) → (is_some (area_get name pairs) ≡ false → area_remove name pairs ≡ pairs)
        → is_some (option_map (λ p. p.value) (cond b (Some pair) (find (has_name name) pairs))) ≡ false
        → cond (not b) (pair ∷ area_remove name pairs) (area_remove name pairs) ≡ pair ∷ pairs
    at true later is = let no : true ≡ false = is in cc
    at false later is = ap (λ (l : List Pair). pair ∷ l) (later is)

module _ (cells : cookies.Entries) (grants : PlainGrants) where
  -- other pairs in one area
  pub pairs_saved : (key : PlainKey) (pairs : List Pair) (old new : storage.Entries) → HoldsPairs Local 0 key pairs old new
      → saved_in new cells grants ≡ with_pairs key pairs (saved_in old cells grants)
  pairs_saved key pairs old new is = λ i. record {
    under = record {
      areas = (is no_holdings i).areas;
      persistent = (is no_holdings i).persistent;
      cookies = cookies.partitioned_in cells;
      grants = grants.rows;
    };
    cells = cookies.shared_in cells;
  }

  -- one more key whose bucket is persistent
  pub mode_saved : (key : PlainKey) (old new : storage.Entries)
      → storage.held_with no_holdings new ≡ made_persistent key (storage.held_with no_holdings old)
      → saved_in new cells grants ≡ edited (SetMode key) (saved_in old cells grants)
  mode_saved key old new is = λ i. record {
    under = record {
      areas = (is i).areas;
      persistent = (is i).persistent;
      cookies = cookies.partitioned_in cells;
      grants = grants.rows;
    };
    cells = cookies.shared_in cells;
  }

-- no session area comes with a local one, nor with a mode
pub pairs_sessions : (key : PlainKey) (pairs : List Pair) (old new : storage.Entries)
    → HoldsPairs Local 0 key pairs old new → HasNoSession old → HasNoSession new
pairs_sessions key pairs old new is none beside = ap (λ held. held.sessions) (is beside) ∙ none beside

-- a name that is removed, where it is there
pub removed_name : (cells : cookies.Entries) (grants : PlainGrants) (key : PlainKey) (name : List ℕ)
    (old new : storage.Entries) (there : Bool)
    → there ≡ is_some (area_get name (pairs_at key (saved_in old cells grants)))
    → HoldsPairs Local 0 key (area_remove name (pairs_at key (saved_in old cells grants))) old new
    → IsEdited (AreaRemove key name) (record { storage = old; cookies = cells; grants = grants })
    (record { storage = new; cookies = cells; grants = grants }) there
removed_name cells grants key name old new true is holds =
    let pairs = pairs_at key (saved_in old cells grants) in
    did (AreaRemove key name) (record { storage = old; cookies = cells; grants = grants })
    (record { storage = new; cookies = cells; grants = grants }) (sym is)
    (pairs_saved cells grants key (area_remove name pairs) old new holds)
    (pairs_sessions key (area_remove name pairs) old new holds)
removed_name cells grants key name old new false is holds =
    let pairs = pairs_at key (saved_in old cells grants) in
    passed (AreaRemove key name) (record { storage = old; cookies = cells; grants = grants })
    (record { storage = new; cookies = cells; grants = grants }) (sym is)
    (record {
      saved = pairs_saved cells grants key (area_remove name pairs) old new holds
          ∙ ap (λ ps. with_pairs key ps (saved_in old cells grants)) (absent name pairs (sym is))
          ∙ sym (same_pairs key pairs (saved_in old cells grants) refl);
      sessions = pairs_sessions key (area_remove name pairs) old new holds;
    })

-- ---- cells

module _ (areas : storage.Entries) (grants : PlainGrants) where
  cells_saved : (cell : PlainCell) (cs : Cookies) (old new : cookies.Entries)
      → cookies.shared_in new ≡ cookies.with_shared cell cs (cookies.shared_in old)
      → cookies.partitioned_in new ≡ cookies.with_partitioned cell cs (cookies.partitioned_in old)
      → saved_in areas new grants ≡ with_cookies cell cs (saved_in areas old grants)
  cells_saved (OwnCell domain) cs old new shared partitioned = λ i. record {
    under = record {
      areas = (storage.held_with no_holdings areas).areas;
      persistent = (storage.held_with no_holdings areas).persistent;
      cookies = partitioned i;
      grants = grants.rows;
    };
    cells = shared i;
  }
  cells_saved (PartitionCell top bit domain) cs old new shared partitioned = λ i. record {
    under = record {
      areas = (storage.held_with no_holdings areas).areas;
      persistent = (storage.held_with no_holdings areas).persistent;
      cookies = partitioned i;
      grants = grants.rows;
    };
    cells = shared i;
  }

  -- the cookies of a cell are those of its jar
  saved_cookies : (cell : PlainCell) (entries : cookies.Entries)
      → cookies_at cell (saved_in areas entries grants) ≡ web.cookies_at cell entries
  saved_cookies (OwnCell domain) entries = shared_at domain entries
  saved_cookies (PartitionCell top bit domain) entries = partitioned_at (record { top = top; bit = bit; domain = domain }) entries

  same_kind : (cell : PlainCell) → web.kind_of cell ≡ kind_of cell
  same_kind (OwnCell domain) = refl
  same_kind (PartitionCell top bit domain) = refl

  fits_saved : (cell : PlainCell) (row : CookieRow) (entries : cookies.Entries)
      → row_fits (web.kind_of cell) (web.cookies_at cell entries) row
      ≡ row_fits (kind_of cell) (cookies_at cell (saved_in areas entries grants)) row
  fits_saved cell row entries = let back = sym (saved_cookies cell entries) in λ i. row_fits (same_kind cell i) (back i) row

  module _ (cell : PlainCell) (row : CookieRow) (old new : cookies.Entries) (done : Bool)
      (kept : puts_kept row ≡ true) (is : IsRowDone cell row old new done) where
    -- a change of a cell is valid where it was done
    pub row_valid : done ≡ is_valid_in cell row (saved_in areas old grants)
    row_valid = is.valid ∙ fits_saved cell row old
        ∙ sym (ap (λ b. b && row_fits (kind_of cell) (cookies_at cell (saved_in areas old grants)) row) kept)

    -- and the state has it, or stays
    pub row_saved : saved_in areas new grants
        ≡ cond (is_valid_in cell row (saved_in areas old grants))
        (edited_in cell row (saved_in areas old grants)) (saved_in areas old grants)
    row_saved =
        let d = saved_in areas old grants in
        cells_saved cell (cookies_after_row cell row old) old new is.shared is.partitioned
        ∙ at (row_fits (web.kind_of cell) (web.cookies_at cell old) row)
        ∙ ap (λ b. cond b (edited_in cell row d) d) (sym is.valid ∙ row_valid)
      where
        at : (b : Bool) → with_cookies cell (cond b (row_edit (web.cookies_at cell old) row)
            (web.cookies_at cell old)) (saved_in areas old grants)
            ≡ cond b (edited_in cell row (saved_in areas old grants)) (saved_in areas old grants)
        at true = ap (λ cs. with_cookies cell (row_edit cs row) (saved_in areas old grants)) (sym (saved_cookies cell old))
        at false = sym (same_cookies cell (web.cookies_at cell old) (saved_in areas old grants) (saved_cookies cell old))

-- a permission that is kept
pub grants_saved : (areas : storage.Entries) (cells : cookies.Entries) (old new : PlainGrants)
    (row : PlainGrant) → new.rows ≡ with_row row old.rows
    → saved_in areas cells new ≡ edited (Grant row) (saved_in areas cells old)
grants_saved areas cells old new row is = λ i. record {
  under = record {
    areas = (storage.held_with no_holdings areas).areas;
    persistent = (storage.held_with no_holdings areas).persistent;
    cookies = cookies.partitioned_in cells;
    grants = is i;
  };
  cells = cookies.shared_in cells;
}

-- ---- changes of a cell, as row changes

module _ (areas : storage.Entries) (grants : PlainGrants) (cell : PlainCell) (place : ℕ) (old new : cookies.Entries) where
  abbrev pub with_cells : cookies.Entries → Parts
  with_cells cells = record { storage = areas; cookies = cells; grants = grants }

  pub inserted : (cookie : PlainCookie) (done : Bool) → is_kept_cookie cookie ≡ true
      → IsRowDone cell (RowInsert place cookie) old new done
      → IsEdited (CookieInsert cell place cookie) (with_cells old) (with_cells new) done
  inserted cookie done kept is = record {
    valid = row_valid areas grants cell (RowInsert place cookie) old new done kept is;
    saved = row_saved areas grants cell (RowInsert place cookie) old new done kept is;
    sessions = λ none. none;
  }

  pub inserted_ok : {E : Type 0} (cookie : PlainCookie) (r : Result Bool E) → is_kept_cookie cookie ≡ true
      → IfOk r (λ done. IsRowDone cell (RowInsert place cookie) old new done)
      → IfOk r (λ done. IsEdited (CookieInsert cell place cookie) (with_cells old) (with_cells new) done)
  inserted_ok cookie (Ok done) kept is = inserted cookie done kept is
  inserted_ok cookie (Err why) kept is = tt

  pub replaced : (cookie : PlainCookie) (done : Bool) → is_kept_cookie cookie ≡ true
      → IsRowDone cell (RowReplace place cookie) old new done
      → IsEdited (CookieReplace cell place cookie) (with_cells old) (with_cells new) done
  replaced cookie done kept is = record {
    valid = row_valid areas grants cell (RowReplace place cookie) old new done kept is;
    saved = row_saved areas grants cell (RowReplace place cookie) old new done kept is;
    sessions = λ none. none;
  }

  pub removed : (done : Bool) → IsRowDone cell (RowRemove place) old new done
      → IsEdited (CookieRemove cell place) (with_cells old) (with_cells new) done
  removed done is = record {
    valid = row_valid areas grants cell (RowRemove place) old new done refl is;
    saved = row_saved areas grants cell (RowRemove place) old new done refl is;
    sessions = λ none. none;
  }

-- ---- what stays where memory is wanting

-- each cell has the cookies that it had
pub cookies_stay : {T E : Type 0} (areas : storage.Entries) (grants : PlainGrants) (old new : cookies.Entries) (r : Result T E)
    → OnErr r (cookies.shared_in new ≡ cookies.shared_in old) → OnErr r (cookies.partitioned_in new ≡ cookies.partitioned_in old)
    → OnErr r (IsUndone (record { storage = areas; cookies = old; grants = grants })
    (record { storage = areas; cookies = new; grants = grants }))
cookies_stay areas grants old new (Ok done) shared partitioned = tt
cookies_stay areas grants old new (Err why) shared partitioned = record {
  saved = λ i. record {
    under = record {
      areas = (storage.held_with no_holdings areas).areas;
      persistent = (storage.held_with no_holdings areas).persistent;
      cookies = partitioned i;
      grants = grants.rows;
    };
    cells = shared i;
  };
  sessions = λ none. none;
}
