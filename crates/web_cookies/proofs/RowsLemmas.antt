-- A change of the cookies of one cell, among those of all sites.
use Rattle.std.proofs.Common.{◌≡◌, ◌<◌, ◌≤◌, arith, Bool, true, false, cond, [], Option, Some, None, Bor, refl, sym, ap, subst, ◌∙◌}
use Rattle.std.specs.Prelude.{Result, Ok, Err, IfOk, IfSome, MatchOption, OnOk, is_some, option_copied}
use Rattle.std.specs.Ordering.{eq_by_cmp}
use Rattle.unwinding.proofs.FiniteCellsLemmas as cells
use Rattle.key_map.specs.Entries.{map_get, map_set}
use Rattle.partition_limits.specs.declared.tally.CellKind.{CellKind}
use Rattle.cookie_jar.specs.declared.key.CellKey.{CellKey}
use Rattle.cookie_jar.specs.Cookie.{PlainJar}
use Rattle.cookie_jar.specs.Key.{PlainKey, OwnCell, plain_key}
use Rattle.cookie_jar.specs.Persistent.{CookieRow, apply_row, row_edit, row_fits}
use Rattle.agent_model.specs.PartitionedCells.{partitioned_order}
use Rattle.agent_model.proofs.CookieCellsLemmas.{same_cells}
use Rattle.agent_model.proofs.PartitionedLemmas.{partitioned_order_total, partitioned_order_same}
use Rattle.web_cookies.specs.declared.change.Becomes.TheVariants.{Stored}
use Rattle.web_cookies.specs.Stored.{Entries, shared_in, partitioned_in, with_shared, with_partitioned}
use Rattle.web_cookies.specs.Cells.{HaveKinds, cell_key, cell_order, cookies_at, cookies_of, jar_at, kind_of}
use Rattle.web_cookies.specs.CellsOfUse.{HoldSame}
use Rattle.web_cookies.specs.Rows.{HasPlace, IsRowDone, cookies_after_row}
use Rattle.web_cookies.proofs.OrderOfCells.{alike, cell_order_total, equal_keys, order, own_tie}
use Rattle.key_map.proofs.PlainKeyLemmas.{found-key, found-set}
use Rattle.web_cookies.proofs.CellLemmas.{partitioned_at, partitioned_with, shared_at, shared_with}
use Rattle.web_cookies.proofs.ChangeLemmas.{change_set}
use Rattle.web_cookies.proofs.LeftLemmas.{partitioned_same, shared_same}
use Rattle.web_cookies.proofs.PreparedLemmas.{kinds_set}

module _ (cell : PlainKey) (row : CookieRow) (old new : Entries) where
  -- each key has what the change leaves there
  abbrev pub IsLeft : Type 0
  IsLeft = (q : PlainKey) → cookies_at q new ≡ cond (eq_by_cmp cell_order q cell) (cookies_after_row cell row old) (cookies_at q old)

  pub row_done : (done : Bool) → done ≡ row_fits (kind_of cell) (cookies_at cell old) row → IsLeft → IsRowDone cell row old new done
  row_done done valid left = record {
    valid = valid;
    shared = same_cells _ _ (λ d. shared_at d new ∙ left (OwnCell d)
        ∙ ap (λ r. cond (eq_by_cmp cell_order (OwnCell d) cell) (cookies_after_row cell row old) r) (sym (shared_at d old))
        ∙ sym (shared_with d cell (cookies_after_row cell row old) (shared_in old)));
    partitioned = cells.same_cells partitioned_order partitioned_order_total partitioned_order_same _ _ (λ k. partitioned_at k new ∙ left (cell_key k)
        ∙ ap (λ r. cond (eq_by_cmp cell_order (cell_key k) cell) (cookies_after_row cell row old) r) (sym (partitioned_at k old))
        ∙ sym (partitioned_with k cell (cookies_after_row cell row old) (partitioned_in old)));
  }

-- the jar of a key is that of its plain key
pub at_key : (key : CellKey) (entries : Entries) → map_get order key entries ≡ jar_at (plain_key key) entries
at_key key entries = found-key plain_key cell_order cell_order_total order alike key entries

-- the cookies of a jar that is there
pub cookies_there : (key : CellKey) (entries : Entries) (jar : Option PlainJar) → map_get order key entries ≡ jar → cookies_at (plain_key key) entries ≡ cookies_of jar
cookies_there key entries jar there = ap cookies_of (sym (at_key key entries) ∙ there)

pub kind_there : (key : CellKey) (entries : Entries) (jar : PlainJar) → HaveKinds entries → map_get order key entries ≡ Some jar → jar.kind ≡ kind_of (plain_key key)
kind_there key entries jar kinds there =
    subst (λ o. IfSome o (λ j. j.kind ≡ kind_of (plain_key key))) (sym (at_key key entries) ∙ there) (kinds (plain_key key))

-- a cell with room has a jar, and that jar the room
pub place_there : (cell : PlainKey) (entries : Entries) → HasPlace cell entries → is_some (jar_at cell entries) ≡ true
place_there cell entries has = at (jar_at cell entries) has
  where
    at : (jar : Option PlainJar) → MatchOption jar ⊥ (λ j. 0 < j.spare) → is_some jar ≡ true
    at None never = absurd never
    at (Some jar) room = refl

pub place_spare : (key : CellKey) (entries : Entries) (jar : PlainJar) → map_get order key entries ≡ Some jar → HasPlace (plain_key key) entries → 0 < jar.spare
place_spare key entries jar there has = subst (λ o. MatchOption o ⊥ (λ j. 0 < j.spare)) (sym (at_key key entries) ∙ there) has

-- a jar that has room is put in the place of one that is there
pub place_set : (key : CellKey) (entries : Entries) (jar new : PlainJar) → map_get order key entries ≡ Some jar → 1 ≤ new.spare → HasPlace (plain_key key) (map_set order key new entries)
place_set key entries jar new there room =
    let found : jar_at (plain_key key) (map_set order key new entries) ≡ Some new =
    found-set plain_key cell_order cell_order_total order alike (plain_key key) key new entries (ap is_some there)
    ∙ ap (λ b. cond b (Some new) (jar_at (plain_key key) entries)) (own_tie (plain_key key)) in
    subst (λ o. MatchOption o ⊥ (λ j. 0 < j.spare)) (sym found) (omega (arith, room))

-- where a change is not valid, and the cookies are none, none changes
pub row_none : (key : CellKey) (row : CookieRow) (entries after : Entries) → after ≡ entries → map_get order key entries ≡ None
    → row_fits (kind_of (plain_key key)) [] row ≡ false → IsRowDone (plain_key key) row entries after false
row_none key row entries after same none fails =
    subst (λ es. IsRowDone (plain_key key) row entries es false) (sym same)
    (row_done (plain_key key) row entries entries false (sym fits) (λ q. at q (eq_by_cmp cell_order q (plain_key key)) refl))
  where
    empty : cookies_at (plain_key key) entries ≡ []
    empty = cookies_there key entries None none

    fits : row_fits (kind_of (plain_key key)) (cookies_at (plain_key key) entries) row ≡ false
    fits = ap (λ cs. row_fits (kind_of (plain_key key)) cs row) empty ∙ fails

    at : (q : PlainKey) (b : Bool) → eq_by_cmp cell_order q (plain_key key) ≡ b
        → cookies_at q entries ≡ cond b (cookies_after_row (plain_key key) row entries) (cookies_at q entries)
    at q true tie =
        ap (λ k. cookies_at k entries) (equal_keys q (plain_key key) tie)
        ∙ sym (ap (λ b. cond b (row_edit (cookies_at (plain_key key) entries) row) (cookies_at (plain_key key) entries)) fits)
    at q false apart = refl

-- a jar that is there
module _ (key : CellKey) (entries : Entries) (jar : PlainJar) (there : Some jar ≡ map_get order key entries) where
  module _ (row : CookieRow) (kinds : HaveKinds entries) where
    fits_there : row_fits jar.kind jar.cookies row ≡ row_fits (kind_of (plain_key key)) (cookies_at (plain_key key) entries) row
    fits_there =
        ap (λ kind. row_fits kind jar.cookies row) (kind_there key entries jar kinds (sym there))
        ∙ ap (λ cs. row_fits (kind_of (plain_key key)) cs row) (sym (cookies_there key entries (Some jar) (sym there)))

    row_at : apply_row jar.kind jar.cookies row ≡ cookies_after_row (plain_key key) row entries
    row_at =
        ap (λ kind. apply_row kind jar.cookies row) (kind_there key entries jar kinds (sym there))
        ∙ ap (λ cs. apply_row (kind_of (plain_key key)) cs row) (sym (cookies_there key entries (Some jar) (sym there)))

    -- what does not fit the cell does not fit it
    pub refused_there : row_fits (kind_of (plain_key key)) (cookies_at (plain_key key) entries) row ≡ false → row_fits jar.kind jar.cookies row ≡ false
    refused_there fails = fits_there ∙ fails

  -- another is written in its place
  module _ (new : PlainJar) (after : Entries) (is : after ≡ map_set order key new entries) where
    -- jars stay of the kind of their key where it is of the same kind
    pub kinds_written : HaveKinds entries → new.kind ≡ jar.kind → HaveKinds after
    kinds_written kinds same =
        subst HaveKinds (sym is) (kinds_set key new entries kinds (same ∙ kind_there key entries jar kinds (sym there)) (ap is_some (sym there)))

    -- where it has the same cookies, each cell has what it had before room was made
    pub kept_written : HaveKinds entries → (before made : Entries) → new.cookies ≡ jar.cookies → entries ≡ made → HoldSame before made → HoldSame before after
    kept_written kinds before made kept seen same q =
        ap (cookies_at q) is ∙ change_set key (Stored new) entries jar new (sym there) kinds refl q ∙ at (eq_by_cmp cell_order q (plain_key key)) refl
        ∙ ap (cookies_at q) seen ∙ same q
      where
        at : (b : Bool) → eq_by_cmp cell_order q (plain_key key) ≡ b → cond b new.cookies (cookies_at q entries) ≡ cookies_at q entries
        at true tie = kept ∙ sym (cookies_there key entries (Some jar) (sym there)) ∙ ap (λ k. cookies_at k entries) (sym (equal_keys q (plain_key key) tie))
        at false apart = refl

    -- where a change makes its cookies, it is done in the cell
    pub row_written : (row : CookieRow) → HaveKinds entries → (done : Bool) → done ≡ row_fits jar.kind jar.cookies row
        → new.cookies ≡ apply_row jar.kind jar.cookies row → IsRowDone (plain_key key) row entries after done
    row_written row kinds done valid edited =
        subst (λ es. IsRowDone (plain_key key) row entries es done) (sym is)
        (row_done (plain_key key) row entries (map_set order key new entries) done (valid ∙ fits_there row kinds)
        (λ q. change_set key (Stored new) entries jar new (sym there) kinds refl q
        ∙ ap (λ cs. cond (eq_by_cmp cell_order q (plain_key key)) cs (cookies_at q entries)) (edited ∙ row_at row kinds)))

    pub row_written_ok : {E : Type 0} (row : CookieRow) → HaveKinds entries → (r : Result Bool E)
        → IfOk r (λ done. done ≡ row_fits jar.kind jar.cookies row) → OnOk r (new.cookies ≡ apply_row jar.kind jar.cookies row)
        → IfOk r (λ done. IsRowDone (plain_key key) row entries after done)
    row_written_ok row kinds (Ok done) valid edited = row_written row kinds done valid edited
    row_written_ok row kinds (Err why) valid edited = tt

-- a change of cookies that are the same
pub row_same : (cell : PlainKey) (row : CookieRow) (old mid new : Entries) (done : Bool) → HoldSame old mid → IsRowDone cell row mid new done → IsRowDone cell row old new done
row_same cell row old mid new done same is =
    let after = ap (λ cs. apply_row (kind_of cell) cs row) (same cell) in
    record {
      valid = is.valid ∙ ap (λ cs. row_fits (kind_of cell) cs row) (same cell);
      shared = is.shared ∙ (λ i. with_shared cell (after i) (shared_same old mid same i));
      partitioned = is.partitioned ∙ (λ i. with_partitioned cell (after i) (partitioned_same old mid same i));
    }

pub row_same_ok : {E : Type 0} (cell : PlainKey) (row : CookieRow) (old mid new : Entries) (r : Result Bool E) → HoldSame old mid
    → IfOk r (λ done. IsRowDone cell row mid new done) → IfOk r (λ done. IsRowDone cell row old new done)
row_same_ok cell row old mid new (Ok done) same is = row_same cell row old mid new done same is
row_same_ok cell row old mid new (Err why) same is = tt

-- ---- look-ups

-- the cookies of a jar that is lent, and none where none is
pub lent_cookies : (lent : Option (Bor PlainJar)) (jar : Option PlainJar) → option_copied lent ≡ jar
    → MatchOption lent (cookies_of jar ≡ []) (λ j. j.now.cookies ≡ cookies_of jar)
lent_cookies None jar is = ap cookies_of (sym is)
lent_cookies (Some lent) jar is = ap cookies_of is

pub lent_kind : (lent : Option (Bor PlainJar)) (jar : Option PlainJar) (kind : CellKind) → option_copied lent ≡ jar
    → IfSome jar (λ j. j.kind ≡ kind) → IfSome lent (λ j. j.now.kind ≡ kind)
lent_kind None jar kind is one = tt
lent_kind (Some lent) jar kind is one = subst (λ o. IfSome o (λ j. j.kind ≡ kind)) (sym is) one
