-- What bodies mean that are written from row changes which are valid one after another, what
-- snapshots mean, and which states have one.
-- Source: none; they are about our own definitions.
use Rattle.std.specs.Prelude.{◌≡◌, ◌≤◌, true, false, List, [], ◌∷◌, length, fold, Ok}
use Rattle.std.specs.List.{All, flat_map}
use Rattle.std.specs.FinMap as finite
use Rattle.suffix_list.specs.Suffix.{Rule}
use Rattle.storage_key.specs.Key.{PlainKey}
use Rattle.local_area.specs.Area.{HasDistinctNames, area_weight, quota}
use Rattle.cookie_jar.specs.Cookie.{keeps_limits}
use Rattle.cookie_jar.specs.Key.{PlainKey as PlainCell}
use Rattle.cookie_jar.specs.Persistent.{persistent_part}
use Rattle.access_grants.specs.Grant.{HasDistinctPairs}
use Rattle.row_changes.specs.Change.{PlainChange, AreaPut, SetMode, CookieInsert, Grant}
use Rattle.row_changes.specs.Spelled.{IsSpelled, IsSpelledUnder}
use Rattle.row_changes.specs.Body.{changes_bytes, rows_bytes}
use Rattle.row_changes.specs.Laws.{IsWritable}
use Rattle.durable_model.specs.Saved.{IsKeptCell, IsValid, Saved, cookies_at, kind_of, nothing_saved}
use Rattle.durable_model.specs.Saved.{pairs_at}
use Rattle.durable_model.specs.RowEdits.{AreValid, after_changes, edited, is_valid}
use Rattle.row_store.specs.Bodies.{body_means}
use Rattle.row_store.specs.Kept.{kept_of}
use Rattle.row_store.specs.Listing.{listed}

-- each row change of these durable changes is valid in the state before it
abbrev pub AreAllValid : Saved → List (List PlainChange) → Type 0
AreAllValid d [] = Unit {0}
AreAllValid d (changes ∷ later) = AreValid d changes × AreAllValid (after_changes d changes) later

-- a body of durable changes that have a spelling, and are valid one after another, means the state
-- after all of them, and as many durable changes as were written
abbrev pub WrittenBodiesMean : Type 0
WrittenBodiesMean = (d : Saved) (written : List (List PlainChange))
    → All IsWritable written → AreAllValid d written
    → body_means d false (flat_map changes_bytes written)
    ≡ Ok (fold after_changes d written, length written)

-- what each state has that row changes lead to: the pairs of an area have distinct names and keep
-- the quota; a cell is one as it outlives a restart and keeps its limits; permissions are of
-- distinct pairs of sites
pub record IsStorable (d : Saved) : Type 0 where
  pub names : (key : PlainKey) → HasDistinctNames (pairs_at key d)
  pub weights : (key : PlainKey) → area_weight (pairs_at key d) ≤ quota
  pub cells : (cell : PlainCell) → IsKeptCell (cookies_at cell d)
  pub limits : (cell : PlainCell) → keeps_limits (kind_of cell) (cookies_at cell d) ≡ true
  pub grants : HasDistinctPairs d.under.grants

-- the state in which nothing is durable is so, and a valid row change keeps it
abbrev pub EditsKeepStorable : Type 0
EditsKeepStorable =
    IsStorable nothing_saved
    × ((d : Saved) (change : PlainChange) → is_valid change d ≡ true → IsStorable d
    → IsStorable (edited change d))

-- a snapshot of such a state means this state, from whichever state it is read
abbrev pub SnapshotsMean : Type 0
SnapshotsMean = (e d : Saved) → IsStorable d → All IsSpelled (listed d)
    → body_means e true (rows_bytes (listed d)) ≡ Ok (d, 0)

-- of each area, mode, cell and permission of a state, the row changes that make it again are of a
-- kind, whatever place a cookie gets
pub record IsMadeBy (IsOf : PlainChange → Type 0) (d : Saved) : Type 0 where
  pub pairs : (key : PlainKey)
      → All (λ pair. IsOf (AreaPut key pair.name pair.value)) (pairs_at key d)
  pub modes : (key : PlainKey) → finite.contains_key d.under.persistent key ≡ true
      → IsOf (SetMode key)
  pub cookies : (cell : PlainCell)
      → All (λ cookie. IsOf (CookieInsert cell 0 cookie)) (cookies_at cell d)
  pub grants : All (λ row. IsOf (Grant row)) d.under.grants

-- what each state has that row changes with a spelling lead to
abbrev pub IsSpelledState : Saved → Type 0
IsSpelledState d = IsMadeBy IsSpelled d

-- what each state has that row changes with a spelling under the rules of a list lead to
abbrev pub IsSpelledStateUnder : List Rule → Saved → Type 0
IsSpelledStateUnder rules d = IsMadeBy (IsSpelledUnder rules) d

-- the state in which nothing is durable is made by row changes of a kind, and one more keeps it so
abbrev pub EditsKeep : (PlainChange → Type 0) → Type 0
EditsKeep IsOf =
    IsMadeBy IsOf nothing_saved
    × ((d : Saved) (change : PlainChange) → IsOf change → IsMadeBy IsOf d
    → IsMadeBy IsOf (edited change d))

-- so are those with a spelling, and those with one under the rules of a list
abbrev pub EditsKeepSpelled : Type 0
EditsKeepSpelled = EditsKeep IsSpelled

abbrev pub EditsKeepSpelledUnder : Type 0
EditsKeepSpelledUnder = (rules : List Rule) → EditsKeep (IsSpelledUnder rules)

-- each row change of a snapshot of a state is of the kind by which the state is made
abbrev pub SnapshotsAre : (PlainChange → Type 0) → Type 0
SnapshotsAre IsOf = (d : Saved) → IsStorable d → IsMadeBy IsOf d → All IsOf (listed d)

-- so each has a spelling, and one under the rules of a list
abbrev pub SnapshotsAreSpelled : Type 0
SnapshotsAreSpelled = SnapshotsAre IsSpelled

abbrev pub SnapshotsAreSpelledUnder : Type 0
SnapshotsAreSpelledUnder = (rules : List Rule) → SnapshotsAre (IsSpelledUnder rules)

-- what outlives a restart of a state has of each cell what outlives one of its cookies
abbrev pub KeepsEachCell : Type 0
KeepsEachCell = (d : Saved) (cell : PlainCell)
    → cookies_at cell (kept_of d) ≡ persistent_part (cookies_at cell d)

-- all outlives a restart of a state whose cells are as they outlive one
abbrev pub KeepsKept : Type 0
KeepsKept = (d : Saved) → IsValid d → kept_of d ≡ d
