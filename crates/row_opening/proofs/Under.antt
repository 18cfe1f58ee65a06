-- What an opening under a list leaves, behind the journal's.
use Rattle.std.proofs.Common.{◌≡◌, true, List, ℕ, refl}
use Rattle.std.specs.Prelude.{Some}
use Rattle.disk_model.specs.Disk.{LeavesOnly, View}
use Rattle.disk_model.specs.DiskLaws.{IsLawful}
use Rattle.journal.specs.Opening.{IsOpening}
use Rattle.open_store.specs.Reopens.{IsReopening, IsStood}
use Rattle.suffix_list.specs.ListText.{RuleList}
use Rattle.durable_model.specs.Migrate.{migrate, stays_whole}
use Rattle.durable_model.specs.Saved.{Saved, nothing_saved}
use Rattle.row_store.specs.Bodies.{Takes}
use Rattle.row_opening.specs.Opened.{IsReopeningUnder}
use Rattle.row_opening.specs.Settling.{IsSettling}
use Rattle.row_opening.specs.Under.{IsOpeningUnder, MeansUnder, migrates}
use Rattle.row_opening.proofs.Leaves.{opening_leaves, reopening_leaves}
use Rattle.row_opening.proofs.Openings.{stays_quiet}

module _ (list : RuleList) (whole : stays_whole list.rules nothing_saved ≡ true) (kept : List ℕ) (d : Saved) (n : ℕ) (v m w : View) (between : IsLawful m) (now : List ℕ) (told : m.contents ≡ Some now) (second : LeavesOnly m w (IsSettling list kept d n now)) where
  pub opening_under : (c : List ℕ) → MeansUnder list.digest kept c d n → LeavesOnly v m (IsOpening list.digest c) → LeavesOnly v w (IsOpeningUnder list c)
  opening_under c means first = opening_leaves Takes nothing_saved list.digest (migrate list.rules) (migrates list) (stays_quiet list list.digest nothing_saved refl whole) kept d n v m w between now told second c means first

  pub reopening_under : IsLawful w → IsStood Takes nothing_saved list.digest kept v d n → ((t : ℕ) (file : List ℕ) → m.left_since t file → IsReopening list.digest v file)
      → (t : ℕ) (file : List ℕ) → w.left_since t file → IsReopeningUnder list v file
  reopening_under after stood since t file left = reopening_leaves Takes nothing_saved list.digest (migrate list.rules) (migrates list) (stays_quiet list list.digest nothing_saved refl whole) kept d n v m w between now told second after stood since t file left
