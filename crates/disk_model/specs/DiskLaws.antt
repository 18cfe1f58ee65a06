-- What holds of all that a disk tells, whatever was called.
-- Source: none.
-- Our own choice: the laws are part of the model of a device.
use Rattle.std.specs.Prelude.{true, ◌≡◌, ℕ, ◌<◌, ◌≤◌, List, Some, All}
use Rattle.disk_model.specs.Disk.{View}

-- what a disk tells, or a file, keeps to these
pub record IsLawful (view : View) : Type 0 where
  -- this moment is one of those since an earlier one
  pub counts_now : (t : ℕ) (c : List ℕ) → t ≤ view.moment → view.may_leave c → view.left_since t c
  -- since this moment there is no other
  pub only_now : (c : List ℕ) → view.left_since view.moment c → view.may_leave c
  -- what is told since a moment is told since each earlier one
  pub earlier : (s t : ℕ) (c : List ℕ) → s ≤ t → view.left_since t c → view.left_since s c
  -- what tells has contents, and nothing else has
  pub told : view.tells ≡ true → (c : List ℕ) × (view.contents ≡ Some c)
  pub tells_contents : (c : List ℕ) → view.contents ≡ Some c → view.tells ≡ true
  -- what a read returns is one of the images
  pub contents_may_stay : (c : List ℕ) → view.contents ≡ Some c → view.may_leave c
  -- what tells nothing has no images
  pub untold : (t : ℕ) (c : List ℕ) → view.left_since t c → view.tells ≡ true
  -- the cuts to come lie ahead: no changing call has passed one
  pub cuts_ahead : (cuts : List ℕ) → view.cuts ≡ Some cuts → All (λ cut. view.changing < cut) cuts
