-- The open tabs after a change of the frames of one.
-- Source: HTML, "Navigables" and "Navigation"; Storage Access API, "requestStorageAccess()".
-- Our own choice: a tab that is not open has no frame, so a call that names one is refused.
use Rattle.std.specs.Prelude.{◌≡◌, ℕ, Bool, List, Option, Some, Result, OnErr, OnOk, if◌then◌else◌}
use Rattle.frame_tree.specs.Calls.{consumed, flagged, with_document}
use Rattle.frame_tree.specs.Tree.{PlainFrame, top_site}
use Rattle.live_state.specs.Queues.{StayReadyBut, frames_by, goes}
use Rattle.live_state.specs.Tabs.{PlainLive, PlainTab, made_tab, tab_at, tabs_put}

-- the frames of the tab of a number, and none where it is not open
abbrev pub frames_at : ℕ → List PlainTab → List PlainFrame
frames_at number tabs = frames_by (tab_at number tabs)

-- the tabs are those before, with the frames that this one has now
abbrev pub IsPutIn : ℕ → Option ℕ → (old new : List PlainTab) → Type 0
IsPutIn number fresh old new = new ≡ tabs_put number (frames_at number new) fresh old

-- a call changes the frames of one open tab, and nothing else. The tab keeps its site, and each
-- ready queue that stays is ready still. A refusal leaves all as it was.
pub record ChangesTab {T E : Type 0} (number : ℕ) (fresh : Option ℕ) (result : Result T E)
    (old new : PlainLive) : Type 0 where
  pub put : OnOk result (IsPutIn number fresh old.tabs new.tabs)
  pub unchanged : OnErr result (new ≡ old)
  pub site : top_site (frames_at number new.tabs) ≡ top_site (frames_at number old.tabs)
  pub room : new.room ≡ old.room
  pub sites : new.sites ≡ old.sites
  pub kept : StayReadyBut (goes number (frames_at number new.tabs) fresh) old new

-- the frames with storage access in the document of this one, where it is given
abbrev pub given : (gives : Bool) → ℕ → List PlainFrame → List PlainFrame
given gives frame frames = if gives then with_document frame flagged frames else frames

-- the frames after a request for storage access of this one came to its end: its document has the
-- access, where it is given, and no document of the tab is active, where that is consumed
abbrev pub requested : (gives consumes : Bool) → ℕ → List PlainFrame → List PlainFrame
requested gives consumes frame frames =
    let with_access = given gives frame frames in
    if consumes then consumed with_access else with_access

-- a tab is the one before, with the frames that it has now
abbrev pub IsRemade : Option ℕ → (old new : PlainTab) → Type 0
IsRemade fresh old new = new ≡ made_tab old.number new.frames fresh (Some old)
