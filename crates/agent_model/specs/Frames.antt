-- Actions on the frames of a tab.
-- Source: HTML, "Navigables", "Navigation" and "Tracking user activation"; Storage Access API,
-- "Changes to navigation" (the document that replaces another of its origin keeps the access).
-- Our own choice: an action that names a frame that is not there is refused, and sends nothing. A
-- load goes by the frames of the tab before it. The top document is replaced by `go` and goes by
-- `close`, and by nothing else.
use Rattle.std.specs.Prelude.{ℕ, ◌==◌, Bool, pos, List, [], Option, Some, None}
use Rattle.std.specs.Prelude.{Result, Ok, Err, codes, if◌then◌else◌}
use Rattle.suffix_list.specs.Suffix.{Rule}
use Rattle.agent_base.specs.declared.refusals.Label.{Label}
use Rattle.origin_site.specs.Address.{PlainAddress}
use Rattle.frame_tree.specs.declared.tab.TreeFault.{TreeFault}
use Rattle.frame_tree.specs.declared.tab.TreeFault.TheVariants as fault
use Rattle.frame_tree.specs.Sandbox.{sandbox_of}
use Rattle.frame_tree.specs.Tree.{PlainFrame, has_frame}
use Rattle.frame_tree.specs.Calls.{added, navigated, without, activated}
use Rattle.origin_site.specs.Site.{PlainSite}
use Rattle.live_state.specs.Tabs.{PlainTab}
use Rattle.script_actions.specs.declared.words.Method.{Method}
use Rattle.script_actions.specs.Action.{HeadField}
use Rattle.reply_lines.specs.Reply.{PlainBody, Plain}
use Rattle.agent_model.specs.TabChanges.{Framed, tab_becomes}
use Rattle.agent_model.specs.Effects.{Effect, answers, ok}
use Rattle.agent_model.specs.CookieUses.{frame_use, is_granted_nav, nav_use}
use Rattle.agent_model.specs.Cookies.{request}

-- ---- every action on frames

-- the answer to a line that the frames refuse. None of them is refused for want of memory.
abbrev pub refused_by : TreeFault → PlainBody
refused_by fault.NoFrame = Plain (codes "no-frame")
refused_by fault.FrameExists = Plain (codes "frame-exists")
refused_by fault.NoMemory = Plain []

-- a tab has these frames, and then this happens; or the line is refused. A frame whose document is
-- replaced has an empty queue.
abbrev pub on_frames : ℕ → PlainTab → (replaced : Option ℕ) → (List PlainFrame → Effect)
    → Result (List PlainFrame) TreeFault → Effect
on_frames number tab replaced next (Ok frames) cells held =
    next frames cells (tab_becomes number (Framed frames replaced (Some tab)) held)
on_frames number tab replaced next (Err why) cells held = answers (refused_by why) cells held

-- the frames afterwards, where this one is among them
abbrev pub where_there : ℕ → List PlainFrame → List PlainFrame → Result (List PlainFrame) TreeFault
where_there frame frames after = if has_frame frame frames then Ok after else Err fault.NoFrame

-- the same of a frame below the top
abbrev pub where_below : ℕ → Result (List PlainFrame) TreeFault → Result (List PlainFrame) TreeFault
where_below frame after = if frame == 0 then Err fault.NoFrame else after

-- ---- loads of frames

-- the frames after one was added, or why it is refused
abbrev pub frames_added : List Rule → Label → ℕ → PlainAddress → Option (List ℕ) → Bool
    → List PlainFrame → Result (List PlainFrame) TreeFault
frames_added rules at parent url sandbox deny frames =
    added rules parent at.frame url (sandbox_of sandbox) deny frames

-- a frame is added, and loads its address: a request below its parent
abbrev pub add_frame : List Rule → ℕ → PlainSite → Label → ℕ → PlainAddress → Option (List ℕ) → Bool
    → List HeadField → PlainTab → Effect
add_frame rules now site at parent url sandbox deny head tab =
    on_frames at.tab tab None
    (λ frames. request rules now (frame_use rules site parent tab.frames url) head)
    (frames_added rules at parent url sandbox deny tab.frames)

-- The frames after one went to an address, or why it is refused. Its new document has storage
-- access where access was granted to its load.
abbrev pub frames_navigated : List Rule → Label → PlainAddress → (by_self : Bool)
    → List PlainFrame → Result (List PlainFrame) TreeFault
frames_navigated rules at url by_self frames =
    let keep_flag = is_granted_nav by_self at.frame frames url in
    where_below at.frame (navigated rules at.frame url keep_flag frames)

-- a frame goes to an address: a request below its parent, which its own document starts or its
-- parent's
abbrev pub navigate_frame : List Rule → ℕ → PlainSite → Label → PlainAddress → (by_self : Bool)
    → Method → List HeadField → PlainTab → Effect
navigate_frame rules now site at url by_self method head tab =
    on_frames at.tab tab (Some at.frame)
    (λ frames. request rules now (nav_use rules site at.frame tab.frames url by_self method) head)
    (frames_navigated rules at url by_self tab.frames)

-- ---- removals and clicks

-- the frames after one was removed, or why it is refused
abbrev pub frames_removed : Label → List PlainFrame → Result (List PlainFrame) TreeFault
frames_removed at frames =
    where_below at.frame (where_there at.frame frames (without at.frame frames))

-- a frame is removed
abbrev pub remove_frame : Label → PlainTab → Effect
remove_frame at tab =
    on_frames at.tab tab None (λ frames. answers ok) (frames_removed at tab.frames)

-- the frames after a click at this moment, or why it is refused
abbrev pub frames_clicked : ℕ → Label → List PlainFrame → Result (List PlainFrame) TreeFault
frames_clicked now at frames = where_there at.frame frames (activated at.frame (pos now) frames)

-- a user clicks on a document
abbrev pub click : ℕ → Label → PlainTab → Effect
click now at tab =
    on_frames at.tab tab None (λ frames. answers ok) (frames_clicked now at tab.frames)
