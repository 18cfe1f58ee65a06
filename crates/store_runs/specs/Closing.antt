-- The calls behind the last line: the last commit, and the checkpoint behind it.
-- Source: none; these are the words of the general law.
use Rattle.std.specs.Prelude.{◌≡◌, ◌⊎◌, ℕ, true, List, [], ◌++◌, length}
use Rattle.unwinding.specs.Course.{AtBase}
use Rattle.agent_base.specs.Counts.{Rose}
use Rattle.disk_model.specs.Disk.{View}
use Rattle.suffix_list.specs.Suffix.{Rule}
use Rattle.agent_model.specs.Isolation.{text_of}
use Rattle.agent_core.specs.AgentView.{AgentView, may_of, owes}
use Rattle.agent_core.specs.Means.{AgentMay, Fails, Same, after_commit}
use Rattle.agent_core.specs.Seen.{AgentSeen, IsSeen}
use Rattle.store_runs.specs.Calls.{Breaks, IsQuiet, Pays, StaysOrRose}
use Rattle.store_runs.specs.CutCourses.{Moment, moment_of}
use Rattle.store_runs.specs.declared.ending.Ending.{Ending}
use Rattle.store_runs.specs.declared.ending.Ending.TheVariants.{Done, Device, Store, Write, Memory}

-- the endings of such a call
abbrev pub IsEnd : Ending → Type 0
IsEnd Done = Unit {0}
IsEnd Device = Unit {0}
IsEnd Memory = Unit {0}
IsEnd Write = ⊥
IsEnd (Store why) = ⊥

-- what was held was committed
abbrev pub Commits : List Rule → (a b : AgentSeen) → AgentMay → Type 0
Commits rules a b may' = (a.up ≡ true) × (b ≡ after_commit rules a) × AtBase b.base may'

-- it was, or nothing was held and the agent is as it was
abbrev pub HoldsNone : List Rule → (a b : AgentSeen) → (may may' : AgentMay) → Type 0
HoldsNone rules a b may may' =
    Commits rules a b may' ⊎ ((a.up ≡ true) × (a.held ≡ []) × Same a may b may')

-- what such a call gives out waits, too
abbrev pub EndsWith : List Rule → (a b : AgentSeen) → (may may' : AgentMay) → (old new : View)
    → Ending → (before now : List ℕ) → Type 0
EndsWith rules a b may may' old new Done before now =
    HoldsNone rules a b may may' × (now ≡ before ++ text_of a.held)
    × (IsQuiet a old → IsQuiet b new)
EndsWith rules a b may may' old new Device before now =
    Fails rules a a b may may' (a.up ≡ true) × (now ≡ before) × (IsQuiet a old → ⊥)
    × (a.up ≡ true → Rose old.faults new.faults)
EndsWith rules a b may may' old new Memory before now =
    (Commits rules a b may' ⊎ Same a may b may') × (now ≡ before)
EndsWith rules a b may may' old new Write before now = ⊥
EndsWith rules a b may may' old new (Store why) before now = ⊥

-- what the calls of such an end make of the cuts to come: they pay for what was pending, or one of
-- them was cut
abbrev pub Spends : Ending → AgentSeen → (from to : Moment) → Type 0
Spends Done a from to = Pays (length a.pending) from to
Spends Device a from to = Breaks a.up (length a.pending) from to
Spends ending a from to = Unit {0}

-- the same of an agent; the disk's count stays or rises
abbrev pub Ends : {D : Type 0} → (tell : D → View) → (old new : AgentView D) → Ending
    → (before now : List ℕ) → Type 0
Ends tell old new ending before now =
    (a : AgentSeen) → IsSeen old (tell old.disk) a
    → (b : AgentSeen) × IsSeen new (tell new.disk) b
    × EndsWith old.memory.rules a b (may_of old (tell old.disk)) (may_of new (tell new.disk))
    (tell old.disk) (tell new.disk) ending before now
    × StaysOrRose (tell old.disk).faults (tell new.disk).faults
    × Spends ending a (moment_of tell old) (moment_of tell new)

-- once all is written: the ending stays, or a run that was done ends as the checkpoint does that
-- the agent owed
abbrev pub Closes : {D : Type 0} → (tell : D → View) → (old new : AgentView D)
    → (asked answered : Ending) → Type 0
Closes tell old new asked answered =
    ((answered ≡ asked) × (new ≡ old))
    ⊎ ((asked ≡ Done) × (owes old ≡ true) × IsEnd answered × Ends tell old new answered [] [])
