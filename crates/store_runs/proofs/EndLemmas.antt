-- What an ending says, where what waits was written or writing it failed.
use Rattle.std.proofs.Common.{◌≡◌, ◌⊎◌, inl, inr, ℕ, true, false, List, [], Option, refl, sym, ap, subst, ⊎_elim, ◌∙◌, arith}
use Rattle.std.proofs.lemmas.Bool.{true≢false}
use Rattle.agent_base.specs.Counts.{Rose}
use Rattle.agent_base.specs.Streams.{Takes}
use Rattle.disk_model.specs.Disk.{View}
use Rattle.journal.specs.Opening.{IsExcused, IsLimitRefusal, IsOfFile}
use Rattle.journal.specs.declared.open_fault.OpenFault.{OpenFault}
use Rattle.journal.specs.declared.open_fault.OpenFault.TheVariants as fault
use Rattle.script_actions.specs.Action.{PlainStep}
use Rattle.suffix_list.specs.Suffix.{Rule}
use Rattle.unwinding.specs.CourseSteps.{committed}
use Rattle.agent_core.specs.AgentView.{AgentView, may_of, owes}
use Rattle.agent_core.specs.Means.{AgentMay, after_commit}
use Rattle.agent_core.specs.Seen.{AgentSeen, IsSeen}
use Rattle.agent_core.specs.declared.agent.Power.{Power}
use Rattle.agent_core.specs.declared.agent.Power.TheVariants.{Up}
use Rattle.store_runs.specs.Calls.{Stops, Unsettled}
use Rattle.store_runs.specs.Closing.{Closes, EndsWith, HoldsNone, IsEnd}
use Rattle.store_runs.specs.Endings.{IsLimitEnding, IsStoreEnding, TellsPower, WriteCounts, ending_of}
use Rattle.store_runs.specs.Tidy.{IsTidyAt}
use Rattle.store_runs.specs.Waiting.{Ended}
use Rattle.store_runs.specs.declared.ending.Ending.{Ending}
use Rattle.store_runs.specs.declared.ending.Ending.TheVariants.{Done, Device, Store, Write, Memory}
use Rattle.store_runs.proofs.AgentLemmas.{holds_none, none_due}
use Rattle.store_runs.proofs.CourseLemmas.{up_after_commit}
use Rattle.store_runs.proofs.TidyLemmas.{tidy_files}

pub write_done : Write ≡ Done → ⊥
write_done e = cc

-- what holds of the ending that was asked for, and of a failed write, holds of the ending
pub ended_so : (P : Ending → Type 0) (asked answered : Ending) (before after : Option (List ℕ))
    (count later : ℕ) (waiting : List ℕ) → P asked → P Write → Ended asked answered before after count later waiting → P answered
ended_so P asked answered before after count later waiting holds failed ended =
    ⊎_elim (λ ok. subst P (sym ok.0) holds) (λ fault. subst P (sym fault.0) failed) ended

-- an end that is answered by `Done` was asked for, and all that waited was written
pub ended_done : (asked answered : Ending) (before after : Option (List ℕ)) (count later : ℕ)
    (waiting : List ℕ) → Ended asked answered before after count later waiting → answered ≡ Done
    → (asked ≡ Done) × Takes before after waiting
ended_done asked answered before after count later waiting ended is = ⊎_elim
    (λ ok. (sym ok.0 ∙ is, ok.1.0))
    (λ fault. absurd (write_done (sym fault.0 ∙ is)))
    ended

-- the count of the output after an end, if it stayed until then
pub ended_counts : (asked answered : Ending) (before after : Option (List ℕ)) (first count later : ℕ)
    (waiting : List ℕ) → count ≡ first → (later ≡ first → WriteCounts asked first later)
    → Ended asked answered before after count later waiting
    → WriteCounts answered first later
ended_counts asked answered before after first count later waiting still stays ended = ⊎_elim
    (λ ok. subst (λ ending. WriteCounts ending first later) (sym ok.0) (stays (ok.1.1 ∙ still)))
    (λ fault. subst (λ ending. WriteCounts ending first later) (sym fault.0) (subst (λ n. Rose n later) still fault.1.1))
    ended

-- an end without a fault of the output
pub end_stays : (ending : Ending) (first later : ℕ) → IsEnd ending → later ≡ first → WriteCounts ending first later
end_stays Done first later ends stays = stays
end_stays Device first later ends stays = stays
end_stays Memory first later ends stays = stays
end_stays Write first later ends stays = absurd ends
end_stays (Store why) first later ends stays = absurd ends

-- it tells of no store
pub end_store : (ending : Ending) → IsEnd ending → IsStoreEnding ending
end_store Done ends = tt
end_store Device ends = tt
end_store Memory ends = tt
end_store Write ends = tt
end_store (Store why) ends = absurd ends

-- a stop at a line is no fault of the output, tells of a fault of a file, and is not `Device`
module _ {D : Type 0} (tell : D → View) (old new : AgentView D) (step : PlainStep) where
  pub stop_stays : (ending : Ending) (first later : ℕ) → Stops tell old new step ending → later ≡ first
      → WriteCounts ending first later
  stop_stays Done first later stops stays = absurd stops
  stop_stays Device first later stops stays = absurd stops
  stop_stays Memory first later stops stays = stays
  stop_stays Write first later stops stays = absurd stops
  stop_stays (Store why) first later stops stays = stays

  pub stop_store : (ending : Ending) → Stops tell old new step ending → IsStoreEnding ending
  stop_store Done stops = absurd stops
  stop_store Device stops = absurd stops
  stop_store Memory stops = tt
  stop_store Write stops = absurd stops
  stop_store (Store why) stops = stops.0

  pub stop_device : (P : Type 0) (ending : Ending) → Stops tell old new step ending → ending ≡ Device → P
  stop_device P ending stops is = absurd (subst (Stops tell old new step) is stops)

  -- and is not `Done`
  pub stop_done : (P : Type 0) (ending : Ending) → Stops tell old new step ending → ending ≡ Done → P
  stop_done P ending stops is = absurd (subst (Stops tell old new step) is stops)

  pub stop_power : (ending : Ending) (power : Power) → Stops tell old new step ending → TellsPower ending power
  stop_power Done power stops = absurd stops
  stop_power Device power stops = absurd stops
  stop_power Memory power stops = tt
  stop_power Write power stops = absurd stops
  stop_power (Store why) power stops = tt

pub write_device : Write ≡ Device → ⊥
write_device e = cc

-- a stop between two lines is a failed write or want of memory
module _ {D : Type 0} (tell : D → View) (old new : AgentView D) (before after : Option (List ℕ))
    (count later : ℕ) (waiting : List ℕ) where
  pub unsettled_stays : (ending : Ending) (first : ℕ) → count ≡ first
      → Unsettled tell old new before after count later waiting ending → WriteCounts ending first later
  unsettled_stays Done first still stops = absurd stops
  unsettled_stays Device first still stops = absurd stops
  unsettled_stays Memory first still stops = stops.1 ∙ still
  unsettled_stays Write first still stops = subst (λ n. Rose n later) still stops.1
  unsettled_stays (Store why) first still stops = absurd stops

  -- so it tells of no store, and is neither `Device` nor `Done`
  pub unsettled_store : (ending : Ending) → Unsettled tell old new before after count later waiting ending → IsStoreEnding ending
  unsettled_store Done stops = tt
  unsettled_store Device stops = tt
  unsettled_store Memory stops = tt
  unsettled_store Write stops = tt
  unsettled_store (Store why) stops = absurd stops

  pub unsettled_device : (P : Type 0) (ending : Ending)
      → Unsettled tell old new before after count later waiting ending → ending ≡ Device → P
  unsettled_device P ending stops is = absurd (subst (Unsettled tell old new before after count later waiting) is stops)

  pub unsettled_done : (P : Type 0) (ending : Ending)
      → Unsettled tell old new before after count later waiting ending → ending ≡ Done → P
  unsettled_done P ending stops is = absurd (subst (Unsettled tell old new before after count later waiting) is stops)

  pub unsettled_power : (ending : Ending) (power : Power)
      → Unsettled tell old new before after count later waiting ending → TellsPower ending power
  unsettled_power Done power stops = absurd stops
  unsettled_power Device power stops = absurd stops
  unsettled_power Memory power stops = tt
  unsettled_power Write power stops = tt
  unsettled_power (Store why) power stops = tt

-- a commit leaves no reply
none_held : (rules : List Rule) (a : AgentSeen) → (after_commit rules a).held ≡ []
unfolding committed
none_held rules a = refl

-- the agent after a commit, or where nothing was held: it is up and holds no reply
pub holds_up : (rules : List Rule) (a b : AgentSeen) (may may' : AgentMay) → HoldsNone rules a b may may' → b.up ≡ true
holds_up rules a b may may' (inl done) = ap (λ s. s.up) done.1 ∙ up_after_commit rules a
holds_up rules a b may may' (inr (up, none, same)) = ap (λ s. s.up) same.0 ∙ up

holds_nothing : (rules : List Rule) (a b : AgentSeen) (may may' : AgentMay) → HoldsNone rules a b may may' → b.held ≡ []
holds_nothing rules a b may may' (inl done) = ap (λ s. s.held) done.1 ∙ none_held rules a
holds_nothing rules a b may may' (inr (up, none, same)) = ap (λ s. s.held) same.0 ∙ none

-- so that none is due where it owes no checkpoint
pub ends_tidy : {D : Type 0} (v : AgentView D) (view : View) (rules : List Rule) (a b : AgentSeen)
    (may may' : AgentMay) (old new : View) (ending : Ending) (before now : List ℕ) → IsSeen v view b
    → EndsWith rules a b may may' old new ending before now → ending ≡ Done
    → owes v ≡ false → IsTidyAt v view
ends_tidy v view rules a b may may' old new ending before now seen ends is owed =
    let holds : HoldsNone rules a b may may' = (subst (λ e. EndsWith rules a b may may' old new e before now) is ends).0 in
    let up = holds_up rules a b may may' holds in
    let none = none_due v (seen.up.0 up) (holds_none v view b seen up (holds_nothing rules a b may may' holds)) owed in
    (none, tidy_files v view b seen up none)

-- the agent after the last commit
pub ends_power : (rules : List Rule) (a b : AgentSeen) (may may' : AgentMay) (old new : View)
    (ending : Ending) (before now : List ℕ) (power : Power) → (b.up ≡ true → power ≡ Up)
    → (power ≡ Up → b.up ≡ true) → EndsWith rules a b may may' old new ending before now
    → TellsPower ending power
ends_power rules a b may may' old new Done before now power up is_up ends = up (holds_up rules a b may may' ends.0)
ends_power rules a b may may' old new Device before now power up is_up ends = λ is. true≢false (sym (is_up is) ∙ ends.0.down)
ends_power rules a b may may' old new Memory before now power up is_up ends = tt
ends_power rules a b may may' old new Write before now power up is_up ends = absurd ends
ends_power rules a b may may' old new (Store why) before now power up is_up ends = absurd ends

-- ---- the checkpoint behind the last commit

module _ {D : Type 0} (tell : D → View) (here new : AgentView D) (asked answered : Ending)
    (closes : Closes tell here new asked answered) where
  -- it tells of no store, and is no fault of the output
  pub closes_store : IsStoreEnding asked → IsStoreEnding answered
  closes_store told = ⊎_elim (λ same. subst IsStoreEnding (sym same.0) told) (λ last. end_store answered last.2) closes

  pub closes_stays : (first later : ℕ) → WriteCounts asked first later → WriteCounts answered first later
  closes_stays first later counts = ⊎_elim
      (λ same. subst (λ e. WriteCounts e first later) (sym same.0) counts)
      (λ last. end_stays answered first later last.2 (subst (λ e. WriteCounts e first later) last.0 counts))
      closes

  module _ (b : AgentSeen) (seen : IsSeen here (tell here.disk) b) where
    -- the agent after it
    pub closes_power : TellsPower asked here.power → TellsPower answered new.power
    closes_power told = ⊎_elim
        (λ same. subst (λ e. TellsPower e new.power) (sym same.0) (subst (λ v. TellsPower asked v.power) (sym same.1) told))
        (λ last.
        let more = last.3 b seen in
        ends_power here.memory.rules b more.0 (may_of here (tell here.disk)) (may_of new (tell new.disk))
        (tell here.disk) (tell new.disk) answered [] [] new.power more.1.up.0 more.1.up.1 more.2)
        closes

    -- at `Done` no checkpoint is due
    pub closes_tidy : (asked ≡ Done → owes here ≡ false → IsTidyAt here (tell here.disk)) → answered ≡ Done
        → owes new ≡ false → IsTidyAt new (tell new.disk)
    closes_tidy tidy is owed = ⊎_elim
        (λ same. subst (λ v. IsTidyAt v (tell v.disk)) (sym same.1)
        (tidy (sym same.0 ∙ is) (subst (λ v. owes v ≡ false) same.1 owed)))
        (λ last.
        let more = last.3 b seen in
        ends_tidy new (tell new.disk) here.memory.rules b more.0 (may_of here (tell here.disk))
        (may_of new (tell new.disk)) (tell here.disk) (tell new.disk) answered [] [] more.1 more.2 is owed)
        closes

-- a first opening that was refused is no fault of the output, and tells of a fault of a file
pub refused_stays : (why : OpenFault) (count : ℕ) → WriteCounts (ending_of why) count count
refused_stays fault.DeviceFault count = refl
refused_stays fault.NoMemory count = refl
refused_stays (fault.NotAStore offset) count = refl
refused_stays (fault.TooLarge len) count = refl

pub refused_store : (why : OpenFault) → IsStoreEnding (ending_of why)
refused_store fault.DeviceFault = tt
refused_store fault.NoMemory = tt
refused_store (fault.NotAStore offset) = tt
refused_store (fault.TooLarge len) = tt

-- it never ends as `Done`
pub refused_done : (P : Type 0) (why : OpenFault) → ending_of why ≡ Done → P
refused_done P why is = absurd (never why is)
  where
    never : (why : OpenFault) → ending_of why ≡ Done → ⊥
    never fault.DeviceFault is = cc
    never fault.NoMemory is = cc
    never (fault.NotAStore offset) is = cc
    never (fault.TooLarge len) is = cc

-- it ends as `Device` for a device fault alone
pub refused_device : (why : OpenFault) → ending_of why ≡ Device → why ≡ fault.DeviceFault
refused_device fault.DeviceFault is = refl
refused_device fault.NoMemory is = absurd (memory_device is)
  where
    memory_device : Memory ≡ Device → ⊥
    memory_device e = cc
refused_device (fault.NotAStore offset) is = absurd (store_device is)
  where
    store_device : Store (fault.NotAStore offset) ≡ Device → ⊥
    store_device e = cc
refused_device (fault.TooLarge len) is = absurd (store_device is)
  where
    store_device : Store (fault.TooLarge len) ≡ Device → ⊥
    store_device e = cc

-- the ending of a fault of a file, and of an excuse
file_ending : (why : OpenFault) → IsOfFile why → ending_of why ≡ Store why
file_ending fault.DeviceFault of = absurd of
file_ending fault.NoMemory of = absurd of
file_ending (fault.NotAStore offset) of = refl
file_ending (fault.TooLarge len) of = refl

excused_ending : (why : OpenFault) → IsExcused why → (ending_of why ≡ Device) ⊎ (ending_of why ≡ Memory)
excused_ending fault.DeviceFault excused = inl refl
excused_ending fault.NoMemory excused = inr refl
excused_ending (fault.NotAStore offset) excused = absurd excused
excused_ending (fault.TooLarge len) excused = absurd excused

-- where a file has a refusal, the run ends by it, or it is excused
pub refused_exactly : (found why : OpenFault) → IsOfFile why → (found ≡ why) ⊎ IsExcused found
    → (ending_of found ≡ Store why) ⊎ ((ending_of found ≡ Device) ⊎ (ending_of found ≡ Memory))
refused_exactly found why of (inl same) = inl (ap ending_of same ∙ file_ending why of)
refused_exactly found why of (inr excused) = inr (excused_ending found excused)

-- a file over the limit ends the run by its length, or by a failed call
pub limit_ends : (why : OpenFault) (ending : Ending) (file : List ℕ) → ending ≡ ending_of why
    → IsLimitRefusal file why → IsLimitEnding file ending
limit_ends why ending file is (inl large) = inl (is ∙ ap ending_of large)
limit_ends why ending file is (inr fault) = inr (is ∙ ap ending_of fault)
