-- What serving over a disk is, from its opening on.
use Rattle.std.proofs.Common.{◌≡◌, ◌⊎◌, inl, inr, ℕ, true, List, [], ◌∷◌, Option, refl, sym, ap, subst, ◌∙◌}
use Rattle.agent_base.specs.Counts.{Rose}
use Rattle.disk_model.specs.Disk.{View}
use Rattle.journal.specs.Opening.{IsExcused, IsOfFile}
use Rattle.journal.specs.declared.open_fault.OpenFault.{OpenFault}
use Rattle.journal.specs.declared.open_fault.OpenFault.TheVariants as fault
use Rattle.agent_core.specs.AgentView.{is_down}
use Rattle.agent_core.specs.declared.agent.Power.{Power}
use Rattle.agent_core.specs.declared.agent.Power.TheVariants.{Up, Down, Spoilt}
use Rattle.store_runs.specs.FaultCounts.{RoseSince}
use Rattle.store_runs.specs.Openings.{GoesOn}
use Rattle.store_runs.proofs.StopLemmas.{goes_then}
use Rattle.line_session.specs.Calls.{LineCall}
use Rattle.line_session.specs.SessionView.{SessionView}
use Rattle.line_session.proofs.CallLemmas.{calls_go}
use Rattle.served_lines.specs.Disks.{IsExcusedEnd, IsStoreEnd, ended_by}
use Rattle.served_lines.specs.Serving.{AreServed, FoundNoStore, Serves, SinkCounts, SourceCounts}
use Rattle.served_lines.specs.declared.ending.Served.{Served}
use Rattle.served_lines.specs.declared.ending.Served.TheVariants.{Done, Device, Read, Write, Store, NoMemory}

-- ---- a store that was not opened

pub refused_reads : (why : OpenFault) (count : ℕ) → SourceCounts (ended_by why) count count
refused_reads fault.DeviceFault count = refl
refused_reads fault.NoMemory count = refl
refused_reads (fault.NotAStore offset) count = refl
refused_reads (fault.TooLarge len) count = refl

pub refused_writes : (why : OpenFault) (count : ℕ) → SinkCounts (ended_by why) count count
refused_writes fault.DeviceFault count = refl
refused_writes fault.NoMemory count = refl
refused_writes (fault.NotAStore offset) count = refl
refused_writes (fault.TooLarge len) count = refl

memory_device : NoMemory ≡ Device → ⊥
memory_device e = cc

store_device : (why : OpenFault) → Store why ≡ Device → ⊥
store_device why e = cc

-- by a call of the disk that failed
pub device_of : (why : OpenFault) → ended_by why ≡ Device → why ≡ fault.DeviceFault
device_of fault.DeviceFault is = refl
device_of fault.NoMemory is = absurd (memory_device is)
device_of (fault.NotAStore offset) is = absurd (store_device (fault.NotAStore offset) is)
device_of (fault.TooLarge len) is = absurd (store_device (fault.TooLarge len) is)

-- by a fault of the file
file_end : (why : OpenFault) → IsOfFile why → ended_by why ≡ Store why
file_end fault.DeviceFault of = absurd of
file_end fault.NoMemory of = absurd of
file_end (fault.NotAStore offset) of = refl
file_end (fault.TooLarge len) of = refl

-- by one that says nothing of it
excused_end : (why : OpenFault) → IsExcused why → IsExcusedEnd (ended_by why)
excused_end fault.DeviceFault is = inl refl
excused_end fault.NoMemory is = inr refl
excused_end (fault.NotAStore offset) is = absurd is
excused_end (fault.TooLarge len) is = absurd is

pub refused_so : (found why : OpenFault) (ending : Served) → ending ≡ ended_by found → IsOfFile why
    → (found ≡ why) ⊎ IsExcused found → (ending ≡ Store why) ⊎ IsExcusedEnd ending
refused_so found why ending is of (inl same) = inl (is ∙ ap ended_by same ∙ file_end why of)
refused_so found why ending is of (inr excused) = inr (subst IsExcusedEnd (sym is) (excused_end found excused))

pub refused_store : (why : OpenFault) → IsStoreEnd (ended_by why)
refused_store fault.DeviceFault = tt
refused_store fault.NoMemory = tt
refused_store (fault.NotAStore offset) = tt
refused_store (fault.TooLarge len) = tt

-- ---- lines that were served over a store

found_file : {D : Type 0} (why : OpenFault) (more : List (LineCall D)) → FoundNoStore why more → IsOfFile why
found_file why [] found = absurd found
found_file why (call ∷ more) found = found.1

is_fallen : (power : Power) → is_down power ≡ true → power ≡ Down
is_fallen Up down = cc
is_fallen Down down = refl
is_fallen Spoilt down = cc

module _ {D : Type 0} (tell : D → View) (first last : SessionView D) (before after taken took : Option (List ℕ)) where
  -- however serving ended, lines were given to the session
  any_served : (ending : Served) → Serves tell ending first last before after taken took
      → (calls : List (LineCall D)) × (unserved : List (List ℕ)) × AreServed tell first last before after calls unserved
  any_served Done s = (s.0.calls, _, s.0.served)
  any_served Device s = (s.0.calls, _, s.0.served)
  any_served Read s = (_, s.unserved, s.served)
  any_served Write s = (_, s.unserved, s.served)
  any_served (Store why) s = (_, s.unserved, s.served)
  any_served NoMemory s = (_, s.unserved, s.served)

  -- what is told of a store is a fault of its file
  pub served_store : (ending : Served) → Serves tell ending first last before after taken took → IsStoreEnd ending
  served_store Done s = tt
  served_store Device s = tt
  served_store Read s = tt
  served_store Write s = tt
  served_store (Store why) s = found_file why s.more s.stops
  served_store NoMemory s = tt

  -- the disk goes on telling
  pub served_goes : (ending : Served) → Serves tell ending first last before after taken took
      → GoesOn tell first.agent last.agent
  served_goes ending s =
      let all = any_served ending s in
      goes_then tell first.agent all.2.last.agent last.agent (calls_go tell all.0 first all.2.last all.2.follow)
      all.2.tended.goes_on

  -- and its count rose where the session is down
  pub served_down : (count : ℕ) → RoseSince tell count first.agent → (ending : Served)
      → Serves tell ending first last before after taken took → ending ≡ Device
      → Rose count (tell last.agent.disk).faults
  served_down count since ending s is =
      let at : Serves tell Device first last before after taken took =
      subst (λ e. Serves tell e first last before after taken took) is s in
      (at.0.served.counts count since).1 (is_fallen last.agent.power at.1)
