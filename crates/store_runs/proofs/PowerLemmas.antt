-- The disk's count of faults over the calls of a run, by whether the agent is down.
use Rattle.std.proofs.Common.{◌≡◌, ⊎_elim, ℕ, ◌+◌, ◌-◌, ◌^◌, ◌≤◌, min, refl, sym, subst, ◌∙◌, arith}
use Rattle.std.specs.Prelude.{Result, Ok, Err, MatchResult}
use Rattle.agent_base.specs.Counts.{Rose}
use Rattle.disk_model.specs.Disk.{View}
use Rattle.journal.specs.declared.open_fault.OpenFault.{OpenFault}
use Rattle.journal.specs.declared.open_fault.OpenFault.TheVariants as fault
use Rattle.agent_core.specs.AgentView.{AgentView}
use Rattle.agent_core.specs.Calls.{OutcomeDevice, PowerAfter, RestartDevice}
use Rattle.agent_core.specs.Standing.{power_of}
use Rattle.agent_core.specs.declared.agent.Power.{Power}
use Rattle.agent_core.specs.declared.agent.Power.TheVariants.{Up, Down as PowerDown, Spoilt}
use Rattle.agent_core.specs.declared.outcome.Outcome.{Outcome}
use Rattle.agent_core.specs.declared.outcome.Outcome.TheVariants.{Replies, Held, Down, NoMemory}
use Rattle.store_runs.specs.FaultCounts.{KeepsCount, RoseSince}
use Rattle.store_runs.proofs.AgentLemmas.{not_down, replies_down}

pub up_down : Up ≡ PowerDown → ⊥
up_down e = cc

spoilt_down : Spoilt ≡ PowerDown → ⊥
spoilt_down e = cc

down_up : PowerDown ≡ Up → ⊥
down_up e = cc

spoilt_up : Spoilt ≡ Up → ⊥
spoilt_up e = cc

-- over two calls
pub counts_then : {D : Type 0} (tell : D → View) (old mid new : AgentView D) → KeepsCount tell old mid → KeepsCount tell mid new
    → KeepsCount tell old new
counts_then tell old mid new was goes = λ first since. goes first (was first since)

-- where nothing was called
pub counts_same : {D : Type 0} (tell : D → View) (old new : AgentView D) → new ≡ old → KeepsCount tell old new
counts_same tell old new same = λ first since. subst (RoseSince tell first) (sym same) since

pub counts_still : {D : Type 0} (tell : D → View) (v : AgentView D) → KeepsCount tell v v
counts_still tell v = λ first since. since

-- an agent that is up has a count that did not fall
pub counts_up : {D : Type 0} (tell : D → View) (v : AgentView D) → v.power ≡ Up → RoseSince tell (tell v.disk).faults v
counts_up tell v up = (omega arith, λ down. absurd (up_down (sym up ∙ down)))

module _ {D : Type 0} (tell : D → View) (old new : AgentView D) where
  -- the count stays, and the agent is not down
  stays_up : (tell new.disk).faults ≡ (tell old.disk).faults → (new.power ≡ PowerDown → ⊥) → KeepsCount tell old new
  stays_up same up = λ first since. (omega (arith, since.0, same), λ down. absurd (up down))

  -- it rose
  rises : Rose (tell old.disk).faults (tell new.disk).faults → KeepsCount tell old new
  rises rose = λ first since. (omega (arith, since.0, rose), λ down. omega (arith, since.0, rose))

  -- a line or a flush
  pub call_counts_on : {most : ℕ} (outcome : Outcome)
      → (old.power ≡ Up → OutcomeDevice most outcome (tell old.disk) (tell new.disk))
      → PowerAfter outcome old.power new.power → ((old.power ≡ Up → ⊥) → new ≡ old) → KeepsCount tell old new
  call_counts_on outcome device after off = by old.power refl
    where
      still : (told : Outcome) → outcome ≡ told → (told ≡ Down → ⊥) → (new.power ≡ old.power) → old.power ≡ Up
          → KeepsCount tell old new
      still told is other same up = stays_up ((device up).others (λ e. other (sym is ∙ e))).faults
          (λ down. up_down (sym (same ∙ up) ∙ down))

      called : (told : Outcome) → outcome ≡ told → old.power ≡ Up → PowerAfter told old.power new.power
          → KeepsCount tell old new
      called (Replies given) is up same = still (Replies given) is (replies_down given) same up
      called Held is up same = still Held is (not_down Held (λ wrong. wrong)) same up
      called NoMemory is up same = still NoMemory is (not_down NoMemory (λ wrong. wrong)) same up
      called Down is up same = rises ((device up).down is).0

      by : (power : Power) → old.power ≡ power → KeepsCount tell old new
      by Up is = called outcome refl is after
      by PowerDown is = counts_same tell old new (off (λ up. down_up (sym is ∙ up)))
      by Spoilt is = counts_same tell old new (off (λ up. spoilt_up (sym is ∙ up)))

  -- a restart
  spoilt_counts : (why : OpenFault) → RestartDevice (Err why) (tell old.disk) (tell new.disk) → new.power ≡ Spoilt
      → KeepsCount tell old new
  spoilt_counts why device is =
      ⊎_elim (λ failed. rises (device.counted failed)) (λ same. stays_up same.0 (λ down. spoilt_down (sym is ∙ down))) device.others

  pub restart_counts_on : (result : Result ℕ OpenFault) → RestartDevice result (tell old.disk) (tell new.disk)
      → MatchResult result (λ kept. new.power ≡ Up) (λ why. new.power ≡ power_of why) → KeepsCount tell old new
  restart_counts_on (Ok kept) device power =
      ⊎_elim (λ wrong. absurd (opened wrong)) (λ same. stays_up same.0 (λ down. up_down (sym power ∙ down))) device.others
    where
      opened : ◌≡◌ {A = Result ℕ OpenFault} (Ok kept) (Err fault.DeviceFault) → ⊥
      opened e = cc
  restart_counts_on (Err fault.DeviceFault) device power = rises (device.counted refl)
  restart_counts_on (Err fault.NoMemory) device power = spoilt_counts fault.NoMemory device power
  restart_counts_on (Err (fault.NotAStore offset)) device power = spoilt_counts (fault.NotAStore offset) device power
  restart_counts_on (Err (fault.TooLarge len)) device power = spoilt_counts (fault.TooLarge len) device power
