-- The disk's count of faults over the calls of an agent, whether or not it tells its contents.
-- Source: none; these are the words of the general law.
use Rattle.std.specs.Prelude.{◌≡◌, ℕ, ◌-◌, ◌^◌, ◌≤◌, min}
use Rattle.agent_base.specs.Counts.{Rose}
use Rattle.disk_model.specs.Disk.{View}
use Rattle.agent_core.specs.AgentView.{AgentView}
use Rattle.agent_core.specs.declared.agent.Power.TheVariants.{Down}

-- the count did not fall since it was so much, but for one past its last value, and rose where the
-- agent is down
abbrev pub RoseSince : {D : Type 0} → (tell : D → View) → (first : ℕ) → AgentView D → Type 0
RoseSince tell first v =
    (min first (2 ^ 64 - 1) ≤ (tell v.disk).faults)
    × (v.power ≡ Down → Rose first (tell v.disk).faults)

-- a call leaves it so
abbrev pub KeepsCount : {D : Type 0} → (tell : D → View) → (old new : AgentView D) → Type 0
KeepsCount tell old new = (first : ℕ) → RoseSince tell first old → RoseSince tell first new
