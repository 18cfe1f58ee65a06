-- What is told of a line, and that an agent stands on a course and what is collected of it.
-- Source: none; these are the words of the general law.
use Rattle.std.specs.Prelude.{◌≡◌, ℕ, ◌+◌, ◌<◌, ◌^◌, Bool, true, false, List, ◌∷◌, [], ◌++◌}
use Rattle.std.specs.Prelude.{Option, Some, None, length}
use Rattle.unwinding.specs.Durable.{changes_of_site, line_changes}
use Rattle.unwinding.specs.FiniteCells.{get_cell}
use Rattle.unwinding.specs.World.{line_reply, of_site, world_step}
use Rattle.disk_model.specs.MemDisk.{MemView, view_of}
use Rattle.suffix_list.specs.Suffix.{Rule}
use Rattle.origin_site.specs.Site.{PlainSite}
use Rattle.cookie_jar.specs.Cookie.{PlainJar}
use Rattle.script_actions.specs.Action.{PlainAction, PlainStep}
use Rattle.agent_model.specs.CookieCells.{domain_order}
use Rattle.agent_model.specs.Lines.{AgentWorld}
use Rattle.agent_model.specs.TheMachine.{machine}
use Rattle.printed_model.specs.Histories.{begins_at}
use Rattle.script_courses.specs.Collected.{Collected, with_line}
use Rattle.script_courses.specs.Courses.{OnScript}
use Rattle.script_courses.specs.Twins.{TwinSetting}
use Rattle.local_scripts.specs.Seen.{IsGivenAt}
use Rattle.agent_core.specs.AgentView.{AgentView, may_of}
use Rattle.agent_core.specs.Seen.{AgentSeen, IsSeen}
use Rattle.store_runs.specs.Calls.{IsQuiet}
use Rattle.twins.specs.Collectors.{collected_of}
use Rattle.twins.specs.Scripts.{Gives}
use Rattle.twins.specs.declared.before.Before.{Before}
use Rattle.twins.specs.declared.collector.Collector.{Collector}
use Rattle.twins.specs.declared.scripts.LocalScript.{LocalScript}

-- ---- a line

-- the cookies of the site's domain were kept exactly where a line asks for them
abbrev pub IsCopied : PlainSite → AgentWorld → (asks : Bool) → Option PlainJar → Type 0
IsCopied site world asks None = asks ≡ false
IsCopied site world asks (Some jar) =
    (asks ≡ true) × (jar.cookies ≡ get_cell domain_order world.cells site.host)

-- what is told of a line before it runs
pub record IsBefore (rules : List Rule) (site : PlainSite) (changed : Bool) (a : AgentSeen)
    (line : PlainAction) (before : Before) : Type 0 where
  pub given : IsGivenAt rules site changed a.world line before.line
  pub kept : IsCopied site a.world before.line.asks before.cookies
  pub changes : before.changes ≡ a.base.count + length a.pending

-- a line ran, whether it waits or not
pub record HasRun (rules : List Rule) (a : AgentSeen) (line : PlainAction) (b : AgentSeen)
    : Type 0 where
  pub world : b.world ≡ world_step (machine rules) a.world line
  pub changes : b.base.count + length b.pending
      ≡ a.base.count + length a.pending + length (line_changes (machine rules) a.world line)

-- it was collected, as long as the count of changes keeps in range
abbrev pub TakesLine : List Rule → PlainSite → AgentWorld → PlainAction → (old new : Collector)
    → Type 0
TakesLine rules site world line old new =
    let m = machine rules in
    (waiting : ℕ)
    → old.waiting + length (changes_of_site m site (line_changes m world line)) < 2 ^ 64
    → collected_of new (waiting + length (of_site m site (line_reply m world line ∷ [])))
    ≡ with_line rules site world line (collected_of old waiting)

-- ---- a run

-- an agent over a disk in memory
abbrev pub MemAgent : Type 0
MemAgent = AgentView MemView

-- it is up, and no call of its disk can fail
abbrev pub IsStill : MemAgent → Type 0
IsStill agent =
    (a : AgentSeen) × IsSeen agent (view_of agent.disk) a × IsQuiet a (view_of agent.disk)

-- the agent stands on a course of these lines over a new store, of which this is collected, and no
-- call of its disk can fail
pub record StandsOnCourse (at : TwinSetting) (agent : MemAgent) (steps : List PlainStep)
    (c : Collected) : Type 0 where
  pub rules : agent.memory.rules ≡ at.rules
  pub batch : agent.batch ≡ at.batch
  pub some : 0 < at.batch
  pub a : AgentSeen
  pub seen : IsSeen agent (view_of agent.disk) a
  pub quiet : IsQuiet a (view_of agent.disk)
  pub on : OnScript at.rules at.batch at.site (begins_at at.start) a
      (may_of agent (view_of agent.disk)) steps c

-- this is what a collector has of it
abbrev pub Collects : TwinSetting → MemAgent → List PlainStep → Collector → Type 0
Collects at agent steps found =
    (waiting : ℕ) × StandsOnCourse at agent steps (collected_of found waiting)

-- a line leads from one to the next, wherever a run of not too many lines stands
abbrev pub Leads : PlainSite → PlainStep → (old : MemAgent) → (before : Collector)
    → (new : MemAgent) → (after : Collector) → Type 0
Leads site step old before new after =
    (at : TwinSetting) (steps : List PlainStep) → at.site ≡ site → length steps + 1 < 2 ^ 64
    → Collects at old steps before → Collects at new (steps ++ step ∷ []) after

-- the end of a run: the local script is this one, and its counts keep in range
abbrev pub EndsAs : PlainSite → MemAgent → Collector → LocalScript → Type 0
EndsAs site agent found script =
    (at : TwinSetting) (steps : List PlainStep) → at.site ≡ site → length steps + 1 < 2 ^ 64
    → Collects at agent steps found → Gives at steps script
