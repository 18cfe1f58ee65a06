-- How what is to be collected of a course grows, and that it is the local script in the end.
-- Source: none; these are the words of the general law.
use Rattle.std.specs.Prelude.{◌≡◌, ℕ, Bool, List, [], bytes_eq}
use Rattle.unwinding.specs.Course.{Course, answer_all, empty_course, reopen, wait}
use Rattle.unwinding.specs.CourseSteps.{SeenOf, history_of, holding, last_opening, stands}
use Rattle.unwinding.specs.LocalEntries.{line_entries, line_touched}
use Rattle.unwinding.specs.World.{is_in}
use Rattle.suffix_list.specs.Suffix.{Rule}
use Rattle.origin_site.specs.Site.{PlainSite}
use Rattle.script_actions.specs.Action.{PlainAction}
use Rattle.agent_model.specs.CookieCells.{Domain}
use Rattle.agent_model.specs.Lines.{AgentWorld}
use Rattle.agent_model.specs.TheMachine.{machine}
use Rattle.durable_model.specs.Histories.{AgentOpening, history_script}
use Rattle.durable_model.specs.Keeping.{keeping}
use Rattle.script_courses.specs.Collected.{both, line_tally, nothing_collected, tally_of}
use Rattle.script_courses.specs.Collected.{with_commit, with_line, with_restart}
use Rattle.script_courses.specs.Courses.{collected_on, committed_on, world_on}

-- ---- how it grows

-- at the beginning
abbrev pub BeginsWithNothing : Type 0
BeginsWithNothing = (rules : List Rule) (site : PlainSite) (x : AgentOpening)
    → collected_on rules site x empty_course ≡ nothing_collected

-- a line that waits for its batch
abbrev pub GrowsByLine : Type 0
GrowsByLine = (rules : List Rule) (site : PlainSite) (x : AgentOpening) (r : Course PlainAction)
    (line : PlainAction)
    → collected_on rules site x (wait r line)
    ≡ with_line rules site (world_on rules x r) line (collected_on rules site x r)

-- a commit of what waits
abbrev pub GrowsByCommit : Type 0
GrowsByCommit = (rules : List Rule) (site : PlainSite) (x : AgentOpening) (r : Course PlainAction)
    → collected_on rules site x (answer_all r) ≡ with_commit (collected_on rules site x r)

-- a restart that finds the durable changes of the committed lines, where no line was answered
-- `down`
abbrev pub GrowsByRestart : Type 0
GrowsByRestart = (rules : List Rule) (site : PlainSite) (x : AgentOpening) (r : Course PlainAction)
    (kept : ℕ) → r.downs ≡ [] → kept ≡ committed_on rules x r
    → collected_on rules site x (reopen r kept)
    ≡ with_restart (world_on rules x r).rest.now (collected_on rules site x r)

-- at the end: the items of the local script are those that were collected, and what closes the last
-- epoch
abbrev pub EndsWithScript : Type 0
EndsWithScript = (rules : List Rule) (site : PlainSite) (x : AgentOpening) (r : Course PlainAction)
    (committed : Bool) → r.downs ≡ []
    → (history_script rules site x (history_of (machine rules) keeping x committed r)).script.items
    ≡ (with_restart (world_on rules x r).rest.now (collected_on rules site x r)).items

-- ---- what waits

-- what waits is the site's of the replies and durable changes that an agent on the course holds
abbrev pub WaitsAsHeld : Type 0
WaitsAsHeld = (rules : List Rule) (site : PlainSite) (x : AgentOpening) (r : Course PlainAction)
    → let a = stands (machine rules) keeping (last_opening (machine rules) keeping x r) r in
    (collected_on rules site x r).waiting ≡ tally_of rules site a.held a.pending

-- a line that waits adds to both
abbrev pub HoldsMore : Type 0
HoldsMore = (rules : List Rule) (site : PlainSite) (a : SeenOf (machine rules) keeping)
    (line : PlainAction)
    → let b = holding (machine rules) keeping a line in
    tally_of rules site b.held b.pending
    ≡ both (tally_of rules site a.held a.pending) (line_tally rules site a.world line)

-- ---- which cookies matter

-- Two lists of domains that others have left different give a site the same entries of a line,
-- where they agree on the site's own domain, and agree on it afterwards.
abbrev pub GoesByOwnDomain : Type 0
GoesByOwnDomain = (rules : List Rule) (site : PlainSite) (touched other : List Domain)
    (world : AgentWorld) (line : PlainAction)
    → is_in bytes_eq site.host touched ≡ is_in bytes_eq site.host other
    → (line_entries (machine rules) site touched world line
    ≡ line_entries (machine rules) site other world line)
    × (is_in bytes_eq site.host (line_touched (machine rules) site touched world line)
    ≡ is_in bytes_eq site.host (line_touched (machine rules) site other world line))
