-- What is to be collected of a course, and that a program stands on a course and has collected it.
-- Source: none; these are the words of the general law.
use Rattle.std.specs.Prelude.{◌≡◌, ℕ, List, [], ◌∷◌, ◌++◌, bytes_eq}
use Rattle.unwinding.specs.Admissible.{Stretch, epochs, next_opening}
use Rattle.unwinding.specs.Course.{Course, course_steps, executed_lines}
use Rattle.unwinding.specs.CourseSteps.{IsOn, MayFind, SeenOf, base_of, begins, last_opening}
use Rattle.unwinding.specs.Epochs.{all_changes, tried}
use Rattle.unwinding.specs.LocalEntries.{local_entries, touched_after}
use Rattle.unwinding.specs.LocalScript.{happenings, local_items}
use Rattle.unwinding.specs.World.{is_in, replies, world_after}
use Rattle.suffix_list.specs.Suffix.{Rule}
use Rattle.origin_site.specs.Site.{PlainSite}
use Rattle.script_actions.specs.Action.{PlainAction, PlainStep}
use Rattle.agent_model.specs.CookieCells.{Domain}
use Rattle.agent_model.specs.Lines.{AgentWorld}
use Rattle.agent_model.specs.TheMachine.{machine}
use Rattle.durable_model.specs.Histories.{AgentOpening}
use Rattle.durable_model.specs.Keeping.{keeping}
use Rattle.printed_model.specs.Histories.{closed_downs}
use Rattle.script_courses.specs.Collected.{Collected, Tally, tally_of}

-- ---- what is to be collected

-- the domains that others have left different, after some closed epochs too
abbrev pub closed_touched : List Rule → PlainSite → List Domain → AgentOpening
    → List (Stretch PlainAction) → List Domain
closed_touched rules site touched opening [] = touched
closed_touched rules site touched opening (s ∷ ss) =
    closed_touched rules site
    (touched_after (machine rules) site touched (begins (machine rules) keeping opening)
    (tried s.epoch))
    (next_opening (machine rules) keeping opening s) ss

-- what is the site's of some lines
abbrev pub lines_tally : List Rule → PlainSite → AgentWorld → List PlainAction → Tally
lines_tally rules site world lines =
    tally_of rules site (replies (machine rules) world lines)
    (all_changes (machine rules) world lines)

-- What is to be collected of a course: the items of its closed epochs, the entries of the open one,
-- and what is the site's of its lines.
unfoldable pub collected_on : List Rule → PlainSite → AgentOpening → Course PlainAction → Collected
collected_on rules site x r =
    let m = machine rules in
    let world = begins m keeping (last_opening m keeping x r) in
    let touched = closed_touched rules site [] x r.closed in
    record {
      items =
          local_items m keeping site [] x.rest x.state (epochs r.closed)
          ++ happenings (local_entries m site touched world (executed_lines r));
      changed = is_in bytes_eq site.host (touched_after m site touched world (executed_lines r));
      answered = lines_tally rules site world r.answered;
      waiting = lines_tally rules site (world_after m world r.answered) r.waiting;
    }

-- the world in which a course stands
abbrev pub world_on : List Rule → AgentOpening → Course PlainAction → AgentWorld
world_on rules x r =
    world_after (machine rules)
    (begins (machine rules) keeping (last_opening (machine rules) keeping x r)) (executed_lines r)

-- how many durable changes the lines have made whose batch was committed
abbrev pub committed_on : List Rule → AgentOpening → Course PlainAction → ℕ
committed_on rules x r =
    (base_of (machine rules) keeping (last_opening (machine rules) keeping x r) r.answered).count

-- The agent stands on a course of these lines from an opening, none of which was answered `down`,
-- and this is collected of it. It is what a loop over the lines keeps.
pub record OnScript (rules : List Rule) (batch : ℕ) (site : PlainSite) (x : AgentOpening)
    (a : SeenOf (machine rules) keeping) (may : MayFind (machine rules) keeping)
    (steps : List PlainStep) (c : Collected) : Type 0 where
  pub course : Course PlainAction
  pub on : IsOn (machine rules) keeping batch x course a may
  pub runs : course_steps course ≡ steps
  pub quiet : closed_downs course.closed ++ course.downs ≡ []
  pub collected : c ≡ collected_on rules site x course
