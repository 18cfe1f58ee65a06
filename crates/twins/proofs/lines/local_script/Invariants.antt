-- The agent stands on a course of the lines so far, and what they give the site is collected.
use Rattle.std.proofs.Common.{take}
use Rattle.origin_site.specs.Plain.{plain_site}
use Rattle.store_runs.specs.Steps.{steps_of}
use Rattle.twins.specs.Collecting.{Collects}
use Rattle.twins.specs.Settings.{setting}
use Rattle.twins.proofs.lines.local_script.Given as goal

abbrev pub invariant-loop-line : goal.invariant-loop-line
invariant-loop-line l = Collects (setting l.list (plain_site l.site) l.fn.options) l.agent
    (steps_of (take l.line-index l.lines)) l.found
