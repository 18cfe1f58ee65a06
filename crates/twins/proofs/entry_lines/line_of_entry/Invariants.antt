-- The agent stands on a course of the lines so far, what they give the site is collected, and the
-- entry is not among it.
use Rattle.std.proofs.Common.{◌≤◌, length, take}
use Rattle.origin_site.specs.Plain.{plain_site}
use Rattle.store_runs.specs.Steps.{steps_of}
use Rattle.twins.specs.Collecting.{Collects}
use Rattle.twins.specs.Settings.{setting}
use Rattle.twins.proofs.entry_lines.line_of_entry.Given as goal

abbrev pub invariant-loop-line : goal.invariant-loop-line
invariant-loop-line l = record {
  collects : Collects (setting l.list (plain_site l.site) l.fn.options) l.agent
      (steps_of (take l.line-index l.lines)) l.found;
  few : length l.found.items.items ≤ l.fn.entry;
}
