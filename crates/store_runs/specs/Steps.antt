-- The steps of a run, as contracts see them.
-- Source: none; it says how contracts see a type of this crate.
use Rattle.std.specs.Prelude.{List, map}
use Rattle.script_actions.specs.Action.{PlainStep}
use Rattle.script_actions.specs.Plain.{step_of}
use Rattle.script_actions.specs.declared.step.Line.{Line}

-- the steps of some lines, in their order
abbrev pub steps_of : List Line → List PlainStep
steps_of lines = map (λ line. step_of line.step) lines
