use Rattle.std.proofs.Common.{◌≡◌, map, take}
use Rattle.script_actions.specs.Plain.{head_field_of}
use Rattle.script_actions.proofs.action.copy_of_head.Given as goal

abbrev pub invariant-loop-field : goal.invariant-loop-field
invariant-loop-field l = map head_field_of l.copy.items ≡ map head_field_of (take l.field-index l.head)
