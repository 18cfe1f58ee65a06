use Rattle.std.proofs.Common.{◌≡◌, map, take}
use Rattle.script_lines.specs.Flat.{field_of_texts}
use Rattle.script_actions.specs.Plain.{head_field_of}
use Rattle.script_lines.proofs.heads.copied.Given as goal

abbrev pub invariant-loop-pair : goal.invariant-loop-pair
invariant-loop-pair l = map head_field_of l.fields.items ≡ map field_of_texts (take l.pair-index l.pairs)
