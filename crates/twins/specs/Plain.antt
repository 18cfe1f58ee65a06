-- The answer to two scripts as contracts see it.
-- Source: none; it says how contracts see a type of this crate.
use Rattle.script_courses.specs.Twins as model
use Rattle.twins.specs.declared.answer.Twin.{Twin}
use Rattle.twins.specs.declared.answer.Twin.TheVariants.{Equal, LocalDiffer}

-- an answer
abbrev pub plain_twin : Twin → model.Twin
plain_twin (Equal lines) = model.Equal lines
plain_twin (LocalDiffer entry) = model.LocalDiffer entry
