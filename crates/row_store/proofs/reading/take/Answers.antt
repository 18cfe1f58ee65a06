-- A row change that is valid is done, which keeps the parts standing.
use Rattle.std.proofs.Common.{subst, sym}
use Rattle.row_changes.specs.Plain.{plain_change}
use Rattle.row_store.specs.Edits.{IsEdited, IsTaken}
use Rattle.row_store.proofs.PieceLemmas.{done}
use Rattle.row_changes.specs.Pieces.{plain_piece}
use Rattle.row_store.proofs.reading.take.Goals as goal

pub returns-in-Ok-true-clause-taken : goal.returns-in-Ok-true-clause-taken
returns-in-Ok-true-clause-taken c =
    subst (λ piece. IsTaken (plain_piece piece) c.args.parts.now c.edit.new.self 0) (sym c.in-Row.is)
    (done c.in-Row.at (plain_change c.in-Row.change)
    c.args.parts.now c.edit.new.self c.lines_keep_durable_states.ensures.valid c.lines_have_spellings.ensures.rows
    (subst (IsEdited (plain_change c.in-Row.change) c.args.parts.now c.edit.new.self)
    c.in-Ok-true.field-0-test c.in-Ok-true.ensures.edited))
