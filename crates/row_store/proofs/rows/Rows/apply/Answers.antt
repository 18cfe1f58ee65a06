-- A row change that is done keeps the parts standing, and a refusal leaves their state.
use Rattle.row_changes.specs.Plain.{plain_change}
use Rattle.row_store.proofs.PieceLemmas.{edit_standing}
use Rattle.row_store.proofs.rows.Rows.apply.Goals as goal

pub invariant_of-self : goal.invariant_of-self
invariant_of-self c =
    edit_standing (plain_change c.args.change) c.self.inside.parts c.edit.new.self c.edit.result
    c.lines_keep_durable_states.ensures.valid c.lines_have_spellings.ensures.rows
    c.requires.spelled
    c.edit.ensures.edited c.edit.ensures.undone c.self.invariant
