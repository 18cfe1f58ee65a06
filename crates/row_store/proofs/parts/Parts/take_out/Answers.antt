-- The cookie at the place is gone.
use Rattle.cookie_jar.specs.Key.{plain_key as plain_cell}
use Rattle.row_store.proofs.EditLemmas.{removed}
use Rattle.row_store.proofs.parts.Parts.take_out.Goals as goal

pub returns : goal.returns
returns c = record {
  edited = removed c.args.self.now.storage c.args.self.now.grants (plain_cell c.args.cell.now)
      c.args.place c.args.self.now.cookies c.remove_at.new.self
      c.remove_at.result c.remove_at.ensures.done;
}
