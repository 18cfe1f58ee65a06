-- The cookie outlives a restart, and stands in the place of the same one.
use Rattle.std.proofs.Common.{sym, ◌∙◌}
use Rattle.cookie_jar.specs.Key.{plain_key as plain_cell}
use Rattle.cookie_jar.specs.Plain.{plain_cookie}
use Rattle.row_store.proofs.EditLemmas.{replaced}
use Rattle.row_store.proofs.parts.Parts.replace.Goals as goal

pub returns-then-is_kept : goal.returns-then-is_kept
returns-then-is_kept c = record {
  edited = replaced c.args.self.now.storage c.args.self.now.grants (plain_cell c.args.cell.now)
      c.args.place c.args.self.now.cookies c.replace_at.new.self
      (plain_cookie c.args.cookie) c.replace_at.result (sym c.is_kept.ensures ∙ c.if-is_kept.true) c.replace_at.ensures.done;
}
