-- The cookie outlives a restart, and is put where that is valid.
use Rattle.std.proofs.Common.{sym, ◌∙◌}
use Rattle.cookie_jar.specs.Key.{plain_key as plain_cell}
use Rattle.cookie_jar.specs.Plain.{plain_cookie}
use Rattle.row_store.proofs.EditLemmas.{cookies_stay, inserted_ok}
use Rattle.row_store.proofs.parts.Parts.insert.Goals as goal

pub returns : goal.returns
returns c = record {
  edited = inserted_ok c.args.self.now.storage c.args.self.now.grants (plain_cell c.args.cell.now)
      c.args.place c.args.self.now.cookies c.insert_at.new.self
      (plain_cookie c.args.cookie) c.insert_at.result (sym c.is_kept.ensures ∙ c.if-not-is_kept.false) c.insert_at.ensures.done;
  undone = cookies_stay c.args.self.now.storage c.args.self.now.grants c.args.self.now.cookies
      c.insert_at.new.self c.insert_at.result
      c.insert_at.ensures.shared c.insert_at.ensures.partitioned;
  ready = c.insert_at.ensures.ready;
}
