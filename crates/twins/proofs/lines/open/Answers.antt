use Rattle.std.proofs.Common.{◌≡◌, [], Some, inl, inr, refl, ap, ◌∙◌, arith}
use Rattle.disk_model.specs.MemDisk.{numbers_of}
use Rattle.durable_model.specs.Saved.{nothing_saved}
use Rattle.row_opening.proofs.Calls.{nothing_under}
use Rattle.store_runs.proofs.DiskLemmas.{held_nothing}
use Rattle.twins.specs.Settings.{setting}
use Rattle.twins.proofs.LeadLemmas.{leads_begin}
use Rattle.twins.proofs.lines.open.Goals as goal

pub returns-in-Ok : goal.returns-in-Ok
returns-in-Ok c = record {
  opened = λ site.
      let seen = c.in-Ok.ensures.seen in
      let rules = c.in-Ok.ensures.rules in
      let powered = c.in-Ok.ensures.powered in
      let empty = held_nothing c.new-disk.result.past (c.new-disk.ensures.contents.0 ∙ c.new.ensures.items)
      c.new-disk.ensures.contents.1 in
      let list = c.args.list.now in
      let nothing : seen.0 ≡ nothing_saved =
      seen.3.2 [] list.digest nothing_saved 0 empty (inr (inl (omega arith), refl, refl, refl))
      ∙ nothing_under list.rules in
      leads_begin (setting c.args.list.now site c.args.options) c.in-Ok.agent seen.0 nothing rules.0 rules.2
      (omega (arith, c.requires.batch.0)) seen.3.0 seen.3.1 powered.after
      (powered.cuts ∙ c.new-disk.ensures.cuts c.new-3.ensures.items ∙ ap (λ cuts. Some (numbers_of cuts)) c.new-2.ensures.items);
}
