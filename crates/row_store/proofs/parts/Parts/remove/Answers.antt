-- The name is removed where it is there. Memory is never wanting for a local area.
use Rattle.std.proofs.Common.{refl, ◌∙◌}
use Rattle.storage_key.specs.Plain.{plain_key}
use Rattle.agent_model.specs.Partition.{no_holdings}
use Rattle.web_storage.specs.Stored.{held_with}
use Rattle.row_store.proofs.EditLemmas.{is_there, removed_name}
use Rattle.row_store.proofs.parts.Parts.remove.Goals as goal

pub returns-in-Ok : goal.returns-in-Ok
unfolding no_holdings held_with
returns-in-Ok c = record {
  edited = removed_name c.args.self.now.cookies c.args.self.now.grants (plain_key c.args.key.now)
      c.args.name.now c.args.self.now.storage c.remove.new.self
      c.is_some.result (c.is_some.ensures ∙ is_there c.in-Ok.value _ (c.in-Ok.ensures.value no_holdings))
      c.in-Ok.ensures.removed;
}

pub returns-in-Err : goal.returns-in-Err
returns-in-Err c = record { edited = absurd (cc (c.in-Err.ensures.local refl)) }
