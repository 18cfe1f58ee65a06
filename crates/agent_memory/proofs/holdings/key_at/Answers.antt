-- The tab has the key, or the document has none, or there is no document.
use Rattle.std.proofs.Common.{refl, sym, subst}
use Rattle.std.specs.Prelude.{option_map}
use Rattle.storage_key.specs.Plain.{plain_key}
use Rattle.frame_tree.specs.Keys.{key_of_document}
use Rattle.agent_memory.specs.Documents.{IsFound}
use Rattle.agent_memory.specs.declared.holdings.Found.TheVariants.{Keyed, NoFrame, Opaque}
use Rattle.agent_memory.proofs.FoundLemmas.{key_found, no_key_found}
use Rattle.agent_memory.proofs.holdings.key_at.Goals as goal

pub returns-in-Some : goal.returns-in-Some
returns-in-Some c = record {
  found =
      subst (λ wanted. IsFound wanted (Keyed c.in-Some.key))
      (sym (key_found c.args.frame c.args.tab.now (plain_key c.in-Some.key.now) (sym c.in-Some.ensures.key))) refl;
}

pub returns-in-Some-document : goal.returns-in-Some-document
returns-in-Some-document c = record {
  found =
      subst (λ wanted. IsFound wanted Opaque)
      (sym (no_key_found c.args.frame c.args.tab.now _ (sym c.in-None.ensures.key) (sym c.in-Some-document.ensures.document))) tt;
}

pub returns-in-None-document : goal.returns-in-None-document
returns-in-None-document c = record {
  found = subst (λ document. IsFound (option_map (key_of_document c.args.frame c.args.tab.now) document)
      NoFrame) c.in-None-document.ensures.document tt;
}
