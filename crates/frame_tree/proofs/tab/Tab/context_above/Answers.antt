-- The chain without its last document is that of the parent.
use Rattle.std.proofs.Common.{ap, length, map, take, ◌-◌, ◌∙◌}
use Rattle.origin_site.specs.Plain.{plain_site}
use Rattle.storage_key.specs.Context.{context_of}
use Rattle.frame_tree.specs.Plain.{plain_chain_site}
use Rattle.frame_tree.proofs.AboveLemmas.{above_is}
use Rattle.frame_tree.proofs.tab.Tab.context_above.Goals as goal

pub returns-in-Ok : goal.returns-in-Ok
returns-in-Ok c = record {
  context =
      c.of.ensures.context
      ∙ ap (λ seen. context_of seen (plain_site c.args.target.now))
      (ap (map plain_chain_site) (c.above.ensures ∙ ap (λ seen. take (length seen - 1) seen) c.as_slice.ensures.value)
      ∙ above_is c.args.frame c.args.self.now c.in-Ok.chain.items c.requires.there c.in-Ok.ensures.chain);
}
