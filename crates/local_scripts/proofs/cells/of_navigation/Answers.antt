-- The frame is there, and is not the top.
use Rattle.std.proofs.Common.{◌==◌, ◌||◌, not, sym, ap, ◌∙◌}
use Rattle.std.proofs.lemmas.Bool.{and_parts}
use Rattle.std.specs.Prelude.{is_some}
use Rattle.origin_site.specs.Plain.{plain_address}
use Rattle.storage_key.specs.Context.{is_first_party}
use Rattle.frame_tree.specs.Keys.{sites}
use Rattle.frame_tree.specs.Tree.{document_of}
use Rattle.agent_model.specs.CookieUses.{chain_above}
use Rattle.frame_tree.proofs.ShapeLemmas.{document_there}
use Rattle.local_scripts.proofs.CellLemmas.{nav_is, nav_none}
use Rattle.local_scripts.proofs.cells.of_navigation.Goals as goal

pub returns-then-not-can_be_navigated : goal.returns-then-not-can_be_navigated
returns-then-not-can_be_navigated c = record {
  cells =
      nav_none c.args.list.now.rules c.args.tab.now c.args.frame (plain_address c.args.url.now) c.args.by_self
      (sym c.can_be_navigated.ensures ∙ c.if-not-can_be_navigated.true);
}

pub context_above-requires : goal.context_above-requires
context_above-requires c =
    let done = sym c.can_be_navigated.ensures ∙ c.if-not-can_be_navigated.false in
    let parts = and_parts (not (c.args.frame == 0)) (is_some (document_of c.args.frame c.args.tab.now)) done in
    record { there = sym (document_there c.args.frame c.args.tab.now) ∙ parts.1 }

pub returns : goal.returns
returns c =
    let url = plain_address c.args.url.now in
    let frames = c.args.tab.now in
    record {
      cells =
          nav_is c.args.list.now.rules frames c.args.frame url c.args.by_self c.used.result
          (sym c.can_be_navigated.ensures ∙ c.if-not-can_be_navigated.false)
          (λ how same uses. c.used.ensures.used how same
          (uses
          ∙ (λ i. (ap (is_first_party (sites (chain_above c.args.frame frames)))
          (sym c.in_ok-target.ensures.site) ∙ sym (ap (λ k. k.first) c.in_ok-context.ensures.context)) i
          || sym c.in_ok-granted.ensures.granted i)));
    }
