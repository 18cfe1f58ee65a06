-- The frames have the load where its parent is there and its number is free.
use Rattle.std.proofs.Common.{sym, ap, ◌∙◌}
use Rattle.std.proofs.lemmas.Bool.{and_parts}
use Rattle.std.specs.Prelude.{is_none, is_some}
use Rattle.origin_site.specs.Plain.{plain_address}
use Rattle.frame_tree.specs.Keys.{is_first_at}
use Rattle.frame_tree.specs.Tree.{document_of}
use Rattle.frame_tree.proofs.ShapeLemmas.{document_there}
use Rattle.local_scripts.proofs.CellLemmas.{frame_is, frame_none}
use Rattle.local_scripts.proofs.cells.of_frame.Goals as goal

pub returns-then-not-can_be_added : goal.returns-then-not-can_be_added
returns-then-not-can_be_added c = record {
  cells = frame_none c.args.list.now.rules c.args.tab.now c.args.frame c.args.parent
      (plain_address c.args.url.now) (sym c.can_be_added.ensures ∙ c.if-not-can_be_added.true);
}

pub returns : goal.returns
returns c =
    let done = sym c.can_be_added.ensures ∙ c.if-not-can_be_added.false in
    let there = and_parts (is_some (document_of c.args.parent c.args.tab.now))
    (is_none (document_of c.args.frame c.args.tab.now)) done in
    record {
      cells =
          frame_is c.args.list.now.rules c.args.tab.now c.args.frame c.args.parent
          (plain_address c.args.url.now) c.used.result done
          (sym (document_there c.args.parent c.args.tab.now) ∙ there.0)
          (λ how url uses. c.used.ensures.used how url
          (uses ∙ ap (is_first_at c.args.parent c.args.tab.now) (sym c.in_ok-target.ensures.site)
          ∙ sym c.first_party.ensures.first));
    }
