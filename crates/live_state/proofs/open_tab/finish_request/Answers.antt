-- The frames are a tree still, at their site.
use Rattle.std.proofs.Common.{List, ◌∙◌, ap, sym, subst}
use Rattle.std.specs.Prelude.{if◌then◌else◌}
use Rattle.frame_tree.specs.Calls.{consumed}
use Rattle.frame_tree.specs.Tree.{IsTree, PlainFrame}
use Rattle.live_state.proofs.FramesInPlaceLemmas.{tree-requested}
use Rattle.live_state.proofs.open_tab.finish_request.Goals as goal

pub returns-clause-tree : goal.returns-clause-tree
returns-clause-tree c =
    subst IsTree
    (sym (c.consume.ensures.consumed ∙ ap (λ (fs : List PlainFrame). if c.args.consumes then consumed fs else fs) c.in_ok-give.ensures.given.1))
    (tree-requested c.args.gives c.args.consumes c.args.frame c.args.tab.now c.in_ok-give.ensures.tree)
