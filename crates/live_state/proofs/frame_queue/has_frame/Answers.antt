-- A frame is there where its document is found.
use Rattle.std.proofs.Common.{ap, sym, ◌∙◌}
use Rattle.std.specs.Prelude.{◌==◌, find, is_some, option_copied}
use Rattle.frame_tree.specs.Plain.{plain_document}
use Rattle.live_state.proofs.ListLemmas.{is_some-find, is_some-map}
use Rattle.live_state.proofs.frame_queue.has_frame.Goals as goal

pub returns : goal.returns
returns c = record {
  there =
      c.is_some.ensures
      ∙ sym (is_some-map (λ d. d.now) c.document.result)
      ∙ sym (is_some-map plain_document (option_copied c.document.result))
      ∙ ap is_some c.document.ensures.document
      ∙ is_some-map (λ f. f.document) (find (λ f. f.frame == c.args.frame) c.args.tab.now)
      ∙ is_some-find (λ f. f.frame == c.args.frame) c.args.tab.now;
  tree = c.document.ensures.tree;
}
