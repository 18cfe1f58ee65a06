-- The key that is kept is that of the chain.
use Rattle.std.proofs.Common.{ap, ◌∙◌}
use Rattle.std.specs.Prelude.{option_copied}
use Rattle.frame_tree.specs.Keys.{key_of_frame}
use Rattle.frame_tree.proofs.KeyLemmas.{found-in, key-of-found}
use Rattle.frame_tree.proofs.by_number.ByNumber.key.Goals as goal

pub returns : goal.returns
returns c =
    let items = c.tab.inside.frames.items in record {
      key =
          c.key_of.ensures.key
          ∙ key-of-found c.args.frame items (option_copied c.frame_at.result)
          (found-in c.args.frame items c.as_slice.result.now (option_copied c.frame_at.result) c.frame_at.ensures.found c.as_slice.ensures.value)
          c.tab.invariant.keys
          ∙ ap (key_of_frame c.args.frame) (c.tab.view_is ∙ c.self.view_is);
    }
