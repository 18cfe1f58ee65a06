-- A chain that is put into no set is the set.
use Rattle.std.proofs.Common.{map, reverse, ap, ◌∙◌}
use Rattle.std.specs.Prelude.{◌||◌}
use Rattle.frame_tree.specs.Plain.{plain_frame}
use Rattle.frame_tree.specs.Tree.{chain_back, has_frame}
use Rattle.frame_tree.proofs.SetLemmas.{set-empty}
use Rattle.frame_tree.proofs.sets.frames_above.Goals as goal

pub returns : goal.returns
returns c = record {
  set = λ n.
      c.put_chain.ensures.put n
      ∙ ap (λ b. b || has_frame n (chain_back c.args.frame (reverse (map plain_frame c.args.frames.now)))) (set-empty n);
}
