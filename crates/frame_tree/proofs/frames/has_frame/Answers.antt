-- A frame that is found is there, as contracts see it.
use Rattle.std.proofs.Common.{rules, ◌≡◌, sym, ◌∙◌}
use Rattle.std.specs.Prelude.{◌==◌, find, is_some}
use Rattle.frame_tree.proofs.KeyLemmas.{has-found}
use Rattle.frame_tree.proofs.frames.has_frame.Goals as goal

pub returns : goal.returns
returns c =
    let is : c.is_some.result ≡ is_some (find (λ f. f.frame == c.args.frame) c.args.frames.now) = search rules in
    record { has = is ∙ sym (has-found c.args.frame c.args.frames.now) }
