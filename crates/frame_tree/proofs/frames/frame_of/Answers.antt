-- What is found has its document.
use Rattle.std.specs.Prelude.{option_copied}
use Rattle.frame_tree.proofs.KeyLemmas.{document-found}
use Rattle.frame_tree.proofs.frames.frame_of.Goals as goal

pub returns : goal.returns
returns c = record {
  found = c.first_of.ensures.found;
  document = document-found c.args.frame c.args.frames.now (option_copied c.first_of.result) c.first_of.ensures.found;
}
