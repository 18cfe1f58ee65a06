use Rattle.shown_scripts.proofs.ShownLemmas.{shows_as_given}
use Rattle.shown_scripts.proofs.laws.shown_texts_differ_as_local_scripts_do.Goals as goal

pub returns : goal.returns
returns c = record { given = shows_as_given c.items_differ_as_their_lines_do.ensures.scripts }
