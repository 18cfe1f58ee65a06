use Rattle.setcookie_parse.proofs.CutsLemmas.{cut_after_blanks}
use Rattle.setcookie_parse.proofs.trim.trim_start.Goals as goal

pub range_from-requires : goal.range_from-requires
range_from-requires c = λ some. rw c.blanks_before.ensures (cut_after_blanks c.args.text.now c.utf8.text)
