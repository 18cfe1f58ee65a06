use Rattle.std.proofs.Common.{ap, ◌∙◌, sym}
use Rattle.setcookie_parse.specs.SetCookie.{is_equals, trimmed}
use Rattle.setcookie_parse.proofs.CutOnceLemmas.{none_after, whole_before}
use Rattle.setcookie_parse.proofs.attribute.split_attribute.Goals as goal

pub returns-in-None-clause-name : goal.returns-in-None-clause-name
returns-in-None-clause-name c = c.trimmed-in-None.ensures ∙ ap trimmed (sym (whole_before is_equals c.args.piece.now c.in-None.ensures))

pub returns-in-None-clause-value : goal.returns-in-None-clause-value
returns-in-None-clause-value c = ap trimmed (sym (none_after is_equals c.args.piece.now c.in-None.ensures))
