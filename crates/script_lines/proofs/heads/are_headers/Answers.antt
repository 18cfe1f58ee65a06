use Rattle.std.proofs.Common.{sym, ◌∙◌}
use Rattle.script_lines.specs.Heads.{is_header}
use Rattle.script_lines.specs.Flat.{field_of_texts}
use Rattle.script_lines.proofs.MemberLemmas.{list_all-map}
use Rattle.script_lines.proofs.heads.are_headers.Goals as goal

pub returns : goal.returns
returns c = c.all_headers.ensures ∙ sym (list_all-map is_header field_of_texts c.args.pairs.now)
