use Rattle.std.proofs.Common.{option_copied, w64, ap, ◌∙◌}
use mir.Val.{to_z, of_z}
use Rattle.setcookie_parse.specs.SetCookie.{is_semicolon}
use Rattle.setcookie_parse.specs.DateParts.{pieces_after}
use Rattle.setcookie_parse.specs.AttributesSoFar.{answer_from}
use Rattle.setcookie_parse.specs.Plain.{plain_parsed}
use Rattle.setcookie_parse.proofs.SliceLemmas.{of_divided}
use Rattle.setcookie_parse.proofs.text.parse.Goals as goal

pub returns-clause-slices : goal.returns-clause-slices
returns-clause-slices c =
    let pair = c.next_piece.result.0.now in
    let now = to_z w64 (of_z w64 c.args.now) in
    of_divided c.args.text.now pair (pieces_after is_semicolon (option_copied c.next_piece.result.1)) now
    (plain_parsed c.answer_of.result) c.next_piece.ensures.pieces
    (c.answer_of.ensures ∙ ap (λ seen. answer_from pair seen now) c.attributes.ensures)
