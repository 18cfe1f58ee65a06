use Rattle.std.proofs.Common.{◌≡◌, false, sym, ap, ◌∙◌}
use Rattle.std.specs.Prelude.{drop}
use Rattle.row_changes.specs.Body.{is_over, next_piece, pieces_from}
use Rattle.row_changes.specs.Pieces.{plain_progress}
use Rattle.row_changes.proofs.BodyLaws.{next_from}
use Rattle.row_changes.proofs.body.Reader.next.Goals as goal

pub returns-clause-rest : goal.returns-clause-rest
returns-clause-rest c =
    let snapshot = c.self.inside.snapshot in
    let size = c.self.inside.size in
    let p = plain_progress c.self.inside.progress in
    let more : is_over p ≡ false = sym c.is_over.ensures ∙ c.if-is_over.false in
    let behind : plain_progress c.in_ok-piece.progress ≡ (next_piece snapshot size p).1 = ap (λ x. x.1) c.in_ok-piece.ensures.next in
    ap (pieces_from snapshot size) behind ∙ ap (drop 1) (sym (next_from snapshot size p more)) ∙ ap (drop 1) c.self.view_is
