-- The pieces to come lead from the parts as they are to where all of them lead.
use Rattle.std.proofs.Common.{◌+◌, ◌≤◌, ◌∙◌, ap, arith, drop, length, rules, subst, sym}
use Rattle.std.proofs.lemmas.List.Elements.{All-head, All-tail}
use Rattle.std.specs.List.{All}
use Rattle.std.specs.Option.{option_map}
use Rattle.row_changes.specs.Laws.{IsSpelledPiece}
use Rattle.row_changes.specs.Pieces.{plain_piece}
use Rattle.row_store.specs.Bodies.{after_pieces}
use Rattle.row_store.specs.Stored.{saved_of}
use Rattle.row_store.proofs.BodyLemmas.{few_pieces, first_piece}
use Rattle.row_store.proofs.reading.read_body.Goals as goal

pub loop-piece-init : goal.loop-piece-init
loop-piece-init c = record {
  after = ap (after_pieces (saved_of c.args.parts.now) 0) (sym c.new-reader.ensures.pieces);
  spelled = subst (All IsSpelledPiece) (sym c.new-reader.ensures.pieces)
      (c.changes_read_back.ensures.spelled c.args.snapshot c.args.body.now (λ i. omega (arith, c.type_inv.body i)));
  standing = λ s. s;
  few = subst (λ pieces. 0 + length pieces ≤ length c.args.body.now + 1) (sym c.new-reader.ensures.pieces)
      (let few = few_pieces c.args.snapshot c.args.body.now in omega (arith, few));
}

pub loop-piece-preserved : goal.loop-piece-preserved
loop-piece-preserved c =
    let here = c.loop-piece.invariant in
    let count = c.loop-piece.count in
    let rest = drop 1 c.loop-piece.reader in
    let is = first_piece c.loop-piece.reader (ap (option_map plain_piece) (sym c.in-Ok-Some.field-0-is) ∙ c.in-Ok-Some.ensures.piece) in
    let taken = c.in_ok-count-in-Ok-Some.ensures.taken in
    let spelled = subst (All IsSpelledPiece) is here.spelled in
    let left = sym c.in-Ok-Some.ensures.rest in
    record {
      after = here.after ∙ ap (after_pieces (saved_of c.loop-piece.parts) count) is ∙ taken.after count rest
          ∙ ap (after_pieces (saved_of c.take.new.parts) (count + c.in_ok-count-in-Ok-Some.field-0)) left;
      spelled = subst (All IsSpelledPiece) left (All-tail IsSpelledPiece _ rest spelled);
      standing = λ s. taken.standing (All-head IsSpelledPiece _ rest spelled) (here.standing s);
      few = omega (arith, here.few, ap length is, ap length left, taken.one);
    }

pub returns-in_err-count-in-Ok-Some-clause-fault : goal.returns-in_err-count-in-Ok-Some-clause-fault
returns-in_err-count-in-Ok-Some-clause-fault c at fails =
    let is = first_piece c.loop-piece.reader (ap (option_map plain_piece) (sym c.in-Ok-Some.field-0-is) ∙ c.in-Ok-Some.ensures.piece) in
    c.loop-piece.invariant.after ∙ ap (after_pieces (saved_of c.loop-piece.parts) c.loop-piece.count) is
    ∙ c.in_err-count-in-Ok-Some.ensures.fault at (search rules) c.loop-piece.count (drop 1 c.loop-piece.reader)
