use Rattle.std.proofs.Common.{sym}
use Rattle.setcookie_parse.specs.SetCookie.{is_semicolon}
use Rattle.setcookie_parse.proofs.CutOnceLemmas.{pieces_none, pieces_some, rest_shorter, whole_before}
use Rattle.setcookie_parse.proofs.seen.next_piece.Goals as goal

pub returns-in-Some : goal.returns-in-Some
returns-in-Some c =
    let parts = c.in-Some.ensures in
    record {
      front = parts.0;
      pieces = pieces_some is_semicolon c.args.text.now c.in-Some.front.now c.in-Some.rest.now parts.0 parts.1 parts.2;
      shorter = rest_shorter is_semicolon c.args.text.now c.in-Some.rest.now parts.1 parts.2;
    }

pub returns-in-None : goal.returns-in-None
returns-in-None c = record {
  front = sym (whole_before is_semicolon c.args.text.now c.in-None.ensures);
  pieces = pieces_none is_semicolon c.args.text.now c.in-None.ensures;
  shorter = tt;
}
