use Rattle.std.proofs.Common.{◌<◌, length, arith}
use Rattle.std.proofs.lemmas.Str.{is_utf8-from_IsUtf8}
use Rattle.row_changes.proofs.writing.put_text.Goals as goal

pub returns-clause-texts : goal.returns-clause-texts
returns-clause-texts c =
    let room : length c.args.text.now < 4294967296 = omega (arith, c.in-Ok.ensures) in
    (is_utf8-from_IsUtf8 c.args.text.now c.utf8.text, room)
