use Rattle.std.proofs.Common.{◌+◌, ◌<◌, length, arith}
use Rattle.row_changes.proofs.HostLemmas.{site_is_text}
use Rattle.row_changes.proofs.writing.put_host.Goals as goal

pub returns-clause-texts : goal.returns-clause-texts
returns-clause-texts c =
    let front = c.scheme_front-scheme.result.now in
    let room : length front + length c.args.host.now < 4294967296 = omega (arith, c.in-Ok.ensures) in
    site_is_text c.args.https front c.args.host.now c.scheme_front-scheme.ensures c.scheme_front-scheme.utf8 c.utf8.host room
