use Rattle.std.proofs.Common.{◌≡◌, ◌≤◌, ◌<◌, ℕ, List, length, take, length-take, arith, sym, ◌∙◌}
use Rattle.disk_model.specs.Disk.{Goes}
use Rattle.disk_model.specs.RawFile.{WrittenFirst}
use Rattle.disk_model.proofs.WritingBack.{answered_ok, contents_back, piece_back, still_back, then_back, torn_stays}
use Rattle.disk_model.proofs.file_disk.write_some_back.Goals as goal

pub returns-clause-contents : goal.returns-clause-contents
returns-clause-contents g c =
    let V = g.F.RawFile.view in
    let read = c.in_ok-n.n in
    let piece = c.read_some.new.into in
    let mid = V c.read_some.new.self in
    let new = V c.write_some.new.self in
    let stays = c.in_ok-n.ensures.stays in
    answered_ok c.write_some.result (λ n. (0 < n) × (n ≤ length (take read piece))) (λ n. Goes (WrittenFirst c.args.at (take read piece) n) mid.contents new.contents)
    (new.contents ≡ (V c.args.file.now).contents) c.write_some.ensures.some c.write_some.ensures.written
    (λ n some goes. contents_back mid.contents new.contents piece c.args.at read n (omega (arith, some.1, length-take read piece))
    (λ d is. c.in_ok-n.ensures.read d (sym stays.contents ∙ is)) goes ∙ stays.contents)

pub returns-clause-back : goal.returns-clause-back
returns-clause-back g c =
    let V = g.F.RawFile.view in
    let old = V c.args.file.now in
    let mid = V c.read_some.new.self in
    let new = V c.write_some.new.self in
    let e = c.write_some.ensures in
    let stays = c.in_ok-n.ensures.stays in
    let part : List ℕ = take c.in_ok-n.n c.read_some.new.into in
    let n = length c.args.piece.now in
    then_back old mid new (still_back old mid stays)
    (piece_back mid new c.args.at n (length part) (omega (arith, length-take c.in_ok-n.n c.read_some.new.into, c.in_ok-n.ensures.some))
    (torn_stays old mid stays c.args.at n c.requires.torn) e.images e.kept e.time e.tells)
