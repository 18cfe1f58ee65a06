use Rattle.std.proofs.Common.{◌≡◌, ◌+◌, ◌%◌, ◌^◌, ◌<◌, arith, rules}
use Rattle.std.proofs.lemmas.Result.{on_ok_weaker}
use Rattle.journal.specs.Store.{slot_bytes}
use Rattle.journal.proofs.Snapshots.{other_small}
use Rattle.journal.proofs.Checkpointed.{staged, then_switched, is_switched}
use Rattle.journal.proofs.checkpoint.switch.Goals as goal

pub stage_snapshot-requires : goal.stage_snapshot-requires
stage_snapshot-requires g c =
    let ready = c.requires.ready in
    record {
      ready = record { settled = ready.settled; place = ready.place; room = ready.room; head_room = ready.head_room; writes = omega (arith, ready.writes) };
    }

pub append-requires-clause-place : goal.append-requires-clause-place
append-requires-clause-place g c = λ d told. omega (arith, c.in_ok-stage_snapshot.ensures.long d told, c.other_slot.ensures, other_small c.args.live)

pub returns-in_err-stage_snapshot-clause-switches : goal.returns-in_err-stage_snapshot-clause-switches
returns-in_err-stage_snapshot-clause-switches g c =
    let v = g.D.Disk.view c.args.disk.now in
    let w = g.D.Disk.view c.stage_snapshot.new.disk in
    record {
      settled = search rules;
      any_moment = λ x digest begin end frames f is region apart block. staged v w digest frames f (c.stage_snapshot.ensures.any_moment x digest begin end frames is region apart);
      switched = search rules;
    }

pub returns-clause-switches : goal.returns-clause-switches
returns-clause-switches g c =
    let v = g.D.Disk.view c.args.disk.now in
    let w = g.D.Disk.view c.stage_snapshot.new.disk in
    let x = g.D.Disk.view c.append.new.disk in
    let to_fits : c.args.to < 2 ^ 64 = omega arith in
    let piece : c.slot_piece.result ≡ slot_bytes ((c.args.number + 1) % 2 ^ 64) c.args.to = search rules in
    record {
      settled = c.append.ensures.settled;
      any_moment = λ y digest begin end frames f is region apart block.
          let b = c.in_ok-stage_snapshot.ensures.between y digest begin end frames f is region apart block in
          then_switched v w x c.args.live c.args.number c.args.to digest b.0 begin frames f to_fits c.args.block.now block b.1 b.2 c.other_slot.result c.slot_piece.result c.other_slot.ensures piece
          (c.stage_snapshot.ensures.any_moment y digest begin end frames is region apart) c.append.ensures.any_moment;
      switched = on_ok_weaker c.append.result (λ goes. λ y digest begin end frames f is region apart block.
          let b = c.in_ok-stage_snapshot.ensures.between y digest begin end frames f is region apart block in
          is_switched v w x c.args.live c.args.number c.args.to digest b.0 begin frames f to_fits c.args.block.now block b.1 b.2 c.other_slot.result c.slot_piece.result c.other_slot.ensures piece goes) c.append.ensures.written;
    }
