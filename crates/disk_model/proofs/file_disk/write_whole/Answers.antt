use Rattle.std.proofs.Common.{◌-◌, length, take, drop, arith, refl, ◌∙◌}
use Rattle.agent_base.proofs.Pieces.{same_piece}
use Rattle.disk_model.proofs.Pieces.{images_then, piece_written, piece_len, time_then}
use Rattle.disk_model.proofs.WritingBack.{torn_on}
use Rattle.disk_model.proofs.file_disk.write_whole.Goals as goal

pub returns-in_err-done-clause-images : goal.returns-in_err-done-clause-images
returns-in_err-done-clause-images g c =
    let V = g.F.RawFile.view in
    let bytes = c.args.bytes.now in
    let old = (V c.args.file.now).may_leave in
    let mid = (V c.pieces.file).may_leave in
    let new = (V c.write_some.new.self).may_leave in
    images_then c.args.at (length bytes) c.pieces.done (length (take (length bytes - c.pieces.done) (drop c.pieces.done bytes))) old mid new
    c.pieces.invariant.within (piece_len bytes c.pieces.done) c.pieces.invariant.images c.in_err-done.ensures.images

pub returns-in_err-done-clause-torn : goal.returns-in_err-done-clause-torn
returns-in_err-done-clause-torn g c = λ some.
    let V = g.F.RawFile.view in
    let bytes = c.args.bytes.now in
    torn_on c.args.at (length bytes) c.pieces.done (length (take (length bytes - c.pieces.done) (drop c.pieces.done bytes))) (V c.pieces.file).may_leave (V c.write_some.new.self).may_leave
    (piece_len bytes c.pieces.done) c.pieces.invariant.torn c.in_err-done.ensures.still_torn c.in_err-done.ensures.torn

pub returns-in_err-done-clause-still_torn : goal.returns-in_err-done-clause-still_torn
returns-in_err-done-clause-still_torn g c = λ a n torn. c.in_err-done.ensures.still_torn a n (c.pieces.invariant.still_torn a n torn)

pub pieces-preserved : goal.pieces-preserved
pieces-preserved g c =
    let V = g.F.RawFile.view in
    let bytes = c.args.bytes.now in
    let i = c.pieces.invariant in
    let e = c.in_ok-done.ensures in
    let old = V c.args.file.now in
    let mid = V c.pieces.file in
    let new = V c.write_some.new.self in
    record {
      within = omega (arith, e.some, piece_len bytes c.pieces.done, i.within);
      written = piece_written c.args.at c.pieces.done c.in_ok-done.field-0 bytes (drop c.pieces.done bytes) old.contents mid.contents new.contents refl i.written (rw same_piece at e.written);
      images = images_then c.args.at (length bytes) c.pieces.done (length (take (length bytes - c.pieces.done) (drop c.pieces.done bytes))) old.may_leave mid.may_leave new.may_leave
          i.within (piece_len bytes c.pieces.done) i.images e.images;
      torn = λ some. torn_on c.args.at (length bytes) c.pieces.done (length (take (length bytes - c.pieces.done) (drop c.pieces.done bytes))) mid.may_leave new.may_leave
          (piece_len bytes c.pieces.done) i.torn e.still_torn e.torn;
      still_torn = λ a n torn. e.still_torn a n (i.still_torn a n torn);
      kept = λ x left. e.kept x (i.kept x left);
      time = time_then old mid new i.time e.kept e.time;
      tells = e.tells ∙ i.tells;
      faults = e.faults.cause.still ∙ i.faults;
    }
