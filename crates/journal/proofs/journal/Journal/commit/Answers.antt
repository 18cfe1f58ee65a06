use Rattle.std.proofs.Common.{◌≡◌, ◌+◌, ◌%◌, ◌^◌, ◌-◌, ◌∷◌, ◌++◌, [], false, List, ℕ, length, take, drop, arith, length-append, sym, ap, ◌∙◌, subst}
use Rattle.std.specs.Prelude.{vec_capacity}
use Rattle.journal.specs.Frame.{Frame, encoded}
use Rattle.journal.specs.Journal.{JournalView, IsAtRest}
use Rattle.journal.proofs.Frames.{length-encoded}
use Rattle.journal.proofs.Committed.{place_of, behind_first, inside_of, commit_moments, commit_stands, commit_rests}
use Rattle.journal.proofs.journal.Journal.commit.Goals as goal

-- how long a frame's block is, without its gate
block_long : (f : Frame) (block : List ℕ) → block ≡ 1 ∷ encoded f ++ 0 ∷ [] → length (take (length block - 1) (drop 1 block)) ≡ 18 + (length f.list + length f.body)
block_long f block is = ap length (behind_first 1 block (encoded f ++ 0 ∷ []) is) ∙ omega (arith, length-append (encoded f) (0 ∷ []), length-encoded f)

pub append-requires-clause-place : goal.append-requires-clause-place
append-requires-clause-place g c =
    let v = g.D.Disk.view c.args.disk.now in
    place_of _ v (subst (λ (j : JournalView). IsAtRest j v) (sym c.self.view_is) c.requires.at_rest)

pub append-requires-clause-room : goal.append-requires-clause-room
append-requires-clause-room g c =
    let f : Frame = record { snapshot = false; last = (c.self.inside.changes + c.args.changes) % 2 ^ 64; list = []; body = c.args.body.now } in
    let end : c.self.inside.end ≡ c.args.self.now.end = ap (λ (j : JournalView). j.end) c.self.view_is in
    omega (arith, c.requires.room.end, block_long f c.deref.result.now (c.deref.ensures.value ∙ c.in-Ok.ensures.items), end)

pub append-requires-clause-fits : goal.append-requires-clause-fits
append-requires-clause-fits g c =
    let f : Frame = record { snapshot = false; last = (c.self.inside.changes + c.args.changes) % 2 ^ 64; list = []; body = c.args.body.now } in
    let end : c.self.inside.end ≡ c.args.self.now.end = ap (λ (j : JournalView). j.end) c.self.view_is in
    omega (arith, c.requires.room.fits, block_long f c.deref.result.now (c.deref.ensures.value ∙ c.in-Ok.ensures.items), end)

pub returns-in_default-append-clause-any_moment : goal.returns-in_default-append-clause-any_moment
returns-in_default-append-clause-any_moment g c =
    let V = g.D.Disk.view in
    let block_is = behind_first 1 c.deref.result.now _ (c.deref.ensures.value ∙ c.in-Ok.ensures.items) in
    commit_moments (inside_of c.self.view_is) (V c.args.disk.now) (V c.append.new.disk) c.args.body.now _ c.args.changes block_is (omega (arith, c.requires.room.fits)) c.args.self.now c.self.view_is c.append.ensures.any_moment

pub returns-clause-any_moment : goal.returns-clause-any_moment
returns-clause-any_moment g c =
    let V = g.D.Disk.view in
    let block_is = behind_first 1 c.deref.result.now _ (c.deref.ensures.value ∙ c.in-Ok.ensures.items) in
    commit_moments (inside_of c.self.view_is) (V c.args.disk.now) (V c.append.new.disk) c.args.body.now _ c.args.changes block_is (omega (arith, c.requires.room.fits)) c.args.self.now c.self.view_is c.append.ensures.any_moment

pub returns-clause-acknowledged : goal.returns-clause-acknowledged
returns-clause-acknowledged g c =
    let V = g.D.Disk.view in
    let block_is = behind_first 1 c.deref.result.now _ (c.deref.ensures.value ∙ c.in-Ok.ensures.items) in
    commit_stands (inside_of c.self.view_is) (V c.args.disk.now) (V c.append.new.disk) c.args.body.now _ c.args.changes block_is (omega (arith, c.requires.room.fits)) c.args.self.now c.self.view_is
    (c.self.inside.end + (18 + length c.args.body.now)) (vec_capacity c.fill.new.block) false (omega arith) c.in-Ok-append.ensures.written

pub returns-clause-at_rest : goal.returns-clause-at_rest
returns-clause-at_rest g c =
    let V = g.D.Disk.view in
    let block_is = behind_first 1 c.deref.result.now _ (c.deref.ensures.value ∙ c.in-Ok.ensures.items) in
    let stands = commit_rests (inside_of c.self.view_is) (V c.args.disk.now) (V c.append.new.disk) c.args.body.now _ c.args.changes block_is (omega (arith, c.requires.room.fits)) c.args.self.now c.self.view_is
    (c.self.inside.end + (18 + length c.args.body.now)) (vec_capacity c.fill.new.block) false (omega arith) c.in-Ok-append.ensures.written c.requires.at_rest in
    record { settled = c.in-Ok-append.ensures.settled; stands = stands }
