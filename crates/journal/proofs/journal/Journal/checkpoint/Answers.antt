use Rattle.std.proofs.Common.{◌≡◌, ◌+◌, ◌^◌, ◌<◌, ◌≤◌, ◌∷◌, ◌++◌, [], true, false, List, ℕ, length, arith, length-append, sym, ap, ◌∙◌, subst, refl, rules}
use Rattle.std.specs.Prelude.{Some, vec_capacity}
use Rattle.journal.specs.Frame.{Frame, encoded}
use Rattle.journal.specs.Journal.{JournalView, IsAtRest}
use Rattle.journal.specs.CheckpointParts.{IsApart, IsBlock}
use Rattle.journal.proofs.Frames.{length-encoded}
use Rattle.journal.proofs.Committed.{place_of, inside_of}
use Rattle.journal.proofs.Checkpointed.{checkpoint_moments, checkpoint_stands, checkpoint_rests}
use Rattle.journal.proofs.journal.Journal.checkpoint.Goals as goal
use Rattle.journal.proofs.journal.Journal.checkpoint.Goals.{After-switch}

-- how long a frame's block is, with its gate
block_long : (f : Frame) (block : List ℕ) → block ≡ 1 ∷ encoded f ++ 0 ∷ [] → length block ≡ 19 + (length f.list + length f.body)
block_long f block is = ap length is ∙ omega (arith, length-append (encoded f) (0 ∷ []), length-encoded f)

-- the snapshot's frame is apart from the region
apart_from : (to len begin end : ℕ) (block : List ℕ) → len ≡ length block → IsApart to len begin end → IsApart to (length block) begin end
apart_from to len begin end block is apart = subst (λ (n : ℕ). IsApart to n begin end) is apart

-- the block is that of the snapshot's frame
block_of : (changes : ℕ) (digest body block : List ℕ) → block ≡ 1 ∷ encoded (record { snapshot = true; last = changes; list = digest; body = body }) ++ 0 ∷ [] → changes < 2 ^ 64 → length digest + length body < 2 ^ 64 → length digest ≡ 32
    → IsBlock (record { snapshot = true; last = changes; list = digest; body = body }) block
block_of changes digest body block is last size long = record { bytes = is; last = last; size = size; snapshot = refl; list = long }

is_apart : (g : _) (c : After-switch g) → IsApart c.snapshot_place-to.result (length c.deref.result.now) c.self.inside.begin c.self.inside.end
is_apart g c =
    apart_from c.snapshot_place-to.result c.len.result c.self.inside.begin c.self.inside.end c.deref.result.now
    (omega (arith, c.len.ensures, c.deref.ensures.len)) c.snapshot_place-to.ensures.apart

is_block : (g : _) (c : After-switch g)
    → IsBlock (record { snapshot = true; last = c.self.inside.changes; list = c.args.digest.now; body = c.args.body.now }) c.deref.result.now
is_block g c =
    let long : length c.args.digest.now ≡ 32 = search rules in
    block_of c.self.inside.changes c.args.digest.now c.args.body.now c.deref.result.now (c.deref.ensures.value ∙ c.in-Ok.ensures.items)
    (omega arith) (omega (arith, c.requires.room.fits, long)) long

pub switch-requires : goal.switch-requires
switch-requires g c =
    let v = g.D.Disk.view c.args.disk.now in
    let f : Frame = record { snapshot = true; last = c.self.inside.changes; list = c.args.digest.now; body = c.args.body.now } in
    let list : length c.args.digest.now ≡ 32 = search rules in
    let end : c.self.inside.end ≡ c.args.self.now.end = ap (λ (j : JournalView). j.end) c.self.view_is in
    let rest = subst (λ (j : JournalView). IsAtRest j v) (sym c.self.view_is) c.requires.at_rest in
    record {
      ready = record {
        settled = c.requires.at_rest.settled;
        place = λ x is.
            let long : c.self.inside.end + 1 ≤ length x = place_of _ v rest x is in
            (omega (arith, long, c.snapshot_place-to.ensures.within), omega (arith, long, c.self.invariant));
        room = omega (arith, c.requires.room.end, c.snapshot_place-to.ensures.within, block_long f c.deref.result.now (c.deref.ensures.value ∙ c.in-Ok.ensures.items), end, list);
        head_room = c.requires.room.head;
        writes = c.requires.room.writes;
      };
    }

pub returns-in_default-switch-clause-any_moment : goal.returns-in_default-switch-clause-any_moment
returns-in_default-switch-clause-any_moment g c =
    let V = g.D.Disk.view in
    let after = (goal.at.returns-in_default-switch-clause-any_moment g c).After-switch in
    checkpoint_moments (inside_of c.self.view_is) (V c.args.disk.now) (V c.switch.new.disk) c.args.digest.now c.args.body.now c.deref.result.now c.snapshot_place-to.result (is_apart g after) (is_block g after) (omega arith) c.args.self.now c.self.view_is c.switch.ensures.switches.any_moment

pub returns-clause-any_moment : goal.returns-clause-any_moment
returns-clause-any_moment g c =
    let V = g.D.Disk.view in
    let after = (goal.at.returns-clause-any_moment g c).After-switch in
    checkpoint_moments (inside_of c.self.view_is) (V c.args.disk.now) (V c.switch.new.disk) c.args.digest.now c.args.body.now c.deref.result.now c.snapshot_place-to.result (is_apart g after) (is_block g after) (omega arith) c.args.self.now c.self.view_is c.switch.ensures.switches.any_moment

pub returns-clause-acknowledged : goal.returns-clause-acknowledged
returns-clause-acknowledged g c =
    let V = g.D.Disk.view in
    let after = (goal.at.returns-clause-acknowledged g c).After-switch in
    checkpoint_stands (inside_of c.self.view_is) (V c.args.disk.now) (V c.switch.new.disk) c.args.digest.now c.args.body.now c.deref.result.now c.snapshot_place-to.result (is_apart g after) (is_block g after) (omega arith) c.args.self.now c.self.view_is
    c.in-Ok-switch.ensures.switches.switched (c.snapshot_place-to.result + 50 + length c.args.body.now) (vec_capacity c.fill.new.block) false refl

pub returns-clause-at_rest : goal.returns-clause-at_rest
returns-clause-at_rest g c =
    let V = g.D.Disk.view in
    let after = (goal.at.returns-clause-at_rest g c).After-switch in
    let before : (d : List ℕ) → (V c.switch.new.disk).contents ≡ Some d → (y : List ℕ) × ((V c.args.disk.now).contents ≡ Some y) = λ d told.
    (g.met.D.Disk.lawful c.args.disk.now).told (sym c.switch.ensures.device.faults.tells ∙ (g.met.D.Disk.lawful c.switch.new.disk).tells_contents d told) in
    record {
      settled = c.in-Ok-switch.ensures.switches.settled;
      stands = checkpoint_rests (inside_of c.self.view_is) (V c.args.disk.now) (V c.switch.new.disk) c.args.digest.now c.args.body.now c.deref.result.now c.snapshot_place-to.result (is_apart g after) (is_block g after) (omega arith) c.args.self.now c.self.view_is
          c.in-Ok-switch.ensures.switches.switched (c.snapshot_place-to.result + 50 + length c.args.body.now) (vec_capacity c.fill.new.block) false refl c.requires.at_rest before;
    }

pub returns-clause-done : goal.returns-clause-done
returns-clause-done g c =
    let f : Frame = record { snapshot = true; last = c.self.inside.changes; list = c.args.digest.now; body = c.args.body.now } in
    let list : length c.args.digest.now ≡ 32 = search rules in
    let long : length c.deref.result.now ≡ 19 + (length f.list + length f.body) = block_long f c.deref.result.now (c.deref.ensures.value ∙ c.in-Ok.ensures.items) in
    let len_is : c.len.result ≡ length f.body + 51 = omega (arith, c.len.ensures, c.deref.ensures.len, long, list) in
    search (rules, c.self.view_is, c.snapshot_place-to.ensures.place, len_is)
