-- What a checkpoint leaves, by what its two parts left.
use Rattle.std.proofs.Common.{◌≡◌, inl, inr, ℕ, ◌+◌, ◌%◌, ◌^◌, ◌<◌, Bool, not, List, [], ◌∷◌, length, arith, refl, sym, ◌∙◌, subst}
use Rattle.std.specs.Prelude.{Some}
use Rattle.disk_model.specs.Disk.{View, Goes, LeavesOnly, Written}
use Rattle.journal.specs.Append.{IsAppending}
use Rattle.journal.specs.Frame.{Frame, IsSecond}
use Rattle.journal.specs.Store.{Head, FramesAt, slot_bytes, other_at}
use Rattle.journal.specs.Journal.{JournalView, StandsInFile, IsAtRest, snapshot_frame, IsBeforeOrSnapshot}
use Rattle.journal.specs.CheckpointParts.{IsRegion, IsApart, IsBetween, IsBlock, IsStillStore}
use Rattle.journal.proofs.Moments.{weaker, and_then, goes_from}
use Rattle.journal.proofs.Committed.{region_of}
use Rattle.journal.proofs.Frames.{named}
use Rattle.journal.proofs.Snapshots.{switch, switched}

-- the first part leaves the frames
pub staged : (v w : View) (digest : List ℕ) (frames : List Frame) (f : Frame) → LeavesOnly v w (IsStillStore digest frames) → LeavesOnly v w (IsBeforeOrSnapshot digest frames f)
staged v w digest frames f moments = weaker v w (IsStillStore digest frames) (IsBeforeOrSnapshot digest frames f) (λ image store. (store.0, inl store.1)) moments

module _ (v w x : View) (live : Bool) (number to : ℕ) (digest d : List ℕ) (begin : ℕ) (frames : List Frame) (f : Frame) (to_fits : to < 2 ^ 64) (block : List ℕ) (whole_block : IsBlock f block)
    (told : w.contents ≡ Some d) (between : IsBetween digest d live number begin frames to f) (slot : ℕ) (piece : List ℕ) (slot_is : slot ≡ other_at live) (piece_is : piece ≡ slot_bytes ((number + 1) % 2 ^ 64) to) where
  -- and the second one the frames or the snapshot
  pub then_switched : LeavesOnly v w (IsStillStore digest frames) → ((c : List ℕ) → w.contents ≡ Some c → LeavesOnly w x (IsAppending slot piece c)) → LeavesOnly v x (IsBeforeOrSnapshot digest frames f)
  then_switched first moments =
      let S = λ (k : ℕ). LeavesOnly w x (IsAppending k piece d) in
      let T = λ (l : List ℕ). LeavesOnly w x (IsAppending (other_at live) l d) in
      let at_slot = subst T piece_is (subst S slot_is (moments d told)) in
      and_then v w x (IsBeforeOrSnapshot digest frames f) (staged v w digest frames f first)
      (weaker w x (IsAppending (other_at live) (slot_bytes ((number + 1) % 2 ^ 64) to) d) (IsBeforeOrSnapshot digest frames f) (switch digest d live number begin frames to f between to_fits block whole_block) at_slot)

  pub is_switched : Goes (Written slot (1 ∷ piece)) w.contents x.contents → (e : List ℕ) × (x.contents ≡ Some e) × IsSecond e × ((kept : List ℕ) × Head kept e (not live) ((number + 1) % 2 ^ 64) to) × FramesAt e to (f ∷ [])
  is_switched goes =
      let next = goes_from (Written slot (1 ∷ piece)) w.contents x.contents d goes told in
      let S = λ (k : ℕ). Written k (1 ∷ piece) d next.0 in
      let T = λ (l : List ℕ). Written (other_at live) (1 ∷ l) d next.0 in
      let both = switched digest d live number begin frames to f between to_fits block whole_block next.0 (subst T piece_is (subst S slot_is next.2)) in
      (next.0, next.1, both.0, both.1, both.2)

-- of the store that a journal has
module _ (j : JournalView) (v x : View) (digest body block : List ℕ) (to : ℕ) (apart : IsApart to (length block) j.begin j.end) (is_block : IsBlock (snapshot_frame j digest body) block) (to_fits : to < 2 ^ 64) (k : JournalView) (same : j ≡ k) where
  abbrev pub MomentsOf : Type 0
  MomentsOf = (c was : List ℕ) (begin end : ℕ) (frames : List Frame) (f : Frame) → v.contents ≡ Some c → IsRegion was c j.live j.number begin end frames → IsApart to (length block) begin end → IsBlock f block
      → LeavesOnly v x (IsBeforeOrSnapshot was frames f)

  abbrev MomentsAt : JournalView → Type 0
  MomentsAt i = (c : List ℕ) (frames : List Frame) → v.contents ≡ Some c → StandsInFile i c frames → LeavesOnly v x (IsBeforeOrSnapshot i.digest frames (snapshot_frame i digest body))

  pub checkpoint_moments : MomentsOf → MomentsAt k
  checkpoint_moments moments = subst MomentsAt same (λ c frames is s. moments c j.digest j.begin j.end frames (snapshot_frame j digest body) is (region_of j c frames s) apart is_block)

  abbrev pub SwitchedOf : Type 0
  SwitchedOf = (c was : List ℕ) (begin end : ℕ) (frames : List Frame) (f : Frame) → v.contents ≡ Some c → IsRegion was c j.live j.number begin end frames → IsApart to (length block) begin end → IsBlock f block
      → (d : List ℕ) × (x.contents ≡ Some d) × IsSecond d × ((kept : List ℕ) × Head kept d (not j.live) ((j.number + 1) % 2 ^ 64) to) × FramesAt d to (f ∷ [])

  module _ (sw : SwitchedOf) (end room : ℕ) (shut : Bool) (ends : end ≡ to + 50 + length body) where
    stood : (c : List ℕ) (frames : List Frame) → v.contents ≡ Some c → StandsInFile j c frames → (d : List ℕ) × (x.contents ≡ Some d) × StandsInFile (record j { digest = digest; live = not j.live; number = (j.number + 1) % 2 ^ 64; begin = to; end = end; base = j.changes; shut = shut; room = room }) d (snapshot_frame j digest body ∷ [])
    stood c frames is s =
        let d = sw c j.digest j.begin j.end frames (snapshot_frame j digest body) is (region_of j c frames s) apart is_block in (
          d.0,
          d.1,
          record {
            kept = d.3.0;
            head = d.3.1;
            from = apart.0;
            fits = to_fits;
            frames_at = d.4;
            sound = (is_block.last, is_block.size, inr (refl, is_block.list, d.2), tt);
            second = d.2;
            under = named d.3.0 digest is_block.list;
            end = omega (arith, ends, is_block.list);
            last = refl;
            base = refl;
          },
        )

    abbrev StandsAfter : JournalView → Type 0
    StandsAfter i = (c : List ℕ) (frames : List Frame) → v.contents ≡ Some c → StandsInFile i c frames
        → (d : List ℕ) × (x.contents ≡ Some d) × StandsInFile (record j { digest = digest; live = not j.live; number = (j.number + 1) % 2 ^ 64; begin = to; end = end; base = j.changes; shut = shut; room = room }) d (snapshot_frame i digest body ∷ [])

    pub checkpoint_stands : StandsAfter k
    checkpoint_stands = subst StandsAfter same stood

    -- the disk that tells then told before
    pub checkpoint_rests : IsAtRest k v → ((d : List ℕ) → x.contents ≡ Some d → (c : List ℕ) × (v.contents ≡ Some c)) → (d : List ℕ) → x.contents ≡ Some d
        → (frames : List Frame) × StandsInFile (record j { digest = digest; live = not j.live; number = (j.number + 1) % 2 ^ 64; begin = to; end = end; base = j.changes; shut = shut; room = room }) d frames
    checkpoint_rests rest before d told =
        let was = before d told in
        let s = (subst (λ (i : JournalView). IsAtRest i v) (sym same) rest).stands was.0 was.1 in
        let next = stood was.0 s.0 was.1 s.1 in
        let is_d : next.0 ≡ d = some_is next.0 d (sym next.1 ∙ told) in
        (snapshot_frame j digest body ∷ [], subst (λ (l : List ℕ). StandsInFile (record j { digest = digest; live = not j.live; number = (j.number + 1) % 2 ^ 64; begin = to; end = end; base = j.changes; shut = shut; room = room }) l (snapshot_frame j digest body ∷ [])) is_d next.2)
      where
        some_is : (a b : List ℕ) → Some a ≡ Some b → a ≡ b
        some_is a b e = cc
