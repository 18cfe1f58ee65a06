-- What a commit leaves, by what its append left.
use Rattle.std.proofs.Common.{◌≡◌, ℕ, ◌+◌, ◌-◌, ◌%◌, ◌^◌, ◌<◌, ◌≤◌, Bool, List, [], ◌∷◌, ◌++◌, length, take, drop, arith, refl, sym, ◌∙◌, subst}
use Rattle.std.specs.Prelude.{Some}
use Rattle.std.proofs.lemmas.List.{take_all}
use Rattle.disk_model.specs.Disk.{View, Goes, LeavesOnly, Written}
use Rattle.journal.specs.Append.{IsAppending}
use Rattle.journal.specs.Frame.{Frame, encoded, base_of}
use Rattle.journal.specs.Journal.{JournalView, StandsInFile, IsAtRest, next_frame, IsBeforeOrAfter}
use Rattle.journal.specs.CheckpointParts.{IsRegion}
use Rattle.journal.proofs.Moments.{weaker, goes_from, goes_back}
use Rattle.journal.proofs.Frames.{last_of-push}
use Rattle.journal.proofs.Commit.{gate_place, image, done}

pub region_of : (j : JournalView) (c : List ℕ) (frames : List Frame) → StandsInFile j c frames → IsRegion j.digest c j.live j.number j.begin j.end frames
region_of j c frames s = record { kept = s.kept; head = s.head; from = s.from; fits = s.fits; frames_at = s.frames_at; sound = s.sound; second = s.second; under = s.under; ends = s.end }

pub place_of : (j : JournalView) (v : View) → IsAtRest j v → (c : List ℕ) → v.contents ≡ Some c → j.end + 1 ≤ length c
place_of j v rest c is = let s = rest.stands c is in gate_place j.digest c j.live j.number j.begin j.end s.0 (region_of j c s.0 s.1)

-- a block without its first byte
pub behind_first : (b : ℕ) (block xs : List ℕ) → block ≡ b ∷ xs → take (length block - 1) (drop 1 block) ≡ xs
behind_first b block xs is = subst (λ (l : List ℕ). take (length l - 1) (drop 1 l) ≡ xs) (sym is) (take_all (length (b ∷ xs) - 1) xs (omega arith))

-- the journal that a call works on, where it is the one that contracts see
abbrev pub inside_of : {j k : JournalView} → j ≡ k → JournalView
inside_of {j} same = j

below : (n : ℕ) → n % 2 ^ 64 < 2 ^ 64
below n = omega arith

module _ (j : JournalView) (v w : View) (body block : List ℕ) (changes : ℕ) (block_is : block ≡ encoded (next_frame j body changes) ++ 0 ∷ []) (small : length body < 2 ^ 64) (k : JournalView) (same : j ≡ k) where
  abbrev Moments : JournalView → Type 0
  Moments i = (c : List ℕ) (frames : List Frame) → v.contents ≡ Some c → StandsInFile i c frames → LeavesOnly v w (IsBeforeOrAfter i.digest frames (next_frame i body changes))

  pub commit_moments : ((c : List ℕ) → v.contents ≡ Some c → LeavesOnly v w (IsAppending j.end block c)) → Moments k
  commit_moments moments = subst Moments same (λ c frames is s.
      let at_block = subst (λ (b : List ℕ). LeavesOnly v w (IsAppending j.end b c)) block_is (moments c is) in
      weaker v w (IsAppending j.end (encoded (next_frame j body changes) ++ 0 ∷ []) c) (IsBeforeOrAfter j.digest frames (next_frame j body changes))
      (image j.digest c j.live j.number j.begin j.end frames (next_frame j body changes) (region_of j c frames s) (below (j.changes + changes)) refl (omega arith)) at_block)

  module _ (end room : ℕ) (shut : Bool) (ends : end ≡ j.end + 18 + length body) where
    stood : (c d : List ℕ) (frames : List Frame) → StandsInFile j c frames → Written j.end (1 ∷ block) c d
        → StandsInFile (record j { end = end; changes = (j.changes + changes) % 2 ^ 64; shut = shut; room = room }) d (frames ++ next_frame j body changes ∷ [])
    stood c d frames s written =
        let at_block = subst (λ (b : List ℕ). Written j.end (1 ∷ b) c d) block_is written in
        let r = done j.digest c j.live j.number j.begin j.end frames (next_frame j body changes) (region_of j c frames s) (below (j.changes + changes)) refl (omega arith) d at_block in
        record {
          kept = r.kept;
          head = r.head;
          from = r.from;
          fits = r.fits;
          frames_at = r.frames_at;
          sound = r.sound;
          second = r.second;
          under = r.under;
          end = omega (arith, r.ends, ends);
          last = sym (last_of-push 0 frames (next_frame j body changes));
          base = s.base ∙ base_stays frames;
        }
      where
        base_stays : (frames : List Frame) → base_of frames ≡ base_of (frames ++ next_frame j body changes ∷ [])
        base_stays [] = refl
        base_stays (x ∷ frames) = refl

    abbrev StandsAfter : JournalView → Type 0
    StandsAfter i = (c : List ℕ) (frames : List Frame) → v.contents ≡ Some c → StandsInFile i c frames
        → (d : List ℕ) × (w.contents ≡ Some d) × StandsInFile (record j { end = end; changes = (j.changes + changes) % 2 ^ 64; shut = shut; room = room }) d (frames ++ next_frame i body changes ∷ [])

    pub commit_stands : Goes (Written j.end (1 ∷ block)) v.contents w.contents → StandsAfter k
    commit_stands goes = subst StandsAfter same (λ c frames is s.
        let next = goes_from (Written j.end (1 ∷ block)) v.contents w.contents c goes is in (next.0, next.1, stood c next.0 frames s next.2))

    pub commit_rests : Goes (Written j.end (1 ∷ block)) v.contents w.contents → IsAtRest k v → (d : List ℕ) → w.contents ≡ Some d
        → (frames : List Frame) × StandsInFile (record j { end = end; changes = (j.changes + changes) % 2 ^ 64; shut = shut; room = room }) d frames
    commit_rests goes rest d told =
        let was = goes_back (Written j.end (1 ∷ block)) v.contents w.contents d goes told in
        let s = (subst (λ (i : JournalView). IsAtRest i v) (sym same) rest).stands was.0 was.1 in
        (s.0 ++ next_frame j body changes ∷ [], stood was.0 d s.0 s.1 was.2)
