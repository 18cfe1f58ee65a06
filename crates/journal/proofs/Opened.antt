-- What an opening leaves, by what its parts leave.
use Rattle.std.proofs.Common.{◌≡◌, inl, inr, ℕ, ◌+◌, ◌^◌, ◌≤◌, ◌<◌, Bool, true, List, [], length, arith, sym, ap, subst}
use Rattle.std.specs.Prelude.{Option, Some, Result, Ok, Err, IfOk, OnOk}
use Rattle.std.proofs.lemmas.Bool.Decides.{nat_tests}
use Rattle.disk_model.specs.Disk.{Goes}
use Rattle.journal.specs.Append.{IsMade}
use Rattle.journal.specs.Frame.{Frame, IsFirst, IsSecond, AreSound, region_digest, frames_len, last_of, base_of}
use Rattle.journal.specs.Store.{IsOpen, IsStore, IsUnborn, Head, FramesAt}
use Rattle.journal.specs.Region.{TakesOf, Runs}
use Rattle.journal.specs.Opening.{IsGrown, IsUpgraded, opening_calls}
use Rattle.journal.specs.Journal.{JournalView, StandsInFile}
use Rattle.journal.specs.ReaderAnswers.{ReadsAs, OpensAs, upgrade_calls, behind_sync}
use Rattle.journal.proofs.Moments.{goes_told, goes_from, goes_back, goes_both}
use Rattle.journal.proofs.Openings.{if_then}
use Rattle.journal.proofs.Upgrades.{store_long, as_upgrade, head_kept, frames_kept, sound_kept, upgraded_second}

-- a file was made ready and had a head written to it, and so is of this length
pub made_grown : (block old new : List ℕ) → length block ≡ 128 → IsMade block old new → IsGrown old new
made_grown block old new size (mid, inl ready, w) = let same : length mid ≡ length old = ap length ready.1 in omega (arith, same, size, w.len)
made_grown block old new size (mid, inr ready, w) = omega (arith, ready.0, ready.1, size, w.len)

-- a store keeps its length
upgraded_grown : (old new : List ℕ) → 129 ≤ length old → IsUpgraded old new → IsGrown old new
upgraded_grown old new long (inl up) = omega (arith, long, up.1.len)
upgraded_grown old new long (inr same) = let e : length new ≡ length old = ap length same.1 in omega (arith, e, long)

pub calls_of_first : (file : List ℕ) → IsFirst file → upgrade_calls file ≡ 2
calls_of_first file first = grind (arith, nat_tests)

pub calls_of_second : (file : List ℕ) → IsSecond file → upgrade_calls file ≡ 0
calls_of_second file second = grind (arith, nat_tests)

-- a head and the frames of its region are a store
pub store_read : (digest file : List ℕ) (frames : List Frame) (kept : List ℕ) (live : Bool) (number begin : ℕ) → Head kept file live number begin → 128 ≤ begin → begin < 2 ^ 64 → FramesAt file begin frames → AreSound file frames → digest ≡ region_digest kept frames
    → IsStore digest file frames
store_read digest file frames kept live number begin head from fits frames_at sound under =
    record { kept = kept; live = live; number = number; begin = begin; head = head; from = from; fits = fits; frames_at = frames_at; sound = sound; under = under }

-- one sync, and what follows it
pub calls_behind : (file : List ℕ) → opening_calls file ≡ behind_sync file + 1
calls_behind file = grind (arith, nat_tests)

module _ {S : Type 0} (takes : TakesOf S) (empty state : S) (j : JournalView) where
  -- a store that was read is the journal's once it has version 2
  module _ (file : List ℕ) (frames : List Frame) (kept : List ℕ) (head : Head kept file j.live j.number j.begin) (from : 128 ≤ j.begin) (fits : j.begin < 2 ^ 64) (frames_at : FramesAt file j.begin frames) (sound : AreSound file frames)
      (under : j.digest ≡ region_digest kept frames) (end : j.end ≡ j.begin + frames_len frames) (last : j.changes ≡ last_of 0 frames) (base : j.base ≡ base_of frames) where
    store : IsStore j.digest file frames
    store = store_read j.digest file frames kept j.live j.number j.begin head from fits frames_at sound under

    stands : (now : List ℕ) → IsUpgraded file now → StandsInFile j now frames
    stands now (inl up) =
        let is = as_upgrade file now up.0 up.1 in
        let long = store_long j.digest file frames store in
        record {
          kept = kept;
          head = head_kept file now is long kept j.live j.number j.begin head;
          from = from;
          fits = fits;
          frames_at = frames_kept file now is long frames j.begin from frames_at;
          sound = sound_kept file now is long frames sound;
          second = upgraded_second file now (inl up);
          under = under;
          end = end;
          last = last;
          base = base;
        }
    stands now (inr same) =
        let here : StandsInFile j file frames = record { kept = kept; head = head; from = from; fits = fits; frames_at = frames_at; sound = sound; second = same.0; under = under; end = end; last = last; base = base } in
        subst (λ (f : List ℕ). StandsInFile j f frames) (sym same.1) here

    pub reads_as : Runs takes true empty 0 frames state j.changes → ReadsAs takes empty state j file
    reads_as runs = (frames, store, runs, stands)

  -- a file that was made a store
  pub opens_new : (given : List ℕ) (old new : Option (List ℕ)) → ((c : List ℕ) → old ≡ Some c → IsUnborn c) → Goes IsGrown old new → ((d : List ℕ) → new ≡ Some d → StandsInFile j d []) → (state ≡ empty) × (j.changes ≡ 0) × (j.digest ≡ given)
      → Goes (OpensAs takes empty state given j) old new
  opens_new given old new unborn grown made at_empty = goes_told IsGrown (OpensAs takes empty state given j) old new grown
      (λ c d is told length_is. ([], made d told, (sym at_empty.0, sym at_empty.1), length_is, inr (unborn c is, at_empty.0, at_empty.1, at_empty.2)))

  -- and one that was a store
  pub opens_born : (given : List ℕ) (old new : Option (List ℕ)) (bytes : List ℕ) → ((c : List ℕ) → old ≡ Some c → bytes ≡ c) → IsOpen bytes 0 × (1 < length bytes) → Goes IsUpgraded old new → ReadsAs takes empty state j bytes
      → Goes (OpensAs takes empty state given j) old new
  opens_born given old new bytes is_bytes born upgraded (frames, was, runs, to) = goes_told IsUpgraded (OpensAs takes empty state given j) old new upgraded
      (λ c d is told up.
      let at_c = is_bytes c is in
      let store_c = subst (λ (l : List ℕ). IsStore j.digest l frames) at_c was in
      let born_c = subst (λ (l : List ℕ). IsOpen l 0 × (1 < length l)) at_c born in (
        frames,
        to d (subst (λ (l : List ℕ). IsUpgraded l d) (sym at_c) up),
        runs,
        upgraded_grown c d (store_long j.digest c frames store_c) up,
        inl (born_c.0, born_c.1, store_c, up),
      ))

-- what is said of an opening by the file before and the one after it
module _ {S : Type 0} (takes : TakesOf S) (empty state : S) (given : List ℕ) where
  pub opens_from : {E : Type 0} (r : Result JournalView E) (old new : Option (List ℕ)) (c : List ℕ) → old ≡ Some c → IfOk r (λ j. Goes (OpensAs takes empty state given j) old new) → IfOk r (λ j. (d : List ℕ) × OpensAs takes empty state given j c d)
  opens_from r old new c is = if_then r (λ j. Goes (OpensAs takes empty state given j) old new) (λ j. (d : List ℕ) × OpensAs takes empty state given j c d)
      (λ j goes. let next = goes_from (OpensAs takes empty state given j) old new c goes is in (next.0, next.2))

  pub opened_stands : {E : Type 0} (r : Result JournalView E) (old new : Option (List ℕ)) → IfOk r (λ j. Goes (OpensAs takes empty state given j) old new)
      → IfOk r (λ j. (d : List ℕ) → new ≡ Some d → (frames : List Frame) × StandsInFile j d frames × Runs takes true empty 0 frames state j.changes)
  opened_stands r old new = if_then r (λ j. Goes (OpensAs takes empty state given j) old new) (λ j. (d : List ℕ) → new ≡ Some d → (frames : List Frame) × StandsInFile j d frames × Runs takes true empty 0 frames state j.changes)
      (λ j goes d told. let was = goes_back (OpensAs takes empty state given j) old new d goes told in stood j was.0 d was.2)
    where
      stood : (j : JournalView) (c d : List ℕ) → OpensAs takes empty state given j c d → (frames : List Frame) × StandsInFile j d frames × Runs takes true empty 0 frames state j.changes
      stood j c d (frames, at_file, runs, grown, was) = (frames, at_file, runs)

  up_of : (j : JournalView) (c d : List ℕ) → OpensAs takes empty state given j c d → IsOpen c 0 → 1 < length c → IsUpgraded c d
  up_of j c d (frames, stood, runs, grown, inl born) gate long = born.3
  up_of j c d (frames, stood, runs, grown, inr (inl short, at_empty, none, under)) gate long = absurd (omega (arith, short, long))
  up_of j c d (frames, stood, runs, grown, inr (inr shut, at_empty, none, under)) gate long = absurd (gate.1 shut)

  grown_of : (j : JournalView) (c d : List ℕ) → OpensAs takes empty state given j c d → IsGrown c d
  grown_of j c d (frames, stood, runs, grown, was) = grown

  pub opened_upgraded : {E : Type 0} (r : Result JournalView E) (old new : Option (List ℕ)) → IfOk r (λ j. Goes (OpensAs takes empty state given j) old new)
      → OnOk r ((c d : List ℕ) → old ≡ Some c → new ≡ Some d → IsOpen c 0 → 1 < length c → IsUpgraded c d)
  opened_upgraded (Ok j) old new goes = λ c d is told. up_of j c d (goes_both (OpensAs takes empty state given j) old new c d goes is told)
  opened_upgraded (Err e) old new goes = tt

  pub opened_grown : {E : Type 0} (r : Result JournalView E) (old new : Option (List ℕ)) → IfOk r (λ j. Goes (OpensAs takes empty state given j) old new) → OnOk r ((c d : List ℕ) → old ≡ Some c → new ≡ Some d → IsGrown c d)
  opened_grown (Ok j) old new goes = λ c d is told. grown_of j c d (goes_both (OpensAs takes empty state given j) old new c d goes is told)
  opened_grown (Err e) old new goes = tt
