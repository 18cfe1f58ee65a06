-- What the stores that the calls leave stand for.
use Rattle.std.proofs.Common.{◌≡◌, inl, inr, ℕ, ◌+◌, ◌-◌, ◌%◌, ◌^◌, ◌<◌, Bool, true, false, List, [], ◌∷◌, ◌++◌, length, arith, refl, subst}
use Rattle.std.specs.Prelude.{◌⊎◌, if◌then◌else◌}
use Rattle.journal.specs.Frame.{Frame, base_of}
use Rattle.journal.specs.Region.{Runs, IsRightKind, IsRightLast, HasChanges, StandsForState}
use Rattle.journal.specs.Journal.{IsBeforeOrAfter, IsBeforeOrSnapshot}
use Rattle.journal.proofs.Runs.{runs_push}

module _ {S : Type 0} (takes : S → Bool → List ℕ → S → ℕ → Type 0) (empty : S) where
  pub commit_stands_for : (digest file body : List ℕ) (frames : List Frame) (s t : S) (last changes : ℕ) → Runs takes true empty 0 frames s last → 0 < length body → takes s false body t changes
      → IsBeforeOrAfter digest frames (record { snapshot = false; last = (last + changes) % 2 ^ 64; list = []; body = body }) file
      → StandsForState takes empty digest file s last ⊎ StandsForState takes empty digest file t ((last + changes) % 2 ^ 64)
  commit_stands_for digest file body frames s t last changes runs some took (second, inl store) = inl (frames, store, runs)
  commit_stands_for digest file body frames s t last changes runs some took (second, inr store) =
      let f : Frame = record { snapshot = false; last = (last + changes) % 2 ^ 64; list = []; body = body } in
      inr (frames ++ f ∷ [], store, runs_push takes true empty 0 frames s last f t changes runs some took refl)

  pub checkpoint_stands_for : (digest given file body : List ℕ) (frames : List Frame) (s t : S) (last changes : ℕ) → Runs takes true empty 0 frames s last → takes empty true body t changes
      → IsBeforeOrSnapshot digest frames (record { snapshot = true; last = last; list = given; body = body }) file → StandsForState takes empty digest file s last ⊎ StandsForState takes empty given file t last
  checkpoint_stands_for digest given file body frames s t last changes runs took (second, inl store) = inl (frames, store, runs)
  checkpoint_stands_for digest given file body frames s t last changes runs took (second, inr store) =
      inr ((record { snapshot = true; last = last; list = given; body = body }) ∷ [], store, (t, changes, refl, took, tt, (refl, refl)))

  module _ (one_state : (s : S) (k : Bool) (b : List ℕ) (t u : S) (m n : ℕ) → takes s k b t m → takes s k b u n → t ≡ u)
      (one_count : (s : S) (k : Bool) (b : List ℕ) (t u : S) (m n : ℕ) → takes s k b t m → takes s k b u n → m ≡ n) where
    -- behind the first frame none is a snapshot, and each number is the one before and its changes
    counted : (frames : List Frame) (s t : S) (last end total : ℕ) → Runs takes false s last frames t end → HasChanges takes s frames total → end % 2 ^ 64 ≡ (last + total) % 2 ^ 64
    counted [] s t last end total runs has = let a : last ≡ end = runs.1 in let b : total ≡ 0 = has in omega arith
    counted (f ∷ frames) s t last end total runs has =
        let same = one_state s f.snapshot f.body has.0 runs.0 has.1 runs.1 has.3 runs.3 in
        let count = one_count s f.snapshot f.body has.0 runs.0 has.1 runs.1 has.3 runs.3 in
        let H = λ (x : S). HasChanges takes x frames has.2 in
        let rest = counted frames runs.0 t f.last end has.2 runs.5 (subst H same has.4) in
        step f.snapshot f.body last runs.1 f.last has.1 has.2 total end runs.2 runs.4 count has.5 rest
      where
        step : (snapshot : Bool) (body : List ℕ) (last n next m rest total end : ℕ) → IsRightKind false snapshot body → IsRightLast snapshot last n next → m ≡ n → total ≡ (if snapshot then 0 else m) + rest
            → end % 2 ^ 64 ≡ (next + rest) % 2 ^ 64 → end % 2 ^ 64 ≡ (last + total) % 2 ^ 64
        step true body last n next m rest total end kind right same is so_far = absurd (cc)
        step false body last n next m rest total end kind right same is so_far = omega (arith, right, same, is, so_far)

    pub since_counts : (frames : List Frame) (s : S) (last total : ℕ) → Runs takes true empty 0 frames s last → base_of frames < 2 ^ 64 → HasChanges takes empty frames total
        → (last + (2 ^ 64 - base_of frames)) % 2 ^ 64 ≡ total % 2 ^ 64
    since_counts [] s last total runs small has = let a : 0 ≡ last = runs.1 in let b : total ≡ 0 = has in omega arith
    since_counts (f ∷ frames) s last total runs small has =
        let same = one_state empty f.snapshot f.body has.0 runs.0 has.1 runs.1 has.3 runs.3 in
        let count = one_count empty f.snapshot f.body has.0 runs.0 has.1 runs.1 has.3 runs.3 in
        let H = λ (x : S). HasChanges takes x frames has.2 in
        let rest = counted frames runs.0 s f.last last has.2 runs.5 (subst H same has.4) in
        first f.snapshot runs.1 f.last has.1 has.2 total last runs.4 count has.5 rest small
      where
        first : (snapshot : Bool) (n next m rest total end : ℕ) → IsRightLast snapshot 0 n next → m ≡ n → total ≡ (if snapshot then 0 else m) + rest
            → end % 2 ^ 64 ≡ (next + rest) % 2 ^ 64 → (if snapshot then next else 0) < 2 ^ 64 → (end + (2 ^ 64 - (if snapshot then next else 0))) % 2 ^ 64 ≡ total % 2 ^ 64
        first true n next m rest total end right same is so_far small = omega (arith, is, so_far, small)
        first false n next m rest total end right same is so_far small = omega (arith, right, same, is, so_far)
