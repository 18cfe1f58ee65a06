-- The highest number among frames that are gone through.
use Rattle.std.proofs.Common.{◌≡◌, ◌<◌, ◌≤◌, ◌+◌, ℕ, Bool, true, false, not, List, [], ◌∷◌, length, take, get_or, map, inl, inr, refl, ap, subst, ◌∙◌, sym, arith}
use Rattle.std.specs.Prelude.{◌&&◌, ◌||◌, ◌==◌, ◌≢◌, ◌⊎◌, max, nat_lt}
use Rattle.std.specs.List.{list_all}
use Rattle.std.proofs.lemmas.Bool.Decides.{eqb_tells, nat_tests}
use Rattle.std.proofs.lemmas.List.{get_or-map, length-map}
use Rattle.std.proofs.lemmas.List.Elements.{All-weaker}
use Rattle.std.proofs.lemmas.List.Folds.{list_all_more}
use Rattle.std.proofs.lemmas.List.Sums.{AllPass-from_list_all, list_all-from_AllPass}
use Rattle.std.proofs.Math.Nat.{max-eq_left, max-eq_right}
use Rattle.frame_tree.specs.Plain.{plain_frame}
use Rattle.frame_tree.specs.Tree.{PlainFrame, has_frame}
use Rattle.frame_tree.specs.declared.frames.Frame.{Frame}
use Rattle.frame_tree.proofs.ApartLemmas.{has_at}

-- no frame has a higher number
abbrev pub none_above : ℕ → List Frame → Bool
none_above last frames = list_all (λ f. not (nat_lt last f.frame)) frames

module _ (last : ℕ) (frames : List Frame) (i : ℕ) (within : i < length frames) (f : Frame) (read : f ≡ get_or frames i f) (higher : ℕ) (is : higher ≡ max last f.frame) where
  item_there : has_frame f.frame (map plain_frame frames) ≡ true
  item_there =
      has_at f.frame (map plain_frame frames) i (plain_frame f) (subst (λ n. i < n) (sym (length-map frames plain_frame)) within)
      (ap (λ (g : PlainFrame). g.frame) (get_or-map plain_frame frames i f (plain_frame f) within) ∙ ap (λ (g : Frame). g.frame) (sym read))

  there_by : (b : Bool) → nat_lt last f.frame ≡ b → has_frame last (map plain_frame frames) ≡ true
      → has_frame (max last f.frame) (map plain_frame frames) ≡ true
  there_by true test there =
      let low : last ≤ f.frame = grind (arith, nat_tests) in
      ap (λ n. has_frame n (map plain_frame frames)) (max-eq_right low) ∙ item_there
  there_by false test there =
      let low : f.frame ≤ last = grind (arith, nat_tests) in
      ap (λ n. has_frame n (map plain_frame frames)) (max-eq_left low) ∙ there

  -- the higher of two numbers is that of a frame
  pub there-more : has_frame last (map plain_frame frames) ≡ true → has_frame higher (map plain_frame frames) ≡ true
  there-more there = ap (λ n. has_frame n (map plain_frame frames)) is ∙ there_by (nat_lt last f.frame) refl there

  weaker : (g : Frame) → not (nat_lt last g.frame) ≡ true → not (nat_lt higher g.frame) ≡ true
  weaker g low = grind (arith, nat_tests, is)

  own : not (nat_lt higher (get_or frames i f).frame) ≡ true
  own = let low : not (nat_lt higher f.frame) ≡ true = grind (arith, nat_tests, is) in ap (λ (g : Frame). not (nat_lt higher g.frame)) (sym read) ∙ low

  pub above-more : none_above last (take i frames) ≡ true → none_above higher (take (i + 1) frames) ≡ true
  above-more none =
      list_all_more (λ g. not (nat_lt higher g.frame)) frames i f within
      ∙ ap (λ b. b && not (nat_lt higher (get_or frames i f).frame))
      (list_all-from_AllPass (λ g. not (nat_lt higher g.frame)) (take i frames)
      (All-weaker (λ g. not (nat_lt last g.frame) ≡ true) (λ g. not (nat_lt higher g.frame) ≡ true) weaker (take i frames)
      (AllPass-from_list_all (λ g. not (nat_lt last g.frame)) (take i frames) none)))
      ∙ own

-- a frame that is there has no higher number
pub not-above : (last : ℕ) (frames : List Frame) → none_above last frames ≡ true → (n : ℕ) → has_frame n (map plain_frame frames) ≡ true → n ≤ last
not-above last [] none n there = absurd (cc there)
not-above last (f ∷ fs) none n there = by (nat_lt last f.frame) refl (eqb_tells f.frame n) (λ kept later. not-above last fs kept n later)
  where
    by : (b : Bool) → nat_lt last f.frame ≡ b → (((f.frame == n) ≡ true) × (f.frame ≡ n)) ⊎ (((f.frame == n) ≡ false) × (f.frame ≢ n))
        → (none_above last fs ≡ true → has_frame n (map plain_frame fs) ≡ true → n ≤ last) → n ≤ last
    by true is which rest =
        let no : false ≡ true = sym (ap (λ b. not b && none_above last fs) is) ∙ none in absurd (cc no)
    by false is (inl equal) rest =
        let low : f.frame ≤ last = grind (arith, nat_tests) in subst (λ m. m ≤ last) equal.1 low
    by false is (inr differ) rest =
        rest (sym (ap (λ b. not b && none_above last fs) is) ∙ none)
        (sym (ap (λ b. b || has_frame n (map plain_frame fs)) differ.0) ∙ there)
