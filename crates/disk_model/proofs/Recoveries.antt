-- What a restart leaves, range by range, and that it is one of the images.
use Rattle.std.proofs.Common.{◌≡◌, ◌⊎◌, ⊎_elim, inl, inr, ℕ, zero, suc, ◌+◌, ◌≤◌, ◌<◌, List, [], ◌∷◌, ◌++◌, length, slice_index, arith, refl, sym, ◌∙◌, ap, subst}
use Rattle.std.specs.Prelude.{Result, Ok, Err, OnOk, OnErr, get_or, ◌/◌, nat_lt, if◌then◌else◌}
use Rattle.std.proofs.lemmas.Bool.Decides.{nat_tests}
use Rattle.disk_model.specs.Image.{IsOutside, greatest_end}
use Rattle.disk_model.specs.ImageLaws.{outside_push, outside_front}
use Rattle.disk_model.specs.History.{Held, ImageOf}
use Rattle.disk_model.specs.Recovery.{IsSpoiled, IsHalved, halves, placed_end, Recovered}
use Rattle.disk_model.specs.MediumBuffers.{IsPlaced}
use Rattle.disk_model.proofs.Placed.{place_cases, none_placed, placed_least}

-- one range more is spoiled
pub spoiled_push : (contents mid new : List ℕ) (ranges : List (ℕ × ℕ)) (at n : ℕ) → IsSpoiled contents ranges mid → length new ≡ length mid
    → ((i : ℕ) → at ≤ i → i < at + n → slice_index new i ≡ 165) → ((i : ℕ) → (i < at) ⊎ (at + n ≤ i) → slice_index new i ≡ slice_index mid i)
    → IsSpoiled contents (ranges ++ (at, n) ∷ []) new
spoiled_push contents mid new ranges at n spoiled size within beside = record {
  len = omega (arith, spoiled.len);
  outside = λ i below out. let parts = outside_front i ranges at n out in beside i parts.1 ∙ spoiled.outside i below parts.0;
  inside = λ i below not_out. ⊎_elim
      (λ (o : (i < at) ⊎ (at + n ≤ i)). beside i o ∙ spoiled.inside i below (λ out. not_out (outside_push i ranges at n out o)))
      (λ (m : (at ≤ i) × (i < at + n)). within i m.0 m.1)
      (place_cases i at n);
}

pub none_spoiled : (contents : List ℕ) → IsSpoiled contents [] contents
none_spoiled contents = record { len = refl; outside = λ i below out. refl; inside = λ i below not_out. absurd (not_out tt) }

-- where the first half of each range is in place
pub placed_halved : (synced contents file : List ℕ) (ranges : List (ℕ × ℕ)) → IsPlaced synced contents (halves ranges) file → IsHalved synced contents ranges file
placed_halved synced contents file ranges placed = record { len = placed.len; outside = placed.outside; inside = placed.inside }

pub none_halved : (synced contents : List ℕ) → IsHalved synced contents [] synced
none_halved synced contents = placed_halved synced contents synced [] (none_placed synced contents)

half_end : (at n : ℕ) → (if nat_lt 0 ((n + 1) / 2) then at + (n + 1) / 2 else 0) ≤ at + n
half_end at n = grind (arith, nat_tests)

pub placed_most : (len : ℕ) (ranges : List (ℕ × ℕ)) → placed_end len (halves ranges) ≤ greatest_end len ranges
placed_most len [] = omega arith
placed_most len (r ∷ ranges) = omega (arith, half_end r.0 r.1, placed_most len ranges)

-- the halves end no later than the ranges
pub halves_within : (ranges : List (ℕ × ℕ)) → greatest_end 0 (halves ranges) ≤ greatest_end 0 ranges
halves_within [] = omega arith
halves_within (r ∷ ranges) = omega (arith, halves_within ranges)

outside_halves : (i : ℕ) (ranges : List (ℕ × ℕ)) → IsOutside i ranges → IsOutside i (halves ranges)
outside_halves i [] out = tt
outside_halves i (r ∷ ranges) out = (⊎_elim (λ (low : i < r.0). inl low) (λ (high : r.0 + r.1 ≤ i). inr (omega arith)) out.0, outside_halves i ranges out.1)

-- the synced bytes are no longer than the contents, with the ranges within them
pub end_within : (len most : ℕ) (ranges : List (ℕ × ℕ)) → len ≤ most → greatest_end 0 ranges ≤ most → greatest_end len ranges ≤ most
end_within len most [] short le = short
end_within len most (r ∷ ranges) short le = let rest = end_within len most ranges short (omega arith) in omega arith

-- what a restart leaves is one of the images
pub recovered_image : (pick : ℕ) (h : Held) (file : List ℕ) → ImageOf h h.contents → Recovered pick h file → ImageOf h file
recovered_image zero h file image is = subst (λ (l : List ℕ). ImageOf h l) (sym is) (record {
  no_shorter = omega arith;
  no_longer = omega (arith, image.no_shorter, image.no_longer);
  outside = λ i within out. refl;
})
recovered_image (suc zero) h file image is = subst (λ (l : List ℕ). ImageOf h l) (sym is) image
recovered_image (suc (suc zero)) h file image is = record {
  no_shorter = omega (arith, is.len, image.no_shorter);
  no_longer = omega (arith, is.len, image.no_longer);
  outside = λ i within out. is.outside i (omega (arith, image.no_shorter)) out ∙ image.outside i within out;
}
recovered_image (suc (suc (suc more))) h file image is = record {
  no_shorter = omega (arith, is.len, placed_least (length h.synced) (halves h.ranges));
  no_longer = omega (arith, is.len, placed_most (length h.synced) h.ranges);
  outside = λ i within out. is.outside i (outside_halves i h.ranges out);
}

-- where nothing was written, each pick leaves the contents
pub recovered_fresh : (pick : ℕ) (contents : List ℕ) → Recovered pick (record { contents = contents; synced = contents; ranges = [] }) contents
recovered_fresh zero contents = refl
recovered_fresh (suc zero) contents = refl
recovered_fresh (suc (suc zero)) contents = none_spoiled contents
recovered_fresh (suc (suc (suc more))) contents = none_halved contents contents

pub halved_len : (synced contents file : List ℕ) (ranges : List (ℕ × ℕ)) → IsHalved synced contents ranges file → length synced ≤ length contents → greatest_end 0 ranges ≤ length contents → length file ≤ length contents
halved_len synced contents file ranges halved short within = omega (arith, halved.len, placed_most (length synced) ranges, end_within (length synced) (length contents) ranges short within)

-- and never a longer file
pub recovered_len : (pick : ℕ) (h : Held) (file : List ℕ) → length h.synced ≤ length h.contents → greatest_end 0 h.ranges ≤ length h.contents → Recovered pick h file → length file ≤ length h.contents
recovered_len zero h file short within is = omega (arith, ap length is)
recovered_len (suc zero) h file short within is = omega (arith, ap length is)
recovered_len (suc (suc zero)) h file short within is = omega (arith, is.len)
recovered_len (suc (suc (suc more))) h file short within is = halved_len h.synced h.contents file h.ranges is short within

-- a range among these ends where their greatest end allows
pub range_end : (k : ℕ) (ranges : List (ℕ × ℕ)) → k < length ranges → (get_or ranges k (0, 0)).0 + (get_or ranges k (0, 0)).1 ≤ greatest_end 0 ranges
range_end k [] below = absurd (omega arith)
range_end zero (r ∷ ranges) below = omega arith
range_end (suc k) (r ∷ ranges) below = omega (arith, range_end k ranges (omega arith))

-- what a result says of its value, and another thing that follows from it
pub ok_then : {T E : Type 0} (r : Result T E) (P Q : Type 0) → (P → Q) → OnOk r P → OnOk r Q
ok_then (Ok v) P Q f p = f p
ok_then (Err e) P Q f p = tt

pub err_then : {T E : Type 0} (r : Result T E) (P Q : Type 0) → (P → Q) → OnErr r P → OnErr r Q
err_then (Ok v) P Q f p = tt
err_then (Err e) P Q f p = f p
