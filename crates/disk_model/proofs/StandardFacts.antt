-- Values worked out by hand from the crash model, so that a wrong rule in the specs does not check.
-- The bytes `abcd` are synced; then `XYZ` is written at 2 and `FGHI` at 5.
use Rattle.std.proofs.Common.{◌≡◌, refl, ℕ, [], ◌∷◌}
use Rattle.std.specs.Prelude.{codes, Some, None, true, false}
use Rattle.disk_model.specs.Image.{greatest_end}
use Rattle.disk_model.specs.History.{Held, overlaid, wrote, synced, missed, replay, at_first}
use Rattle.disk_model.specs.Recovery.{halves, placed_end}
use Rattle.disk_model.specs.MemDisk.{told_cuts}
use Rattle.disk_model.specs.Schedule.{Plan, next_fails, next_plan, refuses, called}

abbrev written : Held
written = replay (at_first (codes "abcd")) (wrote 2 (codes "XYZ") ∷ wrote 5 (codes "FGHI") ∷ [])

-- a write goes over what is there and past the end
contents_are : written.contents ≡ codes "abXYZFGHI"
unfolding overlaid
contents_are = refl

-- it is pending until a sync that succeeds
pending_are : written.ranges ≡ (2, 3) ∷ (5, 4) ∷ []
pending_are = refl

still_synced : (replay written (missed ∷ [])).synced ≡ codes "abcd"
still_synced = refl

then_synced : (replay written (missed ∷ synced ∷ [])).ranges ≡ []
then_synced = refl

-- an image is no longer than the greatest end written
longest : greatest_end 4 ((2, 3) ∷ (5, 4) ∷ []) ≡ 9
longest = refl

-- halves are rounded up, and the file ends behind the last byte in place
halves_are : halves ((2, 3) ∷ (5, 4) ∷ []) ≡ (2, 2) ∷ (5, 2) ∷ []
halves_are = refl

ends_there : placed_end 4 (halves ((2, 3) ∷ (5, 4) ∷ [])) ≡ 7
ends_there = refl

empty_has_no_end : placed_end 4 ((9, 0) ∷ []) ≡ 4
empty_has_no_end = refl

-- two changing calls were made; the power is to be cut in call 4, and call 3 fails
abbrev plan_of : ℕ → Plan
plan_of calls = record { calls = calls; cuts = record { call = 4; pick = 3 } ∷ []; fails = 3 ∷ []; off = None }

second_acts : next_fails (plan_of 1) ≡ false
second_acts = refl

third_fails : next_fails (plan_of 2) ≡ true
third_fails = refl

third_keeps_power : (next_plan (plan_of 2)).off ≡ None
third_keeps_power = refl

fourth_is_cut : (next_plan (plan_of 3)).off ≡ Some 3
fourth_is_cut = refl

-- with the power off each call fails and none counts
off_refuses : refuses (next_plan (plan_of 3)) ≡ true
off_refuses = refl

off_counts_none : (called (next_plan (plan_of 3))).calls ≡ 4
off_counts_none = refl

-- a cut is told up to the call before it, and none is where a call fails without one
cut_is_told : told_cuts (record (plan_of 3) { fails = [] }) ≡ Some (4 ∷ [])
cut_is_told = refl

passed_is_not : told_cuts (record (plan_of 4) { fails = [] }) ≡ Some []
passed_is_not = refl

others_hide_it : told_cuts (plan_of 3) ≡ None
others_hide_it = refl
