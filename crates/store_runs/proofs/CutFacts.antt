-- How many calls a run can have made until a fault shows, worked out by hand.
use Rattle.std.proofs.Common.{◌≡◌, refl, [], ◌∷◌, arith}
use Rattle.unwinding.specs.Admissible.{Acts, Reopens}
use Rattle.script_actions.specs.Action.{PlainAction}
use Rattle.store_runs.specs.CutBounds.{MeetsCuts, calls_until, epoch_places, last_places, place}
use Rattle.store_runs.specs.declared.ending.Ending.TheVariants.{Device, Done}

-- seven calls make a store, four commit its first batch, and seven make the checkpoint behind it
one_batch : calls_until 7 (place 1 0) ≡ 18
one_batch = refl

-- a restart opens the store by one more, and a checkpoint may be due for what it finds
one_restart : calls_until 7 (place 1 1) ≡ 26
one_restart = refl

-- the last call of these is in time, and the next is not
in_time : MeetsCuts 7 (18 ∷ []) (place 1 0 ∷ [])
in_time = (omega arith, tt)

too_late : MeetsCuts 7 (19 ∷ []) (place 1 0 ∷ []) → ⊥
too_late meets = omega (arith, meets.0)

-- a cut that is far off takes no line down
far_off : MeetsCuts 7 (1000000 ∷ []) (place 3 1 ∷ []) → ⊥
far_off meets = omega (arith, meets.0)

-- one cut is one fault
two_of_one : MeetsCuts 7 (8 ∷ []) (place 1 0 ∷ place 1 1 ∷ []) → ⊥
two_of_one meets = meets.1

-- without a fault each cut may be far off
none_shown : MeetsCuts 7 (1000000 ∷ []) []
none_shown = tt

module _ (l k : PlainAction) where
  -- the lines behind the first one show no fault of their own, and each restart does
  an_epoch : epoch_places 2 1 (Acts l ∷ Acts k ∷ Reopens ∷ Acts k ∷ Reopens ∷ [])
      ≡ place 2 1 ∷ place 2 2 ∷ place 2 3 ∷ []
  an_epoch = refl

  -- a restart that is the first one is the one fault
  a_restart : epoch_places 2 1 (Reopens ∷ Acts k ∷ []) ≡ place 2 2 ∷ []
  a_restart = refl

-- a fault that no line shows shows behind the last line, where the agent is down there
at_the_end : last_places Device 2 1 [] ≡ place 2 1 ∷ []
at_the_end = refl

not_at_the_end : last_places Done 2 1 [] ≡ []
not_at_the_end = refl
