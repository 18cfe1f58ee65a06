-- In which changing calls a disk in memory fails, and when its power is cut.
-- Source: none.
-- Our own choice: changing calls are counted from 1 on while the power is on, and a count that has
-- reached its last value stays there. A cut fires in the call of its number. A number in the list
-- of failing calls makes that call fail while the power stays on.
use Rattle.std.specs.Prelude.{ℕ, ◌+◌, ◌<◌, ◌≤◌, Bool, List, [], ◌∷◌, Option, Some, None, is_some}
use Rattle.std.specs.Prelude.{◌==◌, ◌||◌, if◌then◌else◌}
use Rattle.std.specs.List.{list_any}
use Rattle.agent_base.specs.Counts.{next_count}
use Rattle.disk_model.specs.declared.schedule.Cut.{Cut}

-- the cuts have numbers from one on, strictly rising, and each pick is one of the four
abbrev pub AreFrom : ℕ → List Cut → Type 0
AreFrom first [] = Unit {0}
AreFrom first (cut ∷ cuts) = (first ≤ cut.call) × (cut.pick < 4) × AreFrom (cut.call + 1) cuts

-- the changing calls made, the cuts to come, the numbers of calls that fail, and the pick of the
-- cut that fired, while the power is off
pub record Plan : Type 0 where
  pub calls : ℕ
  pub cuts : List Cut
  pub fails : List ℕ
  pub off : Option ℕ

-- the pick of the cut that fires in this call
abbrev pub pick_at : ℕ → List Cut → Option ℕ
pick_at call [] = None
pick_at call (cut ∷ cuts) = if cut.call == call then Some cut.pick else None

-- the cuts to come after this call
abbrev pub cuts_after : ℕ → List Cut → List Cut
cuts_after call [] = []
cuts_after call (cut ∷ cuts) = if cut.call == call then cuts else cut ∷ cuts

-- whether the next changing call fails, while the power is on
abbrev pub next_fails : Plan → Bool
next_fails plan =
    let call = next_count plan.calls in
    is_some (pick_at call plan.cuts) || list_any (λ number. number == call) plan.fails

-- the plan after one changing call more, while the power is on
abbrev pub next_plan : Plan → Plan
next_plan plan =
    let call = next_count plan.calls in
    record {
      calls = call;
      cuts = cuts_after call plan.cuts;
      fails = plan.fails;
      off = pick_at call plan.cuts;
    }

-- whether a changing call fails
abbrev pub refuses : Plan → Bool
refuses plan = is_some plan.off || next_fails plan

-- the plan after a changing call; one that finds the power off does not count
abbrev pub called : Plan → Plan
called plan = if is_some plan.off then plan else next_plan plan
