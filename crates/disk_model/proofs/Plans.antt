-- Cuts that are to come after a call are to come after an earlier one, and are told.
use Rattle.std.proofs.Common.{◌≡◌, ◌⊎◌, ⊎_elim, ℕ, ◌+◌, ◌≤◌, ◌<◌, Bool, true, false, List, [], ◌∷◌, arith, refl, sym, ◌∙◌, ap, subst}
use Rattle.std.specs.Prelude.{◌==◌, Some, None, MatchBool, filter, length, is_some, nat_lt}
use Rattle.std.specs.List.{list_any}
use Rattle.std.proofs.lemmas.Bool.{both_ways, false≢true, cases_Bool, cases_order, cond-true, cond-false, eqb-true, eqb-false, lt-ltb, ne_eqb, or_cases, or_parts}
use Rattle.agent_base.specs.Counts.{next_count}
use Rattle.disk_model.specs.Disk.{IsNextCut}
use Rattle.disk_model.specs.MemDisk.{numbers_of, numbers_ahead, told_cuts}
use Rattle.disk_model.specs.Schedule.{Plan, AreFrom, pick_at, cuts_after, next_fails, next_plan}
use Rattle.disk_model.specs.declared.schedule.Cut.{Cut}

pub from_earlier : (later first : ℕ) (cuts : List Cut) → first ≤ later → AreFrom later cuts → AreFrom first cuts
from_earlier later first [] le are = tt
from_earlier later first (cut ∷ cuts) le are = (omega (arith, are.0), are.1, are.2)

all_ahead : (calls first : ℕ) (cuts : List Cut) → calls < first → AreFrom first cuts → filter (nat_lt calls) (numbers_of cuts) ≡ numbers_of cuts
all_ahead calls first [] lt are = refl
all_ahead calls first (cut ∷ cuts) lt are =
    cond-true (nat_lt calls cut.call) (cut.call ∷ filter (nat_lt calls) (numbers_of cuts)) (filter (nat_lt calls) (numbers_of cuts)) (lt-ltb calls cut.call (omega (arith, are.0)))
    ∙ ap (λ numbers. cut.call ∷ numbers) (all_ahead calls (cut.call + 1) cuts (omega (arith, are.0)) are.2)

-- where no call is to fail without a cut, all cuts to come are told
pub all_told : (plan : Plan) → AreFrom (plan.calls + 1) plan.cuts → plan.fails ≡ [] → told_cuts plan ≡ Some (numbers_of plan.cuts)
all_told plan are none =
    cond-true (length plan.fails == 0) (Some (numbers_ahead plan)) None (ap (λ fails. length fails == 0) none)
    ∙ ap (λ numbers. Some numbers) (all_ahead plan.calls (plan.calls + 1) plan.cuts (omega arith) are)

-- where a call is to fail without a cut, no cut is told
untold : (plan : Plan) (number : ℕ) (fails : List ℕ) → plan.fails ≡ number ∷ fails → told_cuts plan ≡ None
untold plan number fails is = cond-false (length plan.fails == 0) (Some (numbers_ahead plan)) None (ne_eqb (length plan.fails) 0 (λ none. omega (arith, ap length is)))

-- where no cut fires in the next call, the same cuts are to come
none_fires : (call : ℕ) (cuts : List Cut) → is_some (pick_at call cuts) ≡ false → cuts_after call cuts ≡ cuts
none_fires call [] none = refl
none_fires call (cut ∷ cuts) none = ⊎_elim
    (λ (fires : (cut.call == call) ≡ true). absurd (both_ways (is_some (pick_at call (cut ∷ cuts))) none (ap is_some (cond-true (cut.call == call) (Some cut.pick) None fires))))
    (λ (not_yet : (cut.call == call) ≡ false). cond-false (cut.call == call) cuts (cut ∷ cuts) not_yet)
    (cases_Bool (cut.call == call))

-- the cuts to come after the next call lie ahead of it
ahead_after : (calls call : ℕ) (cuts : List Cut) → call ≡ next_count calls → AreFrom (calls + 1) cuts → AreFrom (call + 1) (cuts_after call cuts)
ahead_after calls call [] is are = tt
ahead_after calls call (cut ∷ cuts) is are = ⊎_elim
    (λ (fires : (cut.call == call) ≡ true).
    subst (AreFrom (call + 1)) (sym (cond-true (cut.call == call) cuts (cut ∷ cuts) fires)) (subst (λ number. AreFrom (number + 1) cuts) (eqb-true cut.call call fires) are.2))
    (λ (not_yet : (cut.call == call) ≡ false).
    subst (AreFrom (call + 1)) (sym (cond-false (cut.call == call) cuts (cut ∷ cuts) not_yet)) (later (eqb-false cut.call call not_yet), are.1, are.2))
    (cases_Bool (cut.call == call))
  where
    later : (cut.call ≡ call → ⊥) → call + 1 ≤ cut.call
    later other = ⊎_elim
        (λ (same : cut.call ≡ call). absurd (other same))
        (λ (apart : (cut.call < call) ⊎ (call < cut.call)). ⊎_elim (λ (below : cut.call < call). omega (arith, is, are.0)) (λ (above : call < cut.call). omega arith) apart)
        (cases_order cut.call call)

-- a cut that fires is the next one
fires_next : (call : ℕ) (cuts : List Cut) → is_some (pick_at call cuts) ≡ true → IsNextCut (Some (numbers_of cuts)) (Some (numbers_of (cuts_after call cuts))) call
fires_next call [] fires = absurd (false≢true fires)
fires_next call (cut ∷ cuts) fires = ⊎_elim
    (λ (here : (cut.call == call) ≡ true). (ap (λ rest. Some (numbers_of rest)) (cond-true (cut.call == call) cuts (cut ∷ cuts) here), sym (eqb-true cut.call call here)))
    (λ (not_yet : (cut.call == call) ≡ false). absurd (both_ways (is_some (pick_at call (cut ∷ cuts))) (ap is_some (cond-false (cut.call == call) (Some cut.pick) None not_yet)) fires))
    (cases_Bool (cut.call == call))

-- a call that fails takes out the next of the cuts that are told, and another one leaves them
abbrev Steps : Bool → Plan → Plan → Type 0
Steps fails old new = MatchBool fails (IsNextCut (told_cuts old) (told_cuts new) new.calls) (told_cuts new ≡ told_cuts old)

steps : (plan : Plan) (fails : List ℕ) → plan.fails ≡ fails → AreFrom (plan.calls + 1) plan.cuts → Steps (next_fails plan) plan (next_plan plan)
steps plan [] is are = ⊎_elim
    (λ (fails : next_fails plan ≡ true).
    let step : IsNextCut (told_cuts plan) (told_cuts (next_plan plan)) call = rw (before, after) (fires_next call plan.cuts (fires fails)) in
    subst (λ b. Steps b plan (next_plan plan)) (sym fails) step)
    (λ (succeeds : next_fails plan ≡ false).
    let none = (or_parts (is_some (pick_at call plan.cuts)) (list_any (λ number. number == call) plan.fails) succeeds).0 in
    subst (λ b. Steps b plan (next_plan plan)) (sym succeeds) (after ∙ ap (λ cuts. Some (numbers_of cuts)) (none_fires call plan.cuts none) ∙ sym before))
    (cases_Bool (next_fails plan))
  where
    call : ℕ
    call = next_count plan.calls

    before : told_cuts plan ≡ Some (numbers_of plan.cuts)
    before = all_told plan are is

    after : told_cuts (next_plan plan) ≡ Some (numbers_of (cuts_after call plan.cuts))
    after = all_told (next_plan plan) (ahead_after plan.calls call plan.cuts refl are) is

    fires : next_fails plan ≡ true → is_some (pick_at call plan.cuts) ≡ true
    fires fails = ⊎_elim
        (λ (cut : is_some (pick_at call plan.cuts) ≡ true). cut)
        (λ (listed : list_any (λ number. number == call) plan.fails ≡ true). absurd (both_ways (list_any (λ number. number == call) plan.fails) (ap (λ fails. list_any (λ number. number == call) fails) is) listed))
        (or_cases (is_some (pick_at call plan.cuts)) (list_any (λ number. number == call) plan.fails) fails)
steps plan (number ∷ fails) is are =
    let was = untold plan number fails is in
    let now = untold (next_plan plan) number fails is in
    either (next_fails plan) (subst (λ told. IsNextCut told (told_cuts (next_plan plan)) (next_plan plan).calls) (sym was) now) (now ∙ sym was)
  where
    either : {P Q : Type 0} (b : Bool) → P → Q → MatchBool b P Q
    either true p q = p
    either false p q = q

pub told_after : (plan new : Plan) (fails : Bool) → AreFrom (plan.calls + 1) plan.cuts → fails ≡ next_fails plan → new ≡ next_plan plan → Steps fails plan new
told_after plan new fails are is made = rw (made, is) (steps plan plan.fails refl are)
