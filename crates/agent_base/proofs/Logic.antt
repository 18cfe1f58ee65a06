-- Lemmas on tests and on what a result says, which std's Bool and Result files do not have.
use Rattle.std.proofs.Common.{◌≡◌, inl, inr, Bool, true, false, ◌||◌}
use Rattle.std.specs.Prelude.{Result, Ok, Err, OnOk, OnErr}
use Rattle.agent_base.specs.Answers.{Answers, Decides}

-- the second test holds, where the first fails and one of them holds
pub or_second : (a b : Bool) → a ≡ false → (a || b) ≡ true → b ≡ true
or_second true b fails either = cc
or_second false b fails either = either

-- a fact that holds anyway is said of a value
pub on_ok : {T E P : Type 0} (result : Result T E) → P → OnOk result P
on_ok (Ok value) fact = fact
on_ok (Err why) fact = tt

-- a fact that holds anyway is said of an error
pub on_err : {T E P : Type 0} (result : Result T E) → P → OnErr result P
on_err (Ok value) fact = tt
on_err (Err why) fact = fact

-- a call that decides before it takes memory answers as one that may not
pub answers_decided : {T P E : Type 0} (plain : T → P) (memory : E) (expected : Result P E) (result : Result T E) → Decides plain memory expected result → Answers plain memory expected result
answers_decided plain memory expected (Ok value) decided = decided
answers_decided plain memory expected (Err why) (inl free) = inl free.0
answers_decided plain memory expected (Err why) (inr fault) = inr fault
