-- What a call answers that a definition determines but for want of memory.
-- `Answers` is for a call that takes memory before it decides: want of memory may then stand in the
-- place of any answer, of a refusal too. `Decides` is for a call that decides before it takes
-- memory: its refusals are exact, and want of memory stands only in the place of a value.
-- Source: none.
use Rattle.std.specs.Prelude.{◌≡◌, ◌⊎◌, Result, Ok, Err, IsOk, MatchResult}

-- the answer is the expected one, seen by `plain`, or it is `memory`, the refusal that is free
abbrev pub Answers : {T P E : Type 0} → (T → P) → E → Result P E → Result T E → Type 0
Answers plain memory expected result =
    MatchResult result (λ value. expected ≡ Ok (plain value))
    (λ why. (why ≡ memory) ⊎ (expected ≡ Err why))

-- the answer is the expected one, or it is `memory` where a value is expected
abbrev pub Decides : {T P E : Type 0} → (T → P) → E → Result P E → Result T E → Type 0
Decides plain memory expected result =
    MatchResult result (λ value. expected ≡ Ok (plain value))
    (λ why. ((why ≡ memory) × IsOk expected) ⊎ (expected ≡ Err why))
