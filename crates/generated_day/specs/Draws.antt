-- Draws of numbers, each from a state that it leads on.
-- Source: ISO C, "The srand function", the example of `rand` and `srand`. The multiplier and the
-- addend are the example's, and so is the quotient by 65,536.
-- Our own choice: the state is below 2 ^ 31. The example's has the bits of an `unsigned long`, and
-- `rand` gives the quotient modulo 32,768, which no bit from 2 ^ 31 on changes. So a draw below a
-- limit is what the example's `rand` gives, modulo the limit.
use Rattle.std.specs.Prelude.{ℕ, ◌+◌, ◌*◌, ◌/◌, ◌%◌}

-- a state is below it
abbrev pub state_limit : ℕ
state_limit = 2147483648

-- the state that a seed begins with
abbrev pub first_state : ℕ → ℕ
first_state seed = seed % state_limit

-- the state after a draw
unfoldable pub next : ℕ → ℕ
next x = (x * 1103515245 + 12345) % state_limit

-- the number below a limit that is drawn from a state
unfoldable pub draw : ℕ → ℕ → ℕ
draw limit x = (next x / 65536) % limit

-- what one draw below a limit gives, and the state after it
abbrev pub one_draw : {A : Type 0} → ℕ → (ℕ → A) → ℕ → A × ℕ
one_draw limit gives x = (gives (draw limit x), next x)

-- what two draws below their limits give, and the state after them
abbrev pub two_draws : {A : Type 0} → ℕ → ℕ → (ℕ → ℕ → A) → ℕ → A × ℕ
two_draws first second gives x = (gives (draw first x) (draw second (next x)), next (next x))
