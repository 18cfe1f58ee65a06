-- No line of a generated day opens the store again.
use Rattle.std.proofs.Common.{◌≡◌, ℕ, ◌+◌, zero, suc, Bool, true, false, cond, ◌==◌, List, [], ◌∷◌, ◌++◌, map, refl, ap}
use Rattle.std.specs.List.{range_with_len}
use Rattle.unwinding.specs.Admissible.{Acts, Reopens}
use Rattle.script_actions.specs.Action.{PlainStep}
use Rattle.storage_events.specs.declared.event.AreaKind.TheVariants.{Local, Session}
use Rattle.generated_day.specs.Day.{day_lines, drawn_line, drawn_lines, fetch_line, frame_line, get_line, go_line, open_line, open_lines, row, set_line, setcookie_line, tick_line}
use Rattle.generated_day.specs.Draws.{draw, first_state, next, one_draw, two_draws}
use Rattle.selftests.specs.Days.{actions_of}

-- a line acts
abbrev IsAct : PlainStep → Type 0
IsAct (Acts action) = Unit {0}
IsAct Reopens = ⊥

-- lines that act are those of their actions
abbrev AreActs : List PlainStep → Type 0
AreActs steps = steps ≡ map Acts (actions_of steps)

acts_more : (step : PlainStep) (steps : List PlainStep) → IsAct step → AreActs steps → AreActs (step ∷ steps)
acts_more (Acts action) steps is are = ap (λ ss. Acts action ∷ ss) are
acts_more Reopens steps is are = absurd is

opens_behind : (tabs : List ℕ) (steps : List PlainStep) → AreActs steps → AreActs (map open_line tabs ++ steps)
opens_behind [] steps are = are
opens_behind (tab ∷ tabs) steps are = acts_more (open_line tab) (map open_line tabs ++ steps) tt (opens_behind tabs steps are)

-- of two lines that act each does
either : (b : Bool) (one other : ℕ → PlainStep × ℕ) (x : ℕ) → IsAct (one x).0 → IsAct (other x).0 → IsAct (cond b one other x).0
either true one other x first second = first
either false one other x first second = second

row_acts : (kind tab x : ℕ) → IsAct (row kind tab x).0
row_acts kind tab x =
    either (kind == 0) (one_draw 40 (go_line tab)) _ x tt
    (either (kind == 1) (two_draws 10 100 (set_line Local tab)) _ x tt
    (either (kind == 2) (one_draw 10 (get_line tab)) _ x tt
    (either (kind == 3) (one_draw 10 (frame_line tab)) _ x tt
    (either (kind == 4) (two_draws 10 10 (fetch_line tab)) _ x tt
    (either (kind == 5) (two_draws 10 100 (setcookie_line tab)) _ x tt
    (either (kind == 6) (one_draw 10 tick_line) (two_draws 10 100 (set_line Session tab)) x tt tt))))))

drawn_acts : (x : ℕ) → IsAct (drawn_line x).0
unfolding drawn_line
drawn_acts x = row_acts (draw 8 (next x)) (1 + draw 20 x) (next (next x))

drawn_act : (n x : ℕ) → AreActs (drawn_lines n x)
unfolding drawn_lines
drawn_act zero x = refl
drawn_act (suc n) x = acts_more (drawn_line x).0 (drawn_lines n (drawn_line x).1) (drawn_acts x) (drawn_act n (drawn_line x).1)

pub day_acts : (seed : ℕ) → day_lines seed ≡ map Acts (actions_of (day_lines seed))
unfolding day_lines open_lines
day_acts seed = opens_behind (range_with_len 1 20) (drawn_lines 5000 (first_state seed)) (drawn_act 5000 (first_state seed))
