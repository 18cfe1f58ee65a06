-- The row changes of the steps so far are added.
use Rattle.std.proofs.Common.{◌≡◌, ◌++◌, map, take}
use Rattle.cookie_jar.specs.Key.{plain_key}
use Rattle.cookie_jar.specs.Persistent.{rows_of_steps}
use Rattle.cookie_jar.specs.Plain.{plain_cookie}
use Rattle.row_changes.specs.Plain.{plain_change}
use Rattle.agent_model.specs.CookieStore.{in_cell}
use Rattle.web_cookies.proofs.stored_rows.push_steps.Given as goal

abbrev pub invariant-loop-step : goal.invariant-loop-step
invariant-loop-step l =
    map plain_change l.rows.items ≡ map plain_change l.fn.rows.items
    ++ map (in_cell (plain_key l.cell)) (rows_of_steps (plain_cookie l.fresh) (take l.step-index l.steps))
