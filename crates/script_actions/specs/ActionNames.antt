-- The names of lines, as replies have them.
-- Source: the script format of docs/FORMATS.md.
-- Our own choice: the name is that of the line's member `do`.
use Rattle.std.specs.Prelude.{ℕ, List, codes}
use Rattle.script_actions.specs.Action.{PlainAction, PlainStep, Tick, Open, Close, Go, Evict, Act}
use Rattle.script_actions.specs.ActionFacts.{facts_of}
use Rattle.unwinding.specs.Admissible.{Acts, Reopens}

-- the name of an action
abbrev pub action_name : PlainAction → List ℕ
action_name (Tick s) = codes "tick"
action_name (Open tab url opener noopener method head) = codes "open"
action_name (Close tab) = codes "close"
action_name (Go tab url by_page method head) = codes "go"
action_name (Evict site) = codes "evict"
action_name (Act at action) = (facts_of action).name

-- the name of a line
abbrev pub step_name : PlainStep → List ℕ
step_name (Acts action) = action_name action
step_name Reopens = codes "restart"
