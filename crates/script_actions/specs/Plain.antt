-- What contracts see of the types of this crate: the bytes of texts, the items of lists.
-- Source: none; it says how contracts see types of this crate.
use Rattle.std.specs.Prelude.{map, option_map, string_bytes}
use Rattle.unwinding.specs.Admissible.{Acts, Reopens}
use Rattle.origin_site.specs.Plain.{plain_address, plain_site}
use Rattle.script_actions.specs.Action.{PlainAction, PlainLine, PlainStep}
use Rattle.script_actions.specs.Action as plain
use Rattle.script_actions.specs.declared.action.HeadField.{HeadField}
use Rattle.script_actions.specs.declared.action.Action.{Action}
use Rattle.script_actions.specs.declared.action.Action.TheVariants as action
use Rattle.script_actions.specs.declared.step.Line.{Line}
use Rattle.script_actions.specs.declared.step.Step.{Step}
use Rattle.script_actions.specs.declared.step.Step.TheVariants as step

-- a field of a head
abbrev pub head_field_of : HeadField → plain.HeadField
head_field_of field =
    record { name = string_bytes field.name; value = string_bytes field.value }

-- an action
abbrev pub action_of : Action → PlainAction
action_of (action.Tick s) = plain.Tick s
action_of (action.Open tab url opener noopener method head) =
    plain.Open tab (plain_address url.value) opener noopener method (map head_field_of head.items)
action_of (action.Close tab) = plain.Close tab
action_of (action.Go tab url by_page method head) =
    plain.Go tab (plain_address url.value) by_page method (map head_field_of head.items)
action_of (action.Frame at parent deny url sandbox head) =
    plain.Act at (plain.Frame parent (plain_address url.value)
    (option_map (λ text. string_bytes text.value) sandbox) deny (map head_field_of head.items))
action_of (action.Nav at url by_self method head) =
    plain.Act at
    (plain.Nav (plain_address url.value) by_self method (map head_field_of head.items))
action_of (action.Drop at) = plain.Act at plain.Drop
action_of (action.Click at) = plain.Act at plain.Click
action_of (action.Fetch at url method head) =
    plain.Act at (plain.Fetch (plain_address url.value) method (map head_field_of head.items))
action_of (action.Set at area key value) =
    plain.Act at (plain.Set area (string_bytes key) (string_bytes value))
action_of (action.Get at area key) = plain.Act at (plain.Get area (string_bytes key))
action_of (action.Del at area key) = plain.Act at (plain.Del area (string_bytes key))
action_of (action.Clear at area) = plain.Act at (plain.Clear area)
action_of (action.Len at area) = plain.Act at (plain.Len area)
action_of (action.Key at area n) = plain.Act at (plain.Key area n)
action_of (action.Events at) = plain.Act at plain.Events
action_of (action.Cookie at) = plain.Act at plain.Cookie
action_of (action.SetCookie at text) = plain.Act at (plain.SetCookie (string_bytes text))
action_of (action.Has at) = plain.Act at plain.Has
action_of (action.Request at answer) = plain.Act at (plain.Request answer)
action_of (action.Persisted at) = plain.Act at plain.Persisted
action_of (action.Estimate at) = plain.Act at plain.Estimate
action_of (action.Persist at answer) = plain.Act at (plain.Persist answer)
action_of (action.Evict site) = plain.Evict (plain_site site)

-- a step
abbrev pub step_of : Step → PlainStep
step_of (step.Act action) = Acts (action_of action)
step_of step.Restart = Reopens

-- a line
abbrev pub line_of : Line → PlainLine
line_of line = record { number = line.number; step = step_of line.step }
