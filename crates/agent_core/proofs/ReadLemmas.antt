-- The address that a line of a script names is read, since every `Address` is.
use Rattle.origin_site.specs.Plain.{plain_address}
use Rattle.origin_site.specs.declared.address.Address.{Address}
use Rattle.script_actions.specs.Plain.{action_of}
use Rattle.script_actions.specs.declared.action.Action.{Action}
use Rattle.script_actions.specs.declared.action.Action.TheVariants as action
use Rattle.spelled_model.specs.Addresses.{IsReadAction, IsReadAddress}

read_address : (a : Address) → IsReadAddress (plain_address a)
read_address a = record { origin = a.reads; suffixes = a.suffixes }

pub action_read : (line : Action) → IsReadAction (action_of line)
action_read (action.Tick s) = tt
action_read (action.Open tab url opener noopener method head) = read_address url.value
action_read (action.Close tab) = tt
action_read (action.Go tab url by_page method head) = read_address url.value
action_read (action.Frame at parent deny url sandbox head) = read_address url.value
action_read (action.Nav at url by_self method head) = read_address url.value
action_read (action.Drop at) = tt
action_read (action.Click at) = tt
action_read (action.Fetch at url method head) = read_address url.value
action_read (action.Set at area key value) = tt
action_read (action.Get at area key) = tt
action_read (action.Del at area key) = tt
action_read (action.Clear at area) = tt
action_read (action.Len at area) = tt
action_read (action.Key at area n) = tt
action_read (action.Events at) = tt
action_read (action.Cookie at) = tt
action_read (action.SetCookie at text) = tt
action_read (action.Has at) = tt
action_read (action.Request at answer) = tt
action_read (action.Persisted at) = tt
action_read (action.Estimate at) = tt
action_read (action.Persist at answer) = tt
action_read (action.Evict site) = tt
