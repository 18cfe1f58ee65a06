-- The words that stand in the line of an item.
-- Source: the script format of docs/FORMATS.md, for the words of a script's line.
-- Our own choice: all of it.
use Rattle.std.specs.Prelude.{ℕ, Bool, List, codes, if◌then◌else◌}
use Rattle.script_actions.specs.declared.words.Method.{Method}
use Rattle.script_actions.specs.declared.words.Method.TheVariants as method
use Rattle.script_actions.specs.declared.words.Prompt.{Prompt}
use Rattle.script_actions.specs.declared.words.Prompt.TheVariants as prompt
use Rattle.agent_model.specs.SiteEvent.{TopLoad, Opens, Goes}

-- the method of a request
abbrev pub method_text : Method → List ℕ
method_text method.Get = codes "GET"
method_text method.Head = codes "HEAD"
method_text method.Options = codes "OPTIONS"
method_text method.Post = codes "POST"
method_text method.Put = codes "PUT"
method_text method.Delete = codes "DELETE"
method_text method.Patch = codes "PATCH"

-- what a user answers to a prompt
abbrev pub prompt_text : Prompt → List ℕ
prompt_text prompt.Grant = codes "grant"
prompt_text prompt.Deny = codes "deny"
prompt_text prompt.Dismiss = codes "dismiss"

-- who navigates a frame: its own document, or its parent's
abbrev pub navigator_text : Bool → List ℕ
navigator_text by_self = if by_self then codes "self" else codes "parent"

-- a load of a top document
abbrev pub load_text : TopLoad → List ℕ
load_text Opens = codes "open"
load_text Goes = codes "go"
