-- What a document does, as a line of a script has it.
-- Source: the script format of docs/FORMATS.md.
-- Our own choice: members stand in the byte order of their names. Each field of the action is
-- there, also where a script may leave it out, but for a `sandbox` attribute that a frame lacks.
use Rattle.std.specs.Prelude.{ℕ, List, map, codes, Option, Some, None}
use Rattle.serde_json.specs.Data.{Data, boolean, number, unsigned, string, array, object}
use Rattle.serde_json.specs.Data.{no_items, item, Members, no_members, member}
use Rattle.serde_json.specs.View.{items_of}
use Rattle.agent_base.specs.declared.refusals.Label.{Label}
use Rattle.storage_events.specs.declared.event.AreaKind.{AreaKind}
use Rattle.reply_lines.specs.Reply.{area_text}
use Rattle.script_actions.specs.declared.words.Prompt.{Prompt}
use Rattle.script_actions.specs.Action.{DocumentAction, HeadField, Frame, Nav, Drop, Click, Fetch, Set}
use Rattle.script_actions.specs.Action.{Get, Del, Clear, Len, Key, Events, Cookie, SetCookie, Has}
use Rattle.script_actions.specs.Action.{Request, Persisted, Estimate, Persist}
use Rattle.item_lines.specs.Words.{method_text, prompt_text, navigator_text}

-- ---- values

-- a number that is not below 0
abbrev pub whole_data : ℕ → Data
whole_data n = number (unsigned n)

-- a field of a head: its name and its value
abbrev pub field_data : HeadField → Data
field_data field = array (item (string field.name) (item (string field.value) no_items))

-- the head of a response
abbrev pub head_data : List HeadField → Data
head_data head = array (items_of (map field_data head))

-- ---- members, in byte order of their names

-- the member `sandbox` before others, where there is such an attribute
abbrev pub sandboxed : Option (List ℕ) → Members → Members
sandboxed None members = members
sandboxed (Some text) members = member (codes "sandbox") (string text) members

-- an action that has no fields but its document
abbrev pub bare_members : List ℕ → Label → Members
bare_members name at =
    member (codes "do") (string name) (member (codes "frame") (whole_data at.frame)
    (member (codes "tab") (whole_data at.tab) no_members))

-- an action on an area
abbrev pub area_members : List ℕ → Label → AreaKind → Members
area_members name at area =
    member (codes "area") (string (area_text area)) (bare_members name at)

-- an action on a name of an area
abbrev pub name_members : List ℕ → Label → AreaKind → (key : List ℕ) → Members
name_members name at area key =
    member (codes "area") (string (area_text area)) (member (codes "do") (string name)
    (member (codes "frame") (whole_data at.frame) (member (codes "key") (string key)
    (member (codes "tab") (whole_data at.tab) no_members))))

-- an action with what the user answers to a prompt
abbrev pub answer_members : List ℕ → Label → Prompt → Members
answer_members name at answer =
    member (codes "answer") (string (prompt_text answer)) (bare_members name at)

-- the line of an action that this document does
abbrev pub line_members : Label → DocumentAction → Members
line_members at (Frame parent url sandbox deny head) =
    member (codes "deny") (boolean deny) (member (codes "do") (string (codes "frame"))
    (member (codes "frame") (whole_data at.frame) (member (codes "head") (head_data head)
    (member (codes "parent") (whole_data parent) (sandboxed sandbox
    (member (codes "tab") (whole_data at.tab)
    (member (codes "url") (string url.text) no_members)))))))
line_members at (Nav url by_self method head) =
    member (codes "by") (string (navigator_text by_self))
    (member (codes "do") (string (codes "nav")) (member (codes "frame") (whole_data at.frame)
    (member (codes "head") (head_data head) (member (codes "method") (string (method_text method))
    (member (codes "tab") (whole_data at.tab)
    (member (codes "url") (string url.text) no_members))))))
line_members at Drop = bare_members (codes "drop") at
line_members at Click = bare_members (codes "click") at
line_members at (Fetch url method head) =
    member (codes "do") (string (codes "fetch")) (member (codes "frame") (whole_data at.frame)
    (member (codes "head") (head_data head)
    (member (codes "method") (string (method_text method)) (member (codes "tab") (whole_data at.tab)
    (member (codes "url") (string url.text) no_members)))))
line_members at (Set area key value) =
    member (codes "area") (string (area_text area)) (member (codes "do") (string (codes "set"))
    (member (codes "frame") (whole_data at.frame) (member (codes "key") (string key)
    (member (codes "tab") (whole_data at.tab) (member (codes "value") (string value) no_members)))))
line_members at (Get area key) = name_members (codes "get") at area key
line_members at (Del area key) = name_members (codes "del") at area key
line_members at (Clear area) = area_members (codes "clear") at area
line_members at (Len area) = area_members (codes "len") at area
line_members at (Key area n) =
    member (codes "area") (string (area_text area)) (member (codes "do") (string (codes "key"))
    (member (codes "frame") (whole_data at.frame) (member (codes "n") (whole_data n)
    (member (codes "tab") (whole_data at.tab) no_members))))
line_members at Events = bare_members (codes "events") at
line_members at Cookie = bare_members (codes "cookie") at
line_members at (SetCookie text) =
    member (codes "do") (string (codes "setcookie")) (member (codes "frame") (whole_data at.frame)
    (member (codes "tab") (whole_data at.tab) (member (codes "text") (string text) no_members)))
line_members at Has = bare_members (codes "has") at
line_members at (Request answer) = answer_members (codes "request") at answer
line_members at Persisted = bare_members (codes "persisted") at
line_members at Estimate = bare_members (codes "estimate") at
line_members at (Persist answer) = answer_members (codes "persist") at answer

-- the line
abbrev pub line_data : Label → DocumentAction → Data
line_data at action = object (line_members at action)
