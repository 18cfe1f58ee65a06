-- The line of an action is read back as the action.
use Rattle.std.proofs.Common.{◌≡◌, ℕ, List, [], ◌∷◌, Bool, true, false, Option, Some, None, refl, ap, ap₂, cond}
use Rattle.std.specs.Prelude.{bytes_eq, codes, option_and_then, unwrap_or}
use Rattle.serde_json.specs.Data.{Data, null, Items, no_items, item}
use Rattle.serde_json.specs.Find.{get, get_item, as_array, as_bool, as_number, as_str, as_u64}
use Rattle.agent_base.specs.declared.refusals.Label.{Label}
use Rattle.origin_site.specs.Address.{PlainAddress}
use Rattle.storage_events.specs.declared.event.AreaKind.{AreaKind}
use Rattle.storage_events.specs.declared.event.AreaKind.TheVariants as area
use Rattle.reply_lines.specs.Reply.{area_text}
use Rattle.script_actions.specs.declared.words.Method.{Method}
use Rattle.script_actions.specs.declared.words.Method.TheVariants as method
use Rattle.script_actions.specs.declared.words.Prompt.{Prompt}
use Rattle.script_actions.specs.declared.words.Prompt.TheVariants as prompt
use Rattle.script_actions.specs.Action.{DocumentAction, HeadField, Frame, Nav, Drop, Click, Fetch, Set, Get, Del, Clear, Len, Key, Events, Cookie, SetCookie, Has, Request, Persisted, Estimate, Persist}
use Rattle.script_actions.specs.ActionFacts.{facts_of}
use Rattle.item_lines.specs.Line.{head_data, line_data}
use Rattle.item_lines.specs.Words.{method_text, prompt_text, navigator_text}

-- ---- what stands in an object under a name

abbrev pub data_in : List ℕ → Data → Data
data_in name d = unwrap_or (get name d) null

abbrev pub text_in : List ℕ → Data → List ℕ
text_in name d = unwrap_or (as_str (data_in name d)) []

abbrev pub number_in : List ℕ → Data → ℕ
number_in name d = unwrap_or (option_and_then as_u64 (as_number (data_in name d))) 0

abbrev pub truth_in : List ℕ → Data → Bool
truth_in name d = unwrap_or (as_bool (data_in name d)) false

-- ---- words

abbrev pub method_read : List ℕ → Method
method_read text =
    cond (bytes_eq text (codes "GET")) method.Get (cond (bytes_eq text (codes "HEAD")) method.Head
    (cond (bytes_eq text (codes "OPTIONS")) method.Options (cond (bytes_eq text (codes "POST")) method.Post
    (cond (bytes_eq text (codes "PUT")) method.Put (cond (bytes_eq text (codes "DELETE")) method.Delete method.Patch)))))

pub method_is_read : (m : Method) → method_read (method_text m) ≡ m
method_is_read method.Get = refl
method_is_read method.Head = refl
method_is_read method.Options = refl
method_is_read method.Post = refl
method_is_read method.Put = refl
method_is_read method.Delete = refl
method_is_read method.Patch = refl

abbrev prompt_read : List ℕ → Prompt
prompt_read text = cond (bytes_eq text (codes "grant")) prompt.Grant (cond (bytes_eq text (codes "deny")) prompt.Deny prompt.Dismiss)

prompt_is_read : (p : Prompt) → prompt_read (prompt_text p) ≡ p
prompt_is_read prompt.Grant = refl
prompt_is_read prompt.Deny = refl
prompt_is_read prompt.Dismiss = refl

abbrev area_read : List ℕ → AreaKind
area_read text = cond (bytes_eq text (codes "local")) area.Local area.Session

area_is_read : (a : AreaKind) → area_read (area_text a) ≡ a
area_is_read area.Local = refl
area_is_read area.Session = refl

navigator_is_read : (by_self : Bool) → bytes_eq (navigator_text by_self) (codes "self") ≡ by_self
navigator_is_read true = refl
navigator_is_read false = refl

-- ---- heads

abbrev text_at : ℕ → Data → List ℕ
text_at place d = unwrap_or (option_and_then as_str (option_and_then (get_item place) (as_array d))) []

abbrev field_read : Data → HeadField
field_read d = record { name = text_at 0 d; value = text_at 1 d }

abbrev fields_read : Items → List HeadField
fields_read no_items = []
fields_read (item d ds) = field_read d ∷ fields_read ds

abbrev pub head_read : Data → List HeadField
head_read d = fields_read (unwrap_or (as_array d) no_items)

pub head_is_read : (head : List HeadField) → head_read (head_data head) ≡ head
head_is_read [] = refl
head_is_read (field ∷ head) = ap (λ fields. field ∷ fields) (head_is_read head)

-- ---- actions

abbrev sandbox_read : Data → Option (List ℕ)
sandbox_read line = option_and_then as_str (get (codes "sandbox") line)

abbrev area_in : Data → AreaKind
area_in line = area_read (text_in (codes "area") line)

abbrev answer_in : Data → Prompt
answer_in line = prompt_read (text_in (codes "answer") line)

abbrev method_in : Data → Method
method_in line = method_read (text_in (codes "method") line)

abbrev key_in : Data → List ℕ
key_in line = text_in (codes "key") line

abbrev pub action_named : List ℕ → PlainAddress → Data → DocumentAction
action_named name url line =
    let head = head_read (data_in (codes "head") line) in
    cond (bytes_eq name (codes "frame")) (Frame (number_in (codes "parent") line) url (sandbox_read line) (truth_in (codes "deny") line) head)
    (cond (bytes_eq name (codes "nav")) (Nav url (bytes_eq (text_in (codes "by") line) (codes "self")) (method_in line) head)
    (cond (bytes_eq name (codes "drop")) Drop
    (cond (bytes_eq name (codes "click")) Click
    (cond (bytes_eq name (codes "fetch")) (Fetch url (method_in line) head)
    (cond (bytes_eq name (codes "set")) (Set (area_in line) (key_in line) (text_in (codes "value") line))
    (cond (bytes_eq name (codes "get")) (Get (area_in line) (key_in line))
    (cond (bytes_eq name (codes "del")) (Del (area_in line) (key_in line))
    (cond (bytes_eq name (codes "clear")) (Clear (area_in line))
    (cond (bytes_eq name (codes "len")) (Len (area_in line))
    (cond (bytes_eq name (codes "key")) (Key (area_in line) (number_in (codes "n") line))
    (cond (bytes_eq name (codes "events")) Events
    (cond (bytes_eq name (codes "cookie")) Cookie
    (cond (bytes_eq name (codes "setcookie")) (SetCookie (text_in (codes "text") line))
    (cond (bytes_eq name (codes "has")) Has
    (cond (bytes_eq name (codes "request")) (Request (answer_in line))
    (cond (bytes_eq name (codes "persisted")) Persisted
    (cond (bytes_eq name (codes "estimate")) Estimate (Persist (answer_in line)))))))))))))))))))

-- the action of a line, which has this address if it names one
abbrev pub action_read : PlainAddress → Data → DocumentAction
action_read url line = action_named (text_in (codes "do") line) url line

-- the document of a line
abbrev pub label_read : Data → Label
label_read line = record { tab = number_in (codes "tab") line; frame = number_in (codes "frame") line }

pub label_is_read : (at : Label) (action : DocumentAction) → label_read (line_data at action) ≡ at
label_is_read at (Frame parent url None deny head) = refl
label_is_read at (Frame parent url (Some text) deny head) = refl
label_is_read at (Nav url by_self method head) = refl
label_is_read at Drop = refl
label_is_read at Click = refl
label_is_read at (Fetch url method head) = refl
label_is_read at (Set area key value) = refl
label_is_read at (Get area key) = refl
label_is_read at (Del area key) = refl
label_is_read at (Clear area) = refl
label_is_read at (Len area) = refl
label_is_read at (Key area n) = refl
label_is_read at Events = refl
label_is_read at Cookie = refl
label_is_read at (SetCookie text) = refl
label_is_read at Has = refl
label_is_read at (Request answer) = refl
label_is_read at Persisted = refl
label_is_read at Estimate = refl
label_is_read at (Persist answer) = refl

-- the text of the address of an action, and the address with it
abbrev pub url_text : Option PlainAddress → List ℕ
url_text None = []
url_text (Some url) = url.text

pub text_is_read : (at : Label) (action : DocumentAction) → text_in (codes "url") (line_data at action) ≡ url_text (facts_of action).address
text_is_read at (Frame parent url None deny head) = refl
text_is_read at (Frame parent url (Some text) deny head) = refl
text_is_read at (Nav url by_self method head) = refl
text_is_read at Drop = refl
text_is_read at Click = refl
text_is_read at (Fetch url method head) = refl
text_is_read at (Set area key value) = refl
text_is_read at (Get area key) = refl
text_is_read at (Del area key) = refl
text_is_read at (Clear area) = refl
text_is_read at (Len area) = refl
text_is_read at (Key area n) = refl
text_is_read at Events = refl
text_is_read at Cookie = refl
text_is_read at (SetCookie text) = refl
text_is_read at Has = refl
text_is_read at (Request answer) = refl
text_is_read at Persisted = refl
text_is_read at Estimate = refl
text_is_read at (Persist answer) = refl

-- this address, where there is one
abbrev pub IsAddress : Option PlainAddress → PlainAddress → Type 0
IsAddress None url = Unit {0}
IsAddress (Some own) url = url ≡ own

pub action_is_read : (at : Label) (action : DocumentAction) (url : PlainAddress) → IsAddress (facts_of action).address url → action_read url (line_data at action) ≡ action
action_is_read at (Frame parent own None deny head) url same = ap₂ (λ u h. Frame parent u None deny h) same (head_is_read head)
action_is_read at (Frame parent own (Some text) deny head) url same = ap₂ (λ u h. Frame parent u (Some text) deny h) same (head_is_read head)
action_is_read at (Nav own by_self method head) url same = λ i. Nav (same i) (navigator_is_read by_self i) (method_is_read method i) (head_is_read head i)
action_is_read at Drop url same = refl
action_is_read at Click url same = refl
action_is_read at (Fetch own method head) url same = λ i. Fetch (same i) (method_is_read method i) (head_is_read head i)
action_is_read at (Set area key value) url same = ap (λ a. Set a key value) (area_is_read area)
action_is_read at (Get area key) url same = ap (λ a. Get a key) (area_is_read area)
action_is_read at (Del area key) url same = ap (λ a. Del a key) (area_is_read area)
action_is_read at (Clear area) url same = ap Clear (area_is_read area)
action_is_read at (Len area) url same = ap Len (area_is_read area)
action_is_read at (Key area n) url same = ap (λ a. Key a n) (area_is_read area)
action_is_read at Events url same = refl
action_is_read at Cookie url same = refl
action_is_read at (SetCookie text) url same = refl
action_is_read at Has url same = refl
action_is_read at (Request answer) url same = ap Request (prompt_is_read answer)
action_is_read at Persisted url same = refl
action_is_read at Estimate url same = refl
action_is_read at (Persist answer) url same = ap Persist (prompt_is_read answer)
