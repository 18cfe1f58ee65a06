-- Values of the format of items, so that a wrong rule in the specs does not check.
use Rattle.std.proofs.Common.{◌≡◌, refl, pos, negsuc, true, false, ℕ, ℤ, List, [], ◌∷◌, Option, Some, None}
use Rattle.std.specs.Prelude.{codes}
use Rattle.std.specs.Fmt.{digits}
use Rattle.serde_json.proofs.OnLiterals.{serde_json_on_literals}
use Rattle.unwinding.specs.LocalEntries.{HeldCell}
use Rattle.unwinding.specs.LocalScript.{Happens, Restarts}
use Rattle.origin_site.specs.Address.{PlainAddress}
use Rattle.storage_events.specs.declared.event.AreaKind.TheVariants.{Local, Session}
use Rattle.setcookie_parse.specs.declared.cookie.SameSite.TheVariants.{Lax}
use Rattle.stored_cookie.specs.StoredCookie.{PlainCookie}
use Rattle.script_actions.specs.declared.words.Method.TheVariants as method
use Rattle.script_actions.specs.declared.words.Prompt.TheVariants as prompt
use Rattle.script_actions.specs.Action.{DocumentAction, HeadField, Frame, Nav, Drop, Click, Fetch, Set, Get, Del, Clear, Len, Key, Events, Cookie, SetCookie, Has, Request, Persisted, Estimate, Persist}
use Rattle.agent_model.specs.CookieCells.{Cookies, Domain}
use Rattle.agent_model.specs.SiteEvent.{SiteEvent, Acts, Arrives, Leaves, Copies, Closes, Evicts, Opens, Goes}
use Rattle.local_scripts.specs.Items.{AgentItem}
use Rattle.serde_json.specs.Written.{compact_text}
use Rattle.item_lines.specs.Item.{item_text, end_text}
use Rattle.item_lines.specs.Line.{line_data}
use Rattle.item_lines.specs.Script.{items_text, script_text}

-- an event at the second 1,767,225,600
abbrev happens : SiteEvent → List (HeldCell Domain Cookies) → AgentItem
happens event held = Happens (record { event = record { moment = 1767225600; event = event }; held = held })

-- the address `https://a.test/`
abbrev address_a : PlainAddress
address_a = record { text = codes "https://a.test/"; https = true; ip = false; host = codes "a.test"; port = 443; path = codes "/" }

-- a head of one field
abbrev head : List HeadField
head = record { name = codes "Set-Cookie"; value = codes "n=1" } ∷ []

-- a cookie of the domain `a.test`
abbrev cookie_with : Option ℤ → PlainCookie
cookie_with expiry = record {
  name = codes "n";
  value = codes "1";
  domain = codes "a.test";
  path = codes "/";
  host_only = true;
  secure = true;
  http_only = false;
  same_site = Lax;
  creation = pos 1767225600;
  expiry = expiry;
  last = pos 1767225601;
}

-- ---- events

arrives : item_text 0 (happens (Arrives Opens 1 address_a method.Get true head) [])
    ≡ codes "{\"address\":{\"host\":\"a.test\",\"https\":true,\"ip\":false,\"path\":\"/\",\"port\":443},\"entry\":0,\"event\":\"arrives\",\"head\":[[\"Set-Cookie\",\"n=1\"]],\"held\":null,\"load\":\"open\",\"method\":\"GET\",\"moment\":1767225600,\"same_site\":true,\"tab\":1,\"url\":\"https://a.test/\"}\n"
unfolding digits serde_json_on_literals
arrives = refl

goes : item_text 0 (happens (Arrives Goes 1 address_a method.Post false []) [])
    ≡ codes "{\"address\":{\"host\":\"a.test\",\"https\":true,\"ip\":false,\"path\":\"/\",\"port\":443},\"entry\":0,\"event\":\"arrives\",\"head\":[],\"held\":null,\"load\":\"go\",\"method\":\"POST\",\"moment\":1767225600,\"same_site\":false,\"tab\":1,\"url\":\"https://a.test/\"}\n"
unfolding digits serde_json_on_literals
goes = refl

acts : item_text 1 (happens (Acts (record { tab = 1; frame = 0 }) (Set Local (codes "k") (codes "v"))) [])
    ≡ codes "{\"entry\":1,\"event\":\"acts\",\"held\":null,\"line\":{\"area\":\"local\",\"do\":\"set\",\"frame\":0,\"key\":\"k\",\"tab\":1,\"value\":\"v\"},\"moment\":1767225600}\n"
unfolding digits serde_json_on_literals
acts = refl

leaves : item_text 3 (happens (Leaves 1) []) ≡ codes "{\"entry\":3,\"event\":\"leaves\",\"held\":null,\"moment\":1767225600,\"tab\":1}\n"
unfolding digits serde_json_on_literals
leaves = refl

copies : item_text 4 (happens (Copies 1 2) []) ≡ codes "{\"entry\":4,\"event\":\"copies\",\"from\":1,\"held\":null,\"moment\":1767225600,\"to\":2}\n"
unfolding digits serde_json_on_literals
copies = refl

closes : item_text 5 (happens (Closes 1) []) ≡ codes "{\"entry\":5,\"event\":\"closes\",\"held\":null,\"moment\":1767225600,\"tab\":1}\n"
unfolding digits serde_json_on_literals
closes = refl

evicts : item_text 6 (happens Evicts []) ≡ codes "{\"entry\":6,\"event\":\"evicts\",\"held\":null,\"moment\":1767225600}\n"
unfolding digits serde_json_on_literals
evicts = refl

restart : item_text 7 (Restarts 1767225600 1 2) ≡ codes "{\"acknowledged\":1,\"end\":\"restart\",\"entry\":7,\"kept\":2,\"moment\":1767225600}\n"
unfolding digits serde_json_on_literals
restart = refl

end : end_text (Restarts 1767225600 2 1) ≡ codes "{\"acknowledged\":2,\"end\":\"run\",\"kept\":1,\"moment\":1767225600}\n"
unfolding digits serde_json_on_literals
end = refl

-- ---- cookies that are held

-- none of a domain
held_none : item_text 0 (happens Evicts (record { cell = codes "a.test"; content = [] } ∷ []))
    ≡ codes "{\"entry\":0,\"event\":\"evicts\",\"held\":{\"cookies\":[],\"domain\":\"a.test\"},\"moment\":1767225600}\n"
unfolding digits serde_json_on_literals
held_none = refl

held : item_text 0 (happens Evicts (record { cell = codes "a.test"; content = cookie_with None ∷ cookie_with (Some (negsuc 0)) ∷ [] } ∷ []))
    ≡ codes "{\"entry\":0,\"event\":\"evicts\",\"held\":{\"cookies\":[{\"creation\":1767225600,\"domain\":\"a.test\",\"expiry\":null,\"host_only\":true,\"http_only\":false,\"last\":1767225601,\"name\":\"n\",\"path\":\"/\",\"same_site\":\"lax\",\"secure\":true,\"value\":\"1\"},{\"creation\":1767225600,\"domain\":\"a.test\",\"expiry\":-1,\"host_only\":true,\"http_only\":false,\"last\":1767225601,\"name\":\"n\",\"path\":\"/\",\"same_site\":\"lax\",\"secure\":true,\"value\":\"1\"}],\"domain\":\"a.test\"},\"moment\":1767225600}\n"
unfolding digits serde_json_on_literals
held = refl

-- ---- lines of scripts

-- what the document of frame 2 in tab 1 does
abbrev line : DocumentAction → List ℕ
line action = compact_text (line_data (record { tab = 1; frame = 2 }) action)

frame : line (Frame 0 address_a None false []) ≡ codes "{\"deny\":false,\"do\":\"frame\",\"frame\":2,\"head\":[],\"parent\":0,\"tab\":1,\"url\":\"https://a.test/\"}"
unfolding digits serde_json_on_literals
frame = refl

sandboxed : line (Frame 1 address_a (Some []) true head)
    ≡ codes "{\"deny\":true,\"do\":\"frame\",\"frame\":2,\"head\":[[\"Set-Cookie\",\"n=1\"]],\"parent\":1,\"sandbox\":\"\",\"tab\":1,\"url\":\"https://a.test/\"}"
unfolding digits serde_json_on_literals
sandboxed = refl

nav : line (Nav address_a true method.Put []) ≡ codes "{\"by\":\"self\",\"do\":\"nav\",\"frame\":2,\"head\":[],\"method\":\"PUT\",\"tab\":1,\"url\":\"https://a.test/\"}"
unfolding digits serde_json_on_literals
nav = refl

by_parent : line (Nav address_a false method.Patch []) ≡ codes "{\"by\":\"parent\",\"do\":\"nav\",\"frame\":2,\"head\":[],\"method\":\"PATCH\",\"tab\":1,\"url\":\"https://a.test/\"}"
unfolding digits serde_json_on_literals
by_parent = refl

drops : line Drop ≡ codes "{\"do\":\"drop\",\"frame\":2,\"tab\":1}"
unfolding digits serde_json_on_literals
drops = refl

click : line Click ≡ codes "{\"do\":\"click\",\"frame\":2,\"tab\":1}"
unfolding digits serde_json_on_literals
click = refl

fetch : line (Fetch address_a method.Delete []) ≡ codes "{\"do\":\"fetch\",\"frame\":2,\"head\":[],\"method\":\"DELETE\",\"tab\":1,\"url\":\"https://a.test/\"}"
unfolding digits serde_json_on_literals
fetch = refl

gets : line (Get Session (codes "k")) ≡ codes "{\"area\":\"session\",\"do\":\"get\",\"frame\":2,\"key\":\"k\",\"tab\":1}"
unfolding digits serde_json_on_literals
gets = refl

deletes : line (Del Local (codes "k")) ≡ codes "{\"area\":\"local\",\"do\":\"del\",\"frame\":2,\"key\":\"k\",\"tab\":1}"
unfolding digits serde_json_on_literals
deletes = refl

clears : line (Clear Local) ≡ codes "{\"area\":\"local\",\"do\":\"clear\",\"frame\":2,\"tab\":1}"
unfolding digits serde_json_on_literals
clears = refl

len : line (Len Local) ≡ codes "{\"area\":\"local\",\"do\":\"len\",\"frame\":2,\"tab\":1}"
unfolding digits serde_json_on_literals
len = refl

key : line (Key Session 7) ≡ codes "{\"area\":\"session\",\"do\":\"key\",\"frame\":2,\"n\":7,\"tab\":1}"
unfolding digits serde_json_on_literals
key = refl

events : line Events ≡ codes "{\"do\":\"events\",\"frame\":2,\"tab\":1}"
unfolding digits serde_json_on_literals
events = refl

cookie : line Cookie ≡ codes "{\"do\":\"cookie\",\"frame\":2,\"tab\":1}"
unfolding digits serde_json_on_literals
cookie = refl

set_cookie : line (SetCookie (codes "n=1")) ≡ codes "{\"do\":\"setcookie\",\"frame\":2,\"tab\":1,\"text\":\"n=1\"}"
unfolding digits serde_json_on_literals
set_cookie = refl

has : line Has ≡ codes "{\"do\":\"has\",\"frame\":2,\"tab\":1}"
unfolding digits serde_json_on_literals
has = refl

request : line (Request prompt.Dismiss) ≡ codes "{\"answer\":\"dismiss\",\"do\":\"request\",\"frame\":2,\"tab\":1}"
unfolding digits serde_json_on_literals
request = refl

persisted : line Persisted ≡ codes "{\"do\":\"persisted\",\"frame\":2,\"tab\":1}"
unfolding digits serde_json_on_literals
persisted = refl

estimate : line Estimate ≡ codes "{\"do\":\"estimate\",\"frame\":2,\"tab\":1}"
unfolding digits serde_json_on_literals
estimate = refl

persist : line (Persist prompt.Deny) ≡ codes "{\"answer\":\"deny\",\"do\":\"persist\",\"frame\":2,\"tab\":1}"
unfolding digits serde_json_on_literals
persist = refl

-- ---- a script

script : script_text (happens Evicts [] ∷ Restarts 1767225600 0 0 ∷ []) (Restarts 1767225600 0 0)
    ≡ codes "{\"entry\":0,\"event\":\"evicts\",\"held\":null,\"moment\":1767225600}\n{\"acknowledged\":0,\"end\":\"restart\",\"entry\":1,\"kept\":0,\"moment\":1767225600}\n{\"acknowledged\":0,\"end\":\"run\",\"kept\":0,\"moment\":1767225600}\n"
unfolding digits serde_json_on_literals items_text
script = refl
