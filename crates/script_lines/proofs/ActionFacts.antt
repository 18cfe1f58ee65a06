-- Lines of each action, so that a wrong row in the specs does not check.
use Rattle.std.proofs.Common.{◌≡◌, refl, ℕ, List, [], ◌∷◌, Some, None, Result, Ok, Err, true, false}
use Rattle.std.specs.Prelude.{codes}
use Rattle.url.proofs.OnLiterals.{url_on_literals}
use Rattle.serde_json.proofs.OnLiterals.{serde_json_on_literals}
use Rattle.serde_json.specs.Read.{read}
use Rattle.origin_site.specs.Address.{PlainAddress}
use Rattle.storage_events.specs.declared.event.AreaKind.TheVariants.{Local, Session}
use Rattle.script_actions.specs.declared.words.Method.TheVariants as method
use Rattle.script_actions.specs.declared.words.Prompt.TheVariants.{Grant, Deny, Dismiss}
use Rattle.script_actions.specs.Action.{PlainStep, Open, Close, Go, Frame, Nav, Drop, Click, Fetch, Set, Get}
use Rattle.script_actions.specs.Action.{Del, Clear, Len, Key, Events, Cookie, SetCookie, Has, Request, Persisted, Estimate, Persist, Evict}
use Rattle.unwinding.specs.Admissible.{Acts, Reopens}
use Rattle.script_lines.specs.Script.{PlainFault, BadField, BadHeader}
use Rattle.script_actions.specs.Action.{HeadField}
use Rattle.script_lines.specs.Fields.{then_ok}
use Rattle.script_lines.specs.Rows.{acts}
use Rattle.script_lines.specs.Actions.{table}
use Rattle.script_lines.specs.Items.{each_of}
use Rattle.script_lines.specs.Steps.{step_of_data}
use Rattle.script_lines.specs.Grammar.{json_of}

-- what a line of valid UTF-8 reads as, with the number 1
abbrev line : List ℕ → Result PlainStep PlainFault
line text = then_ok (json_of 1 (read text)) (step_of_data 1)

abbrev bad : List ℕ → Result PlainStep PlainFault
bad name = Err (BadField 1 name)

-- `https://a.test/`
abbrev home : PlainAddress
home = record {
  text = codes "https://a.test/";
  https = true;
  ip = false;
  host = codes "a.test";
  port = 443;
  path = codes "/";
}

-- the head of one field, `b: c`
abbrev one_field : List HeadField
one_field = record { name = codes "b"; value = codes "c" } ∷ []

opens_from_an_opener : line (codes "{\"do\":\"open\",\"tab\":2,\"url\":\"https://a.test/\",\"opener\":1,\"noopener\":true}") ≡ Ok (Acts (Open 2 home (Some 1) true method.Get []))
unfolding table serde_json_on_literals url_on_literals
opens_from_an_opener = refl

opener_zero : line (codes "{\"do\":\"open\",\"tab\":2,\"url\":\"https://a.test/\",\"opener\":0}") ≡ bad (codes "opener")
unfolding table serde_json_on_literals url_on_literals
opener_zero = refl

opens_the_store_again : line (codes "{\"do\":\"restart\"}") ≡ Ok Reopens
unfolding table serde_json_on_literals
opens_the_store_again = refl

restart_has_no_tab : line (codes "{\"do\":\"restart\",\"tab\":1}") ≡ bad (codes "tab")
unfolding table serde_json_on_literals
restart_has_no_tab = refl

closes : line (codes "{\"do\":\"close\",\"tab\":1}") ≡ Ok (Acts (Close 1))
unfolding table serde_json_on_literals
closes = refl

goes : line (codes "{\"do\":\"go\",\"tab\":1,\"url\":\"https://a.test/\",\"by\":\"page\"}") ≡ Ok (Acts (Go 1 home true method.Get []))
unfolding table serde_json_on_literals url_on_literals
goes = refl

adds_a_frame : line (codes "{\"do\":\"frame\",\"tab\":1,\"frame\":2,\"url\":\"https://a.test/\",\"deny\":true}") ≡ Ok (acts 1 2 (Frame 0 home None true []))
unfolding table serde_json_on_literals url_on_literals
adds_a_frame = refl

navigates : line (codes "{\"do\":\"nav\",\"tab\":1,\"frame\":2,\"url\":\"https://a.test/\",\"by\":\"self\",\"method\":\"POST\"}") ≡ Ok (acts 1 2 (Nav home true method.Post []))
unfolding table serde_json_on_literals url_on_literals
navigates = refl

drops : line (codes "{\"do\":\"drop\",\"tab\":1,\"frame\":255}") ≡ Ok (acts 1 255 Drop)
unfolding table serde_json_on_literals
drops = refl

drops_no_top_document : line (codes "{\"do\":\"drop\",\"tab\":1,\"frame\":0}") ≡ bad (codes "frame")
unfolding table serde_json_on_literals
drops_no_top_document = refl

clicks : line (codes "{\"do\":\"click\",\"tab\":1}") ≡ Ok (acts 1 0 Click)
unfolding table serde_json_on_literals
clicks = refl

fetches : line (codes "{\"do\":\"fetch\",\"tab\":1,\"frame\":2,\"url\":\"https://a.test/\",\"head\":[[\"b\",\"c\"]]}") ≡ Ok (acts 1 2 (Fetch home method.Get one_field))
unfolding table serde_json_on_literals url_on_literals each_of
fetches = refl

opens_with_a_head : line (codes "{\"do\":\"open\",\"tab\":1,\"url\":\"https://a.test/\",\"head\":[[\"b\",\"c\"]]}") ≡ Ok (Acts (Open 1 home None false method.Get one_field))
unfolding table serde_json_on_literals url_on_literals each_of
opens_with_a_head = refl

-- a head comes behind the fields before it, and before a member that no field has
method_before_head : line (codes "{\"do\":\"go\",\"tab\":1,\"url\":\"https://a.test/\",\"method\":\"get\",\"head\":[[\"\",\"\"]]}") ≡ bad (codes "method")
unfolding table serde_json_on_literals url_on_literals each_of
method_before_head = refl

head_before_others : line (codes "{\"do\":\"go\",\"tab\":1,\"url\":\"https://a.test/\",\"a\":0,\"head\":[[\"\",\"\"]]}") ≡ Err (BadHeader 1)
unfolding table serde_json_on_literals url_on_literals each_of
head_before_others = refl

click_has_no_head : line (codes "{\"do\":\"click\",\"tab\":1,\"head\":[]}") ≡ bad (codes "head")
unfolding table serde_json_on_literals
click_has_no_head = refl

sets_in_a_session : line (codes "{\"do\":\"set\",\"tab\":1,\"area\":\"session\",\"key\":\"k\",\"value\":\"\"}") ≡ Ok (acts 1 0 (Set Session (codes "k") []))
unfolding table serde_json_on_literals
sets_in_a_session = refl

area_before_key : line (codes "{\"do\":\"set\",\"tab\":1,\"area\":\"shared\",\"key\":1}") ≡ bad (codes "area")
unfolding table serde_json_on_literals
area_before_key = refl

gets_in_a_frame : line (codes "{\"do\":\"get\",\"tab\":1,\"frame\":2,\"key\":\"k\"}") ≡ Ok (acts 1 2 (Get Local (codes "k")))
unfolding table serde_json_on_literals
gets_in_a_frame = refl

deletes : line (codes "{\"do\":\"del\",\"tab\":1,\"area\":\"session\",\"key\":\"k\"}") ≡ Ok (acts 1 0 (Del Session (codes "k")))
unfolding table serde_json_on_literals
deletes = refl

clears : line (codes "{\"do\":\"clear\",\"tab\":1}") ≡ Ok (acts 1 0 (Clear Local))
unfolding table serde_json_on_literals
clears = refl

counts : line (codes "{\"do\":\"len\",\"tab\":1,\"area\":\"session\"}") ≡ Ok (acts 1 0 (Len Session))
unfolding table serde_json_on_literals
counts = refl

last_place : line (codes "{\"do\":\"key\",\"tab\":1,\"n\":4294967295}") ≡ Ok (acts 1 0 (Key Local 4294967295))
unfolding table serde_json_on_literals
last_place = refl

past_the_last_place : line (codes "{\"do\":\"key\",\"tab\":1,\"n\":4294967296}") ≡ bad (codes "n")
unfolding table serde_json_on_literals
past_the_last_place = refl

takes_events : line (codes "{\"do\":\"events\",\"tab\":1,\"frame\":2}") ≡ Ok (acts 1 2 Events)
unfolding table serde_json_on_literals
takes_events = refl

events_of_no_area : line (codes "{\"do\":\"events\",\"tab\":1,\"area\":\"local\"}") ≡ bad (codes "area")
unfolding table serde_json_on_literals
events_of_no_area = refl

reads_cookies : line (codes "{\"do\":\"cookie\",\"tab\":1,\"frame\":2}") ≡ Ok (acts 1 2 Cookie)
unfolding table serde_json_on_literals
reads_cookies = refl

sets_a_cookie : line (codes "{\"do\":\"setcookie\",\"tab\":1,\"text\":\"a=b\"}") ≡ Ok (acts 1 0 (SetCookie (codes "a=b")))
unfolding table serde_json_on_literals
sets_a_cookie = refl

sets_a_cookie_by_a_text : line (codes "{\"do\":\"setcookie\",\"tab\":1,\"value\":\"a=b\"}") ≡ bad (codes "text")
unfolding table serde_json_on_literals
sets_a_cookie_by_a_text = refl

asks_for_its_access : line (codes "{\"do\":\"has\",\"tab\":1,\"frame\":2}") ≡ Ok (acts 1 2 Has)
unfolding table serde_json_on_literals
asks_for_its_access = refl

has_no_answer : line (codes "{\"do\":\"has\",\"tab\":1,\"answer\":\"grant\"}") ≡ bad (codes "answer")
unfolding table serde_json_on_literals
has_no_answer = refl

requests_in_a_frame : line (codes "{\"do\":\"request\",\"tab\":1,\"frame\":2,\"answer\":\"grant\"}") ≡ Ok (acts 1 2 (Request Grant))
unfolding table serde_json_on_literals
requests_in_a_frame = refl

request_is_denied : line (codes "{\"do\":\"request\",\"tab\":1,\"answer\":\"deny\"}") ≡ Ok (acts 1 0 (Request Deny))
unfolding table serde_json_on_literals
request_is_denied = refl

request_is_dismissed : line (codes "{\"do\":\"request\",\"tab\":1,\"answer\":\"dismiss\"}") ≡ Ok (acts 1 0 (Request Dismiss))
unfolding table serde_json_on_literals
request_is_dismissed = refl

request_without_an_answer : line (codes "{\"do\":\"request\",\"tab\":1}") ≡ bad (codes "answer")
unfolding table serde_json_on_literals
request_without_an_answer = refl

asks_the_mode : line (codes "{\"do\":\"persisted\",\"tab\":1}") ≡ Ok (acts 1 0 Persisted)
unfolding table serde_json_on_literals
asks_the_mode = refl

asks_the_weight : line (codes "{\"do\":\"estimate\",\"tab\":1}") ≡ Ok (acts 1 0 Estimate)
unfolding table serde_json_on_literals
asks_the_weight = refl

persists : line (codes "{\"do\":\"persist\",\"tab\":1,\"answer\":\"grant\"}") ≡ Ok (acts 1 0 (Persist Grant))
unfolding table serde_json_on_literals
persists = refl

persist_is_denied : line (codes "{\"do\":\"persist\",\"tab\":1,\"answer\":\"deny\"}") ≡ Ok (acts 1 0 (Persist Deny))
unfolding table serde_json_on_literals
persist_is_denied = refl

persist_is_not_dismissed : line (codes "{\"do\":\"persist\",\"tab\":1,\"answer\":\"dismiss\"}") ≡ bad (codes "answer")
unfolding table serde_json_on_literals
persist_is_not_dismissed = refl

evicts : line (codes "{\"do\":\"evict\",\"site\":\"https://a.test\"}") ≡ Ok (Acts (Evict (record { https = true; host = codes "a.test" })))
unfolding table serde_json_on_literals url_on_literals
evicts = refl

evicts_no_address : line (codes "{\"do\":\"evict\",\"site\":\"https://a.test/\"}") ≡ bad (codes "site")
unfolding table serde_json_on_literals url_on_literals
evicts_no_address = refl
