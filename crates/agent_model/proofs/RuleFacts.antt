-- Rules of cookies, of access and of buckets that other files of facts leave out, worked out by hand:
-- each would have another value if the definition that it names said the opposite.
use Rattle.std.proofs.Common.{◌≡◌, ℕ, Bool, true, false, pos, List, [], ◌∷◌, ◌++◌, Option, Some, None, refl}
use Rattle.std.specs.Prelude.{codes, option_and_then, option_map}
use Rattle.origin_site.specs.Address.{PlainAddress}
use Rattle.origin_site.specs.Origin.{origin_of_address}
use Rattle.frame_tree.specs.Calls.{activated, flagged, is_https_chain, with_document}
use Rattle.frame_tree.specs.Document.{loaded}
use Rattle.frame_tree.specs.Keys.{key_of_frame}
use Rattle.frame_tree.specs.Sandbox.{unrestricted}
use Rattle.frame_tree.specs.Tree.{PlainFrame, document_of}
use Rattle.live_state.specs.Tabs.{PlainTab, made_tab}
use Rattle.setcookie_parse.specs.declared.cookie.SameSite.{SameSite}
use Rattle.setcookie_parse.specs.declared.cookie.SameSite.TheVariants as when
use Rattle.stored_cookie.specs.StoredCookie.{PlainCookie}
use Rattle.cookie_jar.specs.Key.{OwnCell}
use Rattle.row_changes.specs.Change.{AreaClear, CookieInsert}
use Rattle.reply_lines.specs.Reply.{Plain, Truth}
use Rattle.script_actions.specs.declared.words.Method.{Method}
use Rattle.script_actions.specs.declared.words.Method.TheVariants as method
use Rattle.script_actions.specs.declared.words.Prompt.TheVariants as prompt
use Rattle.script_actions.specs.Action.{Close, Cookie, Fetch, Frame, Go, Nav}
use Rattle.agent_model.specs.Buckets.{persist}
use Rattle.agent_model.specs.Changes.{clears}
use Rattle.agent_model.specs.Consults.{names_in}
use Rattle.agent_model.specs.CookieStore.{both_marked, header_text, sent, store_text, store_texts}
use Rattle.agent_model.specs.CookieUse.{CookieUse, consulted_by, key_of}
use Rattle.agent_model.specs.CookieUses.{fetch_use, frame_use, is_safe, script_use, top_use}
use Rattle.agent_model.specs.Documents.{Keyed, in_secure}
use Rattle.agent_model.specs.Effects.{SharedCells}
use Rattle.agent_model.specs.Lines.{AgentWorld}
use Rattle.agent_model.specs.Partition.{Holdings}
use Rattle.agent_model.specs.Rest.{refusal}
use Rattle.agent_model.specs.SiteStep.{act_in}
use Rattle.agent_model.specs.StorageAccess.{access_facts, answer_of, decision_word, embedded_site, outcome_of, tell_access}
use Rattle.agent_model.proofs.CookieRunFacts.{cookie, http_a, http_site, reader}
use Rattle.agent_model.proofs.StandardFacts.{address, at_frame, shown, site, widget, widget_key, a, b}

-- ---- methods: GET, HEAD, OPTIONS and TRACE are safe (HTTP Semantics, "Safe Methods")

safe_head : is_safe method.Head ≡ true
safe_head = refl

safe_options : is_safe method.Options ≡ true
safe_options = refl

unsafe_post : is_safe method.Post ≡ false
unsafe_post = refl

unsafe_put : is_safe method.Put ≡ false
unsafe_put = refl

unsafe_delete : is_safe method.Delete ≡ false
unsafe_delete = refl

unsafe_patch : is_safe method.Patch ≡ false
unsafe_patch = refl

-- ---- loads of top documents, and cookies of each SameSite

-- the header of a load of `https://a.test/` where the cookie `s=1` of this SameSite is stored
abbrev loaded_with : Method → (same_site : Bool) → SameSite → Option (List ℕ)
loaded_with by same_site kind =
    header_text (sent 7 (top_use (site a) (address a) by same_site) (record { own = record (cookie (codes "s")) { secure = true; same_site = kind } ∷ []; partition = [] }))

s : Option (List ℕ)
s = Some (codes "s=1")

-- a load that another site's page starts has no Strict cookie, and a Lax one by a safe method alone
from_elsewhere : loaded_with method.Get false when.Strict ≡ None
from_elsewhere = refl

lax_from_elsewhere : loaded_with method.Get false when.Lax ≡ Some (codes "s=1")
lax_from_elsewhere = refl

lax_by_post : loaded_with method.Post false when.Lax ≡ None
lax_by_post = refl

none_by_post : loaded_with method.Post false when.NoneSent ≡ Some (codes "s=1")
none_by_post = refl

strict_at_home : loaded_with method.Post true when.Strict ≡ Some (codes "s=1")
strict_at_home = refl

-- a load of a frame is no load of a top document
below_the_top : (frame_use [] (site a) 0 (shown a None) (address b)).top_load ≡ false
below_the_top = refl

-- ---- documents below documents

-- a page at `https://a.test`, with this address in its frame 1, and `https://a.test/` in that one's
-- frame 2
abbrev chain : PlainAddress → List PlainFrame
chain between =
    record { frame = 0; parent = 0; document = loaded [] unrestricted false (address a) }
    ∷ record { frame = 1; parent = 0; document = loaded [] unrestricted false between }
    ∷ record { frame = 2; parent = 1; document = loaded [] unrestricted false (address a) } ∷ []

-- below another site a document of the top-level site is no first party, nor what it requests
nested_asks : consulted_by [] (fetch_use [] (site a) 2 (chain (address widget)) (address a) method.Get) ≡ []
nested_asks = refl

nested_key : key_of_frame 2 (chain (address widget)) ≡ Some (record { origin = origin_of_address (address a); top = site a; bit = true })
nested_key = refl

nested_starts : (fetch_use [] (site a) 2 (chain (address widget)) (address a) method.Get).same_site ≡ false
nested_starts = refl

-- below its own site it is
own_chain : consulted_by [] (fetch_use [] (site a) 2 (chain (address a)) (address a) method.Get) ≡ a ∷ []
own_chain = refl

-- a document over http between two of https is in no secure context, nor what is below it
http_between : is_https_chain 2 (chain http_a) ≡ false
http_between = refl

abbrev nested : List PlainFrame → Keyed
nested frames =
    record {
      at = at_frame 1 2;
      document = loaded [] unrestricted false (address a);
      key = record { top = site a; origin = origin_of_address (address a); bit = true };
    }

may_not_persist : (cells : SharedCells) (held : Holdings) → (in_secure (made_tab 1 (chain http_a) None None) (persist prompt.Grant) (nested (chain http_a)) cells held).body ≡ Plain (codes "insecure")
may_not_persist cells held = refl

-- what a request of the document in frame 2 is answered after a click on it
abbrev asks_below : PlainAddress → Option (List ℕ)
asks_below between =
    let frames = activated 2 (pos 7) (chain between) in
    option_map (λ outcome. decision_word outcome.decision)
    (option_and_then (λ document. outcome_of (site a) (embedded_site [] document) (access_facts [] 7 2 frames document) (answer_of prompt.Grant) 7 []) (document_of 2 frames))

may_not_ask : asks_below http_a ≡ Some (codes "insecure")
may_not_ask = refl

may_ask : asks_below (address widget) ≡ Some (codes "granted")
may_ask = refl

-- ---- activation: that of the document that asks counts, not that of the top

abbrev asks_after : List PlainFrame → Option (List ℕ)
asks_after frames =
    option_map (λ outcome. decision_word outcome.decision)
    (option_and_then (λ document. outcome_of (site a) (embedded_site [] document) (access_facts [] 7 1 frames document) (answer_of prompt.Grant) 7 []) (document_of 1 frames))

click_on_top : asks_after (activated 0 (pos 7) (shown a None)) ≡ Some (codes "no-activation")
click_on_top = refl

click_on_it : asks_after (activated 1 (pos 7) (shown a None)) ≡ Some (codes "granted")
click_on_it = refl

-- ---- partitioned cells

-- a cell is of the domain of the URL, whatever host of it is asked
abbrev host_of_widget : PlainAddress
host_of_widget = address (codes "x.w.test")

of_the_domain : key_of [] (fetch_use [] (site a) 1 (shown a None) host_of_widget method.Get) ≡ record { top = site a; bit = true; domain = widget }
of_the_domain = refl

-- a row of an unpartitioned cell names the domain, too, and not the host
row_of_domain : (store_text [] 7 (top_use (site a) (address (codes "x.a.test")) method.Get true) (record { own = []; partition = [] }) (codes "s=1; Max-Age=60")).changes
    ≡ CookieInsert (OwnCell a) 0 (record (cookie (codes "s")) { domain = codes "x.a.test"; expiry = Some (pos 67); last = pos 0 }) ∷ []
row_of_domain = refl

abbrev third_party : CookieUse
third_party = fetch_use [] (site a) 1 (shown a None) (address widget) method.Get

abbrev partitioned : PlainCookie
partitioned = record (cookie (codes "p")) { domain = widget; secure = true; same_site = when.NoneSent }

-- what is sent of a partitioned cell is used, and an unpartitioned cookie of its domain is not
marks_partition : both_marked 9 third_party (record { own = partitioned ∷ []; partition = partitioned ∷ [] }) ≡ record { own = partitioned ∷ []; partition = record partitioned { last = pos 9 } ∷ [] }
marks_partition = refl

sends_partition : header_text (sent 9 third_party (record { own = record partitioned { name = codes "o" } ∷ []; partition = partitioned ∷ [] })) ≡ Some (codes "p=1")
sends_partition = refl

-- ---- granted access

-- a widget that has access sends its unpartitioned cookies that are `SameSite=None`, and no others
abbrev granted : CookieUse
granted = fetch_use [] (site a) 1 (with_document 1 flagged (shown a None)) (address widget) method.Get

abbrev granted_sends : SameSite → Option (List ℕ)
granted_sends kind = header_text (sent 9 granted (record { own = record partitioned { same_site = kind } ∷ []; partition = [] }))

granted_none : granted_sends when.NoneSent ≡ Some (codes "p=1")
granted_none = refl

granted_lax : granted_sends when.Lax ≡ None
granted_lax = refl

granted_default : granted_sends when.Default ≡ None
granted_default = refl

-- it is used then, and a request for another origin of its site has no access
granted_marks : both_marked 9 granted (record { own = partitioned ∷ []; partition = [] }) ≡ record { own = record partitioned { last = pos 9 } ∷ []; partition = [] }
granted_marks = refl

other_origin : consulted_by [] (fetch_use [] (site a) 1 (with_document 1 flagged (shown a None)) host_of_widget method.Get) ≡ []
other_origin = refl

-- ---- scripts

-- the script of a widget, with storage access and without
abbrev embedded : Bool → Keyed
embedded flag =
    record {
      at = at_frame 1 1;
      document = record (loaded [] unrestricted false (address widget)) { flag = flag };
      key = widget_key a true;
    }

without_flag : consulted_by [] (script_use (site a) (embedded false)) ≡ []
without_flag = refl

with_flag : consulted_by [] (script_use (site a) (embedded true)) ≡ widget ∷ []
with_flag = refl

script_key : key_of [] (script_use (site a) (embedded false)) ≡ record { top = site a; bit = true; domain = widget }
script_key = refl

script_is_cross_site : (script_use (site a) (embedded false)).same_site ≡ false
script_is_cross_site = refl

script_is_same_site : (script_use (site a) reader).same_site ≡ true
script_is_same_site = refl

-- a script neither reads nor sets an HttpOnly cookie
script_reads : header_text (sent 7 (script_use (site a) reader) (record { own = record (cookie (codes "h")) { http_only = true } ∷ cookie (codes "s") ∷ []; partition = [] })) ≡ Some (codes "s=1")
script_reads = refl

script_sets : (store_text [] 7 (script_use (site a) reader) (record { own = []; partition = [] }) (codes "h=1; HttpOnly")).word ≡ codes "http-only-from-script"
script_sets = refl

-- Secure goes by the URL of the document
abbrev over_http : Keyed
over_http = record reader { document = loaded [] unrestricted false http_a }

secure_from_http : (store_text [] 7 (script_use http_site over_http) (record { own = []; partition = [] }) (codes "s=1; Secure")).word ≡ codes "not-secure-url"
secure_from_http = refl

secure_from_https : (store_text [] 7 (script_use (site a) reader) (record { own = []; partition = [] }) (codes "s=1; Secure")).word ≡ codes "added"
secure_from_https = refl

-- ---- words of responses

-- each text has its word, in the order of the head
words_in_order : (store_texts [] 7 (top_use (site a) (address a) method.Get true) (record { own = []; partition = [] }) (codes "s=1" ∷ (1 ∷ []) ∷ codes "s=2" ∷ codes "s=; Max-Age=0" ∷ [])).words
    ≡ codes "added" ∷ codes "control" ∷ codes "replaced" ∷ codes "removed" ∷ []
words_in_order = refl

-- a cookie that is gone already is removed all the same
nothing_there : (store_text [] 7 (top_use (site a) (address a) method.Get true) (record { own = []; partition = [] }) (codes "s=; Max-Age=0")).word ≡ codes "removed"
nothing_there = refl

none_needs_secure : (store_text [] 7 (top_use (site a) (address a) method.Get true) (record { own = []; partition = [] }) (codes "s=1; SameSite=None")).word ≡ codes "none-needs-secure"
none_needs_secure = refl

-- a Domain attribute with a byte that is not ASCII
non_ascii_domain : (store_text [] 7 (top_use (site a) (address a) method.Get true) (record { own = []; partition = [] }) (codes "s=1; Domain=" ++ 195 ∷ 169 ∷ [])).word ≡ codes "non-ascii-domain"
non_ascii_domain = refl

-- a text that goes to no cell is dropped for that, whatever the unpartitioned cell holds
no_cell : (store_text [] 7 third_party (record { own = record partitioned { http_only = true } ∷ []; partition = [] }) (codes "p=2; Secure; SameSite=None")).word ≡ codes "third-party"
no_cell = refl

-- 7F is a control character
delete_is_control : (store_text [] 7 (top_use (site a) (address a) method.Get true) (record { own = []; partition = [] }) (codes "s=" ++ 127 ∷ [])).word ≡ codes "control"
delete_is_control = refl

-- a cookie with an expiry in the place of one without is a row that is new
row_instead : (store_text [] 7 (top_use (site a) (address a) method.Get true) (record { own = cookie (codes "s") ∷ []; partition = [] }) (codes "s=1; Max-Age=60")).changes
    ≡ CookieInsert (OwnCell a) 0 (record (cookie (codes "s")) { expiry = Some (pos 67); last = pos 0 }) ∷ []
row_instead = refl

-- ---- what is refused

-- a refused line of a tab that is not open has its own name, and `no-tab`
refused_close : (world : AgentWorld) → refusal world (Close 3) ≡ record { name = codes "close"; body = Plain (codes "no-tab") }
unfolding refusal
refused_close world = refl

refused_go : (world : AgentWorld) → refusal world (Go 3 (address a) false method.Get []) ≡ record { name = codes "go"; body = Plain (codes "no-tab") }
unfolding refusal
refused_go world = refl

-- a frame whose number is taken, a load of the top and a request of no document consult nothing
abbrev tab : PlainTab
tab = made_tab 1 (shown a None) None None

frame_refused : names_in [] (site a) (at_frame 1 1) (Frame 0 (address a) None false []) tab ≡ []
frame_refused = refl

frame_taken : names_in [] (site a) (at_frame 1 2) (Frame 0 (address a) None false []) tab ≡ a ∷ []
frame_taken = refl

nav_refused : names_in [] (site a) (at_frame 1 0) (Nav (address a) true method.Get []) tab ≡ []
nav_refused = refl

absent : names_in [] (site a) (at_frame 1 7) (Fetch (address a) method.Get []) tab ≡ []
absent = refl

-- ---- documents of opaque origins

abbrev boxed : PlainTab
boxed = made_tab 1 (shown a (Some (codes "allow-scripts"))) None None

-- they are asked whether they have access, and have none; they have no storage and no cookies
opaque_has : (cells : SharedCells) (held : Holdings) → (tell_access [] 7 (at_frame 1 1) boxed cells held).body ≡ Truth false
opaque_has cells held = refl

opaque_reads : (cells : SharedCells) (held : Holdings) → (act_in [] 7 (site a) (at_frame 1 1) Cookie boxed cells held).body ≡ Plain (codes "security")
opaque_reads cells held = refl

opaque_names : names_in [] (site a) (at_frame 1 1) Cookie boxed ≡ []
opaque_names = refl

-- ---- row changes of an eviction: of two keys that differ in the bit that without it is first

bit_order : clears (widget_key a true ∷ widget_key a false ∷ []) ≡ AreaClear (widget_key a false) ∷ AreaClear (widget_key a true) ∷ []
bit_order = refl
