-- The line of an item is read back as the item.
use Rattle.std.proofs.Common.{◌≡◌, ℕ, ℤ, pos, negsuc, List, [], ◌∷◌, true, false, Option, Some, None, refl, sym, ap, ap₂, ◌∙◌, map, cond}
use Rattle.std.specs.Prelude.{bytes_eq, codes, is_some, option_and_then, unwrap_or}
use Rattle.serde_json.specs.Data.{Data, null, boolean, number, string, array, object, Items, no_items, item}
use Rattle.serde_json.specs.Find.{get, as_array, as_integer, as_number}
use Rattle.serde_json.specs.View.{items_of}
use Rattle.unwinding.specs.LocalEntries.{HeldCell}
use Rattle.unwinding.specs.LocalScript.{Happens, Restarts}
use Rattle.origin_site.specs.Address.{PlainAddress}
use Rattle.setcookie_parse.specs.declared.cookie.SameSite.{SameSite}
use Rattle.setcookie_parse.specs.declared.cookie.SameSite.TheVariants.{Default, NoneSent, Lax, Strict}
use Rattle.stored_cookie.specs.StoredCookie.{PlainCookie}
use Rattle.row_lines.specs.Row.{moment_data, same_site_text}
use Rattle.script_actions.specs.ActionFacts.{facts_of}
use Rattle.agent_model.specs.CookieCells.{Cookies, Domain}
use Rattle.agent_model.specs.SiteEvent.{SiteEvent, Acts, Arrives, Leaves, Copies, Closes, Evicts, TopLoad, Opens, Goes}
use Rattle.local_scripts.specs.Items.{AgentEntry, AgentItem}
use Rattle.item_lines.specs.Item.{event_members, item_data, end_data}
use Rattle.item_lines.specs.Parts.{addressed, moment_or_null, cookie_data, cell_data, held_data}
use Rattle.item_lines.specs.Line.{line_data}
use Rattle.item_lines.specs.Members.{act_members}
use Rattle.item_lines.specs.Words.{load_text}
use Rattle.item_lines.proofs.LineReading.{data_in, text_in, number_in, truth_in, method_read, method_is_read, head_read, head_is_read, action_read, action_is_read, label_read, label_is_read, url_text, text_is_read, IsAddress}

-- ---- cookies

abbrev integer_read : Data → Option ℤ
integer_read d = option_and_then as_integer (as_number d)

abbrev moment_read : Data → ℤ
moment_read d = unwrap_or (integer_read d) (pos 0)

integer_is_read : (z : ℤ) → integer_read (moment_data z) ≡ Some z
integer_is_read (pos n) = refl
integer_is_read (negsuc n) = refl

moment_is_read : (z : ℤ) → moment_read (moment_data z) ≡ z
moment_is_read (pos n) = refl
moment_is_read (negsuc n) = refl

expiry_is_read : (expiry : Option ℤ) → integer_read (moment_or_null expiry) ≡ expiry
expiry_is_read None = refl
expiry_is_read (Some moment) = integer_is_read moment

abbrev same_site_read : List ℕ → SameSite
same_site_read text = cond (bytes_eq text (codes "default")) Default (cond (bytes_eq text (codes "none")) NoneSent (cond (bytes_eq text (codes "lax")) Lax Strict))

same_site_is_read : (s : SameSite) → same_site_read (same_site_text s) ≡ s
same_site_is_read Default = refl
same_site_is_read NoneSent = refl
same_site_is_read Lax = refl
same_site_is_read Strict = refl

abbrev cookie_read : Data → PlainCookie
cookie_read d = record {
  name = text_in (codes "name") d;
  value = text_in (codes "value") d;
  domain = text_in (codes "domain") d;
  path = text_in (codes "path") d;
  host_only = truth_in (codes "host_only") d;
  secure = truth_in (codes "secure") d;
  http_only = truth_in (codes "http_only") d;
  same_site = same_site_read (text_in (codes "same_site") d);
  creation = moment_read (data_in (codes "creation") d);
  expiry = integer_read (data_in (codes "expiry") d);
  last = moment_read (data_in (codes "last") d);
}

cookie_is_read : (c : PlainCookie) → cookie_read (cookie_data c) ≡ c
cookie_is_read c = λ i. record {
  name = c.name;
  value = c.value;
  domain = c.domain;
  path = c.path;
  host_only = c.host_only;
  secure = c.secure;
  http_only = c.http_only;
  same_site = same_site_is_read c.same_site i;
  creation = moment_is_read c.creation i;
  expiry = expiry_is_read c.expiry i;
  last = moment_is_read c.last i;
}

abbrev cookies_in : Items → Cookies
cookies_in no_items = []
cookies_in (item d ds) = cookie_read d ∷ cookies_in ds

cookies_are_read : (cs : Cookies) → cookies_in (items_of (map cookie_data cs)) ≡ cs
cookies_are_read [] = refl
cookies_are_read (c ∷ cs) = ap₂ (λ d ds. d ∷ ds) (cookie_is_read c) (cookies_are_read cs)

abbrev Held : Type 0
Held = HeldCell Domain Cookies

abbrev cell_read : Data → Held
cell_read d = record { cell = text_in (codes "domain") d; content = cookies_in (unwrap_or (as_array (data_in (codes "cookies") d)) no_items) }

cell_is_read : (h : Held) → cell_read (cell_data h) ≡ h
cell_is_read h = ap (λ cs. record { cell = h.cell; content = cs }) (cookies_are_read h.content)

abbrev cells_in : Items → List Held
cells_in no_items = []
cells_in (item d ds) = cell_read d ∷ cells_in ds

cells_are_read : (hs : List Held) → cells_in (items_of (map cell_data hs)) ≡ hs
cells_are_read [] = refl
cells_are_read (h ∷ hs) = ap₂ (λ d ds. d ∷ ds) (cell_is_read h) (cells_are_read hs)

abbrev held_read : Data → List Held
held_read null = []
held_read (boolean b) = []
held_read (number n) = []
held_read (string s) = []
held_read (array ds) = cells_in ds
held_read (object ms) = cell_read (object ms) ∷ []

held_is_read : (hs : List Held) → held_read (held_data hs) ≡ hs
held_is_read [] = refl
held_is_read (h ∷ []) = ap (λ g. g ∷ []) (cell_is_read h)
held_is_read (h ∷ g ∷ hs) = cells_are_read (h ∷ g ∷ hs)

-- ---- events

abbrev address_read : (text : List ℕ) → Data → PlainAddress
address_read text d = record {
  text = text;
  https = truth_in (codes "https") d;
  ip = truth_in (codes "ip") d;
  host = text_in (codes "host") d;
  port = number_in (codes "port") d;
  path = text_in (codes "path") d;
}

abbrev load_read : List ℕ → TopLoad
load_read text = cond (bytes_eq text (codes "open")) Opens Goes

load_is_read : (load : TopLoad) → load_read (load_text load) ≡ load
load_is_read Opens = refl
load_is_read Goes = refl

abbrev act_read : Data → Data → SiteEvent
act_read d line = Acts (label_read line) (action_read (address_read (text_in (codes "url") line) (data_in (codes "address") d)) line)

abbrev event_named : List ℕ → Data → SiteEvent
event_named name d =
    cond (bytes_eq name (codes "acts")) (act_read d (data_in (codes "line") d))
    (cond (bytes_eq name (codes "arrives"))
    (Arrives (load_read (text_in (codes "load") d)) (number_in (codes "tab") d) (address_read (text_in (codes "url") d) (data_in (codes "address") d)) (method_read (text_in (codes "method") d)) (truth_in (codes "same_site") d)
    (head_read (data_in (codes "head") d)))
    (cond (bytes_eq name (codes "leaves")) (Leaves (number_in (codes "tab") d))
    (cond (bytes_eq name (codes "copies")) (Copies (number_in (codes "from") d) (number_in (codes "to") d))
    (cond (bytes_eq name (codes "closes")) (Closes (number_in (codes "tab") d)) Evicts))))

abbrev event_read : Data → SiteEvent
event_read d = event_named (text_in (codes "event") d) d

-- what stands in the entry of an action, whether it names an address or not
record ActParts (o : Option PlainAddress) (n moment : ℕ) (held line : Data) : Type 0 where
  d : Data
  whole : d ≡ object (addressed o (act_members n moment held line))
  event : text_in (codes "event") d ≡ codes "acts"
  line_is : data_in (codes "line") d ≡ line
  moment_is : number_in (codes "moment") d ≡ moment
  held_is : data_in (codes "held") d ≡ held
  entry_is : is_some (get (codes "entry") d) ≡ true
  no_end : is_some (get (codes "end") d) ≡ false
  address_is : (text : List ℕ) → text ≡ url_text o → IsAddress o (address_read text (data_in (codes "address") d))

act_parts : (o : Option PlainAddress) (n moment : ℕ) (held line : Data) → ActParts o n moment held line
act_parts None n moment held line = record {
  d = object (addressed None (act_members n moment held line));
  whole = refl;
  event = refl;
  line_is = refl;
  moment_is = refl;
  held_is = refl;
  entry_is = refl;
  no_end = refl;
  address_is = λ text same. tt;
}
act_parts (Some url) n moment held line = record {
  d = object (addressed (Some url) (act_members n moment held line));
  whole = refl;
  event = refl;
  line_is = refl;
  moment_is = refl;
  held_is = refl;
  entry_is = refl;
  no_end = refl;
  address_is = λ text same. ap (λ t. record url { text = t }) same;
}

-- what is read of the entry of an event
record EventParts (n moment : ℕ) (held : Data) (e : SiteEvent) : Type 0 where
  event : event_read (object (event_members n moment held e)) ≡ e
  moment_is : number_in (codes "moment") (object (event_members n moment held e)) ≡ moment
  held_is : data_in (codes "held") (object (event_members n moment held e)) ≡ held
  entry_is : is_some (get (codes "entry") (object (event_members n moment held e))) ≡ true
  no_end : is_some (get (codes "end") (object (event_members n moment held e))) ≡ false

event_parts : (n moment : ℕ) (held : Data) (e : SiteEvent) → EventParts n moment held e
event_parts n moment held (Acts at action) =
    let o = (facts_of action).address in
    let line = line_data at action in
    let p = act_parts o n moment held line in
    let named : event_read p.d ≡ act_read p.d line =
    ap (λ name. event_named name p.d) p.event ∙ ap (act_read p.d) p.line_is in
    let url = address_read (text_in (codes "url") line) (data_in (codes "address") p.d) in
    let acts : act_read p.d line ≡ Acts at action =
    ap₂ Acts (label_is_read at action) (action_is_read at action url (p.address_is (text_in (codes "url") line) (text_is_read at action))) in
    record {
      event = ap event_read (sym p.whole) ∙ named ∙ acts;
      moment_is = ap (number_in (codes "moment")) (sym p.whole) ∙ p.moment_is;
      held_is = ap (data_in (codes "held")) (sym p.whole) ∙ p.held_is;
      entry_is = ap (λ d. is_some (get (codes "entry") d)) (sym p.whole) ∙ p.entry_is;
      no_end = ap (λ d. is_some (get (codes "end") d)) (sym p.whole) ∙ p.no_end;
    }
event_parts n moment held (Arrives load tab url method same_site head) = record {
  event = λ i. Arrives (load_is_read load i) tab url (method_is_read method i) same_site (head_is_read head i);
  moment_is = refl;
  held_is = refl;
  entry_is = refl;
  no_end = refl;
}
event_parts n moment held (Leaves tab) = record { event = refl; moment_is = refl; held_is = refl; entry_is = refl; no_end = refl }
event_parts n moment held (Copies from to) = record { event = refl; moment_is = refl; held_is = refl; entry_is = refl; no_end = refl }
event_parts n moment held (Closes tab) = record { event = refl; moment_is = refl; held_is = refl; entry_is = refl; no_end = refl }
event_parts n moment held Evicts = record { event = refl; moment_is = refl; held_is = refl; entry_is = refl; no_end = refl }

-- ---- items

abbrev restart_read : Data → AgentItem
restart_read d = Restarts (number_in (codes "moment") d) (number_in (codes "acknowledged") d) (number_in (codes "kept") d)

abbrev entry_read : Data → AgentEntry
entry_read d = record { event = record { moment = number_in (codes "moment") d; event = event_read d }; held = held_read (data_in (codes "held") d) }

abbrev item_read : Data → AgentItem
item_read d = cond (is_some (get (codes "end") d)) (restart_read d) (Happens (entry_read d))

item_is_read : (n : ℕ) (i : AgentItem) → item_read (item_data n i) ≡ i
item_is_read n (Happens entry) =
    let held = held_data entry.held in
    let p = event_parts n entry.event.moment held entry.event.event in
    let d = item_data n (Happens entry) in
    ap (λ b. cond b (restart_read d) (Happens (entry_read d))) p.no_end
    ∙ (λ i. Happens (record { event = record { moment = p.moment_is i; event = p.event i }; held = (ap held_read p.held_is ∙ held_is_read entry.held) i }))
item_is_read n (Restarts moment acknowledged kept) = refl

-- two items that have the same value are equal
pub item_data_same : (n : ℕ) (a b : AgentItem) → item_data n a ≡ item_data n b → a ≡ b
item_data_same n a b same = sym (item_is_read n a) ∙ ap item_read same ∙ item_is_read n b

-- an item is numbered
pub item_is_numbered : (n : ℕ) (i : AgentItem) → is_some (get (codes "entry") (item_data n i)) ≡ true
item_is_numbered n (Happens entry) = (event_parts n entry.event.moment (held_data entry.held) entry.event.event).entry_is
item_is_numbered n (Restarts moment acknowledged kept) = refl

-- the end is not
pub end_is_not : (e : AgentItem) → is_some (get (codes "entry") (end_data e)) ≡ false
end_is_not (Happens entry) = refl
end_is_not (Restarts moment acknowledged kept) = refl

-- two ends that have the same value are equal
pub end_data_same : (m a k n b l : ℕ) → end_data (Restarts m a k) ≡ end_data (Restarts n b l) → ◌≡◌ {A = AgentItem} (Restarts m a k) (Restarts n b l)
end_data_same m a k n b l same = ap restart_read same
