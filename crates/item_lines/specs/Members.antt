-- What a private function writes: values and members, and that their numbers have 64 bits.
-- Source: none.
use Rattle.std.specs.Prelude.{◌≡◌, ℕ, Bool, List, ◌∷◌, ◌++◌, OnOk, Result, Option, None, codes}
use Rattle.json.specs.Token.{Token, key}
use Rattle.json.specs.Written.{Written}
use Rattle.serde_json.specs.Data.{Data, null, boolean, string, Members, no_members, member}
use Rattle.row_lines.specs.Row.{moment_data, same_site_text}
use Rattle.row_lines.specs.Tokens.{last_tokens, tokens_of}
use Rattle.agent_base.specs.declared.refusals.Label.{Label}
use Rattle.origin_site.specs.Address.{PlainAddress}
use Rattle.script_actions.specs.declared.words.Method.{Method}
use Rattle.script_actions.specs.Action.{PlainAction, Tick, Open, Close, Go, Evict, Act}
use Rattle.script_actions.specs.ActionFacts.{facts_of}
use Rattle.stored_cookie.specs.StoredCookie.{PlainCookie}
use Rattle.item_lines.specs.Line.{line_data, sandboxed, whole_data}
use Rattle.item_lines.specs.Words.{method_text}
use Rattle.item_lines.specs.Numbers.{HasShortNumbers, MembersHaveShortNumbers}

-- the tokens are written behind those that were, and what stood before them stays; where they are
-- written whole this holds
pub record PutsWith {T E : Type 0} (result : Result T E) (old new : Written) (more : List Token)
    (Holds : Type 0) : Type 0 where
  pub tokens : OnOk result (new.tokens ≡ old.tokens ++ more)
  pub before : new.before ≡ old.before
  pub holds : OnOk result Holds

-- a value is written, whose numbers have 64 bits
abbrev pub PutsValue : {T E : Type 0} → Result T E → (old new : Written) → Data → Type 0
PutsValue result old new value = PutsWith result old new (tokens_of value) (HasShortNumbers value)

-- a member is written
abbrev pub PutsMember : {T E : Type 0} → Result T E → (old new : Written) → (name : List ℕ) → Data
    → Type 0
PutsMember result old new name value =
    PutsWith result old new (key name ∷ tokens_of value) (HasShortNumbers value)

-- the last members of an object are written, and its end
abbrev pub PutsLast : {T E : Type 0} → Result T E → (old new : Written) → Members → Type 0
PutsLast result old new members =
    PutsWith result old new (last_tokens members) (MembersHaveShortNumbers members)

-- the line of an action of a document. No other line stands in an event.
abbrev pub line_in : PlainAction → Data
line_in (Tick s) = null
line_in (Open tab url opener noopener method head) = null
line_in (Close tab) = null
line_in (Go tab url by_page method head) = null
line_in (Evict site) = null
line_in (Act at action) = line_data at action

-- the address that an action of a document names, if it names one
abbrev pub address_in : PlainAction → Option PlainAddress
address_in (Tick s) = None
address_in (Open tab url opener noopener method head) = None
address_in (Close tab) = None
address_in (Go tab url by_page method head) = None
address_in (Evict site) = None
address_in (Act at action) = (facts_of action).address

-- the members of a cookie from its last use on
abbrev pub later_members : PlainCookie → Members
later_members cookie =
    member (codes "last") (moment_data cookie.last) (
    member (codes "name") (string cookie.name) (
    member (codes "path") (string cookie.path) (
    member (codes "same_site") (string (same_site_text cookie.same_site)) (
    member (codes "secure") (boolean cookie.secure) (
    member (codes "value") (string cookie.value) no_members)))))

-- the members of a frame's line from its `sandbox` attribute on
abbrev pub framed : Label → PlainAddress → (sandbox : Option (List ℕ)) → Members
framed at url sandbox =
    sandboxed sandbox (member (codes "tab") (whole_data at.tab)
    (member (codes "url") (string url.text) no_members))

-- the members of the entry of an action behind its address
abbrev pub act_members : (entry moment : ℕ) → (held line : Data) → Members
act_members entry moment held line =
    member (codes "entry") (whole_data entry) (member (codes "event") (string (codes "acts"))
    (member (codes "held") held (member (codes "line") line
    (member (codes "moment") (whole_data moment) no_members))))

-- the members of the entry of an arrival from its method on
abbrev pub arrival_members : (moment : ℕ) → Method → (same_site : Bool) → (tab : ℕ)
    → PlainAddress → Members
arrival_members moment method same_site tab url =
    member (codes "method") (string (method_text method))
    (member (codes "moment") (whole_data moment) (member (codes "same_site") (boolean same_site)
    (member (codes "tab") (whole_data tab) (member (codes "url") (string url.text) no_members))))
