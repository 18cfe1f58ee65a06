-- Addresses that were read from a text: what a row change that comes from them can rest on.
-- Source: URL Standard, "URL parsing" and "URL serializing"; HTML, "Serialization of an origin".
-- Our own choice: these are the facts that every value of the program's type `Address` has.
use Rattle.std.specs.Prelude.{IfSome}
use Rattle.origin_site.specs.Address.{PlainAddress}
use Rattle.origin_site.specs.Origin.{ReadsBack, SuffixesReadBack, origin_of_address}
use Rattle.script_actions.specs.Action.{PlainAction, Tick, Open, Close, Go, Evict, Act}
use Rattle.script_actions.specs.ActionFacts.{facts_of}

-- the text of its origin reads back, and that of each label suffix of its host does with its
-- scheme
pub record IsReadAddress (address : PlainAddress) : Type 0 where
  pub origin : ReadsBack (origin_of_address address)
  pub suffixes : SuffixesReadBack address.https address.ip address.host

-- the address that a line names is read, where it names one
abbrev pub IsReadAction : PlainAction → Type 0
IsReadAction (Tick s) = Unit {0}
IsReadAction (Open tab url opener noopener method head) = IsReadAddress url
IsReadAction (Close tab) = Unit {0}
IsReadAction (Go tab url by_page method head) = IsReadAddress url
IsReadAction (Evict site) = Unit {0}
IsReadAction (Act at action) = IfSome (facts_of action).address IsReadAddress
