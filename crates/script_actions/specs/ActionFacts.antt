-- What is said of each action of a document, whatever it finds there: one row an action.
-- Source: the script format of docs/FORMATS.md for the names; Storage Standard, "Storage keys", for
-- what needs one; RFC 6265bis, "Storage Model", and HTML, `document.cookie`, for where cookies come
-- from.
-- Our own choice: `has` and `events` take what an opaque document has too, so that they are not
-- done with a storage key.
use Rattle.std.specs.Prelude.{ℕ, Bool, true, false, List, Option, Some, None, codes}
use Rattle.origin_site.specs.Address.{PlainAddress}
use Rattle.script_actions.specs.Action.{DocumentAction, Frame, Nav, Drop, Click, Fetch, Set, Get, Del}
use Rattle.script_actions.specs.Action.{Clear, Len, Key, Events, Cookie, SetCookie, Has, Request}
use Rattle.script_actions.specs.Action.{Persisted, Estimate, Persist, HeadField}

-- where the cookies come from that an action stores: from nowhere, from the head of its response,
-- or from a script
pub data CookieSource : Type 0 where
  NoCookie : CookieSource
  FromHead : (head : List HeadField) → CookieSource
  FromScript : CookieSource

-- its name in lines and replies; whether it is done with the storage key of its document, and is
-- refused where that has none; whether it only reads what that key has; whether it requests storage
-- access; where the cookies come from that it stores; and the address that it names
pub record ActionFacts : Type 0 where
  pub name : List ℕ
  pub keyed : Bool
  pub reads : Bool
  pub requests : Bool
  pub stores : CookieSource
  pub address : Option PlainAddress

-- an action that is done without a storage key, names no address and stores no cookie
abbrev pub document_row : List ℕ → ActionFacts
document_row name =
    record {
      name = name;
      keyed = false;
      reads = false;
      requests = false;
      stores = NoCookie;
      address = None;
    }

-- one that loads an address, or requests it, and whose response has this head
abbrev pub load_row : List ℕ → PlainAddress → List HeadField → ActionFacts
load_row name url head =
    record (document_row name) { stores = FromHead head; address = Some url }

-- one that only reads what the key of its document has
abbrev pub reading_row : List ℕ → ActionFacts
reading_row name = record (document_row name) { keyed = true; reads = true }

-- one that changes what the key of its document has
abbrev pub change_row : List ℕ → ActionFacts
change_row name = record (document_row name) { keyed = true }

-- what is said of each
abbrev pub facts_of : DocumentAction → ActionFacts
facts_of (Frame parent url sandbox deny head) = load_row (codes "frame") url head
facts_of (Nav url by_self method head) = load_row (codes "nav") url head
facts_of Drop = document_row (codes "drop")
facts_of Click = document_row (codes "click")
facts_of (Fetch url method head) = load_row (codes "fetch") url head
facts_of (Set area key value) = change_row (codes "set")
facts_of (Get area key) = reading_row (codes "get")
facts_of (Del area key) = change_row (codes "del")
facts_of (Clear area) = change_row (codes "clear")
facts_of (Len area) = reading_row (codes "len")
facts_of (Key area n) = reading_row (codes "key")
facts_of Events = document_row (codes "events")
facts_of Cookie = reading_row (codes "cookie")
facts_of (SetCookie text) = record (change_row (codes "setcookie")) { stores = FromScript }
facts_of Has = document_row (codes "has")
facts_of (Request answer) = record (document_row (codes "request")) { requests = true }
facts_of Persisted = reading_row (codes "persisted")
facts_of Estimate = reading_row (codes "estimate")
facts_of (Persist answer) = change_row (codes "persist")
