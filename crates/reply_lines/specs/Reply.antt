-- The text of a reply: one line of JSON, as the crate `serde_json` writes it compactly.
-- Source: the reply format of docs/FORMATS.md. Our own choice: all of it.
use Rattle.std.specs.Prelude.{ℕ, ℤ, Bool, List, [], ◌∷◌, ◌++◌, map, codes, Option, Some, None, option_map}
use Rattle.serde_json.specs.Data.{Data, null, boolean, number, unsigned, string, array, object}
use Rattle.serde_json.specs.Data.{Members, no_members, member}
use Rattle.serde_json.specs.Find.{of_integer}
use Rattle.serde_json.specs.View.{items_of}
use Rattle.serde_json.specs.Written.{compact_text}
use Rattle.origin_site.specs.Site.{PlainSite, site_text}
use Rattle.storage_events.specs.Event.{PlainEvent}
use Rattle.reply_lines.specs.declared.reply.TheConstants.{QUOTA}
use Rattle.storage_events.specs.declared.event.AreaKind.{AreaKind}
use Rattle.storage_events.specs.declared.event.AreaKind.TheVariants.{Local, Session}

-- what a reply answers: `is` alone, or `ok` and what its action has besides
pub data PlainBody : Type 0 where
  Plain : («is» : List ℕ) → PlainBody
  Now : (now : ℤ) → PlainBody
  Kept : (kept : ℕ) → PlainBody
  Load : (cookie : Option (List ℕ)) («set» : List (List ℕ)) → PlainBody
  Text : (value : Option (List ℕ)) → PlainBody
  Number : (value : ℕ) → PlainBody
  Truth : (value : Bool) → PlainBody
  Events : (events : List PlainEvent) (lost : ℕ) → PlainBody
  Cookie : (cookie : List ℕ) → PlainBody
  SetOne : («set» : List ℕ) → PlainBody
  Estimate : (usage : ℕ) → PlainBody
  Cleared : (cleared : ℕ) → PlainBody

-- a reply: the name of the action, the site that it belongs to, and what it answers
pub record PlainReply : Type 0 where
  pub name : List ℕ
  pub site : Option PlainSite
  pub body : PlainBody

-- the quota that an estimate tells, in bytes
abbrev pub told_quota : ℕ
told_quota = QUOTA

-- ---- values

-- a text, or null
abbrev pub text_or_null : Option (List ℕ) → Data
text_or_null (Some text) = string text
text_or_null None = null

-- the text of a site, or null
abbrev pub site_data : Option PlainSite → Data
site_data site = text_or_null (option_map site_text site)

-- a list of texts
abbrev pub texts_data : List (List ℕ) → Data
texts_data texts = array (items_of (map string texts))

-- the name of an area
abbrev pub area_text : AreaKind → List ℕ
area_text Local = codes "local"
area_text Session = codes "session"

-- a storage event
abbrev pub event_data : PlainEvent → Data
event_data event = object (
    member (codes "area") (string (area_text event.area)) (
    member (codes "key") (text_or_null event.key) (
    member (codes "new") (text_or_null event.after) (
    member (codes "old") (text_or_null event.before) (
    member (codes "url") (string event.url) no_members)))))

-- a list of storage events
abbrev pub events_data : List PlainEvent → Data
events_data events = array (items_of (map event_data events))

-- ---- members, in byte order of their names

-- `is` alone
abbrev pub plain_members : List ℕ → List ℕ → Data → Members
plain_members name «is» site =
    member (codes "do") (string name) (member (codes "is") (string «is»)
    (member (codes "site") site no_members))

-- `do`, `is`, and one member that stands between `is` and `site`
abbrev pub one_between : List ℕ → Data → List ℕ → Data → Members
one_between name site between value =
    member (codes "do") (string name) (member (codes "is") (string (codes "ok"))
    (member between value (member (codes "site") site no_members)))

-- `do`, `is`, `site`, and one member behind them
abbrev pub one_behind : List ℕ → Data → List ℕ → Data → Members
one_behind name site behind value =
    member (codes "do") (string name) (member (codes "is") (string (codes "ok"))
    (member (codes "site") site (member behind value no_members)))

-- one member before `do`, `is` and `site`
abbrev pub one_before : List ℕ → Data → List ℕ → Data → Members
one_before name site before value = member before value (plain_members name (codes "ok") site)

-- the members of a reply
abbrev pub reply_members : List ℕ → Data → PlainBody → Members
reply_members name site (Plain «is») = plain_members name «is» site
reply_members name site (Now now) = one_between name site (codes "now") (number (of_integer now))
reply_members name site (Kept kept) = one_between name site (codes "kept") (number (unsigned kept))
reply_members name site (Load cookie «set») =
    member (codes "cookie") (text_or_null cookie)
    (one_between name site (codes "set") (texts_data «set»))
reply_members name site (Text value) = one_behind name site (codes "value") (text_or_null value)
reply_members name site (Number value) =
    one_behind name site (codes "value") (number (unsigned value))
reply_members name site (Truth value) = one_behind name site (codes "value") (boolean value)
reply_members name site (Events events lost) =
    member (codes "do") (string name) (member (codes "events") (events_data events)
    (member (codes "is") (string (codes "ok")) (member (codes "lost") (number (unsigned lost))
    (member (codes "site") site no_members))))
reply_members name site (Cookie cookie) = one_before name site (codes "cookie") (string cookie)
reply_members name site (SetOne «set») =
    one_between name site (codes "set") (texts_data («set» ∷ []))
reply_members name site (Estimate usage) =
    member (codes "do") (string name) (member (codes "is") (string (codes "ok"))
    (member (codes "quota") (number (unsigned told_quota)) (member (codes "site") site
    (member (codes "usage") (number (unsigned usage)) no_members))))
reply_members name site (Cleared cleared) =
    one_before name site (codes "cleared") (number (unsigned cleared))

-- a reply as JSON
abbrev pub reply_data : PlainReply → Data
reply_data reply = object (reply_members reply.name (site_data reply.site) reply.body)

-- a reply's line, with its line feed
abbrev pub reply_text : PlainReply → List ℕ
reply_text reply = compact_text (reply_data reply) ++ 10 ∷ []
