-- The parts of an event.
use Rattle.std.specs.Prelude.{ℕ, List, codes, Option}
use Rattle.serde_json.specs.Data.{Data, string, object, no_members, member}
use Rattle.reply_lines.specs.Reply.{text_or_null}

-- a storage event of these parts
abbrev pub event_parts : (area : List ℕ) (key after before : Option (List ℕ)) (url : List ℕ) → Data
event_parts area key after before url = object (
    member (codes "area") (string area) (
    member (codes "key") (text_or_null key) (
    member (codes "new") (text_or_null after) (
    member (codes "old") (text_or_null before) (
    member (codes "url") (string url) no_members)))))
