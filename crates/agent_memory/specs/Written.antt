-- What a line writes behind a body: its durable change, as bytes.
-- Source: none; the bytes are those of `row_changes`.
-- Our own choice: the row changes of a line are one durable change, and a line without row changes
-- writes nothing.
use Rattle.std.specs.Prelude.{◌≡◌, ℕ, ◌<◌, ◌^◌, ◌++◌, List, length}
use Rattle.std.specs.List.{All, flat_map}
use Rattle.unwinding.specs.Durable.{DurableChange}
use Rattle.origin_site.specs.Site.{PlainSite}
use Rattle.row_changes.specs.Appended.{HasTexts}
use Rattle.row_changes.specs.Body.{changes_bytes}
use Rattle.row_changes.specs.Change.{PlainChange}

-- a durable change of a line, with the site whose event made it
abbrev pub AgentChange : Type 0
AgentChange = DurableChange PlainSite PlainChange

-- the bytes of durable changes, one behind the other
abbrev pub body_of : List AgentChange → List ℕ
body_of made = flat_map (λ one. changes_bytes one.changes) made

-- each text of a durable change is one, and its row changes have a number in four bytes
abbrev pub HasRoom : AgentChange → Type 0
HasRoom one = All HasTexts one.changes × (length one.changes < 2 ^ 32)

-- durable changes stand behind what was there
pub record AreWritten (made : List AgentChange) (before after : List ℕ) : Type 0 where
  pub behind : after ≡ before ++ body_of made
  pub room : All HasRoom made
