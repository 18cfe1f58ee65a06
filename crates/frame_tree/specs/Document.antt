-- A document of a frame, as contracts see it.
-- Source: HTML, "Sandboxing" (a document in the sandboxed origin browsing context has an opaque
-- origin; a document has the flags of its container's document), "Tracking user activation", and
-- Permissions Policy, "Inherited policy"; Storage Access API, the flag of a document.
-- Our own choice: an activation lasts five seconds, where HTML leaves the time to the browser.
use Rattle.std.specs.Prelude.{Bool, false, ◌&&◌, ◌||◌, ℤ, pos, ◌+ℤ◌, int_lt, List, Option, Some}
use Rattle.std.specs.Prelude.{None, option_map, if◌then◌else◌}
use Rattle.suffix_list.specs.Suffix.{Rule}
use Rattle.origin_site.specs.Address.{PlainAddress}
use Rattle.origin_site.specs.Origin.{PlainOrigin, origin_of_address, same_plain_origin}
use Rattle.origin_site.specs.Site.{PlainSite, site_of_origin}
use Rattle.frame_tree.specs.Sandbox.{PlainSandbox, both}

-- a document: origin and site are None where opaque; sandbox and deny are the effective ones
pub record PlainDocument : Type 0 where
  pub address : PlainAddress
  pub origin : Option PlainOrigin
  pub site : Option PlainSite
  pub sandbox : PlainSandbox
  pub deny : Bool
  pub flag : Bool
  pub mark : Option ℤ

-- the origin of an address under a sandbox, which is opaque where the sandbox does not allow it
abbrev pub origin_under : PlainSandbox → PlainAddress → Option PlainOrigin
origin_under sandbox address =
    if sandbox.same_origin then Some (origin_of_address address) else None

-- a document that was just loaded: it has no storage access and was not activated
abbrev pub loaded : List Rule → PlainSandbox → Bool → PlainAddress → PlainDocument
loaded rules sandbox deny address = record {
  address = address;
  origin = origin_under sandbox address;
  site = option_map (site_of_origin rules) (origin_under sandbox address);
  sandbox = sandbox;
  deny = deny;
  flag = false;
  mark = None;
}

-- the document of a frame with its own sandbox and policy, below another document: it has each
-- restriction of both
abbrev pub loaded_below : List Rule → PlainDocument → PlainSandbox → Bool → PlainAddress
    → PlainDocument
loaded_below rules above sandbox deny address =
    loaded rules (both above.sandbox sandbox) (above.deny || deny) address

-- the document that a navigation puts in the place of another. The frame keeps its sandbox and
-- policy, and its parent's document is the same, so the effective ones stay. The storage access
-- goes, unless it is kept.
abbrev pub loaded_instead : List Rule → Bool → PlainDocument → PlainAddress → PlainDocument
loaded_instead rules keep_flag before address =
    let fresh = loaded rules before.sandbox before.deny address in
    record fresh { flag = keep_flag && before.flag }

-- two documents have the same origin: an opaque one is the same as no other
abbrev pub same_document_origin : Option PlainOrigin → Option PlainOrigin → Bool
same_document_origin None b = false
same_document_origin (Some a) None = false
same_document_origin (Some a) (Some b) = same_plain_origin a b

-- the seconds for which an activation lasts
abbrev pub activation_seconds : ℤ
activation_seconds = pos 5

-- an activation at this moment lasts still
abbrev pub is_active_by : ℤ → Option ℤ → Bool
is_active_by now None = false
is_active_by now (Some mark) = int_lt now (mark +ℤ activation_seconds)
