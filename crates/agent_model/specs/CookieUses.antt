-- Which use of cookies each load, request and script is.
-- Source: RFC 6265bis, "Same-site and cross-site requests" (document-based requests, top-level
-- navigations) and "Non-HTTP APIs"; HTTP Semantics (RFC 9110), "Safe Methods"; Storage Access API,
-- "Cookies" and "Changes to navigation".
-- Our own choice: a request of a document is same-site where it is first party, and the load of a
-- frame where its starter is so to the address. A script is same-site where its document is first
-- party. Access is granted to requests for the document's own origin alone.
use Rattle.std.specs.Prelude.{ℕ, ◌-◌, Bool, true, false, not, ◌&&◌, List, length, take}
use Rattle.std.specs.Prelude.{Option, Some, None, if◌then◌else◌}
use Rattle.suffix_list.specs.Suffix.{Rule}
use Rattle.origin_site.specs.Address.{PlainAddress}
use Rattle.origin_site.specs.Origin.{origin_of_address}
use Rattle.origin_site.specs.Site.{PlainSite, site_of_address}
use Rattle.storage_key.specs.Context.{context_of, is_first_party}
use Rattle.frame_tree.specs.Document.{PlainDocument, same_document_origin}
use Rattle.frame_tree.specs.Keys.{sites}
use Rattle.frame_tree.specs.Tree.{PlainFrame, chain_of, document_of}
use Rattle.script_actions.specs.declared.words.Method.{Method}
use Rattle.script_actions.specs.declared.words.Method.TheVariants as method
use Rattle.agent_model.specs.CookieUse.{CookieUse}
use Rattle.agent_model.specs.Documents.{Keyed}

-- ---- granted access

-- access is granted to a request of a document for a URL: the document has storage access, and the
-- URL has its origin
abbrev pub is_granted_to : PlainAddress → Option PlainDocument → Bool
is_granted_to url None = false
is_granted_to url (Some document) =
    document.flag && same_document_origin document.origin (Some (origin_of_address url))

-- the same, of a request of a frame's document
abbrev pub is_granted_at : ℕ → List PlainFrame → PlainAddress → Bool
is_granted_at frame frames url = is_granted_to url (document_of frame frames)

-- the same, of the load of a frame that goes to another address, which is a request of its document
-- where that starts it. Then the new document has storage access too.
abbrev pub is_granted_nav : (by_self : Bool) → ℕ → List PlainFrame → PlainAddress → Bool
is_granted_nav by_self frame frames url = by_self && is_granted_at frame frames url

-- ---- each use

-- a method is safe
abbrev pub is_safe : Method → Bool
is_safe method.Get = true
is_safe method.Head = true
is_safe method.Options = true
is_safe method.Post = false
is_safe method.Put = false
is_safe method.Delete = false
is_safe method.Patch = false

-- a load of the top document at a site, which is first party
abbrev pub top_use : PlainSite → PlainAddress → Method → (same_site : Bool) → CookieUse
top_use site url method same_site =
    record {
      url = url;
      top = site;
      context = record { first = true; bit = false };
      same_site = same_site;
      top_load = true;
      safe = is_safe method;
      script = false;
      granted = false;
    }

-- a request for a URL below a chain of documents, at a top-level site, that a document with that
-- other chain starts
abbrev pub request_use : List Rule → PlainSite → (chain starter : List PlainFrame) → PlainAddress
    → Method → (granted : Bool) → CookieUse
request_use rules site chain starter url method granted =
    record {
      url = url;
      top = site;
      context = context_of (sites chain) (site_of_address rules url);
      same_site = is_first_party (sites starter) (site_of_address rules url);
      top_load = false;
      safe = is_safe method;
      script = false;
      granted = granted;
    }

-- a request of a frame's document
abbrev pub fetch_use : List Rule → PlainSite → ℕ → List PlainFrame → PlainAddress → Method
    → CookieUse
fetch_use rules site frame frames url method =
    let chain = chain_of frame frames in
    request_use rules site chain chain url method (is_granted_at frame frames url)

-- The load of a frame that is added below a parent, which starts it. No access is granted to it.
abbrev pub frame_use : List Rule → PlainSite → (parent : ℕ) → List PlainFrame → PlainAddress
    → CookieUse
frame_use rules site parent frames url =
    let chain = chain_of parent frames in
    request_use rules site chain chain url method.Get false

-- the chain of a frame's parent
abbrev pub chain_above : ℕ → List PlainFrame → List PlainFrame
chain_above frame frames =
    let chain = chain_of frame frames in
    take (length chain - 1) chain

-- the document that starts the load of a frame: the frame's own, or its parent's
abbrev pub starter_of : Bool → ℕ → List PlainFrame → List PlainFrame
starter_of by_self frame frames =
    if by_self then chain_of frame frames else chain_above frame frames

-- the load of a frame that goes to another address
abbrev pub nav_use : List Rule → PlainSite → ℕ → List PlainFrame → PlainAddress → Bool → Method
    → CookieUse
nav_use rules site frame frames url by_self method =
    request_use rules site (chain_above frame frames) (starter_of by_self frame frames) url method
    (is_granted_nav by_self frame frames url)

-- a script of a document with a storage key, whose ancestor bit is that of its own context; access
-- is granted where the document has it
abbrev pub script_use : PlainSite → Keyed → CookieUse
script_use site own =
    record {
      url = own.document.address;
      top = site;
      context = record { first = not own.key.bit; bit = own.key.bit };
      same_site = not own.key.bit;
      top_load = false;
      safe = true;
      script = true;
      granted = own.document.flag;
    }
