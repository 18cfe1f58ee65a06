-- The context of a document or a load: whether it is first party, and its ancestor bit.
-- Source: CHIPS (Cookies Having Independent Partitioned State), "Partitioning model", the ancestor
-- chain bit; HTML, "Storage keys" and "Ancestor navigables", for the documents of a chain.
-- Our own choice: a document of an opaque origin has no site, and with it nothing is first party;
-- a chain without a top, or under an opaque one, is not first party.
use Rattle.std.specs.Prelude.{Bool, false, not, ◌&&◌, List, [], ◌∷◌, Option, Some, None}
use Rattle.std.specs.List.{list_all}
use Rattle.origin_site.specs.Site.{PlainSite, same_plain_site}

-- a context, as contracts see it
pub record PlainContext : Type 0 where
  pub first : Bool
  pub bit : Bool

-- the site of the top document: the first of the chain
abbrev pub top_of : List (Option PlainSite) → Option PlainSite
top_of [] = None
top_of (site ∷ below) = site

-- a document has a site, and it is this one
abbrev pub is_of : PlainSite → Option PlainSite → Bool
is_of top None = false
is_of top (Some site) = same_plain_site top site

-- every document of a chain has a site, and it is this one
abbrev pub has_only : PlainSite → List (Option PlainSite) → Bool
has_only top chain = list_all (is_of top) chain

-- under this top, every document of the chain and the URL have the top's site
abbrev pub is_first_by : Option PlainSite → List (Option PlainSite) → PlainSite → Bool
is_first_by None chain url = false
is_first_by (Some top) chain url = has_only top chain && same_plain_site top url

-- first party: every document of the chain has a site, all these sites are the top's, and the
-- URL's site is the top's
abbrev pub is_first_party : List (Option PlainSite) → PlainSite → Bool
is_first_party chain url = is_first_by (top_of chain) chain url

-- the context of a chain and the site of a URL: the ancestor bit is set where it is not first party
abbrev pub context_of : List (Option PlainSite) → PlainSite → PlainContext
context_of chain url =
    record { first = is_first_party chain url; bit = not (is_first_party chain url) }
