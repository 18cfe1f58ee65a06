-- The permissions under one top-level site, of those of all sites.
-- Source: Storage Access API, "Permissions Integration": a permission belongs to a top-level site.
use Rattle.std.specs.Prelude.{◌≡◌, List, filter, if◌then◌else◌}
use Rattle.origin_site.specs.Site.{PlainSite, same_plain_site}
use Rattle.access_grants.specs.Grant.{PlainGrant, with_row}

-- the rows under a top-level site, in their order
abbrev pub grants_under : PlainSite → List PlainGrant → List PlainGrant
grants_under top rows = filter (λ row. same_plain_site top row.top) rows

-- what keeping a row makes of them: nothing where the row is under another top-level site
abbrev pub with_row_under : PlainSite → PlainGrant → List PlainGrant → List PlainGrant
with_row_under top row rows = if same_plain_site top row.top then with_row row rows else rows

-- keeping a row leads from old rows to new ones, seen under each top-level site
abbrev pub KeepsUnder : PlainGrant → (old new : List PlainGrant) → Type 0
KeepsUnder row old new =
    (top : PlainSite) → grants_under top new ≡ with_row_under top row (grants_under top old)
