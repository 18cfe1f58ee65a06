-- What is kept of a request for storage access, and its row change.
-- Source: Storage Access API, "Permissions Integration": a permission belongs to a top-level site
-- and an embedded site.
use Rattle.std.specs.Prelude.{List, [], ◌∷◌, Option, Some, None}
use Rattle.origin_site.specs.Site.{PlainSite}
use Rattle.access_grants.specs.Grant.{PlainGrant, with_row}
use Rattle.access_grants.specs.declared.permission.Permission.{Permission}
use Rattle.row_changes.specs.Change.{PlainChange, Grant}

-- the row of a permission of a site under a top-level site
abbrev pub row_of : (top site : PlainSite) → Permission → PlainGrant
row_of top site permission =
    record {
      top = top;
      site = site;
      granted = permission.granted;
      until = permission.until;
    }

-- the rows after one is kept, where there is one
abbrev pub rows_kept : Option PlainGrant → List PlainGrant → List PlainGrant
rows_kept None rows = rows
rows_kept (Some row) rows = with_row row rows

-- the row change of one that is kept, where there is one
abbrev pub change_kept : Option PlainGrant → List PlainChange
change_kept None = []
change_kept (Some row) = Grant row ∷ []
