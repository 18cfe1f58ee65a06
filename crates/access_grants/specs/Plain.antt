-- What contracts see of a row.
use Rattle.origin_site.specs.Plain.{plain_site}
use Rattle.access_grants.specs.Grant.{PlainGrant}
use Rattle.access_grants.specs.declared.permission.GrantRow.{GrantRow}

-- a row, with its sites as contracts see them
abbrev pub plain_grant : GrantRow → PlainGrant
plain_grant row = record {
  top = plain_site row.top;
  site = plain_site row.site;
  granted = row.granted;
  until = row.until;
}
