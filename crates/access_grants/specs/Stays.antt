-- Which permissions a list of rules has.
-- Source: HTML, "Sites"; Storage Access API, "Permissions Integration".
-- Our own choice: a permission stays under another list where both of its sites are sites there.
use Rattle.std.specs.Prelude.{Bool, ◌&&◌, List}
use Rattle.suffix_list.specs.Suffix.{Rule}
use Rattle.origin_site.specs.Own.{is_own_host}
use Rattle.access_grants.specs.Grant.{PlainGrant}

-- a permission is one of two sites under a list of rules
abbrev pub grant_stays : List Rule → PlainGrant → Bool
grant_stays rules row = is_own_host rules row.top.host && is_own_host rules row.site.host
