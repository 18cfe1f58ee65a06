-- Which storage keys a list of rules has.
-- Source: HTML, "Sites"; Storage Standard, "Storage keys".
-- Our own choice: a key stays under another list where its top-level site is a site there, and
-- where a key with the bit clear still has its origin's site as its top-level site. With the bit
-- set the origin may be of any site. A host that has become a public suffix is its own domain, and
-- so a site.
use Rattle.std.specs.Prelude.{Bool, ◌&&◌, ◌||◌, List}
use Rattle.suffix_list.specs.Suffix.{Rule}
use Rattle.origin_site.specs.Own.{is_own_host}
use Rattle.origin_site.specs.Site.{same_plain_site, site_of_origin}
use Rattle.storage_key.specs.Key.{PlainKey}

-- with the bit clear, the origin's site is the top-level site
abbrev pub keeps_bit : List Rule → PlainKey → Bool
keeps_bit rules key = key.bit || same_plain_site (site_of_origin rules key.origin) key.top

-- a storage key is one under a list of rules
abbrev pub key_stays : List Rule → PlainKey → Bool
key_stays rules key = is_own_host rules key.top.host && keeps_bit rules key
