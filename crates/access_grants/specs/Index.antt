-- How the row of a pair is found: each pair has a number, and an index has the first row of each.
-- Source: none. No public clause rests on it.
use Rattle.std.specs.Prelude.{◌≡◌, ◌≤◌, ℕ, List, ◌++◌, map, fold, nat_eq, position}
use Rattle.std.specs.Hash as fed
use Rattle.std.specs.Hash.DefaultHasher as sip
use Rattle.std.specs.HashMap.{HashMap, get, spare}
use Rattle.origin_site.specs.Site.{PlainSite}
use Rattle.access_grants.specs.Grant.{PlainGrant, HasDistinctPairs}

-- what a site feeds a hasher
abbrev pub site_writes : PlainSite → List (List ℕ)
site_writes site = fed.bool site.https ++ fed.str site.host

-- the number of a pair
unfoldable pub pair_code : PlainSite → PlainSite → ℕ
pair_code top site =
    sip.finish (fold sip.write (fold sip.write sip.initial (site_writes top)) (site_writes site))

-- the numbers of the rows' pairs
abbrev pub codes_of : List PlainGrant → List ℕ
codes_of rows = map (λ row. pair_code row.top row.site) rows

-- rows of distinct pairs, the index that has the first row of each number and no other, and the
-- room that both have
pub record IsIndexed {S : Type 0} (rows : List PlainGrant) (free : ℕ)
    (index : HashMap ℕ ℕ S) (room : ℕ) : Type 0 where
  pub distinct : HasDistinctPairs rows
  pub first : (code : ℕ) → get nat_eq index code ≡ position (nat_eq code) (codes_of rows)
  pub rows_room : room ≤ free
  pub index_room : room ≤ spare index
