-- The numbers of the open tabs at each top-level site.
use Rattle.std.specs.Prelude.{◌≡◌, ℕ, Bool, true, false, not, ◌==◌, ◌&&◌, nat_lt, List, [], ◌∷◌, ◌++◌, length, map, filter, Option, Some, None, vec_capacity, if◌then◌else◌}
use Rattle.std.specs.BTreeMap.{BTreeMap, get_by}
use Rattle.std.specs.List.{AllByRecursion, list_all}
use Rattle.std.specs.Global.{Vec}
use Rattle.origin_site.specs.Plain.{plain_site}
use Rattle.origin_site.specs.Site.{PlainSite, same_plain_site}
use Rattle.origin_site.specs.declared.site.Site.{Site}
use Rattle.storage_key.specs.Key.{site_order}
use Rattle.storage_key.specs.Context.{is_of}
use Rattle.frame_tree.specs.Tree.{IsTree, top_site}
use Rattle.live_state.specs.Tabs.{PlainTab, is_rising}

-- the numbers that a map has for a site
abbrev pub found_at : PlainSite → BTreeMap Site (Vec ℕ) → Option (Vec ℕ)
found_at site numbers = get_by (λ key. site_order site (plain_site key)) numbers

-- the numbers of a list that may be absent
abbrev pub numbers_of : Option (Vec ℕ) → List ℕ
numbers_of None = []
numbers_of (Some numbers) = numbers.items

-- the numbers for a site, and none where it has no entry
abbrev pub listed_at : PlainSite → BTreeMap Site (Vec ℕ) → List ℕ
listed_at site numbers = numbers_of (found_at site numbers)

-- a list is there and has room for one number more
abbrev pub takes_one : Option (Vec ℕ) → Bool
takes_one None = false
takes_one (Some numbers) = nat_lt (length numbers.items) (vec_capacity numbers)

-- there is room for one tab more at a site
abbrev pub has_room : PlainSite → BTreeMap Site (Vec ℕ) → Bool
has_room site numbers = takes_one (found_at site numbers)

-- numbers rise
abbrev pub are_rising : List ℕ → Bool
are_rising [] = true
are_rising (n ∷ later) = list_all (λ m. nat_lt n m) later && are_rising later

-- the lower numbers, this one, and the higher ones
abbrev pub with_number : ℕ → List ℕ → List ℕ
with_number n numbers = filter (λ m. nat_lt m n) numbers ++ n ∷ filter (λ m. nat_lt n m) numbers

-- the other numbers
abbrev pub without_number : ℕ → List ℕ → List ℕ
without_number n numbers = filter (λ m. not (m == n)) numbers

-- the numbers at this site after a tab went from one site to another
abbrev pub moved : ℕ → (from to site : PlainSite) → List ℕ → List ℕ
moved n from to site numbers =
    if same_plain_site from to then numbers
    else (if same_plain_site to site then with_number n numbers
    else (if same_plain_site from site then without_number n numbers else numbers))

-- a tab's top document is at this site
abbrev pub is_at : PlainSite → PlainTab → Bool
is_at site tab = is_of site (top_site tab.frames)

-- the numbers of the tabs at a site
abbrev pub numbers_at : PlainSite → List PlainTab → List ℕ
numbers_at site tabs = map (λ tab. tab.number) (filter (is_at site) tabs)

-- the sites of a map, each with whether one tab more at it takes no memory
abbrev pub site_rooms : List (Site × Vec ℕ) → List (PlainSite × Bool)
site_rooms entries = map (λ entry. (plain_site entry.0, takes_one (Some entry.1))) entries

-- the frames of each tab are those of a tab
abbrev pub AreTrees : List PlainTab → Type 0
AreTrees tabs = AllByRecursion (λ tab. IsTree tab.frames) tabs

-- a map has the numbers of the open tabs at each site
abbrev pub IsIndex : List PlainTab → BTreeMap Site (Vec ℕ) → Type 0
IsIndex tabs numbers =
    (site : Site) → listed_at (plain_site site) numbers ≡ numbers_at (plain_site site) tabs

-- the open tabs, and the map of their numbers
pub record AreIndexed (tabs : List PlainTab) (numbers : BTreeMap Site (Vec ℕ)) : Type 0 where
  pub rising : is_rising tabs ≡ true
  pub trees : AreTrees tabs
  pub index : IsIndex tabs numbers
