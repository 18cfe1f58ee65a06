-- What a suffix list says of a durable state, worked out by hand: which hosts are IP addresses and
-- which are their own domain, which storage keys, cells of cookies and permissions stay, and what is
-- left of a state.
-- Source: URL Standard, "Host serializing" and the "ends-in-a-number checker"; Public Suffix List,
-- "Formal Algorithm"; HTML, "Sites"; Storage Standard, "Storage keys"; RFC 6265bis, "Storage Model";
-- CHIPS, "Partitioning model"; Storage Access API, "Permissions Integration".
-- Our own choice: what is none under a list goes, whole, and what stays is as it was and in its order.
-- A host that has become a public suffix is its own domain.
use Rattle.std.proofs.Common.{◌≡◌, ℕ, Bool, true, false, pos, List, [], ◌∷◌, Some, refl, ap, sym, ◌∙◌}
use Rattle.std.proofs.lemmas.List.{nil_from_length}
use Rattle.std.specs.Prelude.{codes}
use Rattle.std.specs.Cmp.{IsTotalOrder}
use Rattle.std.specs.FinMap as finite
use Rattle.std.specs.FinMap.{entries-insert, len-empty, len-entries, put}
use Rattle.std.specs.declared.cmp.Ordering.{Ordering}
use Rattle.unwinding.specs.FiniteCells.{Full, get_cell, set_cell}
use Rattle.unwinding.proofs.FiniteCellsLemmas as cells
use Rattle.suffix_list.specs.Suffix.{Rule}
use Rattle.origin_site.specs.Origin.{PlainOrigin}
use Rattle.origin_site.specs.Own.{domain_under, is_decimal, is_decimal_digit, is_ip_host, is_own_host}
use Rattle.origin_site.specs.Site.{PlainSite}
use Rattle.storage_key.specs.Key.{PlainKey, key_order}
use Rattle.storage_key.specs.Stays.{keeps_bit, key_stays}
use Rattle.storage_key.proofs.OrderLemmas.{key_order_same, key_order_total}
use Rattle.local_area.specs.Area.{Pair}
use Rattle.stored_cookie.specs.StoredCookie.{PlainCookie}
use Rattle.cookie_jar.specs.Key.{OwnCell, PartitionCell}
use Rattle.cookie_jar.specs.Stays.{cell_stays, cookie_stays, name_stays}
use Rattle.access_grants.specs.Grant.{PlainGrant}
use Rattle.access_grants.specs.Stays.{grant_stays}
use Rattle.agent_model.specs.CookieCells.{CookieCells, Cookies, domain_order}
use Rattle.agent_model.specs.Partition.{Areas, Keys}
use Rattle.agent_model.specs.PartitionedCells.{PartitionedCells, PartitionedKey, partitioned_order}
use Rattle.agent_model.proofs.CookieCellsLemmas.{domain_order_same, domain_order_total}
use Rattle.agent_model.proofs.CookieRunFacts.{cookie}
use Rattle.agent_model.proofs.KeptLemmas as kept
use Rattle.agent_model.proofs.PartitionedLemmas.{partitioned_order_same, partitioned_order_total}
use Rattle.agent_model.proofs.StandardFacts.{a, site, widget}
use Rattle.agent_model.proofs.StorageFacts.{k, key_a, pairs}
use Rattle.durable_model.specs.Migrate.{migrate, own_stays, partition_stays, stays_whole}
use Rattle.durable_model.specs.Saved.{Saved, SiteRows}

-- ---- hosts that are IP addresses

-- the digits are those from `0` to `9`, and not the bytes beside them
digits : (is_decimal_digit 48 ≡ true) × (is_decimal_digit 57 ≡ true) × (is_decimal_digit 47 ≡ false) × (is_decimal_digit 58 ≡ false)
digits = (refl, refl, refl, refl)

-- a number has digits alone, and one at least
numbers : (is_decimal (codes "7") ≡ true) × (is_decimal (codes "127") ≡ true) × (is_decimal [] ≡ false) × (is_decimal (codes "1b") ≡ false) × (is_decimal (codes "b1") ≡ false)
numbers = (refl, refl, refl, refl, refl)

-- an IPv4 address ends with a number, and an IPv6 address stands in brackets
addresses : (is_ip_host (codes "1.2.3.4") ≡ true) × (is_ip_host (codes "[::1]") ≡ true) × (is_ip_host (codes "[fe80::a]") ≡ true)
addresses = (refl, refl, refl)

-- a name whose first label is a number is none, nor is one whose last label has another byte than a
-- digit, and no text is none
names : (is_ip_host (codes "1e3.test") ≡ false) × (is_ip_host (codes "1.2.3.test") ≡ false) × (is_ip_host (codes "a.1b") ≡ false) × (is_ip_host (codes "0x7f") ≡ false) × (is_ip_host [] ≡ false)
names = (refl, refl, refl, refl, refl)

-- no domain ends with a number, whatever stands in front of it
ends_with_a_number : is_ip_host (codes "a.1") ≡ true
ends_with_a_number = refl

-- ---- domains

abbrev rule : List (List ℕ) → Rule
rule labels = record { is_exception = false; labels = labels }

abbrev uk : List ℕ
uk = codes "uk"

abbrev co_uk : List ℕ
co_uk = codes "co.uk"

abbrev shop : List ℕ
shop = codes "shop.co.uk"

abbrev www : List ℕ
www = codes "www.shop.co.uk"

-- a blog among others
abbrev blogs : List ℕ
blogs = codes "blog.test"

abbrev blog : List ℕ
blog = codes "a.blog.test"

-- a list has the rules `uk` and `blog.test`. A later one has `co.uk` too, and `blog.test` no more.
abbrev old_list : List Rule
old_list = rule (uk ∷ []) ∷ rule (codes "blog" ∷ codes "test" ∷ []) ∷ []

abbrev new_list : List Rule
new_list = rule (uk ∷ []) ∷ rule (codes "co" ∷ uk ∷ []) ∷ []

-- a host's domain is the public suffix and one label more
domains : (domain_under old_list www ≡ co_uk) × (domain_under new_list www ≡ shop) × (domain_under old_list blog ≡ blog) × (domain_under new_list blog ≡ blogs)
domains = (refl, refl, refl, refl)

-- a public suffix is its own domain, also where it has become one
public_suffixes : (is_own_host new_list uk ≡ true) × (is_own_host old_list co_uk ≡ true) × (is_own_host new_list co_uk ≡ true)
public_suffixes = (refl, refl, refl)

-- a registrable domain is its own, and a host below it is not
own_hosts : (is_own_host new_list shop ≡ true) × (is_own_host new_list www ≡ false) × (is_own_host old_list shop ≡ false) × (is_own_host old_list blog ≡ true) × (is_own_host new_list blog ≡ false)
own_hosts = (refl, refl, refl, refl, refl)

-- an IP address is its own domain, whatever rules its numbers meet
abbrev number_list : List Rule
number_list = rule (codes "3" ∷ codes "4" ∷ []) ∷ rule (codes "*" ∷ []) ∷ []

own_addresses : (domain_under number_list (codes "1.2.3.4") ≡ codes "1.2.3.4") × (is_own_host (rule (codes "*" ∷ []) ∷ []) (codes "1.2.3.4") ≡ true) × (is_own_host [] (codes "1.2.3.4") ≡ true) × (is_own_host number_list (codes "[::1]") ≡ true)
own_addresses = (refl, refl, refl, refl)

-- ---- storage keys

abbrev origin : List ℕ → PlainOrigin
origin host = record { https = true; ip = false; host = host; port = 443 }

-- a document of `https://www.shop.co.uk` under a top-level site
abbrev key_under : PlainSite → Bool → PlainKey
key_under top bit = record { top = top; origin = origin www; bit = bit }

-- with the bit clear a key is of its origin's site: that of `www.shop.co.uk` is not `co.uk` any more
bit_clear : (key_stays old_list (key_under (site co_uk) false) ≡ true) × (key_stays new_list (key_under (site co_uk) false) ≡ false) × (key_stays new_list (key_under (site shop) false) ≡ true)
bit_clear = (refl, refl, refl)

-- with the bit set it may be of any site
bit_set : (key_stays new_list (key_under (site co_uk) true) ≡ true) × (key_stays new_list (key_under (site a) true) ≡ true)
bit_set = (refl, refl)

-- the top-level site is asked for with the bit set too: `shop.co.uk` is no site under the old list,
-- nor `a.blog.test` under the new one
top_goes : (key_stays old_list (key_under (site shop) true) ≡ false) × (key_stays new_list (key_under (site blog) true) ≡ false)
top_goes = (refl, refl)

-- a top document whose host has become a public suffix keeps its key
suffix_stays : key_stays new_list (record { top = site co_uk; origin = origin co_uk; bit = false }) ≡ true
suffix_stays = refl

-- with the bit clear the scheme counts, and the port does not
abbrev http_shop : PlainSite
http_shop = record { https = false; host = shop }

scheme_counts : (keeps_bit new_list (key_under http_shop false) ≡ false) × (keeps_bit new_list (key_under http_shop true) ≡ true)
scheme_counts = (refl, refl)

port_is_left : key_stays new_list (record { top = site shop; origin = record (origin www) { port = 8443 }; bit = false }) ≡ true
port_is_left = refl

-- the key of a document at an IP address stays
address_stays : key_stays number_list (record { top = site (codes "1.2.3.4"); origin = record (origin (codes "1.2.3.4")) { ip = true }; bit = false }) ≡ true
address_stays = refl

-- ---- cells of cookies

-- a cell's name: its domain is its own, and so is the host of a partition's top-level site
own_names : (name_stays new_list (OwnCell co_uk) ≡ true) × (name_stays old_list (OwnCell shop) ≡ false)
own_names = (refl, refl)

partition_names : (name_stays new_list (PartitionCell (site co_uk) false shop) ≡ true) × (name_stays new_list (PartitionCell (site blog) false shop) ≡ false) × (name_stays old_list (PartitionCell (site blog) false shop) ≡ false)
partition_names = (refl, refl, refl)

-- a cookie of a host
abbrev cookie_of : (name host : List ℕ) → PlainCookie
cookie_of name host = record (cookie name) { domain = host; expiry = Some (pos 100); last = pos 0 }

abbrev of_suffix : PlainCookie
of_suffix = cookie_of (codes "s") co_uk

abbrev of_www : PlainCookie
of_www = cookie_of (codes "w") www

-- a cookie of `www.shop.co.uk` is one of `co.uk` under the old list, and of `shop.co.uk` under the new
-- one. One of `co.uk` itself stays there.
cookies_stay : (cookie_stays old_list co_uk of_www ≡ true) × (cookie_stays new_list co_uk of_www ≡ false) × (cookie_stays new_list shop of_www ≡ true) × (cookie_stays new_list co_uk of_suffix ≡ true)
cookies_stay = (refl, refl, refl, refl)

-- a cell of `co.uk` with cookies of both hosts goes whole, whichever comes first
goes_whole : (cell_stays old_list (OwnCell co_uk) (of_suffix ∷ of_www ∷ []) ≡ true) × (cell_stays new_list (OwnCell co_uk) (of_suffix ∷ of_www ∷ []) ≡ false) × (cell_stays new_list (OwnCell co_uk) (of_www ∷ of_suffix ∷ []) ≡ false)
goes_whole = (refl, refl, refl)

-- without the cookie of the other host it stays
suffix_cell_stays : cell_stays new_list (OwnCell co_uk) (of_suffix ∷ []) ≡ true
suffix_cell_stays = refl

-- so does a cell of an IP address
address_cell_stays : cell_stays number_list (OwnCell (codes "1.2.3.4")) (cookie_of (codes "i") (codes "1.2.3.4") ∷ []) ≡ true
address_cell_stays = refl

-- a cell whose name is none goes whatever is in it: cookies of `blog.test` are none of `a.blog.test`,
-- and there are none in an empty cell
name_goes : (cell_stays new_list (OwnCell blog) [] ≡ false) × (cell_stays new_list (OwnCell blog) (cookie_of (codes "b") blog ∷ []) ≡ false)
name_goes = (refl, refl)

-- a partition goes by its top-level site, by its domain and by its cookies, each alone
partition_stays_here : cell_stays new_list (PartitionCell (site a) true shop) (of_www ∷ []) ≡ true
partition_stays_here = refl

partition_goes : (cell_stays new_list (PartitionCell (site blog) true shop) (of_www ∷ []) ≡ false) × (cell_stays new_list (PartitionCell (site a) true blog) [] ≡ false) × (cell_stays new_list (PartitionCell (site a) true co_uk) (of_www ∷ []) ≡ false)
partition_goes = (refl, refl, refl)

-- ---- permissions

abbrev permission : (top embedded : List ℕ) → Bool → PlainGrant
permission top embedded granted = record { top = site top; site = site embedded; granted = granted; until = pos 2592007 }

-- both sites are sites, whatever was answered
permission_stays : (grant_stays new_list (permission a widget true) ≡ true) × (grant_stays new_list (permission co_uk shop false) ≡ true)
permission_stays = (refl, refl)

-- the embedded site is none, and the top-level site is none
site_is_none : (grant_stays old_list (permission a blog true) ≡ true) × (grant_stays new_list (permission a blog true) ≡ false)
site_is_none = (refl, refl)

top_is_none : (grant_stays old_list (permission blog a false) ≡ true) × (grant_stays new_list (permission blog a false) ≡ false)
top_is_none = (refl, refl)

-- ---- a state that was written under the old list

-- the key of `https://www.shop.co.uk` under `https://co.uk` goes, and that of `https://a.test` stays
abbrev key_goes : PlainKey
key_goes = key_under (site co_uk) false

abbrev areas_before : Areas
areas_before = set_cell key_order key_goes pairs (set_cell key_order key_a pairs finite.empty)

-- the buckets of the key that goes and of a key that has no area are persistent
abbrev framed : PlainKey
framed = key_under (site a) true

abbrev modes_before : Keys
modes_before = finite.insert (finite.insert finite.empty framed tt) key_goes tt

-- two partitions of `co.uk` under `https://a.test`: that of a clear bit has a cookie of `www.shop.co.uk`
-- and goes, and that of a set bit has two of `co.uk` and stays
abbrev partition_at : Bool → PartitionedKey
partition_at bit = record { top = site a; bit = bit; domain = co_uk }

abbrev two_of_suffix : Cookies
two_of_suffix = of_suffix ∷ cookie_of (codes "r") co_uk ∷ []

abbrev partitions_before : PartitionedCells
partitions_before = set_cell partitioned_order (partition_at false) (of_www ∷ []) (set_cell partitioned_order (partition_at true) two_of_suffix finite.empty)

-- the cell of `co.uk` goes, and that of `a.test` stays
abbrev two_of_a : Cookies
two_of_a = cookie_of (codes "q") a ∷ cookie_of (codes "p") (codes "x.a.test") ∷ []

abbrev cells_before : CookieCells
cells_before = set_cell domain_order co_uk (of_suffix ∷ of_www ∷ []) (set_cell domain_order a two_of_a finite.empty)

abbrev before : Saved
before =
    record {
      under = record {
        areas = areas_before;
        persistent = modes_before;
        cookies = partitions_before;
        grants = permission co_uk a false ∷ permission a blog true ∷ permission blog a true ∷ permission a widget true ∷ [];
      };
      cells = cells_before;
    }

-- what is left of it
abbrev left : Saved
left =
    record {
      under = record {
        areas = set_cell key_order key_a pairs finite.empty;
        persistent = finite.insert finite.empty framed tt;
        cookies = set_cell partitioned_order (partition_at true) two_of_suffix finite.empty;
        grants = permission co_uk a false ∷ permission a widget true ∷ [];
      };
      cells = set_cell domain_order a two_of_a finite.empty;
    }

abbrev pair : Pair
pair = record { name = k; value = codes "v" }

-- the area of a key that goes is gone, and the other is as it was
areas_left : finite.retain_keys areas_before (key_stays new_list) ≡ left.under.areas
areas_left =
    kept.cell_unseen key_order key_order_total key_order_same (set_cell key_order key_a pairs finite.empty) (key_stays new_list) key_goes pairs refl
    ∙ kept.cell_seen key_order key_order_total key_order_same finite.empty (key_stays new_list) key_a pairs refl
    ∙ ap (set_cell key_order key_a pairs) (kept.kept_nothing key_order key_order_total key_order_same (key_stays new_list))

-- so is the mode of the same key, and the other stays where its key has no area
modes_left : finite.retain_keys modes_before (key_stays new_list) ≡ left.under.persistent
modes_left =
    kept.change_unseen key_order key_order_total key_order_same (finite.insert finite.empty framed tt) (key_stays new_list) key_goes (Some tt) refl
    ∙ kept.change_seen key_order key_order_total key_order_same finite.empty (key_stays new_list) (key_stays new_list) framed (Some tt) refl (λ q apart. refl)
    ∙ ap (λ m. finite.insert m framed tt) (kept.kept_nothing key_order key_order_total key_order_same (key_stays new_list))

-- what each partition of the state has, by which it stays or goes
abbrev one_partition : PartitionedCells
one_partition = set_cell partitioned_order (partition_at true) two_of_suffix finite.empty

in_clear : get_cell partitioned_order partitions_before (partition_at false) ≡ of_www ∷ []
in_clear = cells.get_set partitioned_order partitioned_order_total partitioned_order_same (partition_at false) (partition_at false) (of_www ∷ []) one_partition

in_set : get_cell partitioned_order partitions_before (partition_at true) ≡ two_of_suffix
in_set =
    cells.get_set partitioned_order partitioned_order_total partitioned_order_same (partition_at true) (partition_at false) (of_www ∷ []) one_partition
    ∙ cells.get_set partitioned_order partitioned_order_total partitioned_order_same (partition_at true) (partition_at true) two_of_suffix finite.empty

clear_goes : partition_stays new_list before (partition_at false) ≡ false
clear_goes = ap (cell_stays new_list (PartitionCell (site a) false co_uk)) in_clear

set_stays : partition_stays new_list before (partition_at true) ≡ true
set_stays = ap (cell_stays new_list (PartitionCell (site a) true co_uk)) in_set

partitions_left : finite.retain_keys partitions_before (partition_stays new_list before) ≡ left.under.cookies
partitions_left =
    kept.cell_unseen partitioned_order partitioned_order_total partitioned_order_same one_partition (partition_stays new_list before) (partition_at false) (of_www ∷ []) clear_goes
    ∙ kept.cell_seen partitioned_order partitioned_order_total partitioned_order_same finite.empty (partition_stays new_list before) (partition_at true) two_of_suffix set_stays
    ∙ ap (set_cell partitioned_order (partition_at true) two_of_suffix) (kept.kept_nothing partitioned_order partitioned_order_total partitioned_order_same (partition_stays new_list before))

-- what each unpartitioned cell has
abbrev one_cell : CookieCells
one_cell = set_cell domain_order a two_of_a finite.empty

in_co_uk : get_cell domain_order cells_before co_uk ≡ of_suffix ∷ of_www ∷ []
in_co_uk = cells.get_set domain_order domain_order_total domain_order_same co_uk co_uk (of_suffix ∷ of_www ∷ []) one_cell

in_a : get_cell domain_order cells_before a ≡ two_of_a
in_a =
    cells.get_set domain_order domain_order_total domain_order_same a co_uk (of_suffix ∷ of_www ∷ []) one_cell
    ∙ cells.get_set domain_order domain_order_total domain_order_same a a two_of_a finite.empty

co_uk_goes : own_stays new_list before co_uk ≡ false
co_uk_goes = ap (cell_stays new_list (OwnCell co_uk)) in_co_uk

a_stays : own_stays new_list before a ≡ true
a_stays = ap (cell_stays new_list (OwnCell a)) in_a

cells_left : finite.retain_keys cells_before (own_stays new_list before) ≡ left.cells
cells_left =
    kept.cell_unseen domain_order domain_order_total domain_order_same one_cell (own_stays new_list before) co_uk (of_suffix ∷ of_www ∷ []) co_uk_goes
    ∙ kept.cell_seen domain_order domain_order_total domain_order_same finite.empty (own_stays new_list before) a two_of_a a_stays
    ∙ ap (set_cell domain_order a two_of_a) (kept.kept_nothing domain_order domain_order_total domain_order_same (own_stays new_list before))

-- all of it: an area and its mode, a partition, a cell and two permissions go, and the rest is as it
-- was, the cookies and the permissions in their order
what_is_left : migrate new_list before ≡ left
what_is_left = λ i. record {
  under = record {
    areas = areas_left i;
    persistent = modes_left i;
    cookies = partitions_left i;
    grants = left.under.grants;
  };
  cells = cells_left i;
}

-- ---- whether all of a state stays

-- the entries of a map with none, with one and with two
module _ {K X : Type 0} (R : K → K → Ordering) (o : IsTotalOrder R) where
  abbrev nothing : finite.FinMap R X
  nothing = finite.empty

  no_entries : finite.entries nothing ≡ []
  no_entries = nil_from_length (finite.entries nothing) (sym (len-entries nothing) ∙ len-empty R X)

  one_entry : (key : K) (x : X) → finite.entries (finite.insert nothing key x) ≡ (key, x) ∷ []
  one_entry key x = entries-insert o nothing key x ∙ ap (put R key x) no_entries

  two_entries : (key other : K) (x y : X) → finite.entries (finite.insert (finite.insert nothing key x) other y) ≡ put R other y ((key, x) ∷ [])
  two_entries key other x y = entries-insert o (finite.insert nothing key x) other y ∙ ap (put R other y) (one_entry key x)

-- states with one part alone
abbrev no_saved_rows : SiteRows
no_saved_rows = record { areas = finite.empty; persistent = finite.empty; cookies = finite.empty; grants = [] }

abbrev under_sites : SiteRows → Saved
under_sites rows = record { under = rows; cells = finite.empty }

abbrev area_alone : Saved
area_alone = under_sites (record no_saved_rows { areas = set_cell key_order key_goes pairs finite.empty })

abbrev mode_alone : Saved
mode_alone = under_sites (record no_saved_rows { persistent = finite.insert finite.empty key_goes tt })

abbrev partition_alone : Saved
partition_alone = under_sites (record no_saved_rows { cookies = set_cell partitioned_order (partition_at false) (of_www ∷ []) finite.empty })

abbrev permission_alone : Saved
permission_alone = under_sites (record no_saved_rows { grants = permission a blog true ∷ [] })

abbrev cell_alone : Saved
cell_alone = record { under = no_saved_rows; cells = set_cell domain_order co_uk (of_suffix ∷ of_www ∷ []) finite.empty }

-- maps without a key
no_areas : finite.entries no_saved_rows.areas ≡ []
no_areas = no_entries key_order key_order_total

no_modes : finite.entries no_saved_rows.persistent ≡ []
no_modes = no_entries key_order key_order_total

no_partitions : finite.entries no_saved_rows.cookies ≡ []
no_partitions = no_entries partitioned_order partitioned_order_total

no_cells : finite.entries (under_sites no_saved_rows).cells ≡ []
no_cells = no_entries domain_order domain_order_total

-- of an area alone, or a mode, or a permission: all of it stays under the old list, and not under the new
an_area_alone : (stays_whole old_list area_alone ≡ true) × (stays_whole new_list area_alone ≡ false)
unfolding set_cell
an_area_alone =
    let one = one_entry {X = Full Pair} key_order key_order_total key_goes (record { first = pair; rest = [] }) in
    (rw (one, no_modes, no_partitions, no_cells) refl, rw one refl)

a_mode_alone : (stays_whole old_list mode_alone ≡ true) × (stays_whole new_list mode_alone ≡ false)
a_mode_alone =
    let one = one_entry key_order key_order_total key_goes (tt {0}) in
    (rw (one, no_areas, no_partitions, no_cells) refl, rw (one, no_areas) refl)

a_permission_alone : (stays_whole old_list permission_alone ≡ true) × (stays_whole new_list permission_alone ≡ false)
a_permission_alone = (rw (no_areas, no_modes, no_partitions, no_cells) refl, rw (no_areas, no_modes, no_partitions) refl)

-- of a partition alone, or a cell
a_partition_alone : (stays_whole old_list partition_alone ≡ true) × (stays_whole new_list partition_alone ≡ false)
unfolding set_cell
a_partition_alone =
    let one = one_entry {X = Full PlainCookie} partitioned_order partitioned_order_total (partition_at false) (record { first = of_www; rest = [] }) in
    let has = cells.get_set partitioned_order partitioned_order_total partitioned_order_same (partition_at false) (partition_at false) (of_www ∷ []) no_saved_rows.cookies in
    (rw (no_areas, no_modes, one, no_cells, has) refl, rw (no_areas, no_modes, one, has) refl)

a_cell_alone : (stays_whole old_list cell_alone ≡ true) × (stays_whole new_list cell_alone ≡ false)
unfolding set_cell
a_cell_alone =
    let one = one_entry {X = Full PlainCookie} domain_order domain_order_total co_uk (record { first = of_suffix; rest = of_www ∷ [] }) in
    let has = cells.get_set domain_order domain_order_total domain_order_same co_uk co_uk (of_suffix ∷ of_www ∷ []) finite.empty in
    (rw (no_areas, no_modes, no_partitions, one, has) refl, rw (no_areas, no_modes, no_partitions, one, has) refl)

-- of the whole state all stays under the list under which it was written
was_whole : stays_whole old_list before ≡ true
unfolding set_cell
was_whole =
    rw (
      two_entries {X = Full Pair} key_order key_order_total key_a key_goes (record { first = pair; rest = [] }) (record { first = pair; rest = [] }),
      two_entries key_order key_order_total framed key_goes (tt {0}) (tt {0}),
      two_entries {X = Full PlainCookie} partitioned_order partitioned_order_total (partition_at true) (partition_at false) (record { first = of_suffix; rest = cookie_of (codes "r") co_uk ∷ [] }) (record { first = of_www; rest = [] }),
      two_entries {X = Full PlainCookie} domain_order domain_order_total a co_uk (record { first = cookie_of (codes "q") a; rest = cookie_of (codes "p") (codes "x.a.test") ∷ [] }) (record { first = of_suffix; rest = of_www ∷ [] }),
      in_clear,
      in_set,
      in_co_uk,
      in_a,
    ) refl

-- and of what is left of it, under the new one
left_is_whole : stays_whole new_list left ≡ true
unfolding set_cell
left_is_whole =
    rw (
      one_entry {X = Full Pair} key_order key_order_total key_a (record { first = pair; rest = [] }),
      one_entry key_order key_order_total framed (tt {0}),
      one_entry {X = Full PlainCookie} partitioned_order partitioned_order_total (partition_at true) (record { first = of_suffix; rest = cookie_of (codes "r") co_uk ∷ [] }),
      one_entry {X = Full PlainCookie} domain_order domain_order_total a (record { first = cookie_of (codes "q") a; rest = cookie_of (codes "p") (codes "x.a.test") ∷ [] }),
      cells.get_set partitioned_order partitioned_order_total partitioned_order_same (partition_at true) (partition_at true) two_of_suffix finite.empty,
      cells.get_set domain_order domain_order_total domain_order_same a a two_of_a finite.empty,
    ) refl
