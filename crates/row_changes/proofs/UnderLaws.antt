-- Of what has a spelling, the texts of its hosts tell whether it is of rows under a list.
use Rattle.std.proofs.Common.{◌≡◌, ℕ, Bool, true, false, List, Result, Ok, Err, refl, sym, ap, arith, get_or, ◌∙◌, ⊎_elim}
use Rattle.std.specs.Prelude.{◌↔◌, ◌&&◌, ◌||◌, bytes_eq, is_ok}
use Rattle.std.proofs.lemmas.Bool.{and_from, and_parts, or_cases}
use Rattle.std.proofs.lemmas.Slice.Eq.{bytes_eq-Decides}
use Rattle.suffix_list.specs.Suffix.{Rule}
use Rattle.origin_site.specs.declared.address.AddressFault.{AddressFault}
use Rattle.origin_site.specs.declared.site.SiteFault.{SiteFault}
use Rattle.origin_site.specs.declared.site.SiteFault.TheVariants.{NotSite}
use Rattle.origin_site.specs.Address.{PlainAddress, address_of}
use Rattle.origin_site.specs.Domain.{host_domain}
use Rattle.origin_site.specs.Own.{domain_under, is_own_host}
use Rattle.origin_site.specs.Site.{IsOwnSite, PlainSite, SiteReadsBack, same_plain_site, site_by, site_of_address, site_of_origin, site_of_text, site_text, site_under, whole_host}
use Rattle.origin_site.proofs.KindLemmas.{addresses_tell}
use Rattle.origin_site.proofs.SameLemmas.{same_plain_site-Decides}
use Rattle.storage_key.specs.Key.{PlainKey}
use Rattle.storage_key.specs.Stays.{key_stays}
use Rattle.cookie_jar.specs.Key.{PlainKey as PlainCell, OwnCell, PartitionCell}
use Rattle.cookie_jar.specs.Stays.{name_stays}
use Rattle.row_changes.specs.Change.{PlainChange, AreaPut, AreaRemove, AreaClear, SetMode}
use Rattle.row_changes.specs.Change.{CookieInsert, CookieReplace, CookieRemove, Grant}
use Rattle.row_changes.specs.Names.{is_host, is_host_by}
use Rattle.row_changes.specs.Spelled.{IsKey, IsNamed, is_partition, is_sound}
use Rattle.row_changes.specs.Under.{HostsTellRows, IsCellUnder, IsHostOf, IsKeyUnder}
use Rattle.row_changes.proofs.NameLaws.{cond_ok, not_ok, same_ok}

-- ---- the address of a site

-- a text was read as an address, of which this is the scheme and the host
record IsRead (text : List ℕ) (site : PlainSite) : Type 0 where
  address : PlainAddress
  reads : address_of text ≡ Ok address
  whole : whole_host address ≡ site

read_of : (text : List ℕ) (site : PlainSite) → site_of_text text ≡ Ok site → IsRead text site × (site_text site ≡ text)
read_of text site e = by (address_of text) refl e
  where
    by : (read : Result PlainAddress AddressFault) → address_of text ≡ read → site_by text read ≡ Ok site → IsRead text site × (site_text site ≡ text)
    by (Err why) is e = absurd (not_ok NotSite site e)
    by (Ok address) is e =
        let c = cond_ok (bytes_eq (site_text (whole_host address)) text) (whole_host address) site NotSite e in
        (record { address = address; reads = is; whole = c.1 }, ap site_text (sym c.1) ∙ (bytes_eq-Decides (site_text (whole_host address)) text).0 c.0)

-- the domain of an address's host follows from the host's text
domain_told : (rules : List Rule) (text : List ℕ) (address : PlainAddress) → address_of text ≡ Ok address
    → domain_under rules address.host ≡ host_domain rules address.ip address.host
domain_told rules text address reads = ap (λ b. host_domain rules b address.host) (sym (addresses_tell text address reads))

-- ---- sites

module _ (rules : List Rule) (site : PlainSite) (back : SiteReadsBack site) where
  read : IsRead (site_text site) site
  read = (read_of (site_text site) site back).0

  -- its domain, and that of the address which its text is
  same_domain : domain_under rules site.host ≡ host_domain rules read.address.ip read.address.host
  same_domain =
      ap (λ (s : PlainSite). domain_under rules s.host) (sym read.whole) ∙ domain_told rules (site_text site) read.address read.reads

  pub site_under_list : is_own_host rules site.host ≡ true → IsOwnSite rules site
  site_under_list own =
      let domain : host_domain rules read.address.ip read.address.host ≡ site.host = sym same_domain ∙ (bytes_eq-Decides (domain_under rules site.host) site.host).0 own in
      ap (site_under rules) read.reads ∙ (λ i. Ok (record { https = (read.whole i).https; host = domain i }))

  pub site_told : IsOwnSite rules site → is_own_host rules site.host ≡ true
  site_told is =
      let same : site_of_address rules read.address ≡ site = same_ok _ site (sym (ap (site_under rules) read.reads) ∙ is) in
      (bytes_eq-Decides (domain_under rules site.host) site.host).1 (same_domain ∙ ap (λ (s : PlainSite). s.host) same)

-- ---- hosts

-- texts of one scheme and host are of equal hosts
same_host : (a b : Bool) (x y : List ℕ) → site_text (record { https = a; host = x }) ≡ site_text (record { https = b; host = y }) → x ≡ y
same_host true true x y e = cc
same_host false false x y e = cc
same_host true false x y e = let fifth : 115 ≡ 58 = ap (λ (l : List ℕ). get_or l 4 0) e in absurd (omega (arith, fifth))
same_host false true x y e = let fifth : 58 ≡ 115 = ap (λ (l : List ℕ). get_or l 4 0) e in absurd (omega (arith, fifth))

is_read_ok : {A E : Type 0} (r : Result A E) → is_ok r ≡ true → (a : A) × (r ≡ Ok a)
is_read_ok (Ok a) e = (a, refl)
is_read_ok (Err why) e = absurd cc

module _ (rules : List Rule) (domain host : List ℕ) where
  by_scheme : (https : Bool) → is_host_by https host ≡ true → bytes_eq (domain_under rules host) domain ≡ true → IsHostOf rules domain host
  by_scheme https is own =
      let text = site_text (record { https = https; host = host }) in
      let ok = is_read_ok (site_of_text text) is in
      let found = read_of text ok.0 ok.1 in
      let whole : found.0.address.host ≡ host = ap (λ (s : PlainSite). s.host) found.0.whole ∙ same_host ok.0.https https ok.0.host host found.1 in
      record {
        https = https;
        address = found.0.address;
        reads = found.0.reads;
        whole = whole;
        has = sym (domain_told rules text found.0.address found.0.reads) ∙ ap (domain_under rules) whole ∙ (bytes_eq-Decides (domain_under rules host) domain).0 own;
      }

  host_under : is_host host ≡ true → bytes_eq (domain_under rules host) domain ≡ true → IsHostOf rules domain host
  host_under is own = ⊎_elim (λ secure. by_scheme true secure own) (λ plain. by_scheme false plain own) (or_cases (is_host_by true host) (is_host_by false host) is)

  host_told : IsHostOf rules domain host → bytes_eq (domain_under rules host) domain ≡ true
  host_told is =
      (bytes_eq-Decides (domain_under rules host) domain).1
      (ap (domain_under rules) (sym is.whole) ∙ domain_told rules (site_text (record { https = is.https; host = host })) is.address is.reads ∙ is.has)

-- ---- keys

clear_bit : (bit : Bool) (own top : PlainSite) → (bit || same_plain_site own top) ≡ true → bit ≡ false → own ≡ top
clear_bit true own top is clear = absurd cc
clear_bit false own top is clear = (same_plain_site-Decides own top).0 is

any_bit : (bit : Bool) (own top : PlainSite) → (bit ≡ false → own ≡ top) → (bit || same_plain_site own top) ≡ true
any_bit true own top is = refl
any_bit false own top is = (same_plain_site-Decides own top).1 (is refl)

key_under : (rules : List Rule) (key : PlainKey) → IsKey key → (key_stays rules key ≡ true) ↔ IsKeyUnder rules key
key_under rules key is = (
  λ stays. let parts = and_parts (is_own_host rules key.top.host) _ stays in (site_under_list rules key.top is.2.1 parts.0, clear_bit key.bit (site_of_origin rules key.origin) key.top parts.1),
  λ under. and_from _ _ (site_told rules key.top is.2.1 under.0) (any_bit key.bit (site_of_origin rules key.origin) key.top under.1),
)

-- ---- cells

cell_under : (rules : List Rule) (cell : PlainCell) → IsNamed cell → (name_stays rules cell ≡ true) ↔ IsCellUnder rules cell
cell_under rules (OwnCell domain) is = (host_under rules domain domain is.1, host_told rules domain domain)
cell_under rules (PartitionCell top bit domain) is = (
  λ stays. let parts = and_parts (is_own_host rules top.host) _ stays in (site_under_list rules top is.0.1 parts.0, host_under rules domain domain is.2 parts.1),
  λ under. and_from _ _ (site_told rules top is.0.1 under.0) (host_told rules domain domain under.1),
)

-- two tests that tell two facts
both_told : {A B : Type 0} (a b : Bool) → (a ≡ true) ↔ A → (b ≡ true) ↔ B → ((a && b) ≡ true) ↔ (A × B)
both_told a b p q = (λ all. let parts = and_parts a b all in (p.0 parts.0, q.0 parts.1), λ facts. and_from a b (p.1 facts.0) (q.1 facts.1))

cookie_under : (rules : List Rule) (domain host : List ℕ) → is_host host ≡ true → (bytes_eq (domain_under rules host) domain ≡ true) ↔ IsHostOf rules domain host
cookie_under rules domain host is = (host_under rules domain host is, host_told rules domain host)

-- ---- row changes

pub hosts_tell_rows : HostsTellRows
hosts_tell_rows rules (AreaPut key name value) is = key_under rules key is.0
hosts_tell_rows rules (AreaRemove key name) is = key_under rules key is.0
hosts_tell_rows rules (AreaClear key) is = key_under rules key is
hosts_tell_rows rules (SetMode key) is = key_under rules key is
hosts_tell_rows rules (CookieInsert cell place c) is =
    both_told _ _ (cell_under rules cell is.0) (cookie_under rules _ c.domain (and_parts (is_sound (is_partition cell) c) (is_host c.domain) is.3).1)
hosts_tell_rows rules (CookieReplace cell place c) is =
    both_told _ _ (cell_under rules cell is.0) (cookie_under rules _ c.domain (and_parts (is_sound (is_partition cell) c) (is_host c.domain) is.3).1)
hosts_tell_rows rules (CookieRemove cell place) is = cell_under rules cell is.0
hosts_tell_rows rules (Grant row) is =
    both_told _ _ (site_under_list rules row.top is.0.1, site_told rules row.top is.0.1) (site_under_list rules row.site is.1.1, site_told rules row.site is.1.1)
