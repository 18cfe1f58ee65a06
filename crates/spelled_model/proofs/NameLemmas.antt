-- The names that a read address gives: its origin, its site, and the hosts of its domain.
use Rattle.std.proofs.Common.{◌≡◌, ℕ, ◌≤◌, Bool, true, false, cond, not, List, ◌++◌, length, None, Some, Ok, Err, refl, sym, ap, subst, arith, length-append, ◌∙◌}
use Rattle.std.specs.Prelude.{Result, bytes_eq, codes, is_ok, nat_le, nat_lt, ◌&&◌}
use Rattle.std.proofs.lemmas.Bool.{and_from, cond-true, le-leb, ltb-false, or_left, or_right}
use Rattle.std.proofs.lemmas.Slice.Eq.{bytes_eq-Decides}
use Rattle.url.specs.Parser.{parse_url}
use Rattle.url.specs.Parts.{Parts, serialize}
use Rattle.suffix_list.specs.Suffix.{Rule}
use Rattle.origin_site.specs.declared.address.AddressFault.{AddressFault}
use Rattle.origin_site.specs.declared.address.AddressFault.TheVariants.{OtherScheme, TooLong, TrailingDot}
use Rattle.origin_site.specs.Address.{PlainAddress, address_by, address_limit, address_parts, ends_with_dot, host_of, is_web}
use Rattle.origin_site.specs.Domain.{IsLabelSuffix, host_domain}
use Rattle.origin_site.specs.Origin.{ReadsBack, default_origin, origin_of_address, origin_text, root_address}
use Rattle.origin_site.specs.Own.{domain_under, is_ip_host, is_own_host}
use Rattle.origin_site.specs.Site.{PlainSite, SiteReadsBack, site_of_address}
use Rattle.origin_site.proofs.KindLemmas.{addresses_tell}
use Rattle.origin_site.proofs.SiteLemmas.{domain_suffix, host_domain_again, site_of_host}
use Rattle.row_changes.specs.Names.{is_host, is_host_by, origin_by, origin_of_text}
use Rattle.spelled_model.specs.Addresses.{IsReadAddress}

-- the text of a site is read back, and it is a site under the list
abbrev pub IsNamedSite : List Rule → PlainSite → Type 0
IsNamedSite rules site = SiteReadsBack site × (is_own_host rules site.host ≡ true)

-- a domain is a host, and its own domain under the list
abbrev pub IsNamedDomain : List Rule → List ℕ → Type 0
IsNamedDomain rules domain = (is_host domain ≡ true) × (is_own_host rules domain ≡ true)

-- a text is a host, and has this domain under the list
abbrev pub IsHostUnder : List Rule → List ℕ → List ℕ → Type 0
IsHostUnder rules domain host = (is_host host ≡ true) × (bytes_eq (domain_under rules host) domain ≡ true)

-- ---- the text of an origin

short_by : (no_web dotted long : Bool) (whole address : PlainAddress)
    → ◌≡◌ {A = Result PlainAddress AddressFault} (cond no_web (Err OtherScheme) (cond dotted (Err TrailingDot) (cond long (Err TooLong) (Ok whole)))) (Ok address)
    → (long ≡ false) × (whole ≡ address)
short_by true dotted long whole address e = absurd (cc e)
short_by false true long whole address e = absurd (cc e)
short_by false false true whole address e = absurd (cc e)
short_by false false false whole address e = (refl, cc)

-- an address that was read has a short text
address_short : {E : Type 0} (read : Result Parts E) (address : PlainAddress) → address_by read ≡ Ok address → length address.text ≤ 8192
address_short (Err why) address e = absurd (cc e)
address_short (Ok url) address e =
    let is = short_by (not (is_web url)) (ends_with_dot (host_of url)) (nat_lt address_limit (length (serialize url))) (address_parts url) address e in
    subst (λ (a : PlainAddress). length a.text ≤ 8192) is.1 (ltb-false 8192 (length (serialize url)) is.0)

-- the origin of a read address is read back from its text
pub origin_named : (address : PlainAddress) → IsReadAddress address → origin_of_text (origin_text (origin_of_address address)) ≡ Some (origin_of_address address)
origin_named address read =
    let origin = origin_of_address address in
    let text = origin_text origin in
    let short : length (text ++ codes "/") ≤ 8192 = address_short (parse_url None text) (root_address origin) read.origin in
    let few : length text ≤ 8192 = omega (arith, length-append text (codes "/"), short) in
    ap (origin_by text) read.origin
    ∙ cond-true (bytes_eq text text && nat_le (length text) 8192) _ _ (and_from _ _ ((bytes_eq-Decides text text).1 refl) (le-leb (length text) 8192 few))

-- ---- hosts, by their texts

module _ (https ip : Bool) (host : List ℕ) (reads : ReadsBack (default_origin https ip host)) where
  -- whether a host that reads back is an IP address follows from its text
  kind_told : ip ≡ is_ip_host host
  kind_told = addresses_tell (origin_text (default_origin https ip host)) (root_address (default_origin https ip host)) reads

  -- and so does its domain
  domain_told : (rules : List Rule) → domain_under rules host ≡ host_domain rules ip host
  domain_told rules = ap (λ b. host_domain rules b host) (sym kind_told)

  -- one that is its own domain
  own_host : (rules : List Rule) → host_domain rules ip host ≡ host → is_own_host rules host ≡ true
  own_host rules own = (bytes_eq-Decides (domain_under rules host) host).1 (domain_told rules ∙ own)

  host_by : is_host_by https host ≡ true
  host_by = ap is_ok (site_of_host https ip host reads)

pub host_named : (https ip : Bool) (host : List ℕ) → ReadsBack (default_origin https ip host) → is_host host ≡ true
host_named true ip host reads = or_left _ _ (host_by true ip host reads)
host_named false ip host reads = or_right _ _ (host_by false ip host reads)

-- ---- the site of a read address

module _ (rules : List Rule) (address : PlainAddress) (read : IsReadAddress address) where
  abbrev domain : List ℕ
  domain = host_domain rules address.ip address.host

  domain_reads : ReadsBack (default_origin address.https address.ip domain)
  domain_reads = read.suffixes domain (domain_suffix rules address.ip address.host)

  domain_own : is_own_host rules domain ≡ true
  domain_own = own_host address.https address.ip domain domain_reads rules (host_domain_again rules address.ip address.host)

  -- it is a site under the list, and its text reads back
  pub site_named : IsNamedSite rules (site_of_address rules address)
  site_named = (site_of_host address.https address.ip domain domain_reads, domain_own)

  -- its domain is a host, and its own
  pub domain_named : IsNamedDomain rules (site_of_address rules address).host
  domain_named = (host_named address.https address.ip domain domain_reads, domain_own)

  -- each label suffix of its host that has its domain is a host of it
  pub suffix_named : (suffix : List ℕ) → IsLabelSuffix address.ip address.host suffix → host_domain rules address.ip suffix ≡ host_domain rules address.ip address.host
      → IsHostUnder rules (site_of_address rules address).host suffix
  suffix_named suffix is own =
      let reads = read.suffixes suffix is in
      (host_named address.https address.ip suffix reads, (bytes_eq-Decides (domain_under rules suffix) domain).1 (domain_told address.https address.ip suffix reads rules ∙ own))
