-- The site of an origin under a list of rules: its text reads back, and its domain is its own.
use Rattle.std.proofs.Common.{◌≡◌, ℕ, Bool, true, false, inl, inr, ⊎_elim, List, Ok, refl, ap, ◌∙◌, sym, subst}
use Rattle.std.specs.Prelude.{bytes_eq}
use Rattle.std.proofs.lemmas.Bool.{cond-true}
use Rattle.std.proofs.lemmas.Slice.Eq.{bytes_eq-Decides}
use Rattle.suffix_list.specs.Suffix.{Rule}
use Rattle.suffix_list.proofs.DomainLemmas.{domain_again, domain_end}
use Rattle.origin_site.specs.Address.{PlainAddress, address_of}
use Rattle.origin_site.specs.Domain.{IsLabelSuffix, host_domain}
use Rattle.origin_site.specs.Origin.{ReadsBack, SuffixesReadBack, default_origin, origin_text, root_address}
use Rattle.origin_site.specs.Site.{IsOwnSite, PlainSite, SiteReadsBack, site_by, whole_host, site_text, site_under}

-- at the default port the text of an origin is that of its scheme and host
text_is : (https ip : Bool) (host : List ℕ) → origin_text (default_origin https ip host) ≡ site_text (record { https = https; host = host })
text_is true ip host = refl
text_is false ip host = refl

-- the site's text is an address
site_address : (https ip : Bool) (host : List ℕ) → ReadsBack (default_origin https ip host)
    → address_of (site_text (record { https = https; host = host })) ≡ Ok (root_address (default_origin https ip host))
site_address https ip host reads = ap address_of (sym (text_is https ip host)) ∙ reads

-- an address of this text makes its scheme and host the site of the text
pub site_reads : (https : Bool) (host text : List ℕ) (address : PlainAddress) → address_of text ≡ Ok address → address.https ≡ https → address.host ≡ host
    → text ≡ site_text (record { https = https; host = host }) → SiteReadsBack (record { https = https; host = host })
site_reads https host text address is scheme name same =
    let site : PlainSite = record { https = https; host = host } in
    let own : whole_host address ≡ site = λ i. record { https = scheme i; host = name i } in
    let passes : bytes_eq (site_text (whole_host address)) (site_text site) ≡ true = (bytes_eq-Decides _ _).1 (ap site_text own) in
    ap (site_by (site_text site)) (ap address_of (sym same) ∙ is) ∙ cond-true _ _ _ passes ∙ ap Ok own

-- a host that reads back makes a site that does
pub site_of_host : (https ip : Bool) (host : List ℕ) → ReadsBack (default_origin https ip host) → SiteReadsBack (record { https = https; host = host })
site_of_host https ip host reads =
    site_reads https host (site_text (record { https = https; host = host })) (root_address (default_origin https ip host)) (site_address https ip host reads) refl refl refl

-- the domain of a host is one of its label suffixes
pub domain_suffix : (rules : List Rule) (ip : Bool) (host : List ℕ) → IsLabelSuffix ip host (host_domain rules ip host)
domain_suffix rules true host = inl refl
domain_suffix rules false host = ⊎_elim (λ whole. inl whole) (λ dotted. inr (refl, dotted)) (domain_end rules host)

-- the domain of a domain is itself
pub host_domain_again : (rules : List Rule) (ip : Bool) (host : List ℕ) → host_domain rules ip (host_domain rules ip host) ≡ host_domain rules ip host
host_domain_again rules true host = refl
host_domain_again rules false host = domain_again rules host

-- a site whose host reads back and is its own domain is one under the list
pub own_site : (rules : List Rule) (https ip : Bool) (host : List ℕ) → ReadsBack (default_origin https ip host) → host_domain rules ip host ≡ host
    → IsOwnSite rules (record { https = https; host = host })
own_site rules https ip host reads own =
    ap (site_under rules) (site_address https ip host reads) ∙ ap (λ d. Ok (record { https = https; host = d })) own

-- a label suffix of a host reads back, in other texts of the same bytes
pub suffix_reads : (https ip : Bool) (own host suffix text : List ℕ) → SuffixesReadBack https ip own → host ≡ own → IsLabelSuffix ip host suffix → text ≡ suffix
    → ReadsBack (default_origin https ip text)
suffix_reads https ip own host suffix text reads name is same =
    subst (λ t. ReadsBack (default_origin https ip t)) (sym same) (reads suffix (subst (λ h. IsLabelSuffix ip h suffix) name is))
