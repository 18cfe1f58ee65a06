-- The text of a read address's origin reads as the origin's root.
use Rattle.std.proofs.Common.{◌≡◌, ℕ, ◌<◌, ◌≤◌, Bool, true, false, cond, not, ◌||◌}
use Rattle.std.proofs.Common.{◌⊎◌, List, [], ◌∷◌, ◌++◌, length, Some, None, Ok, sym}
use Rattle.std.proofs.Common.{refl, ap, ◌∙◌, subst, inl, inr, ⊎_elim, append_assoc, append-nil}
use Rattle.std.proofs.Common.{arith, length-append, ne_eqb, eq-eqb}
use Rattle.std.specs.Prelude.{Option, is_some, unwrap_or, option_map, decimal, codes, bytes_eq}
use Rattle.std.specs.Prelude.{nat_lt}
use Rattle.std.specs.Option.{option_or}
use Rattle.std.proofs.lemmas.Bool.{cond-true, cond-false, cases_Bool, false≢true, le-ltb}
use Rattle.std.proofs.lemmas.Bool.Decides.{nat_tests}
use Rattle.std.proofs.lemmas.Slice.Eq.{bytes_eq-Decides}
use Rattle.url.specs.declared.scheme.SchemeType.TheVariants.{SpecialNotFile}
use Rattle.url.specs.declared.host.Host.{Host}
use Rattle.url.specs.declared.host.Host.TheVariants.{Domain, Ipv4, Ipv6}
use Rattle.url.specs.Input.{when}
use Rattle.url.specs.Scheme.{scheme_type, default_port, is_special}
use Rattle.url.specs.Host.{host_text, is_empty_host, IsHostOf}
use Rattle.url.specs.Parts.{Parts, kind_of, has_host, has_authority, host_or_empty}
use Rattle.url.specs.Parts.{serialize, IsPortOf, IsValid}
use Rattle.url.proofs.InputLemmas.{is_empty_nonempty}
use Rattle.url.proofs.SetterLemmas.{own_host}
use Rattle.url.proofs.ValidLemmas.{special_has_authority, hierarchical, base_from_authority}
use Rattle.url.proofs.RoundTrip.{host_nonempty}
use Rattle.agent_base.proofs.Logic.{or_second}
use Rattle.origin_site.specs.Address.{is_web, host_of, is_ip, port_of, ends_with_dot}
use Rattle.origin_site.specs.Address.{address_limit, address_of_parts, address_parts, address_by, address_of}
use Rattle.origin_site.specs.Origin.{PlainOrigin, scheme_text, origin_text, origin_of_address}
use Rattle.origin_site.specs.Origin.{is_default, ReadsBack}
use Rattle.origin_site.proofs.ReadsBackLemmas.{origin_text_of, bare_url, origin_text_reads}

-- the URL is on the web
abbrev pub IsWeb : Parts → Type 0
IsWeb url = (url.scheme ≡ codes "https") ⊎ (url.scheme ≡ codes "http")

secure : scheme_type (codes "https") ≡ SpecialNotFile
unfolding scheme_type default_port
secure = refl

plain_web : scheme_type (codes "http") ≡ SpecialNotFile
unfolding scheme_type default_port
plain_web = refl

pub web_kind : (url : Parts) → IsWeb url → kind_of url ≡ SpecialNotFile
web_kind url web = ⊎_elim (λ e. ap scheme_type e ∙ secure) (λ e. ap scheme_type e ∙ plain_web) web

empty_text : (host : Host (List ℕ)) → 0 < length (host_text host) → is_empty_host host ≡ false
empty_text (Domain domain) some = is_empty_nonempty domain some
empty_text (Ipv4 address) some = refl
empty_text (Ipv6 address) some = refl

-- a web URL has a host that is not empty
pub has_host_is : (url : Parts) → IsValid url → kind_of url ≡ SpecialNotFile → has_host url ≡ true
has_host_is url valid kind =
    let authority = special_has_authority url valid.head (ap is_special kind) in
    let is_host = subst (λ k. IsHostOf k (host_or_empty url)) kind (own_host url valid.head authority) in
    ap not (empty_text (host_or_empty url) (host_nonempty (host_or_empty url) is_host))

host_same : (o : Option (Host (List ℕ))) → is_some o ≡ true → unwrap_or (option_map host_text o) [] ≡ host_text (unwrap_or o (Domain []))
host_same (Some h) some = refl
host_same None some = refl

pub host_of_is : (url : Parts) → IsValid url → kind_of url ≡ SpecialNotFile → host_of url ≡ host_text (host_or_empty url)
host_of_is url valid kind =
    ap (λ o. unwrap_or (option_map host_text o) []) (cond-true _ url.host None (has_host_is url valid kind))
    ∙ host_same url.host (special_has_authority url valid.head (ap is_special kind))

-- the port's part of the text
abbrev port_text : Option ℕ → List ℕ
port_text port = when (is_some port) (codes ":") ++ unwrap_or (option_map decimal port) []

port_tail : (https : Bool) (scheme host : List ℕ) (port : Option ℕ) (own : ℕ) → default_port scheme ≡ Some own → (cond https 443 80) ≡ own → IsPortOf scheme port
    → cond (is_default https (unwrap_or (option_or port (default_port scheme)) 0)) host (host ++ (codes ":" ++ decimal (unwrap_or (option_or port (default_port scheme)) 0))) ≡ host ++ port_text port
port_tail https scheme host None own is same valid = rw (is, same, eq-eqb own own refl) (sym (append-nil host))
port_tail https scheme host (Some n) own is same valid = cond-false _ host _ (ne_eqb n (cond https 443 80) (λ e. valid.1 (is ∙ ap Some (sym (e ∙ same)))))

pub default_port_is : (https : Bool) → default_port (scheme_text https) ≡ Some (cond https 443 80)
unfolding default_port
default_port_is true = refl
default_port_is false = refl

some_from : (web https other : Bool) → Some https ≡ cond web (Some other) None → web ≡ true
some_from true https other is = refl
some_from false https other is = absurd (false≢true (sym (ap is_some is)))

-- the address of a URL that no fault applies to
pub accepted : (url : Parts) (https : Bool) → Some https ≡ cond (is_web url) (Some (bytes_eq url.scheme (codes "https"))) None → ends_with_dot (host_of url) ≡ false
    → length (serialize url) ≤ address_limit → address_of_parts url ≡ Ok (address_parts url)
accepted url https web no_dot short = rw (some_from (is_web url) https (bytes_eq url.scheme (codes "https")) web, no_dot, le-ltb address_limit (length (serialize url)) short) refl

-- the port that is written, or the known default
pub port_or : (port : Option ℕ) (scheme : List ℕ) (default : ℕ) → default_port scheme ≡ Some default → unwrap_or port default ≡ unwrap_or (option_or port (default_port scheme)) 0
port_or None scheme default is = sym (ap (λ p. unwrap_or (option_or None p) 0) is)
port_or (Some n) scheme default is = refl

-- what is known of a URL that was read as an address
pub record IsRead (url : Parts) : Type 0 where
  pub valid : IsValid url
  pub web : IsWeb url
  pub no_dot : ends_with_dot (host_of url) ≡ false
  pub short : length (serialize url) ≤ 8192

-- the origin of a URL, with its scheme given
abbrev origin_with : Bool → Parts → PlainOrigin
origin_with https url = record { https = https; ip = is_ip url; host = host_of url; port = port_of url }

text_by : (https : Bool) (url : Parts) → IsRead url → url.scheme ≡ scheme_text https → origin_text (origin_with https url) ≡ origin_text_of url
text_by https url read scheme =
    let own = ap default_port scheme ∙ default_port_is https in
    let tail = port_tail https url.scheme (host_of url) url.port (cond https 443 80) own refl read.valid.head.port in
    (λ i. sym scheme i ++ (codes "://" ++ tail i)) ∙ ap (λ h. url.scheme ++ (codes "://" ++ (h ++ port_text url.port))) (host_of_is url read.valid (web_kind url read.web))

pub https_is : (url : Parts) → IsWeb url → (https : Bool) × (bytes_eq url.scheme (codes "https") ≡ https) × (url.scheme ≡ scheme_text https)
https_is url web =
    ⊎_elim
    (λ e. (true, (bytes_eq-Decides url.scheme (codes "https")).1 e, e))
    (λ e. (false, ap (λ s. bytes_eq s (codes "https")) e, e))
    web

web_test : (url : Parts) → IsWeb url → not (bytes_eq url.scheme (codes "https") || bytes_eq url.scheme (codes "http")) ≡ false
web_test url web =
    ⊎_elim
    (λ e. ap (λ s. not (bytes_eq s (codes "https") || bytes_eq s (codes "http"))) e)
    (λ e. ap (λ s. not (bytes_eq s (codes "https") || bytes_eq s (codes "http"))) e)
    web

pub serialize_bare : (url : Parts) → has_authority url ≡ true → serialize (bare_url url) ≡ origin_text_of url ++ 47 ∷ []
serialize_bare url authority = rw authority (simp (append_assoc, append-nil))

pub bare_shorter : (url : Parts) → IsValid url → kind_of url ≡ SpecialNotFile → length (serialize (bare_url url)) ≤ length (serialize url)
bare_shorter url valid kind =
    let authority = special_has_authority url valid.head (ap is_special kind) in
    let path = hierarchical url valid.path (base_from_authority url authority) in
    let some : 0 < length url.path = path.1 (ap is_special kind) in
    rw authority (simp length-append (omega arith))

-- the text of the origin reads as the origin's root
pub reads_back : (url : Parts) → IsRead url → ReadsBack (origin_of_address (address_parts url))
reads_back url read =
    let kind = web_kind url read.web in
    let authority = special_has_authority url read.valid.head (ap is_special kind) in
    let https = https_is url read.web in
    let text = ap (λ h. origin_text (origin_with h url)) https.1 ∙ text_by https.0 url read https.2 in
    let short : nat_lt 8192 (length (serialize (bare_url url))) ≡ false = let shorter = bare_shorter url read.valid kind in grind (arith, nat_tests, read.short) in
    ap address_of text ∙ ap address_by (origin_text_reads url read.valid kind)
    ∙ cond-false _ _ _ (web_test url read.web) ∙ cond-false _ _ _ read.no_dot ∙ cond-false _ _ _ short
    ∙ ap (λ t. Ok (record (address_parts (bare_url url)) { text = t })) (serialize_bare url authority ∙ ap (λ t. t ++ 47 ∷ []) (sym text))

pub web_from_test : (url : Parts) → is_web url ≡ true → IsWeb url
web_from_test url test =
    ⊎_elim
    (λ yes. inl ((bytes_eq-Decides url.scheme (codes "https")).0 yes))
    (λ other. inr ((bytes_eq-Decides url.scheme (codes "http")).0 (or_second _ _ other test)))
    (cases_Bool (bytes_eq url.scheme (codes "https")))

-- the fact, of an origin with the same fields
pub same_reads : {a b : Bool} {c d : Bool} {h k : List ℕ} {p q : ℕ} → a ≡ b → c ≡ d → h ≡ k → p ≡ q
    → ReadsBack (record { https = b; ip = d; host = k; port = q }) → ReadsBack (record { https = a; ip = c; host = h; port = p })
same_reads e f g i = subst (λ (t : PlainOrigin). ReadsBack t) (λ j. record { https = sym e j; ip = sym f j; host = sym g j; port = sym i j })
