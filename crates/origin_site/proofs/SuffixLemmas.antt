-- Each label suffix of a read address's host is a host: with the scheme its text reads back.
use Rattle.std.proofs.Common.{◌≡◌, ℕ, suc, ◌-◌, ◌<◌, ◌≤◌, ◌==◌, Bool, true, false, cond, not, ◌&&◌, ◌||◌}
use Rattle.std.proofs.Common.{inl, ⊎_elim, List, [], ◌∷◌, ◌++◌, length, drop, Option, Some, None, All}
use Rattle.std.proofs.Common.{refl, ap, ◌∙◌, sym, subst, arith, append_assoc, length-append, drop_at}
use Rattle.std.specs.Prelude.{is_some, unwrap_or, option_and_then, slice_index, codes, bytes_eq}
use Rattle.std.specs.Char.{to_ascii_lowercase, is_ascii_digit}
use Rattle.std.specs.List.{list_all}
use Rattle.std.proofs.lemmas.Bool.{cond-true, cond-false, true≢false}
use Rattle.std.proofs.lemmas.List.{drop-map}
use Rattle.std.proofs.lemmas.List.Elements.{All-drop, All-nil}
use Rattle.percent_encoding.specs.Percent.{IsKept}
use Rattle.url.specs.declared.sets.TheConstants.{FORBIDDEN_DOMAIN, USERINFO}
use Rattle.url.specs.declared.host.Host.{Host}
use Rattle.url.specs.declared.host.Host.TheVariants.{Domain, Ipv4, Ipv6}
use Rattle.url.specs.declared.scheme.SchemeType.TheVariants.{SpecialNotFile}
use Rattle.url.specs.Input.{lowercase, rsplit_once, rsplit_step, is_empty}
use Rattle.url.specs.Ipv4.{ends_in_a_number, last_label, last_label_of, is_number, parse_number}
use Rattle.url.specs.Scheme.{default_port, is_special}
use Rattle.url.specs.Host.{IsDomain, IsHostOf, host_text, domain_of}
use Rattle.url.specs.Parts.{Parts, kind_of, host_or_empty, serialize, IsValid}
use Rattle.url.proofs.InputLemmas.{is_empty_nonempty}
use Rattle.url.proofs.PathLemmas.{root_only}
use Rattle.url.proofs.SetterLemmas.{own_host}
use Rattle.url.proofs.ValidLemmas.{special_has_authority}
use Rattle.origin_site.specs.Address.{ends_with_dot, host_of, is_ip, port_of}
use Rattle.origin_site.specs.Domain.{IsLabelSuffix}
use Rattle.origin_site.specs.Origin.{PlainOrigin, ReadsBack, SuffixesReadBack, default_origin, default_port_of}
use Rattle.origin_site.proofs.OriginLemmas.{IsRead, bare_shorter, default_port_is, has_host_is, host_of_is, https_is, reads_back, serialize_bare, web_kind}

-- ---- what stands behind a dot of a domain is a domain

step_some : (b : ℕ) (o : Option (List ℕ)) (back : List ℕ) → is_some o ≡ true → ((rsplit_step 46 b o back).1 ≡ back) × (is_some (rsplit_step 46 b o back).0 ≡ true)
step_some b (Some f) back some = (refl, refl)
step_some b None back some = cc

step_dot : (o : Option (List ℕ)) (back : List ℕ) → ((rsplit_step 46 46 o back).1 ≡ back) × (is_some (rsplit_step 46 46 o back).0 ≡ true)
step_dot (Some f) back = (refl, refl)
step_dot None back = (refl, refl)

-- behind the last dot of a text stands what stands behind the last one of its part behind a dot
last_behind : (front rest : List ℕ) → ((rsplit_once 46 (front ++ 46 ∷ rest)).1 ≡ (rsplit_once 46 rest).1) × (is_some (rsplit_once 46 (front ++ 46 ∷ rest)).0 ≡ true)
unfolding rsplit_once
last_behind [] rest = step_dot (rsplit_once 46 rest).0 (rsplit_once 46 rest).1
last_behind (b ∷ front) rest =
    let later = last_behind front rest in
    let here = step_some b (rsplit_once 46 (front ++ 46 ∷ rest)).0 (rsplit_once 46 (front ++ 46 ∷ rest)).1 later.1 in
    (here.0 ∙ later.0, here.1)

pub last_is : (o : Option (List ℕ)) (last : List ℕ) → is_empty last ≡ false → last_label_of o last ≡ last
last_is None last some = refl
last_is (Some front) last some = cond-false _ _ _ some

same_last : (front rest : List ℕ) → is_empty (rsplit_once 46 rest).1 ≡ false → last_label (front ++ 46 ∷ rest) ≡ last_label rest
same_last front rest some =
    let behind = last_behind front rest in
    last_is _ _ (ap is_empty behind.0 ∙ some) ∙ behind.0 ∙ sym (last_is _ _ some)

same_number : (front rest : List ℕ) → is_empty (rsplit_once 46 rest).1 ≡ false → ends_in_a_number (front ++ 46 ∷ rest) ≡ ends_in_a_number rest
unfolding ends_in_a_number
same_number front rest some = ap (λ last. (not (is_empty last) && list_all is_ascii_digit last) || is_number (parse_number last)) (same_last front rest some)

domain_behind : (front rest : List ℕ) → IsDomain (front ++ 46 ∷ rest) → is_empty (rsplit_once 46 rest).1 ≡ false → IsDomain rest
domain_behind front rest valid some =
    let part : drop (length (front ++ 46 ∷ [])) (front ++ 46 ∷ rest) ≡ rest = ap (drop (length (front ++ 46 ∷ []))) (sym (append_assoc front (46 ∷ []) rest)) ∙ drop_at (front ++ 46 ∷ []) rest (length (front ++ 46 ∷ [])) refl in
    record {
      allowed = subst (All (IsKept FORBIDDEN_DOMAIN)) part (All-drop (IsKept FORBIDDEN_DOMAIN) (length (front ++ 46 ∷ [])) (front ++ 46 ∷ rest) valid.allowed);
      lower = ap lowercase (sym part) ∙ sym (drop-map to_ascii_lowercase (length (front ++ 46 ∷ [])) (front ++ 46 ∷ rest)) ∙ ap (drop (length (front ++ 46 ∷ []))) valid.lower ∙ part;
      named = sym (same_number front rest some) ∙ valid.named;
    }

-- ---- the last label of a host that does not end with a dot

step_more : (b : ℕ) (o : Option (List ℕ)) (back : List ℕ) → is_empty back ≡ false → is_empty (rsplit_step 46 b o back).1 ≡ false
step_more b (Some front) back some = some
step_more b None back some = by (b == 46)
  where
    by : (dot : Bool) → is_empty (cond {A = Option (List ℕ) × List ℕ} dot (Some [], back) (None, b ∷ back)).1 ≡ false
    by true = some
    by false = is_empty_nonempty (b ∷ back) (omega arith)

ends_later : (b : ℕ) (rest : List ℕ) → 0 < length rest → ends_with_dot (b ∷ rest) ≡ ends_with_dot rest
ends_later b [] some = absurd (omega arith)
ends_later b (c ∷ rest) some =
    let place : suc (suc (length rest)) - 1 ≡ suc (length rest) = omega arith in
    let behind : suc (length rest) - 1 ≡ length rest = omega arith in
    ap (λ n. slice_index (b ∷ c ∷ rest) n == 46) place ∙ sym (ap (λ n. slice_index (c ∷ rest) n == 46) behind)

pub last_label_some : (host : List ℕ) → 0 < length host → ends_with_dot host ≡ false → is_empty (rsplit_once 46 host).1 ≡ false
unfolding rsplit_once
last_label_some [] some ends = absurd (omega arith)
last_label_some (b ∷ []) some ends = by (b == 46) ends
  where
    by : (dot : Bool) → dot ≡ false → is_empty (cond {A = Option (List ℕ) × List ℕ} dot (Some [], []) (None, b ∷ [])).1 ≡ false
    by true ends = cc
    by false ends = refl
last_label_some (b ∷ c ∷ host) some ends =
    step_more b (rsplit_once 46 (c ∷ host)).0 (rsplit_once 46 (c ∷ host)).1 (last_label_some (c ∷ host) (omega arith) (sym (ends_later b (c ∷ host) (omega arith)) ∙ ends))

ends_behind : (front : List ℕ) (b : ℕ) (rest : List ℕ) → ends_with_dot (front ++ b ∷ rest) ≡ ends_with_dot (b ∷ rest)
ends_behind [] b rest = refl
ends_behind (a ∷ front) b rest = ends_later a (front ++ b ∷ rest) (omega (arith, length-append front (b ∷ rest))) ∙ ends_behind front b rest

-- a text behind a dot is not empty and ends with no dot, where the whole does not
part_ends : (front rest : List ℕ) → ends_with_dot (front ++ 46 ∷ rest) ≡ false → (0 < length rest) × (ends_with_dot rest ≡ false)
part_ends front [] ends = absurd (true≢false (sym (ends_behind front 46 []) ∙ ends))
part_ends front (b ∷ rest) ends = (omega arith, sym (ends_behind front 46 (b ∷ rest) ∙ ends_later 46 (b ∷ rest) (omega arith)) ∙ ends)

-- ---- the URL of another host

-- the URL with this host, and nothing but its scheme beside
abbrev host_url : Parts → Host (List ℕ) → Parts
host_url url host = record url {
  username = [];
  password = [];
  host = Some host;
  port = None;
  path = codes "/";
  query = None;
  fragment = None;
}

host_valid : (url : Parts) → IsValid url → kind_of url ≡ SpecialNotFile → (host : Host (List ℕ)) → IsHostOf (kind_of url) host → IsValid (host_url url host)
host_valid url valid kind host is_host = record {
  head = record {
    scheme = valid.head.scheme;
    username = All-nil (IsKept USERINFO);
    password = All-nil (IsKept USERINFO);
    host = is_host;
    port = tt;
    bare = λ cannot. (refl, refl, refl);
  };
  path = inl (root_only (kind_of url), λ special. omega arith);
  query = tt;
  fragment = tt;
}

host_shorter : (url : Parts) → IsRead url → (host : Host (List ℕ)) → length (host_text host) ≤ length (host_text (host_or_empty url))
    → length (serialize (host_url url host)) ≤ 8192
host_shorter url read host short =
    let kind = web_kind url read.web in
    let authority = special_has_authority url read.valid.head (ap is_special kind) in
    let bare = bare_shorter url read.valid kind in
    let most = read.short in
    omega (arith, ap length (serialize_bare (host_url url host) refl), ap length (serialize_bare url authority), length-append {A = ℕ})

-- the host is no domain
abbrev is_ip_host : Host (List ℕ) → Bool
is_ip_host host = not (is_some (domain_of host))

-- the host makes an origin at the default port that reads back
host_reads : (url : Parts) → IsRead url → (host : Host (List ℕ)) → IsHostOf (kind_of url) host → ends_with_dot (host_text host) ≡ false
    → length (host_text host) ≤ length (host_text (host_or_empty url))
    → ReadsBack (default_origin (bytes_eq url.scheme (codes "https")) (is_ip_host host) (host_text host))
host_reads url read host is_host ends short =
    let kind = web_kind url read.web in
    let other = host_url url host in
    let valid = host_valid url read.valid kind host is_host in
    let text : host_of other ≡ host_text host = host_of_is other valid kind in
    let is_read : IsRead other = record {
      valid = valid;
      web = read.web;
      no_dot = ap ends_with_dot text ∙ ends;
      short = host_shorter url read host short;
    } in
    let ip : is_ip other ≡ is_ip_host host = ap (λ o. not (is_some (option_and_then domain_of o))) (cond-true _ (Some host) None (has_host_is other valid kind)) in
    let https = https_is url read.web in
    let port : port_of other ≡ default_port_of (bytes_eq url.scheme (codes "https")) =
    ap (λ s. unwrap_or (default_port s) 0) https.2 ∙ ap (λ p. unwrap_or p 0) (default_port_is https.0) ∙ ap default_port_of (sym https.1) in
    subst (λ (o : PlainOrigin). ReadsBack o) (λ i. record { https = bytes_eq url.scheme (codes "https"); ip = ip i; host = text i; port = port i }) (reads_back other is_read)

-- each label suffix of the host reads back
pub suffixes_read_back : (url : Parts) → IsRead url → SuffixesReadBack (bytes_eq url.scheme (codes "https")) (is_ip url) (host_of url)
suffixes_read_back url read suffix is =
    let kind = web_kind url read.web in
    let authority = special_has_authority url read.valid.head (ap is_special kind) in
    let is_host = own_host url read.valid.head authority in
    let text = host_of_is url read.valid kind in
    let ends : ends_with_dot (host_text (host_or_empty url)) ≡ false = ap ends_with_dot (sym text) ∙ read.no_dot in
    let ip : is_ip url ≡ is_ip_host (host_or_empty url) =
    ap (λ o. not (is_some (option_and_then domain_of o))) (cond-true _ url.host None (has_host_is url read.valid kind)) ∙ kind_same url.host authority in
    ⊎_elim
    (λ whole.
    subst (λ (o : PlainOrigin). ReadsBack o)
    (λ i. default_origin (bytes_eq url.scheme (codes "https")) (sym ip i) (sym (whole ∙ text) i))
    (host_reads url read (host_or_empty url) is_host ends (omega arith)))
    (λ dotted.
    subst (λ b. ReadsBack (default_origin (bytes_eq url.scheme (codes "https")) b suffix)) (sym dotted.0)
    (behind (host_or_empty url) refl is_host (sym ip ∙ dotted.0) dotted.1.0 (sym text ∙ dotted.1.1) ends))
    is
  where
    kind_same : (o : Option (Host (List ℕ))) → is_some o ≡ true → not (is_some (option_and_then domain_of o)) ≡ is_ip_host (unwrap_or o (Domain []))
    kind_same (Some host) some = refl
    kind_same None some = cc

    behind : (host : Host (List ℕ)) → host_or_empty url ≡ host → IsHostOf (kind_of url) host → is_ip_host host ≡ false
        → (front : List ℕ) → host_text host ≡ front ++ 46 ∷ suffix → ends_with_dot (host_text host) ≡ false
        → ReadsBack (default_origin (bytes_eq url.scheme (codes "https")) false suffix)
    behind (Ipv4 address) own is_host domain front dotted ends = cc
    behind (Ipv6 address) own is_host domain front dotted ends = cc
    behind (Domain name) own is_host domain front dotted ends =
        let kind = web_kind url read.web in
        let part = part_ends front suffix (ap ends_with_dot (sym dotted) ∙ ends) in
        let whole = (subst (λ k. IsHostOf k (Domain name)) kind is_host).0 in
        let is_domain = domain_behind front suffix (subst IsDomain dotted whole) (last_label_some suffix part.0 part.1) in
        let shorter : length suffix ≤ length (host_text (host_or_empty url)) = omega (arith, ap (λ h. length (host_text h)) own, ap length dotted, length-append front (46 ∷ suffix)) in
        host_reads url read (Domain suffix) (subst (λ k. IsHostOf k (Domain suffix)) (sym kind) (is_domain, part.0)) part.1 shorter

-- the fact, of a host with the same fields
pub same_suffixes : {a b : Bool} {c d : Bool} {h k : List ℕ} → a ≡ b → c ≡ d → h ≡ k → SuffixesReadBack b d k → SuffixesReadBack a c h
same_suffixes {a} {b} {c} {d} {h} {k} e f g reads suffix is =
    subst (λ (o : PlainOrigin). ReadsBack o) (λ i. default_origin (sym e i) (sym f i) suffix)
    (reads suffix (subst (λ ip. IsLabelSuffix ip k suffix) f (subst (λ host. IsLabelSuffix c host suffix) g is)))
