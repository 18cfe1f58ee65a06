-- The host of an address tells by its text whether it is an IP address.
use Rattle.std.proofs.Common.{◌≡◌, ◌≢◌, ℕ, suc, ◌+◌, ◌-◌, ◌^◌, ◌<◌, ◌≤◌, ◌==◌, Bool, true, false, cond, not, ◌&&◌, ◌||◌, nat_lt}
use Rattle.std.proofs.Common.{List, [], ◌∷◌, ◌++◌, length, take, drop, get_or, Option, Some, None, Result, Ok, Err, All}
use Rattle.std.proofs.Common.{refl, ap, ◌∙◌, sym, subst, arith, append_assoc, ne_eqb, inl, inr, ⊎_elim, drop_at}
use Rattle.std.specs.Prelude.{is_some, unwrap_or, option_map, option_and_then, slice_index, codes, bytes_eq, decimal}
use Rattle.std.specs.Char.{is_ascii_digit}
use Rattle.std.specs.Int.{IsInRange, w32, to_be_bytes, byte_at, bytes_high_first}
use Rattle.std.specs.List.{join_with_byte, list_all, list_any, onto_first}
use Rattle.std.specs.Net.Text.{dotted_text, ipv4_text}
use Rattle.std.proofs.lemmas.Bool.{true≢false, or_parts, and_from, cond-true, lt-ltb}
use Rattle.std.proofs.lemmas.Bool.Decides.{nat_tests}
use Rattle.std.proofs.lemmas.Fmt.{decimal_is_IsNumeral}
use Rattle.std.proofs.lemmas.List.Elements.{All-weaker}
use Rattle.url.specs.declared.error.ParseError.{ParseError}
use Rattle.url.specs.declared.host.Host.{Host}
use Rattle.url.specs.declared.host.Host.TheVariants.{Domain, Ipv4, Ipv6}
use Rattle.url.specs.declared.scheme.SchemeType.{SchemeType}
use Rattle.url.specs.declared.scheme.SchemeType.TheVariants.{File, SpecialNotFile, NotSpecial}
use Rattle.url.specs.Head.{scheme_only, with_authority}
use Rattle.url.specs.Host.{ascii_domain, domain_of, host_of_ascii, host_text, ipv4_host, ipv6_host, is_empty_host, is_forbidden_in_domain, parse_bracketed, parse_file_host, parse_host, parse_special_host}
use Rattle.url.specs.Input.{is_empty, lowercase, rsplit_once, rsplit_step, split_once, strip_tabs_and_new_lines, trim_c0_control_and_space}
use Rattle.url.specs.Ipv4.{ends_in_a_number, last_label, parse_ipv4, parse_number}
use Rattle.url.specs.Ipv4 as ipv4
use Rattle.url.specs.Parser.{Parsed, after_double_slash, after_file_double_slash, and_then, before_tail, file_start, file_with_host, lacks_host, leading_slashes, parse_all, parse_authority, parse_body, parse_by_scheme, parse_file, parse_non_special, parse_not_file, parse_parts, parse_port, parse_url, skip_slashes, split_port, split_scheme, with_path, with_tail}
use Rattle.url.specs.Parts.{Parts, kind_of, serialize}
use Rattle.url.specs.Path.{escape_end, is_windows_drive_letter, parse_path, parse_path_start, segment_len}
use Rattle.url.specs.Scheme.{is_file, is_special, scheme_type}
use Rattle.percent_encoding.specs.Percent.{percent_decode}
use Rattle.url.specs.declared.sets.TheConstants.{FORBIDDEN_DOMAIN}
use Rattle.url.proofs.HostLemmas.{none_from_list_any}
use Rattle.url.proofs.HostRoundTrip.{All-decimal}
use Rattle.url.proofs.SetLemmas.{All_kept_differs}
use Rattle.url.proofs.InputLemmas.{IsNot, Passes, is_empty_nonempty, list_all_from_All, rsplit_once_at}
use Rattle.suffix_list.specs.Suffix.{labels_of, last_labels, last_of}
use Rattle.suffix_list.proofs.EndLemmas.{front_labels}
use Rattle.suffix_list.proofs.LabelLemmas.{join_labels, last_of_more, some_label}
use Rattle.suffix_list.specs.Names.{BeginsLabel}
use Rattle.origin_site.specs.declared.address.AddressFault.TheVariants.{OtherScheme, TooLong, TrailingDot}
use Rattle.origin_site.specs.Address.{PlainAddress, address_by, address_of, address_of_parts, address_parts, ends_with_dot, host_of, is_ip, is_web}
use Rattle.origin_site.specs.Own.{AddressesTellTheirKind, is_decimal_digit, is_ip_host, is_decimal}
use Rattle.origin_site.proofs.OriginLemmas.{web_from_test, web_kind}
use Rattle.origin_site.proofs.SuffixLemmas.{last_is, last_label_some}

-- ---- the last label

-- the last one of labels is the last label
pub last_one : (front : List (List ℕ)) (label : List ℕ) → join_with_byte 46 (last_of 1 (front ++ label ∷ [])) ≡ label
last_one [] label = refl
last_one (first ∷ []) label = refl
last_one (first ∷ next ∷ front) label =
    ap (join_with_byte 46) (last_of_more 1 first (next ∷ (front ++ label ∷ [])) (omega arith)) ∙ last_one (next ∷ front) label

-- what stands behind the last dot is the last label
pub last_behind_dot : (host : List ℕ) (start : ℕ) → BeginsLabel host start → labels_of (drop start host) ≡ drop start host ∷ []
    → drop start host ≡ last_labels 1 host
last_behind_dot host start begins one =
    let front = front_labels host start begins in
    sym (ap (λ ls. join_with_byte 46 (last_of 1 ls)) (front.1 ∙ ap (λ ls. front.0 ++ ls) one) ∙ last_one front.0 (drop start host))

-- one byte more in front of these labels
abbrev more_labels : ℕ → List (List ℕ) → List (List ℕ)
more_labels b labels = cond (b == 46) ([] ∷ labels) (onto_first b labels)

-- what `rsplit_once` gave, and the labels
abbrev SameLast : Option (List ℕ) → List ℕ → List (List ℕ) → Type 0
SameLast front back labels = (back ≡ join_with_byte 46 (last_of 1 labels)) × (is_some front ≡ nat_lt 1 (length labels))

one_more : (b : ℕ) (front : Option (List ℕ)) (back : List ℕ) (labels : List (List ℕ)) → 0 < length labels → SameLast front back labels
    → SameLast (rsplit_step 46 b front back).0 (rsplit_step 46 b front back).1 (more_labels b labels)
one_more b front back [] some same = absurd (omega arith)
one_more b (Some front) back (label ∷ []) some same = cc
one_more b None back (label ∷ next ∷ labels) some same = absurd (true≢false (sym (lt-ltb 1 (length (label ∷ next ∷ labels)) (omega arith)) ∙ sym same.1))
one_more b (Some front) back (label ∷ next ∷ labels) some same = by (b == 46)
  where
    by : (dot : Bool) → SameLast (Some (b ∷ front)) back (cond dot ([] ∷ label ∷ next ∷ labels) ((b ∷ label) ∷ next ∷ labels))
    by true = (same.0 ∙ ap (join_with_byte 46) (sym (last_of_more 1 [] (label ∷ next ∷ labels) (omega arith))), sym (lt-ltb 1 (length ([] ∷ label ∷ next ∷ labels)) (omega arith)))
    by false =
        (same.0 ∙ ap (join_with_byte 46) (last_of_more 1 label (next ∷ labels) (omega arith) ∙ sym (last_of_more 1 (b ∷ label) (next ∷ labels) (omega arith))), sym (lt-ltb 1 (length ((b ∷ label) ∷ next ∷ labels)) (omega arith)))
one_more b None back (label ∷ []) some same = by (b == 46)
  where
    by : (dot : Bool)
        → SameLast (cond {A = Option (List ℕ) × List ℕ} dot (Some [], back) (None, b ∷ back)).0 (cond {A = Option (List ℕ) × List ℕ} dot (Some [], back) (None, b ∷ back)).1
        (cond dot ([] ∷ label ∷ []) ((b ∷ label) ∷ []))
    by true = (same.0, refl)
    by false = (ap (λ bs. b ∷ bs) same.0, refl)

same_last : (host : List ℕ) → SameLast (rsplit_once 46 host).0 (rsplit_once 46 host).1 (labels_of host)
unfolding rsplit_once
same_last [] = (refl, refl)
same_last (b ∷ host) = one_more b (rsplit_once 46 host).0 (rsplit_once 46 host).1 (labels_of host) (some_label host) (same_last host)

-- ---- hosts

-- the text of a host tells its kind
abbrev TellsKind : Host (List ℕ) → Type 0
TellsKind host = (is_empty_host host ≡ false) × (ends_with_dot (host_text host) ≡ false → not (is_some (domain_of host)) ≡ is_ip_host (host_text host))

-- a decimal is a number
decimal_number : (n : ℕ) → n < 256 → is_decimal (decimal n) ≡ true
decimal_number n fits =
    let some = is_empty_nonempty (decimal n) (decimal_is_IsNumeral n (omega arith)).0.0 in
    let digits = list_all_from_All is_decimal_digit (decimal n)
    (All-weaker (IsInRange 48 57) (Passes is_decimal_digit) (λ b h. grind (arith, nat_tests)) (decimal n) (All-decimal n (omega arith))) in
    and_from _ _ (ap not some) digits

ends_in_decimal : (front : List ℕ) (n : ℕ) → n < 256 → is_decimal (last_labels 1 (front ++ 46 ∷ decimal n)) ≡ true
ends_in_decimal front n fits =
    let no_dot = All-weaker (IsInRange 48 57) (IsNot 46) (λ b h. omega arith) (decimal n) (All-decimal n (omega arith)) in
    ap is_decimal (sym (same_last (front ++ 46 ∷ decimal n)).0 ∙ ap (λ r. r.1) (rsplit_once_at 46 front (decimal n) no_dot)) ∙ decimal_number n fits

dotted_is : (a b c d : ℕ) → d < 256 → is_ip_host (dotted_text a b c d) ≡ true
dotted_is a b c d fits =
    let by_last : dotted_text a b c d ≡ (decimal a ++ 46 ∷ (decimal b ++ 46 ∷ decimal c)) ++ 46 ∷ decimal d = simp append_assoc in
    or_second_holds (slice_index (dotted_text a b c d) 0 == 91) (ap (λ t. is_decimal (last_labels 1 t)) by_last ∙ ends_in_decimal (decimal a ++ 46 ∷ (decimal b ++ 46 ∷ decimal c)) d fits)
  where
    or_second_holds : (x : Bool) {y : Bool} → y ≡ true → (x || y) ≡ true
    or_second_holds true is = refl
    or_second_holds false is = is

ipv4_tells : (bits : ℕ) → TellsKind (Ipv4 (record { octets = to_be_bytes w32 bits }))
ipv4_tells bits = (refl, λ ends. sym (dotted_is (byte_at 3 bits) (byte_at 2 bits) (byte_at 1 bits) (byte_at 0 bits) (omega arith)))

ipv6_tells : (segments : List ℕ) → TellsKind (Ipv6 (record { segments = segments }))
ipv6_tells segments = (refl, λ ends. refl)

-- a domain with no forbidden byte does not begin with a bracket
no_bracket : (domain : List ℕ) → list_any is_forbidden_in_domain domain ≡ false → (slice_index domain 0 == 91) ≡ false
no_bracket [] none = refl
no_bracket (b ∷ domain) none =
    ne_eqb b 91 (All_kept_differs FORBIDDEN_DOMAIN 91 refl (b ∷ domain) (none_from_list_any is_forbidden_in_domain (b ∷ domain) none) 0 0 (omega arith))

domain_tells : (domain : List ℕ) → is_empty domain ≡ false → list_any is_forbidden_in_domain domain ≡ false → ends_in_a_number domain ≡ false → TellsKind (Domain domain)
unfolding ends_in_a_number
domain_tells domain some allowed named = (
  some,
  λ ends.
      let nonempty : 0 < length domain = grind (arith, nat_tests) in
      let back = last_label_some domain nonempty ends in
      let last : last_label domain ≡ last_labels 1 domain = last_is (rsplit_once 46 domain).0 (rsplit_once 46 domain).1 back ∙ (same_last domain).0 in
      let other : is_decimal (last_labels 1 domain) ≡ false = ap is_decimal (sym last) ∙ (or_parts _ _ named).0 in
      sym ((λ i. no_bracket domain allowed i || other i)),
)

-- ---- parsing

ok_then : {A B P : Type 0} (r : Parsed A) (next : A → Parsed B) (y : B) → and_then r next ≡ Ok y → ((x : A) → r ≡ Ok x → next x ≡ Ok y → P) → P
ok_then (Ok x) next y e k = k x refl e
ok_then (Err d) next y e k = cc

past_error : {A : Type 0} (test : Bool) (d : ParseError) (r : Parsed A) (y : A) → cond test (Err d) r ≡ Ok y → (test ≡ false) × (r ≡ Ok y)
past_error true d r y e = cc
past_error false d r y e = (refl, e)

by_test : {A P : Type 0} (test : Bool) (r s : Parsed A) (y : A) → cond test r s ≡ Ok y → (test ≡ true → r ≡ Ok y → P) → (test ≡ false → s ≡ Ok y → P) → P
by_test true r s y e k l = k refl e
by_test false r s y e k l = l refl e

same_ok : {A : Type 0} (x y : A) → ◌≡◌ {A = Parsed A} (Ok x) (Ok y) → x ≡ y
same_ok x y e = cc

ipv6_made : (o : Option (List ℕ)) (host : Host (List ℕ)) → ipv6_host o ≡ Ok host → TellsKind host
ipv6_made None host e = cc
ipv6_made (Some segments) host e = subst TellsKind (same_ok (Ipv6 (record { segments = segments })) host e) (ipv6_tells segments)

bracketed_made : (bytes : List ℕ) (host : Host (List ℕ)) → parse_bracketed bytes ≡ Ok host → TellsKind host
unfolding parse_bracketed
bracketed_made bytes host e = by_test (get_or bytes (length bytes - 1) 0 == 93) _ _ host e (λ _ k. ipv6_made _ host k) (λ _ k. cc)

ipv4_made : (o : Option ℕ) (host : Host (List ℕ)) → ipv4_host o ≡ Ok host → TellsKind host
ipv4_made None host e = cc
ipv4_made (Some bits) host e = subst TellsKind (same_ok (Ipv4 (record { octets = to_be_bytes w32 bits })) host e) (ipv4_tells bits)

ascii_made : (o : Option (List ℕ)) (host : Host (List ℕ)) → host_of_ascii o ≡ Ok host → TellsKind host
ascii_made None host e = cc
ascii_made (Some domain) host e =
    let some = past_error (is_empty domain) _ _ host e in
    let allowed = past_error (list_any is_forbidden_in_domain domain) _ _ host some.1 in
    by_test (ends_in_a_number domain) _ _ host allowed.1 (λ _ k. ipv4_made (parse_ipv4 domain) host k)
    (λ named k. subst TellsKind (same_ok (Domain domain) host k) (domain_tells domain some.0 allowed.0 named))

special_made : (bytes : List ℕ) (host : Host (List ℕ)) → parse_special_host bytes ≡ Ok host → TellsKind host
unfolding parse_special_host
special_made bytes host e = by_test (get_or bytes 0 0 == 91) _ _ host e (λ _ k. bracketed_made bytes host k) (λ _ k. ascii_made (ascii_domain (percent_decode bytes)) host k)

-- ---- URLs

-- a URL on the web tells the kind of its host
abbrev UrlTells : Parts → Type 0
UrlTells url = is_web url ≡ true → ends_with_dot (host_of url) ≡ false → is_ip url ≡ is_ip_host (host_of url)

-- the host of a URL that is not empty
abbrev shown : Option (Host (List ℕ)) → Option (Host (List ℕ))
shown o = cond (not (is_empty_host (unwrap_or o (Domain [])))) o None

host_tells : (url : Parts) (host : Host (List ℕ)) → url.host ≡ Some host → TellsKind host → ends_with_dot (host_of url) ≡ false → is_ip url ≡ is_ip_host (host_of url)
host_tells url host is tells =
    let same : shown url.host ≡ Some host = ap shown is ∙ cond-true (not (is_empty_host host)) (Some host) None (ap not tells.0) in
    subst (λ o. ends_with_dot (unwrap_or (option_map host_text o) []) ≡ false → not (is_some (option_and_then domain_of o)) ≡ is_ip_host (unwrap_or (option_map host_text o) [])) (sym same) tells.1

authority_made : (scheme bytes : List ℕ) (head : Parts) → parse_authority scheme bytes ≡ Ok head → UrlTells head
unfolding parse_authority
authority_made scheme bytes head e =
    let text = (split_port (rsplit_once 64 bytes).1).0 in
    let lacks = lacks_host (rsplit_once 64 bytes).0 text (split_port (rsplit_once 64 bytes).1).1 in
    ok_then (parse_host (scheme_type scheme) text) _ head (past_error lacks _ _ head e).1 λ host read e₁.
    ok_then (parse_port scheme (unwrap_or (split_port (rsplit_once 64 bytes).1).1 [])) _ head e₁ λ port got e₂.
    subst UrlTells (same_ok _ head e₂)
    (λ web. let kind = web_kind (with_authority scheme [] [] host port) (web_from_test (with_authority scheme [] [] host port) web) in
    host_tells (with_authority scheme (split_once 58 (unwrap_or (rsplit_once 64 bytes).0 [])).0 (unwrap_or (split_once 58 (unwrap_or (rsplit_once 64 bytes).0 [])).1 []) host port) host refl
    (special_made text host (subst (λ k. parse_host k text ≡ Ok host) kind read)))

slashes_made : (scheme bytes : List ℕ) (url : Parts) → after_double_slash scheme bytes ≡ Ok url → UrlTells url
unfolding after_double_slash
slashes_made scheme bytes url e =
    let kind = scheme_type scheme in
    let len = segment_len kind bytes in
    ok_then (parse_authority scheme (take len bytes)) _ url e λ head read e₁.
    subst UrlTells (same_ok (with_path head (parse_path_start kind [] (drop len bytes))) url e₁) (authority_made scheme _ head read)

-- a scheme that is not special is not on the web
plain_made : (scheme path : List ℕ) (url : Parts) → is_special (scheme_type scheme) ≡ false → ◌≡◌ {A = Parsed Parts} (Ok (with_path (scheme_only scheme) path)) (Ok url) → UrlTells url
plain_made scheme path url plain e =
    subst UrlTells (same_ok (with_path (scheme_only scheme) path) url e)
    (λ web. absurd (true≢false (sym (ap is_special (web_kind (scheme_only scheme) (web_from_test (scheme_only scheme) web))) ∙ plain)))

not_special_made : (scheme body : List ℕ) (url : Parts) → is_special (scheme_type scheme) ≡ false → parse_non_special scheme body ≡ Ok url → UrlTells url
unfolding parse_non_special
not_special_made scheme body url plain e =
    by_test (leading_slashes NotSpecial body == 2) _ _ url e (λ _ k. slashes_made scheme (drop 2 body) url k) λ _ k.
    by_test (leading_slashes NotSpecial body == 1) _ _ url k (λ _ l. plain_made scheme _ url plain l) λ _ l. plain_made scheme _ url plain l

not_file_made : (scheme body : List ℕ) (url : Parts) → parse_not_file scheme None body ≡ Ok url → UrlTells url
not_file_made scheme body url e =
    by_test (is_special (scheme_type scheme)) _ _ url e (λ _ k. slashes_made scheme (skip_slashes body) url k) (λ plain k. not_special_made scheme body url plain k)

-- a file URL is not on the web
file_tells : (host : Host (List ℕ)) (path : List ℕ) → UrlTells (with_path (file_with_host host) path)
file_tells host path web = cc

file_slashes_made : (bytes : List ℕ) (url : Parts) → after_file_double_slash bytes ≡ Ok url → UrlTells url
unfolding after_file_double_slash
file_slashes_made bytes url e =
    by_test (is_windows_drive_letter (take (segment_len File bytes) bytes)) _ _ url e
    (λ _ k. subst UrlTells (same_ok (with_path (file_with_host (Domain [])) (parse_path File [] bytes)) url k) (file_tells (Domain []) (parse_path File [] bytes)))
    λ _ k. ok_then (parse_file_host (take (segment_len File bytes) bytes)) _ url k λ host read l.
    subst UrlTells (same_ok (with_path (file_with_host host) (parse_path_start File [] (drop (segment_len File bytes) bytes))) url l)
    (file_tells host (parse_path_start File [] (drop (segment_len File bytes) bytes)))

file_made : (body : List ℕ) (url : Parts) → parse_file None body ≡ Ok url → UrlTells url
unfolding parse_file
file_made body url e =
    by_test (leading_slashes File body == 2) _ _ url e (λ _ k. file_slashes_made (drop (leading_slashes File body) body) url k)
    λ _ k. subst UrlTells (same_ok (with_path (file_with_host (Domain [])) (parse_path File [] (drop (leading_slashes File body) body))) url k)
    (file_tells (Domain []) (parse_path File [] (drop (leading_slashes File body) body)))

body_made : (scheme body : List ℕ) (url : Parts) → parse_body scheme None body ≡ Ok url → UrlTells url
unfolding parse_body
body_made scheme body url e = by_test (is_file (scheme_type scheme)) _ _ url e (λ _ k. file_made body url k) (λ _ k. not_file_made scheme body url k)

tail_tells : (url : Parts) (query fragment : Option (List ℕ)) → UrlTells url → UrlTells (with_tail (before_tail url query fragment) query fragment)
tail_tells url query fragment tells = by (not (is_special (kind_of url)) && (is_some query || is_some fragment))
  where
    by : (test : Bool) → UrlTells (with_tail (cond test (with_path url (escape_end url.path)) url) query fragment)
    by true = tells
    by false = tells

parts_made : (scheme body : List ℕ) (query fragment : Option (List ℕ)) (url : Parts) → parse_parts scheme None body query fragment ≡ Ok url → UrlTells url
unfolding parse_parts
parts_made scheme body query fragment url e =
    ok_then (parse_body scheme None body) _ url e λ before read e₁.
    subst UrlTells (same_ok (with_tail (before_tail before query fragment) query fragment) url e₁) (tail_tells before query fragment (body_made scheme body before read))

by_scheme_made : (split : Option (List ℕ × List ℕ)) (body : List ℕ) (query fragment : Option (List ℕ)) (url : Parts) → parse_by_scheme split None body query fragment ≡ Ok url → UrlTells url
by_scheme_made None body query fragment url e = cc
by_scheme_made (Some split) body query fragment url e = parts_made (lowercase split.0) split.1 query fragment url e

url_made : (text : List ℕ) (url : Parts) → parse_url None text ≡ Ok url → UrlTells url
unfolding parse_url
url_made text url e =
    let hash = split_once 35 (strip_tabs_and_new_lines (trim_c0_control_and_space text)) in
    let question = split_once 63 hash.0 in
    by_scheme_made (split_scheme question.0) question.0 question.1 hash.1 url e

-- ---- addresses

parts_tell : (url : Parts) (address : PlainAddress) → UrlTells url → address_of_parts url ≡ Ok address → address.ip ≡ is_ip_host address.host
parts_tell url address tells e = by (is_web url) refl (ends_with_dot (host_of url)) refl (nat_lt 8192 (length (serialize url))) e
  where
    by : (web : Bool) → is_web url ≡ web → (dot : Bool) → ends_with_dot (host_of url) ≡ dot → (long : Bool)
        → cond (not web) (Err OtherScheme) (cond dot (Err TrailingDot) (cond long (Err TooLong) (Ok (address_parts url)))) ≡ Ok address → address.ip ≡ is_ip_host address.host
    by false at dot ends long e = cc
    by true at true ends long e = cc
    by true at false ends true e = cc
    by true at false ends false e =
        let same : address_parts url ≡ address = cc in
        subst (λ (a : PlainAddress). a.ip ≡ is_ip_host a.host) same (tells at ends)

pub addresses_tell : AddressesTellTheirKind
addresses_tell text address e = by (parse_url None text) refl e
  where
    by : (r : Parsed Parts) → parse_url None text ≡ r → address_by r ≡ Ok address → address.ip ≡ is_ip_host address.host
    by (Ok url) at e = parts_tell url address (url_made text url at) e
    by (Err why) at e = cc
