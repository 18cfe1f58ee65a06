-- The text of a valid web URL's origin parses to that URL without all else.
use Rattle.std.proofs.Common.{◌≡◌, ◌≢◌, ℕ, ◌-◌, Bool, false, not, ◌&&◌}
use Rattle.std.proofs.Common.{◌||◌, ◌==◌, ltb, List, [], ◌∷◌, ◌++◌, length, take, drop}
use Rattle.std.proofs.Common.{None, Ok, All, sym, refl, ap, ◌∙◌, subst, inl}
use Rattle.std.proofs.Common.{append-nil, arith}
use Rattle.std.specs.Prelude.{is_some, unwrap_or, option_map, decimal, codes}
use Rattle.std.specs.List.{prefix_len, suffix_len}
use Rattle.std.proofs.lemmas.Bool.{cond-true, cond-false}
use Rattle.std.proofs.lemmas.Bool.Decides.{nat_tests}
use Rattle.std.proofs.lemmas.List.{take_all}
use Rattle.std.proofs.lemmas.List.Sums.{suffix_len_is}
use Rattle.std.proofs.lemmas.List.Elements.{All-nil, All-cons, All-head, All-append}
use Rattle.std.proofs.lemmas.List.Elements.{All-weaker}
use Rattle.percent_encoding.proofs.PercentLemmas.{percent_encode-nil}
use Rattle.percent_encoding.specs.Percent.{IsKept}
use Rattle.url.specs.declared.slicing.Position.TheVariants.{BeforeUsername, AfterPort}
use Rattle.url.specs.declared.sets.TheConstants.{PATH, USERINFO}
use Rattle.url.specs.declared.scheme.SchemeType.TheVariants.{SpecialNotFile}
use Rattle.url.specs.Input.{when, is_c0_control_or_space, is_tab_or_new_line}
use Rattle.url.specs.Input.{trim_c0_control_and_space, strip_tabs_and_new_lines, split_once}
use Rattle.url.specs.Scheme.{is_special, is_file, is_slash, is_scheme_byte}
use Rattle.url.specs.Host.{host_text, parse_host, IsHostOf}
use Rattle.url.specs.Path.{segment_len, parse_path_start, parse_segments, push_segment, dot_count}
use Rattle.url.specs.Parts.{Parts, kind_of, host_or_empty, text_between}
use Rattle.url.specs.Parts.{IsValidHead, IsValid}
use Rattle.url.specs.Head.{head_only}
use Rattle.url.specs.Parser.{parse_url, parse_parts, parse_body, after_double_slash}
use Rattle.url.specs.Parser.{parse_authority, split_scheme, and_then, with_path}
use Rattle.url.specs.Parser.{parse_by_scheme, with_tail, before_tail, Parsed}
use Rattle.url.proofs.InputLemmas.{IsNot, Passes, StopsAt, prefix_len_at, split_once_none}
use Rattle.url.proofs.InputLemmas.{filter_all, is_empty_nonempty}
use Rattle.url.proofs.SchemeLemmas.{scheme_bytes}
use Rattle.url.proofs.TextLemmas.{is_authority_byte, authority_bytes}
use Rattle.url.proofs.SetterLemmas.{own_host}
use Rattle.url.proofs.PathLemmas.{root_only}
use Rattle.url.proofs.ParsedCanonical.{before_special}
use Rattle.std.proofs.Math.ListN.{drop_of_length-le}
use Rattle.url.proofs.ValidLemmas.{special_has_authority}
use Rattle.url.proofs.HostRoundTrip.{parse_special_host-host_text}
use Rattle.url.proofs.RoundTrip.{split_own_scheme, parse_own_authority, host_nonempty}

-- `scheme://host`, and `:port` where there is one
abbrev pub origin_text_of : Parts → List ℕ
origin_text_of url =
    url.scheme ++ (codes "://" ++ (host_text (host_or_empty url)
    ++ (when (is_some url.port) (codes ":") ++ unwrap_or (option_map decimal url.port) [])))

-- the URL of such a text
abbrev pub bare_url : Parts → Parts
bare_url url =
    record url { username = []; password = []; path = codes "/"; query = None; fragment = None }

-- the URL with nothing but scheme, host and port is valid
pub bare_valid : (url : Parts) → IsValid url → kind_of url ≡ SpecialNotFile → IsValid (bare_url url)
bare_valid url valid kind = record {
  head = record {
    scheme = valid.head.scheme;
    username = All-nil (IsKept USERINFO);
    password = All-nil (IsKept USERINFO);
    host = valid.head.host;
    port = valid.head.port;
    bare = λ cannot. let bare = valid.head.bare cannot in (refl, refl, bare.2);
  };
  path = inl (root_only (kind_of url), λ special. omega arith);
  query = tt;
  fragment = tt;
}

-- a byte above the space that is neither `#` nor `?`
abbrev is_plain_byte : ℕ → Bool
is_plain_byte b = ltb 32 b && not (b == 35 || b == 63)

first_kept : (xs : List ℕ) → All (Passes is_plain_byte) xs → prefix_len is_c0_control_or_space xs ≡ 0
first_kept [] plain = refl
first_kept (x ∷ xs) plain = let here = All-head (Passes is_plain_byte) x xs plain in
    let above : is_c0_control_or_space x ≡ false = grind (arith, nat_tests) in
    cond-false _ _ _ above

last_kept : (xs : List ℕ) → All (Passes is_plain_byte) xs → suffix_len is_c0_control_or_space xs ≡ length xs - length xs
last_kept xs plain =
    suffix_len_is is_c0_control_or_space xs (length xs) 0 (omega arith) (λ k at inside. absurd (omega arith))
    (λ some. let here = plain (length xs - 1) 0 (omega arith) in grind (arith, nat_tests))

clean : (xs : List ℕ) → All (Passes is_plain_byte) xs → strip_tabs_and_new_lines (trim_c0_control_and_space xs) ≡ xs
unfolding trim_c0_control_and_space strip_tabs_and_new_lines
clean xs plain =
    let trimmed : trim_c0_control_and_space xs ≡ xs = rw (first_kept xs plain, last_kept xs plain) (take_all _ xs (omega arith)) in
    ap strip_tabs_and_new_lines trimmed ∙ filter_all _ xs (All-weaker (Passes is_plain_byte) (Passes (λ b. not (is_tab_or_new_line b))) (λ b here. grind (arith, nat_tests)) xs plain)

-- the text's own parts
abbrev authority_of : Parts → List ℕ
authority_of url = text_between (bare_url url) BeforeUsername AfterPort

origin_text_parts : (url : Parts) → origin_text_of url ≡ url.scheme ++ 58 ∷ 47 ∷ 47 ∷ authority_of url
origin_text_parts url = simp append-nil

origin_text_plain : (url : Parts) → IsValidHead (bare_url url) → All (Passes is_plain_byte) (url.scheme ++ 58 ∷ 47 ∷ 47 ∷ authority_of url)
origin_text_plain url valid =
    let scheme = All-weaker (Passes is_scheme_byte) (Passes is_plain_byte) (λ b here. grind (arith, nat_tests)) url.scheme (scheme_bytes url.scheme valid.scheme) in
    let authority = All-weaker (Passes is_authority_byte) (Passes is_plain_byte) (λ b here. grind (arith, nat_tests)) (authority_of url) (authority_bytes (bare_url url) valid) in
    All-append (Passes is_plain_byte) url.scheme (58 ∷ 47 ∷ 47 ∷ authority_of url) scheme
    (All-cons (Passes is_plain_byte) 58 (47 ∷ 47 ∷ authority_of url) refl (All-cons (Passes is_plain_byte) 47 (47 ∷ authority_of url) refl (All-cons (Passes is_plain_byte) 47 (authority_of url) refl authority)))

not_mark : (c : ℕ) (xs : List ℕ) → ((b : ℕ) → Passes is_plain_byte b → b ≢ c) → All (Passes is_plain_byte) xs → All (IsNot c) xs
not_mark c xs other plain = All-weaker (Passes is_plain_byte) (IsNot c) other xs plain

stops_at_authority : (xs : List ℕ) → All (Passes is_authority_byte) xs → StopsAt (λ b. b == 47 || b == 92) xs
stops_at_authority [] all = tt
stops_at_authority (x ∷ xs) all = let here = All-head (Passes is_authority_byte) x xs all in grind (arith, nat_tests)

-- an empty path is read as the root
root_path : parse_path_start SpecialNotFile [] [] ≡ 47 ∷ []
unfolding parse_path_start parse_segments push_segment dot_count
root_path = ap (λ p. 47 ∷ p) (percent_encode-nil PATH)

authority_parses : (url : Parts) → IsValid (bare_url url) → kind_of url ≡ SpecialNotFile → parse_authority url.scheme (authority_of url) ≡ Ok (head_only (bare_url url))
authority_parses url valid kind =
    let bare = bare_url url in
    let authority = special_has_authority bare valid.head (ap is_special kind) in
    let host = host_or_empty bare in
    let is_host = subst (λ k. IsHostOf k host) kind (own_host bare valid.head authority) in
    parse_own_authority bare valid.head authority (ap (λ k. parse_host k (host_text host)) kind ∙ parse_special_host-host_text host is_host) (rw (is_empty_nonempty _ (host_nonempty host is_host)))

body_parses : (url : Parts) → IsValid (bare_url url) → kind_of url ≡ SpecialNotFile → after_double_slash url.scheme (authority_of url) ≡ Ok (bare_url url)
unfolding after_double_slash
body_parses url valid kind =
    let text = authority_of url in
    let bytes = authority_bytes (bare_url url) valid.head in
    let test = λ (b : ℕ). not (is_slash (kind_of url) b) in
    let whole = All-weaker (Passes is_authority_byte) (Passes test) (λ b here. grind (arith, nat_tests)) text bytes in
    let len : prefix_len test text ≡ length text = ap (prefix_len test) (sym (append-nil text)) ∙ prefix_len_at test text [] whole tt in
    let front : take (segment_len (kind_of url) text) text ≡ text = take_all _ text (omega (arith, len)) in
    let back : drop (segment_len (kind_of url) text) text ≡ [] = drop_of_length-le text (omega (arith, len)) in
    ap (λ r. and_then r (λ head. Ok (with_path head (parse_path_start (kind_of url) [] (drop (segment_len (kind_of url) text) text))))) (ap (parse_authority url.scheme) front ∙ authority_parses url valid kind)
    ∙ ap (λ p. Ok (with_path (head_only (bare_url url)) p)) ((λ i. parse_path_start (kind i) [] (back i)) ∙ root_path)

-- the text of an origin reads back
pub origin_text_reads : (url : Parts) → IsValid url → kind_of url ≡ SpecialNotFile → parse_url None (origin_text_of url) ≡ Ok (bare_url url)
unfolding parse_url parse_parts parse_body
origin_text_reads url valid kind =
    let bare = bare_url url in
    let is_valid = bare_valid url valid kind in
    let text = url.scheme ++ 58 ∷ 47 ∷ 47 ∷ authority_of url in
    let plain = origin_text_plain url is_valid.head in
    let hash = ap (split_once 35) (ap (λ t. strip_tabs_and_new_lines (trim_c0_control_and_space t)) (origin_text_parts url) ∙ clean text plain) ∙ split_once_none 35 text (not_mark 35 text (λ b here same. grind (arith, nat_tests)) plain) in
    let question = ap (λ r. split_once 63 r.0) hash ∙ split_once_none 63 text (not_mark 63 text (λ b here same. grind (arith, nat_tests)) plain) in
    let scheme = ap (λ r. split_scheme r.0) question ∙ split_own_scheme url.scheme (47 ∷ 47 ∷ authority_of url) valid.head.scheme in
    let slashes = prefix_len_at (λ b. b == 47 || b == 92) (47 ∷ 47 ∷ []) (authority_of url)
    (All-cons (Passes (λ b. b == 47 || b == 92)) 47 (47 ∷ []) refl (All-cons (Passes (λ b. b == 47 || b == 92)) 47 [] refl (All-nil (Passes (λ b. b == 47 || b == 92)))))
    (stops_at_authority (authority_of url) (authority_bytes bare is_valid.head)) in
    let finish = λ (r : Parsed Parts). and_then r (λ u. Ok (with_tail (before_tail u None None) None None)) in
    (λ i. parse_by_scheme (scheme i) None (question i).0 (question i).1 (hash i).1)
    ∙ ap (λ s. parse_parts s None (47 ∷ 47 ∷ authority_of url) None None) valid.head.scheme.lower
    ∙ ap finish (cond-false _ _ _ (ap is_file kind) ∙ cond-true _ _ _ (ap is_special kind)
    ∙ ap (λ n. after_double_slash url.scheme (drop n (47 ∷ 47 ∷ authority_of url))) slashes ∙ body_parses url is_valid kind)
    ∙ ap (λ u. Ok (with_tail u None None)) (before_special bare None None (ap is_special kind))
