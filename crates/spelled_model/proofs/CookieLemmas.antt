-- The cookie that a text gives at a read address: what of its spelling is not about texts.
use Rattle.std.proofs.Common.{◌≡◌, ℤ, pos, ℕ, zero, suc, ◌+◌, ◌-◌, ◌<◌, ◌≤◌, Bool, true, false, cond, not, List, [], ◌∷◌, ◌++◌, length, get_or, reverse, take, drop, Option, Some, None, refl, sym, ap, arith, ◌∙◌, inl, inr, ⊎_elim}
use Rattle.std.specs.Prelude.{◌&&◌, ◌||◌, FitsSigned, bytes_eq, codes, nat_eq, nat_le, nat_lt, option_map, unwrap_or}
use Rattle.std.specs.Int.{w64}
use Rattle.std.specs.List.{All, before_last, count_by, ends_with, find, prefix_len, slice_index, slice_index_or, suffix_len, sum_by}
use Rattle.std.proofs.lemmas.Bool.{and_from, and_parts, both_ways, eqb-true, le-leb, leb-false, ltb-true, not-false, not-true, or_cases, or_left, or_parts, or_right}
use Rattle.std.proofs.lemmas.Map.Entries.{option_filter}
use Rattle.std.proofs.lemmas.Option.{none-some}
use Rattle.std.proofs.lemmas.List.{drop_more, length-reverse, reverse-append, take-append-drop}
use Rattle.std.proofs.lemmas.List.Sums.{count_by-le-length, sum_by-append, sum_by-cons}
use Rattle.std.proofs.lemmas.Slice.Eq.{bytes_eq-Decides}
use Rattle.suffix_list.specs.Suffix.{Rule}
use Rattle.origin_site.specs.Domain.{IsLabelSuffix}
use Rattle.setcookie_parse.specs.SetCookie.{CookieText}
use Rattle.stored_cookie.specs.StoredCookie.{PlainCookie}
use Rattle.cookie_match.specs.Matching.{default_path, domain_matches, is_below, is_slash}
use Rattle.cookie_jar.specs.declared.cause.CookieDrop.{CookieDrop}
use Rattle.cookie_jar.specs.declared.cause.CookieDrop.TheVariants as why
use Rattle.cookie_jar.specs.Cookie.{pair_bytes, same}
use Rattle.cookie_jar.specs.Drops.{dropped, drop_rows, first_drop, is_mismatch}
use Rattle.cookie_jar.specs.Lifetime.{is_expired}
use Rattle.cookie_jar.specs.NewCookie.{has_such, lower_domain, made, own_domain, renewed}
use Rattle.row_changes.specs.Spelled.{begins_with_slash, is_sound}
use Rattle.agent_model.specs.CookieCells.{Cookies}
use Rattle.agent_model.specs.CookieUse.{CookieUse, access_of, cookie_domain}
use Rattle.spelled_model.specs.Addresses.{IsReadAddress}
use Rattle.spelled_model.proofs.CellLemmas.{IsTimed}
use Rattle.spelled_model.proofs.KeyLemmas.{found_all}
use Rattle.spelled_model.proofs.NameLemmas.{IsHostUnder, suffix_named}
use Rattle.spelled_model.proofs.TextLemmas.{IsReadText, slash_first}

-- ---- the rows of the table of drops

none_first : (rows : List (Bool × CookieDrop)) → first_drop rows ≡ None → (k : ℕ) (d : Bool × CookieDrop) → k < length rows → (slice_index_or rows k d).0 ≡ false
none_first [] e k d low = absurd (omega (arith, low))
none_first (row ∷ rows) e k d low = by row.0 refl (none_first rows) e k low
  where
    by : (b : Bool) → row.0 ≡ b → (first_drop rows ≡ None → (k : ℕ) (d : Bool × CookieDrop) → k < length rows → (slice_index_or rows k d).0 ≡ false) → option_map (λ (r : Bool × CookieDrop). r.1) (cond b (Some row) (find (λ r. r.0) rows)) ≡ None → (k : ℕ) → k < length (row ∷ rows) → (slice_index_or (row ∷ rows) k d).0 ≡ false
    by true is later e k low = absurd (none-some row.1 (sym e))
    by false is later e zero low = is
    by false is later e (suc k) low = later e k d (omega (arith, low))

-- ---- paths

slash_taken : (path : List ℕ) (n : ℕ) → 0 < n → begins_with_slash path ≡ true → begins_with_slash (take n path) ≡ true
slash_taken path zero some is = absurd (omega (arith, some))
slash_taken [] (suc n) some is = is
slash_taken (b ∷ path) (suc n) some is = is

count_reversed : (p : ℕ → Bool) (xs : List ℕ) → count_by p (reverse xs) ≡ count_by p xs
count_reversed p [] = refl
count_reversed p (x ∷ xs) =
    let one = λ (y : ℕ). cond (p y) 1 0 in
    let last : sum_by one (x ∷ []) ≡ one x + 0 = sum_by-cons one x [] in
    ap (count_by p) (reverse-append (x ∷ []) xs) ∙ omega (arith, sum_by-append one (reverse xs) (x ∷ []), sum_by-cons one x xs, last, count_reversed p xs)

count_behind : (p : ℕ → Bool) (xs : List ℕ) → count_by p xs + prefix_len (λ x. not (p x)) xs ≤ length xs
count_behind p [] = omega arith
count_behind p (x ∷ xs) = by (p x) (count_behind p xs) (sum_by-cons (λ y. cond (p y) 1 0) x xs) (count_by-le-length p xs)
  where
    by : (b : Bool) → count_by p xs + prefix_len (λ y. not (p y)) xs ≤ length xs → count_by p (x ∷ xs) ≡ cond b 1 0 + count_by p xs → count_by p xs ≤ length xs
        → count_by p (x ∷ xs) + cond (not b) (1 + prefix_len (λ y. not (p y)) xs) 0 ≤ length (x ∷ xs)
    by true less is whole = omega (arith, whole, is)
    by false less is whole = omega (arith, less, is)

-- where a path has more than one `/`, its last one is not its first byte
before_some : (path : List ℕ) → 1 < count_by is_slash path → 0 < length path - suffix_len (λ b. not (is_slash b)) path - 1
before_some path more = omega (arith, more, count_reversed is_slash path, count_behind is_slash (reverse path), length-reverse path)

-- the default path of every path begins with `/`
default_slash : (path : List ℕ) → begins_with_slash (default_path path) ≡ true
default_slash path = by (is_slash (slice_index path 0)) (nat_le (count_by is_slash path) 1) refl refl
  where
    by : (begins few : Bool) → is_slash (slice_index path 0) ≡ begins → nat_le (count_by is_slash path) 1 ≡ few → begins_with_slash (cond (not begins || few) (codes "/") (before_last is_slash path)) ≡ true
    by false few is several = refl
    by true true is several = refl
    by true false is several =
        slash_taken path (length path - suffix_len (λ b. not (is_slash b)) path - 1) (before_some path (leb-false (count_by is_slash path) 1 several)) (slash_first path is)

path_read : (path : Option (List ℕ)) → ((own : List ℕ) → path ≡ Some own → begins_with_slash own ≡ true) → (whole : List ℕ)
    → begins_with_slash (unwrap_or path (default_path whole)) ≡ true
path_read None each whole = default_slash whole
path_read (Some own) each whole = each own refl

-- ---- domains

-- a domain that a host matches is one of its label suffixes
below_suffix : (host domain : List ℕ) → is_below host domain ≡ true → (front : List ℕ) × (host ≡ front ++ 46 ∷ domain)
below_suffix host domain is =
    let parts = and_parts (nat_lt (length domain) (length host)) _ is in
    let less = ltb-true (length domain) (length host) parts.0 in
    let ends = and_parts (ends_with nat_eq host domain) _ parts.1 in
    let cut = length host - length domain - 1 in
    let same : domain ≡ drop (length host - length domain) host = (bytes_eq-Decides domain (drop (length host - length domain) host)).0 ends.0 in
    let dot : get_or host cut 0 ≡ 46 = eqb-true (slice_index host cut) 46 ends.1 in
    let behind : cut + 1 ≡ length host - length domain = omega (arith, less) in (
      take cut host,
      sym (take-append-drop cut host)
          ∙ ap (λ rest. take cut host ++ rest) (drop_more host cut 0 (omega (arith, less)) ∙ (λ i. dot i ∷ drop (behind i) host) ∙ ap (λ d. 46 ∷ d) (sym same)),
    )

match_suffix : (ip : Bool) (host domain : List ℕ) → domain_matches ip host domain ≡ true → IsLabelSuffix ip host domain
match_suffix ip host domain is =
    ⊎_elim
    (λ same. inl (sym ((bytes_eq-Decides host domain).0 same)))
    (λ below. let parts = and_parts (not ip) (is_below host domain) below in inr (not-true ip parts.0, below_suffix host domain parts.1))
    (or_cases (bytes_eq host domain) _ is)

-- ---- the cookie of a text

module _ (rules : List Rule) (how : CookieUse) (read : IsReadAddress how.url) where
  host_read : (own : Option (List ℕ)) → has_such (is_mismatch rules (access_of how)) own ≡ false → IsHostUnder rules (cookie_domain rules how) (unwrap_or own how.url.host)
  host_read None fits = suffix_named rules how.url read how.url.host (inl refl) refl
  host_read (Some domain) fits =
      let parts = or_parts (not (domain_matches how.url.ip how.url.host domain)) _ fits in
      suffix_named rules how.url read domain (match_suffix how.url.ip how.url.host domain (not-false _ parts.0))
      ((bytes_eq-Decides _ _).0 (not-false _ parts.1))

  module _ (now : ℕ) (text : CookieText) (kept : IsReadText text) (cs : Cookies) (none : dropped rules text (access_of how) (pos now) cs ≡ None) where
    -- the cookie of the text, as it is made
    abbrev new : PlainCookie
    new = made rules text (access_of how) (pos now)

    row : (k : ℕ) → k < 14 → (slice_index_or (drop_rows rules text (access_of how) (pos now) cs) k (false, why.ThirdParty)).0 ≡ false
    row k low = none_first (drop_rows rules text (access_of how) (pos now) cs) none k (false, why.ThirdParty) low

    pub new_host : IsHostUnder rules (cookie_domain rules how) new.domain
    new_host = host_read (own_domain rules (access_of how) (lower_domain text)) (row 2 (omega arith))

    new_path : begins_with_slash new.path ≡ true
    new_path = path_read text.path kept.path how.url.path

    -- in a partition it is Secure
    new_secure : text.partitioned ≡ true → text.secure ≡ true
    new_secure is = by text.partitioned text.secure is (row 12 (omega arith))
      where
        by : (partitioned secure : Bool) → partitioned ≡ true → (partitioned && not secure) ≡ false → secure ≡ true
        by partitioned true is other = refl
        by true false is other = absurd (both_ways true other refl)
        by false false is other = absurd (both_ways false refl is)

    pub new_sound : (partition : Bool) → (partition ≡ true → text.partitioned ≡ true) → is_sound partition new ≡ true
    new_sound partition is =
        and_from _ _ (le-leb 1 (pair_bytes new) kept.some)
        (and_from _ _ (le-leb (pair_bytes new) 4096 kept.small) (and_from _ _ new_path (by partition (λ p. new_secure (is p)))))
      where
        by : (b : Bool) → (b ≡ true → text.secure ≡ true) → (text.secure || not b) ≡ true
        by true secure = or_left text.secure false (secure refl)
        by false secure = or_right text.secure true refl

-- ---- its creation

replaced_timed : (found : Option PlainCookie) (passes : PlainCookie → Bool) (own : PlainCookie) → IsTimed own → ((c : PlainCookie) → found ≡ Some c → IsTimed c)
    → FitsSigned w64 (unwrap_or (option_map (λ (c : PlainCookie). c.creation) (option_filter passes found)) own.creation)
replaced_timed None passes own timed each = timed
replaced_timed (Some c) passes own timed each = by (passes c)
  where
    by : (b : Bool) → FitsSigned w64 (unwrap_or (option_map (λ (c : PlainCookie). c.creation) (cond b (Some c) None)) own.creation)
    by true = each c refl
    by false = timed

-- it is that of the cookie which it replaces
pub renewed_timed : (now : ℤ) (own : PlainCookie) (cs : Cookies) → IsTimed own → All IsTimed cs → IsTimed (renewed now own cs)
renewed_timed now own cs timed all = replaced_timed (find (λ c. same own c) cs) (λ c. not (is_expired now c)) own timed (λ c e. found_all IsTimed (λ c. same own c) cs c all e)
