-- What a Set-Cookie text means: a cookie, or the cause that drops it.
-- Source: RFC 6265bis, "The Set-Cookie Header Field" of the user agent requirements, the attributes
-- below it, "Cookie Lifetime Limits" and "Storage Model"; for Partitioned the draft "Cookies Having
-- Independent Partitioned State".
-- Our own choice: a Max-Age of zero or less expires now and not at the earliest time there is; a
-- lifetime is cut to 400 days exactly, and digits past that limit are read as the limit; the
-- Domain keeps the case that it is written in. As in the draft, and unlike some browsers, a pair
-- without a name is kept, a tab within a name or a value is kept, and `Domain=.` is no Domain.
use Rattle.std.specs.Prelude.{⊤, ◌≡◌, ℕ, ◌+◌, ◌-◌, min, Bool, true, false, ◌==◌, ◌&&◌, ◌||◌}
use Rattle.std.specs.Prelude.{nat_le, nat_lt, if◌then◌else◌, List, [], ◌∷◌, ◌++◌, length, take}
use Rattle.std.specs.Prelude.{drop, codes, Option, Some, None, IfSome, option_map, is_some}
use Rattle.std.specs.Prelude.{unwrap_or, ℤ, pos, ◌+ℤ◌}
use Rattle.std.specs.List.{prefix_len, suffix_len, before_first, after_first, slice_split}
use Rattle.std.specs.List.{slice_index, list_any, list_all}
use Rattle.std.specs.Option.{option_or, option_and_then}
use Rattle.std.specs.Char.{is_ascii_digit}
use Rattle.std.specs.Int.{is_in_range, int_min}
use Rattle.std.specs.Str.{byte}
use Rattle.std.specs.Str.Parse.{digits_value}
use Rattle.case_tables.specs.Rows.{first_value, same_in_any_case}
use Rattle.setcookie_parse.specs.declared.attribute.Kind.{Kind}
use Rattle.setcookie_parse.specs.declared.attribute.Kind.TheVariants.{Expires, MaxAge, Domain}
use Rattle.setcookie_parse.specs.declared.attribute.Kind.TheVariants.{Path, Secure, HttpOnly}
use Rattle.setcookie_parse.specs.declared.attribute.Kind.TheVariants.{Partitioned}
use Rattle.setcookie_parse.specs.declared.attribute.Kind.TheVariants.{SameSite as SameSiteKind}
use Rattle.setcookie_parse.specs.declared.cookie.SameSite.{SameSite}
use Rattle.setcookie_parse.specs.declared.cookie.SameSite.TheVariants.{Default, NoneSent, Lax}
use Rattle.setcookie_parse.specs.declared.cookie.SameSite.TheVariants.{Strict}
use Rattle.setcookie_parse.specs.declared.cookie.DropCause.{DropCause}
use Rattle.setcookie_parse.specs.declared.cookie.DropCause.TheVariants.{Control, TooLong, Empty}
use Rattle.setcookie_parse.specs.CookieDate.{cookie_date}

-- a cookie as contracts see it; each text is the list of its bytes
pub record CookieText : Type 0 where
  pub name : List ℕ
  pub value : List ℕ
  pub domain : Option (List ℕ)
  pub path : Option (List ℕ)
  pub has_path : Bool
  pub secure : Bool
  pub http_only : Bool
  pub partitioned : Bool
  pub same_site : SameSite
  pub expiry : Option ℤ

-- a cookie, or the cause that drops the text
pub data Parsed : Type 0 where
  Kept : CookieText → Parsed
  Dropped : DropCause → Parsed

-- a control that is no tab
abbrev pub is_control : ℕ → Bool
is_control b = nat_le b 0x08 || is_in_range 0x0A 0x1F b || (b == 0x7F)

-- a space or a tab
abbrev pub is_blank : ℕ → Bool
is_blank b = (b == byte " ") || (b == 0x09)

-- a text without the spaces and tabs at its ends
abbrev pub trimmed : List ℕ → List ℕ
trimmed text =
    let rest = drop (prefix_len is_blank text) text in
    take (length rest - suffix_len is_blank rest) rest

-- what divides the pieces of a text
abbrev pub is_semicolon : ℕ → Bool
is_semicolon b = b == byte ";"

-- what divides a name and its value
abbrev pub is_equals : ℕ → Bool
is_equals b = b == byte "="

-- the name of a cookie's pair, and the empty one where the pair has no `=`
abbrev pub name_of : List ℕ → List ℕ
name_of pair = if list_any is_equals pair then trimmed (before_first is_equals pair) else []

-- its value, and the whole pair where that has no `=`
abbrev pub value_of : List ℕ → List ℕ
value_of pair =
    if list_any is_equals pair then trimmed (after_first is_equals pair) else trimmed pair

-- the name of an attribute, which is the whole piece where that has no `=`
abbrev pub attribute_name : List ℕ → List ℕ
attribute_name piece = trimmed (before_first is_equals piece)

-- its value
abbrev pub attribute_value : List ℕ → List ℕ
attribute_value piece = trimmed (after_first is_equals piece)

-- the kinds of attributes by their names
abbrev pub kinds : List (List ℕ × Kind)
kinds =
    (codes "expires", Expires) ∷ (codes "max-age", MaxAge) ∷ (codes "domain", Domain)
    ∷ (codes "path", Path) ∷ (codes "secure", Secure) ∷ (codes "httponly", HttpOnly)
    ∷ (codes "partitioned", Partitioned) ∷ (codes "samesite", SameSiteKind) ∷ []

-- the kind of a piece. One of another name, or with a value over 1,024 octets, is skipped.
abbrev pub kind_of : List ℕ → Option Kind
kind_of piece =
    if nat_lt 1024 (length (attribute_value piece)) then None
    else first_value (λ name. same_in_any_case name (attribute_name piece)) kinds

-- digits alone, at least one
abbrev pub is_number : List ℕ → Bool
is_number text = nat_lt 0 (length text) && list_all is_ascii_digit text

-- a minus and digits
abbrev pub is_negative : List ℕ → Bool
is_negative text = (slice_index text 0 == byte "-") && is_number (drop 1 text)

-- 400 days
abbrev pub age_limit : ℕ
age_limit = 34_560_000

-- the seconds of a Max-Age, from 0 to the limit; a value that is no whole number is skipped
abbrev pub max_age : List ℕ → Option ℕ
max_age value =
    if is_number value then Some (min (digits_value 10 value) age_limit)
    else (if is_negative value then Some 0 else None)

-- the values of SameSite that are not the default
abbrev pub same_sites : List (List ℕ × SameSite)
same_sites = (codes "none", NoneSent) ∷ (codes "lax", Lax) ∷ (codes "strict", Strict) ∷ []

-- what a value of SameSite says
abbrev pub same_site : List ℕ → SameSite
same_site value = unwrap_or (first_value (λ name. same_in_any_case name value) same_sites) Default

-- the date of an Expires attribute; one that is no date is skipped
abbrev pub expires_of : Option Kind → List ℕ → Option ℤ
expires_of (Some Expires) value = cookie_date value
expires_of _ value = None

-- the seconds of a Max-Age attribute
abbrev pub max_age_of : Option Kind → List ℕ → Option ℕ
max_age_of (Some MaxAge) value = max_age value
max_age_of _ value = None

-- the value of a Domain attribute
abbrev pub domain_of : Option Kind → List ℕ → Option (List ℕ)
domain_of (Some Domain) value = Some value
domain_of _ value = None

-- the value of a Path attribute
abbrev pub path_of : Option Kind → List ℕ → Option (List ℕ)
path_of (Some Path) value = Some value
path_of _ value = None

-- whether an attribute is Secure, with any value
abbrev pub is_secure : Option Kind → Bool
is_secure (Some Secure) = true
is_secure _ = false

-- whether an attribute is HttpOnly, with any value
abbrev pub is_http_only : Option Kind → Bool
is_http_only (Some HttpOnly) = true
is_http_only _ = false

-- whether an attribute is Partitioned, with any value
abbrev pub is_partitioned : Option Kind → Bool
is_partitioned (Some Partitioned) = true
is_partitioned _ = false

-- what a SameSite attribute says
abbrev pub same_site_of : Option Kind → List ℕ → Option SameSite
same_site_of (Some SameSiteKind) value = Some (same_site value)
same_site_of _ value = None

-- what the last piece that says something says, of its kind and its value
abbrev pub last_of : {A : Type 0} → (Option Kind → List ℕ → Option A) → List (List ℕ) → Option A
last_of said [] = None
last_of said (piece ∷ pieces) =
    option_or (last_of said pieces) (said (kind_of piece) (attribute_value piece))

-- whether some piece is of a kind
abbrev pub has : (Option Kind → Bool) → List (List ℕ) → Bool
has is_kind pieces = list_any (λ piece. is_kind (kind_of piece)) pieces

-- a text without one leading dot
abbrev pub without_dot : List ℕ → List ℕ
without_dot value = if slice_index value 0 == byte "." then drop 1 value else value

-- a domain without one leading dot; an empty rest is none
abbrev pub domain_in : List ℕ → Option (List ℕ)
domain_in value = if nat_lt 0 (length (without_dot value)) then Some (without_dot value) else None

-- a path that begins with `/`
abbrev pub path_in : List ℕ → Option (List ℕ)
path_in value = if slice_index value 0 == byte "/" then Some value else None

-- the moment of expiry; Max-Age goes before Expires, and both end at the limit
abbrev pub expiry_of : ℤ → Option ℕ → Option ℤ → Option ℤ
expiry_of now age date =
    option_or (option_map (λ seconds. now +ℤ pos seconds) age)
    (option_map (λ moment. int_min moment (now +ℤ pos age_limit)) date)

-- the cookie of a pair and the pieces behind it
abbrev pub cookie_of : List ℕ → List (List ℕ) → ℤ → CookieText
cookie_of pair pieces now =
    record {
      name = name_of pair;
      value = value_of pair;
      domain = option_and_then domain_in (last_of domain_of pieces);
      path = option_and_then path_in (last_of path_of pieces);
      has_path = is_some (last_of path_of pieces);
      secure = has is_secure pieces;
      http_only = has is_http_only pieces;
      partitioned = has is_partitioned pieces;
      same_site = unwrap_or (last_of same_site_of pieces) Default;
      expiry = expiry_of now (last_of max_age_of pieces) (last_of expires_of pieces);
    }

-- the most octets of a name and its value together
abbrev pub pair_limit : ℕ
pair_limit = 4096

-- the answer to a pair and the pieces behind it
abbrev pub answer_of : List ℕ → List (List ℕ) → ℤ → Parsed
answer_of pair pieces now =
    let octets = length (name_of pair) + length (value_of pair) in
    if nat_lt pair_limit octets then Dropped TooLong
    else (if octets == 0 then Dropped Empty else Kept (cookie_of pair pieces now))

-- the answer to a text at a moment. A control anywhere drops it. Else the pair stands before the
-- first semicolon, and the pieces between and behind the semicolons are attributes.
abbrev pub set_cookie_text : List ℕ → ℤ → Parsed
set_cookie_text text now =
    if list_any is_control text then Dropped Control
    else answer_of (before_first is_semicolon text) (drop 1 (slice_split is_semicolon text)) now

-- a text stands in another one
abbrev pub IsSliceOf : List ℕ → List ℕ → Type 0
IsSliceOf whole part = (front back : List ℕ) × (whole ≡ front ++ (part ++ back))

-- each text of an answer stands in the text that was read
abbrev pub AreSlices : List ℕ → Parsed → Type 0
AreSlices text (Dropped cause) = ⊤
AreSlices text (Kept cookie) =
    IsSliceOf text cookie.name × IsSliceOf text cookie.value
    × IfSome cookie.domain (IsSliceOf text) × IfSome cookie.path (IsSliceOf text)
