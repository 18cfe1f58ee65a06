-- What the attributes so far have said, and what the pieces behind them add.
use Rattle.std.specs.Prelude.{ℕ, ◌+◌, Bool, ◌||◌, ◌==◌, nat_lt, if◌then◌else◌, List, length}
use Rattle.std.specs.Prelude.{Option, option_copied, is_some, unwrap_or, ℤ}
use Rattle.std.specs.Option.{option_or, option_and_then}
use Rattle.setcookie_parse.specs.declared.attribute.Kind.{Kind}
use Rattle.setcookie_parse.specs.declared.cookie.SameSite.{SameSite}
use Rattle.setcookie_parse.specs.declared.cookie.SameSite.TheVariants.{Default}
use Rattle.setcookie_parse.specs.declared.cookie.DropCause.TheVariants.{TooLong, Empty}
use Rattle.setcookie_parse.specs.declared.seen.AttributesSoFar.{AttributesSoFar as BorrowedAttributes}
use Rattle.setcookie_parse.specs.SetCookie.{CookieText, Parsed, Kept, Dropped, name_of, value_of}
use Rattle.setcookie_parse.specs.SetCookie.{last_of, has, expires_of, max_age_of, domain_of}
use Rattle.setcookie_parse.specs.SetCookie.{path_of, is_secure, is_http_only, is_partitioned}
use Rattle.setcookie_parse.specs.SetCookie.{same_site_of, domain_in, path_in, expiry_of}
use Rattle.setcookie_parse.specs.SetCookie.{pair_limit}

-- the last value of each kind
pub record AttributesSoFar : Type 0 where
  pub expires : Option ℤ
  pub max_age : Option ℕ
  pub domain : Option (List ℕ)
  pub path : Option (List ℕ)
  pub secure : Bool
  pub http_only : Bool
  pub partitioned : Bool
  pub same_site : Option SameSite

-- the values as contracts see them
abbrev pub plain_seen : BorrowedAttributes → AttributesSoFar
plain_seen seen =
    record {
      expires = seen.expires;
      max_age = seen.max_age;
      domain = option_copied seen.domain;
      path = option_copied seen.path;
      secure = seen.secure;
      http_only = seen.http_only;
      partitioned = seen.partitioned;
      same_site = seen.same_site;
    }

-- the values of pieces
abbrev pub seen_in : List (List ℕ) → AttributesSoFar
seen_in pieces =
    record {
      expires = last_of expires_of pieces;
      max_age = last_of max_age_of pieces;
      domain = last_of domain_of pieces;
      path = last_of path_of pieces;
      secure = has is_secure pieces;
      http_only = has is_http_only pieces;
      partitioned = has is_partitioned pieces;
      same_site = last_of same_site_of pieces;
    }

-- the values of pieces, over earlier ones
abbrev pub seen_after : AttributesSoFar → List (List ℕ) → AttributesSoFar
seen_after seen pieces =
    record {
      expires = option_or (last_of expires_of pieces) seen.expires;
      max_age = option_or (last_of max_age_of pieces) seen.max_age;
      domain = option_or (last_of domain_of pieces) seen.domain;
      path = option_or (last_of path_of pieces) seen.path;
      secure = has is_secure pieces || seen.secure;
      http_only = has is_http_only pieces || seen.http_only;
      partitioned = has is_partitioned pieces || seen.partitioned;
      same_site = option_or (last_of same_site_of pieces) seen.same_site;
    }

-- the values with one more attribute
abbrev pub seen_with : AttributesSoFar → Option Kind → List ℕ → AttributesSoFar
seen_with seen kind value =
    record {
      expires = option_or (expires_of kind value) seen.expires;
      max_age = option_or (max_age_of kind value) seen.max_age;
      domain = option_or (domain_of kind value) seen.domain;
      path = option_or (path_of kind value) seen.path;
      secure = is_secure kind || seen.secure;
      http_only = is_http_only kind || seen.http_only;
      partitioned = is_partitioned kind || seen.partitioned;
      same_site = option_or (same_site_of kind value) seen.same_site;
    }

-- the cookie of a name, a value and what the attributes have said
abbrev pub cookie_from : List ℕ → List ℕ → AttributesSoFar → ℤ → CookieText
cookie_from name value seen now =
    record {
      name = name;
      value = value;
      domain = option_and_then domain_in seen.domain;
      path = option_and_then path_in seen.path;
      has_path = is_some seen.path;
      secure = seen.secure;
      http_only = seen.http_only;
      partitioned = seen.partitioned;
      same_site = unwrap_or seen.same_site Default;
      expiry = expiry_of now seen.max_age seen.expires;
    }

-- the answer to a pair and what the attributes have said
abbrev pub answer_from : List ℕ → AttributesSoFar → ℤ → Parsed
answer_from pair seen now =
    let octets = length (name_of pair) + length (value_of pair) in
    if nat_lt pair_limit octets then Dropped TooLong
    else (if octets == 0 then Dropped Empty
    else Kept (cookie_from (name_of pair) (value_of pair) seen now))
