-- What the attributes of several pieces say, one piece after another.
use Rattle.std.proofs.Common.{◌≡◌, ℕ, Bool, true, false, ◌||◌, List, [], ◌∷◌, Option, Some, None, refl, ap, ◌∙◌, sym}
use Rattle.std.specs.List.{slice_split}
use Rattle.std.specs.Option.{option_or}
use Rattle.setcookie_parse.specs.SetCookie.{kind_of, attribute_value, is_semicolon, last_of, has, expires_of, max_age_of, domain_of, path_of, is_secure, is_http_only, is_partitioned, same_site_of}
use Rattle.setcookie_parse.specs.AttributesSoFar.{AttributesSoFar, seen_in, seen_after, seen_with}

later_goes_first : {A : Type 0} (later said earlier : Option A)
    → option_or later (option_or said earlier) ≡ option_or (option_or later said) earlier
later_goes_first None said earlier = refl
later_goes_first (Some x) said earlier = refl

flag_is_kept : (later said earlier : Bool) → (later || (said || earlier)) ≡ ((said || later) || earlier)
flag_is_kept true true earlier = refl
flag_is_kept true false earlier = refl
flag_is_kept false true earlier = refl
flag_is_kept false false earlier = refl

pub without_earlier : {A : Type 0} (later : Option A) → option_or later None ≡ later
without_earlier None = refl
without_earlier (Some x) = refl

pub flag_alone : (later : Bool) → (later || false) ≡ later
flag_alone true = refl
flag_alone false = refl

-- values that agree in each kind
pub same_seen : (a b : AttributesSoFar) → a.expires ≡ b.expires → a.max_age ≡ b.max_age → a.domain ≡ b.domain → a.path ≡ b.path
    → a.secure ≡ b.secure → a.http_only ≡ b.http_only → a.partitioned ≡ b.partitioned → a.same_site ≡ b.same_site → a ≡ b
same_seen a b expires age domain path secure http partitioned site =
    λ i. record {
      expires = expires i;
      max_age = age i;
      domain = domain i;
      path = path i;
      secure = secure i;
      http_only = http i;
      partitioned = partitioned i;
      same_site = site i;
    }

-- one more piece
pub seen_more : (seen : AttributesSoFar) (piece : List ℕ) (pieces : List (List ℕ))
    → seen_after (seen_with seen (kind_of piece) (attribute_value piece)) pieces ≡ seen_after seen (piece ∷ pieces)
seen_more seen piece pieces =
    let kind = kind_of piece in
    let value = attribute_value piece in
    same_seen (seen_after (seen_with seen (kind_of piece) (attribute_value piece)) pieces) (seen_after seen (piece ∷ pieces))
    (later_goes_first (last_of expires_of pieces) (expires_of kind value) seen.expires)
    (later_goes_first (last_of max_age_of pieces) (max_age_of kind value) seen.max_age)
    (later_goes_first (last_of domain_of pieces) (domain_of kind value) seen.domain)
    (later_goes_first (last_of path_of pieces) (path_of kind value) seen.path)
    (flag_is_kept (has is_secure pieces) (is_secure kind) seen.secure)
    (flag_is_kept (has is_http_only pieces) (is_http_only kind) seen.http_only)
    (flag_is_kept (has is_partitioned pieces) (is_partitioned kind) seen.partitioned)
    (later_goes_first (last_of same_site_of pieces) (same_site_of kind value) seen.same_site)

-- no piece before
pub seen_first : (pieces : List (List ℕ)) → seen_after (seen_in []) pieces ≡ seen_in pieces
seen_first pieces =
    same_seen (seen_after (seen_in []) pieces) (seen_in pieces)
    (without_earlier (last_of expires_of pieces)) (without_earlier (last_of max_age_of pieces))
    (without_earlier (last_of domain_of pieces)) (without_earlier (last_of path_of pieces))
    (flag_alone (has is_secure pieces)) (flag_alone (has is_http_only pieces)) (flag_alone (has is_partitioned pieces))
    (without_earlier (last_of same_site_of pieces))

-- the step of a walk over the pieces of a text
pub seen_step : (seen next : AttributesSoFar) (text piece rest : List ℕ) → next ≡ seen_with seen (kind_of piece) (attribute_value piece)
    → slice_split is_semicolon text ≡ piece ∷ slice_split is_semicolon rest
    → seen_after next (slice_split is_semicolon rest) ≡ seen_after seen (slice_split is_semicolon text)
seen_step seen next text piece rest taken split =
    ap (λ s. seen_after s (slice_split is_semicolon rest)) taken
    ∙ seen_more seen piece (slice_split is_semicolon rest)
    ∙ ap (seen_after seen) (sym split)

-- its end
pub seen_end : (seen next : AttributesSoFar) (text piece : List ℕ) → next ≡ seen_with seen (kind_of piece) (attribute_value piece)
    → slice_split is_semicolon text ≡ piece ∷ []
    → next ≡ seen_after seen (slice_split is_semicolon text)
seen_end seen next text piece taken split = taken ∙ seen_more seen piece [] ∙ ap (seen_after seen) (sym split)
