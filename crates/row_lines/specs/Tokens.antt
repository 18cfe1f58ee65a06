-- What a function writes: the tokens of members, behind those that were written.
-- Source: none.
use Rattle.std.specs.Prelude.{◌≡◌, ℤ, List, ◌∷◌, ◌++◌, codes, OnOk, Result}
use Rattle.json.specs.Token.{Token, begin_object, key}
use Rattle.json.specs.Tree.{json_tokens, members_tokens}
use Rattle.json.specs.Written.{Written}
use Rattle.serde_json.specs.Data.{Data, Members, boolean, string}
use Rattle.serde_json.specs.Written.{members_outline, outline}
use Rattle.stored_cookie.specs.StoredCookie.{PlainCookie}
use Rattle.row_lines.specs.Row.{moment_data}

-- the tokens are written behind those that were, and what stood before them stays. Where memory is
-- wanted, some of them may be written.
pub record Puts {T E : Type 0} (result : Result T E) (old new : Written) (more : List Token)
    : Type 0 where
  pub tokens : OnOk result (new.tokens ≡ old.tokens ++ more)
  pub before : new.before ≡ old.before

-- the tokens of a value
abbrev pub tokens_of : Data → List Token
tokens_of value = json_tokens (outline value)

-- the tokens of the last members of an object, and of its end
abbrev pub last_tokens : Members → List Token
last_tokens members = members_tokens (members_outline members)

-- the tokens of an object with these members
abbrev pub object_tokens : Members → List Token
object_tokens members = begin_object ∷ last_tokens members

-- the tokens of the members of a cookie from its creation up to its name
abbrev pub mark_tokens : PlainCookie → (expiry : ℤ) → List Token
mark_tokens cookie expiry =
    key (codes "creation") ∷ (tokens_of (moment_data cookie.creation)
    ++ (key (codes "domain") ∷ (tokens_of (string cookie.domain)
    ++ (key (codes "expiry") ∷ (tokens_of (moment_data expiry)
    ++ (key (codes "host_only") ∷ (tokens_of (boolean cookie.host_only)
    ++ (key (codes "http_only") ∷ tokens_of (boolean cookie.http_only)))))))))
