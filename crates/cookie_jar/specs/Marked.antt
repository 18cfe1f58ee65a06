-- The last use of one cookie, as private contracts have it.
use Rattle.std.specs.Prelude.{ℕ, ℤ, zero, suc, List, [], ◌∷◌}
use Rattle.cookie_jar.specs.Cookie.{PlainCookie}
use Rattle.cookie_jar.specs.Sending.{used}

-- the cookies, where the one at a place was used at a moment
abbrev pub used_at : ℕ → ℤ → List PlainCookie → List PlainCookie
used_at place now [] = []
used_at zero now (c ∷ cs) = used now c ∷ cs
used_at (suc place) now (c ∷ cs) = c ∷ used_at place now cs
