-- The steps of storing a cookie in its cell, and the list that they leave.
-- Source: RFC 6265bis, "Storage Model" (a cookie is inserted; an old one is removed; excess cookies
-- are removed).
-- Our own choice: a replaced cookie keeps its place and a new one stands last; an expired new
-- cookie removes the same one and is not kept; each place is counted at its own step.
use Rattle.std.specs.Prelude.{ℕ, ℤ, ◌+◌, Bool, not, ◌==◌, nat_lt, List, [], ◌∷◌, ◌++◌, length}
use Rattle.std.specs.Prelude.{map, take, drop, fold, slice_set, if◌then◌else◌}
use Rattle.std.specs.List.{list_any, count_by, insert, remove, range_with_len, position_or_len}
use Rattle.partition_limits.specs.declared.tally.CellKind.{CellKind}
use Rattle.partition_limits.specs.declared.excess.Weighed.{Weighed}
use Rattle.partition_limits.specs.Victims.{victims}
use Rattle.cookie_jar.specs.declared.step.JarStep.{JarStep}
use Rattle.cookie_jar.specs.declared.step.JarStep.TheVariants.{Insert, Replace, Remove}
use Rattle.cookie_jar.specs.Cookie.{PlainCookie, same, counted}
use Rattle.cookie_jar.specs.Lifetime.{is_expired, is_persistent}

-- the place of the same cookie, or the end
abbrev pub place_of : PlainCookie → List PlainCookie → ℕ
place_of fresh cs = position_or_len (λ c. same fresh c) cs

-- the list with the fresh cookie in the place of the same one, or at the end
abbrev pub put : PlainCookie → List PlainCookie → List PlainCookie
put fresh cs = take (place_of fresh cs) cs ++ fresh ∷ drop (place_of fresh cs + 1) cs

-- what decides when a cookie goes
abbrev pub weigh : CellKind → ℤ → PlainCookie → Weighed
weigh kind now c =
    record {
      expired = is_expired now c;
      secure = c.secure;
      last = c.last;
      bytes = counted kind c;
    }

-- the places of the cookies that go for the fresh one
abbrev pub going : CellKind → ℤ → PlainCookie → List PlainCookie → List ℕ
going kind now fresh cs = victims kind (map (weigh kind now) (put fresh cs)) (place_of fresh cs)

-- how many of the places below one are still there
abbrev pub place_now : List ℕ → ℕ → ℕ
place_now gone p =
    count_by (λ q. not (list_any (λ g. g == q) gone)) (range_with_len 0 p)

-- the number of persistent cookies before a place
abbrev pub rank : ℕ → List PlainCookie → ℕ
rank place cs = count_by is_persistent (take place cs)

-- whether the cookie at a place is persistent
abbrev pub persists_at : ℕ → List PlainCookie → Bool
persists_at place cs = list_any is_persistent (take 1 (drop place cs))

-- the removal at a place
abbrev pub remove_step : ℕ → List PlainCookie → JarStep
remove_step place cs = Remove place (rank place cs) (persists_at place cs)

-- the removals of these places of the list before them, each counted at its own step
abbrev pub removals : List PlainCookie → List ℕ → List ℕ → List JarStep
removals cs gone [] = []
removals cs gone (p ∷ ps) =
    remove_step (place_now gone p) cs
    ∷ removals (remove cs (place_now gone p)) (p ∷ gone) ps

-- the list after a step
abbrev pub after_step : PlainCookie → List PlainCookie → JarStep → List PlainCookie
after_step fresh cs (Insert place r) = insert cs place fresh
after_step fresh cs (Replace place r was) = slice_set cs place fresh
after_step fresh cs (Remove place r was) = remove cs place

-- the list after steps
abbrev pub after_steps : PlainCookie → List PlainCookie → List JarStep → List PlainCookie
after_steps fresh cs steps = fold (after_step fresh) cs steps

-- the step that puts the fresh cookie at a place
abbrev pub put_step : ℕ → List PlainCookie → JarStep
put_step place cs =
    if nat_lt place (length cs) then Replace place (rank place cs) (persists_at place cs)
    else Insert place (rank place cs)

-- the steps of storing a fresh cookie that is not expired
abbrev pub live_steps : CellKind → ℤ → PlainCookie → List PlainCookie → List JarStep
live_steps kind now fresh cs =
    let gone = going kind now fresh cs in
    let first = removals cs [] gone in
    first ++ put_step (place_now gone (place_of fresh cs)) (after_steps fresh cs first) ∷ []

-- the removal at a place, or none where no cookie is there
abbrev pub removal_at : ℕ → List PlainCookie → List JarStep
removal_at place cs = if nat_lt place (length cs) then remove_step place cs ∷ [] else []

-- the steps of storing a fresh cookie
abbrev pub steps : CellKind → ℤ → PlainCookie → List PlainCookie → List JarStep
steps kind now fresh cs =
    if is_expired now fresh then removal_at (place_of fresh cs) cs
    else live_steps kind now fresh cs

-- the list after storing a fresh cookie
abbrev pub stored : CellKind → ℤ → PlainCookie → List PlainCookie → List PlainCookie
stored kind now fresh cs = after_steps fresh cs (steps kind now fresh cs)
