-- The steps of a plan as they are done, the removals first, as private contracts have it.
use Rattle.std.specs.Prelude.{⊤, ◌≡◌, ◌<◌, ◌≤◌, ℕ, true, List, fold, length, Option, Some, None}
use Rattle.std.specs.Prelude.{slice_index_or, slice_set}
use Rattle.std.specs.List.{insert, remove}
use Rattle.partition_limits.specs.declared.tally.CellKind.{CellKind}
use Rattle.cookie_jar.specs.declared.step.JarStep.{JarStep}
use Rattle.cookie_jar.specs.declared.step.JarStep.TheVariants.{Insert, Replace, Remove}
use Rattle.cookie_jar.specs.Cookie.{PlainCookie, copies, keeps_limits, same}

-- the list after a step, where it is a removal
abbrev pub after_removal : List PlainCookie → JarStep → List PlainCookie
after_removal cs (Insert place r) = cs
after_removal cs (Replace place r was) = cs
after_removal cs (Remove place r was) = remove cs place

-- the list after the removals among these steps
abbrev pub after_removals : List PlainCookie → List JarStep → List PlainCookie
after_removals cs steps = fold after_removal cs steps

-- the list after a step, where there is one that puts the cookie
abbrev pub after_put : PlainCookie → List PlainCookie → Option JarStep → List PlainCookie
after_put fresh cs None = cs
after_put fresh cs (Some (Insert place r)) = insert cs place fresh
after_put fresh cs (Some (Replace place r was)) = slice_set cs place fresh
after_put fresh cs (Some (Remove place r was)) = cs

-- the cookie can be put before a place
pub record CanInsert (kind : CellKind) (fresh : PlainCookie) (cs : List PlainCookie) (place : ℕ)
    : Type 0 where
  pub there : place ≤ length cs
  pub absent : copies fresh cs ≡ 0
  pub limits : keeps_limits kind (insert cs place fresh) ≡ true

-- the cookie can be put in a place
pub record CanReplace (kind : CellKind) (fresh : PlainCookie) (cs : List PlainCookie) (place : ℕ)
    : Type 0 where
  pub there : place < length cs
  pub alike : same fresh (slice_index_or cs place fresh) ≡ true
  pub limits : keeps_limits kind (slice_set cs place fresh) ≡ true

-- the step can be done, where there is one that puts the cookie
abbrev pub CanPut : CellKind → PlainCookie → List PlainCookie → Option JarStep → Type 0
CanPut kind fresh cs None = ⊤
CanPut kind fresh cs (Some (Insert place r)) = CanInsert kind fresh cs place
CanPut kind fresh cs (Some (Replace place r was)) = CanReplace kind fresh cs place
CanPut kind fresh cs (Some (Remove place r was)) = ⊤
