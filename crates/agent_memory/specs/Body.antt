-- The body of the open batch, as contracts see it.
-- Source: none.
-- Our own choice: a body has a limit, up to which its store has room. What would pass it is refused
-- as want of memory before it stands there, and how long the body would have been is told.
use Rattle.std.specs.Prelude.{◌≡◌, ◌<◌, ◌⊎◌, ℕ, List}

-- the bytes, how many there may be, and how many there would have been at the last refusal
pub record BodyView : Type 0 where
  pub bytes : List ℕ
  pub limit : ℕ
  pub wanted : ℕ

-- a refusal leaves the bytes; where it was the limit's, more than the limit is wanted
pub record IsRefused (old new : BodyView) : Type 0 where
  pub bytes : new.bytes ≡ old.bytes
  pub wanted : (new.wanted ≡ old.wanted) ⊎ (new.limit < new.wanted)
