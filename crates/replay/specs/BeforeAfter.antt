-- A value before a run and after it, as a count of faults, or the bytes that a source has left.
-- Source: none; our own words for what a call is handed and leaves.

-- a value before and after
pub record BeforeAfter (T : Type 0) : Type 0 where
  pub before : T
  pub after : T

-- from this value to that one
abbrev pub from_to : {T : Type 0} → T → T → BeforeAfter T
from_to before after = record { before = before; after = after }
