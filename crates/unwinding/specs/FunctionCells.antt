-- Shared cells as a plain function from cells to contents, where nothing has to be enumerated.
-- Source: none.
use Rattle.std.specs.Prelude.{Bool, if◌then◌else◌}

module _ {Cell Content : Type 0} where
  -- the cells with one replaced, under an equality test
  abbrev pub set_function : (Cell → Cell → Bool) → Cell → Content → (Cell → Content)
      → Cell → Content
  set_function same d x cells c = if same c d then x else cells c

  -- the cells that pass a test, all others blank
  abbrev pub restrict_function : Content → (Cell → Bool) → (Cell → Content) → Cell → Content
  restrict_function blank test cells c = if test c then cells c else blank

  -- the first cells where they pass a test, the second ones where they do not
  abbrev pub merge_function : (Cell → Bool) → (Cell → Content) → (Cell → Content)
      → Cell → Content
  merge_function test new old c = if test c then new c else old c
