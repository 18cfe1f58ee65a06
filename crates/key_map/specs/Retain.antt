-- The entries of a map that pass a test of key and value, and what closures tell of a test.
-- Source: none; these are the words of an ordered map.
use Rattle.std.specs.Prelude.{◌≡◌, Bool, List, filter}
use Rattle.std.specs.Borrow.{Bor}
use Rattle.std.specs.Fn.{Shared}
use Rattle.std.specs.List.{list_all}

module _ {K V : Type 0} (test : K → V → Bool) where
  -- the entries that pass
  abbrev pub retain_entries : List (K × V) → List (K × V)
  retain_entries entries = filter (λ e. test e.0 e.1) entries

  -- whether all entries pass
  abbrev pub all_pass : List (K × V) → Bool
  all_pass entries = list_all (λ e. test e.0 e.1) entries

  -- a closure tells of each key and value whether they pass
  abbrev pub TellsOf : {F : Type 0} → Shared F (Bor K × (Bor V × Unit {0})) Bool → F → Type 0
  TellsOf g f =
      (key : Bor K) (value : Bor V) (told : Bool)
      → g.post f (key, (value, tt)) told → told ≡ test key.now value.now

-- the same of keys alone
abbrev pub TellsOfKeys : {K F : Type 0} → (K → Bool) → Shared F (Bor K × Unit {0}) Bool → F → Type 0
TellsOfKeys {K} test g f =
    (key : Bor K) (told : Bool) → g.post f (key, tt) told → told ≡ test key.now
