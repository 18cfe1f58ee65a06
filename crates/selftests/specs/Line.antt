-- The line that is printed of a self-test.
-- Source: none. Our own choice: a JSON object with its members in this order.
use Rattle.std.specs.Prelude.{◌≡◌, ℕ, List, ◌++◌, codes, decimal}
use Rattle.hex.specs.Hex.{encode_lower}
use Rattle.sha2.specs.Sha256.{sha256}
use Rattle.generated_day.specs.Day.{day_length, day_lines}
use Rattle.selftests.specs.Days.{day_text}
use Rattle.selftests.specs.Store.{IsStoreLength}

-- the line of a digest, a number of lines and the length of a store
abbrev pub selftest_line : (digest : List ℕ) (lines store : ℕ) → List ℕ
selftest_line digest lines store =
    codes "{\"digest\":\"" ++ (encode_lower digest ++ (codes "\",\"lines\":"
    ++ (decimal lines ++ (codes ",\"store\":" ++ (decimal store ++ codes "}\n")))))

-- a line of the day of a seed: its digest is that of the text of the day, and its last number is
-- the length of a store that the day leaves
abbrev pub IsLineOf : (seed : ℕ) → List ℕ → Type 0
IsLineOf seed line = (store : ℕ) × IsStoreLength (day_lines seed) store
    × (line ≡ selftest_line (sha256 (day_text seed)) day_length store)
