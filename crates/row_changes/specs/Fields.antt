-- Reading fields one behind the other.
-- Source: none.
-- Our own choice: numbers are little-endian, and one of 64 bits with a sign is in two's complement.
-- A text is the number of its bytes, in four, and its bytes, which are UTF-8.
use Rattle.std.specs.Prelude.{ℕ, ◌==◌, ℤ, Bool, true, false, nat_lt, List, [], ◌∷◌, ◌++◌, length, take, drop}
use Rattle.std.specs.Prelude.{Option, Some, None, option_map, option_and_then, if◌then◌else◌}
use Rattle.std.specs.Int.{Width, w32, w64, byte_len, to_le_bytes, from_le_bytes, cast_signed}
use Rattle.std.specs.Int.{cast_unsigned}
use Rattle.std.specs.Str.{is_utf8}

-- what stands at the front of bytes, with the bytes behind it; `None` is no such field
abbrev pub Reading : Type 0 → Type 0
Reading A = List ℕ → Option (A × List ℕ)

-- two fields, the second behind the first
abbrev pub both : {A B : Type 0} → Reading A → Reading B → Reading (A × B)
both first second bytes =
    option_and_then (λ a. option_map (λ b. ((a.0, b.0), b.1)) (second a.1)) (first bytes)

-- what a field says, where it says anything
abbrev pub made : {A B : Type 0} → (A → Option B) → Reading A → Reading B
made meaning field bytes =
    option_and_then (λ a. option_map (λ b. (b, a.1)) (meaning a.0)) (field bytes)

-- a value that passes a test
abbrev pub passing : {A : Type 0} → (A → Bool) → A → Option A
passing test a = if test a then Some a else None

-- one byte
abbrev pub byte_at : Reading ℕ
byte_at [] = None
byte_at (byte ∷ rest) = Some (byte, rest)

-- a byte, and what it says is behind it
abbrev pub behind_byte : {A : Type 0} → (ℕ → Reading A) → Reading A
behind_byte field bytes = option_and_then (λ byte. field byte.0 byte.1) (byte_at bytes)

-- no field at all
abbrev pub nothing_at : {A : Type 0} → Reading A
nothing_at bytes = None

-- a number without a sign
abbrev pub number_at : Width → Reading ℕ
number_at w bytes =
    if nat_lt (length bytes) (byte_len w) then None
    else Some (from_le_bytes w (take (byte_len w) bytes), drop (byte_len w) bytes)

-- the bytes of a number with a sign
abbrev pub signed_bytes : ℤ → List ℕ
signed_bytes z = to_le_bytes w64 (cast_unsigned w64 z)

-- a number with a sign
unfoldable pub signed_at : Reading ℤ
signed_at = made (λ n. Some (cast_signed w64 n)) (number_at w64)

-- the bytes of a text
abbrev pub text_bytes : List ℕ → List ℕ
text_bytes text = to_le_bytes w32 (length text) ++ text

-- so many bytes
abbrev pub bytes_at : ℕ → Reading (List ℕ)
bytes_at count bytes =
    if nat_lt (length bytes) count then None else Some (take count bytes, drop count bytes)

-- a text
unfoldable pub text_at : Reading (List ℕ)
text_at bytes =
    option_and_then (λ count. made (passing is_utf8) (bytes_at count.0) count.1)
    (number_at w32 bytes)

-- the byte of a bit
abbrev pub bit_byte : Bool → ℕ
bit_byte bit = if bit then 1 else 0

-- the bit of a byte, which is 0 or 1
abbrev pub bit_of : ℕ → Option Bool
bit_of byte = if byte == 0 then Some false else (if byte == 1 then Some true else None)

-- a bit
unfoldable pub bit_at : Reading Bool
bit_at = made bit_of byte_at
