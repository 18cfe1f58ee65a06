-- The line of seed 7, as another program prints it, so that a wrong form in the specs does not check.
use Rattle.std.proofs.Common.{◌≡◌, ℕ, List, [], ◌∷◌, codes, refl}
use Rattle.std.specs.Fmt.{digits}
use Rattle.hex.proofs.OnLiterals.{hex_on_literals}
use Rattle.selftests.specs.Line.{selftest_line}

digest : List ℕ
digest =
    0x9F ∷ 0xE6 ∷ 0xED ∷ 0xEF ∷ 0x39 ∷ 0x11 ∷ 0x5A ∷ 0x2B ∷ 0xF1 ∷ 0xB2 ∷ 0x08 ∷ 0x18 ∷ 0x45 ∷ 0x20 ∷ 0x81 ∷ 0xF6
    ∷ 0x9C ∷ 0x55 ∷ 0x11 ∷ 0x72 ∷ 0x8E ∷ 0x33 ∷ 0xA7 ∷ 0x57 ∷ 0x52 ∷ 0x83 ∷ 0xDE ∷ 0xD8 ∷ 0x73 ∷ 0xE5 ∷ 0x85 ∷ 0x6B ∷ []

line : selftest_line digest 5020 179303
    ≡ codes "{\"digest\":\"9fe6edef39115a2bf1b20818452081f69c5511728e33a7575283ded873e5856b\",\"lines\":5020,\"store\":179303}\n"
unfolding digits hex_on_literals digest
line = refl
