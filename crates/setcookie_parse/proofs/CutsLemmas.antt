-- Where a text may be cut beside spaces and tabs.
use Rattle.std.proofs.Common.{◌≡◌, ℕ, ◌+◌, ◌-◌, ◌<◌, true, List, [], ◌∷◌, length, get_or, arith, ⊎_elim}
use Rattle.std.specs.Str.{IsUtf8, IsCharBoundary}
use Rattle.std.specs.List.{prefix_len}
use Rattle.std.proofs.lemmas.Bool.{cases_eq}
use Rattle.std.proofs.lemmas.Bool.Decides.{nat_tests}
use Rattle.std.proofs.lemmas.List.Sums.{prefix_len_passes, prefix_len-le-length}
use Rattle.std.proofs.lemmas.Str.{IsCharBoundary-start, IsCharBoundary-after_ascii}
use Rattle.std.specs.Prelude.{◌==◌}
use Rattle.setcookie_parse.specs.SetCookie.{is_blank}

blank_is_ascii : (b : ℕ) → is_blank b ≡ true → b < 128
blank_is_ascii b h = grind (arith, nat_tests)

pub cut_after_blanks : (bs : List ℕ) → IsUtf8 bs → IsCharBoundary bs (prefix_len is_blank bs)
cut_after_blanks bs utf8 =
    let n = prefix_len is_blank bs in
    let within = prefix_len-le-length is_blank bs in
    ⊎_elim
    (λ none. rw none (IsCharBoundary-start bs utf8))
    (λ some.
    let last : n - 1 < n = omega arith in
    let ascii = blank_is_ascii (get_or bs (n - 1) 0) (prefix_len_passes is_blank bs (n - 1) 0 last) in
    let back : n - 1 + 1 ≡ n = omega arith in
    let at : n - 1 < length bs = omega arith in
    rw back at (IsCharBoundary-after_ascii bs (n - 1) utf8 at ascii))
    (cases_eq n 0)

-- a text that begins with a dot
pub first_byte : (text : List ℕ) → (get_or text 0 0 == 46) ≡ true → (0 < length text) × (get_or text 0 0 < 128)
first_byte [] dot = cc
first_byte (b ∷ bs) dot = (omega arith, grind (arith, nat_tests))
