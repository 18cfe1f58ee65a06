-- Values of the definitions, computed from them, so that a wrong rule does not check.
use Rattle.std.proofs.Common.{◌≡◌, refl, ℕ, List, [], ◌∷◌, codes, bytes_eq, false, Option, Some, None}
use Rattle.case_tables.specs.Rows.{first_value, same_in_any_case}

abbrev levels : List (List ℕ × ℕ)
levels = (codes "low", 1) ∷ (codes "high", 2) ∷ (codes "low", 3) ∷ []

value_of : List ℕ → Option ℕ
value_of name = first_value (λ other. bytes_eq other name) levels

first_of_two : value_of (codes "low") ≡ Some 1
unfolding value_of
first_of_two = refl

only_one : value_of (codes "high") ≡ Some 2
unfolding value_of
only_one = refl

no_row : value_of (codes "hig") ≡ None
unfolding value_of
no_row = refl

other_case : value_of (codes "High") ≡ None
unfolding value_of
other_case = refl

in_any_case : first_value (λ other. same_in_any_case other (codes "HIGH")) levels ≡ Some 2
in_any_case = refl

-- `@` and backquote stand beside the letters and are not folded
beside_letters : same_in_any_case (codes "@") (codes "`") ≡ false
beside_letters = refl
