-- Values of the words of an ordered map, worked out by hand.
use Rattle.std.proofs.Common.{◌≡◌, ℕ, refl, List, [], ◌∷◌, Some, None}
use Rattle.std.specs.Prelude.{true, false}
use Rattle.std.specs.Ordering.{nat_cmp}
use Rattle.std.specs.Prelude.{nat_lt}
use Rattle.key_map.specs.Entries.{map_get, map_set, map_put, is_among, next_key}
use Rattle.key_map.specs.Retain.{all_pass, retain_entries}

-- 3 with 30, and 7 with 70
abbrev two : List (ℕ × ℕ)
two = (3, 30) ∷ (7, 70) ∷ []

value_of_key : map_get nat_cmp 7 two ≡ Some 70
value_of_key = refl

value_of_no_key : map_get nat_cmp 5 two ≡ None
value_of_no_key = refl

set_of_no_key : map_set nat_cmp 5 50 two ≡ two
set_of_no_key = refl

put_in_place : map_put nat_cmp 3 31 two ≡ (3, 31) ∷ (7, 70) ∷ []
put_in_place = refl

put_in_order : map_put nat_cmp 5 50 two ≡ (3, 30) ∷ (5, 50) ∷ (7, 70) ∷ []
put_in_order = refl

put_last : map_put nat_cmp 8 80 two ≡ (3, 30) ∷ (7, 70) ∷ (8, 80) ∷ []
put_last = refl

least_of_all : next_key nat_cmp None two ≡ Some 3
least_of_all = refl

after_a_key : next_key nat_cmp (Some 3) two ≡ Some 7
after_a_key = refl

after_the_last : next_key nat_cmp (Some 7) two ≡ None
after_the_last = refl

among : is_among nat_cmp (8 ∷ 3 ∷ []) 3 ≡ true
among = refl

not_among : is_among nat_cmp (8 ∷ 3 ∷ []) 7 ≡ false
not_among = refl

kept_by_value : retain_entries (λ key value. nat_lt value 50) two ≡ (3, 30) ∷ []
kept_by_value = refl

kept_by_key : retain_entries (λ key value. nat_lt 3 key) two ≡ (7, 70) ∷ []
kept_by_key = refl

one_goes : all_pass (λ key value. nat_lt 3 key) two ≡ false
one_goes = refl

none_goes : all_pass (λ key value. nat_lt 2 key) two ≡ true
none_goes = refl
