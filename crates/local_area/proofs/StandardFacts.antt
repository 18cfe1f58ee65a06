-- Values worked out by hand from the standard's steps and from this repository's own choices.
use Rattle.std.proofs.Common.{◌≡◌, ◌*◌, ℕ, refl, List, [], ◌∷◌, Some, None}
use Rattle.std.specs.Prelude.{codes}
use Rattle.local_area.specs.Area.{Pair, quota, area_get, area_nth, area_put, area_remove, area_weight}
use Rattle.local_area.specs.Put.{same, added, changed, put_answer}

abbrev pair : List ℕ → List ℕ → Pair
pair name value = record { name = name; value = value }

-- `b` with 2, then `a` with 1
abbrev two : List Pair
two = pair (codes "b") (codes "2") ∷ pair (codes "a") (codes "1") ∷ []

five_mebibytes : quota ≡ 5 * 1024 * 1024
five_mebibytes = refl

value_of_name : area_get (codes "a") two ≡ Some (codes "1")
value_of_name = refl

name_of_no_pair : area_get (codes "1") two ≡ None
name_of_no_pair = refl

last_place : area_nth 1 two ≡ Some (codes "a")
last_place = refl

past_the_end : area_nth 2 two ≡ None
past_the_end = refl

changed_in_place : area_put (codes "b") (codes "3") two ≡ pair (codes "b") (codes "3") ∷ pair (codes "a") (codes "1") ∷ []
changed_in_place = refl

new_at_the_end : area_put (codes "A") [] two ≡ pair (codes "b") (codes "2") ∷ pair (codes "a") (codes "1") ∷ pair (codes "A") [] ∷ []
new_at_the_end = refl

removed : area_remove (codes "b") two ≡ pair (codes "a") (codes "1") ∷ []
removed = refl

removed_absent : area_remove (codes "c") two ≡ two
removed_absent = refl

-- the two bytes of U+00E9 as a name, with an empty value
two_bytes : area_weight (pair (195 ∷ 169 ∷ []) [] ∷ two) ≡ 6
two_bytes = refl

answer_same : put_answer (codes "a") (codes "1") two ≡ same
answer_same = refl

answer_changed : put_answer (codes "a") [] two ≡ changed (codes "1")
answer_changed = refl

answer_added : put_answer (codes "c") (codes "1") two ≡ added
answer_added = refl
