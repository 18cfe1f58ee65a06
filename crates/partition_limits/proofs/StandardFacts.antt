-- Values worked out by hand from the limits, so that a wrong rule in the specs does not check.
use Rattle.std.proofs.Common.{◌≡◌, refl, ℕ, Bool, [], ◌∷◌, true, false}
use Rattle.std.specs.Prelude.{pos}
use Rattle.partition_limits.specs.declared.tally.CellKind.TheVariants.{Own, Partition}
use Rattle.partition_limits.specs.declared.excess.Weighed.{Weighed}
use Rattle.partition_limits.specs.Limits.{fits}
use Rattle.partition_limits.specs.Victims.{victims, without}

full_partition : fits Partition 180 10240 ≡ true
full_partition = refl

one_cookie_more : fits Partition 181 0 ≡ false
one_cookie_more = refl

one_byte_more : fits Partition 1 10241 ≡ false
one_byte_more = refl

own_cell_of_many_bytes : fits Own 180 10241 ≡ true
own_cell_of_many_bytes = refl

own_cell_of_many_cookies : fits Own 181 0 ≡ false
own_cell_of_many_cookies = refl

-- a weighed cookie
abbrev row : Bool → Bool → ℕ → ℕ → Weighed
row expired secure last bytes =
    record { expired = expired; secure = secure; last = pos last; bytes = bytes }

nothing_goes : victims Partition (row true false 1 10000 ∷ row false false 1 240 ∷ []) 1 ≡ []
nothing_goes = refl

-- the expired one is enough, and the fresh one of least use stays
expired_first :
    victims Partition (row false false 9 5000 ∷ row true true 9 5000 ∷ row false false 0 241 ∷ []) 2 ≡ 1 ∷ []
expired_first = refl

-- all expired ones go, lowest place first, where one would do
all_expired :
    victims Partition (row true true 9 1 ∷ row true true 1 9000 ∷ row false true 9 5000 ∷ []) 2 ≡ 0 ∷ 1 ∷ []
all_expired = refl

-- a Secure cookie of earlier use stays while another goes
secure_stays :
    victims Partition (row false true 1 5000 ∷ row false false 9 5000 ∷ row false true 9 1000 ∷ []) 2 ≡ 1 ∷ []
secure_stays = refl

earliest_use_first :
    victims Partition (row false true 5 5000 ∷ row false true 4 5000 ∷ row false false 0 1000 ∷ []) 2 ≡ 1 ∷ []
earliest_use_first = refl

lowest_place_first :
    victims Partition (row false true 5 5000 ∷ row false true 5 5000 ∷ row false false 0 1000 ∷ []) 2 ≡ 0 ∷ []
lowest_place_first = refl

-- as many as are needed
two_go :
    victims Partition (row false true 5 5000 ∷ row false true 4 5000 ∷ row false false 0 9000 ∷ []) 2 ≡ 1 ∷ 0 ∷ []
two_go = refl

-- the fresh one stays even where it does not fit alone
fresh_stays : victims Partition (row false false 5 5000 ∷ row true false 0 20000 ∷ []) 1 ≡ 0 ∷ []
fresh_stays = refl

left_out : without {X = ℕ} (2 ∷ 0 ∷ []) (7 ∷ 8 ∷ 9 ∷ 10 ∷ []) ≡ 8 ∷ 10 ∷ []
left_out = refl
