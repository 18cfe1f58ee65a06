-- What a map is after a write through a reference that it lent.
use Rattle.std.specs.Prelude.{◌≡◌, Bool, List, Option, OnSome}
use denote.RattleType.{RattleType}
use Rattle.std.specs.declared.cmp.Ordering.{Ordering}
use Rattle.std.specs.Borrow.{LendsSo, MutBor, Fml}
use Rattle.key_map.specs.Entries.{map_set}
use Rattle.key_map.specs.contracts.map.KeyMap.{the_row}

-- what a clause has as K.Ord
abbrev pub OrdMembers : Type 0 → Type 0
OrdMembers K =
    record { partial_cmp : K → K → Option Ordering; eq : K → K → Bool; cmp : K → K → Ordering }

-- the type of a map, as the logic names it
abbrev pub map_row : (K V : RattleType) → OrdMembers K.Denot → RattleType
map_row K V g =
    the_row K V (record { cmp = g.cmp }) (record { eq = g.eq })
    (record { partial_cmp = g.partial_cmp })

-- the map ends with the last value behind r at the key, and as it was where the key is not there
abbrev pub LendsValue : (K V : RattleType) (g : OrdMembers K.Denot)
    → MutBor (List (K.Denot × V.Denot)) → K.Denot → Option (MutBor V.Denot) → Fml
LendsValue K V g m key r =
    LendsSo (map_row K V g) V m r (λ n w. OnSome r (n ≡ map_set g.cmp key w m.now)) (λ n. n ≡ m.now)
