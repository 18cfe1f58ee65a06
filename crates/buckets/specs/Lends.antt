-- What a shed is after a write through an area that it lent.
use Rattle.std.specs.Prelude.{◌≡◌, List, Option, OnSome}
use denote.RattleType.{RattleType}
use Rattle.std.specs.Borrow.{LendsSo, MutBor, Fml}
use Rattle.local_area.specs.Area.{Pair}
use Rattle.local_area.specs.contracts.area.Area as area
use Rattle.key_map.specs.Lends.{OrdMembers}
use Rattle.buckets.specs.declared.shed.Bucket.{Bucket}
use Rattle.buckets.specs.Shed.{with_pairs}
use Rattle.buckets.specs.contracts.shed.Shed as shed

-- the type of a shed, as the logic names it
abbrev pub shed_row : (K : RattleType) → OrdMembers K.Denot → RattleType
shed_row K g =
    shed.the_row K (record { cmp = g.cmp }) (record { eq = g.eq })
    (record { partial_cmp = g.partial_cmp })

-- the shed ends with the last area behind r at the key, whose mode stays, and as it was where the
-- key has no bucket
abbrev pub LendsArea : (K : RattleType) (g : OrdMembers K.Denot)
    → MutBor (List (K.Denot × Bucket)) → K.Denot → Option (MutBor (List Pair)) → Fml
LendsArea K g s key r =
    LendsSo (shed_row K g) area.the_row s r
    (λ n w. OnSome r (n ≡ with_pairs g.cmp key w s.now)) (λ n. n ≡ s.now)
