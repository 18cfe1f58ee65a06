-- What the session areas are after a write through one that was lent.
use Rattle.std.specs.Prelude.{◌≡◌, ℕ, List, Option, OnSome, Result}
use denote.RattleType.{RattleType}
use Rattle.std.specs.Borrow.{LendsSo, LendsSoOk, MutBor, Fml}
use Rattle.local_area.specs.Area.{Pair}
use Rattle.local_area.specs.contracts.area.Area as area
use Rattle.key_map.specs.Entries.{map_set}
use Rattle.key_map.specs.Lends.{OrdMembers}
use Rattle.session_area.specs.Sessions.{areas_of, ChangesTab, SameAreas}
use Rattle.session_area.specs.contracts.sessions.Sessions as sessions
use Rattle.session_area.specs.contracts.shared.SharedArea as shared

-- the type of the sessions, as the logic names it
abbrev pub sessions_row : (K : RattleType) → OrdMembers K.Denot → RattleType
sessions_row K g =
    sessions.the_row K (record { cmp = g.cmp }) (record { eq = g.eq })
    (record { partial_cmp = g.partial_cmp })

-- the tab ends with the last area behind r at the key, and with the areas that it had where none is
-- lent. Other tabs keep theirs.
abbrev pub LendsSession : (K : RattleType) (g : OrdMembers K.Denot)
    → MutBor (List (ℕ × List (K.Denot × List Pair))) → ℕ → K.Denot → {E : Type 0}
    → Result (MutBor (List Pair)) E → Fml
LendsSession K g s tab key r =
    LendsSoOk (sessions_row K g) area.the_row s r
    (λ n w. ChangesTab tab (map_set g.cmp key w (areas_of tab s.now)) s.now n)
    (λ n. SameAreas s.now n)

-- the same of what holds the area. Only private functions see it.
abbrev pub LendsShared : (K : RattleType) (g : OrdMembers K.Denot)
    → MutBor (List (ℕ × List (K.Denot × List Pair))) → ℕ → K.Denot → Option (MutBor (List Pair))
    → Fml
LendsShared K g s tab key r =
    LendsSo (sessions_row K g) shared.the_row s r
    (λ n w. OnSome r (ChangesTab tab (map_set g.cmp key w (areas_of tab s.now)) s.now n))
    (λ n. SameAreas s.now n)

-- what holds an area ends with the last pairs behind r, and as it was where none is lent. Only
-- private functions see it.
abbrev pub LendsOwn : {E : Type 0} → MutBor (List Pair) → Result (MutBor (List Pair)) E → Fml
LendsOwn s r = LendsSoOk shared.the_row area.the_row s r (λ n w. n ≡ w) (λ n. n ≡ s.now)
