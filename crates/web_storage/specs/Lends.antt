-- What the storage holds after a write through an area that it lent.
use Rattle.std.specs.Prelude.{◌≡◌, ℕ, List, Result}
use Rattle.std.specs.Borrow.{LendsSoOk, MutBor, Fml}
use Rattle.storage_key.specs.Key.{PlainKey}
use Rattle.local_area.specs.Area.{Pair}
use Rattle.local_area.specs.contracts.area.Area as area
use Rattle.storage_events.specs.declared.event.AreaKind.{AreaKind}
use Rattle.agent_model.specs.Partition.{Holdings, with_area}
use Rattle.web_storage.specs.Stored.{Entries, held_with}
use Rattle.web_storage.specs.contracts.storage.Storage as storage

-- the storage holds what it held, beside all else
abbrev pub HoldsSame : (old new : Entries) → Type 0
HoldsSame old new = (beside : Holdings) → held_with beside new ≡ held_with beside old

-- the storage holds what it held, with these pairs in one area, beside all else
abbrev pub HoldsPairs : AreaKind → ℕ → PlainKey → List Pair → (old new : Entries) → Type 0
HoldsPairs kind tab key pairs old new =
    (beside : Holdings) → held_with beside new ≡ with_area kind tab key pairs (held_with beside old)

-- the storage ends with the last pairs behind r in the area, and holds what it held where none is
-- lent
abbrev pub LendsArea : {E : Type 0} → MutBor Entries → AreaKind → ℕ → PlainKey
    → Result (MutBor (List Pair)) E → Fml
LendsArea s kind tab key r =
    LendsSoOk storage.the_row area.the_row s r
    (λ n w. HoldsPairs kind tab key w s.now n) (λ n. HoldsSame s.now n)
