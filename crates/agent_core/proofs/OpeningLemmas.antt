-- What the opening of a store says of the calls of its disk.
use Rattle.std.proofs.Common.{◌≡◌, ⊎_elim}
use Rattle.std.specs.Prelude.{Result, Ok, Err, IsErrOf}
use Rattle.disk_model.specs.Disk.{View}
use Rattle.journal.specs.Opening.{HasNoFault, Opens}
use Rattle.journal.specs.declared.open_fault.OpenFault.{OpenFault}
use Rattle.journal.specs.declared.open_fault.OpenFault.TheVariants as fault

-- an opening that answers no device fault had no call that failed
pub never_failed : {T : Type 0} (result : Result T OpenFault) (v w : View) → Opens result v w
    → (IsErrOf result fault.DeviceFault → ⊥) → HasNoFault v w
never_failed result v w opens other = ⊎_elim
    (λ (fails : IsErrOf result fault.DeviceFault). absurd (other fails))
    (λ (none : HasNoFault v w). none) opens.only

pub opened_well : {T : Type 0} (result : Result T OpenFault) (value : T) (v w : View)
    → result ≡ Ok value → Opens result v w → HasNoFault v w
opened_well result value v w is opens = never_failed result v w opens apart
  where
    apart : result ≡ Err fault.DeviceFault → ⊥
    apart fails = cc

pub refused_well : {T : Type 0} (result : Result T OpenFault) (why : OpenFault) (v w : View)
    → result ≡ Err why → Opens result v w → (why ≡ fault.DeviceFault → ⊥) → HasNoFault v w
refused_well result why v w is opens other =
    never_failed result v w opens (λ fails. other (same fails))
  where
    same : result ≡ Err fault.DeviceFault → why ≡ fault.DeviceFault
    same fails = cc
