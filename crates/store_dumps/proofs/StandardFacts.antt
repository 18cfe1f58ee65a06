-- Values from outside, so that a wrong rule in the specs does not check.
use Rattle.std.proofs.Common.{◌≡◌, refl, false, true, [], ◌∷◌, Some, Err, arith}
use Rattle.std.specs.Prelude.{codes}
use Rattle.journal.specs.declared.open_fault.OpenFault.TheVariants as fault
use Rattle.storage_key.specs.Key.{PlainKey}
use Rattle.row_changes.specs.Change.{AreaClear, AreaPut, SetMode}
use Rattle.row_lines.specs.Row.{Area, Mode}
use Rattle.store_dumps.specs.Dump.{WriteCounts, Writes, rows_of}
use Rattle.store_dumps.specs.declared.fault.DumpFault.TheVariants.{NoMemory, Open}

-- the key of a document of `https://a.test` under that site
abbrev key_a : PlainKey
key_a = record {
  top = record { https = true; host = codes "a.test" };
  origin =
      record { https = true; ip = false; host = codes "a.test"; port = 443 };
  bit = false;
}

-- rows stand in the order of the row changes, and a clear adds none
rows : rows_of (AreaPut key_a (codes "k") (codes "v") ∷ AreaClear key_a ∷ SetMode key_a ∷ [])
    ≡ Area key_a (codes "k") (codes "v") ∷ Mode key_a ∷ []
rows = refl

-- want of memory behind one byte of two, which is no write fault
stopped : Writes {T = Unit {0}} (1 ∷ 2 ∷ []) (Err NoMemory) (Some []) (Some (1 ∷ []))
stopped = (1, omega arith, refl)

still : WriteCounts {T = Unit {0}} (Err (Open fault.NoMemory)) 7 7
still = refl
