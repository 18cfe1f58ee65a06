-- What a file stands for is one thing.
-- Source: none; they are about our own definitions. What a file is is defined in `journal`.
use Rattle.std.specs.Prelude.{◌≡◌, ℕ, List}
use Rattle.journal.specs.Opening.{FileMeans, IsStoreFault}
use Rattle.journal.specs.Region.{StandsForState}
use Rattle.durable_model.specs.Saved.{Saved, nothing_saved}
use Rattle.row_store.specs.Bodies.{Refuses, Takes}

-- a file stands for one durable state, after one number of changes, whichever list it is under
abbrev pub FilesMeanOne : Type 0
FilesMeanOne = (digest other file : List ℕ) (d e : Saved) (m n : ℕ)
    → FileMeans Takes nothing_saved digest file d m
    → FileMeans Takes nothing_saved other file e n → (d ≡ e) × (m ≡ n)

-- and a store is under one list
abbrev pub StoresMeanOne : Type 0
StoresMeanOne = (digest other file : List ℕ) (d e : Saved) (m n : ℕ)
    → StandsForState Takes nothing_saved digest file d m
    → StandsForState Takes nothing_saved other file e n → (digest ≡ other) × (d ≡ e) × (m ≡ n)

-- a store has no fault
abbrev pub StoresHaveNoFault : Type 0
StoresHaveNoFault = (digest file : List ℕ) (d : Saved) (n offset : ℕ)
    → StandsForState Takes nothing_saved digest file d n
    → IsStoreFault Takes Refuses nothing_saved file offset → ⊥
