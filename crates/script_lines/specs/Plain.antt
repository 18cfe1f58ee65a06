-- What contracts see of the types of this crate: the bytes of texts, the items of lists.
-- Source: none; it says how contracts see types of this crate.
use Rattle.std.specs.Prelude.{◌≡◌, ◌⊎◌, map, string_bytes, Result, Ok, Err, MatchResult}
use Rattle.std.specs.Prelude.{ℕ, Bool, List, Option}
use Rattle.agent_base.specs.Streams.{Gives}
use Rattle.script_actions.specs.Plain.{line_of}
use Rattle.script_lines.specs.Script.{PlainScript, PlainFault}
use Rattle.script_lines.specs.Script as plain
use Rattle.script_lines.specs.Grammar.{script_of_bytes}
use Rattle.script_lines.specs.TwoScripts.{two_of_bytes}
use Rattle.script_lines.specs.declared.script.Script.{Script}
use Rattle.script_lines.specs.declared.script.ScriptFault.{ScriptFault}
use Rattle.script_lines.specs.declared.script.ScriptFault.TheVariants.{NotJson, UnknownAction}
use Rattle.script_lines.specs.declared.script.ScriptFault.TheVariants.{BadField, LineTooLong}
use Rattle.script_lines.specs.declared.script.ScriptFault.TheVariants.{TooLong, NotUtf8, ReadFault}
use Rattle.script_lines.specs.declared.script.ScriptFault.TheVariants.{BadHeader, NoDivider, NoMemory}

-- a script
abbrev pub script_of : Script → PlainScript
script_of script = record { cuts = script.cuts.items; lines = map line_of script.lines.items }

-- two scripts
abbrev pub scripts_of : Script × Script → PlainScript × PlainScript
scripts_of scripts = (script_of scripts.0, script_of scripts.1)

-- why there is no script
abbrev pub fault_of : ScriptFault → PlainFault
fault_of (NotJson line) = plain.NotJson line
fault_of (UnknownAction line) = plain.UnknownAction line
fault_of (BadField line name) = plain.BadField line (string_bytes name)
fault_of (LineTooLong line) = plain.LineTooLong line
fault_of TooLong = plain.TooLong
fault_of (NotUtf8 line) = plain.NotUtf8 line
fault_of ReadFault = plain.ReadFault
fault_of (BadHeader line) = plain.BadHeader line
fault_of NoDivider = plain.NoDivider
fault_of NoMemory = plain.NoMemory

-- a reader answers the expected value, seen by `plain`, or its fault, or want of memory
abbrev pub Reads : {T P : Type 0} → (T → P) → Result P PlainFault → Result T ScriptFault → Type 0
Reads plain expected result =
    MatchResult result (λ value. expected ≡ Ok (plain value))
    (λ why. (why ≡ NoMemory) ⊎ (expected ≡ Err (fault_of why)))

-- the same of a reader over a source, which answers a fault of the source, too
abbrev pub ReadsSource : {T P : Type 0}
    → (T → P) → Result P PlainFault → Result T ScriptFault → Type 0
ReadsSource plain expected result =
    MatchResult result (λ value. expected ≡ Ok (plain value))
    (λ why. (why ≡ ReadFault) ⊎ ((why ≡ NoMemory) ⊎ (expected ≡ Err (fault_of why))))

-- the source gave bytes that are this, as a script that may have cuts or not
abbrev pub GaveScript : Bool → Option (List ℕ) → Option (List ℕ) → Result PlainScript PlainFault
    → Type 0
GaveScript cuts_allowed old new script =
    (bytes : List ℕ) × Gives old new bytes × (script_of_bytes cuts_allowed bytes ≡ script)

-- the same of two scripts
abbrev pub GaveTwo : Option (List ℕ) → Option (List ℕ)
    → Result (PlainScript × PlainScript) PlainFault → Type 0
GaveTwo old new scripts =
    (bytes : List ℕ) × Gives old new bytes × (two_of_bytes bytes ≡ scripts)
