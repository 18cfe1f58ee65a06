-- With what a step of serving ends, and what of it the sink's count of faults tells.
-- Source: none.
use Rattle.std.specs.Prelude.{◌≡◌, ℕ, Result, Ok, Err}
use Rattle.served_lines.specs.Serving.{SinkCounts}
use Rattle.served_lines.specs.declared.ending.Served.{Served}
use Rattle.served_lines.specs.declared.ending.Served.TheVariants.{Read, Write, Store, NoMemory}

-- an ending that a line can bring
abbrev pub IsOfLine : Served → Type 0
IsOfLine Write = Unit {0}
IsOfLine (Store why) = Unit {0}
IsOfLine NoMemory = Unit {0}
IsOfLine ending = ⊥

-- an ending that is no fault of the source
abbrev pub IsNotOfSource : Served → Type 0
IsNotOfSource Read = ⊥
IsNotOfSource ending = Unit {0}

-- the sink's count of faults, by how a step of serving ended
abbrev pub CountsSink : Result (Unit {0}) Served → (before now : ℕ) → Type 0
CountsSink (Ok done) before now = now ≡ before
CountsSink (Err ending) before now = SinkCounts ending before now
