-- Bytes that wait in memory for a sink.
-- A clause on bytes speaks of a sink that tells its bytes; of one that tells none nothing is said.
-- Source: none.
-- Our own choice: so many bytes are written together.
use Rattle.std.specs.Prelude.{◌≡◌, ℕ, List, ◌++◌, Option}
use Rattle.agent_base.specs.Streams.{Takes}
use Rattle.waiting_lines.specs.declared.waiting.TheConstants.{MOST_WAITING}

-- so many bytes are written together
abbrev pub most_waiting : ℕ
most_waiting = MOST_WAITING

-- of a text the sink took the front, and the rest waits
abbrev pub TakesFront : (before after : Option (List ℕ)) → (text rest : List ℕ) → Type 0
TakesFront before after text rest =
    (front : List ℕ) × (Takes before after front × (text ≡ front ++ rest))
