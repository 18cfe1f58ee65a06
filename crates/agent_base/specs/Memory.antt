-- What the ends in memory show to contracts: their bytes and their calls.
-- Source: none.
use Rattle.std.specs.Prelude.{ℕ, Bool, List, length, ◌==◌, ◌||◌}
use Rattle.std.specs.List.{list_any}
use Rattle.agent_base.specs.Counts.{next_count}

-- a source in memory: the bytes left, the numbers of the calls that fail, the calls made, the
-- faults
pub record SourceView : Type 0 where
  pub left : List ℕ
  pub fails : List ℕ
  pub calls : ℕ
  pub faults : ℕ

-- a sink in memory: the bytes taken, how many it takes in all, and its calls as a source's
pub record SinkView : Type 0 where
  pub taken : List ℕ
  pub room : ℕ
  pub fails : List ℕ
  pub calls : ℕ
  pub faults : ℕ

-- whether the call after this many is one that fails; the first call has the number 1
abbrev pub next_fails : List ℕ → ℕ → Bool
next_fails fails calls = list_any (λ number. number == next_count calls) fails

-- whether the next write is refused: it is one that fails, or no room is left
abbrev pub refuses : SinkView → Bool
refuses sink = next_fails sink.fails sink.calls || sink.room == length sink.taken
