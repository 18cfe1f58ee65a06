-- The store that a run of lines leaves in memory.
-- Source: none.
-- Our own choice: 16 lines make a batch, and a checkpoint is made after 100 durable changes. Both
-- numbers decide how long the store is, and neither changes what is printed.
use Rattle.std.specs.Prelude.{◌≡◌, ℕ, List, [], length}
use Rattle.sha2.specs.Sha256.{sha256}
use Rattle.unwinding.specs.Admissible.{History}
use Rattle.suffix_list.specs.ListText.{RuleList}
use Rattle.journal.specs.Region.{StandsForState}
use Rattle.script_actions.specs.Action.{PlainAction, PlainStep}
use Rattle.durable_model.specs.Keeping.{durable_of}
use Rattle.durable_model.specs.Migrate.{IsUnder}
use Rattle.durable_model.specs.Saved.{Saved, nothing_saved}
use Rattle.row_store.specs.Bodies as bodies
use Rattle.printed_model.specs.Histories.{EndsUp, IsHistoryOf, begins_at}
use Rattle.printed_model.specs.Left.{IsLeft}
use Rattle.store_runs.specs.Tidy.{IsTidyFile}
use Rattle.selftests.specs.Days.{day_start}

-- how many lines make a batch
abbrev pub day_batch : ℕ
day_batch = 16

-- after how many durable changes a checkpoint is made
abbrev pub day_checkpoint : ℕ
day_checkpoint = 100

-- the list that has no rules
abbrev pub no_rules : RuleList
no_rules = record { rules = []; digest = sha256 [] }

-- a history of all these lines over an empty store, at whose end the agent was up
pub record RanAll (steps : List PlainStep) (history : History PlainAction) : Type 0 where
  pub is : IsHistoryOf [] day_batch (begins_at day_start) (Unit {0}) steps history
  pub up : EndsUp history

-- a file that such a history leaves: it is a store under the list that has no rules, it stands for
-- a durable state, one under this list, that the history leaves, and no checkpoint is due for it
pub record IsStoreOf (steps : List PlainStep) (file : List ℕ) : Type 0 where
  pub history : History PlainAction
  pub ran : RanAll steps history
  pub state : Saved
  pub last : ℕ
  pub stands : StandsForState bodies.Takes nothing_saved (sha256 []) file state last
  pub under : IsUnder [] state
  pub left : IsLeft [] day_batch (begins_at day_start) history (durable_of state)
  pub tidy : IsTidyFile day_checkpoint (sha256 []) file

-- the length of such a file
abbrev pub IsStoreLength : List PlainStep → ℕ → Type 0
IsStoreLength steps n = (file : List ℕ) × (length file ≡ n) × IsStoreOf steps file
