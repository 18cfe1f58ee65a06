-- What an opening of a store gives to an agent.
-- Source: none.
use Rattle.std.specs.Prelude.{ℕ, List, [], Result}
use Rattle.disk_model.specs.Disk.{View}
use Rattle.journal.specs.declared.open_fault.OpenFault.{OpenFault}
use Rattle.suffix_list.specs.ListText.{RuleList}
use Rattle.suffix_list.specs.Suffix.{Rule}
use Rattle.access_grants.specs.Grant.{PlainGrants}
use Rattle.web_storage.specs.Stored as storage
use Rattle.web_cookies.specs.Stored as cookies
use Rattle.agent_memory.specs.AgentState.{AgentState}
use Rattle.row_opening.specs.Under.{MakesCalls}

-- how many changing calls the opening of an agent makes that was answered so, over a file: those of
-- an opening of the rows
abbrev pub OpensByCalls : RuleList → List ℕ → Result (Unit {0}) OpenFault → (old new : View)
    → Type 0
OpensByCalls list file answer old new = MakesCalls list file answer old new

-- memory that goes on with what is durable
abbrev pub resumed : List Rule → ℕ → storage.Entries → cookies.Entries → PlainGrants → AgentState
resumed rules now areas cells grants =
    record {
      rules = rules;
      now = now;
      tabs = [];
      entries = areas;
      cookies = cells;
      grants = grants.rows;
    }
