-- What the machine of one site makes of its local script alone, over restarts too.
-- Source: none.
-- Our own choice: at a restart it goes on from what it has kept itself, its first kept changes
-- made to what it had. A row change of a cell that is not home to the site is passed over.
use Rattle.std.specs.Prelude.{List, [], ◌∷◌, ◌++◌, take}
use Rattle.unwinding.specs.Machine.{Machine}
use Rattle.unwinding.specs.LocalEntries.{EntryOf}
use Rattle.unwinding.specs.OneSite.{OwnState, own_step, own_outcome, own_reply}
use Rattle.unwinding.specs.Durable.{Keeping, DurableChange, partition_changes, cells_changes}
use Rattle.unwinding.specs.LocalScript.{ScriptItem, Happens, Restarts, Beginning, LocalScript}

-- what the machine of one site has been through since its last restart
pub record Since (Cells Partition Reply Change KeptPartition KeptCells : Type 0) : Type 0 where
  pub own : OwnState Cells Partition
  pub base : Beginning KeptPartition KeptCells
  pub replies : List Reply
  pub changes : List (List Change)

-- row changes as one durable change; no row change is none
abbrev pub some_changes : {Change : Type 0} → List Change → List (List Change)
some_changes [] = []
some_changes (c ∷ cs) = (c ∷ cs) ∷ []

-- durable changes as lists of row changes
abbrev pub rows_of : {Site Change : Type 0} → List (DurableChange Site Change)
    → List (List Change)
rows_of [] = []
rows_of (a ∷ more) = a.changes ∷ rows_of more

module _
    {Site Cell Cells Partition Content Rest Line Event Reply Change KeptPartition KeptCell KeptCells
    : Type 0}
    (m : Machine Site Cell Cells Partition Content Rest Line Event Reply Change)
    (k : Keeping Site Cell Cells Partition Content Rest Change KeptPartition KeptCell KeptCells)
  where
    -- the machine's states since a restart
    abbrev pub SinceOf : Type 0
    SinceOf = Since Cells Partition Reply Change KeptPartition KeptCells

    -- the machine just after a restart
    abbrev pub begun : Site → Beginning KeptPartition KeptCells → SinceOf
    begun s b =
        record {
          own = record {
            partition = k.partition_again s b.partition;
            cells = k.cells_again b.cells;
          };
          base = b;
          replies = [];
          changes = [];
        }

    -- the machine after an entry
    abbrev pub after_entry : Site → SinceOf → EntryOf m → SinceOf
    after_entry s a e =
        record {
          own = own_step m s a.own e;
          base = a.base;
          replies = a.replies ++ own_reply m s a.own e;
          changes = a.changes ++ some_changes (own_outcome m s a.own e).changes;
        }

    -- the site's durable changes of its kept partition
    abbrev pub own_partition_changes : Site → List (List Change) → KeptPartition → KeptPartition
    own_partition_changes s [] p = p
    own_partition_changes s (cs ∷ css) p =
        own_partition_changes s css (partition_changes k s cs p)

    -- the site's durable changes of the kept cells that are home to it
    abbrev pub own_cells_changes : Site → List (List Change) → KeptCells → KeptCells
    own_cells_changes s [] x = x
    own_cells_changes s (cs ∷ css) x =
        own_cells_changes s css (cells_changes k (m.is_home s) cs x)

    -- what the site finds after a restart
    abbrev pub found_again : Site → List (List Change) → Beginning KeptPartition KeptCells
        → Beginning KeptPartition KeptCells
    found_again s css b =
        record {
          partition = own_partition_changes s css b.partition;
          cells = own_cells_changes s css b.cells;
        }

    -- the replies that the items give out: at each restart those that were acknowledged
    abbrev pub item_replies : Site → SinceOf → List (ScriptItem Cell Content Event) → List Reply
    item_replies s a [] = []
    item_replies s a (Happens e ∷ is) = item_replies s (after_entry s a e) is
    item_replies s a (Restarts moment acknowledged kept ∷ is) =
        take acknowledged a.replies
        ++ item_replies s (begun s (found_again s (take kept a.changes) a.base)) is

    -- the replies of the site's machine, given its local script alone
    abbrev pub site_run : Site → LocalScript Cell Content Event KeptPartition KeptCells
        → List Reply
    site_run s script = item_replies s (begun s script.beginning) script.items
