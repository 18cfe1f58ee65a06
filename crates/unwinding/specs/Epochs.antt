-- A run as a list of epochs, each ended by a restart, and the replies to one site over them.
-- Source: none.
-- Our own choice: the line that met a device fault, the interrupted line, counts as tried, since
-- its changes may have reached the store. It does not move the clock, and is not replied to.
use Rattle.std.specs.Prelude.{ℕ, List, [], ◌∷◌, ◌++◌, Option, Some, None, take}
use Rattle.unwinding.specs.Machine.{Machine, WorldOf}
use Rattle.unwinding.specs.World.{SiteReply, world_step, replies, world_after, of_site}
use Rattle.unwinding.specs.Durable.{Keeping, DurableChange, DurableOf, apply_all, restarted}
use Rattle.unwinding.specs.Durable.{line_changes}

-- the executed lines, the interrupted one, how many were acknowledged, and how many durable
-- changes the restart found
pub record Epoch (Line : Type 0) : Type 0 where
  pub executed : List Line
  pub interrupted : Option Line
  pub acknowledged : ℕ
  pub kept : ℕ

-- where an epoch begins: the rest, which a restart goes on with, and a durable state
pub record Opening (Rest State : Type 0) : Type 0 where
  pub rest : Rest
  pub state : State

-- the executed lines and the interrupted one
abbrev pub with_interrupted : {Line : Type 0} → List Line → Option Line → List Line
with_interrupted ls None = ls
with_interrupted ls (Some l) = ls ++ l ∷ []

-- each line of an epoch that may have changed something
abbrev pub tried : {Line : Type 0} → Epoch Line → List Line
tried e = with_interrupted e.executed e.interrupted

module _ {Site Cell Cells Partition Content Rest Line Event Reply Change : Type 0}
    (m : Machine Site Cell Cells Partition Content Rest Line Event Reply Change) where
  -- the durable changes of some lines, in order
  abbrev pub all_changes : WorldOf m → List Line → List (DurableChange Site Change)
  all_changes w [] = []
  all_changes w (l ∷ ls) = line_changes m w l ++ all_changes (world_step m w l) ls

  -- the replies of an epoch that are given out
  unfoldable pub acknowledged_replies : WorldOf m → Epoch Line → List (SiteReply Site Reply)
  acknowledged_replies w e = take e.acknowledged (replies m w e.executed)

  -- the durable changes of an epoch that its restart found: a front of those that were tried
  abbrev pub kept_changes : WorldOf m → Epoch Line → List (DurableChange Site Change)
  kept_changes w e = take e.kept (all_changes w (tried e))

module _
    {Site Cell Cells Partition Content Rest Line Event Reply Change KeptPartition KeptCell KeptCells
    : Type 0}
    (m : Machine Site Cell Cells Partition Content Rest Line Event Reply Change)
    (k : Keeping Site Cell Cells Partition Content Rest Change KeptPartition KeptCell KeptCells)
  where
    -- the durable state that an epoch's restart finds
    unfoldable pub next_durable : WorldOf m → DurableOf k → Epoch Line → DurableOf k
    next_durable w d e = apply_all k (kept_changes m w e) d

    -- the replies to one site in a whole run
    abbrev pub world_replies : Site → Rest → DurableOf k → List (Epoch Line) → List Reply
    world_replies s r d [] = []
    world_replies s r d (e ∷ es) =
        let w = restarted k r d in
        of_site m s (acknowledged_replies m w e)
        ++ world_replies s (world_after m w e.executed).rest (next_durable w d e) es
