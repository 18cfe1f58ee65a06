-- What of the world outlives a restart, and what the row changes of lines make of it.
-- Source: none.
-- Our own choice: the row changes of one line are one durable change, kept or lost as a whole. A
-- line without row changes has none.
use Rattle.std.specs.Prelude.{◌≡◌, Bool, true, false, List, [], ◌∷◌, ◌++◌, Option, Some, None}
use Rattle.unwinding.specs.Machine.{World, Occurrence, Machine, WorldOf}
use Rattle.unwinding.specs.World.{outcome, after_sides}

-- what is kept, how a restart begins again with it, and what one row change makes of it
pub record Keeping
    (Site Cell Cells Partition Content Rest Change KeptPartition KeptCell KeptCells : Type 0)
    : Type 0 where
  -- what is kept of a partition and of a cell
  pub partition_kept : Partition → KeptPartition
  pub cell_kept : Cell → Content → KeptCell
  -- what a restart makes of that, and of the rest
  pub partition_again : Site → KeptPartition → Partition
  pub cell_again : Cell → KeptCell → Content
  pub rest_again : Rest → Rest
  -- the container of kept cells: a kept cell, and all cells of a restarted world
  pub kept_get : KeptCells → Cell → KeptCell
  pub cells_again : KeptCells → Cells
  -- the kept cells that pass a test, and nothing of the others
  pub kept_restrict : (Cell → Bool) → KeptCells → KeptCells
  -- one row change: of a site's kept partition, of a kept cell, of all kept cells under a test
  pub partition_change : Site → Change → KeptPartition → KeptPartition
  pub cell_change : Cell → Change → KeptCell → KeptCell
  pub cells_change : (Cell → Bool) → Change → KeptCells → KeptCells

-- the durable state
pub record Durable (Site KeptPartition KeptCells : Type 0) : Type 0 where
  pub partition : Site → KeptPartition
  pub cells : KeptCells

-- one durable change: row changes, and the site whose event made them
pub record DurableChange (Site Change : Type 0) : Type 0 where
  pub site : Site
  pub changes : List Change

module _ {Site Cell Cells Partition Content Rest Change KeptPartition KeptCell KeptCells : Type 0}
    (k : Keeping Site Cell Cells Partition Content Rest Change KeptPartition KeptCell KeptCells)
  where
    -- the durable states of this keeping
    abbrev pub DurableOf : Type 0
    DurableOf = Durable Site KeptPartition KeptCells

    -- row changes of a kept partition, in order
    abbrev pub partition_changes : Site → List Change → KeptPartition → KeptPartition
    partition_changes s [] p = p
    partition_changes s (c ∷ cs) p = partition_changes s cs (k.partition_change s c p)

    -- row changes of a kept cell, in order
    abbrev pub cell_changes : Cell → List Change → KeptCell → KeptCell
    cell_changes d [] x = x
    cell_changes d (c ∷ cs) x = cell_changes d cs (k.cell_change d c x)

    -- row changes of the kept cells that pass a test, in order
    abbrev pub cells_changes : (Cell → Bool) → List Change → KeptCells → KeptCells
    cells_changes test [] x = x
    cells_changes test (c ∷ cs) x = cells_changes test cs (k.cells_change test c x)

    -- the durable state after row changes
    abbrev pub apply_changes : List Change → DurableOf → DurableOf
    apply_changes cs d =
        record {
          partition = λ s. partition_changes s cs (d.partition s);
          cells = cells_changes (λ c. true) cs d.cells;
        }

    -- the durable state after durable changes
    abbrev pub apply_all : List (DurableChange Site Change) → DurableOf → DurableOf
    apply_all [] d = d
    apply_all (a ∷ more) d = apply_all more (apply_changes a.changes d)

    -- the world that a restart opens
    abbrev pub restarted : Rest → DurableOf → World Site Cells Partition Rest
    restarted r d =
        record {
          partition = λ s. k.partition_again s (d.partition s);
          cells = k.cells_again d.cells;
          rest = k.rest_again r;
        }

module _ {Site Cell Cells Partition Content Rest Line Event Reply Change : Type 0}
    (m : Machine Site Cell Cells Partition Content Rest Line Event Reply Change) where
  -- row changes of a site as a durable change; no row change is none
  abbrev pub durable_change : Site → List Change → List (DurableChange Site Change)
  durable_change s [] = []
  durable_change s (c ∷ cs) = record { site = s; changes = c ∷ cs } ∷ []

  -- the durable change of the main event
  abbrev pub main_changes : WorldOf m → Option (Occurrence Site Event)
      → List (DurableChange Site Change)
  main_changes w None = []
  main_changes w (Some a) =
      durable_change a.site (outcome m a.site (w.partition a.site) w.cells a.event).changes

  -- the durable change of a line, if it has one
  unfoldable pub line_changes : WorldOf m → Line → List (DurableChange Site Change)
  line_changes w l = main_changes (after_sides m w l) (m.main w l)

  -- a durable change, where it is of the site
  abbrev pub when_of_site : Bool → DurableChange Site Change → List (DurableChange Site Change)
  when_of_site true a = a ∷ []
  when_of_site false a = []

  -- the durable changes of one site
  abbrev pub changes_of_site : Site → List (DurableChange Site Change)
      → List (DurableChange Site Change)
  changes_of_site s [] = []
  changes_of_site s (a ∷ more) =
      when_of_site (m.same_site s a.site) a ++ changes_of_site s more

module _
    {Site Cell Cells Partition Content Rest Line Event Reply Change KeptPartition KeptCell KeptCells
    : Type 0}
    (m : Machine Site Cell Cells Partition Content Rest Line Event Reply Change)
    (k : Keeping Site Cell Cells Partition Content Rest Change KeptPartition KeptCell KeptCells)
  where
    -- a durable state is what is kept of a world
    pub record IsKeptOf (w : WorldOf m) (d : DurableOf k) : Type 0 where
      pub partition : (s : Site) → d.partition s ≡ k.partition_kept (w.partition s)
      pub cell : (c : Cell) → k.kept_get d.cells c ≡ k.cell_kept c (m.get w.cells c)
