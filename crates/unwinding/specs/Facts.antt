-- What a machine owes, so that the replies to a site are those of its own machine.
-- What is asked of worlds is asked of sound ones alone, by a predicate that the machine chooses:
-- those that a run can reach, or more. What is asked of durable states is asked of valid ones.
-- Source: none.
use Rattle.std.specs.Prelude.{◌≡◌, Bool, true, false, List, [], Some, None, if◌then◌else◌}
use Rattle.unwinding.specs.Machine.{World, Occurrence, Machine, WorldOf}
use Rattle.unwinding.specs.World.{is_in, consulted, no_cells, outcome, after_sides, world_step}
use Rattle.unwinding.specs.Durable.{Keeping, DurableOf, partition_changes, cell_changes}
use Rattle.unwinding.specs.Durable.{apply_changes, restarted}

-- What a machine owes that shares no cell and has no event beside the main one, in a run without
-- restart. It owes nothing on worlds.
pub record UnsharedFacts
    {Site Cell Cells Partition Content Rest Line Event Reply Change : Type 0}
    (m : Machine Site Cell Cells Partition Content Rest Line Event Reply Change) : Type 0 where
  pub site_same : (s t : Site) → m.same_site s t ≡ true → s ≡ t
  pub site_itself : (s : Site) → m.same_site s s ≡ true
  pub names_none : (p : Partition) (e : Event) → m.names p e ≡ []
  pub sweeps_none : (p : Partition) (e : Event) → m.sweeps p e ≡ false
  pub side_none : (w : WorldOf m) (l : Line) (s : Site) → m.side w l s ≡ None
  -- there is one container whose cells are all blank
  pub blank_same : (x y : Cells) → no_cells m x ≡ no_cells m y

-- an event that consults no cell, gets no reply and changes nothing durable
pub record IsQuiet
    {Site Cell Cells Partition Content Rest Line Event Reply Change : Type 0}
    (m : Machine Site Cell Cells Partition Content Rest Line Event Reply Change)
    (cells : Cells) (p : Partition) (e : Event) : Type 0 where
  pub names_none : m.names p e ≡ []
  pub sweeps_none : m.sweeps p e ≡ false
  pub no_reply : (m.step p (no_cells m cells) e).reply ≡ None
  pub no_changes : (m.step p (no_cells m cells) e).changes ≡ []

-- what a machine owes in a run without restart
pub record Facts
    {Site Cell Cells Partition Content Rest Line Event Reply Change : Type 0}
    (m : Machine Site Cell Cells Partition Content Rest Line Event Reply Change)
    (IsSound : World Site Cells Partition Rest → Type 0) : Type 0 where
  -- the tests are equality; of contents one direction is enough
  pub site_same : (s t : Site) → m.same_site s t ≡ true → s ≡ t
  pub site_itself : (s : Site) → m.same_site s s ≡ true
  pub cell_same : (c d : Cell) → m.same_cell c d ≡ true → c ≡ d
  pub content_same : (x y : Content) → m.same_content x y ≡ true → x ≡ y
  -- the container answers as a function from cells to contents, and is determined by that
  -- (a cell is set to what stood in that cell of some container, and to nothing else)
  pub get_set : (c d : Cell) (from cells : Cells)
      → m.get (m.set d (m.get from d) cells) c
      ≡ (if m.same_cell c d then m.get from d else m.get cells c)
  pub get_restrict : (test : Cell → Bool) (cells : Cells) (c : Cell)
      → m.get (m.restrict test cells) c ≡ (if test c then m.get cells c else m.blank)
  pub get_merge : (test : Cell → Bool) (new old : Cells) (c : Cell)
      → m.get (m.merge test new old) c ≡ (if test c then m.get new c else m.get old c)
  pub same_cells : (x y : Cells) → ((c : Cell) → m.get x c ≡ m.get y c) → x ≡ y
  -- the normal form of a list of cells has the same cells
  pub in_listed : (cs : List Cell) (c : Cell)
      → is_in m.same_cell c (m.listed cs) ≡ is_in m.same_cell c cs
  -- an own cell is home to its site, and to no other
  pub own_home : (s : Site) (c : Cell) → m.is_own s c ≡ true → m.is_home s c ≡ true
  pub own_alone : (s t : Site) (c : Cell) → m.is_own t c ≡ true → m.is_home s c ≡ true
      → m.same_site s t ≡ true
  -- an event beside the main one stands outside the reply
  pub side_quiet : (w : WorldOf m) (l : Line) (s : Site) (e : Event) → IsSound w
      → m.side w l s ≡ Some e → IsQuiet m w.cells (w.partition s) e
  pub sound : (w : WorldOf m) (l : Line) → IsSound w → IsSound (world_step m w l)

module _
    {Site Cell Cells Partition Content Rest Line Event Reply Change KeptPartition KeptCell KeptCells
    : Type 0}
    (m : Machine Site Cell Cells Partition Content Rest Line Event Reply Change)
    (k : Keeping Site Cell Cells Partition Content Rest Change KeptPartition KeptCell KeptCells)
    (IsSound : World Site Cells Partition Rest → Type 0)
    (IsValid : DurableOf k → Type 0) where
  -- what it owes besides where there are restarts
  pub record KeepingFacts : Type 0 where
    -- the container of kept cells answers as a function from cells to kept cells
    pub get_again : (x : KeptCells) (c : Cell)
        → m.get (k.cells_again x) c ≡ k.cell_again c (k.kept_get x c)
    pub get_kept_restrict : (test : Cell → Bool) (x : KeptCells) (c : Cell)
        → k.kept_get (k.kept_restrict test x) c
        ≡ (if test c then k.kept_get x c else k.cell_kept c m.blank)
    pub get_change : (test : Cell → Bool) (h : Change) (x : KeptCells) (c : Cell)
        → k.kept_get (k.cells_change test h x) c
        ≡ (if test c then k.cell_change c h (k.kept_get x c) else k.kept_get x c)
    -- the row changes of an event leave each other site's kept partition
    pub other_partition : (w : WorldOf m) (l : Line) (a : Occurrence Site Event) → IsSound w
        → m.main w l ≡ Some a → (s : Site) → m.same_site s a.site ≡ false → (p : KeptPartition)
        → let q = (after_sides m w l).partition a.site in
        partition_changes k s (outcome m a.site q w.cells a.event).changes p ≡ p
    -- they leave each kept cell that the event does not consult
    pub other_cell : (w : WorldOf m) (l : Line) (a : Occurrence Site Event) → IsSound w
        → m.main w l ≡ Some a
        → let q = (after_sides m w l).partition a.site in
        (c : Cell) → consulted m a.site q a.event c ≡ false → (x : KeptCell)
        → cell_changes k c (outcome m a.site q w.cells a.event).changes x ≡ x
    -- of a cell that it consults they make what is kept of the new content
    pub new_cell : (w : WorldOf m) (l : Line) (a : Occurrence Site Event) → IsSound w
        → m.main w l ≡ Some a
        → let q = (after_sides m w l).partition a.site in
        let o = outcome m a.site q w.cells a.event in
        (c : Cell) → consulted m a.site q a.event c ≡ true
        → cell_changes k c o.changes (k.cell_kept c (m.get w.cells c))
        ≡ k.cell_kept c (m.get o.cells c)
    -- row changes keep a state valid, and a restart of a valid state is sound
    pub valid : (d : DurableOf k) (cs : List Change) → IsValid d → IsValid (apply_changes k cs d)
    pub opens : (r : Rest) (d : DurableOf k) → IsValid d → IsSound (restarted k r d)
    -- of the cells that a restart opens the same is kept as before
    pub opened : (d : DurableOf k) (c : Cell) → IsValid d
        → k.cell_kept c (k.cell_again c (k.kept_get d.cells c)) ≡ k.kept_get d.cells c

  -- what it owes besides so that the durable state follows the world
  pub record DurableFacts : Type 0 where
    -- an event beside the main one leaves what is kept of the partition
    pub side_partition : (w : WorldOf m) (l : Line) (s : Site) → IsSound w
        → k.partition_kept ((after_sides m w l).partition s) ≡ k.partition_kept (w.partition s)
    -- the row changes of the main event make what is kept of the new partition
    pub new_partition : (w : WorldOf m) (l : Line) (a : Occurrence Site Event) → IsSound w
        → m.main w l ≡ Some a
        → let q = (after_sides m w l).partition a.site in
        let o = outcome m a.site q w.cells a.event in
        partition_changes k a.site o.changes (k.partition_kept q) ≡ k.partition_kept o.partition
    -- of the partitions that a restart opens the same is kept as before
    pub opened_partition : (d : DurableOf k) (s : Site) → IsValid d
        → k.partition_kept (k.partition_again s (d.partition s)) ≡ d.partition s
