-- The machine of one site and the world of all sites, whatever sites, cells and events are.
-- A machine is a record of functions over type parameters, and a concrete one fills them in.
-- Source: none.
-- Our own choice: a site has a partition for itself, and shares cells with others. An event says
-- which cells it consults: those it names and, where it sweeps, each cell that is its site's own.
-- Our own choice: an event carries its moment, so that no site learns of the clock otherwise.
use Rattle.std.specs.Prelude.{ℕ, Bool, List, Option}

-- what one event gives
pub record Outcome (Cells Partition Reply Change : Type 0) : Type 0 where
  pub partition : Partition
  pub cells : Cells
  pub reply : Option Reply
  pub changes : List Change

-- a partition for each site, the shared cells, and the rest: the clock, and where each tab is
pub record World (Site Cells Partition Rest : Type 0) : Type 0 where
  pub partition : Site → Partition
  pub cells : Cells
  pub rest : Rest

-- an event, and the site at which it occurs
pub record Occurrence (Site Event : Type 0) : Type 0 where
  pub site : Site
  pub event : Event

-- the machine of one site, and how a line of a script becomes events of sites
pub record Machine
    (Site Cell Cells Partition Content Rest Line Event Reply Change : Type 0) : Type 0 where
  -- equality tests
  pub same_site : Site → Site → Bool
  pub same_cell : Cell → Cell → Bool
  pub same_content : Content → Content → Bool
  -- whether the cell is home to the site, and whether it is home to this site alone
  pub is_home : Site → Cell → Bool
  pub is_own : Site → Cell → Bool
  -- the container of shared cells: an empty cell, a cell's content, a cell replaced
  pub blank : Content
  pub get : Cells → Cell → Content
  pub set : Cell → Content → Cells → Cells
  -- the cells that pass a test, all others blank
  pub restrict : (Cell → Bool) → Cells → Cells
  -- the first cells where they pass a test, the second ones where they do not
  pub merge : (Cell → Bool) → Cells → Cells → Cells
  -- the same cells in a normal form: each once, in one order
  pub listed : List Cell → List Cell
  -- the cells that an event consults one by one, and whether it consults each own cell besides
  pub names : Partition → Event → List Cell
  pub sweeps : Partition → Event → Bool
  -- what an event gives
  pub step : Partition → Cells → Event → Outcome Cells Partition Reply Change
  -- the event that a line has at a site beside the main one, which gets no reply
  pub side : World Site Cells Partition Rest → Line → Site → Option Event
  -- the event of a line that is replied to; none where the line is refused or is of no site
  pub main : World Site Cells Partition Rest → Line → Option (Occurrence Site Event)
  -- the reply to a line that gets none from a site
  pub refusal : World Site Cells Partition Rest → Line → Reply
  -- what a line makes of the rest
  pub later : World Site Cells Partition Rest → Line → Rest
  -- the clock
  pub moment : Rest → ℕ

module _ {Site Cell Cells Partition Content Rest Line Event Reply Change : Type 0}
    (m : Machine Site Cell Cells Partition Content Rest Line Event Reply Change) where
  -- the machine's worlds
  abbrev pub WorldOf : Type 0
  WorldOf = World Site Cells Partition Rest

  -- what its events give
  abbrev pub OutcomeOf : Type 0
  OutcomeOf = Outcome Cells Partition Reply Change
