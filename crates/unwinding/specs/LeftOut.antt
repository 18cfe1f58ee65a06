-- Which lines of a run one site can do without, and what a machine owes for it.
-- Source: none; these are the words of the law.
-- Our own choice: sites and cells make a group, where in a run the events at its sites consult its
-- cells alone, and all other events consult none of these. The lines of its sites stay, and all
-- others' can go.
use Rattle.std.specs.Prelude.{◌≡◌, Bool, true, false, List, [], ◌∷◌, Option, Some, None}
use Rattle.std.specs.Prelude.{if◌then◌else◌}
use Rattle.unwinding.specs.Machine.{Occurrence, Machine, WorldOf}
use Rattle.unwinding.specs.World.{is_in, consulted, after_sides, world_step}

-- some sites and some cells, each by a test
pub record Group (Site Cell : Type 0) : Type 0 where
  pub has_site : Site → Bool
  pub has_cell : Cell → Bool

module _ {Site Cell Cells Partition Content Rest Line Event Reply Change : Type 0}
    (m : Machine Site Cell Cells Partition Content Rest Line Event Reply Change) where
  -- the lines of a run, but for those that a test finds in the worlds that they come upon
  abbrev pub lines_without : (WorldOf m → Line → Bool) → WorldOf m → List Line → List Line
  lines_without is_apart w [] = []
  lines_without is_apart w (l ∷ ls) =
      let later = lines_without is_apart (world_step m w l) ls in
      if is_apart w l then later else l ∷ later

  -- a main event consults, by the names that it gives or as it sweeps, cells of the group where its
  -- site is of the group, and no cell of it where its site is not
  abbrev pub ConsultsWithin : Group Site Cell → WorldOf m → Line → Option (Occurrence Site Event)
      → Type 0
  ConsultsWithin g w l None = Unit {0}
  ConsultsWithin g w l (Some a) =
      (c : Cell)
      → consulted m a.site ((after_sides m w l).partition a.site) a.event c ≡ true
      → g.has_cell c ≡ g.has_site a.site

  -- the sites and cells are a group in a run of these lines
  abbrev pub IsGroup : Group Site Cell → WorldOf m → List Line → Type 0
  IsGroup g w [] = Unit {0}
  IsGroup g w (l ∷ ls) = ConsultsWithin g w l (m.main w l) × IsGroup g (world_step m w l) ls

  module _ (g : Group Site Cell) where
    -- two worlds that the sites of a group cannot tell apart: the partitions of these sites are the
    -- same in both, and so are the contents of the group's cells, and the rest
    pub record IsAlike (v w : WorldOf m) : Type 0 where
      pub partition : (t : Site) → g.has_site t ≡ true → v.partition t ≡ w.partition t
      pub cell : (c : Cell) → g.has_cell c ≡ true → m.get v.cells c ≡ m.get w.cells c
      pub rest : v.rest ≡ w.rest

    -- a main event is of a site outside of the group, where there is one
    abbrev pub IsOutside : Option (Occurrence Site Event) → Type 0
    IsOutside None = Unit {0}
    IsOutside (Some a) = g.has_site a.site ≡ false

    -- What a test finds has no event at a site of the group, and leaves the rest. The test goes by
    -- what the group can tell. What it passes over and is of a site outside consults none of the
    -- group's cells, in whatever sound world it comes upon.
    pub record ApartFacts (IsSound : WorldOf m → Type 0) (is_apart : WorldOf m → Line → Bool)
        : Type 0 where
      pub no_side : (w : WorldOf m) (l : Line) → is_apart w l ≡ true → (t : Site)
          → g.has_site t ≡ true → m.side w l t ≡ None
      pub no_main : (w : WorldOf m) (l : Line) → is_apart w l ≡ true → IsOutside (m.main w l)
      pub no_later : (w : WorldOf m) (l : Line) → is_apart w l ≡ true → m.later w l ≡ w.rest
      pub same_test : (v w : WorldOf m) (l : Line) → IsAlike v w → is_apart v l ≡ is_apart w l
      pub stays_out : (w : WorldOf m) (l : Line) (a : Occurrence Site Event) → IsSound w
          → is_apart w l ≡ false → m.main w l ≡ Some a → g.has_site a.site ≡ false
          → ConsultsWithin g w l (Some a)

    -- Lines go by the partitions of the group's sites and the rest. Where some event sweeps, the
    -- normal form of a list of cells goes by which cells the list has.
    pub record OwnFacts : Type 0 where
      pub cell_itself : (c : Cell) → m.same_cell c c ≡ true
      pub listed_same : (p : Partition) (e : Event) → m.sweeps p e ≡ true → (xs ys : List Cell)
          → ((c : Cell) → is_in m.same_cell c xs ≡ is_in m.same_cell c ys)
          → m.listed xs ≡ m.listed ys
      pub own_side : (v w : WorldOf m) (l : Line) → IsAlike v w → (t : Site)
          → g.has_site t ≡ true → m.side v l t ≡ m.side w l t
      pub own_main : (v w : WorldOf m) (l : Line) → IsAlike v w → m.main v l ≡ m.main w l
      pub own_later : (v w : WorldOf m) (l : Line) → IsAlike v w → m.later v l ≡ m.later w l
