-- What a line does to the world of all sites, and the reply that it gets.
-- Source: none.
-- Our own choice: the events of a line are read off the world before it. All events beside the
-- main one happen first, at every site at once; the main one acts on what they left.
use Rattle.std.specs.Prelude.{Bool, true, false, ◌&&◌, ◌||◌, List, [], ◌∷◌, ◌++◌, Option, Some}
use Rattle.std.specs.Prelude.{None, if◌then◌else◌}
use Rattle.unwinding.specs.Machine.{Occurrence, Machine, WorldOf, OutcomeOf}

-- a reply, with the site that it belongs to, if it belongs to one
pub record SiteReply (Site Reply : Type 0) : Type 0 where
  pub site : Option Site
  pub reply : Reply

-- whether a list has an item, by an equality test
abbrev pub is_in : {A : Type 0} → (A → A → Bool) → A → List A → Bool
is_in same x [] = false
is_in same x (y ∷ ys) = if same x y then true else is_in same x ys

module _ {Site Cell Cells Partition Content Rest Line Event Reply Change : Type 0}
    (m : Machine Site Cell Cells Partition Content Rest Line Event Reply Change) where
  -- whether the event consults the cell
  abbrev pub consulted : Site → Partition → Event → Cell → Bool
  consulted s p e c = is_in m.same_cell c (m.names p e) || (m.sweeps p e && m.is_own s c)

  -- what an event gives at a site: it sees the cells that it consults, and no other
  abbrev pub outcome : Site → Partition → Cells → Event → OutcomeOf m
  outcome s p cells e = m.step p (m.restrict (consulted s p e) cells) e

  -- the partitions with one replaced
  abbrev pub with_partition : Site → Partition → (Site → Partition) → Site → Partition
  with_partition s p partitions t = if m.same_site t s then p else partitions t

  -- cells that are all blank
  abbrev pub no_cells : Cells → Cells
  no_cells cells = m.restrict (λ c. false) cells

  -- a partition after an event beside the main one, which sees no cell
  abbrev pub after_side : Cells → Option Event → Partition → Partition
  after_side cells None p = p
  after_side cells (Some e) p = (m.step p (no_cells cells) e).partition

  -- the world after all events beside the main one
  abbrev pub after_sides : WorldOf m → Line → WorldOf m
  after_sides w l =
      record {
        partition = λ s. after_side w.cells (m.side w l s) (w.partition s);
        cells = w.cells;
        rest = w.rest;
      }

  -- the world after the main event, which changes its site's partition and the consulted cells
  abbrev pub after_main : WorldOf m → Option (Occurrence Site Event) → WorldOf m
  after_main w None = w
  after_main w (Some a) =
      let p = w.partition a.site in
      let o = outcome a.site p w.cells a.event in
      record {
        partition = with_partition a.site o.partition w.partition;
        cells = m.merge (consulted a.site p a.event) o.cells w.cells;
        rest = w.rest;
      }

  -- the world after a line
  unfoldable pub world_step : WorldOf m → Line → WorldOf m
  world_step w l =
      let v = after_main (after_sides w l) (m.main w l) in
      record { partition = v.partition; cells = v.cells; rest = m.later w l }

  -- the reply of a site where its event has one, else the refusal, which is of no site
  abbrev pub reply_at : Site → Reply → Option Reply → SiteReply Site Reply
  reply_at s refusal None = record { site = None; reply = refusal }
  reply_at s refusal (Some r) = record { site = Some s; reply = r }

  -- the reply to the main event
  abbrev pub main_reply : WorldOf m → Reply → Option (Occurrence Site Event)
      → SiteReply Site Reply
  main_reply w refusal None = record { site = None; reply = refusal }
  main_reply w refusal (Some a) =
      reply_at a.site refusal (outcome a.site (w.partition a.site) w.cells a.event).reply

  -- the reply to a line
  unfoldable pub line_reply : WorldOf m → Line → SiteReply Site Reply
  line_reply w l = main_reply (after_sides w l) (m.refusal w l) (m.main w l)

  -- the replies to the lines, in order
  abbrev pub replies : WorldOf m → List Line → List (SiteReply Site Reply)
  replies w [] = []
  replies w (l ∷ ls) = line_reply w l ∷ replies (world_step w l) ls

  -- the world after the lines
  abbrev pub world_after : WorldOf m → List Line → WorldOf m
  world_after w [] = w
  world_after w (l ∷ ls) = world_after (world_step w l) ls

  -- a reply, where it belongs to the site
  abbrev pub reply_of_site : Site → Option Site → Reply → List Reply
  reply_of_site s None r = []
  reply_of_site s (Some t) r = if m.same_site s t then r ∷ [] else []

  -- the replies that belong to one site
  abbrev pub of_site : Site → List (SiteReply Site Reply) → List Reply
  of_site s [] = []
  of_site s (t ∷ ts) = reply_of_site s t.site t.reply ++ of_site s ts
