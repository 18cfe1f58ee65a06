-- An example that shows that the facts can be met: two sites, a note that both share, and a drawer
-- of each site, which is its own cell.
-- A site can save a text, write or read the note, give a text into the other site's drawer, take
-- what is in its own, and ring, which the other site hears. No line has the event `Hear`.
-- Source: none.
use Rattle.std.specs.Prelude.{ℕ, Bool, true, false, ◌&&◌, List, [], ◌∷◌, Option, Some}
use Rattle.std.specs.Prelude.{None}
use Rattle.std.specs.Prelude.{nat_eq, if◌then◌else◌}
use Rattle.unwinding.specs.declared.example.Site.{Site}
use Rattle.unwinding.specs.declared.example.Site.TheVariants.{First, Second}
use Rattle.unwinding.specs.declared.example.Partition.{Partition}
use Rattle.unwinding.specs.declared.example.Note.{Note}
use Rattle.unwinding.specs.declared.example.Event.{Event}
use Rattle.unwinding.specs.declared.example.Event.TheVariants.{Save, Write, Read, Give, Take, Ring}
use Rattle.unwinding.specs.declared.example.Event.TheVariants.{Hear}
use Rattle.unwinding.specs.declared.example.Reply.{Reply}
use Rattle.unwinding.specs.declared.example.Reply.TheVariants.{Plain, Text}
use Rattle.unwinding.specs.Machine.{Outcome, Occurrence}

-- the note, or a site's drawer
pub data Cell : Type 0 where
  Shared : Cell
  Drawer : (site : Site) → Cell

-- what each cell holds
abbrev pub Cells : Type 0
Cells = Cell → Note

-- a line: an event at a site
pub record Line : Type 0 where
  pub site : Site
  pub event : Event

-- a row change: a site's saved text, or a cell's text
pub data Change : Type 0 where
  Saved : (site : Site) (text : ℕ) → Change
  Noted : (cell : Cell) (text : ℕ) → Change

-- equality of sites
abbrev pub same_site : Site → Site → Bool
same_site First First = true
same_site First Second = false
same_site Second First = false
same_site Second Second = true

-- equality of cells
abbrev pub same_cell : Cell → Cell → Bool
same_cell Shared Shared = true
same_cell Shared (Drawer t) = false
same_cell (Drawer s) Shared = false
same_cell (Drawer s) (Drawer t) = same_site s t

-- equality of marks
abbrev pub same_bool : Bool → Bool → Bool
same_bool true b = b
same_bool false true = false
same_bool false false = true

-- equality of contents, in the mark of reading too
abbrev pub same_note : Note → Note → Bool
same_note a b = nat_eq a.text b.text && same_bool a.read b.read

-- the other site
abbrev pub other : Site → Site
other First = Second
other Second = First

-- the note is home to both sites, and a drawer to its site alone
abbrev pub is_home : Site → Cell → Bool
is_home s Shared = true
is_home s (Drawer t) = same_site s t

-- only a drawer is a site's own
abbrev pub is_own : Site → Cell → Bool
is_own s Shared = false
is_own s (Drawer t) = same_site s t

-- a content
abbrev pub note : ℕ → Bool → Note
note text read = record { text = text; read = read }

-- all cells hold the same
abbrev pub one_cell : Note → Cells
one_cell n c = n

-- the cells that an event names: the note, or the other site's drawer
abbrev pub names_of : Partition → Event → List Cell
names_of p (Save v) = []
names_of p (Write v) = Shared ∷ []
names_of p Read = Shared ∷ []
names_of p (Give v) = Drawer (other p.site) ∷ []
names_of p Take = []
names_of p Ring = []
names_of p Hear = []

-- taking consults the own drawer
abbrev pub sweeps_of : Event → Bool
sweeps_of (Save v) = false
sweeps_of (Write v) = false
sweeps_of Read = false
sweeps_of (Give v) = false
sweeps_of Take = true
sweeps_of Ring = false
sweeps_of Hear = false

-- an event that gets a plain reply
abbrev pub plain : Partition → Cells → List Change → Outcome Cells Partition Reply Change
plain p cells changes =
    record { partition = p; cells = cells; reply = Some Plain; changes = changes }

-- what an event gives
abbrev pub step_of : Partition → Cells → Event → Outcome Cells Partition Reply Change
step_of p cells (Save v) =
    plain (record { site = p.site; saved = v; heard = p.heard }) cells (Saved p.site v ∷ [])
step_of p cells (Write v) = plain p (one_cell (note v false)) (Noted Shared v ∷ [])
step_of p cells Read =
    record {
      partition = p;
      cells = λ c. note (cells c).text true;
      reply = Some (Text (cells Shared).text);
      changes = [];
    }
step_of p cells (Give v) =
    plain p (one_cell (note v false)) (Noted (Drawer (other p.site)) v ∷ [])
step_of p cells Take =
    record {
      partition = p;
      cells = cells;
      reply = Some (Text (cells (Drawer p.site)).text);
      changes = [];
    }
step_of p cells Ring = plain p cells []
step_of p cells Hear =
    record {
      partition = record { site = p.site; saved = p.saved; heard = true };
      cells = cells;
      reply = None;
      changes = [];
    }

-- the other site hears a ring
abbrev pub heard_of : Site → Site → Event → Option Event
heard_of at s (Save v) = None
heard_of at s (Write v) = None
heard_of at s Read = None
heard_of at s (Give v) = None
heard_of at s Take = None
heard_of at s Ring = if same_site s at then None else Some Hear
heard_of at s Hear = None

-- a line that would be heard is refused
abbrev pub main_of : Site → Event → Option (Occurrence Site Event)
main_of s (Save v) = Some (record { site = s; event = Save v })
main_of s (Write v) = Some (record { site = s; event = Write v })
main_of s Read = Some (record { site = s; event = Read })
main_of s (Give v) = Some (record { site = s; event = Give v })
main_of s Take = Some (record { site = s; event = Take })
main_of s Ring = Some (record { site = s; event = Ring })
main_of s Hear = None
