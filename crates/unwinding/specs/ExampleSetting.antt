-- The example as a machine, what is kept of it, and its setting.
-- Source: none.
use Rattle.std.specs.Prelude.{◌≡◌, ℕ, ◌+◌, false, []}
use Rattle.std.specs.Prelude.{None}
use Rattle.std.specs.Prelude.{if◌then◌else◌}
use Rattle.unwinding.specs.declared.example.Site.{Site}
use Rattle.unwinding.specs.declared.example.Partition.{Partition}
use Rattle.unwinding.specs.declared.example.Note.{Note}
use Rattle.unwinding.specs.declared.example.Event.{Event}
use Rattle.unwinding.specs.declared.example.Reply.{Reply}
use Rattle.unwinding.specs.declared.example.Reply.TheVariants.{Plain}
use Rattle.unwinding.specs.Machine.{World, Machine}
use Rattle.unwinding.specs.Durable.{Keeping, Durable}
use Rattle.unwinding.specs.FunctionCells.{set_function, restrict_function, merge_function}
use Rattle.unwinding.specs.Setting.{Setting}
use Rattle.unwinding.specs.Example.{Cell, Cells, Line, Change, Saved, Noted, same_site, same_cell}
use Rattle.unwinding.specs.Example.{same_note, is_home, is_own, note, names_of, sweeps_of, step_of}
use Rattle.unwinding.specs.Example.{heard_of, main_of}

-- the machine; its rest is a clock
unfoldable pub machine : Machine Site Cell Cells Partition Note ℕ Line Event Reply Change
machine =
    record {
      same_site = same_site;
      same_cell = same_cell;
      same_content = same_note;
      is_home = is_home;
      is_own = is_own;
      blank = note 0 false;
      get = λ cells c. cells c;
      set = set_function same_cell;
      restrict = restrict_function (note 0 false);
      merge = merge_function;
      listed = λ cs. cs;
      names = names_of;
      sweeps = λ p e. sweeps_of e;
      step = step_of;
      side = λ w l s. heard_of l.site s l.event;
      main = λ w l. main_of l.site l.event;
      refusal = λ w l. Plain;
      later = λ w l. w.rest + 1;
      moment = λ r. r;
    }

-- the same machine where each site keeps to itself: no cell is consulted, and no ring is heard
unfoldable pub unshared_machine : Machine Site Cell Cells Partition Note ℕ Line Event Reply Change
unshared_machine =
    record machine { names = λ p e. []; sweeps = λ p e. false; side = λ w l s. None }

-- a row change of what is kept of a site
abbrev pub partition_change : Site → Change → ℕ → ℕ
partition_change s (Saved t v) x = if same_site s t then v else x
partition_change s (Noted d v) x = x

-- a row change of what is kept of a cell
abbrev pub cell_change : Cell → Change → ℕ → ℕ
cell_change c (Saved t v) x = x
cell_change c (Noted d v) x = if same_cell c d then v else x

-- texts are kept; what was heard and read is not
unfoldable pub keeping : Keeping Site Cell Cells Partition Note ℕ Change ℕ ℕ (Cell → ℕ)
keeping =
    record {
      partition_kept = λ p. p.saved;
      cell_kept = λ c n. n.text;
      partition_again = λ s v. record { site = s; saved = v; heard = false };
      cell_again = λ c v. note v false;
      rest_again = λ r. r;
      kept_get = λ x c. x c;
      cells_again = λ x c. note (x c) false;
      kept_restrict = restrict_function 0;
      partition_change = partition_change;
      cell_change = cell_change;
      cells_change = λ test h x c. if test c then cell_change c h (x c) else x c;
    }

-- each partition is of its site
abbrev pub IsSound : World Site Cells Partition ℕ → Type 0
IsSound w = (s : Site) → (w.partition s).site ≡ s

-- each durable state is valid
abbrev pub IsValid : Durable Site ℕ (Cell → ℕ) → Type 0
IsValid d = Unit {0}

-- the example as a whole
unfoldable pub example : Setting
example =
    record {
      Site = Site;
      Cell = Cell;
      Cells = Cells;
      Partition = Partition;
      Content = Note;
      Rest = ℕ;
      Line = Line;
      Event = Event;
      Reply = Reply;
      Change = Change;
      KeptPartition = ℕ;
      KeptCell = ℕ;
      KeptCells = Cell → ℕ;
      machine = machine;
      keeping = keeping;
      IsSound = IsSound;
      IsValid = IsValid;
    }
