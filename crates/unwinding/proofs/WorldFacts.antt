-- What a line makes of the example's world, and of worlds of machines that differ from the example's
-- in one function, worked out by hand from the words of `World` and `Durable`.
use Rattle.std.proofs.Common.{◌≡◌, ℕ, Bool, true, false, List, [], ◌∷◌, Option, Some, None, refl}
use Rattle.std.proofs.Common.{if◌then◌else◌}
use Rattle.std.proofs.lemmas.Bool.{true≢false}
use Rattle.unwinding.specs.declared.example.Site.{Site}
use Rattle.unwinding.specs.declared.example.Site.TheVariants.{First, Second}
use Rattle.unwinding.specs.declared.example.Event.{Event}
use Rattle.unwinding.specs.declared.example.Event.TheVariants.{Save, Write, Read, Give, Take, Ring, Hear}
use Rattle.unwinding.specs.declared.example.Note.{Note}
use Rattle.unwinding.specs.declared.example.Partition.{Partition}
use Rattle.unwinding.specs.declared.example.Reply.{Reply}
use Rattle.unwinding.specs.declared.example.Reply.TheVariants.{Plain, Text}
use Rattle.unwinding.specs.Machine.{Machine, World}
use Rattle.unwinding.specs.World.{SiteReply, is_in, outcome, after_side, world_step, reply_at, line_reply}
use Rattle.unwinding.specs.World.{replies, of_site}
use Rattle.unwinding.specs.Durable.{Durable, DurableChange, apply_changes, apply_all, restarted}
use Rattle.unwinding.specs.Durable.{durable_change, line_changes}
use Rattle.unwinding.specs.Example.{Cell, Shared, Drawer, Cells, Line, Change, Saved, Noted, note, one_cell}
use Rattle.unwinding.specs.Example.{same_cell}
use Rattle.unwinding.specs.Epochs.{Epoch, Opening, acknowledged_replies}
use Rattle.unwinding.specs.Admissible.{Step, Acts, Stretch, EndsAcknowledged, IsAdmissibleEnd}
use Rattle.unwinding.specs.Transcript.{stretch_transcript}
use Rattle.unwinding.specs.Course.{Course, stretch_of}
use Rattle.unwinding.specs.LocalEntries.{Entry, line_entries}
use Rattle.unwinding.specs.OneSite.{OwnState, cells_used, own_step}
use Rattle.unwinding.specs.SiteRun.{own_cells_changes}
use Rattle.unwinding.specs.LeftOut.{Group, IsGroup}
use Rattle.unwinding.specs.ExampleSetting.{machine, keeping}

abbrev at : Site → Event → Line
at s e = record { site = s; event = e }

-- a world in which each cell holds 7, which was read
abbrev full : World Site Cells Partition ℕ
full =
    record {
      partition = λ s. record { site = s; saved = 0; heard = false };
      cells = one_cell (note 7 true);
      rest = 0;
    }

in_a_list : is_in same_cell Shared (Drawer First ∷ Shared ∷ []) ≡ true
in_a_list = refl

-- an event sees the cells that it consults, and all others blank
sees_no_cell : (outcome machine First (full.partition First) full.cells (Save 1)).cells Shared ≡ note 0 false
unfolding machine
sees_no_cell = refl

sees_its_own : (outcome machine First (full.partition First) full.cells Take).reply ≡ Some (Text 7)
unfolding machine
sees_its_own = refl

-- the consulted cells are changed, and no others
note_is_written : (world_step machine full (at First (Write 1))).cells Shared ≡ note 1 false
unfolding machine world_step
note_is_written = refl

drawer_stays : (world_step machine full (at First (Write 1))).cells (Drawer First) ≡ note 7 true
unfolding machine world_step
drawer_stays = refl

-- a ring is heard beside the main event
other_hears : ((world_step machine full (at First Ring)).partition Second).heard ≡ true
unfolding machine world_step
other_hears = refl

ringer_does_not : ((world_step machine full (at First Ring)).partition First).heard ≡ false
unfolding machine world_step
ringer_does_not = refl

-- a reply that the site does not give is of no site
of_no_site : reply_at machine First Plain None ≡ record { site = None; reply = Plain }
of_no_site = refl

refused_line : line_reply machine full (at First Hear) ≡ record { site = None; reply = Plain }
unfolding machine line_reply
refused_line = refl

-- a line comes upon the world that the line before it left
in_turn : replies machine full (at First (Write 5) ∷ at Second Read ∷ [])
    ≡ record { site = Some First; reply = Plain } ∷ record { site = Some Second; reply = Text 5 } ∷ []
unfolding machine world_step line_reply
in_turn = refl

abbrev three : List (SiteReply Site Reply)
three =
    record { site = None; reply = Plain } ∷ record { site = Some Second; reply = Text 2 }
    ∷ record { site = Some First; reply = Text 1 } ∷ []

only_its_own : of_site machine First three ≡ Text 1 ∷ []
unfolding machine
only_its_own = refl

-- ---- a machine whose sites hear each line

-- each event saves what the site sees of the note; the reply, the changes and whether there is a
-- main event go by whether the site has heard
abbrev eager : Machine Site Cell Cells Partition Note ℕ Line Event Reply Change
eager =
    record machine {
      side = λ w l s. Some Hear;
      main = λ w l. if (w.partition l.site).heard then None else Some (record { site = l.site; event = l.event });
      later = λ w l. if (w.partition l.site).heard then 1 else 5;
      step = λ p cells e. record {
        partition = record { site = p.site; saved = (cells Shared).text; heard = true };
        cells = cells;
        reply = Some (if p.heard then Text 1 else Text 0);
        changes = if p.heard then Saved p.site 1 ∷ [] else [];
      };
    }

-- an event beside the main one sees no cell
sees_nothing : (after_side eager full.cells (Some Hear) (full.partition First)).saved ≡ 0
unfolding machine
sees_nothing = refl

-- the main event is read off the world before the line, and acts on what the others left
has_heard_before : line_reply eager full (at First Read) ≡ record { site = Some First; reply = Text 1 }
unfolding machine line_reply
has_heard_before = refl

changes_behind_the_others :
    line_changes eager full (at First Read) ≡ record { site = First; changes = Saved First 1 ∷ [] } ∷ []
unfolding machine line_changes
changes_behind_the_others = refl

-- what becomes of the rest is read off the world before the line too
rest_by_the_world_before : (world_step eager full (at First Read)).rest ≡ 5
unfolding machine world_step
rest_by_the_world_before = refl

-- the site is given the event beside the main one first
beside_goes_first : line_entries eager First [] full (at First Read)
    ≡ record { event = Hear; held = [] } ∷ record { event = Read; held = [] } ∷ []
unfolding machine line_entries
beside_goes_first = refl

-- ---- durable changes

abbrev nothing : Durable Site ℕ (Cell → ℕ)
nothing = record { partition = λ s. 0; cells = λ c. 0 }

abbrev saves : Site → ℕ → DurableChange Site Change
saves s n = record { site = s; changes = Saved s n ∷ [] }

-- the last change counts
last_row_counts : (apply_changes keeping (Saved First 1 ∷ Saved First 2 ∷ []) nothing).partition First ≡ 2
unfolding keeping
last_row_counts = refl

last_note_counts : (apply_changes keeping (Noted Shared 1 ∷ Noted Shared 2 ∷ []) nothing).cells Shared ≡ 2
unfolding keeping
last_note_counts = refl

last_change_counts : (apply_all keeping (saves First 1 ∷ saves First 2 ∷ []) nothing).partition First ≡ 2
unfolding keeping
last_change_counts = refl

-- a line without row changes has no durable change
no_row_change : durable_change machine First [] ≡ []
no_row_change = refl

-- a restart makes the rest anew
rest_anew : (restarted (record keeping { rest_again = λ r. 9 }) 3 nothing).rest ≡ 9
unfolding keeping
rest_anew = refl

-- ---- epochs, and what is printed

abbrev two : Epoch Line
two = record { executed = at First (Write 5) ∷ at Second Read ∷ []; interrupted = None; acknowledged = 1; kept = 3 }

-- the replies that were acknowledged are given out, and no others
one_is_given_out : acknowledged_replies machine full two ≡ record { site = Some First; reply = Plain } ∷ []
unfolding machine world_step line_reply acknowledged_replies
one_is_given_out = refl

abbrev opening : Opening ℕ (Durable Site ℕ (Cell → ℕ))
opening = record { rest = 0; state = nothing }

abbrev stretch : Stretch Line
stretch = record { epoch = two; downs = Acts (at Second Read) ∷ [] }

-- a device fault is told behind the replies, and a restart tells the kept changes last
in_order : stretch_transcript machine keeping (λ n. record { site = None; reply = Text n })
    (λ l. record { site = None; reply = Plain }) opening stretch
    ≡ record { site = Some First; reply = Plain } ∷ record { site = None; reply = Plain }
    ∷ record { site = None; reply = Text 3 } ∷ []
unfolding machine keeping world_step line_reply acknowledged_replies
in_order = refl

-- where the commit at the end succeeded, no line met a fault, and all are acknowledged
no_line_is_left : ◌≡◌ {A = List (Step Line)} (Acts (at Second Read) ∷ []) [] → ⊥
no_line_is_left is = cc

end_without_a_fault : IsAdmissibleEnd machine keeping 2 opening true stretch → ⊥
end_without_a_fault a = no_line_is_left (a.1 refl)

abbrev odd : Epoch Line
odd =
    record {
      executed = at First (Write 5) ∷ at Second Read ∷ at First Read ∷ [];
      interrupted = None;
      acknowledged = 2;
      kept = 0;
    }

all_at_the_end : EndsAcknowledged 2 true odd → ⊥
all_at_the_end is = cc

abbrev course : Course Line
course = record { closed = []; answered = at First Read ∷ []; waiting = at Second Read ∷ []; downs = [] }

-- the lines that wait are executed, and not acknowledged
waiting_is_executed : (stretch_of course 0).epoch.executed ≡ at First Read ∷ at Second Read ∷ []
waiting_is_executed = refl

waiting_is_not_acknowledged : (stretch_of course 0).epoch.acknowledged ≡ 1
waiting_is_not_acknowledged = refl

-- ---- the machine of one site

abbrev own : OwnState Cells Partition
own = record { partition = full.partition First; cells = full.cells }

abbrev gives_seven : Entry Cell Note Event
gives_seven = record { event = Give 4; held = record { cell = Drawer Second; content = note 1 false } ∷ [] }

-- it goes by the held cell
by_the_held : (cells_used machine gives_seven.held full.cells) (Drawer Second) ≡ note 1 false
unfolding machine
by_the_held = refl

-- it keeps no cell that is another site's home
not_at_home : (own_step machine First own gives_seven).cells (Drawer Second) ≡ note 7 true
unfolding machine own_step
not_at_home = refl

at_home : (own_step machine First own (record { event = Write 4; held = [] })).cells Shared ≡ note 4 false
unfolding machine own_step
at_home = refl

-- row changes of its home cells are made to them, and others are passed over
abbrev rows : List (List Change)
rows = (Noted Shared 3 ∷ Noted (Drawer Second) 4 ∷ []) ∷ []

home_is_changed : own_cells_changes machine keeping First rows (λ c. 0) Shared ≡ 3
unfolding machine keeping
home_is_changed = refl

other_home_is_not : own_cells_changes machine keeping First rows (λ c. 0) (Drawer Second) ≡ 0
unfolding machine keeping
other_home_is_not = refl

-- ---- groups in the world that each line comes upon

-- whoever has heard consults the note
abbrev listening : Machine Site Cell Cells Partition Note ℕ Line Event Reply Change
listening = record machine { names = λ p e. if p.heard then Shared ∷ [] else [] }

abbrev the_note : Group Site Cell
the_note = record { has_site = λ s. false; has_cell = same_cell Shared }

-- the second line consults the note, since the first was heard
hears_and_reads : IsGroup listening the_note full (at First Ring ∷ at Second Read ∷ []) → ⊥
unfolding machine world_step
hears_and_reads group = true≢false (group.1.0 Shared refl)
