-- What the example's local scripts hold, computed from the definitions: a wrong rule fails here.
use Rattle.std.proofs.Common.{◌≡◌, ℕ, true, false, List, [], ◌∷◌, Option, Some, None, refl, sym, inl}
use Rattle.std.proofs.Common.{inr, nat_eq, ◌||◌}
use Rattle.std.proofs.lemmas.Bool.{true≢false}
use Rattle.unwinding.specs.declared.example.Site.{Site}
use Rattle.unwinding.specs.declared.example.Site.TheVariants.{First, Second}
use Rattle.unwinding.specs.declared.example.Event.{Event}
use Rattle.unwinding.specs.declared.example.Event.TheVariants.{Save, Write, Read, Give, Take, Ring}
use Rattle.unwinding.specs.declared.example.Event.TheVariants.{Hear}
use Rattle.unwinding.specs.declared.example.Partition.{Partition}
use Rattle.unwinding.specs.declared.example.Reply.TheVariants.{Plain, Text}
use Rattle.unwinding.specs.Machine.{World}
use Rattle.unwinding.specs.World.{is_in, world_step, line_reply}
use Rattle.unwinding.specs.LocalEntries.{line_entries, line_touched}
use Rattle.unwinding.specs.OneSite.{own_step, own_reply}
use Rattle.unwinding.specs.Durable.{Durable, line_changes}
use Rattle.unwinding.specs.Epochs.{Epoch, Opening, acknowledged_replies, next_durable}
use Rattle.unwinding.specs.Epochs.{world_replies}
use Rattle.unwinding.specs.LocalScript.{Happens, Restarts, local_script}
use Rattle.unwinding.specs.SiteRun.{site_run}
use Rattle.unwinding.specs.Admissible.{Acts, Reopens, Stretch, interrupted_line}
use Rattle.unwinding.specs.Admissible.{IsAdmissibleStretch}
use Rattle.unwinding.specs.LeftOut.{Group, IsGroup, lines_without}
use Rattle.unwinding.specs.Example.{Cell, Shared, Drawer, Cells, Line, note, same_site, same_cell, is_own}
use Rattle.unwinding.specs.ExampleSetting.{machine, keeping}

abbrev at : Site → Event → Line
at s e = record { site = s; event = e }

abbrev empty : Opening ℕ (Durable Site ℕ (Cell → ℕ))
empty = record { rest = 0; state = record { partition = λ s. 0; cells = λ c. 0 } }

abbrev epoch : List Line → Option Line → ℕ → ℕ → Epoch Line
epoch executed interrupted acknowledged kept =
    record { executed = executed; interrupted = interrupted; acknowledged = acknowledged; kept = kept }

abbrev again : Epoch Line
again = epoch (at First Read ∷ []) None 1 0

-- The other site reads the note between: the first entry holds no cell, the second holds it, with
-- the mark that the other left. After a restart it is still held, without the mark.
abbrev shared : List (Epoch Line)
shared =
    epoch (at First (Write 1) ∷ at Second Read ∷ at First Read ∷ []) None 3 1 ∷ again ∷ []

held_at_the_second : (local_script machine keeping First empty shared).items
    ≡ Happens (record { event = Write 1; held = [] })
    ∷ Happens (record { event = Read; held = record { cell = Shared; content = note 1 true } ∷ [] })
    ∷ Restarts 3 2 1
    ∷ Happens (record { event = Read; held = record { cell = Shared; content = note 1 false } ∷ [] })
    ∷ Restarts 4 1 0 ∷ []
unfolding line_reply line_entries line_touched world_step line_changes acknowledged_replies next_durable machine keeping
held_at_the_second = refl

-- the replies that this gives
replied : site_run machine keeping First (local_script machine keeping First empty shared)
    ≡ Plain ∷ Text 1 ∷ Text 1 ∷ []
unfolding line_reply line_entries line_touched world_step line_changes acknowledged_replies next_durable machine keeping own_step own_reply
replied = refl

-- without the other site no cell is held, over a restart too
not_held : (local_script machine keeping First empty (epoch (at First (Write 1) ∷ at First Read ∷ []) None 2 1 ∷ again ∷ [])).items
    ≡ Happens (record { event = Write 1; held = [] })
    ∷ Happens (record { event = Read; held = [] })
    ∷ Restarts 2 2 1
    ∷ Happens (record { event = Read; held = [] })
    ∷ Restarts 3 1 0 ∷ []
unfolding line_reply line_entries line_touched world_step line_changes acknowledged_replies next_durable machine keeping
not_held = refl

-- an interrupted line of the other site counts, even where its change is lost
interrupted_counts : (local_script machine keeping First empty (epoch [] (Some (at Second (Write 5))) 0 0 ∷ again ∷ [])).items
    ≡ Restarts 0 0 0
    ∷ Happens (record { event = Read; held = record { cell = Shared; content = note 0 false } ∷ [] })
    ∷ Restarts 1 1 0 ∷ []
unfolding line_reply line_entries line_touched world_step line_changes acknowledged_replies next_durable machine keeping
interrupted_counts = refl

-- an interrupted line of the site is an entry, and is not replied to
interrupted_happens : (local_script machine keeping First empty (epoch [] (Some (at First (Write 5))) 0 1 ∷ again ∷ [])).items
    ≡ Happens (record { event = Write 5; held = [] })
    ∷ Restarts 0 0 1
    ∷ Happens (record { event = Read; held = [] })
    ∷ Restarts 1 1 0 ∷ []
unfolding line_reply line_entries line_touched world_step line_changes acknowledged_replies next_durable machine keeping
interrupted_happens = refl

-- a change that the restart found is there, and one that it did not find is lost
kept_change : world_replies machine keeping First 0 empty.state (epoch [] (Some (at First (Write 5))) 0 1 ∷ again ∷ [])
    ≡ Text 5 ∷ []
unfolding line_reply world_step line_changes acknowledged_replies next_durable machine keeping
kept_change = refl

lost_change : world_replies machine keeping First 0 empty.state (epoch [] (Some (at First (Write 5))) 0 0 ∷ again ∷ [])
    ≡ Text 0 ∷ []
unfolding line_reply world_step line_changes acknowledged_replies next_durable machine keeping
lost_change = refl

-- the site's own machine loses it too
lost_alone : site_run machine keeping First (local_script machine keeping First empty (epoch [] (Some (at First (Write 5))) 0 0 ∷ again ∷ []))
    ≡ Text 0 ∷ []
unfolding line_reply line_entries line_touched world_step line_changes acknowledged_replies next_durable machine keeping own_step own_reply
lost_alone = refl

-- a drawer is held where another site gives into it, and at the sweep after that
given : (local_script machine keeping Second empty (epoch (at Second Take ∷ at First (Give 4) ∷ at Second Take ∷ []) None 3 1 ∷ [])).items
    ≡ Happens (record { event = Take; held = [] })
    ∷ Happens (record { event = Take; held = record { cell = Drawer Second; content = note 4 false } ∷ [] })
    ∷ Restarts 3 2 0 ∷ []
unfolding line_reply line_entries line_touched world_step line_changes acknowledged_replies next_durable machine keeping
given = refl

gives : (local_script machine keeping First empty (epoch (at First (Give 4) ∷ []) None 1 1 ∷ [])).items
    ≡ Happens (record { event = Give 4; held = record { cell = Drawer Second; content = note 0 false } ∷ [] })
    ∷ Restarts 1 1 1 ∷ []
unfolding line_reply line_entries line_touched world_step line_changes acknowledged_replies next_durable machine keeping
gives = refl

-- an event beside the main one is an entry of its site, without a reply
heard : (local_script machine keeping Second empty (epoch (at First Ring ∷ []) None 1 0 ∷ [])).items
    ≡ Happens (record { event = Hear; held = [] }) ∷ Restarts 1 0 0 ∷ []
unfolding line_reply line_entries line_touched world_step line_changes acknowledged_replies next_durable machine keeping
heard = refl

-- the interrupted line is the first that met a device fault, unless it reopens
first_down : interrupted_line (Acts (at First Read) ∷ Acts (at Second Read) ∷ []) ≡ Some (at First Read)
first_down = refl

reopens_first : ◌≡◌ {A = Option Line} (interrupted_line (Reopens ∷ Acts (at Second Read) ∷ [])) None
reopens_first = refl

-- in batches of two, three executed lines have two acknowledged ones, and the change of a fourth
-- that was interrupted may be kept
abbrev odd : ℕ → Stretch Line
odd kept =
    record {
      epoch = epoch (at First (Write 1) ∷ at First (Write 2) ∷ at First (Write 3) ∷ []) (Some (at First (Write 4))) 2 kept;
      downs = Acts (at First (Write 4)) ∷ [];
    }

keeps_acknowledged : IsAdmissibleStretch machine keeping 2 empty (odd 2)
unfolding world_step line_changes machine keeping
keeps_acknowledged = (refl, refl, inl refl)

keeps_tried : IsAdmissibleStretch machine keeping 2 empty (odd 4)
unfolding world_step line_changes machine keeping
keeps_tried = (refl, refl, inr (refl, refl))

-- three are never kept
keeps_no_part : IsAdmissibleStretch machine keeping 2 empty (odd 3) → ⊥
unfolding world_step line_changes machine keeping
keeps_no_part a = elim a.2 [ inl e ↦ cc | inr e ↦ cc ]

-- ---- groups

-- the first site and the note
abbrev firsts : Group Site Cell
firsts = record { has_site = same_site First; has_cell = same_cell Shared }

abbrev begun : World Site Cells Partition ℕ
begun =
    record {
      partition = λ s. record { site = s; saved = 0; heard = false };
      cells = λ c. note 0 false;
      rest = 0;
    }

note_alone : (c : Cell) → (is_in same_cell c (Shared ∷ []) || false) ≡ true → same_cell Shared c ≡ true
note_alone Shared is = refl
note_alone (Drawer s) is = cc

-- they are a group where the other site saves a text
stand_apart : IsGroup machine firsts begun (at First (Write 1) ∷ at Second (Save 2) ∷ at First Read ∷ [])
unfolding world_step machine
stand_apart = (note_alone, ((λ c is. cc), (note_alone, tt)))

-- not where it reads the note
other_reads : IsGroup machine firsts begun (at First (Write 1) ∷ at Second Read ∷ []) → ⊥
unfolding world_step machine
other_reads group = true≢false (group.1.0 Shared refl)

-- nor where the first site gives into the other's drawer
first_gives : IsGroup machine firsts begun (at First (Give 1) ∷ []) → ⊥
unfolding machine
first_gives group = true≢false (sym (group.0 (Drawer Second) refl))

-- nor where the first site takes from its own drawer
first_takes : IsGroup machine firsts begun (at First Take ∷ []) → ⊥
unfolding machine
first_takes group = true≢false (sym (group.0 (Drawer First) refl))

-- the first site and its drawer are a group where it takes, and so does the other site
drawer_alone : (s : Site) (c : Cell) → (false || is_own s c) ≡ true → same_cell (Drawer First) c ≡ same_site First s
drawer_alone s Shared is = cc
drawer_alone First (Drawer t) is = is
drawer_alone Second (Drawer First) is = cc
drawer_alone Second (Drawer Second) is = refl

takers : IsGroup machine (record { has_site = same_site First; has_cell = same_cell (Drawer First) }) begun (at First Take ∷ at Second Take ∷ [])
unfolding world_step machine
takers = (drawer_alone First, (drawer_alone Second, tt))

-- the test of a line sees the world that the line comes upon
left_later : lines_without machine (λ w l. nat_eq w.rest 1) begun (at First Read ∷ at Second Read ∷ at Second Take ∷ [])
    ≡ at First Read ∷ at Second Take ∷ []
unfolding world_step machine
left_later = refl
