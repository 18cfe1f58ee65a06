-- The laws of isolation. Each is carried by a function without a body, for every setting.
-- Where a law names facts, it says nothing of a machine that does not have them.
-- Source: none.
use Rattle.std.specs.Prelude.{◌≡◌, ℕ, true, false, List, [], None}
use Rattle.unwinding.specs.Machine.{WorldOf}
use Rattle.unwinding.specs.World.{SiteReply, is_in, world_step, world_after, replies, of_site}
use Rattle.unwinding.specs.LocalEntries.{touched_after}
use Rattle.unwinding.specs.OneSite.{OwnOf, epoch_script, epoch_run}
use Rattle.unwinding.specs.Durable.{DurableOf, IsKeptOf, apply_all, restarted, line_changes}
use Rattle.unwinding.specs.Durable.{changes_of_site}
use Rattle.unwinding.specs.Epochs.{Epoch, all_changes, kept_changes, tried, next_durable}
use Rattle.unwinding.specs.Epochs.{world_replies}
use Rattle.unwinding.specs.LocalScript.{beginning_of, local_script}
use Rattle.unwinding.specs.SiteRun.{begun, found_again, rows_of, site_run}
use Rattle.unwinding.specs.Transcript.{transcript}
use Rattle.unwinding.specs.Admissible.{Step, History, OpeningOf, IsAdmissible, history_epochs}
use Rattle.unwinding.specs.Facts.{UnsharedFacts, Facts, KeepingFacts, DurableFacts}
use Rattle.unwinding.specs.Course.{Course, answer_all}
use Rattle.unwinding.specs.CourseSteps.{SeenOf, MayKeep, MayEnd, IsOn, last_opening, history_of}
use Rattle.unwinding.specs.Setting.{Setting}

module _ (x : Setting) where
  -- the setting's worlds
  abbrev pub SettingWorld : Type 0
  SettingWorld = WorldOf x.machine

  -- its durable states
  abbrev pub SettingState : Type 0
  SettingState = DurableOf x.keeping

  -- where its epochs begin
  abbrev pub SettingOpening : Type 0
  SettingOpening = OpeningOf x.machine x.keeping

  -- its replies, each with its site
  abbrev pub SettingReply : Type 0
  SettingReply = SiteReply x.Site x.Reply

  -- the facts of a machine with restarts
  pub record RestartFacts : Type 0 where
    pub facts : Facts x.machine x.IsSound
    pub keeping : KeepingFacts x.machine x.keeping x.IsSound x.IsValid

  -- In a run without restart, of a machine that shares no cell and has no event beside the main
  -- one, the replies to a site are its own machine's on its local script.
  abbrev pub UnsharedUnwound : Type 0
  UnsharedUnwound =
      UnsharedFacts x.machine → (s : x.Site) (w : SettingWorld) (lines : List x.Line)
      → of_site x.machine s (replies x.machine w lines)
      ≡ epoch_run x.machine s (epoch_script x.machine s w lines)

  -- The same of each machine that has the facts, from a sound world.
  abbrev pub EpochUnwound : Type 0
  EpochUnwound =
      Facts x.machine x.IsSound → (s : x.Site) (w : SettingWorld) → x.IsSound w
      → (lines : List x.Line)
      → of_site x.machine s (replies x.machine w lines)
      ≡ epoch_run x.machine s (epoch_script x.machine s w lines)

  -- Over every history, the replies to a site are its own machine's on its local script.
  abbrev pub Unwound : Type 0
  Unwound =
      RestartFacts → (s : x.Site) (o : SettingOpening) → x.IsValid o.state
      → (es : List (Epoch x.Line))
      → world_replies x.machine x.keeping s o.rest o.state es
      ≡ site_run x.machine x.keeping s (local_script x.machine x.keeping s o es)

  -- Two histories that give a site the same local script give it the same replies.
  abbrev pub SameReplies : Type 0
  SameReplies =
      RestartFacts → (s : x.Site) (o p : SettingOpening) → x.IsValid o.state → x.IsValid p.state
      → (es fs : List (Epoch x.Line))
      → local_script x.machine x.keeping s o es ≡ local_script x.machine x.keeping s p fs
      → world_replies x.machine x.keeping s o.rest o.state es
      ≡ world_replies x.machine x.keeping s p.rest p.state fs

  -- In what is printed of a history the replies of a site are its own machine's, where the
  -- replies to a restart and to a line that met a device fault are of no site.
  abbrev pub PrintedUnwound : Type 0
  PrintedUnwound =
      RestartFacts → (reopened : ℕ → SettingReply) (down : Step x.Line → SettingReply)
      → ((n : ℕ) → (reopened n).site ≡ None) → ((l : Step x.Line) → (down l).site ≡ None)
      → (s : x.Site) (o : SettingOpening) → x.IsValid o.state → (h : History x.Line)
      → of_site x.machine s (transcript x.machine x.keeping reopened down o h)
      ≡ site_run x.machine x.keeping s
      (local_script x.machine x.keeping s o (history_epochs h))

  -- the world that a restart opens after an epoch
  abbrev pub restart_of_world : SettingOpening → Epoch x.Line → x.Rest → SettingWorld
  restart_of_world o e next =
      let w = restarted x.keeping o.rest o.state in
      restarted x.keeping next (next_durable x.machine x.keeping w o.state e)

  -- what a site's own machine begins again with after an epoch
  abbrev pub own_of_site : x.Site → SettingOpening → Epoch x.Line → OwnOf x.machine
  own_of_site s o e =
      let w = restarted x.keeping o.rest o.state in
      let css = rows_of (changes_of_site x.machine s (kept_changes x.machine w e)) in
      let began = beginning_of x.machine x.keeping s o.state in
      let found = found_again x.machine x.keeping s css began in
      (begun x.machine x.keeping s found).own

  -- A restart commutes with the projection to a site: its partition of the restarted world is the
  -- restart of what its own kept changes made, and so is each home cell that others have not
  -- left different.
  pub record RestartProjects : Type 0 where
    pub partition : RestartFacts → (s : x.Site) (o : SettingOpening) → x.IsValid o.state
        → (e : Epoch x.Line) (next : x.Rest)
        → (restart_of_world o e next).partition s ≡ (own_of_site s o e).partition
    pub cell : RestartFacts → (s : x.Site) (o : SettingOpening) → x.IsValid o.state
        → (e : Epoch x.Line) (next : x.Rest) (c : x.Cell) → x.machine.is_home s c ≡ true
        → let w = restarted x.keeping o.rest o.state in
        is_in x.machine.same_cell c (touched_after x.machine s [] w (tried e)) ≡ false
        → x.machine.get (restart_of_world o e next).cells c
        ≡ x.machine.get (own_of_site s o e).cells c

  -- The durable state follows the world: what is kept of it at an opening is the state opened,
  -- and a line's row changes lead to what is kept of the next world.
  pub record DurableFollows : Type 0 where
    pub opening : RestartFacts → DurableFacts x.machine x.keeping x.IsSound x.IsValid
        → (r : x.Rest) (d : SettingState) → x.IsValid d
        → IsKeptOf x.machine x.keeping (restarted x.keeping r d) d
    pub line : RestartFacts → DurableFacts x.machine x.keeping x.IsSound x.IsValid
        → (w : SettingWorld) (l : x.Line) (d : SettingState) → x.IsSound w
        → IsKeptOf x.machine x.keeping w d
        → IsKeptOf x.machine x.keeping (world_step x.machine w l)
        (apply_all x.keeping (line_changes x.machine w l) d)
    pub lines : RestartFacts → DurableFacts x.machine x.keeping x.IsSound x.IsValid
        → (w : SettingWorld) (ls : List x.Line) (d : SettingState) → x.IsSound w
        → IsKeptOf x.machine x.keeping w d
        → IsKeptOf x.machine x.keeping (world_after x.machine w ls)
        (apply_all x.keeping (all_changes x.machine w ls) d)

  -- The history of a course is admissible where the run ends: lines that wait are lost, or a
  -- commit at the end has answered them.
  pub record CourseEnds : Type 0 where
    pub lost : (batch : ℕ) (o : SettingOpening) (r : Course x.Line)
        (a : SeenOf x.machine x.keeping)
        → IsOn x.machine x.keeping batch o r a
        (MayKeep x.machine x.keeping batch (last_opening x.machine x.keeping o r) r)
        → IsAdmissible x.machine x.keeping batch o (history_of x.machine x.keeping o false r)
    pub answered : (batch : ℕ) (o : SettingOpening) (r : Course x.Line)
        (a : SeenOf x.machine x.keeping) → r.downs ≡ []
        → IsOn x.machine x.keeping batch o r a
        (MayKeep x.machine x.keeping batch (last_opening x.machine x.keeping o r) r)
        → IsAdmissible x.machine x.keeping batch o
        (history_of x.machine x.keeping o true (answer_all r))
    -- what a restart might find once the waiting lines are answered, the store may stand for
    -- after the commit at the end
    pub flushed : (batch : ℕ) (o : SettingOpening) (r : Course x.Line)
        (d : SettingState) (n : ℕ)
        → MayKeep x.machine x.keeping batch o (answer_all r) d n
        → MayEnd x.machine x.keeping batch o r d n
