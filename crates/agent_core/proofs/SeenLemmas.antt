-- What an agent stands for, from line to commit.
use Rattle.std.proofs.Common.{◌≡◌, ℕ, true, List, [], ◌∷◌, ◌++◌, length, map, sym, ap, subst, ◌∙◌, arith}
use Rattle.std.specs.List.{All}
use Rattle.std.proofs.lemmas.List.{length-append, map-append}
use Rattle.std.proofs.lemmas.List.Elements.{All-append}
use Rattle.unwinding.specs.Course.{AtBase, IsAt}
use Rattle.unwinding.specs.CourseSteps.{holding}
use Rattle.unwinding.specs.Durable.{line_changes}
use Rattle.unwinding.specs.World.{line_reply, world_step}
use Rattle.unwinding.proofs.CourseCounts.{line_few}
use Rattle.disk_model.specs.Disk.{View}
use Rattle.disk_model.specs.DiskLaws.{IsLawful}
use Rattle.journal.specs.Journal.{JournalView}
use Rattle.suffix_list.specs.Suffix.{Rule}
use Rattle.script_actions.specs.Action.{PlainAction}
use Rattle.row_changes.specs.Laws.{IsWritable}
use Rattle.row_changes.specs.Spelled.{IsSpelledUnder}
use Rattle.agent_model.specs.Isolation.{printed}
use Rattle.agent_model.specs.Lines.{AgentWorld}
use Rattle.agent_model.specs.TheMachine.{machine}
use Rattle.durable_model.specs.Keeping.{AgentDurable, durable_of}
use Rattle.durable_model.specs.Laws.{LinesAreValid, LinesKeep}
use Rattle.durable_model.specs.Migrate.{IsUnder}
use Rattle.durable_model.specs.RowEdits.{after_all}
use Rattle.durable_model.specs.Saved.{Saved}
use Rattle.durable_model.specs.Sound.{IsSavedOf}
use Rattle.spelled_model.specs.Laws.{LinesAreSpelled, LinesStayRead}
use Rattle.spelled_model.specs.Addresses.{IsReadAction}
use Rattle.spelled_model.specs.Worlds.{IsReadWorld}
use Rattle.row_store.specs.Laws.{IsSpelledStateUnder}
use Rattle.row_opening.specs.Opened.{LeavesUnder}
use Rattle.agent_memory.specs.AgentState.{AgentState, world_of}
use Rattle.agent_memory.specs.Written.{AgentChange, AreWritten, body_of}
use Rattle.agent_core.specs.AgentView.{AgentView, list_of, may_find, may_of, since_opening}
use Rattle.agent_core.specs.Batch.{HasRun, PlainBatch}
use Rattle.open_store.specs.Standing.{IsRoomier}
use Rattle.agent_core.specs.Means.{Fits, after_line}
use Rattle.agent_core.specs.Seen.{AgentSeen, IsBatch, IsUp}
use Rattle.agent_core.specs.Standing.{IsHeld}
use Rattle.agent_core.specs.declared.agent.Power.{Power}
use Rattle.agent_core.proofs.BatchLemmas.{after_append, body_append, line_rows, made_texts, made_writable, valid_append}
use Rattle.agent_core.proofs.StoreLemmas.{contents_stand, images_second, images_stand, roomier_base, stands_one}

-- an agent of these parts
abbrev pub from_parts : {D : Type 0} → AgentState → ℕ → PlainBatch → JournalView → ℕ → ℕ → Power → D
    → AgentView D
from_parts memory now batch journal opened checkpoint power disk =
    record {
      memory = memory;
      now = now;
      batch = batch.size;
      body = batch.body;
      changes = batch.changes;
      held = batch.held;
      journal = journal;
      opened = opened;
      checkpoint = checkpoint;
      power = power;
      disk = disk;
    }

-- ---- a line ran

module _ {D : Type 0} (m m' : AgentState) (b b' : PlainBatch) (j j' : JournalView)
    (now opened checkpoint : ℕ) (power : Power) (disk disk' : D) (v w : View) (line : PlainAction)
    (a : AgentSeen) (run : HasRun line m m' b b') (roomier : IsRoomier j j' v w)
    (up : IsUp (from_parts m now b j opened checkpoint power disk) v a) where
  rules : List Rule
  rules = m.rules

  made : List AgentChange
  made = line_changes (machine rules) a.world line

  next : AgentWorld
  next = world_step (machine rules) a.world line

  ran_world : next ≡ world_of m'
  unfolding rules next
  ran_world =
      ap (λ (x : AgentWorld). world_step (machine m.rules) x line) up.world ∙ sym run.world

  ran_written : AreWritten made b.body b'.body
  unfolding rules made
  ran_written =
      subst
      (λ (x : AgentWorld). AreWritten (line_changes (machine m.rules) x line) b.body b'.body)
      (sym up.world) run.written

  ran_held : map printed (a.held ++ line_reply (machine rules) a.world line ∷ []) ≡ b'.held
  unfolding rules
  ran_held =
      let told = λ (x : AgentWorld). line_reply (machine m.rules) x line in
      map-append printed a.held (told a.world ∷ [])
      ∙ ap (λ front. front ++ printed (told a.world) ∷ []) up.held
      ∙ ap (λ (x : AgentWorld). b.held ++ printed (told x) ∷ []) up.world
      ∙ sym run.held

  ran_changes : b'.changes ≡ length (a.pending ++ made)
  unfolding rules made
  ran_changes =
      let same : length (line_changes (machine m.rules) (world_of m) line)
      ≡ length (line_changes (machine m.rules) a.world line) =
      ap (λ (x : AgentWorld). length (line_changes (machine m.rules) x line)) (sym up.world) in
      omega (
        arith,
        run.changes,
        up.changes,
        same,
        length-append a.pending (line_changes (machine m.rules) a.world line),
      )

  -- the body of the open batch is that of its durable changes
  pub ran_bytes : b'.body ≡ body_of (after_line m.rules a line).pending
  unfolding holding rules made
  ran_bytes =
      let all = line_changes (machine m.rules) a.world line in
      let written : AreWritten all b.body b'.body = ran_written in
      written.behind ∙ ap (λ front. front ++ body_of all) up.batch.bytes
      ∙ sym (body_append a.pending all)

  module _ (keep : LinesKeep) (valid_lines : LinesAreValid) (spelled : LinesAreSpelled) where
    -- each row change of the line is one under the list
    ran_spelled : IsReadWorld rules a.world → IsReadAction line
        → All (λ one. All (IsSpelledUnder rules) one.changes) made
    unfolding rules made
    ran_spelled read read_line =
        let all = line_changes (machine m.rules) a.world line in
        let written : AreWritten all b.body b'.body = ran_written in
        spelled m.rules a.world line up.sound read read_line (made_texts all written.room)

    ran_batch : IsReadWorld rules a.world → IsReadAction line
        → IsBatch rules up.base (a.pending ++ made) b'.body next
    unfolding holding rules made next ran_spelled
    ran_batch read read_line =
        let all = line_changes (machine m.rules) a.world line in
        let behind = after_all up.base a.pending in
        let written : AreWritten all b.body b'.body = ran_written in
        record {
          bytes = ran_bytes;
          writable =
              All-append (λ one. IsWritable one.changes) a.pending all up.batch.writable
              (made_writable m.rules all (line_rows m.rules a.world line) written.room
              (ran_spelled read read_line));
          under =
              All-append (λ one. All (IsSpelledUnder m.rules) one.changes) a.pending all
              up.batch.under (ran_spelled read read_line);
          valid = valid_append up.base a.pending all up.batch.valid
              (valid_lines m.rules a.world line behind up.sound up.batch.saved);
          saved =
              subst
              (λ (d : Saved). IsSavedOf m.rules (world_step (machine m.rules) a.world line) d)
              (sym (after_append up.base a.pending all))
              (keep m.rules a.world line behind up.sound up.batch.saved).1;
        }

    pub ran_holds : IsReadAction line
        → IsHeld (from_parts m' now b' j' opened checkpoint power disk') w (after_line m.rules a line)
    unfolding holding rules made next
    ran_holds read_line =
        let all = line_changes (machine m.rules) a.world line in
        record {
          changes = ran_changes;
          base = up.base;
          storable = up.storable;
          under = subst (λ (r : List Rule). IsUnder r up.base) (sym run.rules) up.under;
          spelled =
              subst (λ (r : List Rule). IsSpelledStateUnder r up.base) (sym run.rules) up.spelled;
          state = up.state;
          batch =
              subst
              (λ (r : List Rule). IsBatch r up.base (a.pending ++ all) b'.body
              (world_step (machine m.rules) a.world line))
              (sym run.rules) (ran_batch up.read read_line);
          store = roomier_base j j' v w up.base roomier up.store;
        }

    module _ (stays : LinesStayRead) where
      pub ran_up : IsReadAction line → Fits a → a.up ≡ true
          → IsUp (from_parts m' now b' j' opened checkpoint power disk') w (after_line m.rules a line)
      unfolding holding rules made next ran_holds
      ran_up read_line fits is_up =
          let all = line_changes (machine m.rules) a.world line in
          record {
            world = ran_world;
            sound = (keep m.rules a.world line (after_all up.base a.pending) up.sound
                up.batch.saved).0;
            read =
                subst
                (λ (r : List Rule). IsReadWorld r (world_step (machine m.rules) a.world line))
                (sym run.rules) (stays m.rules a.world line up.sound up.read read_line);
            held = ran_held;
            changes = ran_changes;
            count = up.count
                ∙ ap (λ (i : JournalView). since_opening i.changes opened) (sym roomier.journal);
            fits =
                omega (
                  arith,
                  fits is_up,
                  length-append a.pending all,
                  line_few (machine m.rules) a.world line,
                );
            base = up.base;
            valid = up.valid;
            storable = up.storable;
            under = (ran_holds read_line).under;
            spelled = (ran_holds read_line).spelled;
            state = up.state;
            batch = (ran_holds read_line).batch;
            store = (ran_holds read_line).store;
          }

-- ---- what is in the store

-- a restart would find what the store stands for
pub up_at_base : {D : Type 0} (x : AgentView D) (v : View) (a : AgentSeen) → IsUp x v a
    → AtBase a.base (may_of x v)
unfolding may_find
up_at_base x v a up d n left =
    let stands = images_stand x.journal v up.base up.store left.0 left.1 in
    let same =
    stands_one x.journal.digest left.0 left.2 up.base left.3 x.journal.changes left.4 stands in (
      left.5 ∙ ap durable_of same.0 ∙ sym up.state,
      left.6 ∙ ap (λ (i : ℕ). since_opening i x.opened) same.1 ∙ sym up.count,
    )

pub up_stores : {D : Type 0} (x : AgentView D) (v : View) (a : AgentSeen) → IsUp x v a
    → LeavesUnder (list_of x) v
up_stores x v a up tells file left = (
  images_second x.journal v up.base up.store file left,
  (
    up.base,
    x.journal.changes,
    images_stand x.journal v up.base up.store file left,
    up.under,
  ),
)

-- and it may find it
pub up_may : {D : Type 0} (x : AgentView D) (v : View) (a : AgentSeen) → IsUp x v a → IsLawful v
    → v.tells ≡ true → (d : AgentDurable) (n : ℕ) → IsAt a.base d n → may_of x v d n
unfolding may_find
up_may x v a up laws tells d n at =
    let told = laws.told tells in (
      told.0,
      laws.contents_may_stay told.0 told.1,
      up.base,
      x.journal.changes,
      contents_stand x.journal v up.base up.store told.0 told.1,
      at.0 ∙ up.state,
      at.1 ∙ up.count,
    )
