-- What each line makes of an agent, and that an agent stands where the course of its run does.
-- Source: none.
use Rattle.std.specs.Prelude.{◌≡◌, ◌⊎◌, ℕ, ◌+◌, ◌*◌, ◌%◌, ◌<◌, Bool, true, false, List, [], ◌∷◌}
use Rattle.std.specs.Prelude.{◌++◌, Some, length}
use Rattle.unwinding.specs.Machine.{Machine, WorldOf}
use Rattle.unwinding.specs.World.{SiteReply, line_reply, replies, world_step, world_after}
use Rattle.unwinding.specs.Durable.{Keeping, DurableChange, DurableOf, apply_all, restarted}
use Rattle.unwinding.specs.Durable.{line_changes}
use Rattle.unwinding.specs.Epochs.{all_changes}
use Rattle.unwinding.specs.Transcript.{transcript}
use Rattle.unwinding.specs.Admissible.{Step, History, OpeningOf, interrupted_line, opening_after}
use Rattle.unwinding.specs.Admissible.{AreAdmissible}
use Rattle.unwinding.specs.Course.{Base, Seen, Course, executed_lines, stretch_of, IsAt}

module _
    {Site Cell Cells Partition Content Rest Line Event Reply Change KeptPartition KeptCell KeptCells
    : Type 0}
    (m : Machine Site Cell Cells Partition Content Rest Line Event Reply Change)
    (k : Keeping Site Cell Cells Partition Content Rest Change KeptPartition KeptCell KeptCells)
  where
    -- what agents of this machine stand for
    abbrev pub SeenOf : Type 0
    SeenOf = Seen Site Cells Partition Rest Reply Change (DurableOf k)

    -- which durable states a restart may find, after how many changes
    abbrev pub MayFind : Type 1
    MayFind = DurableOf k → ℕ → Type 0

    -- a base after more durable changes
    abbrev pub forward : List (DurableChange Site Change) → Base (DurableOf k) → Base (DurableOf k)
    forward ms b = record { state = apply_all k ms b.state; count = b.count + length ms }

    -- an agent after a line that waits for its batch
    unfoldable pub holding : SeenOf → Line → SeenOf
    holding a l =
        record {
          world = world_step m a.world l;
          base = a.base;
          pending = a.pending ++ line_changes m a.world l;
          held = a.held ++ line_reply m a.world l ∷ [];
          up = true;
        }

    -- an agent after a commit
    unfoldable pub committed : SeenOf → SeenOf
    committed a =
        record {
          world = a.world;
          base = forward a.pending a.base;
          pending = [];
          held = [];
          up = true;
        }

    -- an agent after an opening
    unfoldable pub reopened : Rest → DurableOf k → SeenOf
    reopened r d =
        record {
          world = restarted k r d;
          base = record { state = d; count = 0 };
          pending = [];
          held = [];
          up = true;
        }

    -- What a call that answers a device fault leaves. What a restart keeps of the rest stays. A
    -- restart may find what it might have found before, or some other state.
    pub record GoesDown (old new : SeenOf) (may_old may_new other : MayFind) : Type 0 where
      pub down : new.up ≡ false
      pub rest : k.rest_again new.world.rest ≡ k.rest_again old.world.rest
      pub images : (d : DurableOf k) (n : ℕ) → may_new d n → may_old d n ⊎ other d n

    -- where the open epoch of a course began
    abbrev pub last_opening : OpeningOf m k → Course Line → OpeningOf m k
    last_opening x r = opening_after m k x r.closed

    -- the world in which an epoch began
    abbrev pub begins : OpeningOf m k → WorldOf m
    begins o = restarted k o.rest o.state

    -- the base after all durable changes of some lines of the open epoch
    abbrev pub base_of : OpeningOf m k → List Line → Base (DurableOf k)
    base_of o ls = forward (all_changes m (begins o) ls) (record { state = o.state; count = 0 })

    -- what an agent that is up stands for, from where the open epoch began
    unfoldable pub stands : OpeningOf m k → Course Line → SeenOf
    stands o r =
        let v = world_after m (begins o) r.answered in
        record {
          world = world_after m v r.waiting;
          base = base_of o r.answered;
          pending = all_changes m v r.waiting;
          held = replies m v r.waiting;
          up = true;
        }

    -- the history of a course that ends here
    abbrev pub history_of : OpeningOf m k → Bool → Course Line → History Line
    history_of x committed r =
        let kept = (base_of (last_opening x r) r.answered).count in
        record { closed = r.closed; open_end = stretch_of r kept; committed = committed }

    -- what has been printed
    abbrev pub course_transcript : (ℕ → SiteReply Site Reply) → (Step Line → SiteReply Site Reply)
        → OpeningOf m k → Course Line → List (SiteReply Site Reply)
    course_transcript reopened down x r = transcript m k reopened down x (history_of x false r)

    module _ (batch : ℕ) where
      -- what the next restart may find: the state after the answered lines, or after all lines of
      -- a batch whose commit met a fault
      abbrev pub MayKeep : OpeningOf m k → Course Line → DurableOf k → ℕ → Type 0
      MayKeep o r d n =
          IsAt (base_of o r.answered) d n
          ⊎ ((l : Line)
          × (interrupted_line r.downs ≡ Some l)
          × ((length (executed_lines r) + 1) % batch ≡ 0)
          × IsAt (base_of o (executed_lines r ++ l ∷ [])) d n)

      -- what the store may stand for after the commit at the end, whether that met a fault or not:
      -- what a restart might have found, or the state after all executed lines
      abbrev pub MayEnd : OpeningOf m k → Course Line → DurableOf k → ℕ → Type 0
      MayEnd o r d n = MayKeep o r d n ⊎ IsAt (base_of o (executed_lines r)) d n

      -- the agent stands where the course does
      pub record IsOn (x : OpeningOf m k) (r : Course Line) (a : SeenOf) (may : MayFind)
          : Type 0 where
        pub admissible : AreAdmissible m k batch x r.closed
        -- whole batches are answered, and less than one waits
        pub batches : ℕ
        pub whole : length r.answered ≡ batch * batches
        pub short : length r.waiting < batch
        pub rest :
            k.rest_again a.world.rest
            ≡ k.rest_again (world_after m (begins (last_opening x r)) (executed_lines r)).rest
        pub up : a.up ≡ true → (r.downs ≡ []) × (a ≡ stands (last_opening x r) r)
        pub images : (d : DurableOf k) (n : ℕ) → may d n
            → MayKeep (last_opening x r) r d n
