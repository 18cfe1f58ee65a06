-- How the calls of a session go on with its history and its text.
use Rattle.std.proofs.Common.{◌≡◌, inl, ⊎_elim, ℕ, ◌+◌, ◌<◌, ◌^◌, true, List, [], ◌∷◌, ◌++◌, length, refl, sym, ap, subst, ◌∙◌, append-nil, arith}
use Rattle.unwinding.specs.Admissible.{Acts, Reopens}
use Rattle.unwinding.specs.Course.{empty_course}
use Rattle.disk_model.specs.Carried.{TellsSame}
use Rattle.disk_model.specs.Disk.{View}
use Rattle.journal.specs.declared.open_fault.OpenFault.{OpenFault}
use Rattle.script_actions.specs.Action.{PlainStep}
use Rattle.durable_model.specs.Histories.{AgentOpening}
use Rattle.durable_model.specs.Keeping.{AgentDurable}
use Rattle.agent_core.specs.AgentView.{AgentView, may_of, owes}
use Rattle.agent_core.specs.Seen.{AgentSeen, IsSeen}
use Rattle.store_runs.specs.Calls.{Called, ToldAt, over_call}
use Rattle.store_runs.specs.Moments.{StopsBefore}
use Rattle.store_runs.specs.Closing.{Closes, Ends}
use Rattle.store_runs.specs.Courses.{On, text_on}
use Rattle.store_runs.specs.Openings.{GoesOn, IsJustOpened, just_opened}
use Rattle.store_runs.specs.declared.ending.Ending.{Ending}
use Rattle.store_runs.specs.declared.ending.Ending.TheVariants.{Done, Device, Store, Write, Memory}
use Rattle.store_runs.proofs.AgentLemmas.{checkpoint_called, checkpoint_wants, nothing_called}
use Rattle.store_runs.proofs.CourseLemmas.{nothing_printed, on_begun, on_fits, same_stands}
use Rattle.store_runs.proofs.StopLemmas.{goes_then}
use Rattle.line_session.specs.SessionView.{SessionView}
use Rattle.line_session.specs.StandsFor.{AreTold, GoesBy, StandsFor}

done_memory : Done ≡ Memory → ⊥
done_memory e = cc

device_memory : Device ≡ Memory → ⊥
device_memory e = cc

write_memory : Write ≡ Memory → ⊥
write_memory e = cc

store_memory : (why : OpenFault) → Store why ≡ Memory → ⊥
store_memory why e = cc

-- a disk goes on telling, so that what is known of steps stays known
pub told_still : (old new : View) → new.tells ≡ old.tells → (steps : List PlainStep) → AreTold old steps → AreTold new steps
told_still old new same [] told = tt
told_still old new same (Acts l ∷ more) told = (tt, told_still old new same more told.1)
told_still old new same (Reopens ∷ more) told = (same ∙ told.0, told_still old new same more told.1)

module _ {D : Type 0} (tell : D → View) where
  -- a session that was just opened
  pub begins : (s : SessionView D) (x : AgentOpening) → s.agent.batch ≡ 1
      → IsJustOpened s.agent (tell s.agent.disk) x → StandsFor tell s x [] []
  begins s x one just = record {
    one = one;
    seen = just_opened s.agent.memory.rules x;
    stands = just.seen;
    course = empty_course;
    on = on_begun s.agent.memory.rules s.agent.batch x (just_opened s.agent.memory.rules x)
        (may_of s.agent (tell s.agent.disk)) just.batch refl just.base;
    lines = refl;
    replies = nothing_printed s.agent.memory.rules x;
  }

  -- what nothing changed goes on
  goes_still : (v : AgentView D) → GoesOn tell v v
  goes_still v = record { rules = refl; digest = refl; batch = refl; checkpoint = refl; tells = refl }

  module _ (old new : SessionView D) where
    -- by a call of its agent
    pub goes_by : (asked ran : List PlainStep) (given : List ℕ) (Told Goes : Type 0) → GoesOn tell old.agent new.agent
        → (AreTold (tell old.agent.disk) asked → Told)
        → Called tell old.agent new.agent Told Goes ran given → GoesBy tell old new asked ran given
    goes_by asked ran given Told Goes goes tells called = record {
      goes_on = goes;
      means = λ x steps text stands few told.
          let rules = old.agent.memory.rules in
          let batch = old.agent.batch in
          let may = may_of old.agent (tell old.agent.disk) in
          let may' = may_of new.agent (tell new.agent.disk) in
          let fits = on_fits rules batch x stands.course stands.seen may stands.on
          (omega (arith, ap length stands.lines, few)) in
          let all = called (tells told) (omega (arith, stands.one)) stands.seen stands.stands fits in
          let next = all.2 x stands.course stands.on in
          record {
            one = goes.batch ∙ stands.one;
            seen = all.0;
            stands = all.1;
            course = next.0;
            on = subst (λ n. On new.agent.memory.rules n x next.0 all.0 may') (sym goes.batch)
                (subst (λ rs. On rs batch x next.0 all.0 may') (sym goes.rules) next.1);
            lines = next.2.steps ∙ ap (λ ss. ss ++ ran) stands.lines;
            replies = ap (λ rs. text_on rs x next.0) goes.rules ∙ next.2.prints ∙ ap (λ t. t ++ given) stands.replies;
          };
    }

    -- where the disk tells the same, and the agent stands for what it stood for
    pub goes_told : TellsSame (tell old.agent.disk) (tell new.agent.disk)
        → new.agent ≡ record old.agent { disk = new.agent.disk }
        → ((a : AgentSeen) → IsSeen old.agent (tell old.agent.disk) a → IsSeen new.agent (tell new.agent.disk) a)
        → ((d : AgentDurable) (n : ℕ) → may_of new.agent (tell new.agent.disk) d n → may_of old.agent (tell old.agent.disk) d n)
        → GoesBy tell old new [] [] []
    goes_told same agent stands found = goes_by [] [] [] (Unit {0}) ⊥
        (record {
          rules = ap (λ (v : AgentView D). v.memory.rules) agent;
          digest = ap (λ (v : AgentView D). v.journal.digest) agent;
          batch = ap (λ (v : AgentView D). v.batch) agent;
          checkpoint = ap (λ (v : AgentView D). v.checkpoint) agent;
          tells = same.stays.tells;
        })
        (λ told. tt)
        (λ told some a seen fits. (
          a,
          stands a seen,
          same_stands old.agent.memory.rules old.agent.batch (over_call tell a old.agent new.agent ⊥) a a
              (may_of old.agent (tell old.agent.disk)) (may_of new.agent (tell new.agent.disk)) (inl same.faults) (λ on. on)
              (refl, found),
          (λ on. absurd on),
        ))

    -- where the agent is as it was
    pub goes_nowhere : (asked : List PlainStep) → new.agent ≡ old.agent → GoesBy tell old new asked [] []
    goes_nowhere asked same =
        goes_by asked [] [] (Unit {0}) (Unit {0})
        (subst (GoesOn tell old.agent) (sym same) (goes_still old.agent)) (λ told. tt)
        (subst (λ v. Called tell old.agent v (Unit {0}) (Unit {0}) [] []) (sym same) (nothing_called tell old.agent))

    -- a line that ran, whose reply is this
    pub goes_ran : (mid : AgentView D) (step : PlainStep) (shown : List ℕ) → GoesOn tell old.agent mid
        → Called tell old.agent mid (ToldAt step (tell old.agent.disk)) (Unit {0}) (step ∷ []) shown
        → new.agent ≡ mid → new.reply ≡ shown → GoesBy tell old new (step ∷ []) (step ∷ []) new.reply
    goes_ran mid step shown goes called same is =
        goes_by (step ∷ []) (step ∷ []) new.reply (ToldAt step (tell old.agent.disk)) (Unit {0})
        (subst (GoesOn tell old.agent) (sym same) goes) (λ told. told.0)
        (subst (λ v. Called tell old.agent v (ToldAt step (tell old.agent.disk)) (Unit {0}) (step ∷ []) new.reply) (sym same)
        (subst (λ t. Called tell old.agent mid (ToldAt step (tell old.agent.disk)) (Unit {0}) (step ∷ []) t) (sym is) called))

    -- a line that did not run
    pub goes_stopped : (step : PlainStep) (ending : Ending) → GoesOn tell old.agent new.agent
        → StopsBefore tell old.agent new.agent step ending → GoesBy tell old new (step ∷ []) [] []
    goes_stopped step Memory goes called =
        goes_by (step ∷ []) [] [] (ToldAt step (tell old.agent.disk)) ⊥ goes (λ told. told.0) called
    goes_stopped step (Store why) goes stops = record {
      goes_on = goes;
      means = λ x steps text stands few told. absurd
          (stops.2 (subst (λ s. ToldAt s (tell old.agent.disk)) stops.1 told.0) stands.seen stands.stands);
    }
    goes_stopped step Done goes stops = absurd stops
    goes_stopped step Device goes stops = absurd stops
    goes_stopped step Write goes stops = absurd stops

    -- a checkpoint that was due
    pub goes_tended : (ending : Ending) → GoesOn tell old.agent new.agent
        → Closes tell old.agent new.agent Done ending → GoesBy tell old new [] [] []
    goes_tended ending goes closes = ⊎_elim
        (λ none. goes_nowhere [] none.1)
        (λ made. by ending made.1 made.3)
        closes
      where
        by : (ending : Ending) → owes old.agent ≡ true → Ends tell old.agent new.agent ending [] []
            → GoesBy tell old new [] [] []
        by Done owed ends = goes_by [] [] [] (Unit {0}) (Unit {0}) goes (λ told. tt)
            (checkpoint_called tell old.agent new.agent owed Done ends done_memory)
        by Device owed ends = goes_by [] [] [] (Unit {0}) (Unit {0}) goes (λ told. tt)
            (checkpoint_called tell old.agent new.agent owed Device ends device_memory)
        by Memory owed ends = goes_by [] [] [] (Unit {0}) ⊥ goes (λ told. tt)
            (checkpoint_wants tell old.agent new.agent owed ends)
        by Write owed ends = goes_by [] [] [] (Unit {0}) (Unit {0}) goes (λ told. tt)
            (checkpoint_called tell old.agent new.agent owed Write ends write_memory)
        by (Store why) owed ends = goes_by [] [] [] (Unit {0}) (Unit {0}) goes (λ told. tt)
            (checkpoint_called tell old.agent new.agent owed (Store why) ends (store_memory why))

  -- by a call that runs no line
  pub stands_none : (old new : SessionView D) (x : AgentOpening) (steps : List PlainStep) (text : List ℕ)
      → GoesBy tell old new [] [] [] → length steps + 2 < 2 ^ 64 → StandsFor tell old x steps text → StandsFor tell new x steps text
  stands_none old new x steps text goes few stands =
      subst (StandsFor tell new x steps) (append-nil text)
      (subst (λ ss. StandsFor tell new x ss (text ++ [])) (append-nil steps) (goes.means x steps text stands few tt))

  -- and by another call behind it
  pub goes_between : (a b c : SessionView D) (asked ran : List PlainStep) (given : List ℕ) → GoesBy tell a b [] [] []
      → GoesBy tell b c asked ran given → GoesBy tell a c asked ran given
  goes_between a b c asked ran given one two = record {
    goes_on = goes_then tell a.agent b.agent c.agent one.goes_on two.goes_on;
    means = λ x steps text stands few told.
        two.means x steps text (stands_none a b x steps text one few stands) few
        (told_still (tell a.agent.disk) (tell b.agent.disk) one.goes_on.tells asked told);
  }
