-- What a call of a session makes of it, where its fields were what it was before.
use Rattle.std.proofs.Common.{◌≡◌, ◌⊎◌, inr, ℕ, Bool, true, false, List, [], ◌∷◌, Option, Some, None, Result, Err, refl, sym, subst, ◌∙◌}
use Rattle.std.proofs.lemmas.Bool.{true≢false}
use Rattle.std.proofs.lemmas.Result.{IfErr-weaker, IfOk-weaker}
use Rattle.std.specs.Prelude.{IfErr, OnOk, is_some, option_map}
use Rattle.disk_model.specs.Carried.{TellsSame}
use Rattle.disk_model.specs.Disk.{View}
use Rattle.script_actions.specs.Action.{PlainLine, PlainStep}
use Rattle.script_actions.specs.Plain.{line_of}
use Rattle.script_actions.specs.declared.step.Line.{Line}
use Rattle.durable_model.specs.Keeping.{AgentDurable}
use Rattle.agent_core.specs.AgentView.{may_of}
use Rattle.agent_core.specs.Seen.{AgentSeen, IsSeen}
use Rattle.store_runs.specs.Closing.{Closes}
use Rattle.store_runs.specs.Moments.{StopsBefore}
use Rattle.store_runs.specs.Openings.{GoesOn}
use Rattle.store_runs.specs.declared.answer.Answer.{Answer}
use Rattle.store_runs.specs.declared.ending.Ending.{Ending}
use Rattle.store_runs.specs.declared.ending.Ending.TheVariants.{Done}
use Rattle.line_session.specs.Asked.{IsReadAs, asked_by}
use Rattle.line_session.specs.Calls.{text_by, ran_by}
use Rattle.line_session.specs.Refusals.{RefusedSo, IsStop, stop_of}
use Rattle.line_session.specs.SessionView.{SessionView, is_printed, last_reply}
use Rattle.line_session.specs.StandsFor.{GoesBy, LineMoments}
use Rattle.line_session.specs.declared.refused.LineRefused.{LineRefused}
use Rattle.line_session.proofs.ReadingLemmas.{asked_as}
use Rattle.line_session.proofs.RefusalLemmas.{stop_goes, stop_left, stop_refused}
use Rattle.line_session.proofs.SessionLemmas.{goes_nowhere, goes_tended, goes_told}

-- an answer that is there is still to be printed, and no other
pub some_unprinted : (answer : Option Answer) → is_some answer ≡ true → is_printed answer ≡ false
some_unprinted (Some answer) some = refl
some_unprinted None some = absurd (true≢false (sym some))

pub none_unprinted : (answer : Option Answer) → is_some answer ≡ false → is_printed answer ≡ true
none_unprinted (Some answer) none = absurd (true≢false none)
none_unprinted None none = refl

pub owes_none : (answer : Option Answer) (printed : Bool) → is_printed answer ≡ printed → is_some answer ≡ false
    → printed ≡ false → ⊥
owes_none answer printed is none owed = true≢false (sym (none_unprinted answer none) ∙ is ∙ owed)

-- then the reply is what was printed
pub nothing_replied : (answer : Option Answer) (text : List ℕ) → is_some answer ≡ false → text ≡ []
    → last_reply answer text ≡ []
nothing_replied (Some answer) text none is = absurd (true≢false none)
nothing_replied None text none is = is

-- a line that was found by its bytes
pub read_as : (bytes : List ℕ) (field found : Option Line) → field ≡ found → IsReadAs bytes (option_map line_of field)
    → IsReadAs bytes (option_map line_of found)
read_as bytes field found is was = subst (λ l. IsReadAs bytes (option_map line_of l)) is was

-- what holds of each answer holds beside what holds of a line that ran
pub also_ok : (P Q : Type 0) (result : Result (Unit {0}) LineRefused) → OnOk result P → Q → OnOk result (P × Q)
also_ok P Q result ok also = IfOk-weaker result (λ _. P) (λ _. P × Q) (λ _ is. (is, also)) ok

module _ {D : Type 0} (tell : D → View) (old inside new : SessionView D) (same : inside ≡ old) where
  -- a checkpoint that was due
  pub tended_goes : (ending : Ending) → GoesOn tell inside.agent new.agent
      → Closes tell inside.agent new.agent Done ending → GoesBy tell old new [] [] []
  tended_goes ending goes closes =
      subst (λ s. GoesBy tell s new [] [] []) same (goes_tended tell inside new ending goes closes)

  -- a call of the disk that is done
  pub done_goes : TellsSame (tell inside.agent.disk) (tell new.agent.disk)
      → new.agent ≡ record inside.agent { disk = new.agent.disk }
      → ((a : AgentSeen) → IsSeen inside.agent (tell inside.agent.disk) a → IsSeen new.agent (tell new.agent.disk) a)
      → ((d : AgentDurable) (n : ℕ) → may_of new.agent (tell new.agent.disk) d n
      → may_of inside.agent (tell inside.agent.disk) d n)
      → GoesBy tell old new [] [] []
  done_goes told agent stands found =
      subst (λ s. GoesBy tell s new [] [] []) same (goes_told tell inside new told agent stands found)

  -- a line whose run stopped
  pub stopped_goes : (step : PlainStep) (stop : Ending) (why : LineRefused) → why ≡ stop_of stop
      → GoesOn tell inside.agent new.agent → StopsBefore tell inside.agent new.agent step stop
      → GoesBy tell old new (step ∷ []) (ran_by {T = Unit {0}} (Err why) (step ∷ []))
      (text_by {T = Unit {0}} (Err why) new.reply)
  stopped_goes step stop why is goes stops =
      subst (λ s. GoesBy tell s new (step ∷ []) (ran_by {T = Unit {0}} (Err why) (step ∷ []))
      (text_by {T = Unit {0}} (Err why) new.reply)) same
      (subst (λ w. GoesBy tell inside new (step ∷ []) (ran_by {T = Unit {0}} (Err w) (step ∷ []))
      (text_by {T = Unit {0}} (Err w) new.reply)) (sym is) (stop_goes tell inside new step stop goes stops))

  pub stopped_left : (step : PlainStep) (stop : Ending) (why : LineRefused) → why ≡ stop_of stop
      → StopsBefore tell inside.agent new.agent step stop → new.reply ≡ inside.reply
      → new.printed ≡ inside.printed → IsStop old new step why
  stopped_left step stop why is stops reply printed =
      subst (λ s. IsStop s new step why) same
      (subst (IsStop inside new step) (sym is) (stop_left tell inside new step stop stops reply printed))

  module _ (bytes : List ℕ) where
    -- a blank line
    pub blank_goes : IsReadAs bytes None → new.agent ≡ inside.agent → new.reply ≡ []
        → GoesBy tell old new (asked_by bytes) (asked_by bytes) new.reply
    blank_goes was agent none =
        subst (λ s. GoesBy tell s new (asked_by bytes) (asked_by bytes) new.reply) same
        (subst (λ asked. GoesBy tell inside new asked asked new.reply) (sym (asked_as bytes None was))
        (subst (GoesBy tell inside new [] []) (sym none) (goes_nowhere tell inside new [] agent)))

    -- a line that was read and ran, or stopped
    module _ (line : PlainLine) (was : IsReadAs bytes (Some line)) where
      pub ran_goes : (result : Result (Unit {0}) LineRefused)
          → GoesBy tell inside new (line.step ∷ []) (ran_by result (line.step ∷ [])) (text_by result new.reply)
          → GoesBy tell old new (asked_by bytes) (ran_by result (asked_by bytes)) (text_by result new.reply)
      ran_goes result goes =
          subst (λ s. GoesBy tell s new (asked_by bytes) (ran_by result (asked_by bytes)) (text_by result new.reply))
          same
          (subst (λ asked. GoesBy tell inside new asked (ran_by result asked) (text_by result new.reply))
          (sym (asked_as bytes (Some line) was)) goes)

      pub ran_moments : LineMoments tell inside.agent new.agent (line.step ∷ [])
          → (new.agent ≡ old.agent) ⊎ LineMoments tell old.agent new.agent (asked_by bytes)
      ran_moments moments = inr
          (subst (λ (s : SessionView D). LineMoments tell s.agent new.agent (asked_by bytes)) same
          (subst (LineMoments tell inside.agent new.agent) (sym (asked_as bytes (Some line) was)) moments))

      pub ran_refused : (result : Result (Unit {0}) LineRefused) → IfErr result (IsStop inside new line.step)
          → IfErr result (RefusedSo old new bytes)
      ran_refused result stops =
          subst (λ s. IfErr result (RefusedSo s new bytes)) same
          (IfErr-weaker result (IsStop inside new line.step) (RefusedSo inside new bytes)
          (stop_refused inside new bytes line was) stops)
