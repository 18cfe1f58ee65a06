-- What the answer to one line is, by what the session gave for it.
use Rattle.std.proofs.Common.{◌≡◌, inr, ⊎_elim, ℕ, ◌+◌, ◌<◌, ◌^◌, Bool, true, false, List, [], Option, None, Result, Ok, Err, IfErr, MatchResult, refl, sym, ap, subst, ◌∙◌}
use Rattle.std.proofs.lemmas.Bool.{cases_Bool}
use Rattle.std.specs.Prelude.{if◌then◌else◌, nat_lt, length}
use Rattle.disk_model.specs.Disk.{View}
use Rattle.journal.specs.Opening.{IsOfFile}
use Rattle.journal.specs.declared.open_fault.OpenFault.{OpenFault}
use Rattle.serde_json.specs.Data.{Data}
use Rattle.script_actions.specs.Action.{PlainStep}
use Rattle.script_lines.specs.Fields.{then_ok}
use Rattle.script_lines.specs.Grammar.{is_blank, line_limit}
use Rattle.script_lines.specs.Script.{PlainFault}
use Rattle.script_lines.specs.Script as plain
use Rattle.store_runs.specs.FaultCounts.{KeepsCount}
use Rattle.store_runs.proofs.PowerLemmas.{counts_still, counts_then}
use Rattle.line_session.specs.Asked.{asked_by}
use Rattle.line_session.specs.Calls.{ran_by, text_by}
use Rattle.line_session.specs.Refusals.{RefusedSo}
use Rattle.line_session.specs.SessionView.{SessionView}
use Rattle.line_session.specs.StandsFor.{GoesBy}
use Rattle.line_session.specs.declared.refused.LineRefused.{LineRefused}
use Rattle.line_session.specs.declared.refused.LineRefused.TheVariants as refused
use Rattle.served_lines.specs.Serving.{IsAnswer}
use Rattle.served_lines.specs.Steps.{Answered, Gave, IsKnownOf, IsStopOf, IsTextFor, Stopped, WritesAnswer, call_of}
use Rattle.served_lines.specs.Endings.{IsOfLine}
use Rattle.served_lines.specs.Waiting.{Waits}
use Rattle.served_lines.specs.declared.ending.Served.{Served}
use Rattle.served_lines.specs.declared.ending.Served.TheVariants.{Done, Device, Read, Write, Store, NoMemory}
use Rattle.served_lines.specs.declared.waiting.WaitingLine.{WaitingLine}
use Rattle.served_lines.proofs.GivenLemmas.{asks_nothing, blank_known, of_fault, refused_known}
use Rattle.served_lines.proofs.ServedLemmas.{stands_still}

-- ---- what a session gave

long_by : {A : Type 0} (blank long : Bool) (rest : Result Data PlainFault) (next : Data → Result PlainStep PlainFault)
    (last : PlainStep → Result (Option A) PlainFault) → blank ≡ false → long ≡ true
    → (if blank then Ok None else then_ok (then_ok (if long then Err (plain.LineTooLong 1) else rest) next) last)
    ≡ Err (plain.LineTooLong 1)
long_by false true rest next last some over = refl
long_by true long rest next last some over = cc
long_by false false rest next last some over = cc

module _ {D : Type 0} (tell : D → View) (line : List ℕ) (waiting : WaitingLine) (waits : Waits line waiting) where
  -- a line that is too long, and has more than spaces
  pub gave_too_long : (s : SessionView D) → waiting.long ≡ true → waiting.blank ≡ false
      → Gave tell s s line (Err refused.TooLong)
  gave_too_long s long some = record {
    is = stands_still tell s (asked_by line);
    known = of_fault line refused.TooLong (λ f e. cc) (λ words is. (
      1,
      record {
        one = waits.one;
        has = long_by (is_blank line) (nat_lt line_limit (length line)) _ _ _ (sym waits.spaces ∙ some) (sym waits.long ∙ long);
      },
    ));
    counts = counts_still tell s.agent;
  }

  module _ (old new : SessionView D) (answer : Result (Unit {0}) LineRefused)
      (means : GoesBy tell old new (asked_by waiting.bytes.items) (ran_by answer (asked_by waiting.bytes.items)) (text_by answer new.reply))
      (left : IfErr answer (λ why. RefusedSo old new waiting.bytes.items why))
      (counts : KeepsCount tell old.agent new.agent) where
    gave_held : waiting.bytes.items ≡ line → Gave tell old new line answer
    gave_held same = record {
      is = subst (λ l. GoesBy tell old new (asked_by l) (ran_by answer (asked_by l)) (text_by answer new.reply)) same means;
      known = known answer (subst (λ l. IfErr answer (λ why. RefusedSo old new l why)) same left);
      counts = counts;
    }
      where
        known : (answer : Result (Unit {0}) LineRefused) → IfErr answer (λ why. RefusedSo old new line why)
            → IfErr answer (IsKnownOf line)
        known (Ok done) left = tt
        known (Err why) left = refused_known line old new why left

    gave_blank : waiting.blank ≡ true → waiting.bytes.items ≡ [] → Gave tell old new line answer
    gave_blank spaces none = record {
      is = subst (λ a. GoesBy tell old new a (ran_by answer a) (text_by answer new.reply))
          (ap asked_by none ∙ asks_nothing [] refl ∙ sym (asks_nothing line (sym waits.spaces ∙ spaces))) means;
      known = known answer (subst (λ l. IfErr answer (λ why. RefusedSo old new l why)) none left);
      counts = counts;
    }
      where
        known : (answer : Result (Unit {0}) LineRefused) → IfErr answer (λ why. RefusedSo old new [] why)
            → IfErr answer (IsKnownOf line)
        known (Ok done) left = tt
        known (Err why) left = blank_known old new line why left

    -- any other line
    pub gave_line : (waiting.long ≡ true → waiting.blank ≡ true) → Gave tell old new line answer
    gave_line blank = ⊎_elim
        (λ long. gave_blank (blank long) (waits.dropped long))
        (λ short. gave_held (waits.held short))
        (cases_Bool waiting.long)

-- ---- what was written

never : (answer : Result (Unit {0}) LineRefused) → MatchResult answer (λ done. ⊥) (λ why. ⊥) → ⊥
never (Ok done) stop = stop
never (Err why) stop = stop

module _ {D : Type 0} (tell : D → View) (old after : SessionView D) (number : ℕ) (line : List ℕ)
    (answer : Result (Unit {0}) LineRefused) (gave : Gave tell old after line answer) (few : number + 2 < 2 ^ 64)
    (taken took : Option (List ℕ)) where
  is_answer : (answer : Result (Unit {0}) LineRefused) (text : List ℕ) → IfErr answer (IsKnownOf line)
      → IsTextFor answer number after.reply text → IsAnswer number (call_of old after line answer) text
  is_answer (Ok done) text known told = told
  is_answer (Err why) text known told = (known.0 told.0 told.1, told)

  pub was_answered : (new : SessionView D) (done : Unit {0}) → WritesAnswer (Ok done) answer number after.reply taken took
      → GoesBy tell after new [] [] [] → KeepsCount tell after.agent new.agent
      → Answered tell old new number line taken took
  was_answered new done wrote tended counts = record {
    after = after;
    called = record {
      answer = answer;
      is = gave.is;
      few = few;
      text = wrote.0;
      answers = is_answer answer wrote.0 gave.known wrote.1;
      took = wrote.2;
      counts = gave.counts;
    };
    tended = tended;
    counts = counts_then tell old.agent after.agent new.agent gave.counts counts;
  }

  of_store : (fault : OpenFault) (answer : Result (Unit {0}) LineRefused) → IfErr answer (IsKnownOf line)
      → MatchResult answer (λ done. ⊥) (λ why. IsStopOf why (Store fault))
      → IsOfFile fault × (answer ≡ Err (refused.Store fault))
  of_store fault (Ok done) known stop = absurd stop
  of_store fault (Err why) known stop = (known.1 fault stop, ap Err stop)

  pub was_stopped : (ending : Served) → WritesAnswer (Err ending) answer number after.reply taken took
      → Stopped tell ending old after number line taken took
  was_stopped Write wrote = record {
    answer = answer;
    is = gave.is;
    few = few;
    text = wrote.0;
    answers = is_answer answer wrote.0 gave.known wrote.1;
    took = wrote.2;
    counts = gave.counts;
  }
  was_stopped (Store fault) wrote =
      let found = of_store fault answer gave.known wrote.0 in
      (record { answer = answer; is = gave.is; few = few; none = wrote.1; counts = gave.counts }, found.0, found.1)
  was_stopped NoMemory wrote = inr (inr (record { answer = answer; is = gave.is; few = few; none = wrote.1; counts = gave.counts }))
  was_stopped Done wrote = absurd (never answer wrote.0)
  was_stopped Device wrote = absurd (never answer wrote.0)
  was_stopped Read wrote = absurd (never answer wrote.0)

-- an ending that a line brings
pub was_of_line : (ending : Served) (answer : Result (Unit {0}) LineRefused) (number : ℕ) (reply : List ℕ)
    (taken took : Option (List ℕ)) → WritesAnswer (Err ending) answer number reply taken took → IsOfLine ending
was_of_line Write answer number reply taken took wrote = tt
was_of_line (Store fault) answer number reply taken took wrote = tt
was_of_line NoMemory answer number reply taken took wrote = tt
was_of_line Done answer number reply taken took wrote = absurd (never answer wrote.0)
was_of_line Device answer number reply taken took wrote = absurd (never answer wrote.0)
was_of_line Read answer number reply taken took wrote = absurd (never answer wrote.0)
