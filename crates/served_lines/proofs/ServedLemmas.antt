-- How the lines that were served go on with one more.
use Rattle.std.proofs.Common.{◌≡◌, ⊎_elim, ℕ, ◌+◌, ◌<◌, ◌^◌, ◌==◌, true, false, List, [], ◌∷◌, ◌++◌, length, map, Option, Some, None, IfSome, Result, refl, sym, ap, subst, ◌∙◌, append-nil, append_assoc, arith, length-append}
use Rattle.std.proofs.lemmas.List.{map-append}
use Rattle.std.proofs.lemmas.List.Splits.{slice_split_at, slice_split_none}
use Rattle.agent_base.specs.Streams.{Gives, Takes}
use Rattle.agent_base.proofs.Pieces.{gives_more, takes_append, takes_none}
use Rattle.waiting_lines.proofs.PrefixLemmas.{prefix_after}
use Rattle.unwinding.specs.Admissible.{Acts, Reopens}
use Rattle.disk_model.specs.Disk.{View}
use Rattle.script_actions.specs.Action.{PlainStep}
use Rattle.script_lines.specs.Grammar.{lines_of}
use Rattle.agent_core.specs.AgentView.{owes}
use Rattle.store_runs.specs.FaultCounts.{KeepsCount}
use Rattle.store_runs.proofs.PowerLemmas.{counts_still, counts_then}
use Rattle.line_session.specs.Asked.{asked_by, is_one_line}
use Rattle.line_session.specs.Calls.{AreCalls, IsCall, LineCall, ran_by, text_by}
use Rattle.line_session.specs.SessionView.{SessionView}
use Rattle.line_session.specs.StandsFor.{AreTold, GoesBy, StandsFor}
use Rattle.line_session.specs.declared.refused.LineRefused.{LineRefused}
use Rattle.served_lines.specs.Serving.{AreAnswers, AreServed, IsAnswer, IsServed, Serves}
use Rattle.served_lines.specs.Steps.{Answered, StandsAt, Stopped, Unanswered, call_of}
use Rattle.served_lines.specs.Waiting.{Waits}
use Rattle.served_lines.specs.declared.ending.Served.{Served}
use Rattle.served_lines.specs.declared.ending.Served.TheVariants.{Done, Device, Read, Write, Store, NoMemory}
use Rattle.served_lines.specs.declared.waiting.WaitingLine.{WaitingLine}
use Rattle.served_lines.proofs.WaitingLemmas.{no_feeds}

-- ---- sessions

told_on : (old new : View) → new.tells ≡ old.tells → (steps : List PlainStep) → AreTold old steps → AreTold new steps
told_on old new same [] told = tt
told_on old new same (Acts l ∷ more) told = (tt, told_on old new same more told.1)
told_on old new same (Reopens ∷ more) told = (same ∙ told.0, told_on old new same more told.1)

module _ {D : Type 0} (tell : D → View) where
  -- a session that is as it was
  pub stands_still : (s : SessionView D) (asked : List PlainStep) → GoesBy tell s s asked [] []
  stands_still s asked = record {
    goes_on = record { rules = refl; digest = refl; batch = refl; checkpoint = refl; tells = refl };
    means = λ x steps text stands few told.
        subst (StandsFor tell s x (steps ++ [])) (sym (append-nil text))
        (subst (λ ss. StandsFor tell s x ss text) (sym (append-nil steps)) stands);
  }

  -- a checkpoint was made, and then a line was given
  pub then_given : (a b c : SessionView D) (asked ran : List PlainStep) (given : List ℕ) → GoesBy tell a b [] [] []
      → GoesBy tell b c asked ran given → GoesBy tell a c asked ran given
  then_given a b c asked ran given one two = record {
    goes_on = record {
      rules = two.goes_on.rules ∙ one.goes_on.rules;
      digest = two.goes_on.digest ∙ one.goes_on.digest;
      batch = two.goes_on.batch ∙ one.goes_on.batch;
      checkpoint = two.goes_on.checkpoint ∙ one.goes_on.checkpoint;
      tells = two.goes_on.tells ∙ one.goes_on.tells;
    };
    means = λ x steps text stands few told.
        let between : StandsFor tell b x steps text = subst (StandsFor tell b x steps) (append-nil text)
        (subst (λ ss. StandsFor tell b x ss (text ++ [])) (append-nil steps) (one.means x steps text stands few tt)) in
        two.means x steps text between few (told_on (tell a.agent.disk) (tell b.agent.disk) one.goes_on.tells asked told);
  }

  calls_more : (first last : SessionView D) (calls : List (LineCall D)) (c : LineCall D) → AreCalls tell first last calls
      → c.old ≡ last → IsCall tell c → AreCalls tell first c.new (calls ++ c ∷ [])
  calls_more first last [] c same old is = (old ∙ same, is, refl)
  calls_more first last (d ∷ ds) c are old is = (are.0, are.1, calls_more d.new last ds c are.2 old is)

-- ---- answers

module _ {D : Type 0} where
  answers_more : (number : ℕ) (calls : List (LineCall D)) (c : LineCall D) (text more : List ℕ) → AreAnswers number calls text
      → IsAnswer (number + length calls) c more → AreAnswers number (calls ++ c ∷ []) (text ++ more)
  answers_more number [] c text more none is = (
    more,
    [],
    subst (λ m. IsAnswer m c more) (omega arith) is,
    refl,
    ap (λ t. t ++ more) none ∙ sym (append-nil more),
  )
  answers_more number (d ∷ ds) c text more are is = (
    are.0,
    are.1 ++ more,
    are.2,
    answers_more (number + 1) ds c are.1 more are.3 (subst (λ m. IsAnswer m c more) (omega arith) is),
    ap (λ t. t ++ more) are.4 ∙ append_assoc are.0 are.1 more,
  )

-- ---- lines

pub cut_at_feed : (line later : List ℕ) → is_one_line line ≡ true → lines_of (line ++ 10 ∷ later) ≡ line ∷ lines_of later
cut_at_feed line later one = slice_split_at (λ b. b == 10) line 10 later (no_feeds line one) refl

pub cut_at_end : (line : List ℕ) → is_one_line line ≡ true → lines_of (line ++ []) ≡ line ∷ []
cut_at_end line one = ap lines_of (append-nil line) ∙ slice_split_none (λ b. b == 10) line (no_feeds line one)

gives_none : (a : Option (List ℕ)) → Gives a a []
gives_none None = tt
gives_none (Some a) = refl

-- nothing was served yet
pub begins : {D : Type 0} (tell : D → View) (s : SessionView D) (before taken : Option (List ℕ)) (waiting : WaitingLine)
    → Waits [] waiting → StandsAt tell s s before before taken taken waiting 1 []
begins tell s before taken waiting waits = record {
  bytes = [];
  gave = gives_none before;
  calls = [];
  line = [];
  lines = λ more. refl;
  waits = waits;
  last = s;
  follow = refl;
  tended = stands_still tell s [];
  counts = counts_still tell s.agent;
  few = omega arith;
  count = refl;
  text = [];
  answers = refl;
  takes = takes_none taken;
}

module _ {D : Type 0} (tell : D → View) (first now : SessionView D) (before after taken took : Option (List ℕ))
    (waiting : WaitingLine) (number : ℕ) where
  -- more was read
  pub given : (s : StandsAt tell first now before after taken took waiting number []) (later : Option (List ℕ)) (piece : List ℕ)
      → Gives after later piece → StandsAt tell first now before later taken took waiting number piece
  given s later piece gave = record {
    bytes = s.bytes;
    gave = subst (λ b. Gives before later (b ++ piece)) (append-nil s.bytes)
        (gives_more before after later (s.bytes ++ []) piece s.gave gave);
    calls = s.calls;
    line = s.line;
    lines = s.lines;
    waits = s.waits;
    last = s.last;
    follow = s.follow;
    tended = s.tended;
    counts = s.counts;
    few = s.few;
    count = s.count;
    text = s.text;
    answers = s.answers;
    takes = s.takes;
  }

  -- bytes without a line feed were handled: they wait
  pub pushed : (front rest : List ℕ) (next : WaitingLine)
      (s : StandsAt tell first now before after taken took waiting number (front ++ rest)) → Waits (s.line ++ front) next
      → StandsAt tell first now before after taken took next number rest
  pushed front rest next s waits = record {
    bytes = s.bytes ++ front;
    gave = subst (Gives before after) (sym (append_assoc s.bytes front rest)) s.gave;
    calls = s.calls;
    line = s.line ++ front;
    lines = λ more. ap lines_of (append_assoc s.bytes front more) ∙ s.lines (front ++ more)
        ∙ ap (λ t. map (λ (c : LineCall D). c.line) s.calls ++ lines_of t) (sym (append_assoc s.line front more));
    waits = waits;
    last = s.last;
    follow = s.follow;
    tended = s.tended;
    counts = s.counts;
    few = s.few;
    count = s.count;
    text = s.text;
    answers = s.answers;
    takes = s.takes;
  }

  module _ (unhandled : List ℕ) (s : StandsAt tell first now before after taken took waiting number unhandled) where
    -- no line more was served
    served_none : AreServed tell first now before after s.calls (lines_of (s.line ++ unhandled))
    served_none = record {
      bytes = s.bytes ++ unhandled;
      gave = s.gave;
      lines = s.lines unhandled;
      last = s.last;
      follow = s.follow;
      tended = s.tended;
      counts = s.counts;
      few = s.few;
    }

    pub failed_to_read : Serves tell Read first now before after taken took
    failed_to_read = record {
      calls = s.calls;
      more = [];
      unserved = lines_of (s.line ++ unhandled);
      served = subst (λ cs. AreServed tell first now before after cs (lines_of (s.line ++ unhandled))) (sym (append-nil s.calls)) served_none;
      text = s.text;
      answers = s.answers;
      took = s.takes;
      stops = refl;
    }

    pub wants_memory : (later : Option (List ℕ)) → Takes took later [] → Serves tell NoMemory first now before after taken later
    wants_memory later none = record {
      calls = s.calls;
      more = [];
      unserved = lines_of (s.line ++ unhandled);
      served = subst (λ cs. AreServed tell first now before after cs (lines_of (s.line ++ unhandled))) (sym (append-nil s.calls)) served_none;
      text = s.text;
      answers = s.answers;
      took = subst (Takes taken later) (append-nil s.text) (takes_append taken took later s.text [] s.takes none);
      stops = omega arith;
    }

    -- the line that waits was given
    module _ (new : SessionView D) (answer : Result (Unit {0}) LineRefused) (is : IsCall tell (call_of now new s.line answer))
        (few : number + 2 < 2 ^ 64) where
      abbrev call : LineCall D
      call = record { old = s.last; new = new; line = s.line; answer = answer }

      abbrev calls_then : List (LineCall D)
      calls_then = s.calls ++ call ∷ []

      follows : AreCalls tell first new calls_then
      follows = calls_more tell first s.last s.calls call s.follow refl
          (then_given tell s.last now new (asked_by s.line) (ran_by answer (asked_by s.line)) (text_by answer new.reply) s.tended is)

      few_then : length calls_then + 2 < 2 ^ 64
      few_then = omega (arith, length-append s.calls (call ∷ []), s.count, few)

      lines_then : (rest : List ℕ) (later : List (List ℕ)) → lines_of (s.line ++ rest) ≡ s.line ∷ later
          → lines_of (s.bytes ++ rest) ≡ map (λ (c : LineCall D). c.line) calls_then ++ later
      lines_then rest later cut =
          let line_in : LineCall D → List ℕ = λ c. c.line in
          s.lines rest ∙ ap (λ ls. map line_in s.calls ++ ls) cut
          ∙ sym (append_assoc (map line_in s.calls) (s.line ∷ []) later)
          ∙ ap (λ ls. ls ++ later) (sym (map-append line_in s.calls (call ∷ [])))

      served_one : (end : SessionView D) (later : List (List ℕ)) → GoesBy tell new end [] [] []
          → KeepsCount tell now.agent end.agent → lines_of (s.line ++ unhandled) ≡ s.line ∷ later
          → AreServed tell first end before after calls_then later
      served_one end later tended counts cut = record {
        bytes = s.bytes ++ unhandled;
        gave = s.gave;
        lines = lines_then unhandled later cut;
        last = new;
        follow = follows;
        tended = tended;
        counts = counts_then tell first.agent now.agent end.agent s.counts counts;
        few = few_then;
      }

      answers_then : (text : List ℕ) → IsAnswer number (call_of now new s.line answer) text
          → AreAnswers 1 calls_then (s.text ++ text)
      answers_then text told = answers_more 1 s.calls call s.text text s.answers
          (subst (λ n. IsAnswer n call text) (omega (arith, s.count)) told)

  -- a line was answered, and the next one waits
  pub answered_line : (rest : List ℕ) (s : StandsAt tell first now before after taken took waiting number (10 ∷ rest))
      (new : SessionView D) (later : Option (List ℕ)) (next : WaitingLine) (next_number : ℕ)
      → Answered tell now new number s.line took later → Waits [] next → next_number ≡ number + 1
      → StandsAt tell first new before after taken later next next_number rest
  answered_line rest s new later next next_number a waits counted =
      let u = 10 ∷ rest in
      let c = a.called in
      record {
        bytes = s.bytes ++ 10 ∷ [];
        gave = subst (Gives before after) (sym (append_assoc s.bytes (10 ∷ []) rest)) s.gave;
        calls = calls_then u s a.after c.answer c.is c.few;
        line = [];
        lines = λ more. ap lines_of (append_assoc s.bytes (10 ∷ []) more)
            ∙ lines_then u s a.after c.answer c.is c.few (10 ∷ more) (lines_of more) (cut_at_feed s.line more s.waits.one);
        waits = waits;
        last = a.after;
        follow = follows u s a.after c.answer c.is c.few;
        tended = a.tended;
        counts = counts_then tell first.agent now.agent new.agent s.counts a.counts;
        few = few_then u s a.after c.answer c.is c.few;
        count = omega (arith, counted, s.count, length-append s.calls (call u s a.after c.answer c.is c.few ∷ []));
        text = s.text ++ c.text;
        answers = answers_then u s a.after c.answer c.is c.few c.text c.answers;
        takes = takes_append taken took later s.text c.text s.takes c.took;
      }

  -- the last line was answered
  pub answered_last : (s : StandsAt tell first now before after taken took waiting number []) (new : SessionView D)
      (later : Option (List ℕ)) → Answered tell now new number s.line took later → IfSome after (λ rest. rest ≡ [])
      → owes new.agent ≡ false → IsServed tell first new before after taken later
  answered_last s new later a ended tidy =
      let c = a.called in
      record {
        calls = calls_then [] s a.after c.answer c.is c.few;
        served = served_one [] s a.after c.answer c.is c.few new [] a.tended a.counts (cut_at_end s.line s.waits.one);
        ended = ended;
        text = s.text ++ c.text;
        answers = answers_then [] s a.after c.answer c.is c.few c.text c.answers;
        takes = takes_append taken took later s.text c.text s.takes c.took;
        tidy = tidy;
      }

  -- serving ended at the line that waits
  pub stopped_line : (unhandled : List ℕ) (s : StandsAt tell first now before after taken took waiting number unhandled)
      (new : SessionView D) (later : Option (List ℕ)) (behind : List (List ℕ))
      → lines_of (s.line ++ unhandled) ≡ s.line ∷ behind → (ending : Served)
      → Stopped tell ending now new number s.line took later → Serves tell ending first new before after taken later
  stopped_line u s new later behind cut Write c = record {
    calls = calls_then u s new c.answer c.is c.few;
    more = [];
    unserved = behind;
    served = subst (λ cs. AreServed tell first new before after cs behind) (sym (append-nil (calls_then u s new c.answer c.is c.few)))
        (served_one u s new c.answer c.is c.few new behind (stands_still tell new []) c.counts cut);
    text = s.text ++ c.text;
    answers = answers_then u s new c.answer c.is c.few c.text c.answers;
    took = prefix_after taken took later s.text c.text s.takes c.took;
    stops = refl;
  }
  stopped_line u s new later behind cut (Store why) stop =
      let c = stop.0 in
      record {
        calls = s.calls;
        more = call u s new c.answer c.is c.few ∷ [];
        unserved = behind;
        served = served_one u s new c.answer c.is c.few new behind (stands_still tell new []) c.counts cut;
        text = s.text;
        answers = s.answers;
        took = subst (Takes taken later) (append-nil s.text) (takes_append taken took later s.text [] s.takes c.none);
        stops = (refl, stop.1, stop.2);
      }
  stopped_line u s new later behind cut NoMemory stop = ⊎_elim
      (λ nothing. subst (λ x. Serves tell NoMemory first x before after taken later) (sym nothing.0)
      (wants_memory u s later nothing.1))
      (λ given. ⊎_elim
      (λ (a : Answered tell now new number s.line took later). record {
        calls = calls_then u s a.after a.called.answer a.called.is a.called.few;
        more = [];
        unserved = behind;
        served = subst (λ cs. AreServed tell first new before after cs behind)
            (sym (append-nil (calls_then u s a.after a.called.answer a.called.is a.called.few)))
            (served_one u s a.after a.called.answer a.called.is a.called.few new behind a.tended a.counts cut);
        text = s.text ++ a.called.text;
        answers = answers_then u s a.after a.called.answer a.called.is a.called.few a.called.text a.called.answers;
        took = takes_append taken took later s.text a.called.text s.takes a.called.took;
        stops = omega arith;
      })
      (λ (c : Unanswered tell now new number s.line took later). record {
        calls = s.calls;
        more = call u s new c.answer c.is c.few ∷ [];
        unserved = behind;
        served = served_one u s new c.answer c.is c.few new behind (stands_still tell new []) c.counts cut;
        text = s.text;
        answers = s.answers;
        took = subst (Takes taken later) (append-nil s.text) (takes_append taken took later s.text [] s.takes c.none);
        stops = omega arith;
      })
      given)
      stop
  stopped_line u s new later behind cut Done stop = absurd stop
  stopped_line u s new later behind cut Device stop = absurd stop
  stopped_line u s new later behind cut Read stop = absurd stop
