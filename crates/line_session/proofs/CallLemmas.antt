-- What a list of calls is together.
use Rattle.std.proofs.Common.{◌≡◌, ℕ, ◌+◌, ◌<◌, ◌≤◌, ◌^◌, true, List, [], ◌∷◌, ◌++◌, Option, Some, None, Result, Ok, Err, length, refl, sym, ap, subst, ◌∙◌, append-nil, append_assoc, arith}
use Rattle.std.proofs.lemmas.List.{length-append}
use Rattle.unwinding.specs.Admissible.{History}
use Rattle.disk_model.specs.Disk.{View}
use Rattle.journal.specs.Region.{StandsForState}
use Rattle.suffix_list.specs.Suffix.{Rule}
use Rattle.script_actions.specs.Action.{PlainAction, PlainLine, PlainStep}
use Rattle.script_lines.specs.Grammar.{line_of_bytes}
use Rattle.script_lines.specs.Script.{PlainFault}
use Rattle.durable_model.specs.Histories.{AgentOpening, opened_at}
use Rattle.durable_model.specs.Keeping.{durable_of}
use Rattle.durable_model.specs.Migrate.{IsUnder}
use Rattle.durable_model.specs.Saved.{Saved, nothing_saved}
use Rattle.row_store.specs.Bodies as bodies
use Rattle.agent_core.specs.AgentView.{list_of, may_find, may_of, since_opening}
use Rattle.agent_core.specs.Means.{AgentMay}
use Rattle.printed_model.specs.Histories.{HasSameLines, HasSiteLines}
use Rattle.store_runs.specs.Courses.{Leaves, On, text_on}
use Rattle.store_runs.specs.Openings.{GoesOn}
use Rattle.store_runs.specs.Runs.{LeavesHistory}
use Rattle.store_runs.proofs.LoopLemmas.{cut_off, cut_off_admissible, cut_off_leaves, cut_off_text}
use Rattle.store_runs.proofs.StopLemmas.{goes_then}
use Rattle.line_session.specs.Asked.{asked_by, steps_in}
use Rattle.line_session.specs.Between.{HasCallsBetween}
use Rattle.line_session.specs.Calls.{AreCalls, Began, HasCallsSame, HasCallsSites, HasCallsText, IsHistoryOfCalls, LineCall, TellsCalls, call_steps, call_text, ran_by, steps_of_calls, text_of_calls}
use Rattle.line_session.specs.Left.{HasCallsLeft}
use Rattle.line_session.specs.SessionView.{SessionView}
use Rattle.line_session.specs.StandsFor.{AreTold, StandsFor}
use Rattle.line_session.specs.declared.refused.LineRefused.{LineRefused}
use Rattle.line_session.specs.declared.refused.LineRefused.TheVariants as refused
use Rattle.line_session.proofs.SessionLemmas.{goes_between, goes_nowhere, stands_none, told_still}

-- a line asks for one step at most
few_in : (line : Result (Option PlainLine) PlainFault) → length (steps_in line) ≤ 1
few_in (Ok (Some line)) = omega arith
few_in (Ok None) = omega arith
few_in (Err fault) = omega arith

-- and a call ran no other
few_ran : {T : Type 0} (answer : Result T LineRefused) (asked : List PlainStep) → length asked ≤ 1
    → length (ran_by answer asked) ≤ 1
few_ran (Ok done) asked few = few
few_ran (Err refused.Unprinted) asked few = few
few_ran (Err refused.LineFeed) asked few = omega arith
few_ran (Err refused.TooLong) asked few = omega arith
few_ran (Err refused.NotUtf8) asked few = omega arith
few_ran (Err refused.NotJson) asked few = omega arith
few_ran (Err refused.UnknownAction) asked few = omega arith
few_ran (Err (refused.BadField name)) asked few = omega arith
few_ran (Err refused.BadHeader) asked few = omega arith
few_ran (Err (refused.Store why)) asked few = omega arith
few_ran (Err refused.Owed) asked few = omega arith
few_ran (Err refused.NoMemory) asked few = omega arith

module _ {D : Type 0} (tell : D → View) where
  calls_told : (old new : View) → new.tells ≡ old.tells → (calls : List (LineCall D)) → TellsCalls old calls → TellsCalls new calls
  calls_told old new same [] told = tt
  calls_told old new same (c ∷ cs) told = (told_still old new same (asked_by c.line) told.0, calls_told old new same cs told.1)

  -- calls go on with a history and a text, under one list
  calls_stand : (x : AgentOpening) (calls : List (LineCall D)) (first last : SessionView D) (steps : List PlainStep)
      (text : List ℕ) → StandsFor tell first x steps text → AreCalls tell first last calls
      → TellsCalls (tell first.agent.disk) calls → length steps + length calls + 2 < 2 ^ 64
      → StandsFor tell last x (steps ++ steps_of_calls calls) (text ++ text_of_calls calls)
      × (last.agent.memory.rules ≡ first.agent.memory.rules)
  calls_stand x [] first last steps text stands same told few = (
    subst (λ s. StandsFor tell s x (steps ++ []) (text ++ [])) (sym same)
        (subst (λ ss. StandsFor tell first x ss (text ++ [])) (sym (append-nil steps))
        (subst (StandsFor tell first x steps) (sym (append-nil text)) stands)),
    ap (λ (s : SessionView D). s.agent.memory.rules) same,
  )
  calls_stand x (c ∷ cs) first last steps text stands are told few =
      let goes = are.1 in
      let one : length (call_steps c) ≤ 1 = few_ran c.answer (asked_by c.line) (few_in (line_of_bytes 1 c.line)) in
      let next : StandsFor tell c.new x (steps ++ call_steps c) (text ++ call_text c) =
      goes.means x steps text (subst (λ s. StandsFor tell s x steps text) (sym are.0) stands) (omega (arith, few))
      (subst (λ (s : SessionView D). AreTold (tell s.agent.disk) (asked_by c.line)) (sym are.0) told.0) in
      let still = goes.goes_on.tells ∙ ap (λ (s : SessionView D). (tell s.agent.disk).tells) are.0 in
      let rest = calls_stand x cs c.new last (steps ++ call_steps c) (text ++ call_text c) next are.2
      (calls_told (tell first.agent.disk) (tell c.new.agent.disk) still cs told.1)
      (omega (arith, length-append steps (call_steps c), one, few)) in (
        subst (λ ss. StandsFor tell last x ss (text ++ (call_text c ++ text_of_calls cs)))
            (append_assoc steps (call_steps c) (steps_of_calls cs))
            (subst (StandsFor tell last x ((steps ++ call_steps c) ++ steps_of_calls cs))
            (append_assoc text (call_text c) (text_of_calls cs)) rest.0),
        rest.1 ∙ goes.goes_on.rules ∙ ap (λ (s : SessionView D). s.agent.memory.rules) are.0,
      )

  -- the list, and whether the disk tells its contents, stay
  pub calls_go : (calls : List (LineCall D)) (first last : SessionView D) → AreCalls tell first last calls
      → GoesOn tell first.agent last.agent
  calls_go [] first last same = subst (λ (s : SessionView D). GoesOn tell first.agent s.agent) (sym same)
      (record { rules = refl; digest = refl; batch = refl; checkpoint = refl; tells = refl })
  calls_go (c ∷ cs) first last are = goes_then tell first.agent c.new.agent last.agent
      (subst (λ (s : SessionView D). GoesOn tell s.agent c.new.agent) are.0 are.1.goes_on)
      (calls_go cs c.new last are.2)

  -- no more lines than calls ran
  calls_few : (calls : List (LineCall D)) → length (steps_of_calls calls) ≤ length calls
  calls_few [] = omega arith
  calls_few (c ∷ cs) =
      let one : length (call_steps c) ≤ 1 = few_ran c.answer (asked_by c.line) (few_in (line_of_bytes 1 c.line)) in
      omega (arith, length-append (call_steps c) (steps_of_calls cs), one, calls_few cs)

  module _ (start : ℕ) (saved : Saved) (first last : SessionView D) (calls : List (LineCall D))
      (began : Began tell start saved first last calls) where
    abbrev opening : AgentOpening
    opening = opened_at start saved

    abbrev rules_of_all : List Rule
    rules_of_all = first.agent.memory.rules

    abbrev may_last : AgentMay
    may_last = may_of last.agent (tell last.agent.disk)

    abbrev all_stand : StandsFor tell last opening (steps_of_calls calls) (text_of_calls calls)
        × (last.agent.memory.rules ≡ first.agent.memory.rules)
    all_stand =
        let all = calls_stand opening calls first began.behind [] [] began.begins began.are began.told (omega (arith, began.few)) in (
          stands_none tell began.behind last opening (steps_of_calls calls) (text_of_calls calls) began.ended
              (omega (arith, began.few, calls_few calls)) all.0,
          began.ended.goes_on.rules ∙ all.1,
        )

    -- the replies are the text of a history of the lines, which leaves what may be found
    calls_history : (history : History PlainAction) × IsHistoryOfCalls rules_of_all opening calls history
        × Leaves rules_of_all 1 opening may_last [] history
    calls_history =
        let x = opening in
        let rules = rules_of_all in
        let s = all_stand.0 in
        let same = all_stand.1 in
        let on : On rules 1 x s.course s.seen may_last = subst (λ n. On rules n x s.course s.seen may_last) s.one
        (subst (λ rs. On rs last.agent.batch x s.course s.seen may_last) same s.on) in (
          cut_off rules 1 x s.course,
          record {
            runs = record {
              admissible = cut_off_admissible rules 1 x s.course s.seen may_last on;
              lines = s.lines;
              quiet = λ never. absurd never;
            };
            text = cut_off_text rules 1 x s.course ∙ ap (λ rs. text_on rs x s.course) (sym same) ∙ s.replies;
          },
          cut_off_leaves rules 1 x s.course s.seen may_last on [],
        )

    -- each image that a cut leaves is a store
    left_images : (tell first.agent.disk).tells ≡ true → (history : History PlainAction)
        → Leaves rules_of_all 1 opening may_last [] history
        → LeavesHistory (list_of first.agent) 1 opening (tell last.agent.disk).may_leave [] history
    unfolding may_find
    left_images tells history leaves file image =
        let goes = goes_then tell first.agent began.behind.agent last.agent (calls_go calls first began.behind began.are)
        began.ended.goes_on in
        let store = (all_stand.0.stands.stores (goes.tells ∙ tells) file image).1 in (
          store.0,
          store.1,
          subst (λ digest. StandsForState bodies.Takes nothing_saved digest file store.0 store.1) goes.digest store.2,
          subst (λ rules. IsUnder rules store.0) goes.rules store.3,
          leaves (durable_of store.0) (since_opening store.1 last.agent.opened)
              (file, image, store.0, store.1, store.2, refl, refl),
        )

  pub calls_between : HasCallsBetween tell
  calls_between = record {
    still = λ old new same. goes_nowhere tell old new [] same;
    before = λ old between new asked ran given one two. goes_between tell old between new asked ran given one two;
  }

  pub calls_text : HasCallsText tell
  calls_text start saved first last calls began =
      let all = calls_history start saved first last calls began in
      (all.0, all.1, λ d n left. (all.2 d n left).left)

  pub calls_left : HasCallsLeft tell
  calls_left start saved first last calls began tells =
      let all = calls_history start saved first last calls began in
      (all.0, all.1, left_images start saved first last calls began tells all.0 all.2)

  pub calls_sites : HasSiteLines → HasCallsSites tell
  calls_sites sites start saved first last calls began history is site =
      sites first.agent.memory.rules start saved began.valid history site

  pub calls_same : HasSameLines → HasCallsSame tell
  calls_same same start other_start saved other_saved first last other_first other_last calls other_calls began
      other_began history other is other_is site given =
      same first.agent.memory.rules other_first.agent.memory.rules start other_start saved other_saved began.valid
      other_began.valid history other site given
