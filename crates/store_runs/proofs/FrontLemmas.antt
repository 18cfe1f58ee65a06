-- The lines in front of the first restart, of a run over a disk that may tell nothing.
use Rattle.std.proofs.Common.{◌≡◌, ◌⊎◌, inl, inr, ⊎_elim, ℕ, ◌+◌, ◌<◌, true, List, [], ◌∷◌, ◌++◌, Option, length, refl, sym, ap, subst, ◌∙◌, append-nil, append_assoc, length-append, arith}
use Rattle.std.proofs.lemmas.List.{nil_from_length}
use Rattle.agent_base.specs.Streams.{Takes, TakesPrefix}
use Rattle.unwinding.specs.Admissible.{Acts, History, Reopens}
use Rattle.disk_model.specs.Disk.{View}
use Rattle.suffix_list.specs.Suffix.{Rule}
use Rattle.script_actions.specs.Action.{PlainAction, PlainStep}
use Rattle.durable_model.specs.Histories.{AgentOpening}
use Rattle.printed_model.specs.Histories.{IsHistoryOf}
use Rattle.agent_core.specs.AgentView.{AgentView, may_of}
use Rattle.agent_core.specs.Seen.{AgentSeen, IsSeen}
use Rattle.waiting_lines.specs.Waiting.{TakesFront}
use Rattle.waiting_lines.proofs.PrefixLemmas.{front_end, front_more, front_part, front_then, prefix_all}
use Rattle.store_runs.specs.Calls.{Stops, ToldAt, Unsettled, over_run}
use Rattle.store_runs.specs.Closing.{Closes}
use Rattle.store_runs.specs.Fronts.{Began, HasNoRestart, LeavesCount, TakesBy, WritesFirst, WritesFront}
use Rattle.store_runs.specs.Runs.{HasNoCuts, Stopped}
use Rattle.store_runs.specs.Waiting.{Ended}
use Rattle.store_runs.specs.declared.ending.Ending.{Ending}
use Rattle.store_runs.specs.declared.ending.Ending.TheVariants.{Done, Device, Store, Write, Memory}
use Rattle.store_runs.proofs.EndLemmas.{ended_done}
use Rattle.store_runs.proofs.LoopLemmas.{course_began}
use Rattle.store_runs.proofs.StopLemmas.{StandsOn, Wrote, count_wrote, writes_other}

-- ---- lists

-- the front of a list and what stands before an item of it: one begins with the other
split_at : {A : Type 0} (xs ys front rest : List A) (a : A) → xs ++ ys ≡ front ++ a ∷ rest
    → ((left : List A) × (front ≡ xs ++ left)) ⊎ ((mid : List A) × (xs ≡ front ++ a ∷ mid))
split_at [] ys front rest a is = inl (front, refl)
split_at (x ∷ xs) ys [] rest a is = inr (xs, ap (λ y. y ∷ xs) (head is))
  where
    head : x ∷ (xs ++ ys) ≡ a ∷ rest → x ≡ a
    head e = cc
split_at (x ∷ xs) ys (f ∷ front) rest a is = ⊎_elim
    (λ found. inl (found.0, ap (λ y. y ∷ front) (sym (head is)) ∙ ap (λ zs. x ∷ zs) found.1))
    (λ found. inr (found.0, ap (λ y. y ∷ xs) (head is) ∙ ap (λ zs. f ∷ zs) found.1))
    (split_at xs ys front rest a (tail is))
  where
    head : x ∷ (xs ++ ys) ≡ f ∷ (front ++ a ∷ rest) → x ≡ f
    head e = cc

    tail : x ∷ (xs ++ ys) ≡ f ∷ (front ++ a ∷ rest) → xs ++ ys ≡ front ++ a ∷ rest
    tail e = cc

-- the same where one item more stands behind the front
split_last : {A : Type 0} (xs front rest : List A) (b a : A) → xs ++ b ∷ [] ≡ front ++ a ∷ rest
    → (front ≡ xs) ⊎ ((mid : List A) × (xs ≡ front ++ a ∷ mid))
split_last xs front rest b a is = ⊎_elim
    (λ found. inl (found.1 ∙ ap (λ left. xs ++ left) (nil_from_length found.0 (omega (
      arith,
      ap length is,
      length-append xs (b ∷ []),
      length-append front (a ∷ rest),
      ap length found.1,
      length-append xs found.0,
    ))) ∙ append-nil xs))
    (λ found. inr found)
    (split_at xs (b ∷ []) front rest a is)

-- nothing stands in front of all of a list
never_longer : {A : Type 0} (xs front rest left : List A) (a : A) → xs ≡ front ++ a ∷ rest → front ≡ xs ++ left → ⊥
never_longer xs front rest left a is longer = omega (
  arith,
  ap length is,
  length-append front (a ∷ rest),
  ap length longer,
  length-append xs left,
)

-- ---- lines that act

pub acts_front : (xs ys : List PlainStep) → HasNoRestart (xs ++ ys) → HasNoRestart xs
acts_front [] ys none = tt
acts_front (Acts l ∷ xs) ys none = acts_front xs ys none
acts_front (Reopens ∷ xs) ys none = absurd none

acts_behind : (xs ys : List PlainStep) → HasNoRestart (xs ++ ys) → HasNoRestart ys
acts_behind [] ys none = none
acts_behind (Acts l ∷ xs) ys none = acts_behind xs ys none
acts_behind (Reopens ∷ xs) ys none = absurd none

-- a disk tells its contents, or no line opens its store again
abbrev pub Told : View → List PlainStep → Type 0
Told view steps = (view.tells ≡ true) ⊎ HasNoRestart steps

pub told_front : (view : View) (xs ys : List PlainStep) → Told view (xs ++ ys) → Told view xs
told_front view xs ys (inl tells) = inl tells
told_front view xs ys (inr none) = inr (acts_front xs ys none)

told_step : (view : View) (step : PlainStep) → Told view (step ∷ []) → ToldAt step view
told_step view (Acts l) told = tt
told_step view Reopens (inl tells) = tells
told_step view Reopens (inr none) = absurd none

-- so the last of some lines is known
pub told_last : (first view : View) (xs : List PlainStep) (step : PlainStep) → view.tells ≡ first.tells
    → Told first (xs ++ step ∷ []) → ToldAt step view
told_last first view xs step same (inl tells) = told_step view step (inl (same ∙ tells))
told_last first view xs step same (inr none) = told_step view step (inr (acts_behind xs (step ∷ []) none))

-- ---- what was taken

-- all of a text, however a run ended
takes_by : (ending : Ending) (before after : Option (List ℕ)) (text : List ℕ) → Takes before after text → TakesBy ending before after text
takes_by Done before after text took = took
takes_by Device before after text took = took
takes_by (Store why) before after text took = prefix_all before after text took
takes_by Write before after text took = prefix_all before after text took
takes_by Memory before after text took = prefix_all before after text took

-- what waited was written, or writing it failed
pub ended_by : (first out later : Option (List ℕ)) (asked answered : Ending) (count rose : ℕ) (waiting : List ℕ)
    → Ended asked answered out later count rose waiting → (text : List ℕ) → TakesFront first out text waiting
    → TakesBy answered first later text
ended_by first out later asked answered count rose waiting ended text front = ⊎_elim
    (λ ok. takes_by answered first later text (front_end first out later text waiting front ok.1.0))
    (λ fault. subst (λ e. TakesBy e first later text) (sym fault.0) (front_part first out later text waiting front fault.1.0))
    ended

-- the same where the run stops between two lines
pub unsettled_by : {D : Type 0} (tell : D → View) (old new : AgentView D) (first out later : Option (List ℕ)) (count rose : ℕ)
    (waiting : List ℕ) (ending : Ending) → Unsettled tell old new out later count rose waiting ending → (text : List ℕ)
    → TakesFront first out text waiting → TakesBy ending first later text
unsettled_by tell old new first out later count rose waiting Write stops text front =
    front_part first out later text waiting front stops.0
unsettled_by tell old new first out later count rose waiting Memory stops text front =
    prefix_all first later text (front_end first out later text waiting front stops.0)
unsettled_by tell old new first out later count rose waiting Done stops text front = absurd stops
unsettled_by tell old new first out later count rose waiting Device stops text front = absurd stops
unsettled_by tell old new first out later count rose waiting (Store why) stops text front = absurd stops

-- and behind the last line
pub closed_by : {D : Type 0} (tell : D → View) (here new : AgentView D) (first out later : Option (List ℕ))
    (asking asked answered : Ending) (count rose : ℕ) (waits : List ℕ) → Ended asking asked out later count rose waits
    → Closes tell here new asked answered → (text : List ℕ) → TakesFront first out text waits → TakesBy answered first later text
closed_by tell here new first out later asking asked answered count rose waits ended closes text front = ⊎_elim
    (λ same. subst (λ e. TakesBy e first later text) (sym same.0)
    (ended_by first out later asking asked count rose waits ended text front))
    (λ last. takes_by answered first later text (front_end first out later text waits front
    (ended_done asking asked out later count rose waits ended last.0).1))
    closes

-- ---- a history with something free behind its text

began_by : (rules : List Rule) (batch : ℕ) (x : AgentOpening) (NoCuts : Type 0) (steps : List PlainStep) (P Q : List ℕ → Type 0)
    (more : List ℕ) → ((text : List ℕ) → P text → Q (text ++ more)) → Began rules batch x NoCuts steps P → Began rules batch x NoCuts steps Q
began_by rules batch x NoCuts steps P Q more how began = record {
  history = began.history;
  «is» = began.«is»;
  lost = began.lost;
  more = began.more ++ more;
  text = subst Q (append_assoc _ began.more more) (how _ began.text);
}

began_same : (rules : List Rule) (batch : ℕ) (x : AgentOpening) (NoCuts : Type 0) (steps : List PlainStep) (P Q : List ℕ → Type 0)
    → ((text : List ℕ) → P text → Q text) → Began rules batch x NoCuts steps P → Began rules batch x NoCuts steps Q
began_same rules batch x NoCuts steps P Q how began = record {
  history = began.history;
  «is» = began.«is»;
  lost = began.lost;
  more = began.more;
  text = how _ began.text;
}

-- by the ending of a run that was not stopped in these lines
began_front : (rules : List Rule) (batch : ℕ) (x : AgentOpening) (NoCuts : Type 0) (front : List PlainStep)
    (ending : Ending) (before after : Option (List ℕ)) → Began rules batch x NoCuts front (TakesBy ending before after)
    → WritesFront ending rules batch x NoCuts front before after
began_front rules batch x NoCuts front Done before after began = began
began_front rules batch x NoCuts front Device before after began = began
began_front rules batch x NoCuts front (Store why) before after began = began
began_front rules batch x NoCuts front Write before after began = inr began
began_front rules batch x NoCuts front Memory before after began = inr began

-- ---- by other words for a disk without cuts, and for what is left

module _ (rules : List Rule) (batch checkpoint : ℕ) (x : AgentOpening) (P Q : Type 0)
    (L M : List PlainStep → History PlainAction → Type 0) (how : P → Q)
    (left : (rest : List PlainStep) (h : History PlainAction) → L rest h → M rest h)
    (before after : Option (List ℕ)) where
  quiet_by : (steps : List PlainStep) (history : History PlainAction)
      → IsHistoryOf rules batch x Q steps history → IsHistoryOf rules batch x P steps history
  quiet_by steps history is = record { admissible = is.admissible; lines = is.lines; quiet = λ p. is.quiet (how p) }

  other_began : (front : List PlainStep) (Holds : List ℕ → Type 0) → Began rules batch x Q front Holds → Began rules batch x P front Holds
  other_began front Holds began = record {
    history = began.history;
    «is» = quiet_by front began.history began.«is»;
    lost = began.lost;
    more = began.more;
    text = began.text;
  }

  other_stop : (front : List PlainStep) → Stopped rules batch x Q front before after (λ rest history. Unit {0})
      → Stopped rules batch x P front before after (λ rest history. Unit {0})
  other_stop front stopped = record {
    front = stopped.front;
    rest = stopped.rest;
    parts = stopped.parts;
    history = stopped.history;
    «is» = quiet_by stopped.front stopped.history stopped.«is»;
    whole = stopped.whole;
    text = stopped.text;
    left = tt;
  }

  front_other : (ending : Ending) (front : List PlainStep) → WritesFront ending rules batch x Q front before after
      → WritesFront ending rules batch x P front before after
  front_other Done front written = other_began front (TakesBy Done before after) written
  front_other Device front written = other_began front (TakesBy Device before after) written
  front_other (Store why) front written = other_began front (TakesBy (Store why) before after) written
  front_other Write front written =
      ⊎_elim (λ s. inl (other_stop front s)) (λ b. inr (other_began front (TakesBy Write before after) b)) written
  front_other Memory front written =
      ⊎_elim (λ s. inl (other_stop front s)) (λ b. inr (other_began front (TakesBy Memory before after) b)) written

  pub first_other : (ending : Ending) (steps : List PlainStep)
      → WritesFirst ending rules batch checkpoint x Q steps before after L
      → WritesFirst ending rules batch checkpoint x P steps before after M
  first_other ending steps written = (
    (λ none. writes_other rules batch checkpoint x P Q L M how left before after ending steps (written.0 none)),
    (λ front rest acts is. front_other ending front (written.1 front rest acts is)),
  )

-- a stopped run, whatever it leaves
stopped_any : (rules : List Rule) (batch : ℕ) (x : AgentOpening) (NoCuts : Type 0) (front : List PlainStep)
    (before after : Option (List ℕ)) (Left : List PlainStep → History PlainAction → Type 0) → Stopped rules batch x NoCuts front before after Left
    → Stopped rules batch x NoCuts front before after (λ rest history. Unit {0})
stopped_any rules batch x NoCuts front before after Left stopped = record {
  front = stopped.front;
  rest = stopped.rest;
  parts = stopped.parts;
  history = stopped.history;
  «is» = stopped.«is»;
  whole = stopped.whole;
  text = stopped.text;
  left = tt;
}

-- ---- a run of an agent that was just opened

module _ {D : Type 0} (tell : D → View) (agent : AgentView D) (x : AgentOpening) (first : Option (List ℕ)) where
  -- a run that was stopped in these lines
  stopped_front : (front : List PlainStep) (ending : Ending) (later : Option (List ℕ)) (v : AgentView D)
      → (ending ≡ Memory) ⊎ (ending ≡ Write) → Wrote tell agent x first front ending later v
      → WritesFront ending agent.memory.rules agent.batch x (HasNoCuts (tell agent.disk)) front first later
  stopped_front front ending later v (inl is) wrote =
      subst (λ e. WritesFront e agent.memory.rules agent.batch x (HasNoCuts (tell agent.disk)) front first later) (sym is)
      (inl (stopped_any agent.memory.rules agent.batch x (HasNoCuts (tell agent.disk)) front first later _
      (subst (λ e. Wrote tell agent x first front e later v) is wrote)))
  stopped_front front ending later v (inr is) wrote =
      subst (λ e. WritesFront e agent.memory.rules agent.batch x (HasNoCuts (tell agent.disk)) front first later) (sym is)
      (inl (stopped_any agent.memory.rules agent.batch x (HasNoCuts (tell agent.disk)) front first later _
      (subst (λ e. Wrote tell agent x first front e later v) is wrote)))

  -- of the lines in front of each restart so far the text was written, or waits
  abbrev pub Fronts : List PlainStep → Option (List ℕ) → List ℕ → Type 0
  Fronts ran out waiting = (front rest : List PlainStep) → HasNoRestart front → ran ≡ front ++ Reopens ∷ rest
      → Began agent.memory.rules agent.batch x (HasNoCuts (tell agent.disk)) front (λ text. TakesFront first out text waiting)

  pub fronts_none : (out : Option (List ℕ)) (waiting : List ℕ) → Fronts [] out waiting
  fronts_none out waiting front rest acts is = absurd (none front is)
    where
      none : (front : List PlainStep) → [] ≡ front ++ Reopens ∷ rest → ⊥
      none [] e = cc
      none (f ∷ front) e = cc

  -- where a line comes that may be a restart
  pub fronts_next : (v : AgentView D) (ran : List PlainStep) (step : PlainStep) (out : Option (List ℕ)) (waiting : List ℕ)
      → (HasNoRestart ran → StandsOn tell agent x first v ran out waiting) → Fronts ran out waiting
      → Fronts (ran ++ step ∷ []) out waiting
  fronts_next v ran step out waiting stands fronts front rest acts is = ⊎_elim
      (λ same. subst (λ lines. Began agent.memory.rules agent.batch x (HasNoCuts (tell agent.disk)) lines
      (λ text. TakesFront first out text waiting)) (sym same) (here (stands (subst HasNoRestart same acts))))
      (λ found. fronts front found.0 acts found.1)
      (split_last ran front rest step Reopens is)
    where
      here : StandsOn tell agent x first v ran out waiting
          → Began agent.memory.rules agent.batch x (HasNoCuts (tell agent.disk)) ran (λ text. TakesFront first out text waiting)
      here on = course_began agent.memory.rules agent.batch x (over_run tell agent v (Unit {0})) on.0
          (may_of v (tell v.disk)) ran first out waiting on.3

  -- where more waits
  pub fronts_more : (ran : List PlainStep) (out : Option (List ℕ)) (waiting now more : List ℕ) → now ≡ waiting ++ more
      → Fronts ran out waiting → Fronts ran out now
  fronts_more ran out waiting now more is fronts front rest acts same =
      began_by agent.memory.rules agent.batch x (HasNoCuts (tell agent.disk)) front (λ text. TakesFront first out text waiting)
      (λ text. TakesFront first out text now) more
      (λ text took. subst (TakesFront first out (text ++ more)) (sym is) (front_more first out out text waiting took more))
      (fronts front rest acts same)

  -- where some of what waits was written
  pub fronts_written : (ran : List PlainStep) (out later : Option (List ℕ)) (waiting rest : List ℕ) → TakesFront out later waiting rest
      → Fronts ran out waiting → Fronts ran later rest
  fronts_written ran out later waiting rest took fronts front behind acts same =
      began_same agent.memory.rules agent.batch x (HasNoCuts (tell agent.disk)) front (λ text. TakesFront first out text waiting)
      (λ text. TakesFront first later text rest)
      (λ text front. front_then first out later text waiting front rest took) (fronts front behind acts same)

  -- so what a run wrote that ended so: after these lines, with the rest behind them
  pub writes_first : (all ran behind : List PlainStep) (ending : Ending) (out later : Option (List ℕ)) (waiting : List ℕ)
      (v : AgentView D) → all ≡ ran ++ behind
      → (HasNoRestart all → Wrote tell agent x first all ending later v)
      → ((front rest left : List PlainStep) → HasNoRestart front → all ≡ front ++ Reopens ∷ rest → front ≡ ran ++ left
      → WritesFront ending agent.memory.rules agent.batch x (HasNoCuts (tell agent.disk)) front first later)
      → Fronts ran out waiting → ((text : List ℕ) → TakesFront first out text waiting → TakesBy ending first later text)
      → WritesFirst ending agent.memory.rules agent.batch agent.checkpoint x (HasNoCuts (tell agent.disk)) all first later
      (LeavesCount ending (tell agent.disk) (tell v.disk))
  writes_first all ran behind ending out later waiting v parts whole within fronts took = (
    (λ none. count_wrote tell agent x first all ending later v (whole none)),
    (λ front rest acts is. ⊎_elim
        (λ found. within front rest found.0 acts is found.1)
        (λ found. began_front agent.memory.rules agent.batch x (HasNoCuts (tell agent.disk)) front ending first later
        (began_same agent.memory.rules agent.batch x (HasNoCuts (tell agent.disk)) front
        (λ text. TakesFront first out text waiting) (TakesBy ending first later) took (fronts front found.0 acts found.1)))
        (split_at ran behind front rest Reopens (sym parts ∙ is))),
  )

  -- no restart stands behind all lines
  pub none_within : (all : List PlainStep) (ending : Ending) (later : Option (List ℕ)) → (front rest left : List PlainStep)
      → HasNoRestart front → all ≡ front ++ Reopens ∷ rest → front ≡ all ++ left
      → WritesFront ending agent.memory.rules agent.batch x (HasNoCuts (tell agent.disk)) front first later
  none_within all ending later front rest left acts is longer = absurd (never_longer all front rest left Reopens is longer)

  -- a run that stopped at a line
  pub stopped_within : (old new : AgentView D) (step : PlainStep) (b : AgentSeen) (front : List PlainStep) (asked answered : Ending)
      (out later : Option (List ℕ)) (count rose : ℕ) (waiting : List ℕ) → Stops tell old new step asked
      → ToldAt step (tell old.disk) → IsSeen old (tell old.disk) b → Ended asked answered out later count rose waiting
      → Wrote tell agent x first front answered later new
      → WritesFront answered agent.memory.rules agent.batch x (HasNoCuts (tell agent.disk)) front first later
  stopped_within old new step b front Memory answered out later count rose waiting stops told seen ended wrote =
      stopped_front front answered later new (⊎_elim (λ ok. inl ok.0) (λ fault. inr fault.0) ended) wrote
  stopped_within old new step b front (Store why) answered out later count rose waiting stops told seen ended wrote =
      absurd (stops.1 told b seen)
  stopped_within old new step b front Done answered out later count rose waiting stops told seen ended wrote = absurd stops
  stopped_within old new step b front Device answered out later count rose waiting stops told seen ended wrote = absurd stops
  stopped_within old new step b front Write answered out later count rose waiting stops told seen ended wrote = absurd stops

  -- or behind one
  pub unsettled_within : (front : List PlainStep) (old new : AgentView D) (out later : Option (List ℕ)) (count rose : ℕ)
      (waiting : List ℕ) (ending : Ending) → Unsettled tell old new out later count rose waiting ending
      → Wrote tell agent x first front ending later new
      → WritesFront ending agent.memory.rules agent.batch x (HasNoCuts (tell agent.disk)) front first later
  unsettled_within front old new out later count rose waiting Write stops wrote = stopped_front front Write later new (inr refl) wrote
  unsettled_within front old new out later count rose waiting Memory stops wrote = stopped_front front Memory later new (inl refl) wrote
  unsettled_within front old new out later count rose waiting Done stops wrote = absurd stops
  unsettled_within front old new out later count rose waiting Device stops wrote = absurd stops
  unsettled_within front old new out later count rose waiting (Store why) stops wrote = absurd stops
