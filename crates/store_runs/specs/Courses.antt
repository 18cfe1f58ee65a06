-- How lines go on over an agent.
-- Source: none; these are the words of the general law.
use Rattle.std.specs.Prelude.{◌≡◌, ℕ, ◌+◌, false, List, [], ◌++◌, Option, Some}
use Rattle.unwinding.specs.Admissible.{History}
use Rattle.unwinding.specs.Course.{Course, course_steps}
use Rattle.unwinding.specs.CourseSteps.{IsOn, course_transcript}
use Rattle.suffix_list.specs.Suffix.{Rule}
use Rattle.script_actions.specs.Action.{PlainAction, PlainStep}
use Rattle.agent_model.specs.Isolation.{text_of}
use Rattle.agent_model.specs.TheMachine.{machine}
use Rattle.durable_model.specs.Histories.{AgentOpening}
use Rattle.durable_model.specs.Keeping.{AgentDurable, keeping}
use Rattle.agent_core.specs.Means.{AgentMay}
use Rattle.agent_core.specs.Seen.{AgentSeen}
use Rattle.printed_model.specs.Histories.{closed_downs, down_reply, restart_reply}
use Rattle.waiting_lines.specs.Waiting.{TakesFront}
use Rattle.store_runs.specs.CutBounds.{MeetsCuts, MeetsToldCuts, fault_places}
use Rattle.store_runs.specs.CutCourses.{KeepsCuts, Moment, faults_on, met_on, places_on}
use Rattle.store_runs.specs.Faults.{RoseBy, faults_of}
use Rattle.store_runs.specs.Runs.{IsLeftWith}
use Rattle.store_runs.specs.declared.ending.Ending.{Ending}

-- ---- courses

-- the agent stands where the course does
unfoldable pub On : List Rule → ℕ → AgentOpening → Course PlainAction → AgentSeen → AgentMay
    → Type 0
On rules batch x r a may = IsOn (machine rules) keeping batch x r a may

-- the text of what has been printed
unfoldable pub text_on : List Rule → AgentOpening → Course PlainAction → List ℕ
text_on rules x r =
    text_of (course_transcript (machine rules) keeping restart_reply down_reply x r)

-- the lines that were answered `down`
unfoldable pub downs_on : Course PlainAction → List PlainStep
downs_on r = closed_downs r.closed ++ r.downs

-- ---- what is watched

-- what is known of faults over some lines: when no call of the disk can fail, when the run goes on
-- after them, the disk's counts of faults before and after them, and what is told then
pub record Watch : Type 1 where
  pub Quiet : Type 0
  pub GoesOn : Type 0
  pub before : ℕ
  pub now : ℕ
  pub from : Moment
  pub to : Moment

-- A course goes on by some lines, which print a text. Where the disk cannot fail, none of them is
-- answered `down`. Since any first count, the disk's rose by all faults that are shown, and where
-- the run goes on by all that were met. The same of cuts, since any that were told first.
pub record Adds (rules : List Rule) (batch : ℕ) (x : AgentOpening) (a b : AgentSeen)
    (r q : Course PlainAction) (ran : List PlainStep) (watch : Watch) (text : List ℕ)
    : Type 0 where
  pub steps : course_steps q ≡ course_steps r ++ ran
  pub prints : text_on rules x q ≡ text_on rules x r ++ text
  pub downs : watch.Quiet → downs_on q ≡ downs_on r
  pub counted : (first : ℕ) → RoseBy (met_on a r) first watch.before
      → RoseBy (faults_on q) first watch.now
  pub met : watch.GoesOn → (first : ℕ) → RoseBy (met_on a r) first watch.before
      → RoseBy (met_on b q) first watch.now
  pub shown : (before : ℕ) (cuts : List ℕ) → KeepsCuts rules batch x before cuts a r watch.from
      → MeetsCuts before cuts (places_on rules batch x q)
  pub cut : watch.GoesOn → (before : ℕ) (cuts : List ℕ)
      → KeepsCuts rules batch x before cuts a r watch.from
      → KeepsCuts rules batch x before cuts b q watch.to

-- what some lines do to every course that the agent stands on
abbrev pub Steps : List Rule → ℕ → List PlainStep → Watch → AgentSeen → AgentMay → AgentSeen
    → AgentMay → List ℕ → Type 0
Steps rules batch ran watch a may b may' text =
    (x : AgentOpening) (r : Course PlainAction) → On rules batch x r a may
    → (q : Course PlainAction) × On rules batch x q b may'
    × Adds rules batch x a b r q ran watch text

-- a restart may find what a history leaves, and nothing else
abbrev pub Leaves : List Rule → ℕ → AgentOpening → AgentMay → (rest : List PlainStep)
    → History PlainAction → Type 0
Leaves rules batch x may rest history =
    (d : AgentDurable) (n : ℕ) → may d n → IsLeftWith rules batch x rest history d

-- and the disk's count rose by the faults of a run that ended so, and each of these was a cut in
-- time, since this was told first
abbrev pub Marks : List Rule → ℕ → AgentOpening → AgentMay → Ending → (before now : ℕ)
    → (from : Moment) → (rest : List PlainStep) → History PlainAction → Type 0
Marks rules batch x may ending before now from rest history =
    Leaves rules batch x may rest history × RoseBy (faults_of ending history) before now
    × MeetsToldCuts (from.calls + from.due) from.cuts from.off
    (fault_places rules batch ending x history)

-- The agent stands on a course of these lines, and of its text the sink took the front, and the
-- rest waits. The disk's count rose by the faults that are shown, and where the run goes on by
-- those that were met; the same of the cuts that were told first.
pub record OnCourse (rules : List Rule) (batch : ℕ) (x : AgentOpening) (a : AgentSeen)
    (may : AgentMay) (steps : List PlainStep) (watch : Watch)
    (before after : Option (List ℕ)) (waiting : List ℕ) : Type 0 where
  pub course : Course PlainAction
  pub on : On rules batch x course a may
  pub runs : course_steps course ≡ steps
  pub downs : watch.Quiet → downs_on course ≡ []
  pub faults : RoseBy (faults_on course) watch.before watch.now
  pub met : watch.GoesOn → RoseBy (met_on a course) watch.before watch.now
  pub shown : MeetsToldCuts (watch.from.calls + watch.from.due) watch.from.cuts watch.from.off
      (places_on rules batch x course)
  pub cut : watch.GoesOn → (cuts : List ℕ) → watch.from.cuts ≡ Some cuts → watch.from.off ≡ false
      → KeepsCuts rules batch x (watch.from.calls + watch.from.due) cuts a course watch.to
  pub text : TakesFront before after (text_on rules x course) waiting
