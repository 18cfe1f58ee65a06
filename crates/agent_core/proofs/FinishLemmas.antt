-- How the commit of an open batch ends.
use Rattle.std.proofs.Common.{◌≡◌, ℕ, ◌+◌, ◌%◌, ◌^◌, ◌≤◌, true, List, [], map, Vec, Global, refl, sym, subst, ◌∙◌}
use Rattle.disk_model.specs.Disk.{LeavesOnly, View}
use Rattle.disk_model.specs.DiskLaws.{IsLawful}
use Rattle.journal.specs.Journal.{JournalView}
use Rattle.open_store.specs.Commits.{BodyLeads, IsEither}
use Rattle.reply_lines.specs.Plain.{reply_of}
use Rattle.reply_lines.specs.declared.reply.Reply.{Reply}
use Rattle.durable_model.specs.Laws.{ChangesKeepValid}
use Rattle.durable_model.specs.RowEdits.{after_all}
use Rattle.durable_model.specs.Saved.{Saved, nothing_saved}
use Rattle.row_store.specs.Bodies.{Takes}
use Rattle.row_store.specs.Laws.{EditsKeepSpelledUnder, EditsKeepStorable, WrittenBodiesMean}
use Rattle.row_store.specs.MigrateLaws.{SpelledStays}
use Rattle.row_opening.specs.Opened.{IsAtBase, LeavesUnder}
use Rattle.agent_memory.specs.AgentState.{AgentState}
use Rattle.agent_core.specs.AgentView.{AgentView, may_find, may_of}
use Rattle.agent_core.specs.Batch.{PlainBatch}
use Rattle.agent_core.specs.Means.{IsBeforeOrAfter}
use Rattle.agent_core.specs.Seen.{AgentSeen, IsUp}
use Rattle.agent_core.specs.Standing.{Finishes, IsHeld}
use Rattle.agent_core.specs.declared.agent.Power.{Power}
use Rattle.agent_core.specs.declared.agent.Power.TheVariants.{Down, Up}
use Rattle.agent_core.specs.declared.outcome.Outcome.TheVariants as outcome
use Rattle.agent_core.proofs.CommitLemmas.{batch_leads, committed_seen, count_after, failed_may, failed_stores, held_of, moments_after, state_after, twice, under_after}
use Rattle.agent_core.proofs.SeenLemmas.{from_parts}

-- what each moment of a commit leaves, whatever the store stands for
abbrev pub Leaves : JournalView → View → View → List ℕ → ℕ → Type 0
Leaves j v w body changes =
    (base next : Saved) → IsAtBase j v base
    → BodyLeads Takes base body changes next → v.tells ≡ true
    → LeavesOnly v w
    (IsEither Takes nothing_saved j.digest base j.changes next
    ((j.changes + changes) % 2 ^ 64))

-- what a commit makes of what the store stands for
abbrev pub Commits : JournalView → JournalView → View → View → List ℕ → ℕ → Type 0
Commits j j' v w body changes =
    (base next : Saved) → IsAtBase j v base
    → BodyLeads Takes base body changes next
    → IsAtBase j' w next × (j'.changes % 2 ^ 64 ≡ (j.changes + changes) % 2 ^ 64)

-- the same of what the body and the number are
pub leaves_same : (j : JournalView) (v w : View) (body given : List ℕ) (changes count : ℕ)
    → given ≡ body → count ≡ changes → Leaves j v w given count → Leaves j v w body changes
leaves_same j v w body given changes count is same leaves =
    subst (λ (n : ℕ). Leaves j v w body n) same
    (subst (λ (b : List ℕ). Leaves j v w b count) is leaves)

pub commits_same : (j j' : JournalView) (v w : View) (body given : List ℕ) (changes count : ℕ)
    → given ≡ body → count ≡ changes → Commits j j' v w given count
    → Commits j j' v w body changes
commits_same j j' v w body given changes count is same done =
    subst (λ (n : ℕ). Commits j j' v w body n) same
    (subst (λ (b : List ℕ). Commits j j' v w b count) is done)

pub finish_moments : {D : Type 0} (x : AgentView D) (v w : View) (ran : AgentSeen)
    → WrittenBodiesMean → EditsKeepStorable → EditsKeepSpelledUnder → SpelledStays
    → IsHeld x v ran → Leaves x.journal v w x.body x.changes
    → v.tells ≡ true → LeavesOnly v w (IsBeforeOrAfter x.memory.rules x.journal.digest ran ran)
finish_moments x v w ran law storable spelled stays held leaves tells =
    moments_after x v ran held w (after_all held.base ran.pending)
    ((x.journal.changes + x.changes) % 2 ^ 64) (under_after x v ran held storable spelled stays)
    (state_after x v ran held)
    (leaves held.base (after_all held.base ran.pending) held.store
    (batch_leads x v ran held law) tells)

module _ {D : Type 0} (m : AgentState) (now : ℕ) (b : PlainBatch) (j j' : JournalView)
    (opened checkpoint : ℕ) (power : Power) (disk disk' : D) (v w : View) (ran : AgentSeen)
    (law : WrittenBodiesMean) (storable : EditsKeepStorable) (spelled : EditsKeepSpelledUnder)
    (stays : SpelledStays) (up : IsUp (from_parts m now b j opened checkpoint power disk) v ran) where
  here : Leaves j v w b.body b.changes → v.tells ≡ true
      → LeavesOnly v w
      (IsEither Takes nothing_saved j.digest up.base j.changes
      (after_all up.base ran.pending) ((j.changes + b.changes) % 2 ^ 64))
  here leaves tells =
      leaves up.base (after_all up.base ran.pending) up.store
      (batch_leads (from_parts m now b j opened checkpoint power disk) v ran
      (held_of (from_parts m now b j opened checkpoint power disk) v ran up) law) tells

  pub finish_failed : Leaves j v w b.body b.changes → IsLawful v → IsLawful w → w.tells ≡ v.tells
      → j'.digest ≡ j.digest
      → Finishes m.rules now ran (may_of (from_parts m now b j opened checkpoint power disk) v)
      (from_parts m now b j' opened checkpoint Down disk') w
      (may_of (from_parts m now b j' opened checkpoint Down disk') w) outcome.Down
  finish_failed leaves before after tells digest =
      let x = from_parts m now b j opened checkpoint power disk in
      let next = after_all up.base ran.pending in
      let later = (j.changes + b.changes) % 2 ^ 64 in
      let under = under_after x v ran (held_of x v ran up) storable spelled stays in
      let state = state_after x v ran (held_of x v ran up) in
      let count = count_after x v ran up later (twice (j.changes + b.changes)) in (
        refl,
        refl,
        subst (λ (d : List ℕ). LeavesUnder (record { rules = m.rules; digest = d }) w)
            (sym digest)
            (failed_stores x v ran up w before after tells next later under state count
            (here leaves)),
        λ d n left.
            failed_may x v ran up w before after tells next later under state count
            (here leaves) d n
            (subst (λ (e : List ℕ). may_find e opened w d n) digest left),
      )

  pub finish_gave : (b' : PlainBatch) (given : Vec Reply Global) → ChangesKeepValid
      → power ≡ Up → b'.body ≡ [] → b'.changes ≡ 0 → b'.held ≡ [] → 1 ≤ b'.size
      → Commits j j' v w b.body b.changes
      → map reply_of given.items ≡ b.held
      → Finishes m.rules now ran (may_of (from_parts m now b j opened checkpoint power disk) v)
      (from_parts m m.now b' j' opened checkpoint power disk') w
      (may_of (from_parts m m.now b' j' opened checkpoint power disk') w) (outcome.Replies given)
  finish_gave b' given valid is_up body changes held size done replies =
      let x = from_parts m now b j opened checkpoint power disk in
      let next = after_all up.base ran.pending in
      let at = done up.base next up.store (batch_leads x v ran (held_of x v ran up) law) in
      let seen =
      committed_seen m b b' j j' now opened checkpoint power disk disk' v w ran up valid storable spelled stays is_up
      body changes held size at.0 at.1 in
      (replies ∙ sym up.held, seen.0, seen.1)
