-- The files that a store leaves for which no checkpoint is due.
use Rattle.std.proofs.Common.{◌≡◌, ◌⊎◌, ℕ, ◌+◌, ◌-◌, ◌%◌, ◌^◌, ◌<◌, true, false, not, List, inl, inr, ⊎_elim, ap, subst, ◌∙◌}
use Rattle.std.proofs.lemmas.Bool.{and_cases, eqb-true, leb-false, not-false}
use Rattle.std.specs.Prelude.{◌==◌, nat_le}
use Rattle.disk_model.specs.Disk.{View}
use Rattle.journal.specs.Journal.{JournalView, StandsInFile, since_of}
use Rattle.journal.specs.Frame.{Frame, last_of}
use Rattle.journal.proofs.Refusals.{store_of}
use Rattle.agent_core.specs.AgentView.{AgentView, is_due}
use Rattle.agent_core.specs.Seen.{AgentSeen, IsSeen}
use Rattle.store_runs.specs.Tidy.{LeavesTidy, changes_since}

-- none is due: none ever is, or there are fewer changes
few_changes : (checkpoint : ℕ) (journal : JournalView) → is_due checkpoint journal ≡ false
    → (checkpoint ≡ 0) ⊎ (since_of journal < checkpoint)
few_changes checkpoint journal none = ⊎_elim
    (λ never. inl (eqb-true checkpoint 0 (not-false (checkpoint == 0) never)))
    (λ few. inr (leb-false checkpoint (since_of journal) few))
    (and_cases (not (checkpoint == 0)) (nat_le checkpoint (since_of journal)) none)

-- the changes behind the snapshot are those that the journal counts
pub since_is : (journal : JournalView) (file : List ℕ) (frames : List Frame) → StandsInFile journal file frames
    → since_of journal ≡ changes_since frames
since_is journal file frames stands =
    ap (λ changes. (changes + (2 ^ 64 - journal.base)) % 2 ^ 64) stands.last
    ∙ ap (λ base. (last_of 0 frames + (2 ^ 64 - base)) % 2 ^ 64) stands.base

-- what a cut leaves of an agent's disk is its store
pub tidy_files : {D : Type 0} (v : AgentView D) (view : View) (a : AgentSeen) → IsSeen v view a → a.up ≡ true
    → is_due v.checkpoint v.journal ≡ false → LeavesTidy v.checkpoint v.journal.digest view.may_leave
tidy_files v view a seen up none file image =
    let rests = (seen.standing up).store.rests in
    let found = rests.stands file (rests.settled file image) in
    let few : (v.checkpoint ≡ 0) ⊎ (changes_since found.0 < v.checkpoint) =
    subst (λ n. (v.checkpoint ≡ 0) ⊎ (n < v.checkpoint)) (since_is v.journal file found.0 found.1)
    (few_changes v.checkpoint v.journal none) in
    (found.0, store_of v.journal file found.0 found.1, few)
