-- What a run over a new store in memory prints and leaves.
use Rattle.std.proofs.Common.{◌≡◌, ℕ, ◌++◌, true, false, List, [], length, map, Option, Some, None, inl, inr, ap, refl, subst, ◌∙◌, arith}
use Rattle.std.specs.Prelude.{is_some}
use Rattle.sha2.specs.Sha256.{sha256}
use Rattle.unwinding.specs.Admissible.{Acts}
use Rattle.disk_model.specs.Disk.{View}
use Rattle.disk_model.specs.MemDisk.{MemView, numbers_of, view_of}
use Rattle.disk_model.specs.declared.schedule.Cut.{Cut}
use Rattle.disk_model.proofs.MemView.{settled_anew}
use Rattle.journal.specs.declared.open_fault.OpenFault.{OpenFault}
use Rattle.journal.specs.declared.open_fault.OpenFault.TheVariants as fault
use Rattle.suffix_list.specs.ListText.{RuleList}
use Rattle.script_actions.specs.Action.{PlainAction, PlainStep}
use Rattle.agent_model.specs.Isolation.{transcript}
use Rattle.durable_model.specs.Histories.{opened_at}
use Rattle.durable_model.specs.Saved.{nothing_saved}
use Rattle.printed_model.specs.Histories.{HasOneText, IsHistoryOf, begins_at, history_text}
use Rattle.generated_day.specs.Day.{day_lines}
use Rattle.store_runs.specs.Disks.{LeavesDisk, WritesInMemory, WritesOn}
use Rattle.store_runs.specs.Endings.{ending_of}
use Rattle.store_runs.specs.Runs.{HasNoCuts, LeavesHistory, WritesLines}
use Rattle.store_runs.specs.Tidy.{LeavesTidy}
use Rattle.store_runs.specs.declared.ending.Ending.{Ending}
use Rattle.store_runs.specs.declared.ending.Ending.TheVariants.{Done, Device, Store, Write, Memory}
use Rattle.row_opening.proofs.Calls.{nothing_under}
use Rattle.store_runs.proofs.DiskLemmas.{held_nothing, memory_writes}
use Rattle.store_runs.proofs.StopLemmas.{writes_other}
use Rattle.selftests.specs.Days.{actions_of, day_start, day_text}
use Rattle.selftests.specs.Runs.{RanAnew}
use Rattle.selftests.specs.Store.{IsStoreLength, day_batch, day_checkpoint, no_rules}
use Rattle.selftests.proofs.BatchLemmas.{in_batches_of_one}
use Rattle.selftests.proofs.DayLemmas.{day_acts}

-- ---- over an empty disk

-- no run that was refused at its opening is done
never_done : (why : OpenFault) → Done ≡ ending_of why → ⊥
never_done fault.DeviceFault is = cc
never_done fault.NoMemory is = cc
never_done (fault.NotAStore offset) is = cc
never_done (fault.TooLarge len) is = cc

module _ (list : RuleList) (old new : View) (steps : List PlainStep) (before after : Option (List ℕ))
    (empty : old.contents ≡ Some []) (on : old.off ≡ false) (told : old.cuts ≡ Some []) where
  done_anew : WritesOn Done list day_start day_batch day_checkpoint old steps before after new
      → RanAnew Done list steps before after new.may_leave
  done_anew (inl (why, is, refused)) = absurd (never_done why is)
  done_anew (inr (base, valid, stays, means, opens, calls, begins, written)) =
      let nothing : base ≡ nothing_saved =
      (means [] empty).alone list.digest nothing_saved 0 (inr (inl (omega arith), refl, refl, refl))
      ∙ nothing_under list.rules in
      let x = opened_at day_start base in
      subst (λ d. WritesLines Done list.rules day_batch day_checkpoint (opened_at day_start d) (Unit {0})
      steps before after (LeavesHistory list day_batch (opened_at day_start d) new.may_leave)) nothing
      (writes_other list.rules day_batch day_checkpoint x (Unit {0}) (HasNoCuts old)
      (LeavesDisk Done list day_batch x calls old new) (LeavesHistory list day_batch x new.may_leave)
      (λ any. (on, told)) (λ rest history left. left.0) before after Done steps written)

  ran_anew : (ending : Ending) → WritesOn ending list day_start day_batch day_checkpoint old steps before
      after new → WritesInMemory ending list.rules day_start day_batch day_checkpoint [] steps before after
      → RanAnew ending list steps before after new.may_leave
  ran_anew Done written memory = done_anew written
  ran_anew Write written memory = tt
  ran_anew Memory written memory = tt
  ran_anew Device written (inl (never, took)) = never
  ran_anew Device written (inr (beyond, (ran, down, cuts))) = cuts refl
  ran_anew (Store why) written (inl (never, took)) = never
  ran_anew (Store why) written (inr (beyond, never)) = never

-- the same of a disk in memory that was made of no bytes, without cuts and failing calls
pub disk_anew : (bytes fails : List ℕ) (cuts : List Cut) (disk new : MemView) (list : RuleList)
    (ending : Ending) (steps : List PlainStep) (before after : Option (List ℕ)) → bytes ≡ [] → cuts ≡ [] → fails ≡ []
    → (disk.past.first ≡ bytes) × (disk.past.events ≡ [])
    → disk.plan ≡ record { calls = 0; cuts = cuts; fails = fails; off = None }
    → (fails ≡ [] → (view_of disk).cuts ≡ Some (numbers_of cuts))
    → ((view_of disk).tells ≡ true → WritesOn ending list day_start day_batch day_checkpoint (view_of disk)
    steps before after (view_of new)) → RanAnew ending list steps before after (view_of new).may_leave
disk_anew bytes fails cuts disk new list ending steps before after no_bytes no_cuts no_fails contents plan told written =
    let empty = held_nothing disk.past (contents.0 ∙ no_bytes) contents.1 in
    let on : is_some disk.plan.off ≡ false = ap (λ plan. is_some plan.off) plan in
    let none : (view_of disk).cuts ≡ Some [] = told no_fails ∙ ap (λ cs. Some (numbers_of cs)) no_cuts in
    ran_anew list (view_of disk) (view_of new) steps before after empty on none ending (written refl)
    (memory_writes [] (view_of disk) empty on none (ap (λ plan. plan.calls) plan)
    (λ file left. settled_anew disk.past file contents.1 left)
    ending list day_start day_batch day_checkpoint (view_of new) steps before after (written refl))

-- ---- under the list that has no rules

module _ (list : RuleList) (is : list ≡ no_rules) (steps : List PlainStep) (images : List ℕ → Type 0) where
  -- where no line reopens, the text is that of the replies of the world of all sites
  pub text_anew : HasOneText → (before after : List ℕ) → before ≡ []
      → RanAnew Done list steps (Some before) (Some after) images → (actions : List PlainAction)
      → steps ≡ map Acts actions → after ≡ transcript [] day_start actions
  text_anew law before after nothing ran actions are =
      let done = subst (λ (l : RuleList). RanAnew Done l steps (Some before) (Some after) images) is ran in
      let history = done.0.history in
      done.0.text
      ∙ ap (λ taken. taken ++ history_text [] (begins_at day_start) history) nothing
      ∙ law [] day_start actions history
      (in_batches_of_one [] day_batch (begins_at day_start) actions history
      (subst (λ lines. IsHistoryOf [] day_batch (begins_at day_start) (Unit {0}) lines history) are done.0.is) done.1)

  -- the length of an image is that of a store that the lines leave
  pub store_anew : (before after : Option (List ℕ)) → RanAnew Done list steps before after images
      → LeavesTidy day_checkpoint list.digest images → (n : ℕ)
      → (file : List ℕ) × (length file ≡ n) × images file → IsStoreLength steps n
  store_anew before after ran tidy n (file, len, image) =
      let done = subst (λ (l : RuleList). RanAnew Done l steps before after images) is ran in
      let stands = done.0.left file image in (
        file,
        len,
        record {
          history = done.0.history;
          ran = record { is = done.0.is; up = done.1 };
          state = stands.0;
          last = stands.1;
          stands = stands.2;
          under = stands.3;
          left = stands.4.left;
          tidy = subst (λ (l : RuleList). LeavesTidy day_checkpoint l.digest images) is tidy file image;
        },
      )

-- ---- the lines of a day

-- the digest of the transcript of a day's lines
pub day_digest : (seed : ℕ) (steps : List PlainStep) (text digest : List ℕ) → digest ≡ sha256 text → steps ≡ day_lines seed
    → ((actions : List PlainAction) → steps ≡ map Acts actions → text ≡ transcript [] day_start actions)
    → digest ≡ sha256 (day_text seed)
day_digest seed steps text digest is are printed = is ∙ ap sha256 (printed (actions_of (day_lines seed)) (are ∙ day_acts seed))
