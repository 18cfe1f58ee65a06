-- A script that was read, and what its lines made of a store.
use Rattle.std.proofs.Common.{◌≡◌, ◌⊎◌, ℕ, List, [], ◌∷◌, ◌++◌, Option, Some, None, map, refl, sym, ap, subst, inl, inr, ⊎_elim, ◌∙◌, append-nil, arith}
use Rattle.std.specs.Prelude.{IfSome}
use Rattle.agent_base.specs.Streams.{Gives}
use Rattle.disk_model.specs.declared.schedule.Cut.{Cut}
use Rattle.suffix_list.specs.ListText.{RuleList}
use Rattle.script_actions.specs.Action.{PlainStep}
use Rattle.script_actions.specs.Plain.{line_of}
use Rattle.script_actions.specs.declared.step.Line.{Line}
use Rattle.script_lines.specs.Script.{PlainScript}
use Rattle.durable_model.specs.Histories.{AgentOpening, opened_at}
use Rattle.hosts.specs.Hosts.{HasLeft, SameImages, raised}
use Rattle.disk_model.specs.Disk.{IsSettled, View}
use Rattle.durable_model.specs.Saved.{Saved}
use Rattle.store_runs.specs.Disks.{LeavesDisk, WritesInMemory, WritesOn}
use Rattle.store_runs.specs.Faults.{RoseBy, faults_of}
use Rattle.store_runs.specs.Fronts.{LeavesCount, WritesFromOpening}
use Rattle.store_runs.specs.Runs.{HasNoCuts, WritesLines}
use Rattle.store_runs.specs.Steps.{steps_of}
use Rattle.store_runs.specs.declared.ending.Ending.{Ending}
use Rattle.store_runs.proofs.FrontLemmas.{first_other}
use Rattle.store_runs.proofs.StopLemmas.{writes_other}
use Rattle.twins.proofs.NumberLemmas.{steps_are}
use Rattle.replay.specs.BeforeAfter.{BeforeAfter}
use Rattle.replay.specs.Runs.{RanInMemory, steps_in}
use Rattle.replay.specs.Openings.{Images, Unopened}
use Rattle.replay.specs.Stores.{IsMeantBy, LeavesStore, RanFromOpening}

-- the same of a script that was read
pub steps_read : (script : PlainScript) (cuts : List Cut) (lines : List Line) → script ≡ record { cuts = cuts; lines = map line_of lines } → steps_in script ≡ steps_of lines
steps_read script cuts lines is = ap steps_in is ∙ steps_are lines

-- lines that ran over a new store in memory are those of the script
pub memory_ran : (start batch checkpoint : ℕ) (taken : BeforeAfter (Option (List ℕ))) (e : Ending) (list : RuleList) (script : PlainScript) (cuts : List Cut) (lines : List Line)
    → script ≡ record { cuts = cuts; lines = map line_of lines } → WritesInMemory e list.rules start batch checkpoint cuts (steps_of lines) taken.before taken.after → RanInMemory start batch checkpoint taken e list script
memory_ran start batch checkpoint taken e list script cuts lines is wrote =
    subst (λ s. RanInMemory start batch checkpoint taken e list s) (sym is)
    (subst (λ steps. WritesInMemory e list.rules start batch checkpoint cuts steps taken.before taken.after) (sym (steps_are lines)) wrote)

-- a list that was read in full is the one that was told
pub list_is : (told left rest : Option (List ℕ)) (bytes : List ℕ) → HasLeft told left → Gives left rest bytes → IfSome rest (λ more. more ≡ []) → HasLeft told (Some bytes)
list_is None left rest bytes has given ended = tt
list_is (Some own) None rest bytes has given ended = cc
list_is (Some own) (Some all) None bytes has given ended = absurd given
list_is (Some own) (Some all) (Some more) bytes has given ended =
    let whole : all ≡ bytes = given ∙ ap (λ r. bytes ++ r) ended ∙ append-nil bytes in
    ap Some (sym whole) ∙ has

-- ---- a store of a path

-- it holds one file
pub one_file : (told : Option (List ℕ)) (now file : List ℕ) → told ≡ Some now → told ≡ Some file → now ≡ file
one_file told now file one two = cc

-- a count of the host's that rose by those of a disk
count_rises : (n faults before after : ℕ) → RoseBy n 0 faults → after ≡ raised faults before → RoseBy n before after
count_rises n faults before after rose is = omega (arith, rose, is)

-- what was written and left of the store of a path, whose file this was
pub store_writes : (e : Ending) (list : RuleList) (start batch checkpoint : ℕ) (file : List ℕ) (old new : View) (steps : List PlainStep) (taken : BeforeAfter (Option (List ℕ))) (counts : BeforeAfter ℕ) (after : Images) → old.contents ≡ Some file → IsSettled old → old.faults ≡ 0
    → counts.after ≡ raised new.faults counts.before → SameImages new.may_leave after → WritesOn e list start batch checkpoint old steps taken.before taken.after new
    → Unopened list file e taken after ⊎ ((base : Saved) × IsMeantBy list file base × WritesLines e list.rules batch checkpoint (opened_at start base) ⊥ steps taken.before taken.after (LeavesStore e list batch (opened_at start base) counts after))
store_writes e list start batch checkpoint file old new steps taken counts after held settled fresh count same wrote = ⊎_elim
    (λ unopened. inl (record {
      why = unopened.0;
      ends = unopened.1;
      cause = unopened.2.cause file held;
      text = unopened.2.text;
      left = λ now is. unopened.2.images settled file held now (same.no_more now is);
      alone = λ of now is. one_file old.contents now file (settled now (unopened.2.alone of now (same.no_more now is))) held;
    }))
    (λ ran.
    let x : AgentOpening = opened_at start ran.0 in
    inr (
      ran.0,
      record { valid = ran.1; under = ran.2; meant = ran.3 file held },
      writes_other list.rules batch checkpoint x ⊥ (HasNoCuts old) (LeavesDisk e list batch x ran.5 old new) (LeavesStore e list batch x counts after) (λ never. absurd never)
          (λ rest history left. (
            (λ image is. left.0 image (same.no_more image is)),
            count_rises (faults_of e history) new.faults counts.before counts.after (subst (λ n. RoseBy (faults_of e history) n new.faults) fresh left.1) count,
          )) taken.before taken.after e steps ran.7,
    ))
    wrote

-- and up to the first restart, whatever is told of it
pub first_writes : (e : Ending) (list : RuleList) (start batch checkpoint : ℕ) (old new : View) (steps : List PlainStep) (taken : BeforeAfter (Option (List ℕ))) (counts : BeforeAfter ℕ) → old.faults ≡ 0
    → counts.after ≡ raised new.faults counts.before → WritesFromOpening e list start batch checkpoint old steps taken.before taken.after new → RanFromOpening start batch checkpoint taken counts e list steps
first_writes e list start batch checkpoint old new steps taken counts fresh count wrote = ⊎_elim
    (λ unopened. inl unopened)
    (λ ran.
    inr (
      ran.0,
      ran.1,
      first_other list.rules batch checkpoint (opened_at start ran.0) ⊥ (HasNoCuts old) (LeavesCount e old new) (λ rest history. RoseBy (faults_of e history) counts.before counts.after) (λ never. absurd never)
          (λ rest history left. count_rises (faults_of e history) new.faults counts.before counts.after (subst (λ n. RoseBy (faults_of e history) n new.faults) fresh left) count) taken.before taken.after e steps ran.2,
    ))
    wrote
