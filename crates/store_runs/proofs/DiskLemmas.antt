-- The store on a disk, when a run opens it.
use Rattle.std.proofs.Common.{◌≡◌, ◌⊎◌, ⊎_elim, ℕ, zero, suc, ◌+◌, ◌-◌, ◌^◌, ◌<◌, ◌≤◌, min, true, false, not, List, [], ◌∷◌, Option, Some, inl, inr, refl, sym, ap, subst, ◌∙◌, arith, length}
use Rattle.std.proofs.lemmas.Bool.{and_right, cases_lt, lt-leb}
use Rattle.std.specs.Prelude.{Result, Ok, Err, nat_le, ◌==◌, ◌&&◌, if◌then◌else◌}
use Rattle.unwinding.specs.Admissible.{History}
use Rattle.unwinding.specs.Course.{AtBase}
use Rattle.agent_base.specs.Counts.{Rose}
use Rattle.agent_base.proofs.Pieces.{takes_none}
use Rattle.disk_model.specs.Disk.{HasFailed, IsPowered, IsSettled, LeavesOnly, View}
use Rattle.disk_model.specs.DiskLaws.{IsLawful}
use Rattle.disk_model.specs.History.{Event, Past, held}
use Rattle.disk_model.specs.MemDisk.{numbers_of}
use Rattle.disk_model.specs.declared.schedule.Cut.{Cut}
use Rattle.journal.specs.Journal.{StandsInFile, since_of}
use Rattle.journal.specs.Opening.{AnswersByCuts, IsExcused, IsOfFile, IsOpening, IsRefusal, IsUpgrade, IsWithin, limit, opening_calls}
use Rattle.journal.specs.Store.{IsStore, IsUnborn}
use Rattle.journal.specs.declared.open_fault.OpenFault.{OpenFault}
use Rattle.journal.specs.declared.open_fault.OpenFault.TheVariants as fault
use Rattle.suffix_list.specs.ListText.{RuleList}
use Rattle.suffix_list.specs.Suffix.{Rule}
use Rattle.script_actions.specs.Action.{PlainAction, PlainStep}
use Rattle.durable_model.specs.Histories.{AgentOpening, opened_at}
use Rattle.durable_model.specs.Migrate.{IsUnder}
use Rattle.durable_model.specs.Saved.{IsValid, Saved, nothing_saved}
use Rattle.row_store.specs.Bodies.{Refuses}
use Rattle.row_store.specs.Bodies as bodies
use Rattle.row_opening.proofs.Calls.{nothing_under, unborn_calls}
use Rattle.row_opening.specs.Under.{IsMigrating, IsOpeningUnder, MeansUnder, calls_under, checkpoint_calls as anew_calls}
use Rattle.agent_core.specs.AgentView.{AgentView, list_of, may_of}
use Rattle.agent_core.specs.Calls.{checkpoint_calls}
use Rattle.agent_core.specs.Openings.{OpensByCalls}
use Rattle.agent_core.specs.Seen.{AgentSeen, IsSeen}
use Rattle.journal.proofs.Cuts.{fails_by_cut, first_ahead}
use Rattle.journal.proofs.Refusals.{store_is_born, store_of}
use Rattle.journal.proofs.Unique.{store_unique}
use Rattle.journal.proofs.Upgrades.{upgrade_unborn}
use Rattle.store_runs.specs.CutBounds.{MeetsCuts, fault_places}
use Rattle.store_runs.specs.Disks.{AnswersUnder, BeginsWithin, CutsOpening, IsMeantBy, IsRefusedOn, IsUnopened, LeavesDisk, OpensByCuts, WritesInMemory, WritesOn}
use Rattle.store_runs.specs.Endings.{ending_of}
use Rattle.store_runs.specs.Fronts.{LeavesCount, WritesFirst, WritesFromOpening}
use Rattle.store_runs.specs.Openings.{IsJustOpened, calls_before, just_opened}
use Rattle.store_runs.specs.Faults.{RoseBy, faults_of}
use Rattle.store_runs.specs.Runs.{HasNoCuts, WritesLines}
use Rattle.store_runs.specs.Tidy.{LeavesTidy}
use Rattle.store_runs.specs.declared.ending.Ending.{Ending}
use Rattle.store_runs.specs.declared.ending.Ending.TheVariants.{Device, Memory, Store}
use Rattle.store_runs.proofs.AgentLemmas.{due_few}
use Rattle.store_runs.proofs.CutLemmas.{meets_later}
use Rattle.store_runs.proofs.EndLemmas.{refused_exactly}
use Rattle.store_runs.proofs.FrontLemmas.{first_other}
use Rattle.store_runs.proofs.LoopLemmas.{opens_up}
use Rattle.store_runs.proofs.StopLemmas.{writes_other}
use Rattle.store_runs.proofs.TidyLemmas.{since_is}

-- an empty disk has no bytes
pub held_nothing : (past : Past) → past.first ≡ [] → past.events ≡ []
    → ◌≡◌ {A = Option (List ℕ)} (Some (held past).contents) (Some [])
held_nothing past first events = by past.first past.events first events
  where
    by : (file : List ℕ) (made : List Event) → file ≡ [] → made ≡ []
        → ◌≡◌ {A = Option (List ℕ)} (Some
        (held (record {
          first = file;
          events = made;
          room_end = past.room_end;
          room_writes =
              past.room_writes;
        })).contents) (Some [])
    by file [] is none = ap Some is
    by file (e ∷ made) is none = cc

-- ---- the cuts to come, and the first opening

err_is : (why other : OpenFault) → ◌≡◌ {A = Result (Unit {0}) OpenFault} (Err why) (Err other) → why ≡ other
err_is why other is = cc

opened : (why : OpenFault) → ◌≡◌ {A = Result (Unit {0}) OpenFault} (Ok tt) (Err why) → ⊥
opened why is = cc

-- a file that is not too large
pub is_within : (c : List ℕ) → (limit < length c → ⊥) → IsWithin true c
is_within c never =
    ⊎_elim (λ (over : limit < length c). absurd (never over)) (λ le limited. le)
    (cases_lt limit (length c))

module _ (old new : View) (before : IsLawful old) (after : IsLawful new) where
  -- at `Ok` the first of them lies past so many calls
  lies_past : (calls : ℕ) → IsPowered old new → min (old.changing + calls) (2 ^ 64 - 1) ≤ new.changing
      → (cuts : List ℕ) → old.cuts ≡ Some cuts → AnswersByCuts {T = Unit {0}} (Ok tt) old.changing calls cuts
  lies_past calls powered all [] told = λ never. opened fault.DeviceFault never
  lies_past calls powered all (cut ∷ cuts) told = (
    omega (arith, all, first_ahead new cut cuts after (powered.cuts ∙ told)),
    λ never. absurd (opened fault.DeviceFault never),
  )

  -- and a device fault is the first of them
  lies_within : (calls : ℕ) (why : OpenFault) → (why ≡ fault.DeviceFault → HasFailed old new)
      → new.changing ≤ old.changing + calls → old.off ≡ false → (cuts : List ℕ) → old.cuts ≡ Some cuts
      → AnswersByCuts {T = Unit {0}} (Err why) old.changing calls cuts
  lies_within calls why failed most on [] told = λ is. fails_by_cut old new [] (failed (err_is why fault.DeviceFault is)) on told
  lies_within calls why failed most on (cut ∷ cuts) told = (
    tt,
    λ is. let call = (fails_by_cut old new (cut ∷ cuts) (failed (err_is why fault.DeviceFault is))
        on told).1 in (first_ahead old cut cuts before told, omega (arith, call, most)),
  )

  -- so the opening of a file answers
  module _ (list : RuleList) (file cuts : List ℕ) (told : old.cuts ≡ Some cuts) where
    pub opens_past : IsPowered old new → OpensByCalls list file (Ok tt) old new
        → AnswersUnder list file (Ok tt) old.changing cuts
    opens_past powered makes = record {
      exactly = λ kept d n within means.
          lies_past (calls_under list kept d file) powered (makes.exactly kept d n within means).all
          cuts told;
      others = ⊎_elim
          (λ few. inl (lies_past (opening_calls file) powered few.all cuts told))
          (λ more. inr (
            more.0,
            more.1,
            more.2,
            more.3,
            more.4,
            lies_past (opening_calls file + anew_calls) powered more.5.all cuts told,
          ))
          makes.others;
    }

    pub fails_within : (why : OpenFault) → (why ≡ fault.DeviceFault → HasFailed old new)
        → old.off ≡ false → OpensByCalls list file (Err why) old new
        → AnswersUnder list file (Err why) old.changing cuts
    fails_within why failed on makes = record {
      exactly = λ kept d n within means.
          lies_within (calls_under list kept d file) why failed
          (makes.exactly kept d n within means).most on cuts told;
      others = ⊎_elim
          (λ few. inl (lies_within (opening_calls file) why failed few.most on cuts told))
          (λ more. inr (
            more.0,
            more.1,
            more.2,
            more.3,
            more.4,
            lies_within (opening_calls file + anew_calls) why failed more.5.most on cuts told,
          ))
          makes.others;
    }

-- ---- a checkpoint that is due before the first line

-- none is where nothing changed since the snapshot
none_yet : (checkpoint since : ℕ) → since ≡ 0 → (not (checkpoint == 0) && nat_le checkpoint since) ≡ false
none_yet zero since none = refl
none_yet (suc n) since none =
    and_right (not (suc n == 0)) (nat_le (suc n) since) (lt-leb (suc n) since (omega (arith, none)))

none_due_yet : {D : Type 0} (agent : AgentView D) (file : List ℕ) → StandsInFile agent.journal file []
    → checkpoint_calls agent ≡ 0
none_due_yet agent file stands =
    ap (λ due. if due then 7 else 0) (none_yet agent.checkpoint (since_of agent.journal) (since_is agent.journal file [] stands))

-- none is for a store that was just made
made_none_due : {D : Type 0} (agent : AgentView D) (old view : View) (a : AgentSeen) (list : RuleList) (file : List ℕ)
    → IsSeen agent view a → a.up ≡ true → IsLawful view → view.tells ≡ true → agent.journal.digest ≡ list.digest
    → IsUnborn file → LeavesOnly old view (IsOpeningUnder list file) → checkpoint_calls agent ≡ 0
made_none_due agent old view a list file seen up laws told is unborn only =
    let has = laws.told told in
    let digest = list.digest in
    let now = has.0 in
    let found = (seen.standing up).store.rests.stands now has.1 in
    let store : IsStore digest now found.0 =
    subst (λ d. IsStore d now found.0) is (store_of agent.journal now found.0 found.1) in
    let opens : IsOpening digest file now = ⊎_elim (λ opens. opens)
    (λ (anew : IsMigrating list file now). absurd (store_is_born anew.0 file anew.3.0 anew.3.1 unborn))
    (only.each now (laws.counts_now old.moment now only.later (laws.contents_may_stay now has.1))) in
    ⊎_elim
    (λ same. absurd (store_is_born digest now found.0 store (subst IsUnborn (sym same) unborn)))
    (⊎_elim
    (λ (up : IsUpgrade file now). absurd (store_is_born digest now found.0 store (upgrade_unborn file now unborn up)))
    (λ (made : IsUnborn file × (IsUnborn now ⊎ IsStore digest now [])). ⊎_elim
    (λ still. absurd (store_is_born digest now found.0 store still))
    (λ fresh. none_due_yet agent now
    (subst (StandsInFile agent.journal now) (store_unique digest digest now found.0 [] store fresh).0 found.1))
    made.1))
    opens

-- ---- a run over a disk

-- the first opening was refused
pub refused_writes : (ending : Ending) (list : RuleList) (start batch checkpoint : ℕ) (why : OpenFault)
    (old new : View) (steps : List PlainStep) (taken : Option (List ℕ)) → ending ≡ ending_of why
    → ((c : List ℕ) → old.contents ≡ Some c → IsRefusal bodies.Takes Refuses nothing_saved true c why) → (why ≡ fault.DeviceFault
    → Rose old.faults new.faults × HasFailed old new) → OpensByCuts list (Err why) old
    → (IsOfFile why → new.contents ≡ old.contents)
    → (IsOfFile why → (file : List ℕ) → new.may_leave file → old.may_leave file)
    → (IsSettled old → (c : List ℕ) → old.contents ≡ Some c → LeavesOnly old new (IsOpeningUnder list c)) → IsLawful new
    → WritesOn ending list start batch checkpoint old steps taken taken new
refused_writes ending list start batch checkpoint why old new steps taken is cause device cuts unchanged alone moments lawful = inl (
  why,
  is,
  record {
    text = takes_none taken;
    cause = cause;
    device = device;
    cuts = cuts;
    unchanged = unchanged;
    images = λ settled c contents file leaves.
        let only = moments settled c contents in
        only.each file (lawful.counts_now old.moment file only.later leaves);
    alone = alone;
  },
)

-- and the run ends by a refusal of the file, or is excused
pub refused_ends : (found why : OpenFault) (ending : Ending) → ending ≡ ending_of found → IsOfFile why
    → (found ≡ why) ⊎ IsExcused found → (ending ≡ Store why) ⊎ ((ending ≡ Device) ⊎ (ending ≡ Memory))
refused_ends found why ending is of causes = subst (λ e. (e ≡ Store why) ⊎ ((e ≡ Device) ⊎ (e ≡ Memory)))
    (sym is) (refused_exactly found why of causes)

module _ {D : Type 0} (list : RuleList) (start batch checkpoint : ℕ) (old view : View) (agent : AgentView D)
    (base : Saved) (is_rules : agent.memory.rules ≡ list.rules)
    (is_digest : agent.journal.digest ≡ list.digest) (is_batch : agent.batch ≡ batch)
    (is_checkpoint : agent.checkpoint ≡ checkpoint) where
  -- an agent was opened over the disk
  pub just_here : 1 ≤ batch → IsSeen agent view (just_opened list.rules (opened_at start base))
      → AtBase (just_opened list.rules (opened_at start base)).base (may_of agent view)
      → IsJustOpened agent view (opened_at start base)
  just_here some seen at = record {
    batch = omega (arith, some, is_batch);
    seen = subst (λ rs. IsSeen agent view (just_opened rs (opened_at start base))) (sym is_rules) seen;
    base = subst (λ rs. AtBase (just_opened rs (opened_at start base)).base (may_of agent view)) (sym is_rules) at;
  }

  -- with so many calls made, or due
  pub begins_within : view.tells ≡ true → IsSeen agent view (just_opened list.rules (opened_at start base))
      → IsLawful view
      → ((c kept : List ℕ) (d : Saved) (n : ℕ) → old.contents ≡ Some c → MeansUnder list.digest kept c d n
      → view.changing ≤ old.changing + calls_under list kept d c)
      → (IsSettled old → (c : List ℕ) → old.contents ≡ Some c → LeavesOnly old view (IsOpeningUnder list c))
      → BeginsWithin list (calls_before agent view) old
  begins_within told seen laws calls moments = record {
    found = λ c kept d n contents means. omega (arith, calls c kept d n contents means, due_few agent);
    made = λ settled c contents unborn. omega (
      arith,
      calls c list.digest nothing_saved 0 contents (inr (unborn, refl, refl, refl)),
      unborn_calls list c,
      made_none_due agent old view (just_opened list.rules (opened_at start base)) list c seen
          (opens_up list.rules (opened_at start base)) laws told is_digest unborn (moments settled c contents),
    );
  }

  -- and the lines ran
  pub opened_writes : IsValid base → IsUnder list.rules base → (ending : Ending) (new : View) (steps : List PlainStep)
      (before after : Option (List ℕ)) → IsPowered old view → view.faults ≡ old.faults
      → IsMeantBy list old base → OpensByCuts list (Ok tt) old → BeginsWithin list (calls_before agent view) old
      → WritesLines ending agent.memory.rules agent.batch agent.checkpoint (opened_at start base)
      (HasNoCuts view) steps before after (LeavesDisk ending (list_of agent) agent.batch
      (opened_at start base) (calls_before agent view) view new) → WritesOn ending list start batch checkpoint old steps before after new
  opened_writes valid stays ending new steps before after powered faults means cuts begins written =
      let calls = calls_before agent view in
      let x : AgentOpening = opened_at start base in
      let left : List PlainStep → History PlainAction → Type 0 = LeavesDisk ending list batch x calls view new in
      let in_batches : WritesLines ending agent.memory.rules batch checkpoint x (HasNoCuts view)
      steps before after (LeavesDisk ending (list_of agent) batch x calls view new) =
      subst (λ n. WritesLines ending agent.memory.rules batch n x (HasNoCuts view) steps before after
      (LeavesDisk ending (list_of agent) batch x calls view new)) is_checkpoint
      (subst (λ n. WritesLines ending agent.memory.rules n agent.checkpoint x (HasNoCuts view)
      steps before after (LeavesDisk ending (list_of agent) n x calls view new)) is_batch written) in
      let same : list_of agent ≡ list = λ i. record { rules = is_rules i; digest = is_digest i } in
      let under : WritesLines ending list.rules batch checkpoint x (HasNoCuts view) steps before after left =
      subst (λ (l : RuleList). WritesLines ending l.rules batch checkpoint x (HasNoCuts view)
      steps before after (LeavesDisk ending l batch x calls view new)) same in_batches in
      inr (
        base,
        valid,
        stays,
        means,
        cuts,
        calls,
        begins,
        writes_other list.rules batch checkpoint x (HasNoCuts old) (HasNoCuts view) left
            (LeavesDisk ending list batch x calls old new) (λ none. (powered.after, powered.cuts ∙ none.1))
            (λ rest history l. (
              l.0,
              subst (λ n. RoseBy (faults_of ending history) n new.faults) faults l.1,
              λ numbers told on. l.2 numbers (powered.cuts ∙ told) powered.after,
            ))
            before after ending steps under,
      )

  -- up to the first restart, whatever the disk tells
  pub opened_first : IsValid base → (ending : Ending) (new : View) (steps : List PlainStep)
      (before after : Option (List ℕ)) → IsPowered old view → view.faults ≡ old.faults
      → WritesFirst ending agent.memory.rules agent.batch agent.checkpoint (opened_at start base)
      (HasNoCuts view) steps before after (LeavesCount ending view new)
      → WritesFromOpening ending list start batch checkpoint old steps before after new
  opened_first valid ending new steps before after powered faults written =
      let x : AgentOpening = opened_at start base in
      let under : WritesFirst ending list.rules batch checkpoint x (HasNoCuts view) steps before after
      (LeavesCount ending view new) =
      subst (λ rs. WritesFirst ending rs batch checkpoint x (HasNoCuts view) steps before after
      (LeavesCount ending view new)) is_rules
      (subst (λ n. WritesFirst ending agent.memory.rules batch n x (HasNoCuts view) steps before after
      (LeavesCount ending view new)) is_checkpoint
      (subst (λ n. WritesFirst ending agent.memory.rules n agent.checkpoint x (HasNoCuts view) steps before after
      (LeavesCount ending view new)) is_batch written)) in
      inr (
        base,
        valid,
        first_other list.rules batch checkpoint x (HasNoCuts old) (HasNoCuts view) (LeavesCount ending view new)
            (LeavesCount ending old new) (λ none. (powered.after, powered.cuts ∙ none.1))
            (λ rest history l. subst (λ n. RoseBy (faults_of ending history) n new.faults) faults l)
            before after ending steps under,
      )

-- no checkpoint is due by equal options
pub tidy_under : (checkpoint mine : ℕ) (digest own : List ℕ) (images : List ℕ → Type 0) → mine ≡ checkpoint
    → own ≡ digest → LeavesTidy mine own images → LeavesTidy checkpoint digest images
tidy_under checkpoint mine digest own images is same tidy =
    subst (λ n. LeavesTidy n digest images) is (subst (λ d. LeavesTidy mine d images) same tidy)

-- ---- a run in memory

module _ (cuts : List Cut) (old : View) (empty : old.contents ≡ Some []) (on : old.off ≡ false)
    (told : old.cuts ≡ Some (numbers_of cuts)) (first : old.changing ≡ 0) (settled : IsSettled old) where
  -- where there are no cuts, no call can fail
  no_cuts : cuts ≡ [] → HasNoCuts old
  no_cuts none = (on, told ∙ ap (λ cs. Some (numbers_of cs)) none)

  -- the empty disk stands for nothing, under each list
  no_bytes : IsWithin true []
  no_bytes limited = omega arith

  unborn_means : (list : RuleList) → MeansUnder list.digest list.digest [] nothing_saved 0
  unborn_means list = inr (inl (omega arith), refl, refl, refl)

  -- a device fault of the opening is the first cut
  fails_in_opening : (list : RuleList) (cs : List Cut) → old.cuts ≡ Some (numbers_of cs)
      → OpensByCuts list (Err fault.DeviceFault) old → CutsOpening cs
  fails_in_opening list [] none opens = absurd ((opens [] [] empty on none).exactly list.digest nothing_saved 0 no_bytes (unborn_means list) refl)
  fails_in_opening list (cut ∷ cs) some opens =
      let by = (opens [] (numbers_of (cut ∷ cs)) empty on some).exactly list.digest nothing_saved 0 no_bytes (unborn_means list) in
      omega (arith, first, (by.1 refl).1, unborn_calls list [])

  -- a store was not opened where the first cut falls into the opening
  opens_beyond : (list : RuleList) (cs : List Cut) → old.cuts ≡ Some (numbers_of cs) → OpensByCuts list (Ok tt) old
      → CutsOpening cs → ⊥
  opens_beyond list [] none opens within = within
  opens_beyond list (cut ∷ cs) some opens within =
      let by = (opens [] (numbers_of (cut ∷ cs)) empty on some).exactly list.digest nothing_saved 0 no_bytes (unborn_means list) in
      omega (arith, first, within, by.0, unborn_calls list [])

  -- why the store on an empty disk was not opened
  unopened : (why : OpenFault) (list : RuleList) (new : View) (before after : Option (List ℕ))
      → IsRefusedOn list why old new before after → IsUnopened (ending_of why) cuts
  unopened fault.DeviceFault list new before after refused = fails_in_opening list cuts told refused.cuts
  unopened fault.NoMemory list new before after refused = tt
  unopened (fault.NotAStore offset) list new before after refused = absurd (few (refused.cause [] empty).2)
    where
      few : 1 < length {A = ℕ} [] → ⊥
      few less = omega (arith, less)
  unopened (fault.TooLarge len) list new before after refused =
      absurd (few len (refused.cause [] empty).1 (refused.cause [] empty).2)
    where
      few : (len : ℕ) → len ≡ length {A = ℕ} [] → 1073741824 < len → ⊥
      few len is less = omega (arith, is, less)

  -- its faults are met by the cuts
  abbrev MeetsNumbers : Ending → List Rule → ℕ → AgentOpening → (rest : List PlainStep) → History PlainAction → Type 0
  MeetsNumbers ending rules batch opening rest history =
      MeetsCuts (opening_calls []) (numbers_of cuts) (fault_places rules batch ending opening history)

  -- a run over an empty disk
  pub memory_writes : (ending : Ending) (list : RuleList) (start batch checkpoint : ℕ) (new : View)
      (steps : List PlainStep) (before after : Option (List ℕ))
      → WritesOn ending list start batch checkpoint old steps before after new
      → WritesInMemory ending list.rules start batch checkpoint cuts steps before after
  memory_writes ending list start batch checkpoint new steps before after (inl (why, is, refused)) =
      inl (subst (λ e. IsUnopened e cuts) (sym is) (unopened why list new before after refused), refused.text)
  memory_writes ending list start batch checkpoint new steps before after (inr (base, valid, stays, means, opens, calls, begins, written)) =
      let nothing : base ≡ nothing_saved = (means [] empty).alone list.digest nothing_saved 0 (unborn_means list) ∙ nothing_under list.rules in
      let few : calls ≤ opening_calls [] = omega (arith, first, begins.made settled [] empty (inl (omega arith))) in
      let told_lines : WritesLines ending list.rules batch checkpoint (opened_at start base) (cuts ≡ [])
      steps before after (MeetsNumbers ending list.rules batch (opened_at start base)) =
      writes_other list.rules batch checkpoint (opened_at start base) (cuts ≡ []) (HasNoCuts old)
      (LeavesDisk ending list batch (opened_at start base) calls old new)
      (MeetsNumbers ending list.rules batch (opened_at start base)) no_cuts
      (λ rest history l. meets_later calls (opening_calls []) few (numbers_of cuts)
      (fault_places list.rules batch ending (opened_at start base) history) (l.2 (numbers_of cuts) told on))
      before after ending steps written in
      inr (
        opens_beyond list cuts told opens,
        subst (λ d. WritesLines ending list.rules batch checkpoint
            (opened_at start d) (cuts ≡ []) steps before after (MeetsNumbers ending list.rules batch (opened_at start d)))
            nothing told_lines,
      )
