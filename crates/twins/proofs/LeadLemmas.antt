-- What each call of an agent leads to, in the words of its clauses.
use Rattle.std.proofs.Common.{◌≡◌, ◌⊎◌, inl, inr, ℕ, ◌+◌, ◌<◌, ◌^◌, true, false, List, [], Some, length, map, refl, sym, ap, subst, ◌∙◌, Vec, Global}
use Rattle.std.specs.Prelude.{Result, Ok, Err, IsErrOf, OnOk, filter}
use Rattle.unwinding.specs.Admissible.{Acts, Reopens}
use Rattle.unwinding.specs.Course.{AtBase}
use Rattle.unwinding.specs.CourseSteps.{reopened}
use Rattle.unwinding.specs.World.{of_site}
use Rattle.disk_model.specs.Disk.{View}
use Rattle.disk_model.specs.MemDisk.{view_of}
use Rattle.journal.specs.Opening.{HasNoFault}
use Rattle.journal.specs.declared.open_fault.OpenFault.{OpenFault}
use Rattle.journal.specs.declared.open_fault.OpenFault.TheVariants as fault
use Rattle.origin_site.specs.Site.{PlainSite}
use Rattle.storage_key.specs.Context.{is_of}
use Rattle.script_actions.specs.Action.{PlainAction, PlainStep}
use Rattle.reply_lines.specs.Plain.{reply_of}
use Rattle.reply_lines.specs.declared.reply.Reply.{Reply}
use Rattle.agent_model.specs.TheMachine.{machine}
use Rattle.durable_model.specs.Keeping.{durable_of, keeping}
use Rattle.durable_model.specs.Saved.{Saved, nothing_saved}
use Rattle.local_scripts.specs.Items.{item_of}
use Rattle.local_scripts.specs.declared.item.Item.TheVariants as item
use Rattle.printed_model.specs.Histories.{begins_at}
use Rattle.script_courses.specs.Collected.{closing, nothing_collected, with_commit, with_restart}
use Rattle.script_courses.specs.Twins.{Equal, IsTwin, LocalDiffer, Twin, TwinSetting}
use Rattle.script_courses.proofs.LoopLemmas.{script_begins}
use Rattle.script_courses.proofs.TwinLemmas.{answers_by_items}
use Rattle.agent_core.specs.AgentView.{may_of}
use Rattle.agent_core.specs.Flushing.{KeepsOptions}
use Rattle.agent_core.specs.Calls.{OutcomeDevice, RestartDevice}
use Rattle.agent_core.specs.Means.{Fits, FlushMeans, LineMeans, RestartMeans, after_commit, after_line}
use Rattle.agent_core.specs.Seen.{AgentSeen, IsSeen}
use Rattle.agent_core.specs.declared.agent.Power.TheVariants.{Up}
use Rattle.agent_core.specs.declared.outcome.Outcome.{Outcome}
use Rattle.agent_core.specs.declared.outcome.Outcome.TheVariants.{Replies, Held, Down}
use Rattle.store_runs.specs.Calls.{IsQuiet}
use Rattle.twins.specs.Collectors.{collected_of}
use Rattle.twins.specs.Collecting.{EndsAs, HasRun, IsBefore, Leads, MemAgent, StandsOnCourse, TakesLine}
use Rattle.twins.specs.Comparing.{Compares}
use Rattle.twins.specs.Scripts.{Gives, end_in, entries_in}
use Rattle.twins.specs.declared.before.Before.{Before}
use Rattle.twins.specs.declared.collector.Collector.{Collector}
use Rattle.twins.specs.declared.scripts.LocalScript.{LocalScript}
use Rattle.twins.proofs.LineLemmas.{has_held, has_replied}
use Rattle.twins.proofs.RunLemmas.{given_count, held_up, reopened_up, replied_up, stands_end, stands_fit, stands_held, stands_reopened, stands_replied}

held_down : Held ≡ Down → ⊥
held_down e = cc

replies_down : (given : Vec Reply Global) → Replies given ≡ Down → ⊥
replies_down given e = cc

stays_quiet : (a b : AgentSeen) (old new : View) → b.up ≡ true → HasNoFault old new → IsQuiet a old → IsQuiet b new
stays_quiet a b old new up none quiet = (up, none.off ∙ quiet.1, none.cuts ∙ quiet.2)

-- ---- a line

module _ (site : PlainSite) (old new : MemAgent) (before : Collector) (line : PlainAction) (look : Before)
    (goes : KeepsOptions old new)
    (told : (a : AgentSeen) → IsSeen old (view_of old.disk) a → a.up ≡ true
    → IsBefore old.memory.rules site before.changed a line look) where
  -- the line was collected
  abbrev Taken : Collector → Type 0
  Taken mid =
      (a b : AgentSeen) (l : PlainAction) → IsBefore new.memory.rules site before.changed a l look
      → IsSeen new (view_of new.disk) b → b.up ≡ true → HasRun new.memory.rules a l b
      → TakesLine new.memory.rules site a.world l before mid

  abbrev Means : Outcome → Type 0
  Means outcome =
      (a : AgentSeen) → IsSeen old (view_of old.disk) a → Fits a
      → (b : AgentSeen) × IsSeen new (view_of new.disk) b
      × LineMeans old.memory.rules old.batch line a (may_of old (view_of old.disk)) b (may_of new (view_of new.disk)) outcome

  -- under the rules and the site of a run
  taken_at : (at : TwinSetting) (mid : Collector) (a b : AgentSeen) → old.memory.rules ≡ at.rules
      → at.site ≡ site → Taken mid → IsSeen old (view_of old.disk) a → a.up ≡ true → IsSeen new (view_of new.disk) b → b.up ≡ true
      → HasRun at.rules a line b → TakesLine at.rules at.site a.world line before mid
  taken_at at mid a b is_rules is_site taken seen up after is_up ran =
      let rules : new.memory.rules ≡ at.rules = goes.0 ∙ is_rules in
      let asked = subst (λ rs. IsBefore rs site before.changed a line look) (sym goes.0) (told a seen up) in
      let took = taken a b line asked after is_up (subst (λ rs. HasRun rs a line b) (sym rules) ran) in
      subst (λ s. TakesLine at.rules s a.world line before mid) (sym is_site)
      (subst (λ rs. TakesLine rs site a.world line before mid) rules took)

  pub leads_held : Means Held → (old.power ≡ Up → OutcomeDevice 4 Held (view_of old.disk) (view_of new.disk))
      → (after : Collector) → Taken after → Leads site (Acts line) old before new after
  leads_held means device after taken at steps is_site fits found =
      let s = found.1 in
      let a = s.a in
      let all = means a s.seen (stands_fit at old steps before found.0 s fits) in
      let b = all.0 in
      let m = all.2 in
      let is : b ≡ after_line at.rules a line = m.2 ∙ ap (λ rs. after_line rs a line) s.rules in
      let up : b.up ≡ true = ap (λ k. k.up) is ∙ held_up at.rules a line in
      let ran : HasRun at.rules a line b = subst (λ k. HasRun at.rules a line k) (sym is) (has_held at.rules a line) in
      let quiet = stays_quiet a b (view_of old.disk) (view_of new.disk) up
      ((device (s.seen.up.0 s.quiet.0)).others held_down) s.quiet in
      stands_held at old steps before found.0 s fits new after b all.1 goes quiet line
      (subst (λ n. length a.held + 1 < n) s.batch m.1) is m.3
      (taken_at at after a b s.rules is_site taken s.seen s.quiet.0 all.1 up ran)

  -- where its last call may want memory
  pub leads_on : {E : Type 0} (r : Result (Unit {0}) E) → Means Held
      → (old.power ≡ Up → OutcomeDevice 4 Held (view_of old.disk) (view_of new.disk)) → (after : Collector)
      → ((a b : AgentSeen) (l : PlainAction) → IsBefore new.memory.rules site before.changed a l look
      → IsSeen new (view_of new.disk) b → b.up ≡ true → HasRun new.memory.rules a l b
      → OnOk r (TakesLine new.memory.rules site a.world l before after)) → OnOk r (Leads site (Acts line) old before new after)
  leads_on (Ok x) means device after taken = leads_held means device after taken
  leads_on (Err e) means device after taken = tt

  pub leads_replied : (given : Vec Reply Global) → Means (Replies given)
      → (old.power ≡ Up → OutcomeDevice 4 (Replies given) (view_of old.disk) (view_of new.disk))
      → (mid after : Collector) (n : ℕ) → Taken mid
      → n ≡ length (filter (λ reply. is_of site (reply_of reply).site) given.items)
      → (mid.replies + n < 2 ^ 64 → mid.changes + mid.waiting < 2 ^ 64
      → collected_of after 0 ≡ with_commit (collected_of mid n)) → Leads site (Acts line) old before new after
  leads_replied given means device mid after n taken count commits at steps is_site fits found =
      let s = found.1 in
      let a = s.a in
      let all = means a s.seen (stands_fit at old steps before found.0 s fits) in
      let b = all.0 in
      let m = all.2 in
      let ran_is : after_line old.memory.rules a line ≡ after_line at.rules a line = ap (λ rs. after_line rs a line) s.rules in
      let is : b ≡ after_commit at.rules (after_line at.rules a line) = m.2.1 ∙ (λ i. after_commit (s.rules i) (ran_is i)) in
      let up : b.up ≡ true = ap (λ k. k.up) is ∙ replied_up at.rules (after_line at.rules a line) in
      let ran : HasRun at.rules a line b = subst (λ k. HasRun at.rules a line k) (sym is) (has_replied at.rules a line) in
      let quiet = stays_quiet a b (view_of old.disk) (view_of new.disk) up
      ((device (s.seen.up.0 s.quiet.0)).others (replies_down given)) s.quiet in
      let mine = count ∙ ap (λ k. length (filter (λ reply. is_of k (reply_of reply).site) given.items))
      (sym is_site) ∙ given_count at.rules at.site given.items (after_line old.memory.rules a line).held m.2.0
      ∙ ap (λ k. length (of_site (machine at.rules) at.site k.held)) ran_is in
      stands_replied at old steps before found.0 s fits new after b all.1 goes quiet line mid n
      (m.1 ∙ s.batch) is m.2.2 (taken_at at mid a b s.rules is_site taken s.seen s.quiet.0 all.1 up ran) mine commits

-- ---- a restart

restart_none : (kept : ℕ) (old new : View) → RestartDevice (Ok kept) old new → (new.off ≡ false) × (new.cuts ≡ old.cuts)
restart_none kept old new device = (device.on, none device.others)
  where
    opened : ◌≡◌ {A = Result ℕ OpenFault} (Ok kept) (Err fault.DeviceFault) → ⊥
    opened e = cc

    none : IsErrOf {T = ℕ} (Ok kept) fault.DeviceFault
        ⊎ ((new.faults ≡ old.faults) × (new.failures ≡ old.failures) × (new.cuts ≡ old.cuts)) → new.cuts ≡ old.cuts
    none (inl wrong) = absurd (opened wrong)
    none (inr same) = same.2

pub leads_reopened : (site : PlainSite) (old new : MemAgent) (before after : Collector) (kept moment : ℕ) → KeepsOptions old new
    → ((view_of old.disk).tells ≡ true → (a : AgentSeen) → IsSeen old (view_of old.disk) a
    → (b : AgentSeen) × IsSeen new (view_of new.disk) b
    × RestartMeans old.memory.rules a (may_of old (view_of old.disk)) b (may_of new (view_of new.disk)) (Ok kept))
    → RestartDevice (Ok kept) (view_of old.disk) (view_of new.disk) → moment ≡ old.now
    → ((left : ℕ) → collected_of after 0 ≡ with_restart moment (collected_of before left))
    → Leads site Reopens old before new after
leads_reopened site old new before after kept moment goes means device clock restarts at steps is_site fits found =
    let s = found.1 in
    let a = s.a in
    let all = means refl a s.seen in
    let b = all.0 in
    let m = all.2 in
    let is : b ≡ reopened (machine at.rules) keeping a.world.rest m.0 =
    m.2 ∙ ap (λ rs. reopened (machine rs) keeping a.world.rest m.0) s.rules in
    let up : b.up ≡ true = ap (λ k. k.up) is ∙ reopened_up at.rules a m.0 in
    let none = restart_none kept (view_of old.disk) (view_of new.disk) device in
    stands_reopened at old steps before found.0 s fits new after b all.1 goes (up, none.0, none.1 ∙ s.quiet.2)
    moment kept m.0 m.1 is m.3 clock restarts

-- ---- the end

pub leads_end : (site : PlainSite) (old new : MemAgent) (found after : Collector) (script : LocalScript)
    (given : Vec Reply Global) (moment n : ℕ)
    → ((a : AgentSeen) → IsSeen old (view_of old.disk) a
    → (b : AgentSeen) × IsSeen new (view_of new.disk) b
    × FlushMeans old.memory.rules a (may_of old (view_of old.disk)) b (may_of new (view_of new.disk)) (Replies given))
    → moment ≡ old.now → n ≡ length (filter (λ reply. is_of site (reply_of reply).site) given.items)
    → (found.replies + n < 2 ^ 64 → found.changes + found.waiting < 2 ^ 64
    → collected_of after 0 ≡ with_commit (collected_of found n))
    → entries_in script ≡ map item_of after.items.items
    → ((left : ℕ) → item_of (item.Restarts script.end) ≡ closing moment (collected_of after left))
    → EndsAs site old found script
leads_end site old new found after script given moment n means clock count commits entries ends at steps is_site fits here =
    let s = here.1 in
    let m = (means s.a s.seen).2 in
    let mine = count ∙ ap (λ k. length (filter (λ reply. is_of k (reply_of reply).site) given.items))
    (sym is_site) ∙ given_count at.rules at.site given.items s.a.held m.1.0 in
    stands_end at old steps found here.0 s fits moment n after script clock mine commits entries ends

-- ---- the beginning

pub leads_begin : (at : TwinSetting) (agent : MemAgent) (base : Saved) → base ≡ nothing_saved
    → agent.memory.rules ≡ at.rules → agent.batch ≡ at.batch → 0 < at.batch
    → IsSeen agent (view_of agent.disk) (reopened (machine at.rules) keeping (begins_at at.start).rest (durable_of base))
    → AtBase (reopened (machine at.rules) keeping (begins_at at.start).rest (durable_of base)).base
    (may_of agent (view_of agent.disk))
    → (view_of agent.disk).off ≡ false → (view_of agent.disk).cuts ≡ Some [] → StandsOnCourse at agent [] nothing_collected
unfolding reopened
leads_begin at agent base nothing is_rules is_batch some seen left on none =
    let a = reopened (machine at.rules) keeping (begins_at at.start).rest (durable_of base) in
    record {
      rules = is_rules;
      batch = is_batch;
      some = some;
      a = a;
      seen = seen;
      quiet = (refl, on, none);
      on = script_begins at.rules at.batch at.site (begins_at at.start) a (may_of agent (view_of agent.disk))
          some (ap (λ d. reopened (machine at.rules) keeping (begins_at at.start).rest (durable_of d)) nothing) left;
    }

-- ---- two scripts

pub leads_answer : (at : TwinSetting) (first second : List PlainStep) (one other : LocalScript) (answer : Twin)
    → Gives at first one → Gives at second other → Compares one other answer → IsTwin at first second answer
leads_answer at first second one other (Equal lines) mine theirs compares =
    let by = answers_by_items at first second (entries_in one) (entries_in other) (end_in one) (end_in other) mine.0 theirs.0 in
    subst (λ n. IsTwin at first second (Equal n)) (sym compares.2) (by.2 compares.0 compares.1)
leads_answer at first second one other (LocalDiffer entry) mine theirs (inl differ) =
    (answers_by_items at first second (entries_in one) (entries_in other) (end_in one) (end_in other)
    mine.0 theirs.0).0 entry differ
leads_answer at first second one other (LocalDiffer entry) mine theirs (inr ends) =
    let by = answers_by_items at first second (entries_in one) (entries_in other) (end_in one) (end_in other) mine.0 theirs.0 in
    subst (λ n. IsTwin at first second (LocalDiffer n)) (sym ends.2) (by.1 ends.0 ends.1)
