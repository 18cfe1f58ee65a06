-- How an agent that stands on a course goes on, and what is collected of it.
use Rattle.std.proofs.Common.{◌≡◌, ℕ, suc, ◌+◌, ◌<◌, ◌≤◌, ◌^◌, Bool, true, false, cond, List, [], ◌∷◌, ◌++◌, length, map, refl, sym, ap, subst, ◌∙◌, arith}
use Rattle.std.specs.Prelude.{filter}
use Rattle.std.proofs.lemmas.List.{length-append}
use Rattle.unwinding.specs.Admissible.{Acts, Reopens}
use Rattle.unwinding.specs.Course.{AtBase}
use Rattle.unwinding.specs.CourseSteps.{committed, holding, reopened}
use Rattle.unwinding.specs.Durable.{changes_of_site, line_changes}
use Rattle.unwinding.specs.World.{line_reply, of_site}
use Rattle.disk_model.specs.MemDisk.{view_of}
use Rattle.suffix_list.specs.Suffix.{Rule}
use Rattle.origin_site.specs.Site.{PlainSite}
use Rattle.storage_key.specs.Context.{is_of}
use Rattle.script_actions.specs.Action.{PlainAction, PlainStep}
use Rattle.reply_lines.specs.Plain.{reply_of}
use Rattle.reply_lines.specs.declared.reply.Reply.{Reply}
use Rattle.agent_model.specs.Isolation.{printed}
use Rattle.agent_model.specs.TheMachine.{machine}
use Rattle.durable_model.specs.Histories.{AgentReply}
use Rattle.durable_model.specs.Keeping.{AgentDurable, keeping}
use Rattle.local_scripts.specs.Items.{item_of}
use Rattle.local_scripts.specs.declared.item.Item.TheVariants as item
use Rattle.printed_model.specs.Histories.{begins_at}
use Rattle.script_courses.specs.Collected.{Collected, closing, with_commit, with_line, with_restart}
use Rattle.script_courses.specs.Courses.{OnScript}
use Rattle.script_courses.specs.Twins.{TwinSetting, acknowledged_in}
use Rattle.script_courses.proofs.CollectedLemmas.{holds_more}
use Rattle.script_courses.proofs.LoopLemmas.{script_count, script_ends, script_held, script_made, script_reopened, script_replied, script_told, script_waits}
use Rattle.script_courses.proofs.TwinLemmas.{count_given}
use Rattle.agent_core.specs.AgentView.{may_of}
use Rattle.agent_core.specs.Flushing.{KeepsOptions}
use Rattle.agent_core.specs.Means.{Fits, after_commit, after_line}
use Rattle.agent_core.specs.Seen.{AgentSeen, IsSeen}
use Rattle.store_runs.specs.Calls.{IsQuiet}
use Rattle.twins.specs.Collectors.{collected_of}
use Rattle.twins.specs.Collecting.{Collects, IsStill, MemAgent, StandsOnCourse, TakesLine}
use Rattle.twins.specs.Scripts.{Gives, entries_in}
use Rattle.twins.specs.declared.collector.Collector.{Collector}
use Rattle.twins.specs.declared.scripts.LocalScript.{LocalScript}
use Rattle.twins.proofs.CountLemmas.{acknowledged_append}

pub held_up : (rules : List Rule) (a : AgentSeen) (line : PlainAction) → (after_line rules a line).up ≡ true
unfolding holding
held_up rules a line = refl

pub replied_up : (rules : List Rule) (a : AgentSeen) → (after_commit rules a).up ≡ true
unfolding committed
replied_up rules a = refl

pub reopened_up : (rules : List Rule) (a : AgentSeen) (d : AgentDurable)
    → (reopened (machine rules) keeping a.world.rest d).up ≡ true
unfolding reopened
reopened_up rules a d = refl

-- how many replies of the site are given out
filter_map : (site : PlainSite) (given : List Reply)
    → length (filter (λ reply. is_of site (reply_of reply).site) given)
    ≡ length (filter (λ one. is_of site one.site) (map reply_of given))
filter_map site [] = refl
filter_map site (reply ∷ given) = at (is_of site (reply_of reply).site) (filter_map site given)
  where
    at : (b : Bool) → length (filter (λ one. is_of site (reply_of one).site) given)
        ≡ length (filter (λ one. is_of site one.site) (map reply_of given))
        → length (cond b (reply ∷ filter (λ one. is_of site (reply_of one).site) given)
        (filter (λ one. is_of site (reply_of one).site) given))
        ≡ length (cond b (reply_of reply ∷ filter (λ one. is_of site one.site) (map reply_of given))
        (filter (λ one. is_of site one.site) (map reply_of given)))
    at true rest = ap suc rest
    at false rest = rest

pub given_count : (rules : List Rule) (site : PlainSite) (given : List Reply) (told : List AgentReply)
    → map reply_of given ≡ map printed told
    → length (filter (λ reply. is_of site (reply_of reply).site) given) ≡ length (of_site (machine rules) site told)
given_count rules site given told is = filter_map site given
    ∙ ap (λ rs. length (filter (λ one. is_of site one.site) rs)) is ∙ count_given rules site told

module _ (at : TwinSetting) (old : MemAgent) (steps : List PlainStep) (before : Collector) (waiting : ℕ)
    (s : StandsOnCourse at old steps (collected_of before waiting)) (fits : length steps + 1 < 2 ^ 64) where
  abbrev c : Collected
  c = collected_of before waiting

  abbrev may : AgentDurable → ℕ → Type 0
  may = may_of old (view_of old.disk)

  pub stands_still : IsStill old
  stands_still = (s.a, s.seen, s.quiet)

  -- a line may run
  pub stands_fit : Fits s.a
  stands_fit up = omega (arith, script_count at.rules at.batch at.site (begins_at at.start) s.a may steps c s.on up, fits)

  -- what waits is the site's of what is held
  waits_held : waiting ≡ length (of_site (machine at.rules) at.site s.a.held)
  waits_held = ap (λ tally. tally.replies) (script_waits at.rules at.batch at.site (begins_at at.start)
      s.a may steps c s.on s.quiet.0)

  module _ (new : MemAgent) (after : Collector) (b : AgentSeen) (seen : IsSeen new (view_of new.disk) b)
      (goes : KeepsOptions old new) (quiet : IsQuiet b (view_of new.disk)) where
    abbrev may' : AgentDurable → ℕ → Type 0
    may' = may_of new (view_of new.disk)

    -- by what is collected now
    stands_now : (more : List PlainStep) (now : Collected)
        → OnScript at.rules at.batch at.site (begins_at at.start) b may' more now → (left : ℕ)
        → collected_of after left ≡ now → Collects at new more after
    stands_now more now on left is = (
      left,
      record {
        rules = goes.0 ∙ s.rules;
        batch = goes.2 ∙ s.batch;
        some = s.some;
        a = b;
        seen = seen;
        quiet = quiet;
        on = subst (λ k. OnScript at.rules at.batch at.site (begins_at at.start) b may' more k) (sym is) on;
      },
    )

    module _ (line : PlainAction) where
      abbrev told : ℕ
      told = length (of_site (machine at.rules) at.site (line_reply (machine at.rules) s.a.world line ∷ []))

      abbrev made : ℕ
      made = length (changes_of_site (machine at.rules) at.site (line_changes (machine at.rules) s.a.world line))

      abbrev more : List PlainStep
      more = steps ++ Acts line ∷ []

      one_more : length more ≡ length steps + 1
      one_more = length-append steps (Acts line ∷ [])

      -- a line that waits for its batch
      pub stands_held : length s.a.held + 1 < at.batch → b ≡ after_line at.rules s.a line → AtBase b.base may'
          → TakesLine at.rules at.site s.a.world line before after → Collects at new more after
      stands_held less is base takes =
          let now = with_line at.rules at.site s.a.world line c in
          let on = script_held at.rules at.batch at.site (begins_at at.start)
          s.a may steps c s.on line b may' s.quiet.0 less is base in
          let few : before.waiting + made < 2 ^ 64 =
          omega (arith, script_made at.rules at.batch at.site (begins_at at.start) b may' more now on, one_more, fits) in
          stands_now more now on (waiting + told) (takes waiting few)

      -- what is given out is what waited, and the line's own
      all_told : length (of_site (machine at.rules) at.site (after_line at.rules s.a line).held) ≡ waiting + told
      all_told = ap (λ tally. tally.replies) (holds_more at.rules at.site s.a line) ∙ ap (λ n. n + told) (sym waits_held)

      -- a line that ends its batch
      pub stands_replied : (mid : Collector) (n : ℕ) → length s.a.held + 1 ≡ at.batch
          → b ≡ after_commit at.rules (after_line at.rules s.a line) → AtBase b.base may'
          → TakesLine at.rules at.site s.a.world line before mid
          → n ≡ length (of_site (machine at.rules) at.site (after_line at.rules s.a line).held)
          → (mid.replies + n < 2 ^ 64 → mid.changes + mid.waiting < 2 ^ 64
          → collected_of after 0 ≡ with_commit (collected_of mid n)) → Collects at new more after
      stands_replied mid n full is base takes count commits =
          let now = with_commit (with_line at.rules at.site s.a.world line c) in
          let on = script_replied at.rules at.batch at.site (begins_at at.start)
          s.a may steps c s.on line b may' s.quiet.0 full is base in
          let few_made : before.changes + (before.waiting + made) + 0 ≤ length more =
          script_made at.rules at.batch at.site (begins_at at.start) b may' more now on in
          let few_told : before.replies + (waiting + told) + 0 ≤ length more =
          omega (arith, script_told at.rules at.batch at.site (begins_at at.start) b may' more now on) in
          let took = takes waiting (omega (arith, few_made, one_more, fits)) in
          let all : n ≡ waiting + told = count ∙ all_told in
          let replies : mid.replies ≡ before.replies = ap (λ (k : Collected). k.answered.replies) took in
          let changes : mid.changes ≡ before.changes = ap (λ (k : Collected). k.answered.changes) took in
          let waits : mid.waiting ≡ before.waiting + made = ap (λ (k : Collected). k.waiting.changes) took in
          stands_now more now on 0 (
          commits (omega (arith, few_told, one_more, fits, all, replies))
          (omega (arith, few_made, one_more, fits, changes, waits))
          ∙ ap (λ k. with_commit (collected_of mid k)) all ∙ ap with_commit took
          )

    -- a restart
    pub stands_reopened : (moment kept : ℕ) (d : AgentDurable) → may d kept
        → b ≡ reopened (machine at.rules) keeping s.a.world.rest d → AtBase b.base may' → moment ≡ old.now
        → ((left : ℕ) → collected_of after 0 ≡ with_restart moment (collected_of before left))
        → Collects at new (steps ++ Reopens ∷ []) after
    stands_reopened moment kept d left is base clock restarts =
        let on = script_reopened at.rules at.batch at.site (begins_at at.start)
        s.a may steps c s.on kept d b may' s.some left is base in
        stands_now (steps ++ Reopens ∷ []) (with_restart s.a.world.rest.now c) on 0
        (restarts waiting ∙ ap (λ t. with_restart t c) (clock ∙ sym s.seen.clock))

  -- the end
  pub stands_end : (moment n : ℕ) (after : Collector) (script : LocalScript) → moment ≡ old.now
      → n ≡ length (of_site (machine at.rules) at.site s.a.held)
      → (before.replies + n < 2 ^ 64 → before.changes + before.waiting < 2 ^ 64
      → collected_of after 0 ≡ with_commit (collected_of before n))
      → entries_in script ≡ map item_of after.items.items
      → ((left : ℕ) → item_of (item.Restarts script.end) ≡ closing moment (collected_of after left)) → Gives at steps script
  stands_end moment n after script clock count commits entries ends =
      let few_made : before.changes + before.waiting ≤ length steps =
      script_made at.rules at.batch at.site (begins_at at.start) s.a may steps c s.on in
      let few_told : acknowledged_in (map item_of before.items.items) + (before.replies + waiting) ≤ length
      steps = script_told at.rules at.batch at.site (begins_at at.start) s.a may steps c s.on in
      let all : n ≡ waiting = count ∙ sym waits_held in
      let took : collected_of after 0 ≡ with_commit c =
      commits (omega (arith, few_told, fits, all)) (omega (arith, few_made, fits))
      ∙ ap (λ k. with_commit (collected_of before k)) all in
      let items : entries_in script ≡ map item_of before.items.items = entries ∙ ap (λ (k : Collected). k.items) took in
      let end : item_of (item.Restarts script.end) ≡ closing s.a.world.rest.now (with_commit c) =
      ends 0 ∙ (λ i. closing ((clock ∙ sym s.seen.clock) i) (took i)) in
      let acknowledged : acknowledged_in (item_of (item.Restarts script.end) ∷ [])
      ≡ before.replies + waiting + 0 = ap (λ x. acknowledged_in (x ∷ [])) end in (
        script_ends at.rules at.batch at.site at.start s.a may steps c s.on s.quiet.0 ∙ (λ i. sym items i ++ sym end i ∷ []),
        omega (
          arith,
          few_told,
          fits,
          acknowledged_append (entries_in script)
              (item_of (item.Restarts script.end) ∷ []),
          acknowledged,
          ap acknowledged_in items,
        ),
      )
