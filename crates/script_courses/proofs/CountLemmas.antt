-- There are at most as many replies of a site as lines, and at most as many durable changes.
use Rattle.std.proofs.Common.{◌≡◌, ℕ, ◌+◌, ◌≤◌, Bool, true, false, cond, List, [], ◌∷◌, ◌++◌, Option, Some, None, length, map, refl, take, ap, arith}
use Rattle.std.proofs.lemmas.List.{length-append, length-map, length-take}
use Rattle.unwinding.specs.Admissible.{Acts, Reopens, Stretch, closed_steps, epochs, next_opening, stretch_steps}
use Rattle.unwinding.specs.Course.{Course, course_steps, executed_lines}
use Rattle.unwinding.specs.CourseSteps.{begins, last_opening}
use Rattle.unwinding.specs.Durable.{DurableChange, changes_of_site, restarted, when_of_site}
use Rattle.unwinding.specs.Epochs.{Epoch, acknowledged_replies, all_changes, world_replies}
use Rattle.unwinding.specs.LocalEntries.{local_entries}
use Rattle.unwinding.specs.LocalScript.{Happens, Restarts, happenings, local_items}
use Rattle.unwinding.specs.World.{of_site, replies, reply_of_site, world_after}
use Rattle.unwinding.proofs.CourseCounts.{all_few}
use Rattle.unwinding.proofs.Fronts.{length_replies}
use Rattle.suffix_list.specs.Suffix.{Rule}
use Rattle.origin_site.specs.Site.{PlainSite}
use Rattle.row_changes.specs.Change.{PlainChange}
use Rattle.script_actions.specs.Action.{PlainAction}
use Rattle.agent_model.specs.Lines.{AgentWorld}
use Rattle.agent_model.specs.SiteEvent.{Answer}
use Rattle.agent_model.specs.TheMachine.{machine}
use Rattle.durable_model.specs.Histories.{AgentOpening, AgentReply}
use Rattle.durable_model.specs.Keeping.{keeping}
use Rattle.local_scripts.specs.Items.{AgentEntry, AgentItem}
use Rattle.script_courses.specs.Collected.{Collected}
use Rattle.script_courses.specs.Courses.{closed_touched, collected_on, lines_tally}
use Rattle.script_courses.specs.Twins.{acknowledged_in}
use Rattle.script_courses.proofs.TwinLemmas.{acknowledged_is}

-- entries acknowledge nothing
no_restart : (es : List AgentEntry) → acknowledged_in (happenings es) ≡ 0
no_restart [] = refl
no_restart (e ∷ es) = no_restart es

behind : (items : List AgentItem) (es : List AgentEntry) → acknowledged_in (items ++ happenings es) ≡ acknowledged_in items
behind [] es = no_restart es
behind (Happens e ∷ items) es = behind items es
behind (Restarts moment acknowledged kept ∷ items) es = ap (λ n. acknowledged + n) (behind items es)

module _ (rules : List Rule) (site : PlainSite) where
  one_reply : (where_to : Option PlainSite) (answer : Answer) → length (reply_of_site (machine rules) site where_to answer) ≤ 1
  one_reply None answer = omega arith
  one_reply (Some other) answer = at ((machine rules).same_site site other)
    where
      at : (b : Bool) → length (cond b (answer ∷ []) []) ≤ 1
      at true = omega arith
      at false = omega arith

  few_replies : (told : List AgentReply) → length (of_site (machine rules) site told) ≤ length told
  few_replies [] = omega arith
  few_replies (one ∷ told) = omega (
    arith,
    length-append (reply_of_site (machine rules) site one.site one.reply)
        (of_site (machine rules) site told),
    one_reply one.site one.reply,
    few_replies told,
  )

  one_change : (b : Bool) (made : DurableChange PlainSite PlainChange) → length (when_of_site (machine rules) b made) ≤ 1
  one_change true made = omega arith
  one_change false made = omega arith

  few_changes : (made : List (DurableChange PlainSite PlainChange))
      → length (changes_of_site (machine rules) site made) ≤ length made
  few_changes [] = omega arith
  few_changes (one ∷ made) =
      let own = when_of_site (machine rules) ((machine rules).same_site site one.site) one in
      omega (
        arith,
        length-append own (changes_of_site (machine rules) site made),
        one_change ((machine rules).same_site site one.site) one,
        few_changes made,
      )

  -- of some lines
  replies_few : (w : AgentWorld) (ls : List PlainAction) → (lines_tally rules site w ls).replies ≤ length ls
  replies_few w ls = omega (arith, few_replies (replies (machine rules) w ls), length_replies (machine rules) w ls)

  changes_few : (w : AgentWorld) (ls : List PlainAction) → (lines_tally rules site w ls).changes ≤ length ls
  changes_few w ls = omega (arith, few_changes (all_changes (machine rules) w ls), all_few (machine rules) w ls)

  -- of closed epochs
  take_few : {A : Type 0} (n : ℕ) (xs : List A) → length (take n xs) ≤ length xs
  take_few n xs = omega (arith, length-take n xs)

  epoch_few : (w : AgentWorld) (e : Epoch PlainAction)
      → length (of_site (machine rules) site (acknowledged_replies (machine rules) w e)) ≤ length e.executed
  unfolding acknowledged_replies
  epoch_few w e =
      let told = replies (machine rules) w e.executed in
      omega (
        arith,
        few_replies (take e.acknowledged told),
        take_few e.acknowledged told,
        length_replies (machine rules) w e.executed,
      )

  closed_few : (x : AgentOpening) (ss : List (Stretch PlainAction))
      → length (world_replies (machine rules) keeping site x.rest x.state (epochs ss)) ≤ length (closed_steps ss)
  closed_few x [] = omega arith
  closed_few x (s ∷ ss) =
      let w : AgentWorld = restarted keeping x.rest x.state in
      let next = next_opening (machine rules) keeping x s in
      let here = of_site (machine rules) site (acknowledged_replies (machine rules) w s.epoch) in
      omega (
        arith,
        length-append here (world_replies (machine rules) keeping site next.rest next.state (epochs ss)),
        epoch_few w s.epoch,
        closed_few next ss,
        length-append (stretch_steps s ++ Reopens ∷ []) (closed_steps ss),
        length-append (stretch_steps s) (Reopens ∷ []),
        length-append (map (λ l. Acts l) s.epoch.executed) s.downs,
        length-map s.epoch.executed (λ (l : PlainAction). Acts l),
      )

  -- ---- a course

  module _ (x : AgentOpening) (r : Course PlainAction) where
    abbrev w : AgentWorld
    w = begins (machine rules) keeping (last_opening (machine rules) keeping x r)

    abbrev c : Collected
    c = collected_on rules site x r

    steps_length : length (closed_steps r.closed) + (length r.answered + length r.waiting) ≤ length (course_steps r)
    steps_length = omega (
      arith,
      length-append (closed_steps r.closed) (map (λ l. Acts l) (executed_lines r) ++ r.downs),
      length-append (map (λ l. Acts l) (executed_lines r)) r.downs,
      length-map (executed_lines r) (λ (l : PlainAction). Acts l),
      length-append r.answered r.waiting,
    )

    -- all replies of the site so far, and the durable changes of the open epoch
    pub few_told : acknowledged_in c.items + (c.answered.replies + c.waiting.replies) ≤ length (course_steps r)
    unfolding collected_on
    few_told =
        let m = machine rules in
        let entries = local_entries m site (closed_touched rules site [] x r.closed) w (executed_lines r) in
        omega (
          arith,
          behind (local_items m keeping site [] x.rest x.state (epochs r.closed)) entries,
          acknowledged_is rules site [] x.rest x.state (epochs r.closed),
          closed_few x r.closed,
          replies_few w r.answered,
          replies_few (world_after m w r.answered) r.waiting,
          steps_length,
        )

    pub few_made : c.answered.changes + c.waiting.changes ≤ length (course_steps r)
    unfolding collected_on
    few_made = omega (
      arith,
      steps_length,
      changes_few w r.answered,
      changes_few (world_after (machine rules) w r.answered) r.waiting,
    )
