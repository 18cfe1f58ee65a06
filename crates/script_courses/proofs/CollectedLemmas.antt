-- How what is to be collected of a course grows, and that it is the local script in the end.
use Rattle.std.proofs.Common.{◌≡◌, ℕ, Bool, List, [], ◌∷◌, ◌++◌, length, take, refl, sym, ap, ◌∙◌, append_assoc, append-nil, arith}
use Rattle.std.proofs.lemmas.List.{length-append}
use Rattle.std.proofs.Math.Seq.{take-append_seam}
use Rattle.unwinding.specs.Admissible.{Stretch, epochs, interrupted_line, next_opening, opening_after}
use Rattle.unwinding.specs.Course.{Course, answer_all, executed_lines, reopen, stretch_of, wait}
use Rattle.unwinding.specs.CourseSteps.{begins, holding, last_opening, stands}
use Rattle.unwinding.specs.Durable.{DurableChange, changes_of_site, line_changes}
use Rattle.unwinding.specs.Epochs.{Epoch, acknowledged_replies, all_changes, kept_changes, tried, with_interrupted}
use Rattle.unwinding.specs.LocalEntries.{line_entries, line_touched, local_entries, touched_after}
use Rattle.unwinding.specs.LocalScript.{Restarts, happenings, local_items}
use Rattle.unwinding.specs.World.{line_reply, of_site, replies, world_after, world_step}
use Rattle.unwinding.proofs.Fronts.{all_changes_append, changes_append, length_replies, of_site_append, replies_append, world_append}
use Rattle.suffix_list.specs.Suffix.{Rule}
use Rattle.origin_site.specs.Site.{PlainSite}
use Rattle.row_changes.specs.Change.{PlainChange}
use Rattle.script_actions.specs.Action.{PlainAction}
use Rattle.agent_model.specs.CookieCells.{Domain}
use Rattle.agent_model.specs.Lines.{AgentWorld}
use Rattle.agent_model.specs.TheMachine.{machine}
use Rattle.durable_model.specs.Histories.{AgentOpening, AgentReply, history_script}
use Rattle.durable_model.specs.Keeping.{keeping}
use Rattle.local_scripts.specs.Items.{AgentEntry, AgentItem}
use Rattle.script_courses.specs.Collected.{Collected, both, closing, line_tally, tally_of, touched_by, with_commit, with_line, with_restart}
use Rattle.script_courses.specs.Courses.{closed_touched, collected_on, committed_on, lines_tally, world_on}
use Rattle.script_courses.specs.Laws.{BeginsWithNothing, EndsWithScript, GrowsByCommit, GrowsByLine, GrowsByRestart, HoldsMore, WaitsAsHeld}
use Rattle.script_courses.proofs.TouchedLemmas.{entries_same, has_own, own_kept, touched_same}

happenings_append : (es fs : List AgentEntry) → happenings (es ++ fs) ≡ happenings es ++ happenings fs
happenings_append [] fs = refl
happenings_append (e ∷ es) fs = ap (λ is. happenings (e ∷ []) ++ is) (happenings_append es fs)

epochs_more : (ss : List (Stretch PlainAction)) (s : Stretch PlainAction) → epochs (ss ++ s ∷ []) ≡ epochs ss ++ s.epoch ∷ []
epochs_more [] s = refl
epochs_more (t ∷ ss) s = ap (λ es. t.epoch ∷ es) (epochs_more ss s)

module _ (rules : List Rule) (site : PlainSite) where
  -- ---- some lines, and more

  entries_append : (touched : List Domain) (w : AgentWorld) (ls ks : List PlainAction)
      → local_entries (machine rules) site touched w (ls ++ ks)
      ≡ local_entries (machine rules) site touched w ls
      ++ local_entries (machine rules) site (touched_after (machine rules) site touched w ls)
      (world_after (machine rules) w ls) ks
  entries_append touched w [] ks = refl
  entries_append touched w (l ∷ ls) ks =
      ap (λ es. line_entries (machine rules) site touched w l ++ es)
      (entries_append (line_touched (machine rules) site touched w l) (world_step (machine rules) w l) ls ks)
      ∙ sym (append_assoc (line_entries (machine rules) site touched w l) _ _)

  touched_append : (touched : List Domain) (w : AgentWorld) (ls ks : List PlainAction)
      → touched_after (machine rules) site touched w (ls ++ ks)
      ≡ touched_after (machine rules) site (touched_after (machine rules) site touched w ls) (world_after (machine rules) w ls) ks
  touched_append touched w [] ks = refl
  touched_append touched w (l ∷ ls) ks = touched_append (line_touched (machine rules) site touched w l)
      (world_step (machine rules) w l) ls ks

  tally_append : (told more : List AgentReply) (made new : List (DurableChange PlainSite PlainChange))
      → tally_of rules site (told ++ more) (made ++ new) ≡ both (tally_of rules site told made) (tally_of rules site more new)
  tally_append told more made new =
      let replies_sum = ap length (of_site_append (machine rules) site told more)
      ∙ length-append (of_site (machine rules) site told) (of_site (machine rules) site more) in
      let changes_sum = ap length (changes_append (machine rules) site made new)
      ∙ length-append (changes_of_site (machine rules) site made) (changes_of_site (machine rules) site new) in
      λ i. record { replies = replies_sum i; changes = changes_sum i }

  lines_append : (w : AgentWorld) (ls ks : List PlainAction)
      → lines_tally rules site w (ls ++ ks) ≡ both (lines_tally rules site w ls)
      (lines_tally rules site (world_after (machine rules) w ls) ks)
  lines_append w ls ks =
      (λ i. tally_of rules site (replies_append (machine rules) w ls ks i) (all_changes_append (machine rules) w ls ks i))
      ∙ tally_append (replies (machine rules) w ls) _ (all_changes (machine rules) w ls) _

  one_line : (w : AgentWorld) (l : PlainAction) → lines_tally rules site w (l ∷ []) ≡ line_tally rules site w l
  one_line w l = ap (tally_of rules site (line_reply (machine rules) w l ∷ [])) (append-nil (line_changes (machine rules) w l))

  -- ---- closed epochs, and one more

  items_append : (touched : List Domain) (x : AgentOpening) (ss : List (Stretch PlainAction)) (es : List (Epoch PlainAction))
      → let o = opening_after (machine rules) keeping x ss in
      local_items (machine rules) keeping site touched x.rest x.state (epochs ss ++ es)
      ≡ local_items (machine rules) keeping site touched x.rest x.state (epochs ss)
      ++ local_items (machine rules) keeping site (closed_touched rules site touched x ss) o.rest o.state es
  items_append touched x [] es = refl
  items_append touched x (s ∷ ss) es =
      let w = begins (machine rules) keeping x in
      let here = happenings (local_entries (machine rules) site touched w (tried s.epoch)) in
      let restart : AgentItem =
      Restarts ((machine rules).moment (world_after (machine rules) w s.epoch.executed).rest)
      (length (of_site (machine rules) site (acknowledged_replies (machine rules) w s.epoch)))
      (length (changes_of_site (machine rules) site (kept_changes (machine rules) w s.epoch))) in
      ap (λ is. here ++ restart ∷ is)
      (items_append (touched_after (machine rules) site touched w (tried s.epoch))
      (next_opening (machine rules) keeping x s) ss es)
      ∙ sym (append_assoc here _ _)

  touched_more : (touched : List Domain) (x : AgentOpening) (ss : List (Stretch PlainAction)) (s : Stretch PlainAction)
      → closed_touched rules site touched x (ss ++ s ∷ [])
      ≡ touched_after (machine rules) site (closed_touched rules site touched x ss)
      (begins (machine rules) keeping (opening_after (machine rules) keeping x ss)) (tried s.epoch)
  touched_more touched x [] s = refl
  touched_more touched x (t ∷ ss) s =
      touched_more (touched_after (machine rules) site touched (begins (machine rules) keeping x)
      (tried t.epoch)) (next_opening (machine rules) keeping x t) ss s

  -- ---- a course

  module _ (x : AgentOpening) (r : Course PlainAction) where
    -- where its open epoch began, and what others had left different there
    abbrev o : AgentOpening
    o = last_opening (machine rules) keeping x r

    abbrev w : AgentWorld
    w = begins (machine rules) keeping o

    abbrev before : List Domain
    before = closed_touched rules site [] x r.closed

    -- the items of its closed epochs, and the entries of the open one
    abbrev closed_items : List AgentItem
    closed_items = local_items (machine rules) keeping site [] x.rest x.state (epochs r.closed)

    abbrev open_items : List PlainAction → List AgentItem
    open_items ls = happenings (local_entries (machine rules) site before w ls)

    abbrev c : Collected
    c = collected_on rules site x r

    abbrev now : ℕ
    now = (world_on rules x r).rest.now

    abbrev left : Bool
    left = has_own site (touched_after (machine rules) site before w (executed_lines r))

    -- one line more
    open_more : (l : PlainAction) → open_items (executed_lines (wait r l)) ≡ open_items (executed_lines r)
        ++ happenings (line_entries (machine rules) site (touched_by site left) (world_on rules x r) l)
    open_more l =
        let v = world_on rules x r in
        let others = touched_after (machine rules) site before w (executed_lines r) in
        ap open_items (sym (append_assoc r.answered r.waiting (l ∷ [])))
        ∙ ap happenings (entries_append before w (executed_lines r) (l ∷ []))
        ∙ happenings_append (local_entries (machine rules) site before w (executed_lines r))
        (line_entries (machine rules) site others v l ++ [])
        ∙ ap (λ es. open_items (executed_lines r) ++ happenings es)
        (append-nil (line_entries (machine rules) site others v l)
        ∙ entries_same rules site others (touched_by site left) (sym (own_kept site left)) v l)

    left_more : (l : PlainAction)
        → has_own site (touched_after (machine rules) site before w (executed_lines (wait r l)))
        ≡ has_own site (line_touched (machine rules) site (touched_by site left) (world_on rules x r) l)
    left_more l =
        let others = touched_after (machine rules) site before w (executed_lines r) in
        ap (λ ls. has_own site (touched_after (machine rules) site before w ls))
        (sym (append_assoc r.answered r.waiting (l ∷ [])))
        ∙ ap (has_own site) (touched_append before w (executed_lines r) (l ∷ []))
        ∙ touched_same rules site others (touched_by site left) (sym (own_kept site left)) (world_on rules x r) l

    waiting_more : (l : PlainAction)
        → lines_tally rules site (world_after (machine rules) w r.answered) (r.waiting ++ l ∷ [])
        ≡ both (lines_tally rules site (world_after (machine rules) w r.answered) r.waiting)
        (line_tally rules site (world_on rules x r) l)
    waiting_more l =
        let v = world_after (machine rules) w r.answered in
        lines_append v r.waiting (l ∷ [])
        ∙ ap (both (lines_tally rules site v r.waiting))
        (one_line (world_after (machine rules) v r.waiting) l
        ∙ ap (λ u. line_tally rules site u l) (sym (world_append (machine rules) w r.answered r.waiting)))

    line_grows : (l : PlainAction) → collected_on rules site x (wait r l) ≡ with_line rules site (world_on rules x r) l c
    unfolding collected_on
    line_grows l =
        let items = ap (λ is. closed_items ++ is) (open_more l)
        ∙ sym (append_assoc closed_items (open_items (executed_lines r)) _) in
        λ i. record {
          items = items i;
          changed = left_more l i;
          answered =
              lines_tally rules site w r.answered;
          waiting = waiting_more l i;
        }

    commit_grows : collected_on rules site x (answer_all r) ≡ with_commit c
    unfolding collected_on
    commit_grows =
        let lines : executed_lines (answer_all r) ≡ executed_lines r = append-nil (executed_lines r) in
        let answered = lines_append w r.answered r.waiting in
        λ i. record {
          items = closed_items ++ open_items (lines i);
          changed = has_own site (touched_after (machine rules) site before w (lines i));
          answered = answered i;
          waiting = record { replies = 0; changes = 0 };
        }

    -- ---- the open epoch is closed

    module _ (kept : ℕ) (none : r.downs ≡ []) (is : kept ≡ committed_on rules x r) where
      abbrev e : Epoch PlainAction
      e = (stretch_of r kept).epoch

      all_tried : tried e ≡ executed_lines r
      all_tried = ap (λ ds. with_interrupted (executed_lines r) (interrupted_line ds)) none

      told : acknowledged_replies (machine rules) w e ≡ replies (machine rules) w r.answered
      unfolding acknowledged_replies
      told =
          ap (λ n. take n (replies (machine rules) w (executed_lines r))) (sym (length_replies (machine rules) w r.answered))
          ∙ ap (take (length (replies (machine rules) w r.answered))) (replies_append (machine rules) w r.answered r.waiting)
          ∙ take-append_seam (replies (machine rules) w r.answered) _

      made : kept_changes (machine rules) w e ≡ all_changes (machine rules) w r.answered
      made =
          let number : kept ≡ length (all_changes (machine rules) w r.answered) = omega (arith, is) in
          ap (λ ls. take kept (all_changes (machine rules) w ls)) all_tried
          ∙ ap (λ n. take n (all_changes (machine rules) w (executed_lines r))) number
          ∙ ap (take (length (all_changes (machine rules) w r.answered)))
          (all_changes_append (machine rules) w r.answered r.waiting)
          ∙ take-append_seam (all_changes (machine rules) w r.answered) _

      closes : local_items (machine rules) keeping site before o.rest o.state (e ∷ [])
          ≡ open_items (executed_lines r) ++ closing now c ∷ []
      unfolding collected_on machine
      closes = λ i.
          open_items (all_tried i)
          ++ Restarts now (length (of_site (machine rules) site (told i)))
          (length (changes_of_site (machine rules) site (made i))) ∷ []

      closed_more : local_items (machine rules) keeping site [] x.rest x.state (epochs r.closed ++ e ∷ [])
          ≡ (with_restart now c).items
      unfolding collected_on
      closed_more = items_append [] x r.closed (e ∷ []) ∙ ap (λ is. closed_items ++ is) closes
          ∙ sym (append_assoc closed_items (open_items (executed_lines r)) _)

      restart_grows : collected_on rules site x (reopen r kept) ≡ with_restart now c
      unfolding collected_on
      restart_grows =
          let items =
          append-nil (local_items (machine rules) keeping site [] x.rest x.state (epochs (r.closed ++ stretch_of r kept ∷ [])))
          ∙ ap (local_items (machine rules) keeping site [] x.rest x.state)
          (epochs_more r.closed (stretch_of r kept)) ∙ closed_more in
          let changed = ap (has_own site) (touched_more [] x r.closed (stretch_of r kept))
          ∙ ap (λ ls. has_own site (touched_after (machine rules) site before w ls)) all_tried in
          λ i. record {
            items = items i;
            changed = changed i;
            answered =
                record { replies = 0; changes = 0 };
            waiting = record { replies = 0; changes = 0 };
          }

    waits : (collected_on rules site x r).waiting
        ≡ tally_of rules site (stands (machine rules) keeping o r).held (stands (machine rules) keeping o r).pending
    unfolding collected_on stands
    waits = refl

pub begins_with_nothing : BeginsWithNothing
unfolding collected_on
begins_with_nothing rules site x = refl

pub grows_by_line : GrowsByLine
grows_by_line rules site x r l = line_grows rules site x r l

pub grows_by_commit : GrowsByCommit
grows_by_commit rules site x r = commit_grows rules site x r

pub grows_by_restart : GrowsByRestart
grows_by_restart rules site x r kept none is = restart_grows rules site x r kept none is

pub ends_with_script : EndsWithScript
unfolding history_script
ends_with_script rules site x r committed none = closed_more rules site x r (committed_on rules x r) none refl

pub waits_as_held : WaitsAsHeld
waits_as_held rules site x r = waits rules site x r

pub holds_more : HoldsMore
unfolding holding
holds_more rules site a l = tally_append rules site a.held (line_reply (machine rules) a.world l ∷ [])
    a.pending (line_changes (machine rules) a.world l)
