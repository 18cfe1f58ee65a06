-- The laws of what is durable, from the facts.
use Rattle.std.proofs.Common.{◌≡◌, List, [], ◌∷◌, Option, Some, None, refl, sym, ap, subst, ◌∙◌}
use Rattle.unwinding.specs.World.{after_sides, outcome, world_step}
use Rattle.unwinding.specs.Durable.{DurableChange, IsKeptOf, apply_all, apply_changes, durable_change, line_changes, main_changes}
use Rattle.unwinding.specs.Laws.{RestartFacts}
use Rattle.unwinding.proofs.LawProofs as law
use Rattle.suffix_list.specs.Suffix.{Rule}
use Rattle.origin_site.specs.Site.{PlainSite}
use Rattle.row_changes.specs.Change.{PlainChange}
use Rattle.agent_model.specs.Lines.{AgentWorld, Rest, SiteOccurrence, main_event, no_places}
use Rattle.agent_model.specs.TheMachine.{machine}
use Rattle.agent_model.specs.Isolation.{answers_of, lines_alone}
use Rattle.agent_model.proofs.Isolated.{site_lines}
use Rattle.durable_model.specs.Saved.{Saved}
use Rattle.durable_model.specs.RowEdits.{AllAreValid, AreValid, after_all, after_change, after_changes}
use Rattle.durable_model.specs.Keeping.{durable_of, keeping}
use Rattle.durable_model.specs.Laws.{LinesAreValid, LinesKeep, OpensKept, RestartsProject, setting}
use Rattle.durable_model.specs.Histories.{HasIsolatedHistories, history_replies, history_run, history_script, opened_at}
use Rattle.durable_model.proofs.FactLemmas.{durable_facts, facts, keeping_facts, main_valid}
use Rattle.durable_model.proofs.ProjectLemmas.{changes_project}
use Rattle.durable_model.proofs.ValidLemmas.{opens_sound, valid_state}
use Rattle.durable_model.proofs.WorldLemmas.{line_sound}

restart_facts : (rules : List Rule) → RestartFacts (setting rules)
restart_facts rules = record { facts = facts rules; keeping = keeping_facts rules }

-- ---- one state for all sites

pub changes_projected : (d : Saved) (changes : List PlainChange) → durable_of (after_changes d changes) ≡ apply_changes keeping changes (durable_of d)
changes_projected d [] = refl
changes_projected d (change ∷ changes) = changes_projected (after_change d change) changes ∙ ap (apply_changes keeping changes) (changes_project d change)

pub all_projected : (d : Saved) (all : List (DurableChange PlainSite PlainChange)) → durable_of (after_all d all) ≡ apply_all keeping all (durable_of d)
all_projected d [] = refl
all_projected d (one ∷ more) = all_projected (after_changes d one.changes) more ∙ ap (apply_all keeping more) (changes_projected d one.changes)

pub opens_kept : OpensKept
opens_kept rules now d valid =
    let rest : Rest = record { now = now; places = no_places } in
    let all = valid_state d valid in
    (opens_sound rest (durable_of d) all, (law.durable_follows (setting rules)).opening (restart_facts rules) (durable_facts rules) rest (durable_of d) all)

pub lines_keep : LinesKeep
lines_keep rules world line d ok is =
    let made = line_changes (machine rules) world line in (
      line_sound rules world ok line,
      subst (IsKeptOf (machine rules) keeping (world_step (machine rules) world line)) (sym (all_projected d made))
          ((law.durable_follows (setting rules)).line (restart_facts rules) (durable_facts rules) world line (durable_of d) ok is),
    )

pub lines_valid : LinesAreValid
unfolding line_changes machine
lines_valid rules world line d ok is = by (main_event rules world line)
  where
    beside : AgentWorld
    beside = after_sides (machine rules) world line

    one : (site : PlainSite) (changes : List PlainChange) → AreValid d changes → AllAreValid d (durable_change (machine rules) site changes)
    one site [] valid = tt
    one site (change ∷ changes) valid = (valid, tt)

    by : (event : Option SiteOccurrence) → AllAreValid d (main_changes (machine rules) beside event)
    by None = tt
    by (Some a) = one a.site (outcome (machine rules) a.site (beside.partition a.site) world.cells a.event).changes (main_valid rules world line a d ok is)

-- ---- histories

pub restarts_project : RestartsProject
restarts_project rules = law.restart_projects (setting rules)

pub has_isolated_histories : HasIsolatedHistories
unfolding history_replies history_run history_script answers_of
has_isolated_histories rules restart down none none_down site start d valid history =
    let opening = opened_at start d in
    site_lines rules site (history_replies rules restart down opening history)
    ∙ ap (lines_alone site) (law.printed_unwound (setting rules) (restart_facts rules) restart down none none_down site opening (valid_state d valid) history)
