-- Which line gave an entry that was collected.
use Rattle.std.proofs.Common.{◌≡◌, ℕ, ◌+◌, ◌<◌, ◌≤◌, List, [], ◌∷◌, Some, None, length, map, slice_get, take, refl, sym, ap, subst, ◌∙◌, arith}
use Rattle.std.specs.Prelude.{option_map}
use Rattle.std.proofs.lemmas.List.{length-map, take-map}
use Rattle.std.proofs.lemmas.Option.{slice_get-map}
use Rattle.disk_model.specs.MemDisk.{view_of}
use Rattle.script_actions.specs.Action.{PlainLine, PlainStep}
use Rattle.script_actions.specs.Plain.{line_of, step_of}
use Rattle.script_actions.specs.declared.step.Line.{Line}
use Rattle.local_scripts.specs.Items.{item_of}
use Rattle.script_courses.specs.Collected.{closing, nothing_collected, with_commit}
use Rattle.script_courses.specs.GivenBy.{entries_given, line_steps}
use Rattle.script_courses.specs.Twins.{TwinSetting, script_in}
use Rattle.script_courses.proofs.LoopLemmas.{script_ends}
use Rattle.script_courses.proofs.TwinLemmas.{entries_are}
use Rattle.agent_core.specs.AgentView.{may_of}
use Rattle.store_runs.specs.Steps.{steps_of}
use Rattle.twins.specs.Collecting.{Collects, MemAgent}
use Rattle.twins.specs.Collectors.{collected_of}
use Rattle.twins.specs.EntryLines.{IsNumberAt}
use Rattle.twins.specs.declared.collector.Collector.{Collector}

-- the steps of lines, as contracts see them
pub steps_are : (lines : List Line) → line_steps (map line_of lines) ≡ steps_of lines
steps_are [] = refl
steps_are (line ∷ lines) = ap (λ rest. (line_of line).step ∷ rest) (steps_are lines)

-- so many entries were collected as the lines so far give
collected_count : (at : TwinSetting) (agent : MemAgent) (steps : List PlainStep) (found : Collector)
    → Collects at agent steps found → length found.items.items ≡ length (entries_given at steps)
collected_count at agent steps found here =
    let s = here.1 in
    let c = collected_of found here.0 in
    sym (length-map found.items.items item_of)
    ∙ ap length (sym (entries_are (script_in at steps).script.items (map item_of found.items.items)
    (closing s.a.world.rest.now (with_commit c))
    (script_ends at.rules at.batch at.site at.start s.a (may_of agent (view_of agent.disk)) steps c s.on s.quiet.0)))

-- the lines so far are the front of all
front : (lines : List Line) (n : ℕ) → steps_of (take n lines) ≡ take n (line_steps (map line_of lines))
front lines n = sym (take-map (λ (l : Line). step_of l.step) n lines) ∙ ap (take n) (sym (steps_are lines))

-- so many entries a run of the first lines gives
front_count : (at : TwinSetting) (agent : MemAgent) (lines : List Line) (n : ℕ) (found : Collector)
    → Collects at agent (steps_of (take n lines)) found
    → length found.items.items ≡ length (entries_given at (take n (line_steps (map line_of lines))))
front_count at agent lines n found here = collected_count at agent (steps_of (take n lines)) found here
    ∙ ap (λ ss. length (entries_given at ss)) (front lines n)

-- where all lines have run, an entry that is not there has no line
pub no_number : (at : TwinSetting) (agent : MemAgent) (lines : List Line) (found : Collector) (entry : ℕ)
    → Collects at agent (steps_of lines) found → length found.items.items ≤ entry
    → IsNumberAt at (map line_of lines) entry None
no_number at agent lines found entry here few = subst (λ n. n ≤ entry)
    (collected_count at agent (steps_of lines) found here
    ∙ ap (λ ss. length (entries_given at ss)) (sym (steps_are lines))) few

-- the line behind which an entry is first there has given it
pub number_of : (at : TwinSetting) (old new : MemAgent) (lines : List Line) (i : ℕ) (line : Line) (before after : Collector) (entry : ℕ)
    → i < length lines → slice_get lines i ≡ Some line
    → Collects at old (steps_of (take i lines)) before → length before.items.items ≤ entry
    → Collects at new (steps_of (take (i + 1) lines)) after → entry < length after.items.items
    → IsNumberAt at (map line_of lines) entry (Some line.number)
number_of at old new lines i line before after entry within is here few there more = (
  i,
  record {
    within = subst (λ n. i < n) (sym (length-map lines line_of) ∙ sym (length-map (map line_of lines) (λ (l : PlainLine). l.step))) within;
    before = subst (λ n. n ≤ entry) (front_count at old lines i before here) few;
    by = subst (λ n. entry < n) (front_count at new lines (i + 1) after there) more;
  },
  slice_get-map (λ (l : PlainLine). l.number) (map line_of lines) i
      ∙ ap (option_map (λ (l : PlainLine). l.number)) (slice_get-map line_of lines i ∙ ap (option_map line_of) is),
)

-- nothing was collected of a run that begins
pub nothing_found : (found : Collector) (entry : ℕ) → collected_of found 0 ≡ nothing_collected → length found.items.items ≤ entry
nothing_found found entry none = subst (λ n. n ≤ entry)
    (sym (sym (length-map found.items.items item_of) ∙ ap (λ k. length k.items) none)) (omega arith)
