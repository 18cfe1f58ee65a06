-- The entries of a run stay in a longer one, and each is given by one line.
use Rattle.std.proofs.Common.{◌≡◌, ◌⊎◌, inl, inr, ℕ, ◌+◌, ◌<◌, ◌≤◌, true, List, [], ◌∷◌, ◌++◌, take, drop, length, refl, sym, ap, subst, ◌∙◌, append_assoc, append-nil, arith}
use Rattle.std.proofs.lemmas.Bool.{cases_order}
use Rattle.std.proofs.lemmas.List.{length-append, take-append-drop, take-take}
use Rattle.unwinding.specs.Admissible.{Acts, Reopens}
use Rattle.unwinding.specs.Course.{IsAt}
use Rattle.unwinding.specs.CourseSteps.{SeenOf, committed, holding, last_opening, reopened}
use Rattle.unwinding.specs.LocalEntries.{line_entries}
use Rattle.unwinding.specs.LocalScript.{happenings}
use Rattle.unwinding.proofs.CourseSums.{length_held}
use Rattle.suffix_list.specs.Suffix.{Rule}
use Rattle.script_actions.specs.Action.{PlainAction, PlainStep}
use Rattle.agent_model.specs.TheMachine.{machine}
use Rattle.durable_model.specs.Keeping.{AgentDurable, keeping}
use Rattle.local_scripts.specs.Items.{AgentItem}
use Rattle.printed_model.specs.Histories.{begins_at}
use Rattle.script_courses.specs.Collected.{Collected, closing, nothing_collected, touched_by, with_commit, with_line, with_restart}
use Rattle.script_courses.specs.Courses.{OnScript}
use Rattle.script_courses.specs.GivenBy.{GivesByOne, IsGivenBy, KeepsEntries, entries_given}
use Rattle.script_courses.specs.Twins.{TwinSetting, script_in}
use Rattle.script_courses.proofs.LoopLemmas.{script_begins, script_ends, script_held, script_reopened, script_replied}
use Rattle.script_courses.proofs.TwinLemmas.{entries_are}

holding_up : (rules : List Rule) (a : SeenOf (machine rules) keeping) (line : PlainAction)
    → (holding (machine rules) keeping a line).up ≡ true
unfolding holding
holding_up rules a line = refl

committed_up : (rules : List Rule) (a : SeenOf (machine rules) keeping)
    → (committed (machine rules) keeping a).up ≡ true
unfolding committed
committed_up rules a = refl

module _ (at : TwinSetting) (some : 0 < at.batch) where
  abbrev Agent : Type 0
  Agent = SeenOf (machine at.rules) keeping

  -- a restart finds the base of an agent
  abbrev finds : Agent → AgentDurable → ℕ → Type 0
  finds a d n = IsAt a.base d n

  -- some agent that is up stands on a course of these lines, of which this is collected
  record Stands (steps : List PlainStep) (c : Collected) : Type 0 where
    pub a : Agent
    pub up : a.up ≡ true
    pub on : OnScript at.rules at.batch at.site (begins_at at.start) a (finds a) steps c

  -- after more lines, more is collected
  record StandsLater (steps : List PlainStep) (c : Collected) : Type 0 where
    pub now : Collected
    pub stands : Stands steps now
    pub more : List AgentItem
    pub items : now.items ≡ c.items ++ more

  reopened_up : (a : Agent) (d : AgentDurable)
      → (reopened (machine at.rules) keeping a.world.rest d).up ≡ true
  unfolding reopened
  reopened_up a d = refl

  begins : Stands [] nothing_collected
  unfolding reopened
  begins =
      let x = begins_at at.start in
      let a : Agent = reopened (machine at.rules) keeping x.rest x.state in
      record {
        a = a;
        up = refl;
        on = script_begins at.rules at.batch at.site x a (finds a) some refl (λ d n is. is);
      }

  module _ (steps : List PlainStep) (c : Collected) (s : Stands steps c) where
    -- less than a batch waits
    few_held : length s.a.held < at.batch
    few_held = omega (
      arith,
      length_held (machine at.rules) keeping
          (last_opening (machine at.rules) keeping (begins_at at.start) s.on.course) s.on.course s.a
          (s.on.on.up s.up).1,
      s.on.on.short,
    )

    held : (line : PlainAction) → length s.a.held + 1 < at.batch → StandsLater (steps ++ Acts line ∷ []) c
    held line less =
        let b : Agent = holding (machine at.rules) keeping s.a line in
        record {
          now = with_line at.rules at.site s.a.world line c;
          stands = record {
            a = b;
            up = holding_up at.rules s.a line;
            on = script_held at.rules at.batch at.site (begins_at at.start) s.a (finds s.a) steps c
                s.on line b (finds b) s.up less refl (λ d n is. is);
          };
          more = happenings (line_entries (machine at.rules) at.site (touched_by at.site c.changed) s.a.world line);
          items = refl;
        }

    replied : (line : PlainAction) → length s.a.held + 1 ≡ at.batch → StandsLater (steps ++ Acts line ∷ []) c
    replied line full =
        let b : Agent = committed (machine at.rules) keeping (holding (machine at.rules) keeping s.a line) in
        record {
          now = with_commit (with_line at.rules at.site s.a.world line c);
          stands = record {
            a = b;
            up = committed_up at.rules (holding (machine at.rules) keeping s.a line);
            on = script_replied at.rules at.batch at.site (begins_at at.start) s.a (finds s.a) steps c
                s.on line b (finds b) s.up full refl (λ d n is. is);
          };
          more = happenings (line_entries (machine at.rules) at.site (touched_by at.site c.changed) s.a.world line);
          items = refl;
        }

    restarted : StandsLater (steps ++ Reopens ∷ []) c
    restarted =
        let b : Agent = reopened (machine at.rules) keeping s.a.world.rest s.a.base.state in
        record {
          now = with_restart s.a.world.rest.now c;
          stands = record {
            a = b;
            up = reopened_up s.a s.a.base.state;
            on = script_reopened at.rules at.batch at.site (begins_at at.start) s.a (finds s.a) steps c
                s.on s.a.base.count s.a.base.state b (finds b) some (refl, refl) refl (λ d n is. is);
          };
          more = closing s.a.world.rest.now c ∷ [];
          items = refl;
        }

    one_later : (step : PlainStep) → StandsLater (steps ++ step ∷ []) c
    one_later Reopens = restarted
    one_later (Acts line) = by (cases_order (length s.a.held + 1) at.batch)
      where
        by : (length s.a.held + 1 ≡ at.batch) ⊎ ((length s.a.held + 1 < at.batch) ⊎ (at.batch < length s.a.held + 1))
            → StandsLater (steps ++ Acts line ∷ []) c
        by (inl full) = replied line full
        by (inr (inl less)) = held line less
        by (inr (inr over)) = let none : ⊥ = omega (arith, few_held, over) in absurd none

    -- what the local script of these lines has
    entries_collected : entries_given at steps ≡ c.items
    entries_collected = entries_are (script_in at steps).script.items c.items
        (closing s.a.world.rest.now (with_commit c))
        (script_ends at.rules at.batch at.site at.start s.a (finds s.a) steps c s.on s.up)

  later : (more steps : List PlainStep) (c : Collected) → Stands steps c → StandsLater (steps ++ more) c
  later [] steps c s = record {
    now = c;
    stands = subst (λ ss. Stands ss c) (sym (append-nil steps)) s;
    more = [];
    items = sym (append-nil c.items);
  }
  later (step ∷ more) steps c s =
      let one = one_later steps c s step in
      let all = later more (steps ++ step ∷ []) one.now one.stands in
      record {
        now = all.now;
        stands = subst (λ ss. Stands ss all.now) (append_assoc steps (step ∷ []) more) all.stands;
        more = one.more ++ all.more;
        items = all.items ∙ ap (λ xs. xs ++ all.more) one.items ∙ append_assoc c.items one.more all.more;
      }

  kept : (steps more : List PlainStep)
      → (rest : List AgentItem) × (entries_given at (steps ++ more) ≡ entries_given at steps ++ rest)
  kept steps more =
      let one = later steps [] nothing_collected begins in
      let all = later more steps one.now one.stands in (
        all.more,
        entries_collected (steps ++ more) all.now all.stands ∙ all.items
            ∙ ap (λ xs. xs ++ all.more) (sym (entries_collected steps one.now one.stands)),
      )

  -- a longer run gives as many entries, or more
  pub entries_grow : (steps more : List PlainStep)
      → length (entries_given at steps) ≤ length (entries_given at (steps ++ more))
  entries_grow steps more =
      let all = kept steps more in
      omega (arith, ap length all.1, length-append (entries_given at steps) all.0)

  -- and so does one that is cut off later
  fronts_grow : (steps : List PlainStep) (i j : ℕ) → i ≤ j
      → length (entries_given at (take i steps)) ≤ length (entries_given at (take j steps))
  fronts_grow steps i j less =
      let front : take j steps ≡ take i steps ++ drop i (take j steps) =
      sym (take-append-drop i (take j steps)) ∙ ap (λ ss. ss ++ drop i (take j steps)) (take-take i j steps less) in
      omega (
        arith,
        entries_grow (take i steps) (drop i (take j steps)),
        ap (λ ss. length (entries_given at ss)) front,
      )

  not_later : (steps : List PlainStep) (place index other : ℕ) → IsGivenBy at steps place index
      → IsGivenBy at steps place other → index < other → ⊥
  not_later steps place index other here there less =
      omega (arith, here.by, there.before, fronts_grow steps (index + 1) other (omega (arith, less)))

pub keeps_entries : KeepsEntries
keeps_entries at steps more some = kept at some steps more

pub gives_by_one : GivesByOne
gives_by_one at steps place index other some here there = by (cases_order index other)
  where
    by : (index ≡ other) ⊎ ((index < other) ⊎ (other < index)) → index ≡ other
    by (inl same) = same
    by (inr (inl less)) = absurd (not_later at some steps place index other here there less)
    by (inr (inr more)) = absurd (not_later at some steps place other index there here more)
