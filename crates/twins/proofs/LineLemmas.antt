-- What is collected of a line that ran.
use Rattle.std.proofs.Common.{◌≡◌, ℕ, ◌+◌, ◌-◌, Bool, true, false, not, cond, ◌&&◌, ◌||◌, List, [], ◌∷◌, ◌++◌, length, map, refl, sym, ap, ◌∙◌, arith}
use Rattle.std.specs.Prelude.{◌↔◌, IsTrue, bytes_eq}
use Rattle.std.proofs.lemmas.List.{length-append}
use Rattle.std.proofs.lemmas.Slice.Eq.{bytes_eq-Decides}
use Rattle.unwinding.specs.CourseSteps.{committed, holding}
use Rattle.unwinding.specs.Durable.{DurableChange, changes_of_site, line_changes}
use Rattle.unwinding.specs.FiniteCells.{get_cell}
use Rattle.unwinding.specs.LocalScript.{happenings}
use Rattle.unwinding.specs.World.{is_in, line_reply, of_site, world_step}
use Rattle.suffix_list.specs.Suffix.{Rule}
use Rattle.origin_site.specs.Site.{PlainSite}
use Rattle.row_changes.specs.Change.{PlainChange}
use Rattle.script_actions.specs.Action.{PlainAction}
use Rattle.agent_model.specs.CookieCells.{Cookies, Domain, domain_order}
use Rattle.agent_model.proofs.CookieCellsLemmas.{equal_cookies-Decides}
use Rattle.agent_model.specs.Lines.{AgentWorld}
use Rattle.agent_model.specs.TheMachine.{machine}
use Rattle.local_scripts.specs.Items.{entry_of, item_of}
use Rattle.script_courses.specs.Collected.{touched_by}
use Rattle.local_scripts.specs.Laws.{are_same}
use Rattle.local_scripts.specs.Seen.{IsGivenIn}
use Rattle.local_scripts.proofs.LawLemmas.{changes, touches}
use Rattle.agent_core.specs.Means.{after_commit, after_line}
use Rattle.agent_core.specs.Seen.{AgentSeen}
use Rattle.twins.specs.Collectors.{TakesIn}
use Rattle.twins.specs.Collecting.{HasRun, IsBefore, TakesLine}
use Rattle.twins.specs.declared.before.Before.{Before}
use Rattle.twins.specs.declared.collector.Collector.{Collector}

-- ---- which cookies are left different

pub touched_is : (site : PlainSite) (changed : Bool) → is_in bytes_eq site.host (touched_by site changed) ≡ changed
touched_is site true = ap (λ b. cond b true false) ((bytes_eq-Decides site.host site.host).1 refl)
touched_is site false = refl

-- ---- a line ran

pub has_held : (rules : List Rule) (a : AgentSeen) (line : PlainAction) → HasRun rules a line (after_line rules a line)
unfolding holding
has_held rules a line = record {
  world = refl;
  changes = omega (arith, length-append a.pending (line_changes (machine rules) a.world line));
}

pub has_replied : (rules : List Rule) (a : AgentSeen) (line : PlainAction)
    → HasRun rules a line (after_commit rules (after_line rules a line))
unfolding holding committed
has_replied rules a line = record {
  world = refl;
  changes = omega (arith, length-append a.pending (line_changes (machine rules) a.world line));
}

-- and it was collected
module _ (rules : List Rule) (site : PlainSite) (a b : AgentSeen) (line : PlainAction) (old new : Collector)
    (before : Before) (told : IsBefore rules site old.changed a line before) (ran : HasRun rules a line b) where
  abbrev touched : List Domain
  touched = touched_by site old.changed

  given : IsGivenIn rules site touched a.world line before.line
  given = told.given touched (touched_is site old.changed)

  abbrev made : List (DurableChange PlainSite PlainChange)
  made = line_changes (machine rules) a.world line

  -- how many durable changes are the site's
  site_made : (own : Bool) (n : ℕ) → n ≡ cond own (b.base.count + length b.pending - before.changes) 0
      → n ≡ length (cond own made [])
  site_made true n is = omega (arith, is, told.changes, ran.changes)
  site_made false n is = is

  made_is : (n : ℕ) → n ≡ cond before.line.of_site (b.base.count + length b.pending - before.changes) 0
      → n ≡ length (changes_of_site (machine rules) site made)
  made_is n is = site_made before.line.of_site n is ∙ ap length (sym (changes rules site touched a.world line before.line given))

  pub takes_line : (changed : Bool) (n : ℕ) → changed ≡ (old.changed || (before.line.asks && not (are_same site a.world b.world)))
      → n ≡ cond before.line.of_site (b.base.count + length b.pending - before.changes) 0
      → TakesIn old new (map entry_of before.line.entries.items) changed n → TakesLine rules site a.world line old new
  takes_line changed n is_changed is_made took = λ waiting few.
      let count = made_is n is_made in
      let now =
      took.changed ∙ is_changed ∙ ap (λ w. old.changed || (before.line.asks && not (are_same site a.world w))) ran.world
      ∙ ap (λ t. t || (before.line.asks && not (are_same site a.world
      (world_step (machine rules) a.world line)))) (sym (touched_is site old.changed))
      ∙ sym (touches rules site touched a.world line before.line given) in
      let entries = took.items ∙ ap (λ es. map item_of old.items.items ++ happenings es) given.entries in
      let waits = took.waiting (omega (arith, few, count)) ∙ ap (λ k. old.waiting + k) count in
      λ i. record {
        items = entries i;
        changed = now i;
        answered = record { replies = took.replies i; changes = took.changes i };
        waiting = record {
          replies = waiting + length
              (of_site (machine rules) site (line_reply (machine rules) a.world line ∷ []));
          changes = waits i;
        };
      }

-- ---- the steps of code

pub made_then : (own : Bool) (n k : ℕ) → own ≡ true → n ≡ k → n ≡ cond own k 0
made_then own n k is same = same ∙ ap (λ b. cond b k 0) (sym is)

pub made_else : (own : Bool) (n k : ℕ) → own ≡ false → n ≡ 0 → n ≡ cond own k 0
made_else own n k is same = same ∙ ap (λ b. cond b k 0) (sym is)

both_true : (p q : Bool) → (p ≡ true → q ≡ true) → (q ≡ true → p ≡ true) → p ≡ q
both_true true q to from = sym (to refl)
both_true false true to from = from refl
both_true false false to from = refl

-- the cookies of the domain are the same in both worlds
same_is : (site : PlainSite) (world now : AgentWorld) (before after : Cookies) (same : Bool)
    → before ≡ get_cell domain_order world.cells site.host → after ≡ get_cell domain_order now.cells site.host
    → (IsTrue same ↔ (before ≡ after)) → same ≡ are_same site world now
same_is site world now before after same was is law =
    let decides = equal_cookies-Decides (get_cell domain_order world.cells site.host)
    (get_cell domain_order now.cells site.host) in
    both_true same (are_same site world now) (λ yes. decides.1 (sym was ∙ law.0 yes ∙ is))
    (λ yes. law.1 (was ∙ decides.0 yes ∙ sym is))

pub changed_then : (site : PlainSite) (world now : AgentWorld) (changed asks found : Bool) → changed ≡ true
    → found ≡ true → found ≡ (changed || (asks && not (are_same site world now)))
changed_then site world now changed asks found is same = same ∙ ap (λ b. b || (asks && not (are_same site world now))) (sym is)

pub changed_else : (site : PlainSite) (world now : AgentWorld) (before after : Cookies)
    (changed asks same found : Bool) → changed ≡ false → asks ≡ true
    → before ≡ get_cell domain_order world.cells site.host → after ≡ get_cell domain_order now.cells site.host
    → (IsTrue same ↔ (before ≡ after)) → found ≡ not same → found ≡ (changed || (asks && not (are_same site world now)))
changed_else site world now before after changed asks same found is asking was are law told =
    told ∙ ap not (same_is site world now before after same was are law)
    ∙ ap (λ b. b && not (are_same site world now)) (sym asking)
    ∙ ap (λ b. b || (asks && not (are_same site world now))) (sym is)
