-- Of the domains that others have left different a site's own alone matters.
use Rattle.std.proofs.Common.{◌≡◌, Bool, true, false, cond, not, ◌||◌, List, [], ◌∷◌, ◌++◌, Option, Some, None, refl, sym, ap, subst, ◌∙◌}
use Rattle.std.specs.Prelude.{bytes_eq}
use Rattle.std.proofs.lemmas.Slice.Eq.{bytes_eq-Decides}
use Rattle.unwinding.specs.LocalEntries.{changed_cells, held_cells, is_held, line_entries, line_touched, main_entries, main_touched, side_entries}
use Rattle.unwinding.specs.World.{after_main, after_sides, is_in}
use Rattle.suffix_list.specs.Suffix.{Rule}
use Rattle.origin_site.specs.Site.{PlainSite, same_plain_site}
use Rattle.script_actions.specs.Action.{PlainAction}
use Rattle.agent_model.specs.Consults.{event_names}
use Rattle.agent_model.specs.CookieCells.{Domain}
use Rattle.agent_model.specs.Lines.{AgentWorld, SiteOccurrence}
use Rattle.agent_model.specs.TheMachine.{machine}
use Rattle.script_courses.specs.Collected.{touched_by}
use Rattle.script_courses.specs.Laws.{GoesByOwnDomain}

-- whether the site's own domain is among some
abbrev pub has_own : PlainSite → List Domain → Bool
has_own site touched = is_in bytes_eq site.host touched

own_append : (site : PlainSite) (xs ys : List Domain) → has_own site (xs ++ ys) ≡ (has_own site xs || has_own site ys)
own_append site [] ys = refl
own_append site (x ∷ xs) ys = at (bytes_eq site.host x) (own_append site xs ys)
  where
    at : (b : Bool) → has_own site (xs ++ ys) ≡ (has_own site xs || has_own site ys)
        → cond b true (has_own site (xs ++ ys)) ≡ (cond b true (has_own site xs) || has_own site ys)
    at true rest = refl
    at false rest = rest

-- the domains that are kept have it exactly where they are to
pub own_kept : (site : PlainSite) (changed : Bool) → has_own site (touched_by site changed) ≡ changed
own_kept site true = ap (λ b. cond b true false) ((bytes_eq-Decides site.host site.host).1 refl)
own_kept site false = refl

module _ (rules : List Rule) (site : PlainSite) where
  -- ---- entries

  held_same : (touched other : List Domain) → has_own site touched ≡ has_own site other → (c : Domain)
      → is_held (machine rules) site touched c ≡ is_held (machine rules) site other c
  unfolding machine
  held_same touched other same c = at (bytes_eq site.host c) refl
    where
      at : (b : Bool) → bytes_eq site.host c ≡ b → (not b || is_in bytes_eq c touched) ≡ (not b || is_in bytes_eq c other)
      at true is = subst (λ d. is_in bytes_eq d touched ≡ is_in bytes_eq d other) ((bytes_eq-Decides site.host c).0 is) same
      at false is = refl

  main_same : (touched other : List Domain) → has_own site touched ≡ has_own site other
      → (w : AgentWorld) (o : Option SiteOccurrence)
      → main_entries (machine rules) site touched w o ≡ main_entries (machine rules) site other w o
  unfolding machine
  main_same touched other same w None = refl
  main_same touched other same w (Some a) = λ i.
      cond (same_plain_site site a.site)
      (record {
        event = a.event;
        held = held_cells (machine rules) (λ c. held_same touched other same c i)
            w.cells (event_names rules (w.partition a.site) a.event.event ++ []);
      } ∷ [])
      []

  pub entries_same : (touched other : List Domain) → has_own site touched ≡ has_own site other
      → (w : AgentWorld) (l : PlainAction) → line_entries (machine rules) site touched w l
      ≡ line_entries (machine rules) site other w l
  unfolding line_entries
  entries_same touched other same w l = ap (λ es. side_entries (machine rules) ((machine rules).side w l site)
      ++ es) (main_same touched other same (after_sides (machine rules) w l) ((machine rules).main w l))

  -- ---- what a line leaves different

  touched_main : (touched other : List Domain) → has_own site touched ≡ has_own site other
      → (w : AgentWorld) (o : Option SiteOccurrence)
      → has_own site (main_touched (machine rules) site touched w o) ≡ has_own site (main_touched (machine rules) site other w o)
  touched_main touched other same w None = same
  touched_main touched other same w (Some a) = at ((machine rules).same_site site a.site)
    where
      more : List Domain
      more = changed_cells (machine rules) w.cells (after_main (machine rules) w (Some a)).cells
          ((machine rules).names (w.partition a.site) a.event)

      at : (b : Bool) → has_own site (cond b touched (touched ++ more)) ≡ has_own site (cond b other (other ++ more))
      at true = same
      at false = own_append site touched more ∙ ap (λ b. b || has_own site more) same ∙ sym (own_append site other more)

  pub touched_same : (touched other : List Domain) → has_own site touched ≡ has_own site other
      → (w : AgentWorld) (l : PlainAction)
      → has_own site (line_touched (machine rules) site touched w l) ≡ has_own site (line_touched (machine rules) site other w l)
  unfolding line_touched
  touched_same touched other same w l = touched_main touched other same (after_sides (machine rules) w l)
      ((machine rules).main w l)

pub goes_by_own_domain : GoesByOwnDomain
goes_by_own_domain rules site touched other w l same =
    (entries_same rules site touched other same w l, touched_same rules site touched other same w l)
