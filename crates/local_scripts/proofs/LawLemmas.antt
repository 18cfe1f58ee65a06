-- What the truth values of a line tell its caller.
use Rattle.std.proofs.Common.{◌≡◌, Bool, true, false, not, cond, ◌&&◌, ◌||◌, List, [], ◌∷◌, ◌++◌, Option, Some, None, refl, sym, ap, ◌∙◌}
use Rattle.std.specs.Prelude.{bytes_eq}
use Rattle.std.proofs.lemmas.Slice.Eq.{bytes_eq-Decides}
use Rattle.unwinding.specs.Durable.{DurableChange, changes_of_site, durable_change, line_changes, main_changes, when_of_site}
use Rattle.unwinding.specs.FiniteCells.{get_cell}
use Rattle.unwinding.specs.LocalEntries.{changed_cells, line_touched, main_touched}
use Rattle.unwinding.specs.World.{after_main, after_sides, is_in, outcome, world_step}
use Rattle.unwinding.proofs.HeldCells.{in_append}
use Rattle.suffix_list.specs.Suffix.{Rule}
use Rattle.row_changes.specs.Change.{PlainChange}
use Rattle.origin_site.specs.Site.{PlainSite, same_plain_site}
use Rattle.agent_model.specs.Consults.{event_names}
use Rattle.agent_model.specs.CookieCells.{Domain, domain_order, equal_cookies}
use Rattle.agent_model.specs.Effects.{SharedCells}
use Rattle.agent_model.specs.Lines.{AgentWorld, SiteOccurrence, main_event}
use Rattle.agent_model.specs.TheMachine.{IsSound, machine}
use Rattle.agent_model.proofs.Isolated.{facts}
use Rattle.local_scripts.specs.Laws.{Changes, Touches, are_same}
use Rattle.local_scripts.specs.Seen.{is_asking, is_of_site}

-- ---- which cookies are left different

and_false : (b : Bool) → (b && false) ≡ false
and_false true = refl
and_false false = refl

or_false : (b : Bool) → (b || false) ≡ b
or_false true = refl
or_false false = refl

module _ (rules : List Rule) (host : Domain) (old new : SharedCells) where
  abbrev kept : Domain → Bool
  kept d = equal_cookies (get_cell domain_order old d) (get_cell domain_order new d)

  abbrev changed : List Domain → List Domain
  changed ds = changed_cells (machine rules) old new ds

  -- a domain is among the changed ones where it is named and its cookies differ
  in_changed : (ds : List Domain) → is_in bytes_eq host (changed ds) ≡ (is_in bytes_eq host ds && not (kept host))
  unfolding machine
  in_changed [] = refl
  in_changed (d ∷ ds) = at (bytes_eq host d) refl (kept d) refl (in_changed ds)
    where
      itself : bytes_eq host d ≡ true → kept host ≡ kept d
      itself is = ap kept ((bytes_eq-Decides host d).0 is)

      at : (b : Bool) → bytes_eq host d ≡ b → (e : Bool) → kept d ≡ e
          → is_in bytes_eq host (changed ds) ≡ (is_in bytes_eq host ds && not (kept host))
          → is_in bytes_eq host (cond e (changed ds) (d ∷ changed ds)) ≡ (cond b true (is_in bytes_eq host ds) && not (kept host))
      at true is true same later =
          let off : not (kept host) ≡ false = ap not (itself is ∙ same) in
          later ∙ ap (λ b. is_in bytes_eq host ds && b) off ∙ and_false (is_in bytes_eq host ds) ∙ sym off
      at true is false same later = ap (λ b. cond b true (is_in bytes_eq host (changed ds))) is ∙ sym (ap not (itself is ∙ same))
      at false is true same later = later
      at false is false same later = ap (λ b. cond b true (is_in bytes_eq host (changed ds))) is ∙ later

-- ---- the laws

module _ (rules : List Rule) (site : PlainSite) (others : List Domain) (world : AgentWorld) where
  -- what the main event leaves different
  touched_is : (o : Option SiteOccurrence)
      → is_in bytes_eq site.host (main_touched (machine rules) site others world o)
      ≡ (is_in bytes_eq site.host others || (is_asking rules site world o
      && not (are_same site world (after_main (machine rules) world o))))
  unfolding machine
  touched_is None = sym (or_false (is_in bytes_eq site.host others))
  touched_is (Some a) = at (same_plain_site site a.site)
    where
      named : List Domain
      named = event_names rules (world.partition a.site) a.event.event

      after : SharedCells
      after = (after_main (machine rules) world (Some a)).cells

      at : (b : Bool) → is_in bytes_eq site.host (cond b others (others ++ changed_cells (machine rules) world.cells after named))
          ≡ (is_in bytes_eq site.host others || ((not b && is_in bytes_eq site.host named)
          && not (are_same site world (after_main (machine rules) world (Some a)))))
      at true = sym (or_false (is_in bytes_eq site.host others))
      at false =
          in_append (machine rules) IsSound (facts rules) site.host others (changed_cells (machine rules) world.cells after named)
          ∙ ap (λ b. is_in bytes_eq site.host others || b) (in_changed rules site.host world.cells after named)

  -- the change of the main event
  changes_are : (o : Option SiteOccurrence)
      → changes_of_site (machine rules) site (main_changes (machine rules) world o)
      ≡ cond (is_of_site site o) (main_changes (machine rules) world o) []
  unfolding machine
  changes_are None = refl
  changes_are (Some a) = by (outcome (machine rules) a.site (world.partition a.site) world.cells a.event).changes
    where
      at : (b : Bool) (one : DurableChange PlainSite PlainChange)
          → (when_of_site (machine rules) b one ++ []) ≡ cond b (one ∷ []) []
      at true one = refl
      at false one = refl

      by : (made : List PlainChange) → changes_of_site (machine rules) site (durable_change (machine rules) a.site made)
          ≡ cond (same_plain_site site a.site) (durable_change (machine rules) a.site made) []
      by [] = none (same_plain_site site a.site)
        where
          none : (b : Bool) → ◌≡◌ {A = List (DurableChange PlainSite PlainChange)} [] (cond b [] [])
          none true = refl
          none false = refl
      by (c ∷ cs) = at (same_plain_site site a.site) (record { site = a.site; changes = c ∷ cs })

pub touches : Touches
unfolding line_touched world_step machine
touches rules site others world action seen given =
    touched_is rules site others (after_sides (machine rules) world action) (main_event rules world action)
    ∙ ap (λ asks. is_in bytes_eq site.host others
    || (asks && not (are_same site world (world_step (machine rules) world action)))) (sym given.asks)

pub changes : Changes
unfolding line_changes machine
changes rules site others world action seen given =
    changes_are rules site others (after_sides (machine rules) world action) (main_event rules world action)
    ∙ ap (λ own. cond own (line_changes (machine rules) world action) []) (sym given.of_site)
