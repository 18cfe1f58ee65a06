-- A line goes by the partitions of the sites of some domains, the cookies of these, the places of
-- tabs and the clock alone; and what it consults at another site.
use Rattle.std.proofs.Common.{◌≡◌, ℕ, Bool, true, false, not, ◌||◌, cond, List, [], ◌∷◌, Option, Some, None, refl, sym, ap, subst, ◌∙◌}
use Rattle.std.proofs.lemmas.Bool.{true≢false}
use Rattle.std.proofs.Math.Bool.{or-false}
use Rattle.std.proofs.lemmas.Slice.Eq.{bytes_eq-Decides}
use Rattle.std.specs.List.{list_any}
use Rattle.std.specs.Prelude.{bytes_eq, option_map}
use Rattle.unwinding.specs.World.{after_sides, is_in}
use Rattle.unwinding.specs.LeftOut.{ApartFacts, ConsultsWithin, IsAlike, IsOutside, OwnFacts}
use Rattle.unwinding.proofs.OthersOut.{same_entries, step_alike}
use Rattle.suffix_list.specs.Suffix.{Rule}
use Rattle.origin_site.specs.Address.{PlainAddress}
use Rattle.origin_site.specs.Site.{PlainSite, site_of_address}
use Rattle.script_actions.specs.declared.words.Method.{Method}
use Rattle.script_actions.specs.Action.{HeadField, PlainAction, Tick, Open, Close, Go, Evict, Act}
use Rattle.agent_model.specs.CookieCells.{Domain}
use Rattle.agent_model.specs.Partition.{Partition}
use Rattle.agent_model.specs.Effects.{SharedCells, no_shared_cells}
use Rattle.agent_model.specs.SiteEvent.{SiteEvent, Acts, Closes}
use Rattle.agent_model.specs.Consults.{event_names}
use Rattle.agent_model.specs.Lines.{AgentWorld, SiteOccurrence, Starter, occurs, opener_of, opening, going, site_at, main_event}
use Rattle.agent_model.specs.SideEvents.{closes, side_event}
use Rattle.agent_model.specs.Rest.{places_after, rest_after}
use Rattle.agent_model.specs.TheMachine.{IsSound, machine}
use Rattle.agent_model.specs.Groups.{group_of, is_among, is_apart, is_at}
use Rattle.agent_model.specs.LocalScripts.{GivesByOwn}
use Rattle.agent_model.proofs.Isolated.{facts}

-- ---- what an event consults

-- these are the cells of one domain, or none
abbrev pub AreOf : Domain → List Domain → Type 0
AreOf domain names = (c : Domain) → is_in bytes_eq c names ≡ true → c ≡ domain

-- a cell is consulted where it is named, for no event sweeps
pub asked_named : (c : Domain) (names : List Domain) → (is_in bytes_eq c names || false) ≡ true → is_in bytes_eq c names ≡ true
asked_named c names asked = sym (or-false (is_in bytes_eq c names)) ∙ asked

pub named_asked : (c : Domain) (names : List Domain) → is_in bytes_eq c names ≡ true → (is_in bytes_eq c names || false) ≡ true
named_asked c names named = or-false (is_in bytes_eq c names) ∙ named

pub none_of : (domain : Domain) → AreOf domain []
none_of domain c is = cc

pub one_of : (domain : Domain) → AreOf domain (domain ∷ [])
one_of domain c is = at (bytes_eq c domain) refl is
  where
    at : (b : Bool) → bytes_eq c domain ≡ b → cond b true false ≡ true → c ≡ domain
    at true same there = (bytes_eq-Decides c domain).0 same
    at false same there = cc

-- ---- lines

module _ (rules : List Rule) (w : AgentWorld) (partitions : PlainSite → Partition) (cells : SharedCells) where
  -- the world with other partitions and other shared cells
  abbrev replaced : AgentWorld
  replaced = record { partition = partitions; cells = cells; rest = w.rest }

  opening_same : (tab : ℕ) (url : PlainAddress) (method : Method) (head : List HeadField) (starter : Option Starter) (here : Option PlainSite) → opening rules w tab url method head starter here ≡ opening rules replaced tab url method head starter here
  opening_same tab url method head None here = refl
  opening_same tab url method head (Some starter) None = refl
  opening_same tab url method head (Some starter) (Some here) = refl

  going_same : (tab : ℕ) (url : PlainAddress) (by_page : Bool) (method : Method) (head : List HeadField) (here : Option PlainSite) → going rules w tab url by_page method head here ≡ going rules replaced tab url by_page method head here
  going_same tab url by_page method head None = refl
  going_same tab url by_page method head (Some here) = refl

  -- no main event goes by a partition
  pub main_replaced : (l : PlainAction) → main_event rules w l ≡ main_event rules replaced l
  unfolding main_event
  main_replaced (Tick seconds) = refl
  main_replaced (Open tab url opener noopener method head) = opening_same tab url method head (opener_of opener w.rest.places) (site_at tab w.rest.places)
  main_replaced (Go tab url by_page method head) = going_same tab url by_page method head (site_at tab w.rest.places)
  main_replaced (Close tab) = refl
  main_replaced (Evict named) = refl
  main_replaced (Act at action) = refl

  -- nor do the places and the clock afterwards
  pub rest_replaced : (l : PlainAction) → rest_after rules w l ≡ rest_after rules replaced l
  unfolding rest_after
  rest_replaced (Tick seconds) = refl
  rest_replaced (Open tab url opener noopener method head) = ap (λ o. record { now = w.rest.now; places = places_after o tab w.rest.places }) (main_replaced (Open tab url opener noopener method head))
  rest_replaced (Go tab url by_page method head) = ap (λ o. record { now = w.rest.now; places = places_after o tab w.rest.places }) (main_replaced (Go tab url by_page method head))
  rest_replaced (Close tab) = refl
  rest_replaced (Evict named) = refl
  rest_replaced (Act at action) = refl

module _ (rules : List Rule) (w : AgentWorld) (s : PlainSite) where
  -- the world in which each site has the partition of this one
  abbrev own_world : AgentWorld
  own_world = replaced rules w (λ t. w.partition s) no_shared_cells

  closes_own : (tab : ℕ) (here : Option PlainSite) → closes w tab here s ≡ closes own_world tab here s
  closes_own tab None = refl
  closes_own tab (Some here) = refl

  -- an event beside the main one goes by the partition of its site
  pub side_own : (l : PlainAction) → side_event rules w l s ≡ side_event rules own_world l s
  unfolding side_event
  side_own (Tick seconds) = refl
  side_own (Open tab url None noopener method head) = refl
  side_own (Open tab url (Some opener) noopener method head) = refl
  side_own (Go tab url by_page method head) = refl
  side_own (Close tab) = closes_own tab (site_at tab w.rest.places)
  side_own (Evict named) = refl
  side_own (Act at action) = refl

module _ (rules : List Rule) (domains : List Domain) (v w : AgentWorld) (alike : IsAlike (machine rules) (group_of domains) v w) where
  own_side : (l : PlainAction) (t : PlainSite) → is_among domains t ≡ true → side_event rules v l t ≡ side_event rules w l t
  own_side l t near =
      side_own rules v t l
      ∙ (λ i. side_event rules (record { partition = λ u. alike.partition t near i; cells = no_shared_cells; rest = alike.rest i }) l t)
      ∙ sym (side_own rules w t l)

  own_main : (l : PlainAction) → main_event rules v l ≡ main_event rules w l
  own_main l = main_replaced rules v w.partition w.cells l ∙ (λ i. main_event rules (record { partition = w.partition; cells = w.cells; rest = alike.rest i }) l)

  own_later : (l : PlainAction) → rest_after rules v l ≡ rest_after rules w l
  own_later l = rest_replaced rules v w.partition w.cells l ∙ (λ i. rest_after rules (record { partition = w.partition; cells = w.cells; rest = alike.rest i }) l)

pub own_facts : (rules : List Rule) (domains : List Domain) → OwnFacts (machine rules) (group_of domains)
unfolding machine
own_facts rules domains =
    record {
      cell_itself = λ c. (bytes_eq-Decides c c).1 refl;
      listed_same = λ partition event sweeps xs ys same. cc;
      own_side = λ v w l alike t near. own_side rules domains v w alike l t near;
      own_main = λ v w l alike. own_main rules domains v w alike l;
      own_later = λ v w l alike. own_later rules domains v w alike l;
    }

pub gives_by_own : GivesByOwn
unfolding machine
gives_by_own rules domains s touched v w l member alike one two = (
  same_entries (machine rules) IsSound (facts rules) (group_of domains) (own_facts rules domains) v w l alike s member touched touched (λ c of. refl) two,
  step_alike (machine rules) IsSound (facts rules) (group_of domains) (own_facts rules domains) v w l alike one two,
)

-- ---- events that are no document's

module _ (rules : List Rule) (w : AgentWorld) where
  -- a main event consults the cell of its site's domain at most, whatever the site has
  abbrev pub IsOfDomain : Option SiteOccurrence → Type 0
  IsOfDomain None = Unit {0}
  IsOfDomain (Some a) = (own : Partition) → AreOf a.site.host (event_names rules own a.event.event)

  opening_own : (tab : ℕ) (url : PlainAddress) (method : Method) (head : List HeadField) (starter : Option Starter) (here : Option PlainSite) → IsOfDomain (opening rules w tab url method head starter here)
  opening_own tab url method head None here = tt
  opening_own tab url method head (Some starter) None = λ own. one_of (site_of_address rules url).host
  opening_own tab url method head (Some starter) (Some here) = tt

  going_own : (tab : ℕ) (url : PlainAddress) (by_page : Bool) (method : Method) (head : List HeadField) (here : Option PlainSite) → IsOfDomain (going rules w tab url by_page method head here)
  going_own tab url by_page method head None = tt
  going_own tab url by_page method head (Some here) = λ own. one_of (site_of_address rules url).host

  closing_own : (tab : ℕ) (here : Option PlainSite) → IsOfDomain (option_map (occurs w (Closes tab)) here)
  closing_own tab None = tt
  closing_own tab (Some here) = λ own. none_of here.host

  -- it is no document's
  abbrev pub IsNoAction : PlainAction → Type 0
  IsNoAction (Act at action) = ⊥
  IsNoAction (Tick seconds) = Unit {0}
  IsNoAction (Open tab url opener noopener method head) = Unit {0}
  IsNoAction (Go tab url by_page method head) = Unit {0}
  IsNoAction (Close tab) = Unit {0}
  IsNoAction (Evict named) = Unit {0}

  pub others_own : (l : PlainAction) → IsNoAction l → IsOfDomain (main_event rules w l)
  unfolding main_event
  others_own (Tick seconds) none = tt
  others_own (Open tab url opener noopener method head) none = opening_own tab url method head (opener_of opener w.rest.places) (site_at tab w.rest.places)
  others_own (Go tab url by_page method head) none = going_own tab url by_page method head (site_at tab w.rest.places)
  others_own (Close tab) none = closing_own tab (site_at tab w.rest.places)
  others_own (Evict named) none = λ own. none_of named.host
  others_own (Act at action) none = absurd none

-- ---- lines of other sites

not_true : (b : Bool) → not b ≡ true → b ≡ false
not_true true e = cc
not_true false e = refl

not_false : (b : Bool) → not b ≡ false → b ≡ true
not_false true e = refl
not_false false e = cc

module _ (rules : List Rule) (domains : List Domain) where
  -- the test of a line that is left out
  abbrev pub apart_at : AgentWorld → PlainAction → Bool
  apart_at w l = is_apart domains w.rest l

  apart_side : (w : AgentWorld) (l : PlainAction) → apart_at w l ≡ true → (t : PlainSite) → side_event rules w l t ≡ None
  unfolding side_event
  apart_side w (Tick seconds) is t = cc
  apart_side w (Open tab url opener noopener method head) is t = cc
  apart_side w (Go tab url by_page method head) is t = cc
  apart_side w (Close tab) is t = cc
  apart_side w (Evict named) is t = refl
  apart_side w (Act at action) is t = refl

  act_away : (w : AgentWorld) (e : SiteEvent) (place : Option PlainSite) → is_at domains place ≡ false → IsOutside (machine rules) (group_of domains) (option_map (occurs w e) place)
  unfolding machine
  act_away w e None away = tt
  act_away w e (Some here) away = away

  apart_main : (w : AgentWorld) (l : PlainAction) → apart_at w l ≡ true → IsOutside (machine rules) (group_of domains) (main_event rules w l)
  unfolding main_event machine
  apart_main w (Tick seconds) is = cc
  apart_main w (Open tab url opener noopener method head) is = cc
  apart_main w (Go tab url by_page method head) is = cc
  apart_main w (Close tab) is = cc
  apart_main w (Evict named) is = not_true (is_among domains named) is
  apart_main w (Act at action) is = act_away w (Acts at action) (site_at at.tab w.rest.places) (not_true (is_at domains (site_at at.tab w.rest.places)) is)

  apart_later : (w : AgentWorld) (l : PlainAction) → apart_at w l ≡ true → rest_after rules w l ≡ w.rest
  unfolding rest_after
  apart_later w (Tick seconds) is = cc
  apart_later w (Open tab url opener noopener method head) is = cc
  apart_later w (Go tab url by_page method head) is = cc
  apart_later w (Close tab) is = cc
  apart_later w (Evict named) is = refl
  apart_later w (Act at action) is = refl

  -- an event that consults the cell of its site's domain at most is within the domains or apart
  pub within_at : (w : AgentWorld) (l : PlainAction) (a : SiteOccurrence) → AreOf a.site.host (event_names rules ((after_sides (machine rules) w l).partition a.site) a.event.event)
      → ConsultsWithin (machine rules) (group_of domains) w l (Some a)
  unfolding machine
  within_at w l a own c asked =
      let names = event_names rules ((after_sides (machine rules) w l).partition a.site) a.event.event in
      ap (λ domain. list_any (bytes_eq domain) domains) (own c (asked_named c names asked))

  pub within_own : (w : AgentWorld) (l : PlainAction) (o : Option SiteOccurrence) → IsOfDomain rules w o → ConsultsWithin (machine rules) (group_of domains) w l o
  within_own w l None own = tt
  within_own w l (Some a) own = within_at w l a (own ((after_sides (machine rules) w l).partition a.site))

  -- a document that acts and is not passed over is at a site of the domains
  act_near : (w : AgentWorld) (l : PlainAction) (e : SiteEvent) (place : Option PlainSite) → is_at domains place ≡ true → (a : SiteOccurrence) → option_map (occurs w e) place ≡ Some a
      → is_among domains a.site ≡ false → ConsultsWithin (machine rules) (group_of domains) w l (Some a)
  act_near w l e None near a main far = absurd (cc main)
  act_near w l e (Some here) near a main far =
      let same : occurs w e here ≡ a = cc in
      absurd (true≢false (sym near ∙ ap (λ (o : SiteOccurrence). is_among domains o.site) same ∙ far))

  by_own : (w : AgentWorld) (l : PlainAction) → IsNoAction rules w l → (a : SiteOccurrence) → main_event rules w l ≡ Some a → ConsultsWithin (machine rules) (group_of domains) w l (Some a)
  by_own w l none a main = within_own w l (Some a) (subst (IsOfDomain rules w) main (others_own rules w l none))

  stays_out : (w : AgentWorld) (l : PlainAction) (a : SiteOccurrence) → apart_at w l ≡ false → main_event rules w l ≡ Some a → is_among domains a.site ≡ false
      → ConsultsWithin (machine rules) (group_of domains) w l (Some a)
  unfolding main_event
  stays_out w (Act at action) a is main far =
      act_near w (Act at action) (Acts at action) (site_at at.tab w.rest.places) (not_false (is_at domains (site_at at.tab w.rest.places)) is) a main far
  stays_out w (Tick seconds) a is main far = by_own w (Tick seconds) tt a main
  stays_out w (Open tab url opener noopener method head) a is main far = by_own w (Open tab url opener noopener method head) tt a main
  stays_out w (Go tab url by_page method head) a is main far = by_own w (Go tab url by_page method head) tt a main
  stays_out w (Close tab) a is main far = by_own w (Close tab) tt a main
  stays_out w (Evict named) a is main far = by_own w (Evict named) tt a main

  pub apart_facts : ApartFacts (machine rules) (group_of domains) IsSound apart_at
  unfolding machine
  apart_facts =
      record {
        no_side = λ w l is t near. apart_side w l is t;
        no_main = λ w l is. apart_main w l is;
        no_later = λ w l is. apart_later w l is;
        same_test = λ v w l alike i. is_apart domains (alike.rest i) l;
        stays_out = λ w l a sound is main far. stays_out w l a is main far;
      }
