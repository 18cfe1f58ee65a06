-- A line gives a site exactly the entries that are given by the rule.
use Rattle.std.proofs.Common.{◌≡◌, ℕ, Bool, true, false, not, cond, ◌&&◌, ◌||◌, List, [], ◌∷◌, ◌++◌, Option, Some, None, refl, sym, ap, ◌∙◌, append-nil}
use Rattle.std.proofs.lemmas.List.{map-append}
use Rattle.std.specs.Prelude.{bytes_eq, filter, is_some, map, option_map, option_to_list}
use Rattle.std.specs.List.{list_any}
use Rattle.unwinding.specs.FiniteCells.{get_cell}
use Rattle.unwinding.specs.World.{after_sides, is_in}
use Rattle.unwinding.specs.LocalEntries.{HeldCell, candidates, held_cells, is_held, side_entries, main_entries, line_entries}
use Rattle.suffix_list.specs.Suffix.{Rule}
use Rattle.origin_site.specs.Address.{PlainAddress}
use Rattle.origin_site.specs.Site.{PlainSite, same_plain_site, site_of_address}
use Rattle.origin_site.proofs.SameLemmas.{same_plain_site-Decides}
use Rattle.storage_key.specs.Context.{is_of}
use Rattle.script_actions.specs.declared.words.Method.{Method}
use Rattle.script_actions.specs.Action.{HeadField, PlainAction, Tick, Open, Close, Go, Evict, Act}
use Rattle.agent_model.specs.CookieCells.{Domain, Cookies, domain_order}
use Rattle.agent_model.specs.Partition.{tab_named}
use Rattle.agent_model.specs.Effects.{SharedCells}
use Rattle.agent_model.specs.SiteEvent.{SiteEvent, Acts, Closes, Copies, Leaves, Arrives, Goes, TimedEvent}
use Rattle.agent_model.specs.CookieUse.{consulted_by}
use Rattle.agent_model.specs.CookieUses.{top_use}
use Rattle.agent_model.specs.Consults.{event_names}
use Rattle.agent_model.specs.Sessions.{has_session}
use Rattle.agent_model.specs.Lines.{AgentWorld, SiteOccurrence, Starter, Page, occurs, opener_of, opening, going, goer_of, is_same_site, site_at, timed, main_event}
use Rattle.agent_model.specs.SideEvents.{where_so, leaves, closes, side_event}
use Rattle.agent_model.specs.TheMachine.{machine}
use Rattle.agent_model.specs.SiteRuns.{main_at}
use Rattle.agent_model.specs.Given.{SiteEntry, given, given_opening, where_free, given_going, given_closing, events_given, is_unknown, entry_given, entries_given}
use Rattle.agent_model.specs.LocalScripts.{GivesExactly}
use Rattle.agent_model.proofs.Isolated.{beside_site, quiet}

pub never : (so : Bool) (now : ℕ) (e : SiteEvent) → given (so && false) now e ≡ []
never true now e = refl
never false now e = refl

-- ---- events

module _ (rules : List Rule) (s : PlainSite) (w : AgentWorld) where
  -- what an event beside the main one gives the site
  beside_given : (so : Bool) (e : SiteEvent) → option_to_list (where_so so (timed w e)) ≡ given so w.rest.now e
  beside_given true e = refl
  beside_given false e = refl

  happens_given : (e : SiteEvent) (place : Option PlainSite) → main_at s (option_map (occurs w e) place) ≡ given (is_of s place) w.rest.now e
  happens_given e None = refl
  happens_given e (Some here) = refl

  user_given : (tab : ℕ) (url : PlainAddress) (noopener : Bool) (method : Method) (head : List HeadField) (here from : Option PlainSite)
      → main_at s (opening rules w tab url method head (opener_of None w.rest.places) here)
      ≡ where_free here (given_opening rules s w.rest.now tab url None noopener method head from)
  user_given tab url noopener method head None from = refl
  user_given tab url noopener method head (Some here) from = refl

  page_given : (tab : ℕ) (url : PlainAddress) (opener : ℕ) (noopener : Bool) (method : Method) (head : List HeadField) (here from : Option PlainSite)
      → option_to_list (where_so (not (is_some here) && (not noopener && is_of s from)) (timed w (Copies opener tab))) ++ main_at s (opening rules w tab url method head (option_map Page from) here)
      ≡ where_free here (given_opening rules s w.rest.now tab url (Some opener) noopener method head from)
  page_given tab url opener noopener method head None None =
      ap (λ es. es ++ []) (beside_given (not noopener && false) (Copies opener tab) ∙ never (not noopener) w.rest.now (Copies opener tab))
  page_given tab url opener noopener method head None (Some from) =
      ap (λ es. es ++ main_at s (opening rules w tab url method head (Some (Page from)) None)) (beside_given (not noopener && same_plain_site s from) (Copies opener tab))
  page_given tab url opener noopener method head (Some here) None = refl
  page_given tab url opener noopener method head (Some here) (Some from) = refl

  if_and : (b x : Bool) → cond b x false ≡ (b && x)
  if_and true x = refl
  if_and false x = refl

  goes_same : (by_page : Bool) (here target : PlainSite) → is_same_site (goer_of by_page here) target ≡ (not by_page || same_plain_site here target)
  goes_same true here target = refl
  goes_same false here target = refl

  go_given : (tab : ℕ) (url : PlainAddress) (by_page : Bool) (method : Method) (head : List HeadField) (here : Option PlainSite)
      → option_to_list (leaves w tab here (site_of_address rules url) s) ++ main_at s (going rules w tab url by_page method head here)
      ≡ given_going rules s w.rest.now tab url by_page method head here
  go_given tab url by_page method head None = refl
  go_given tab url by_page method head (Some here) =
      let target = site_of_address rules url in
      let away = not (same_plain_site s target) in
      λ i. (beside_given (cond (same_plain_site s here) away false) (Leaves tab) ∙ ap (λ b. given b w.rest.now (Leaves tab)) (if_and (same_plain_site s here) away)) i
      ++ given (same_plain_site s target) w.rest.now (Arrives Goes tab url method (goes_same by_page here target i) head)

  not_if : (b x : Bool) → cond b false x ≡ (not b && x)
  not_if true x = refl
  not_if false x = refl

  close_given : (tab : ℕ) (here : Option PlainSite)
      → option_to_list (closes w tab here s) ++ main_at s (option_map (occurs w (Closes tab)) here)
      ≡ given_closing s (w.partition s) w.rest.now tab here
  close_given tab None = refl
  close_given tab (Some here) =
      let held = (w.partition s).held in
      let there = is_some (tab_named tab held) in
      ap (λ es. es ++ given (same_plain_site s here) w.rest.now (Closes tab))
      (beside_given (cond there false (has_session tab held)) (Closes tab) ∙ ap (λ b. given b w.rest.now (Closes tab)) (not_if there (has_session tab held)))

  -- the events of a line at a site are those that it gives the site
  events_exact : (l : PlainAction) → option_to_list (side_event rules w l s) ++ main_at s (main_event rules w l) ≡ events_given rules s (w.partition s) w.rest l
  unfolding main_event side_event events_given
  events_exact (Tick seconds) = refl
  events_exact (Open tab url None noopener method head) = user_given tab url noopener method head (site_at tab w.rest.places) None
  events_exact (Open tab url (Some opener) noopener method head) = page_given tab url opener noopener method head (site_at tab w.rest.places) (site_at opener w.rest.places)
  events_exact (Go tab url by_page method head) = go_given tab url by_page method head (site_at tab w.rest.places)
  events_exact (Close tab) = close_given tab (site_at tab w.rest.places)
  events_exact (Evict named) = refl
  events_exact (Act at action) = happens_given (Acts at action) (site_at at.tab w.rest.places)

-- ---- what a main event consults

module _ (rules : List Rule) (w : AgentWorld) where
  -- a main event consults the same cells before the events beside it and after them
  abbrev SameNames : PlainAction → Option SiteOccurrence → Type 0
  SameNames l None = Unit {0}
  SameNames l (Some a) =
      event_names rules ((after_sides (machine rules) w l).partition a.site) a.event.event ≡ event_names rules (w.partition a.site) a.event.event

  load_names : (l : PlainAction) (tab : ℕ) (url : PlainAddress) (method : Method) (same_site : Bool) (s : PlainSite)
      → consulted_by rules (top_use ((after_sides (machine rules) w l).partition s).site url method same_site) ≡ consulted_by rules (top_use (w.partition s).site url method same_site)
  load_names l tab url method same_site s = ap (λ site. consulted_by rules (top_use site url method same_site)) (beside_site rules w l s)

  open_names : (l : PlainAction) (tab : ℕ) (url : PlainAddress) (method : Method) (head : List HeadField) (starter : Option Starter) (here : Option PlainSite)
      → SameNames l (opening rules w tab url method head starter here)
  open_names l tab url method head None here = tt
  open_names l tab url method head (Some starter) None = load_names l tab url method (is_same_site starter (site_of_address rules url)) (site_of_address rules url)
  open_names l tab url method head (Some starter) (Some here) = tt

  go_names : (l : PlainAction) (tab : ℕ) (url : PlainAddress) (by_page : Bool) (method : Method) (head : List HeadField) (here : Option PlainSite)
      → SameNames l (going rules w tab url by_page method head here)
  go_names l tab url by_page method head None = tt
  go_names l tab url by_page method head (Some here) =
      load_names l tab url method (is_same_site (goer_of by_page here) (site_of_address rules url)) (site_of_address rules url)

  close_names : (l : PlainAction) (tab : ℕ) (here : Option PlainSite) → SameNames l (option_map (occurs w (Closes tab)) here)
  close_names l tab None = tt
  close_names l tab (Some here) = refl

  act_names : (l : PlainAction) (e : SiteEvent) (here : Option PlainSite) → ((s : PlainSite) → (after_sides (machine rules) w l).partition s ≡ w.partition s)
      → SameNames l (option_map (occurs w e) here)
  act_names l e None same = tt
  act_names l e (Some here) same = ap (λ p. event_names rules p e) (same here)

  same_names : (l : PlainAction) → SameNames l (main_event rules w l)
  unfolding main_event side_event machine
  same_names (Tick seconds) = tt
  same_names (Open tab url opener noopener method head) =
      open_names (Open tab url opener noopener method head) tab url method head (opener_of opener w.rest.places) (site_at tab w.rest.places)
  same_names (Go tab url by_page method head) = go_names (Go tab url by_page method head) tab url by_page method head (site_at tab w.rest.places)
  same_names (Close tab) = close_names (Close tab) tab (site_at tab w.rest.places)
  same_names (Evict named) = refl
  same_names (Act at action) = act_names (Act at action) (Acts at action) (site_at at.tab w.rest.places) (λ s. refl)

-- ---- entries

pub in_any : (d : Domain) (ts : List Domain) → is_in bytes_eq d ts ≡ list_any (bytes_eq d) ts
in_any d [] = refl
in_any d (t ∷ ts) = by (bytes_eq d t) (in_any d ts)
  where
    by : (b : Bool) → is_in bytes_eq d ts ≡ list_any (bytes_eq d) ts → cond b true (is_in bytes_eq d ts) ≡ (b || list_any (bytes_eq d) ts)
    by true later = refl
    by false later = later

module _ (rules : List Rule) (s : PlainSite) (touched : List Domain) (cells : SharedCells) where
  -- a cell with its content
  abbrev pub held_at : Domain → HeldCell Domain Cookies
  held_at domain = record { cell = domain; content = get_cell domain_order cells domain }

  held_exact : (ds : List Domain) → held_cells (machine rules) (is_held (machine rules) s touched) cells ds ≡ map held_at (filter (is_unknown s touched) ds)
  unfolding machine
  held_exact [] = refl
  held_exact (d ∷ ds) =
      ap (λ b. cond b (held_at d ∷ held_cells (machine rules) (is_held (machine rules) s touched) cells ds) (held_cells (machine rules) (is_held (machine rules) s touched) cells ds))
      (ap (λ b. not (bytes_eq s.host d) || b) (in_any d touched))
      ∙ by (is_unknown s touched d) (held_exact ds)
    where
      by : (b : Bool) → held_cells (machine rules) (is_held (machine rules) s touched) cells ds ≡ map held_at (filter (is_unknown s touched) ds)
          → cond b (held_at d ∷ held_cells (machine rules) (is_held (machine rules) s touched) cells ds) (held_cells (machine rules) (is_held (machine rules) s touched) cells ds)
          ≡ map held_at (cond b (d ∷ filter (is_unknown s touched) ds) (filter (is_unknown s touched) ds))
      by true later = ap (λ hs. held_at d ∷ hs) later
      by false later = later

module _ (rules : List Rule) (s : PlainSite) (touched : List Domain) (w : AgentWorld) (l : PlainAction) where
  abbrev entry : TimedEvent → SiteEntry
  entry e = entry_given rules s (w.partition s) touched w.cells e

  beside_entry : (o : Option TimedEvent) → side_event rules w l s ≡ o → side_entries (machine rules) o ≡ map entry (option_to_list o)
  unfolding machine
  beside_entry None is = refl
  beside_entry (Some e) is = ap (λ ds. record { event = e; held = map (held_at rules s touched w.cells) (filter (is_unknown s touched) ds) } ∷ []) (sym (quiet rules w l s e is).names_none)

  main_entry : (o : Option SiteOccurrence) → SameNames rules w l o → main_entries (machine rules) s touched (after_sides (machine rules) w l) o ≡ map entry (main_at s o)
  unfolding machine
  main_entry None names = refl
  main_entry (Some a) names = by (same_plain_site s a.site) refl
    where
      asked : List Domain
      asked = candidates (machine rules) s touched ((after_sides (machine rules) w l).partition a.site) a.event

      held : List (HeldCell Domain Cookies)
      held = held_cells (machine rules) (is_held (machine rules) s touched) w.cells asked

      exact : same_plain_site s a.site ≡ true → held ≡ (entry a.event).held
      exact is =
          ap (held_cells (machine rules) (is_held (machine rules) s touched) w.cells)
          (append-nil (event_names rules ((after_sides (machine rules) w l).partition a.site) a.event.event) ∙ names ∙ ap (λ t. event_names rules (w.partition t) a.event.event) (sym ((same_plain_site-Decides s a.site).0 is)))
          ∙ held_exact rules s touched w.cells (event_names rules (w.partition s) a.event.event)

      by : (b : Bool) → same_plain_site s a.site ≡ b → cond b (record { event = a.event; held = held } ∷ []) [] ≡ map entry (cond b (a.event ∷ []) [])
      by true is = ap (λ hs. record { event = a.event; held = hs } ∷ []) (exact is)
      by false is = refl

  pub gives : line_entries (machine rules) s touched w l ≡ entries_given rules s (w.partition s) w.rest touched w.cells l
  unfolding line_entries machine
  gives =
      (λ i. beside_entry (side_event rules w l s) refl i ++ main_entry (main_event rules w l) (same_names rules w l) i)
      ∙ sym (map-append entry (option_to_list (side_event rules w l s)) (main_at s (main_event rules w l)))
      ∙ ap (map entry) (events_exact rules s w l)

pub gives_exactly : GivesExactly
gives_exactly rules s touched w l = gives rules s touched w l
