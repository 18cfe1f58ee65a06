-- What a line gives a site, entry by entry.
use Rattle.std.proofs.Common.{◌≡◌, Bool, true, false, not, cond, ◌&&◌, ◌||◌, List, [], ◌∷◌, ◌++◌, map, Option, Some, None, refl, sym, ap, ◌∙◌, append-nil}
use Rattle.std.specs.Prelude.{bytes_eq, option_map, option_to_list, string_bytes}
use Rattle.std.proofs.lemmas.Slice.Eq.{bytes_eq-Decides}
use Rattle.unwinding.specs.FiniteCells.{get_cell}
use Rattle.unwinding.specs.LocalEntries.{candidates, held_cells, is_held, line_entries, main_entries, side_entries}
use Rattle.unwinding.specs.World.{after_sides, is_in}
use Rattle.suffix_list.specs.Suffix.{Rule}
use Rattle.origin_site.specs.Plain.{plain_site}
use Rattle.origin_site.specs.Site.{PlainSite, same_plain_site}
use Rattle.live_state.specs.Tabs.{PlainTab}
use Rattle.script_actions.specs.Action.{PlainAction, Tick, Open, Close, Go, Evict, Act}
use Rattle.agent_model.specs.Consults.{event_names}
use Rattle.agent_model.specs.CookieCells.{Domain, domain_order}
use Rattle.agent_model.specs.CookieUse.{consulted_by}
use Rattle.agent_model.specs.CookieUses.{top_use}
use Rattle.agent_model.specs.Lines.{AgentWorld, SiteOccurrence, main_event, timed}
use Rattle.agent_model.specs.SideEvents.{side_event}
use Rattle.agent_model.specs.TheMachine.{machine}
use Rattle.agent_model.proofs.Isolated.{beside_site}
use Rattle.web_cookies.specs.Stored.{Entries, shared_in}
use Rattle.local_scripts.specs.Items.{AgentEntry, entry_of, event_of}
use Rattle.local_scripts.specs.declared.entry.Entry.{Entry}
use Rattle.local_scripts.specs.declared.entry.HeldJar.{HeldJar}
use Rattle.local_scripts.specs.declared.site_event.SiteEvent.{SiteEvent}
use Rattle.local_scripts.specs.Events.{IsMain, IsMainEvent, IsSide, ShowsTabs, cells_of, event_by}
use Rattle.local_scripts.specs.declared.main_events.MainEvent.{MainEvent}
use Rattle.local_scripts.specs.EntryParts.{IsHeld, IsMainEntry, SideEntry, entries_in, is_asked, is_own}
use Rattle.local_scripts.specs.Present.{PlainPresent}
use Rattle.local_scripts.specs.Seen.{IsGiven, is_asking, is_of_site}
use Rattle.local_scripts.specs.declared.seen_line.SeenLine.{SeenLine}

-- ---- the cookies that are held

module _ (rules : List Rule) (site : PlainSite) (others : List Domain) (d : Domain) where
  -- a site knows the cookies of its own domain, unless events of other sites have left them different
  held_here : bytes_eq d site.host ≡ true → is_held (machine rules) site others d ≡ is_in bytes_eq site.host others
  unfolding machine
  held_here is =
      let own : d ≡ site.host = (bytes_eq-Decides d site.host).0 is in
      ap (λ c. not (bytes_eq site.host c) || is_in bytes_eq c others) own
      ∙ ap (λ b. not b || is_in bytes_eq site.host others) ((bytes_eq-Decides site.host site.host).1 refl)

  -- and those of no other
  held_elsewhere : bytes_eq d site.host ≡ false → is_held (machine rules) site others d ≡ true
  unfolding machine
  held_elsewhere is = ap (λ b. not b || is_in bytes_eq d others) (apart (bytes_eq site.host d) refl)
    where
      apart : (b : Bool) → bytes_eq site.host d ≡ b → b ≡ false
      apart false same = refl
      apart true same = sym ((bytes_eq-Decides d site.host).1 (sym ((bytes_eq-Decides site.host d).0 same))) ∙ is

-- cookies that others have left different are unknown, and those of another domain
pub where_touched : (here touched : Bool) → touched ≡ true → (here && not touched) ≡ false
where_touched true touched is = ap not is
where_touched false touched is = refl

pub where_apart : (here touched : Bool) → here ≡ false → (here && not touched) ≡ false
where_apart here touched is = ap (λ b. b && not touched) is

pub held_known : (site : PlainSite) (cookies : Entries) (d : Domain) → bytes_eq d site.host ≡ true
    → IsHeld site cookies false (d ∷ []) None
held_known site cookies d is rules others told =
    sym (ap (λ b. cond b (record { cell = d; content = (machine rules).get (shared_in cookies) d } ∷ []) [])
    (held_here rules site others d is ∙ told))

pub held_unknown : (site : PlainSite) (cookies : Entries) (touched : Bool) (d : Domain) (held : HeldJar)
    → (bytes_eq d site.host && not touched) ≡ false
    → string_bytes held.domain ≡ d → held.jar.cookies ≡ get_cell domain_order (shared_in cookies) d
    → IsHeld site cookies touched (d ∷ []) (Some held)
unfolding machine
held_unknown site cookies touched d held unknown name jar rules others told =
    (λ i. record { cell = name i; content = jar i } ∷ [])
    ∙ sym (ap (λ b. cond b (record { cell = d; content = get_cell domain_order (shared_in cookies) d } ∷ [])
    []) (by (bytes_eq d site.host) refl touched refl unknown))
  where
    by : (b : Bool) → bytes_eq d site.host ≡ b → (t : Bool) → touched ≡ t → (b && not t) ≡ false
        → is_held (machine rules) site others d ≡ true
    by true is true so unknown = held_here rules site others d is ∙ told ∙ so
    by true is false so unknown = absurd (cc unknown)
    by false is t so unknown = held_elsewhere rules site others d is

-- ---- what the main event consults

-- an event consults the same before the events beside it and after them
after_names : (rules : List Rule) (world : AgentWorld) (action : PlainAction) (same_site : Bool) (site : PlainSite)
    → event_names rules ((after_sides (machine rules) world action).partition site)
    (event_by action same_site) ≡ event_names rules (world.partition site) (event_by action same_site)
unfolding machine side_event
after_names rules world (Tick s) same_site site = refl
after_names rules world (Open tab url opener noopener method head) same_site site =
    ap (λ own. consulted_by rules (top_use own url method same_site))
    (beside_site rules world (Open tab url opener noopener method head) site)
after_names rules world (Close tab) same_site site = refl
after_names rules world (Go tab url by_page method head) same_site site =
    ap (λ own. consulted_by rules (top_use own url method same_site))
    (beside_site rules world (Go tab url by_page method head) site)
after_names rules world (Evict named) same_site site = refl
after_names rules world (Act at action) same_site site = refl

module _ (rules : List Rule) (tabs : List PlainTab) (action : PlainAction) (world : AgentWorld)
    (shows : ShowsTabs tabs world) where
  consulted_is : (found : MainEvent) → IsMainEvent rules tabs action found
      → event_names rules ((after_sides (machine rules) world action).partition (plain_site found.site))
      (event_by action found.same_site) ≡ cells_of found
  consulted_is found is =
      after_names rules world action found.same_site (plain_site found.site)
      ∙ is.cells (world.partition (plain_site found.site)) (shows.sites (plain_site found.site))
      (shows.partitions (plain_site found.site))

  -- ---- the truth values

  pub asking_is : (site : PlainSite) (main : Option MainEvent) → IsMain rules tabs action main
      → is_asked site main ≡ is_asking rules site (after_sides (machine rules) world action) (main_event rules world action)
  asking_is site None is = sym (ap (is_asking rules site (after_sides (machine rules) world action)) (is world shows))
  asking_is site (Some found) is =
      ap (λ ds. not (same_plain_site site (plain_site found.site)) && is_in bytes_eq site.host ds) (sym (consulted_is found is))
      ∙ sym (ap (is_asking rules site (after_sides (machine rules) world action)) (is.event world shows))

  pub own_is : (site : PlainSite) (main : Option MainEvent) → IsMain rules tabs action main
      → is_own site main ≡ is_of_site site (main_event rules world action)
  own_is site None is = sym (ap (is_of_site site) (is world shows))
  own_is site (Some found) is = sym (ap (is_of_site site) (is.event world shows))

-- ---- the entry of the main event

module _ (present : PlainPresent) (action : PlainAction) (site : PlainSite) (touched : Bool) where
  abbrev told : AgentWorld → List Domain → Option SiteOccurrence → List AgentEntry
  told world others main = main_entries (machine present.rules) site others
      (after_sides (machine present.rules) world action) main

  pub no_main : IsMain present.rules present.tabs action None → IsMainEntry present action site touched None
  no_main is world others stands hears = sym (ap (told world others) (is world stands.tabs_shown))

  pub main_elsewhere : (found : MainEvent) → IsMain present.rules present.tabs action (Some found)
      → same_plain_site site (plain_site found.site) ≡ false
      → IsMainEntry present action site touched None
  unfolding machine
  main_elsewhere found is apart world others stands hears =
      let m = machine present.rules in
      let main = timed world (event_by action found.same_site) in
      let asked = candidates m site others ((after_sides m world action).partition (plain_site found.site)) main in
      sym (ap (told world others) (is.event world stands.tabs_shown)
      ∙ ap (λ b. cond b (record {
        event = main;
        held =
            held_cells m (is_held m site others) world.cells asked;
      } ∷ []) []) apart)

  pub main_here : (found : MainEvent) (entry : Entry) → IsMain present.rules present.tabs action (Some found)
      → same_plain_site site (plain_site found.site) ≡ true
      → entry.moment ≡ present.now → event_of entry.event ≡ event_by action found.same_site
      → IsHeld site present.cookies touched (cells_of found) entry.held
      → IsMainEntry present action site touched (Some entry)
  unfolding machine
  main_here found entry is here moment event held world others stands hears =
      let m = machine present.rules in
      let after = after_sides m world action in
      let main = event_by action found.same_site in
      let asked : candidates m site others (after.partition (plain_site found.site)) (timed world main) ≡ cells_of found =
      append-nil (event_names present.rules (after.partition (plain_site found.site)) main)
      ∙ consulted_is present.rules present.tabs action world stands.tabs_shown found is in
      (λ i. record {
        event = record { moment = (moment ∙ sym stands.moment) i; event = event i };
        held = (held present.rules others hears ∙ λ j. held_cells m (is_held m site others) (sym stands.cells j) (sym asked j)) i;
      } ∷ [])
      ∙ sym (ap (told world others) (is.event world stands.tabs_shown)
      ∙ ap (λ b. cond b (record {
        event = timed world main;
        held =
            held_cells m (is_held m site others) world.cells
            (candidates m site others (after.partition (plain_site found.site)) (timed world main));
      } ∷ []) []) here)

-- ---- both entries

-- the entry of an event beside the main one
side_is : (rules : List Rule) (world : AgentWorld) (found : Option SiteEvent)
    → side_entries (machine rules) (option_map (timed world) (option_map event_of found))
    ≡ map (λ e. record { event = record { moment = world.rest.now; event = event_of e }; held = [] }) (option_to_list found)
side_is rules world None = refl
side_is rules world (Some e) = refl

module _ (present : PlainPresent) (action : PlainAction) (site : PlainSite) (touched areas : Bool)
    (side : Option SiteEvent) (main : Option MainEvent)
    (first second : Option Entry) (seen : SeenLine) where
  pub given_line : IsSide present.rules present.tabs action site areas side → IsMain present.rules present.tabs action main
      → SideEntry present.now side first → IsMainEntry present action site touched second
      → map entry_of seen.entries.items ≡ (entries_in first ++ entries_in second)
      → seen.asks ≡ is_asked site main → seen.of_site ≡ is_own site main
      → IsGiven present action site touched areas seen
  unfolding line_entries machine
  given_line beside is first_is second_is all asks own world stands has others hears =
      let m = machine present.rules in
      record {
        entries =
            all
            ∙ λ i.
            (first_is
            ∙ ap (λ now. map (λ e. record { event = record { moment = now; event = event_of e }; held = [] })
            (option_to_list side)) (sym stands.moment)
            ∙ sym (side_is present.rules world side)
            ∙ ap (side_entries m) (sym (beside world stands.tabs_shown has))) i
            ++ second_is world others stands hears i;
        asks = asks ∙ asking_is present.rules present.tabs action world stands.tabs_shown site main is;
        of_site = own ∙ own_is present.rules present.tabs action world stands.tabs_shown site main is;
      }

-- ---- lines of documents

-- a line that is none of five kinds is one of a document
