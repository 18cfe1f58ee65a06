-- Which entries of a local script hold the cookies of a domain, worked out by hand: a load of
-- `https://a.test/` stores one, a load of `http://a.test/` another one, and a script of the first
-- reads them.
use Rattle.std.proofs.Common.{◌≡◌, ℕ, true, false, cond, pos, List, [], ◌∷◌, ◌++◌, Option, Some, None, refl, ap, ◌∙◌}
use Rattle.std.specs.Cmp.{nat_cmp_total}
use Rattle.std.specs.Ordering.{nat_cmp}
use Rattle.std.specs.Prelude.{codes, filter, map}
use Rattle.std.specs.FinMap.{get-empty, get-insert}
use Rattle.unwinding.specs.FiniteCells.{get_cell}
use Rattle.unwinding.specs.LocalEntries.{HeldCell, line_entries, line_touched, local_entries}
use Rattle.origin_site.specs.Address.{PlainAddress}
use Rattle.origin_site.specs.Origin.{origin_of_address}
use Rattle.origin_site.specs.Site.{PlainSite}
use Rattle.storage_key.specs.Context.{is_of}
use Rattle.frame_tree.specs.Calls.{opened}
use Rattle.frame_tree.specs.Document.{loaded}
use Rattle.frame_tree.specs.Sandbox.{unrestricted}
use Rattle.live_state.specs.Tabs.{PlainTab, made_tab}
use Rattle.setcookie_parse.specs.declared.cookie.SameSite.TheVariants as when
use Rattle.stored_cookie.specs.StoredCookie.{PlainCookie}
use Rattle.script_actions.specs.Action.{PlainAction, Act, Cookie}
use Rattle.agent_model.specs.CookieCells.{Domain, Cookies, domain_order, equal_cookies}
use Rattle.agent_model.specs.Partition.{empty_partition, no_holdings}
use Rattle.agent_model.specs.Documents.{Keyed}
use Rattle.agent_model.specs.SiteEvent.{SiteEvent, Acts}
use Rattle.agent_model.specs.SiteStep.{site_step}
use Rattle.agent_model.specs.Consults.{names_at}
use Rattle.agent_model.specs.Lines.{AgentWorld, no_places, placed, site_at}
use Rattle.agent_model.specs.SideEvents.{side_event}
use Rattle.agent_model.specs.TheMachine.{beginning, machine}
use Rattle.agent_model.specs.Given.{SiteEntry, entry_given, events_given, given, is_unknown}
use Rattle.agent_model.proofs.CookieCellsLemmas.{get_none}
use Rattle.agent_model.proofs.GivenLemmas.{gives}
pub use Rattle.agent_model.proofs.OpenedLemmas.{nothing_partitioned}
use Rattle.agent_model.proofs.OpenedLemmas.{after_open, comes, cookies_after, left_in, open_gives, open_stepped, open_touches, opens}
use Rattle.agent_model.proofs.StandardFacts.{address, at_frame, at_seven, site, stores, a}

-- ---- names

abbrev pub http_a : PlainAddress
http_a =
    record {
      text = codes "http://a.test/";
      https = false;
      ip = false;
      host = a;
      port = 80;
      path = codes "/";
    }

abbrev pub http_site : PlainSite
http_site = record { https = false; host = a }

-- the top document of tab 1, at `https://a.test/`
abbrev pub reader : Keyed
reader =
    record {
      at = at_frame 1 0;
      document = loaded [] unrestricted false (address a);
      key = record { top = site a; origin = origin_of_address (address a); bit = false };
    }

-- the cookies `s=1` and `t=1`
abbrev pub cookie : List ℕ → PlainCookie
cookie name =
    record {
      name = name;
      value = codes "1";
      domain = a;
      path = codes "/";
      host_only = true;
      secure = false;
      http_only = false;
      same_site = when.Default;
      creation = pos 7;
      expiry = None;
      last = pos 7;
    }

-- ---- a load in a new tab that the user opens

-- what a load makes of the cookies of the domain, from what both cells have
abbrev pub own_after : PlainSite → PlainAddress → List ℕ → Cookies → Cookies → Cookies
own_after s url text = cookies_after s url (stores text)

abbrev line : ℕ → PlainAddress → List ℕ → PlainAction
line tab url text = opens tab url (stores text)

abbrev after : AgentWorld → ℕ → PlainAddress → List ℕ → AgentWorld
after w tab url text = after_open w tab url (stores text)

-- ---- the run

abbrev w0 : AgentWorld
w0 = beginning 7

abbrev w1 : AgentWorld
w1 = after w0 1 (address a) (codes "s=1")

abbrev w2 : AgentWorld
w2 = after w1 2 http_a (codes "t=1")

-- the script of the top document of tab 1 reads
abbrev reads : PlainAction
reads = Act (at_frame 1 0) Cookie

one_is_free : site_at 1 no_places ≡ None
unfolding no_places
one_is_free = get-empty nat_cmp 1

two_is_free : site_at 2 (placed 1 (site a) no_places) ≡ None
unfolding no_places
two_is_free = get-insert nat_cmp_total no_places 1 (site a) 2 ∙ get-empty nat_cmp 2

one_is_there : site_at 1 (placed 2 http_site (placed 1 (site a) no_places)) ≡ Some (site a)
one_is_there = get-insert nat_cmp_total (placed 1 (site a) no_places) 2 http_site 1 ∙ get-insert nat_cmp_total no_places 1 (site a) 1

-- after the first load the domain has `s=1`
own_first : get_cell domain_order w1.cells a ≡ cookie (codes "s") ∷ []
unfolding beginning machine empty_partition site_step
own_first =
    left_in (site a) 1 (address a) (stores (codes "s=1")) (record { top = site a; bit = false; domain = a }) a w0.cells refl refl
    ∙ ap (λ own. own_after (site a) (address a) (codes "s=1") own []) (get_none a)

-- after the second it has both
own_second : get_cell domain_order w2.cells a ≡ cookie (codes "s") ∷ cookie (codes "t") ∷ []
unfolding beginning machine empty_partition site_step
own_second =
    left_in http_site 2 http_a (stores (codes "t=1")) (record { top = http_site; bit = false; domain = a }) a w1.cells refl refl
    ∙ ap (λ own. own_after http_site http_a (codes "t=1") own []) own_first

-- the page over http has left the cookies of the domain different
touched_first : line_touched (machine []) (site a) [] w0 (line 1 (address a) (codes "s=1")) ≡ []
unfolding beginning machine
touched_first = open_touches w0 1 (address a) (stores (codes "s=1")) one_is_free (site a) []

touched_second : line_touched (machine []) (site a) [] w1 (line 2 http_a (codes "t=1")) ≡ a ∷ []
unfolding beginning machine empty_partition side_event
touched_second = open_touches w1 2 http_a (stores (codes "t=1")) two_is_free (site a) [] ∙ (λ i. cond (equal_cookies (own_first i) (own_second i)) [] (a ∷ []))

abbrev entry : SiteEvent → List (HeldCell Domain Cookies) → SiteEntry
entry event held = record { event = at_seven event; held = held }

one_is_at_a : site_at 1 (placed 1 (site a) no_places) ≡ Some (site a)
one_is_at_a = get-insert nat_cmp_total no_places 1 (site a) 1

-- what each line gives `https://a.test`
first_gives : line_entries (machine []) (site a) [] w0 (line 1 (address a) (codes "s=1")) ≡ entry (comes 1 (address a) (stores (codes "s=1"))) [] ∷ []
unfolding beginning empty_partition
first_gives = open_gives w0 1 (address a) (stores (codes "s=1")) one_is_free (site a) []

second_gives : line_entries (machine []) (site a) [] w1 (line 2 http_a (codes "t=1")) ≡ []
unfolding beginning
second_gives = open_gives w1 2 http_a (stores (codes "t=1")) two_is_free (site a) []

third_gives : line_entries (machine []) (site a) (a ∷ []) w2 reads
    ≡ entry (Acts (at_frame 1 0) Cookie) (record { cell = a; content = cookie (codes "s") ∷ cookie (codes "t") ∷ [] } ∷ []) ∷ []
unfolding beginning machine empty_partition site_step events_given no_holdings
third_gives =
    gives [] (site a) (a ∷ []) w2 reads
    ∙ (λ i. map (entry_given [] (site a) (w2.partition (site a)) (a ∷ []) w2.cells) (given (is_of (site a) (one_is_there i)) 7 (Acts (at_frame 1 0) Cookie)))
    ∙ ap reads_with (get-insert nat_cmp_total no_holdings.tabs 1 (made_tab 1 (opened [] (address a)) None None) 1)
    ∙ ap (λ own. entry (Acts (at_frame 1 0) Cookie) (record { cell = a; content = own } ∷ []) ∷ []) own_second
  where
    reads_with : Option PlainTab → List SiteEntry
    reads_with tab =
        entry (Acts (at_frame 1 0) Cookie)
        (map (λ domain. record { cell = domain; content = get_cell domain_order w2.cells domain }) (filter (is_unknown (site a) (a ∷ [])) (names_at [] (site a) (at_frame 1 0) Cookie tab))) ∷ []

-- without the load over http the reading holds none
third_alone : line_entries (machine []) (site a) [] w1 reads ≡ entry (Acts (at_frame 1 0) Cookie) [] ∷ []
unfolding beginning machine empty_partition site_step events_given no_holdings
third_alone =
    gives [] (site a) [] w1 reads
    ∙ (λ i. map (entry_given [] (site a) (w1.partition (site a)) [] w1.cells) (given (is_of (site a) (one_is_at_a i)) 7 (Acts (at_frame 1 0) Cookie)))
    ∙ ap reads_with (get-insert nat_cmp_total no_holdings.tabs 1 (made_tab 1 (opened [] (address a)) None None) 1)
  where
    reads_with : Option PlainTab → List SiteEntry
    reads_with tab =
        entry (Acts (at_frame 1 0) Cookie)
        (map (λ domain. record { cell = domain; content = get_cell domain_order w1.cells domain }) (filter (is_unknown (site a) []) (names_at [] (site a) (at_frame 1 0) Cookie tab))) ∷ []

-- the second entry of `https://a.test` holds the cookies of the domain, which the page over http has
-- changed, and the first entry does not
held_later : local_entries (machine []) (site a) [] w0 (line 1 (address a) (codes "s=1") ∷ line 2 http_a (codes "t=1") ∷ reads ∷ [])
    ≡ entry (comes 1 (address a) (stores (codes "s=1"))) []
    ∷ entry (Acts (at_frame 1 0) Cookie) (record { cell = a; content = cookie (codes "s") ∷ cookie (codes "t") ∷ [] } ∷ [])
    ∷ []
unfolding beginning
held_later =
    (λ i. first_gives i ++ local_entries (machine []) (site a) (touched_first i) (open_stepped w0 1 (address a) (stores (codes "s=1")) one_is_free i) (line 2 http_a (codes "t=1") ∷ reads ∷ []))
    ∙ (λ i. first ++ (second_gives i ++ local_entries (machine []) (site a) (touched_second i) (open_stepped w1 2 http_a (stores (codes "t=1")) two_is_free i) (reads ∷ [])))
    ∙ (λ i. first ++ (third_gives i ++ []))
  where
    first : List SiteEntry
    first = entry (comes 1 (address a) (stores (codes "s=1"))) [] ∷ []
