-- Where no domain has a cookie, and an event stores none, none has one afterwards.
use Rattle.std.proofs.Common.{◌≡◌, ℕ, pos, Bool, true, false, cond, List, [], Option, Some, None, Ok, Err, refl, sym, ap, ◌∙◌}
use Rattle.std.specs.Prelude.{Result, bytes_eq, option_map}
use Rattle.unwinding.specs.FiniteCells.{get_cell, merge_cells, restrict_cells, set_cell}
use Rattle.agent_base.specs.declared.refusals.Label.{Label}
use Rattle.suffix_list.specs.Suffix.{Rule}
use Rattle.origin_site.specs.Address.{PlainAddress}
use Rattle.origin_site.specs.Site.{PlainSite}
use Rattle.storage_key.specs.Key.{PlainKey}
use Rattle.frame_tree.specs.declared.tab.TreeFault.{TreeFault}
use Rattle.frame_tree.specs.Document.{PlainDocument}
use Rattle.frame_tree.specs.Keys.{key_of_document}
use Rattle.frame_tree.specs.Tree.{PlainFrame, document_of}
use Rattle.live_state.specs.Tabs.{PlainTab, made_tab}
use Rattle.cookie_jar.specs.Sending.{marked}
use Rattle.script_actions.specs.declared.words.Method.{Method}
use Rattle.script_actions.specs.Action.{DocumentAction, HeadField, Frame, Nav, Drop, Click, Fetch, Set, Get, Del, Clear, Len, Key}
use Rattle.script_actions.specs.Action.{Events, Cookie, SetCookie, Has, Request, Persisted, Estimate, Persist}
use Rattle.script_actions.specs.Action.{PlainAction, Tick, Open, Close, Go, Evict, Act}
use Rattle.script_actions.specs.ActionFacts.{facts_of}
use Rattle.agent_model.specs.CookieCells.{Cookies, Domain, domain_order}
use Rattle.agent_model.specs.PartitionedCells.{partitioned_order}
use Rattle.agent_model.specs.Partition.{Holdings, Partition, tab_named, with_tab}
use Rattle.agent_model.specs.Effects.{Effect, no_shared_cells}
use Rattle.agent_model.specs.Documents.{by_document, by_key}
use Rattle.agent_model.specs.CookieUse.{CookieUse, cookie_domain, key_of, uses_own}
use Rattle.agent_model.specs.CookieUses.{fetch_use, frame_use, nav_use, top_use}
use Rattle.agent_model.specs.CookieStore.{BothCells, both_marked, cookie_texts, own_places, store_texts}
use Rattle.agent_model.specs.Cookies.{both_found, own_left, read_cookies, request}
use Rattle.agent_model.specs.Frames.{on_frames, frames_added, frames_navigated}
use Rattle.agent_model.specs.SiteEvent.{Acts, Closes}
use Rattle.agent_model.specs.SiteStep.{act, act_in, close_at, site_step}
use Rattle.agent_model.specs.Sessions.{show}
use Rattle.agent_model.specs.Lines.{AgentWorld, SiteOccurrence, Starter, going, main_event, occurs, opener_of, opening, site_at}
use Rattle.agent_model.specs.StoresNone.{GivesNone, StoresNone}
use Rattle.agent_model.proofs.CookieCellsLemmas.{get_merge, get_none, get_restrict, get_set, none_left, same_cells}
use Rattle.agent_model.proofs.CookieActionLemmas.{act_local}
use Rattle.agent_model.proofs.CookieLemmas.{IsLocal}

-- of no cookie nothing is seen, and nothing is left
pub restrict_none : (test : Domain → Bool) → restrict_cells domain_order test no_shared_cells ≡ no_shared_cells
restrict_none test = same_cells _ _ (λ c. get_restrict test no_shared_cells c ∙ at (test c) (get_cell domain_order no_shared_cells c) (get_none c))
  where
    at : (b : Bool) (x : Cookies) → x ≡ [] → cond b x [] ≡ x
    at true x none = refl
    at false x none = sym none

pub merge_none : (test : Domain → Bool) → merge_cells domain_order test no_shared_cells no_shared_cells ≡ no_shared_cells
merge_none test = same_cells _ _ (λ c. get_merge test no_shared_cells no_shared_cells c ∙ at (test c) (get_cell domain_order no_shared_cells c))
  where
    at : (b : Bool) (x : Cookies) → cond b x x ≡ x
    at true x = refl
    at false x = refl

-- an effect leaves no cookie where there is none
abbrev LeavesNone : Effect → Type 0
LeavesNone does = (held : Holdings) → (does no_shared_cells held).cells ≡ no_shared_cells

local_none : (does : Effect) → IsLocal [] does → LeavesNone does
local_none does local held = ap (λ d. d.cells) (local no_shared_cells held) ∙ none_left _ no_shared_cells

module _ (rules : List Rule) (now : ℕ) where
  request_none : (how : CookieUse) (head : List HeadField) → cookie_texts head ≡ [] → LeavesNone (request rules now how head)
  request_none how head none held =
      ap (λ texts. own_left rules how (store_texts rules now how (both_marked now how (both_found rules how no_shared_cells held)) texts).both.own no_shared_cells) none
      ∙ ap (λ own. own_left rules how (marked (own_places now how (both own)) (pos now) own) no_shared_cells) (found (uses_own how))
      ∙ left (uses_own how)
    where
      both : Cookies → BothCells
      both own = record { own = own; partition = get_cell partitioned_order held.cookies (key_of rules how) }

      found : (own : Bool) → cond own (get_cell domain_order no_shared_cells (cookie_domain rules how)) [] ≡ []
      found true = get_none (cookie_domain rules how)
      found false = refl

      set_none : (c : Domain) (b : Bool) → cond b [] (get_cell domain_order no_shared_cells c) ≡ get_cell domain_order no_shared_cells c
      set_none c true = sym (get_none c)
      set_none c false = refl

      left : (own : Bool) → cond own (set_cell domain_order (cookie_domain rules how) [] no_shared_cells) no_shared_cells ≡ no_shared_cells
      left true = same_cells _ _ (λ c. get_set c (cookie_domain rules how) [] no_shared_cells ∙ set_none c (bytes_eq c (cookie_domain rules how)))
      left false = refl

  frames_none : (number : ℕ) (tab : PlainTab) (replaced : Option ℕ) (how : CookieUse) (head : List HeadField) (after : Result (List PlainFrame) TreeFault) → cookie_texts head ≡ []
      → LeavesNone (on_frames number tab replaced (λ frames. request rules now how head) after)
  frames_none number tab replaced how head (Ok frames) none held = request_none how head none (with_tab number (made_tab number frames replaced (Some tab)) held)
  frames_none number tab replaced how head (Err why) none held = refl

  fetch_none : (how : CookieUse) (head : List HeadField) (found : Option PlainDocument) → cookie_texts head ≡ [] → LeavesNone (by_document found (λ document. request rules now how head))
  fetch_none how head None none held = refl
  fetch_none how head (Some document) none held = request_none how head none held

  module _ (site : PlainSite) (at : Label) (tab : PlainTab) where
    read_none : (found : Option PlainDocument) → LeavesNone (by_document found (λ document. by_key at document (key_of_document at.frame tab.frames document) (read_cookies rules now site)))
    read_none None held = refl
    read_none (Some document) held = by (key_of_document at.frame tab.frames document)
      where
        by : (key : Option PlainKey) → (by_key at document key (read_cookies rules now site) no_shared_cells held).cells ≡ no_shared_cells
        by None = refl
        by (Some key) = refl

    act_none : (action : DocumentAction) → GivesNone (facts_of action).stores → LeavesNone (act_in rules now site at action tab)
    act_none (Frame parent url sandbox deny head) none = frames_none at.tab tab None (frame_use rules site parent tab.frames url) head (frames_added rules at parent url sandbox deny tab.frames) none
    act_none (Nav url by_self method head) none = frames_none at.tab tab (Some at.frame) (nav_use rules site at.frame tab.frames url by_self method) head (frames_navigated rules at url by_self tab.frames) none
    act_none (Fetch url method head) none = fetch_none (fetch_use rules site at.frame tab.frames url method) head (document_of at.frame tab.frames) none
    act_none (SetCookie text) none = absurd none
    act_none Cookie none = read_none (document_of at.frame tab.frames)
    act_none Has none = local_none _ (act_local rules now site at tab Has)
    act_none (Request answer) none = local_none _ (act_local rules now site at tab (Request answer))
    act_none Drop none = local_none _ (act_local rules now site at tab Drop)
    act_none Click none = local_none _ (act_local rules now site at tab Click)
    act_none (Set area key value) none = local_none _ (act_local rules now site at tab (Set area key value))
    act_none (Get area key) none = local_none _ (act_local rules now site at tab (Get area key))
    act_none (Del area key) none = local_none _ (act_local rules now site at tab (Del area key))
    act_none (Clear area) none = local_none _ (act_local rules now site at tab (Clear area))
    act_none (Len area) none = local_none _ (act_local rules now site at tab (Len area))
    act_none (Key area n) none = local_none _ (act_local rules now site at tab (Key area n))
    act_none Events none = local_none _ (act_local rules now site at tab Events)
    act_none Persisted none = local_none _ (act_local rules now site at tab Persisted)
    act_none Estimate none = local_none _ (act_local rules now site at tab Estimate)
    act_none (Persist answer) none = local_none _ (act_local rules now site at tab (Persist answer))

-- ---- main events

module _ (rules : List Rule) (w : AgentWorld) where
  -- a main event leaves no cookie where there is none, whatever its site has
  abbrev pub MainLeavesNone : Option SiteOccurrence → Type 0
  MainLeavesNone None = Unit {0}
  MainLeavesNone (Some here) = (own : Partition) → (site_step rules own no_shared_cells here.event).cells ≡ no_shared_cells

  open_none : (tab : ℕ) (url : PlainAddress) (method : Method) (head : List HeadField) (starter : Option Starter) (here : Option PlainSite) → cookie_texts head ≡ []
      → MainLeavesNone (opening rules w tab url method head starter here)
  unfolding site_step
  open_none tab url method head None here none = tt
  open_none tab url method head (Some starter) None none =
      λ own. request_none rules w.rest.now (top_use own.site url method _) head none (show rules tab url own.held)
  open_none tab url method head (Some starter) (Some here) none = tt

  go_none : (tab : ℕ) (url : PlainAddress) (by_page : Bool) (method : Method) (head : List HeadField) (here : Option PlainSite) → cookie_texts head ≡ []
      → MainLeavesNone (going rules w tab url by_page method head here)
  unfolding site_step
  go_none tab url by_page method head None none = tt
  go_none tab url by_page method head (Some here) none =
      λ own. request_none rules w.rest.now (top_use own.site url method _) head none (show rules tab url own.held)

  close_none : (tab : ℕ) (here : Option PlainSite) → MainLeavesNone (option_map (occurs w (Closes tab)) here)
  unfolding site_step
  close_none tab None = tt
  close_none tab (Some here) = λ own. by own (tab_named tab own.held)
    where
      by : (own : Partition) (closed : Option PlainTab) → (close_at tab closed no_shared_cells own).cells ≡ no_shared_cells
      by own None = refl
      by own (Some closed) = refl

  acts_none : (at : Label) (action : DocumentAction) (here : Option PlainSite) → GivesNone (facts_of action).stores → MainLeavesNone (option_map (occurs w (Acts at action)) here)
  unfolding site_step
  acts_none at action None none = tt
  acts_none at action (Some here) none = λ own. by own (tab_named at.tab own.held)
    where
      by : (own : Partition) (tab : Option PlainTab) → (act rules w.rest.now at action tab no_shared_cells own).cells ≡ no_shared_cells
      by own None = refl
      by own (Some tab) = act_none rules w.rest.now own.site at tab action none own.held

  pub main_none : (line : PlainAction) → StoresNone line → MainLeavesNone (main_event rules w line)
  unfolding main_event site_step
  main_none (Tick seconds) none = tt
  main_none (Open tab url opener noopener method head) none = open_none tab url method head (opener_of opener w.rest.places) (site_at tab w.rest.places) none
  main_none (Go tab url by_page method head) none = go_none tab url by_page method head (site_at tab w.rest.places) none
  main_none (Close tab) none = close_none tab (site_at tab w.rest.places)
  main_none (Evict named) none = λ own. refl
  main_none (Act at action) none = acts_none at action (site_at at.tab w.rest.places) none
