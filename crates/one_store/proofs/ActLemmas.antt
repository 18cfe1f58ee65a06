-- Every action in an open tab, at the site that the tab is at and at another one.
use Rattle.std.proofs.Common.{◌≡◌, ℕ, Bool, true, false, List, Some, None, refl}
use Rattle.agent_base.specs.declared.refusals.Label.{Label}
use Rattle.suffix_list.specs.Suffix.{Rule}
use Rattle.origin_site.specs.Site.{PlainSite, same_plain_site}
use Rattle.live_state.specs.Tabs.{PlainTab}
use Rattle.script_actions.specs.Action.{DocumentAction, Frame, Nav, Drop, Click, Fetch, Set, Get, Del, Clear, Len, Key}
use Rattle.script_actions.specs.Action.{Events, Cookie, SetCookie, Has, Request, Persisted, Estimate, Persist}
use Rattle.agent_model.specs.Partition.{Holdings, tab_named}
use Rattle.agent_model.specs.Effects.{SharedCells, answers, ok}
use Rattle.agent_model.specs.CookieUses.{fetch_use, frame_use, nav_use}
use Rattle.agent_model.specs.Cookies.{read_cookies, request, set_cookie}
use Rattle.agent_model.specs.Frames.{frames_added, frames_navigated, frames_removed, frames_clicked}
use Rattle.agent_model.specs.AreaActions.{set_item, remove_item, clear_area, get_item, get_name, get_length}
use Rattle.agent_model.specs.Buckets.{get_mode, get_usage, persist}
use Rattle.agent_model.specs.Documents.{in_secure}
use Rattle.agent_model.specs.SiteStep.{act_in}
use Rattle.one_store.specs.HeldAt.{held_at, done_at, IsKeyed}
use Rattle.one_store.proofs.AreaLemmas.{set_item_seen, remove_item_seen, clear_area_seen, get_item_seen, get_name_seen, get_length_seen}
use Rattle.one_store.proofs.AreaLemmas.{set_item_unseen, remove_item_unseen, clear_area_unseen}
use Rattle.one_store.proofs.BucketLemmas.{get_mode_seen, get_usage_seen, persist_seen, persist_unseen}
use Rattle.one_store.proofs.CookieLemmas.{read_seen, request_seen, request_unseen, set_seen, set_unseen}
use Rattle.one_store.proofs.DocumentLemmas.{with_document_seen, with_document_unseen, with_key_seen, with_key_unseen}
use Rattle.one_store.proofs.GrantLemmas.{request_access_seen, request_access_unseen}
use Rattle.one_store.proofs.PlacedLemmas.{is_there}
use Rattle.one_store.proofs.TabLemmas.{on_frames_seen, on_frames_unseen, take_events_seen, take_events_unseen}

module _ (rules : List Rule) (now : ℕ) (site : PlainSite) (here : ℕ → Bool) (cells : SharedCells) (held : Holdings) (keyed : IsKeyed site here held) (at : Label) (tab : PlainTab) (is : here at.tab ≡ true)
    (found : tab_named at.tab held ≡ Some tab) where
  -- ---- at the site that the tab is at

  -- it is the same action at the site as in all
  pub act_seen : (action : DocumentAction) → act_in rules now site at action tab cells (held_at site here held) ≡ done_at site here (act_in rules now site at action tab cells held)
  act_seen (Frame parent url sandbox deny head) =
      on_frames_seen site here cells held at.tab tab None (λ frames. request rules now (frame_use rules site parent tab.frames url) head) (frames_added rules at parent url sandbox deny tab.frames) is
      (λ frames all. request_seen site here all rules now cells (frame_use rules site parent tab.frames url) head (is_there site))
  act_seen (Nav url by_self method head) =
      on_frames_seen site here cells held at.tab tab (Some at.frame) (λ frames. request rules now (nav_use rules site at.frame tab.frames url by_self method) head) (frames_navigated rules at url by_self tab.frames) is
      (λ frames all. request_seen site here all rules now cells (nav_use rules site at.frame tab.frames url by_self method) head (is_there site))
  act_seen (Fetch url method head) =
      with_document_seen site here cells held at tab (λ document. request rules now (fetch_use rules site at.frame tab.frames url method) head)
      (λ document there. request_seen site here held rules now cells (fetch_use rules site at.frame tab.frames url method) head (is_there site))
  act_seen Cookie = with_key_seen site here cells held keyed at tab is found (read_cookies rules now site) (λ reader under. read_seen site here held rules now cells site reader (is_there site))
  act_seen (SetCookie text) =
      with_key_seen site here cells held keyed at tab is found (set_cookie rules now site text) (λ writer under. set_seen site here held rules now cells site writer text (is_there site))
  act_seen Has = with_document_seen site here cells held at tab _ (λ document there. refl)
  act_seen (Request answer) = request_access_seen rules now site cells held at tab answer here is
  act_seen Drop = on_frames_seen site here cells held at.tab tab None (λ frames. answers ok) (frames_removed at tab.frames) is (λ frames all. refl)
  act_seen Click = on_frames_seen site here cells held at.tab tab None (λ frames. answers ok) (frames_clicked now at tab.frames) is (λ frames all. refl)
  act_seen (Set area key value) =
      with_key_seen site here cells held keyed at tab is found (set_item area key value) (λ writer under. set_item_seen site here area writer under cells key value held)
  act_seen (Get area key) = with_key_seen site here cells held keyed at tab is found (get_item area key) (λ reader under. get_item_seen site here area reader under cells key held)
  act_seen (Del area key) = with_key_seen site here cells held keyed at tab is found (remove_item area key) (λ writer under. remove_item_seen site here area writer under cells key held)
  act_seen (Clear area) = with_key_seen site here cells held keyed at tab is found (clear_area area) (λ writer under. clear_area_seen site here area writer under cells held)
  act_seen (Len area) = with_key_seen site here cells held keyed at tab is found (get_length area) (λ reader under. get_length_seen site here area reader under cells held)
  act_seen (Key area n) = with_key_seen site here cells held keyed at tab is found (get_name area n) (λ reader under. get_name_seen site here area reader under cells n held)
  act_seen Events = take_events_seen site here cells held at tab is
  act_seen Persisted = with_key_seen site here cells held keyed at tab is found get_mode (λ reader under. get_mode_seen site here held reader under cells)
  act_seen Estimate = with_key_seen site here cells held keyed at tab is found get_usage (λ reader under. get_usage_seen site here held reader under cells)
  act_seen (Persist answer) = with_key_seen site here cells held keyed at tab is found (in_secure tab (persist answer)) (λ asker under. persist_seen site here held asker under cells tab answer)

  -- ---- at another site

  module _ (other : PlainSite) (there : ℕ → Bool) (apart : same_plain_site other site ≡ false) (keyed_there : IsKeyed other there held) (isnt : there at.tab ≡ false) where
    -- it leaves what another site has
    pub act_unseen : (action : DocumentAction) → held_at other there (act_in rules now site at action tab cells held).held ≡ held_at other there held
    act_unseen (Frame parent url sandbox deny head) =
        on_frames_unseen other there cells held at.tab tab None (λ frames. request rules now (frame_use rules site parent tab.frames url) head) (frames_added rules at parent url sandbox deny tab.frames) isnt
        (λ frames all. request_unseen other there all rules now cells (frame_use rules site parent tab.frames url) head apart)
    act_unseen (Nav url by_self method head) =
        on_frames_unseen other there cells held at.tab tab (Some at.frame) (λ frames. request rules now (nav_use rules site at.frame tab.frames url by_self method) head) (frames_navigated rules at url by_self tab.frames) isnt
        (λ frames all. request_unseen other there all rules now cells (nav_use rules site at.frame tab.frames url by_self method) head apart)
    act_unseen (Fetch url method head) =
        with_document_unseen other there cells held at tab (λ document. request rules now (fetch_use rules site at.frame tab.frames url method) head)
        (λ document at_it. request_unseen other there held rules now cells (fetch_use rules site at.frame tab.frames url method) head apart)
    act_unseen Cookie = with_key_unseen site here cells held keyed at tab is found (read_cookies rules now site) other there apart (λ reader under. refl)
    act_unseen (SetCookie text) =
        with_key_unseen site here cells held keyed at tab is found (set_cookie rules now site text) other there apart (λ writer under. set_unseen other there held rules now cells site writer text apart)
    act_unseen Has = with_document_unseen other there cells held at tab _ (λ document at_it. refl)
    act_unseen (Request answer) = request_access_unseen rules now site cells held at tab answer other there apart isnt
    act_unseen Drop =
        on_frames_unseen other there cells held at.tab tab None (λ frames. answers ok) (frames_removed at tab.frames) isnt (λ frames all. refl)
    act_unseen Click =
        on_frames_unseen other there cells held at.tab tab None (λ frames. answers ok) (frames_clicked now at tab.frames) isnt (λ frames all. refl)
    act_unseen (Set area key value) =
        with_key_unseen site here cells held keyed at tab is found (set_item area key value) other there apart (λ writer under. set_item_unseen other there area writer under cells held keyed_there key value)
    act_unseen (Get area key) = with_key_unseen site here cells held keyed at tab is found (get_item area key) other there apart (λ reader under. refl)
    act_unseen (Del area key) =
        with_key_unseen site here cells held keyed at tab is found (remove_item area key) other there apart (λ writer under. remove_item_unseen other there area writer under cells held keyed_there key)
    act_unseen (Clear area) =
        with_key_unseen site here cells held keyed at tab is found (clear_area area) other there apart (λ writer under. clear_area_unseen other there area writer under cells held keyed_there)
    act_unseen (Len area) = with_key_unseen site here cells held keyed at tab is found (get_length area) other there apart (λ reader under. refl)
    act_unseen (Key area n) = with_key_unseen site here cells held keyed at tab is found (get_name area n) other there apart (λ reader under. refl)
    act_unseen Events = take_events_unseen other there cells held at tab isnt
    act_unseen Persisted = with_key_unseen site here cells held keyed at tab is found get_mode other there apart (λ reader under. refl)
    act_unseen Estimate = with_key_unseen site here cells held keyed at tab is found get_usage other there apart (λ reader under. refl)
    act_unseen (Persist answer) =
        with_key_unseen site here cells held keyed at tab is found (in_secure tab (persist answer)) other there apart (λ asker under. persist_unseen other there held asker under cells tab answer)
