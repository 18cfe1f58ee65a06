-- What holds of the frames of each open tab: it holds after an action of a document, where it holds
-- of the frames that the action leaves.
use Rattle.std.proofs.Common.{◌≡◌, ℕ, Bool, true, false, cond, List, [], Option, Some, None, Ok, Err, refl, sym, subst}
use Rattle.std.specs.Prelude.{Result, IfOk, nat_lt, codes}
use Rattle.std.specs.Option.{option_map}
use Rattle.std.specs.Cmp.{nat_cmp_total}
use Rattle.std.specs.Ordering.{nat_cmp, eq_by_cmp}
use Rattle.std.specs.FinMap as finite
use Rattle.std.specs.FinMap.{nat_cmp-IsAntisymmetric}
use Rattle.agent_base.specs.declared.refusals.Label.{Label}
use Rattle.suffix_list.specs.Suffix.{Rule}
use Rattle.origin_site.specs.Address.{PlainAddress}
use Rattle.origin_site.specs.Site.{PlainSite}
use Rattle.storage_key.specs.Key.{PlainKey}
use Rattle.frame_tree.specs.declared.tab.TreeFault.{TreeFault}
use Rattle.frame_tree.specs.Document.{PlainDocument}
use Rattle.frame_tree.specs.Keys.{key_of_document}
use Rattle.frame_tree.specs.Tree.{PlainFrame, document_of, has_frame}
use Rattle.access_grants.specs.declared.outcome.Outcome.{Outcome}
use Rattle.storage_events.specs.declared.event.AreaKind.{AreaKind}
use Rattle.storage_events.specs.Event.{PlainEvent}
use Rattle.local_area.specs.Area.{Pair, quota, area_get, area_put, area_remove, area_weight}
use Rattle.local_area.specs.Put as put
use Rattle.local_area.specs.Put.{PlainPut, put_answer}
use Rattle.live_state.specs.FramesInPlace.{requested}
use Rattle.live_state.specs.Tabs.{PlainTab, made_tab, queue_of}
use Rattle.script_actions.specs.declared.words.Prompt.{Prompt}
use Rattle.reply_lines.specs.Reply.{Plain}
use Rattle.script_actions.specs.Action as script
use Rattle.script_actions.specs.Action.{DocumentAction, Frame, Nav, Drop, Click, Fetch, SetCookie, Set, Get, Del, Clear, Len, Key, Has, Request, Persisted, Estimate, Persist}
use Rattle.script_actions.specs.ActionFacts.{facts_of}
use Rattle.agent_model.specs.Partition.{Holdings, tab_named, with_area}
use Rattle.agent_model.specs.Effects.{SharedCells, Done, Effect, answers, ok}
use Rattle.agent_model.specs.CookieUses.{fetch_use, frame_use, nav_use}
use Rattle.agent_model.specs.Cookies.{read_cookies, request, set_cookie}
use Rattle.agent_model.specs.Frames.{on_frames, frames_added, frames_navigated, frames_removed, frames_clicked}
use Rattle.agent_model.specs.Documents.{Keyed, by_document, with_document, by_key, in_secure, with_key, told_tab}
use Rattle.agent_model.specs.AreaActions.{pairs_of, change_event, write, set_by, set_item, remove_by, remove_item, clear_area, get_item, get_name, get_length}
use Rattle.agent_model.specs.Buckets.{is_persistent, is_grant, get_mode, get_usage, persist_by, persist}
use Rattle.agent_model.specs.Queues.{with_taken, take_queue, take_events}
use Rattle.agent_model.specs.StorageAccess.{access_facts, answer_of, decision_word, done_by, embedded_site, keeps_grant, outcome_of}
use Rattle.agent_model.specs.SiteStep.{act_in}
use Rattle.agent_model.proofs.HoldingsLemmas.{with_area_tabs}
use Rattle.agent_model.proofs.KeptLemmas as kept
use Rattle.agent_model.proofs.SecureLemmas.{secure_by}

-- this holds of each number and its tab, open or not
abbrev pub OfEachTab : (ℕ → Option PlainTab → Type 0) → Holdings → Type 0
OfEachTab Q held = (number : ℕ) → Q number (tab_named number held)

-- it is a matter of the frames of a tab alone
abbrev pub IsOfFrames : (ℕ → Option PlainTab → Type 0) → Type 0
IsOfFrames Q = (number : ℕ) (before after : PlainTab) → after.frames ≡ before.frames → Q number (Some before) → Q number (Some after)

-- it holds of what each action leaves of the frames of a tab
pub record Keeps (Q : ℕ → Option PlainTab → Type 0) (rules : List Rule) (now : ℕ) (at : Label) (tab : PlainTab) (asks : Bool) : Type 0 where
  pub added : (parent : ℕ) (url : PlainAddress) (sandbox : Option (List ℕ)) (deny : Bool)
      → IfOk (frames_added rules at parent url sandbox deny tab.frames) (λ frames. Q at.tab (Some (record tab { frames = frames })))
  pub navigated : (url : PlainAddress) (by_self : Bool) → IfOk (frames_navigated rules at url by_self tab.frames) (λ frames. Q at.tab (Some (record tab { frames = frames })))
  pub removed : IfOk (frames_removed at tab.frames) (λ frames. Q at.tab (Some (record tab { frames = frames })))
  pub clicked : IfOk (frames_clicked now at tab.frames) (λ frames. Q at.tab (Some (record tab { frames = frames })))
  pub asked : asks ≡ true → (gives consumes : Bool) → Q at.tab (Some (record tab { frames = requested gives consumes at.frame tab.frames }))

module _ (Q : ℕ → Option PlainTab → Type 0) where
  -- other holdings with the same tabs
  pub each_by_tabs : (held other : Holdings) → other.tabs ≡ held.tabs → OfEachTab Q held → OfEachTab Q other
  each_by_tabs held other same all number = subst (λ tabs. Q number (finite.get tabs number)) (sym same) (all number)

  -- a tab is changed, opened or closed
  pub each_changed : (held : Holdings) (number : ℕ) (tab : Option PlainTab) → Q number tab → OfEachTab Q held → OfEachTab Q (record held { tabs = kept.changed_at number tab held.tabs })
  each_changed held number tab is all q =
      subst (Q q) (sym (kept.get_changed nat_cmp nat_cmp_total nat_cmp-IsAntisymmetric held.tabs number tab q)) (at (eq_by_cmp nat_cmp q number) refl)
    where
      at : (b : Bool) → eq_by_cmp nat_cmp q number ≡ b → Q q (cond b tab (finite.get held.tabs q))
      at true tie = subst (λ n. Q n tab) (sym (kept.tied nat_cmp nat_cmp_total nat_cmp-IsAntisymmetric q number tie)) is
      at false tie = all q

module _ (Q : ℕ → Option PlainTab → Type 0) (of_frames : IsOfFrames Q) where
  -- each tab has other queues
  pub each_mapped : (held : Holdings) (f : ℕ → PlainTab → PlainTab) → ((number : ℕ) (tab : PlainTab) → (f number tab).frames ≡ tab.frames)
      → OfEachTab Q held → OfEachTab Q (record held { tabs = kept.mapped f held.tabs })
  each_mapped held f same all number =
      subst (Q number) (sym (kept.get_mapped nat_cmp nat_cmp_total nat_cmp-IsAntisymmetric f held.tabs number))
      (at (tab_named number held) (all number))
    where
      at : (tab : Option PlainTab) → Q number tab → Q number (option_map (f number) tab)
      at None is = is
      at (Some tab) is = of_frames number tab (f number tab) (same number tab) is

  -- it holds after what an action did
  abbrev Stays : Done → Type 0
  Stays done = OfEachTab Q done.held

  module _ (cells : SharedCells) (held : Holdings) (all : OfEachTab Q held) where
    -- ---- areas and buckets

    write_each : (kind : AreaKind) (writer : Keyed) (pairs : List Pair) (event : PlainEvent) → Stays (write kind writer pairs event cells held)
    write_each kind writer pairs event =
        let stored : Holdings = with_area kind writer.at.tab writer.key pairs held in
        each_mapped stored (told_tab kind writer event) (λ number tab. refl)
        (each_by_tabs Q held stored (with_area_tabs kind writer.at.tab writer.key pairs held) all)

    set_by_each : (answer : PlainPut) (kind : AreaKind) (writer : Keyed) (name value : List ℕ) (pairs : List Pair) → Stays (set_by answer kind writer name value pairs cells held)
    set_by_each answer kind writer name value pairs = by answer
      where
        stored : (b : Bool) (event : PlainEvent) → Stays (cond b (answers (Plain (codes "quota")) cells held) (write kind writer pairs event cells held))
        stored true event = all
        stored false event = write_each kind writer pairs event

        by : (answer : PlainPut) → Stays (set_by answer kind writer name value pairs cells held)
        by put.same = all
        by put.added = stored (nat_lt quota (area_weight pairs)) (change_event kind writer (Some name) None (Some value))
        by (put.changed before) = stored (nat_lt quota (area_weight pairs)) (change_event kind writer (Some name) (Some before) (Some value))

    remove_each : (found : Option (List ℕ)) (kind : AreaKind) (writer : Keyed) (name : List ℕ) → Stays (remove_by found kind writer name cells held)
    remove_each None kind writer name = all
    remove_each (Some before) kind writer name =
        write_each kind writer (area_remove name (pairs_of kind writer held)) (change_event kind writer (Some name) (Some before) None)

    persist_each : (answer : Prompt) (asker : Keyed) → Stays (persist answer asker cells held)
    persist_each answer asker = by (is_persistent asker.key held) (is_grant answer)
      where
        by : (before granted : Bool) → Stays (persist_by before granted asker cells held)
        by true granted = all
        by false true = all
        by false false = all

    module _ (at : Label) (tab : PlainTab) where
      with_document_each : (action : PlainDocument → Effect) → ((document : PlainDocument) → Stays (action document cells held)) → Stays (with_document at tab action cells held)
      with_document_each action each = by_found (document_of at.frame tab.frames)
        where
          by_found : (document : Option PlainDocument) → Stays (by_document document action cells held)
          by_found None = all
          by_found (Some document) = each document

      with_key_each : (action : Keyed → Effect) → ((writer : Keyed) → Stays (action writer cells held)) → Stays (with_key at tab action cells held)
      with_key_each action each = with_document_each _ (λ document. by_own document (key_of_document at.frame tab.frames document))
        where
          by_own : (document : PlainDocument) (key : Option PlainKey) → Stays (by_key at document key action cells held)
          by_own document None = all
          by_own document (Some key) = each (record { at = at; document = document; key = key })

      -- ---- frames and queues

      module _ (found : tab_named at.tab held ≡ Some tab) where
        -- the tab with these frames
        abbrev framed : List PlainFrame → PlainTab
        framed frames = record tab { frames = frames }

        frames_each : (replaced : Option ℕ) (next : List PlainFrame → Effect) (after : Result (List PlainFrame) TreeFault) → IfOk after (λ frames. Q at.tab (Some (framed frames)))
            → ((frames : List PlainFrame) (more : Holdings) → OfEachTab Q more → Stays (next frames cells more)) → Stays (on_frames at.tab tab replaced next after cells held)
        frames_each replaced next (Ok frames) keeps each =
            let made = made_tab at.tab frames replaced (Some tab) in
            each frames _ (each_changed Q held at.tab (Some made) (of_frames at.tab (framed frames) made refl keeps) all)
        frames_each replaced next (Err why) keeps each = all

        events_each : Stays (take_events at tab cells held)
        events_each = by (has_frame at.frame tab.frames)
          where
            by : (b : Bool) → Stays (cond b (take_queue at tab (queue_of at.frame tab.queues)) (answers (Plain (codes "no-frame"))) cells held)
            by true = each_changed Q held at.tab (Some (with_taken at.frame tab)) (of_frames at.tab tab (with_taken at.frame tab) refl (subst (Q at.tab) found (all at.tab))) all
            by false = all

        request_each : (top site : PlainSite) → ((gives consumes : Bool) → Q at.tab (Some (framed (requested gives consumes at.frame tab.frames)))) → (outcome : Option Outcome)
            → Stays (done_by outcome at tab top site cells held)
        request_each top site keeps None = all
        request_each top site keeps (Some outcome) =
            frames_each None (λ frames. keeps_grant outcome.kept top site (Plain (decision_word outcome.decision))) (Ok (requested outcome.sets_flag outcome.consumes at.frame tab.frames))
            (keeps outcome.sets_flag outcome.consumes) (λ frames more is. is)

        -- ---- every action

        pub act_each : (rules : List Rule) (now : ℕ) (site : PlainSite) (action : DocumentAction) → Keeps Q rules now at tab ((facts_of action).requests) → Stays (act_in rules now site at action tab cells held)
        act_each rules now site (Frame parent url sandbox deny head) keeps =
            frames_each None (λ frames. request rules now (frame_use rules site parent tab.frames url) head) (frames_added rules at parent url sandbox deny tab.frames) (keeps.added parent url sandbox deny)
            (λ frames more is. is)
        act_each rules now site (Nav url by_self method head) keeps =
            frames_each (Some at.frame) (λ frames. request rules now (nav_use rules site at.frame tab.frames url by_self method) head) (frames_navigated rules at url by_self tab.frames) (keeps.navigated url by_self)
            (λ frames more is. is)
        act_each rules now site (Fetch url method head) keeps = with_document_each (λ document. request rules now (fetch_use rules site at.frame tab.frames url method) head) (λ document. all)
        act_each rules now site script.Cookie keeps = with_key_each (read_cookies rules now site) (λ reader. all)
        act_each rules now site (SetCookie text) keeps = with_key_each (set_cookie rules now site text) (λ writer. all)
        act_each rules now site Has keeps = with_document_each _ (λ document. all)
        act_each rules now site (Request answer) keeps =
            with_document_each _
            (λ document.
            let own = embedded_site rules document in
            request_each site own (keeps.asked refl) (outcome_of site own (access_facts rules now at.frame tab.frames document) (answer_of answer) now held.grants))
        act_each rules now site Drop keeps = frames_each None (λ frames. answers ok) (frames_removed at tab.frames) keeps.removed (λ frames more is. is)
        act_each rules now site Click keeps = frames_each None (λ frames. answers ok) (frames_clicked now at tab.frames) keeps.clicked (λ frames more is. is)
        act_each rules now site (Set area key value) keeps =
            with_key_each (set_item area key value)
            (λ writer. set_by_each (put_answer key value (pairs_of area writer held)) area writer key value (area_put key value (pairs_of area writer held)))
        act_each rules now site (Get area key) keeps = with_key_each (get_item area key) (λ reader. all)
        act_each rules now site (Del area key) keeps = with_key_each (remove_item area key) (λ writer. remove_each (area_get key (pairs_of area writer held)) area writer key)
        act_each rules now site (Clear area) keeps = with_key_each (clear_area area) (λ writer. write_each area writer [] (change_event area writer None None None))
        act_each rules now site (Len area) keeps = with_key_each (get_length area) (λ reader. all)
        act_each rules now site (Key area n) keeps = with_key_each (get_name area n) (λ reader. all)
        act_each rules now site script.Events keeps = events_each
        act_each rules now site Persisted keeps = with_key_each get_mode (λ reader. all)
        act_each rules now site Estimate keeps = with_key_each get_usage (λ reader. all)
        act_each rules now site (Persist answer) keeps =
            with_key_each (in_secure tab (persist answer))
            (λ asker. secure_by (λ does. Stays (does cells held)) tab (persist answer) asker all (persist_each answer asker))
