-- An action of a document sees and leaves the shared cells that it consults, and no other.
use Rattle.std.proofs.Common.{◌≡◌, ℕ, List, [], Option, Some, None, Ok, Err, refl, sym, ap, ◌∙◌}
use Rattle.std.specs.Prelude.{Result, option_map, option_and_then}
use Rattle.agent_base.specs.declared.refusals.Label.{Label}
use Rattle.suffix_list.specs.Suffix.{Rule}
use Rattle.unwinding.specs.FiniteCells.{restrict_cells}
use Rattle.origin_site.specs.Site.{PlainSite}
use Rattle.storage_key.specs.Key.{PlainKey}
use Rattle.frame_tree.specs.declared.tab.TreeFault.{TreeFault}
use Rattle.frame_tree.specs.Document.{PlainDocument}
use Rattle.frame_tree.specs.Keys.{key_of_document}
use Rattle.frame_tree.specs.Tree.{PlainFrame, document_of}
use Rattle.live_state.specs.Tabs.{PlainTab}
use Rattle.script_actions.specs.Action.{DocumentAction, HeadField, Frame, Nav, Drop, Click, Fetch, Set, Get, Del, Clear, Len, Key}
use Rattle.script_actions.specs.Action.{Events, Cookie, SetCookie, Has, Request, Persisted, Estimate, Persist}
use Rattle.agent_model.specs.CookieCells.{domain_order}
use Rattle.agent_model.specs.Effects.{SharedCells, Effect, no_shared_cells, answers}
use Rattle.agent_model.specs.Documents.{Keyed, by_document, by_key, with_key}
use Rattle.agent_model.specs.CookieUse.{CookieUse, consulted_by}
use Rattle.agent_model.specs.CookieUses.{fetch_use, frame_use, nav_use, script_use}
use Rattle.agent_model.specs.Cookies.{read_cookies, request, set_cookie}
use Rattle.agent_model.specs.Frames.{on_frames, frames_added, frames_navigated, refused_by}
use Rattle.agent_model.specs.Buckets.{persist}
use Rattle.agent_model.specs.SiteStep.{act_in}
use Rattle.agent_model.specs.Consults.{by_script, names_in, unless_refused, where_there}
use Rattle.agent_model.proofs.ApartLemmas.{IsApart, with_cells, clear_apart, click_apart, drop_apart, events_apart, has_apart, key_apart, persist_apart, remove_apart, request_apart, set_apart}
use Rattle.agent_model.proofs.CookieCellsLemmas.{none_left}
use Rattle.agent_model.proofs.CookieLemmas.{IsLocal, among, read_local, request_local, set_local}
use Rattle.agent_model.proofs.SecureLemmas.{secure_by}

-- an effect that looks at no shared cell
pub apart_local : (does : Effect) → IsApart does → IsLocal [] does
apart_local does apart cells held =
    apart cells held
    ∙ λ i. with_cells (sym (none_left (does seen held).cells cells) i) (apart_back i)
  where
    seen : SharedCells
    seen = restrict_cells domain_order (among []) cells

    apart_back : with_cells cells (does no_shared_cells held) ≡ with_cells cells (does seen held)
    apart_back = sym (ap (with_cells cells) (apart seen held))

module _ (rules : List Rule) (now : ℕ) (site : PlainSite) where
  frames_local : (number : ℕ) (tab : PlainTab) (replaced : Option ℕ) (how : CookieUse) (head : List HeadField) (after : Result (List PlainFrame) TreeFault)
      → IsLocal (unless_refused (consulted_by rules how) after) (on_frames number tab replaced (λ frames. request rules now how head) after)
  frames_local number tab replaced how head (Ok frames) cells held = request_local rules now how head cells _
  frames_local number tab replaced how head (Err why) cells held = apart_local (answers (refused_by why)) (λ all kept. refl) cells held

  fetch_local : (how : CookieUse) (head : List HeadField) (found : Option PlainDocument)
      → IsLocal (where_there (consulted_by rules how) found) (by_document found (λ document. request rules now how head))
  fetch_local how head None = apart_local _ (λ cells held. refl)
  fetch_local how head (Some document) = request_local rules now how head

  module _ (at : Label) (tab : PlainTab) where
    script_local : (does : Keyed → Effect) → ((own : Keyed) → IsLocal (consulted_by rules (script_use site own)) (does own)) → (found : Option PlainDocument)
        → IsLocal (by_script rules site (option_and_then (λ document. option_map (λ key. record { at = at; document = document; key = key }) (key_of_document at.frame tab.frames document)) found))
        (by_document found (λ document. by_key at document (key_of_document at.frame tab.frames document) does))
    script_local does each None = apart_local _ (λ cells held. refl)
    script_local does each (Some document) = by (key_of_document at.frame tab.frames document)
      where
        by : (key : Option PlainKey) → IsLocal (by_script rules site (option_map (λ key. record { at = at; document = document; key = key }) key)) (by_key at document key does)
        by None = apart_local _ (λ cells held. refl)
        by (Some key) = each (record { at = at; document = document; key = key })

    -- an action of a document by its key that looks at no shared cell
    keyed_apart : (does : Keyed → Effect) → ((own : Keyed) → IsApart (does own)) → IsLocal [] (with_key at tab does)
    keyed_apart does each = apart_local _ (key_apart at tab does each)

    pub act_local : (action : DocumentAction) → IsLocal (names_in rules site at action tab) (act_in rules now site at action tab)
    act_local (Frame parent url sandbox deny head) =
        frames_local at.tab tab None (frame_use rules site parent tab.frames url) head (frames_added rules at parent url sandbox deny tab.frames)
    act_local (Nav url by_self method head) =
        frames_local at.tab tab (Some at.frame) (nav_use rules site at.frame tab.frames url by_self method) head (frames_navigated rules at url by_self tab.frames)
    act_local (Fetch url method head) = fetch_local (fetch_use rules site at.frame tab.frames url method) head (document_of at.frame tab.frames)
    act_local Cookie = script_local (read_cookies rules now site) (read_local rules now site) (document_of at.frame tab.frames)
    act_local (SetCookie text) = script_local (set_cookie rules now site text) (set_local rules now site text) (document_of at.frame tab.frames)
    act_local Has = apart_local _ (has_apart rules now at tab)
    act_local (Request answer) = apart_local _ (request_apart rules now site at answer tab)
    act_local Drop = apart_local _ (drop_apart at tab)
    act_local Click = apart_local _ (click_apart now at tab)
    act_local (Set area key value) = keyed_apart _ (set_apart area key value)
    act_local (Get area key) = keyed_apart _ (λ reader cells held. refl)
    act_local (Del area key) = keyed_apart _ (remove_apart area key)
    act_local (Clear area) = keyed_apart _ (clear_apart area)
    act_local (Len area) = keyed_apart _ (λ reader cells held. refl)
    act_local (Key area n) = keyed_apart _ (λ reader cells held. refl)
    act_local Events = apart_local _ (events_apart at tab)
    act_local Persisted = keyed_apart _ (λ reader cells held. refl)
    act_local Estimate = keyed_apart _ (λ reader cells held. refl)
    act_local (Persist answer) = keyed_apart _ (λ asker. secure_by IsApart tab (persist answer) asker (λ cells held. refl) (persist_apart answer asker))
