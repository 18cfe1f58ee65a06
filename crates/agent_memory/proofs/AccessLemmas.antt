-- What a request for storage access makes of what is held, once its frames are changed and its row is kept.
use Rattle.std.proofs.Common.{◌≡◌, ℕ, List, Option, Some, None, Ok, refl, sym, ap, subst, ◌∙◌}
use Rattle.std.specs.Option.{option_map}
use Rattle.agent_base.specs.declared.refusals.Label.{Label}
use Rattle.suffix_list.specs.Suffix.{Rule}
use Rattle.origin_site.specs.Site.{PlainSite}
use Rattle.access_grants.specs.Grant.{PlainGrant}
use Rattle.access_grants.specs.declared.outcome.Outcome.{Outcome}
use Rattle.access_grants.specs.declared.permission.Permission.{Permission}
use Rattle.frame_tree.specs.Document.{PlainDocument}
use Rattle.frame_tree.specs.declared.tab.TreeFault.{TreeFault}
use Rattle.frame_tree.specs.Tree.{document_of, top_site}
use Rattle.live_state.specs.FramesInPlace.{ChangesTab, frames_at, requested}
use Rattle.live_state.specs.Queues.{frames_by}
use Rattle.live_state.specs.Tabs.{PlainLive, PlainTab, tab_at}
use Rattle.script_actions.specs.declared.words.Prompt.{Prompt}
use Rattle.reply_lines.specs.Reply.{PlainBody, Plain}
use Rattle.agent_model.specs.Effects.{Effect}
use Rattle.agent_model.specs.Documents.{by_document, with_document}
use Rattle.agent_model.specs.StorageAccess.{access_facts, answer_of, change_requested, decision_word, done_by, embedded_site, grants_requested, keeps_grant, outcome_of, request_access}
use Rattle.agent_memory.specs.Access.{change_kept, row_of, rows_kept}
use Rattle.agent_memory.specs.Actions.{IsDone}
use Rattle.agent_memory.specs.HoldingsView.{HoldingsView, cells_of, held_of}
use Rattle.agent_memory.proofs.DoneLemmas.{frames_done, grants_held, held_grants, no_change}

-- what the document of a frame does
pub found_done : (at : Label) (tab : PlainTab) (document : PlainDocument) (action : PlainDocument → Effect)
    (old new : HoldingsView) (body : PlainBody)
    → document_of at.frame tab.frames ≡ Some document → IsDone (action document (cells_of old) (held_of old)) old new body
    → IsDone (with_document at tab action (cells_of old) (held_of old)) old new body
found_done at tab document action old new body is done =
    subst (λ d. IsDone (by_document d action (cells_of old) (held_of old)) old new body) (sym is) done

-- the rows after the one of a permission is kept
pub rows_are : (permission : Option Permission) (top site : PlainSite) (grants : List PlainGrant)
    → rows_kept (option_map (row_of top site) permission) grants ≡ grants_requested permission top site grants
rows_are None top site grants = refl
rows_are (Some permission) top site grants = refl

-- and its row change
pub change_is : (permission : Option Permission) (top site : PlainSite)
    → change_kept (option_map (row_of top site) permission) ≡ change_requested permission top site
change_is None top site = refl
change_is (Some permission) top site = refl

-- what is kept is held
kept_done : (permission : Option Permission) (top site : PlainSite) (told body : PlainBody)
    (mid : HoldingsView) (grants : List PlainGrant)
    → grants ≡ grants_requested permission top site mid.grants → body ≡ told
    → IsDone (keeps_grant permission top site told (cells_of mid) (held_of mid)) mid (record mid { grants = grants }) body
kept_done permission top site told body mid grants is says = record {
  held =
      held_grants mid.live.tabs mid.cookies mid.grants grants mid.storage
      ∙ ap (λ rows. record (held_of mid) { grants = rows })
      (is ∙ ap (grants_requested permission top site) (sym (grants_held mid.live.tabs mid.cookies mid.grants mid.storage)));
  cells = refl;
  answer = says;
  places = refl;
}

-- what a document does that requests storage access
abbrev pub asks : List Rule → ℕ → PlainSite → Label → Prompt → PlainTab → PlainDocument → Effect
asks rules now top at answer tab document cells held =
    let own = embedded_site rules document in
    done_by (outcome_of top own (access_facts rules now at.frame tab.frames document) (answer_of answer)
    now held.grants) at tab top own cells held

-- a request came to its outcome
pub asked_done : (rules : List Rule) (now : ℕ) (top : PlainSite) (at : Label) (answer : Prompt)
    (tab : PlainTab) (document : PlainDocument) (outcome : Outcome)
    (old : HoldingsView) (live : PlainLive) (grants : List PlainGrant) (body : PlainBody)
    → tab_at at.tab old.live.tabs ≡ Some tab → document_of at.frame tab.frames ≡ Some document
    → outcome_of top (embedded_site rules document) (access_facts rules now at.frame tab.frames document)
    (answer_of answer) now old.grants ≡ Some outcome
    → frames_at at.tab live.tabs ≡ requested outcome.sets_flag outcome.consumes at.frame tab.frames
    → ChangesTab {T = Unit {0}} {E = TreeFault} at.tab None (Ok tt) old.live live
    → grants ≡ grants_requested outcome.kept top (embedded_site rules document) old.grants
    → body ≡ Plain (decision_word outcome.decision)
    → IsDone (request_access rules now top at answer tab (cells_of old) (held_of old)) old
    (record old { live = live; grants = grants }) body
asked_done rules now top at answer tab document outcome old live grants body found there comes frames changes rows says =
    let mid : HoldingsView = record old { live = live } in
    let new : HoldingsView = record old { live = live; grants = grants } in
    let own = embedded_site rules document in
    let facts = access_facts rules now at.frame tab.frames document in
    found_done at tab document (asks rules now top at answer tab) old new body there
    (subst (λ outcome. IsDone (done_by outcome at tab top own (cells_of old) (held_of old)) old new body)
    (sym (ap (outcome_of top own facts (answer_of answer) now)
    (grants_held old.live.tabs old.cookies old.grants old.storage) ∙ comes))
    (frames_done at.tab tab None (λ frames. keeps_grant outcome.kept top own (Plain (decision_word outcome.decision)))
    (Ok (requested outcome.sets_flag outcome.consumes at.frame tab.frames)) (frames_at at.tab live.tabs)
    body old mid new found (ap Ok (sym frames)) (changes.site ∙ ap (λ t. top_site (frames_by t)) found) changes.put
    refl refl (no_change old.cookies)
    (kept_done outcome.kept top own (Plain (decision_word outcome.decision)) body mid grants rows says)))

-- its row change is that of what is kept
pub asked_changes : (rules : List Rule) (now : ℕ) (top : PlainSite) (at : Label) (answer : Prompt)
    (tab : PlainTab) (document : PlainDocument) (outcome : Outcome) (old : HoldingsView)
    → document_of at.frame tab.frames ≡ Some document
    → outcome_of top (embedded_site rules document) (access_facts rules now at.frame tab.frames document)
    (answer_of answer) now old.grants ≡ Some outcome
    → (request_access rules now top at answer tab (cells_of old) (held_of old)).changes
    ≡ change_requested outcome.kept top (embedded_site rules document)
asked_changes rules now top at answer tab document outcome old there comes =
    let own = embedded_site rules document in
    let facts = access_facts rules now at.frame tab.frames document in
    ap (λ found. (by_document found (asks rules now top at answer tab) (cells_of old) (held_of old)).changes) there
    ∙ ap (λ outcome. (done_by outcome at tab top own (cells_of old) (held_of old)).changes)
    (ap (outcome_of top own facts (answer_of answer) now) (grants_held old.live.tabs old.cookies old.grants old.storage) ∙ comes)
