-- What a request for storage access makes of what a site has, from what it makes of what is held for
-- all.
use Rattle.std.proofs.Common.{◌≡◌, ℕ, pos, Bool, true, false, cond, List, Option, Some, None, Ok, refl, sym, ap, ◌∙◌}
use Rattle.agent_base.specs.declared.refusals.Label.{Label}
use Rattle.suffix_list.specs.Suffix.{Rule}
use Rattle.origin_site.specs.Site.{PlainSite, same_plain_site}
use Rattle.access_grants.specs.declared.facts.Answer.{Answer}
use Rattle.access_grants.specs.declared.facts.Facts.{Facts}
use Rattle.access_grants.specs.declared.outcome.Outcome.{Outcome}
use Rattle.access_grants.specs.declared.permission.Permission.{Permission}
use Rattle.access_grants.specs.Grant.{PlainGrant, with_row, state_by}
use Rattle.access_grants.specs.UnderSite.{grants_under}
use Rattle.access_grants.specs.Request.{first_row, request_rows}
use Rattle.access_grants.proofs.PartLemmas.{find_under, kept_at, kept_own}
use Rattle.frame_tree.specs.Tree.{PlainFrame}
use Rattle.live_state.specs.FramesInPlace.{requested}
use Rattle.live_state.specs.Tabs.{PlainTab}
use Rattle.script_actions.specs.declared.words.Prompt.{Prompt}
use Rattle.reply_lines.specs.Reply.{PlainBody, Plain}
use Rattle.agent_model.specs.Partition.{Holdings}
use Rattle.agent_model.specs.Effects.{SharedCells, Effect, changes_to}
use Rattle.agent_model.specs.StorageAccess.{access_facts, answer_of, change_requested, decision_word, done_by, embedded_site, grants_requested, keeps_grant, outcome_of, request_access, row_of}
use Rattle.one_store.specs.HeldAt.{held_at, done_at}
use Rattle.one_store.proofs.DocumentLemmas.{with_document_seen, with_document_unseen}
use Rattle.one_store.proofs.TabLemmas.{on_frames_seen, on_frames_unseen}

-- what a request comes to goes by the permissions under its own top-level site
outcome_seen : (top site : PlainSite) (facts : Facts) (answer : Answer) (now : ℕ) (grants : List PlainGrant) → outcome_of top site facts answer now (grants_under top grants) ≡ outcome_of top site facts answer now grants
outcome_seen top site facts answer now grants = ap (λ found. first_row (request_rows facts (state_by (pos now) found) answer (pos now))) (find_under top site grants)

-- what is kept is kept under that site
requested_seen : (permission : Option Permission) (top site : PlainSite) (grants : List PlainGrant)
    → grants_requested permission top site (grants_under top grants) ≡ grants_under top (grants_requested permission top site grants)
requested_seen None top site grants = refl
requested_seen (Some permission) top site grants = sym (kept_own (row_of permission top site) grants)

-- and leaves those under another one
requested_unseen : (permission : Option Permission) (other top site : PlainSite) (grants : List PlainGrant) → same_plain_site other top ≡ false
    → grants_under other (grants_requested permission top site grants) ≡ grants_under other grants
requested_unseen None other top site grants apart = refl
requested_unseen (Some permission) other top site grants apart =
    kept_at other (row_of permission top site) grants
    ∙ ap (λ b. cond b (with_row (row_of permission top site) (grants_under other grants)) (grants_under other grants)) apart

module _ (rules : List Rule) (now : ℕ) (top : PlainSite) (cells : SharedCells) (held : Holdings) (at : Label) (tab : PlainTab) (answer : Prompt) where
  -- what is kept is held, and the decision told
  abbrev kept_and_told : Outcome → PlainSite → List PlainFrame → Effect
  kept_and_told outcome site frames = keeps_grant outcome.kept top site (Plain (decision_word outcome.decision))

  -- ---- at the site that the tab is at

  module _ (here : ℕ → Bool) (is : here at.tab ≡ true) where
    keeps_seen : (permission : Option Permission) (site : PlainSite) (body : PlainBody) (all : Holdings)
        → keeps_grant permission top site body cells (held_at top here all) ≡ done_at top here (keeps_grant permission top site body cells all)
    keeps_seen permission site body all = ap (λ grants. changes_to (change_requested permission top site) body cells (record (held_at top here all) { grants = grants })) (requested_seen permission top site all.grants)

    done_seen : (outcome : Option Outcome) (site : PlainSite) → done_by outcome at tab top site cells (held_at top here held) ≡ done_at top here (done_by outcome at tab top site cells held)
    done_seen None site = refl
    done_seen (Some outcome) site =
        on_frames_seen top here cells held at.tab tab None (kept_and_told outcome site) (Ok (requested outcome.sets_flag outcome.consumes at.frame tab.frames)) is
        (λ frames all. keeps_seen outcome.kept site (Plain (decision_word outcome.decision)) all)

    pub request_access_seen : request_access rules now top at answer tab cells (held_at top here held) ≡ done_at top here (request_access rules now top at answer tab cells held)
    request_access_seen =
        with_document_seen top here cells held at tab _
        (λ document there.
        let site = embedded_site rules document in
        let facts = access_facts rules now at.frame tab.frames document in
        ap (λ outcome. done_by outcome at tab top site cells (held_at top here held)) (outcome_seen top site facts (answer_of answer) now held.grants)
        ∙ done_seen (outcome_of top site facts (answer_of answer) now held.grants) site)

  -- ---- at another site

  module _ (other : PlainSite) (there : ℕ → Bool) (apart : same_plain_site other top ≡ false) (isnt : there at.tab ≡ false) where
    done_unseen : (outcome : Option Outcome) (site : PlainSite) → held_at other there (done_by outcome at tab top site cells held).held ≡ held_at other there held
    done_unseen None site = refl
    done_unseen (Some outcome) site =
        on_frames_unseen other there cells held at.tab tab None (kept_and_told outcome site) (Ok (requested outcome.sets_flag outcome.consumes at.frame tab.frames)) isnt
        (λ frames all. ap (λ grants. record (held_at other there all) { grants = grants }) (requested_unseen outcome.kept other top site all.grants apart))

    pub request_access_unseen : held_at other there (request_access rules now top at answer tab cells held).held ≡ held_at other there held
    request_access_unseen =
        with_document_unseen other there cells held at tab _
        (λ document found.
        let site = embedded_site rules document in
        let facts = access_facts rules now at.frame tab.frames document in
        done_unseen (outcome_of top site facts (answer_of answer) now held.grants) site)
