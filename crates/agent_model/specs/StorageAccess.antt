-- Storage access of documents: whether one has it, and what a request for it comes to.
-- Source: Storage Access API, "hasStorageAccess()" and "requestStorageAccess()"; HTML, "Tracking
-- user activation" (consume user activation).
-- Our own choice: the answer of the prompt stands in the script. Both calls are answered for an
-- opaque document too. A document with access keeps it until it is replaced, whatever becomes of
-- the permission.
use Rattle.std.specs.Prelude.{ℕ, not, pos, List, [], ◌∷◌, Option, Some, None, is_some, codes, Ok}
use Rattle.agent_base.specs.declared.refusals.Label.{Label}
use Rattle.suffix_list.specs.Suffix.{Rule}
use Rattle.origin_site.specs.Site.{PlainSite, site_of_address}
use Rattle.storage_key.specs.Context.{is_first_party}
use Rattle.frame_tree.specs.Calls.{is_https_chain}
use Rattle.frame_tree.specs.Document.{PlainDocument, is_active_by}
use Rattle.frame_tree.specs.Keys.{sites}
use Rattle.frame_tree.specs.Tree.{PlainFrame, chain_of}
use Rattle.access_grants.specs.declared.facts.Answer.{Answer}
use Rattle.access_grants.specs.declared.facts.Answer.TheVariants as answer
use Rattle.access_grants.specs.declared.facts.Facts.{Facts}
use Rattle.access_grants.specs.declared.outcome.Decision.{Decision}
use Rattle.access_grants.specs.declared.outcome.Decision.TheVariants as decision
use Rattle.access_grants.specs.declared.outcome.Outcome.{Outcome}
use Rattle.access_grants.specs.declared.outcome.Refusal.{Refusal}
use Rattle.access_grants.specs.declared.outcome.Refusal.TheVariants as why
use Rattle.access_grants.specs.declared.permission.Permission.{Permission}
use Rattle.access_grants.specs.Grant.{PlainGrant, grant_state, with_row}
use Rattle.access_grants.specs.Request.{first_row, has_access, request_rows}
use Rattle.live_state.specs.FramesInPlace.{requested}
use Rattle.live_state.specs.Tabs.{PlainTab}
use Rattle.script_actions.specs.declared.words.Prompt.{Prompt}
use Rattle.script_actions.specs.declared.words.Prompt.TheVariants as prompt
use Rattle.reply_lines.specs.Reply.{PlainBody, Plain, Truth}
use Rattle.row_changes.specs.Change.{PlainChange, Grant}
use Rattle.agent_model.specs.Effects.{Effect, answers, changes_to}
use Rattle.agent_model.specs.Documents.{with_document}
use Rattle.agent_model.specs.Frames.{on_frames}

-- the site of a document that asks. That of an opaque one is not looked at.
abbrev pub embedded_site : List Rule → PlainDocument → PlainSite
embedded_site rules document = site_of_address rules document.address

-- what the answers go by: the document of a frame at this moment
abbrev pub access_facts : List Rule → ℕ → ℕ → List PlainFrame → PlainDocument → Facts
access_facts rules now frame frames document =
    record {
      opaque = not (is_some document.origin);
      secure = is_https_chain frame frames;
      deny = document.deny;
      sandbox_allows = document.sandbox.storage_access;
      first = is_first_party (sites (chain_of frame frames)) (embedded_site rules document);
      flag = document.flag;
      active = is_active_by (pos now) document.mark;
    }

-- ---- hasStorageAccess()

-- whether the document of a frame has storage access
abbrev pub tell_access : List Rule → ℕ → Label → PlainTab → Effect
tell_access rules now at tab =
    with_document at tab (λ document.
    answers (Truth (has_access (access_facts rules now at.frame tab.frames document))))

-- ---- requestStorageAccess()

-- the answer of the prompt
abbrev pub answer_of : Prompt → Answer
answer_of prompt.Grant = answer.Grant
answer_of prompt.Deny = answer.Deny
answer_of prompt.Dismiss = answer.Dismiss

-- the word of a refusal
abbrev pub refusal_word : Refusal → List ℕ
refusal_word why.Opaque = codes "opaque"
refusal_word why.Insecure = codes "insecure"
refusal_word why.Policy = codes "policy"
refusal_word why.Sandbox = codes "sandbox"
refusal_word why.Denied = codes "denied"
refusal_word why.NoActivation = codes "no-activation"
refusal_word why.DeniedNow = codes "denied-now"
refusal_word why.Dismissed = codes "dismissed"

-- the word of a decision
abbrev pub decision_word : Decision → List ℕ
decision_word (decision.Granted prompted) = codes "granted"
decision_word (decision.Refused cause) = refusal_word cause

-- the permission of a request of a site under a top-level site
abbrev pub row_of : Permission → (top site : PlainSite) → PlainGrant
row_of permission top site =
    record {
      top = top;
      site = site;
      granted = permission.granted;
      until = permission.until;
    }

-- the permissions after what is kept of a request
abbrev pub grants_requested : Option Permission → (top site : PlainSite) → List PlainGrant
    → List PlainGrant
grants_requested None top site grants = grants
grants_requested (Some permission) top site grants = with_row (row_of permission top site) grants

-- and its row change
abbrev pub change_requested : Option Permission → (top site : PlainSite) → List PlainChange
change_requested None top site = []
change_requested (Some permission) top site = Grant (row_of permission top site) ∷ []

-- what is kept is held, and this is answered
abbrev pub keeps_grant : Option Permission → (top site : PlainSite) → PlainBody → Effect
keeps_grant permission top site body cells held =
    changes_to (change_requested permission top site) body cells
    (record held { grants = grants_requested permission top site held.grants })

-- what a request of a site comes to is done. One of the rows of its table applies.
abbrev pub done_by : Option Outcome → Label → PlainTab → (top site : PlainSite) → Effect
done_by None at tab top site = answers (Plain [])
done_by (Some outcome) at tab top site =
    on_frames at.tab tab None
    (λ frames. keeps_grant outcome.kept top site (Plain (decision_word outcome.decision)))
    (Ok (requested outcome.sets_flag outcome.consumes at.frame tab.frames))

-- what a request comes to: the first row of its table that applies
abbrev pub outcome_of : (top site : PlainSite) → Facts → Answer → ℕ → List PlainGrant
    → Option Outcome
outcome_of top site facts answer now grants =
    first_row (request_rows facts (grant_state top site (pos now) grants) answer (pos now))

-- the document of a frame requests storage access, and the user answers this to the prompt
abbrev pub request_access : List Rule → ℕ → PlainSite → Label → Prompt → PlainTab → Effect
request_access rules now top at answer tab =
    with_document at tab (λ document cells held.
    let site = embedded_site rules document in
    let facts = access_facts rules now at.frame tab.frames document in
    done_by (outcome_of top site facts (answer_of answer) now held.grants) at tab top site cells
    held)
