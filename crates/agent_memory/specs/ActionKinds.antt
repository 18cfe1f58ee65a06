-- What an action does that is of a document, and what it does with the document's storage key.
-- Source: none; what each action does stands in `agent_model`.
use Rattle.std.specs.List.{list_any}
use Rattle.std.specs.Option.{option_to_list}
use Rattle.std.specs.Prelude.{ℕ, Bool, true, false, List, Option, Some, None, option_and_then}
use Rattle.suffix_list.specs.Suffix.{Rule}
use Rattle.origin_site.specs.Site.{PlainSite}
use Rattle.live_state.specs.Tabs.{PlainTab}
use Rattle.script_actions.specs.Action.{PlainAction, DocumentAction, Tick, Open, Close, Go}
use Rattle.script_actions.specs.Action.{Evict, Act}
use Rattle.script_actions.specs.ActionFacts.{facts_of}
use Rattle.agent_model.specs.Documents.{Keyed}
use Rattle.agent_model.specs.Effects.{Effect}
use Rattle.agent_model.specs.SiteStep.{Deed, deed_of}

-- what an action does that names a document
abbrev pub document_action : PlainAction → Option DocumentAction
document_action (Tick s) = None
document_action (Open tab url opener noopener method head) = None
document_action (Close tab) = None
document_action (Go tab url by_page method head) = None
document_action (Evict site) = None
document_action (Act at action) = Some action

-- a deed that is done with the storage key of its document
abbrev pub key_deed : (keyed : Bool) → Deed keyed → Option (PlainSite → PlainTab → Keyed → Effect)
key_deed true does = Some does
key_deed false does = None

-- what an action does with the storage key of its document, which is in this tab at this site
abbrev pub key_action : List Rule → ℕ → DocumentAction
    → Option (PlainSite → PlainTab → Keyed → Effect)
key_action rules now action = key_deed (facts_of action).keyed (deed_of rules now action)

-- the same of a line
abbrev pub by_keyed : List Rule → ℕ → PlainAction
    → Option (PlainSite → PlainTab → Keyed → Effect)
by_keyed rules now action = option_and_then (key_action rules now) (document_action action)

-- a line does something with the storage key of its document
abbrev pub is_keyed : PlainAction → Bool
is_keyed action = list_any (λ does. (facts_of does).keyed) (option_to_list (document_action action))

-- a line only reads what the key of its document has
abbrev pub is_reading : PlainAction → Bool
is_reading action =
    list_any (λ does. (facts_of does).reads) (option_to_list (document_action action))
