-- An action of a document that is done with its storage key.
use Rattle.std.proofs.Common.{◌≡◌, ℕ, Bool, true, false, List, ◌||◌}
use Rattle.std.specs.Prelude.{IfSome}
use Rattle.suffix_list.specs.Suffix.{Rule}
use Rattle.origin_site.specs.Site.{PlainSite}
use Rattle.agent_base.specs.declared.refusals.Label.{Label}
use Rattle.live_state.specs.Tabs.{PlainTab}
use Rattle.script_actions.specs.Action.{PlainAction, Tick, Open, Close, Go, Evict, Act}
use Rattle.script_actions.specs.ActionFacts.{facts_of}
use Rattle.agent_model.specs.Effects.{Effect}
use Rattle.agent_model.specs.Documents.{Keyed, with_key}
use Rattle.agent_model.specs.SiteStep.{Deed, act_in, by_deed, deed_of}
use Rattle.agent_memory.specs.ActionKinds.{by_keyed, document_action, is_keyed, key_deed}

-- ---- by its storage key

module _ (rules : List Rule) (now : ℕ) (at : Label) (P : (PlainSite → PlainTab → Effect) → Type 0) where
  -- what is shown of an action with the key of its document
  abbrev shows_keyed : (PlainSite → PlainTab → Keyed → Effect) → Type 0
  shows_keyed keyed = P (λ site tab. with_key at tab (keyed site tab))

  keyed_does : (keyed : Bool) (does : Deed keyed) → keyed || false ≡ true → IfSome (key_deed keyed does) shows_keyed
      → P (λ site tab. by_deed keyed does site at tab)
  keyed_does true does is done = done
  keyed_does false does is done = absurd (cc is)

  pub keyed_acts : (action : PlainAction) → is_keyed action ≡ true → IfSome (by_keyed rules now action) shows_keyed
      → IfSome (document_action action) (λ does. P (λ site. act_in rules now site at does))
  keyed_acts (Tick s) is done = absurd (cc is)
  keyed_acts (Open tab url opener noopener method head) is done = absurd (cc is)
  keyed_acts (Close tab) is done = absurd (cc is)
  keyed_acts (Go tab url by_page method head) is done = absurd (cc is)
  keyed_acts (Evict site) is done = absurd (cc is)
  keyed_acts (Act own does) is done = keyed_does (facts_of does).keyed (deed_of rules now does) is done
