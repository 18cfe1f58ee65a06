-- A line that names a document is an action of it.
use Rattle.std.proofs.Common.{◌≡◌, Some}
use Rattle.agent_base.specs.declared.refusals.Label.{Label}
use Rattle.script_actions.specs.Action.{Act, Close, DocumentAction, Evict, Go, Open, PlainAction, Tick}
use Rattle.script_actions.specs.Labels.{label_of}

-- a line that is an action of this document
pub record IsActOf (at : Label) (action : PlainAction) : Type 0 where
  pub done : DocumentAction
  pub act : action ≡ Act at done

pub act_of : (action : PlainAction) (at : Label) → label_of action ≡ Some at → IsActOf at action
act_of (Tick s) at named = absurd (cc named)
act_of (Open tab url opener noopener method head) at named = absurd (cc named)
act_of (Close tab) at named = absurd (cc named)
act_of (Go tab url by_page method head) at named = absurd (cc named)
act_of (Evict site) at named = absurd (cc named)
act_of (Act own done) at named = record { done = done; act = cc named }
