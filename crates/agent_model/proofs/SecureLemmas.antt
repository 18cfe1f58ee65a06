-- What holds of the refusal and of an action holds of the action in secure contexts alone.
use Rattle.std.proofs.Common.{Bool, true, false, cond}
use Rattle.std.specs.Prelude.{codes}
use Rattle.frame_tree.specs.Calls.{is_https_chain}
use Rattle.live_state.specs.Tabs.{PlainTab}
use Rattle.reply_lines.specs.Reply.{Plain}
use Rattle.agent_model.specs.Effects.{Effect, answers}
use Rattle.agent_model.specs.Documents.{Keyed, in_secure}

module _ (P : Effect → Type 0) (tab : PlainTab) (action : Keyed → Effect) (asker : Keyed) where
  pub secure_by : P (answers (Plain (codes "insecure"))) → P (action asker) → P (in_secure tab action asker)
  secure_by refused done = by (is_https_chain asker.at.frame tab.frames)
    where
      by : (b : Bool) → P (λ cells held. cond b (action asker cells held) (answers (Plain (codes "insecure")) cells held))
      by true = done
      by false = refused
