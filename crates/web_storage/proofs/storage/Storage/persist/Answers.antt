-- The bucket that there is room for is made persistent.
use Rattle.std.proofs.Common.{ap, ◌∙◌}
use Rattle.std.specs.FinMap as finite
use Rattle.storage_key.specs.Plain.{plain_key}
use Rattle.web_storage.specs.Stored.{held_with, areas_in, keys_in, sessions_in}
use Rattle.web_storage.proofs.OrderOfKeys.{order, alike}
use Rattle.web_storage.proofs.WriteLemmas.{persisted_keys}
use Rattle.agent_base.proofs.Logic.{on_err}
use Rattle.web_storage.proofs.HeldLemmas.{local_kept}
use Rattle.web_storage.proofs.storage.Storage.persist.Goals as goal

pub returns-in_err-reserve_local-clause-unchanged : goal.returns-in_err-reserve_local-clause-unchanged
returns-in_err-reserve_local-clause-unchanged c = rw (← c.self.view_is) (on_err c.from_residual.result (λ beside.
    local_kept beside (record { local = c.self.inside.local; session = c.self.inside.session })
    c.reserve_local.new.shed c.reserve_local.ensures.areas c.reserve_local.ensures.modes))

pub returns-in_err-reserve_local-clause-area : goal.returns-in_err-reserve_local-clause-area
unfolding held_with
returns-in_err-reserve_local-clause-area c = rw (← c.self.view_is)
    (λ beside. on_err c.from_residual.result c.in_err-reserve_local.ensures.area)

pub returns-in_err-reserve_local-clause-mode : goal.returns-in_err-reserve_local-clause-mode
unfolding held_with
returns-in_err-reserve_local-clause-mode c = rw (← c.self.view_is)
    (λ beside. on_err c.from_residual.result c.in_err-reserve_local.ensures.mode)

pub returns-clause-stored : goal.returns-clause-stored
unfolding held_with
returns-clause-stored c = rw (← c.self.view_is) (λ beside i. record beside {
  areas = (ap areas_in c.persist.ensures.persisted
      ∙ (persisted_keys order alike c.args.key.now c.reserve_local.new.shed c.in_ok-reserve_local.ensures.there).0
      ∙ c.reserve_local.ensures.areas) i;
  persistent = (ap keys_in c.persist.ensures.persisted
      ∙ (persisted_keys order alike c.args.key.now c.reserve_local.new.shed c.in_ok-reserve_local.ensures.there).1
      ∙ ap (λ keys. finite.insert keys (plain_key c.args.key.now) tt) c.reserve_local.ensures.modes) i;
  sessions = sessions_in c.self.inside.session;
})
