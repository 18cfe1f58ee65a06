use Rattle.std.proofs.lemmas.Result.{on_ok_weaker, on_err_weaker}
use Rattle.web_storage.specs.Stored.{held_with, sessions_in}
use Rattle.web_storage.proofs.HeldLemmas.{local_kept}
use Rattle.web_storage.proofs.storage.Storage.evict.Goals as goal

pub returns-clause-evicted : goal.returns-clause-evicted
unfolding held_with
returns-clause-evicted c = rw (← c.self.view_is) (λ beside. on_ok_weaker c.evict_local.result
    (λ is i. record beside {
      areas = is i;
      persistent = c.evict_local.ensures.modes i;
      sessions =
          sessions_in c.self.inside.session;
    })
    c.evict_local.ensures.evicted)

pub returns-clause-count : goal.returns-clause-count
unfolding held_with
returns-clause-count c = rw (← c.self.view_is) (λ beside. c.evict_local.ensures.count)

pub returns-clause-unchanged : goal.returns-clause-unchanged
returns-clause-unchanged c = rw (← c.self.view_is) (λ beside. on_err_weaker c.evict_local.result
    (λ is. local_kept beside (record { local = c.self.inside.local; session = c.self.inside.session })
    c.evict_local.new.shed is c.evict_local.ensures.modes)
    c.evict_local.ensures.unchanged)
