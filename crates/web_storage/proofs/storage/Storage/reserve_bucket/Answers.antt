-- Room for a bucket leaves what is held.
use Rattle.web_storage.proofs.HeldLemmas.{local_kept}
use Rattle.web_storage.proofs.storage.Storage.reserve_bucket.Goals as goal

pub returns-clause-same : goal.returns-clause-same
returns-clause-same c = rw (← c.self.view_is) (λ beside.
    local_kept beside (record { local = c.self.inside.local; session = c.self.inside.session })
    c.reserve_local.new.shed c.reserve_local.ensures.areas c.reserve_local.ensures.modes)
