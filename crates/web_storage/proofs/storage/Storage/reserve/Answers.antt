-- Room for an area holds nothing.
use Rattle.std.proofs.Common.{◌∙◌}
use Rattle.std.proofs.lemmas.Result.{on_err_weaker}
use Rattle.storage_key.specs.Plain.{plain_key}
use Rattle.web_storage.proofs.HeldLemmas.{local_of, session_of, local_kept, session_kept}
use Rattle.web_storage.proofs.storage.Storage.reserve.Goals as goal

pub returns-in-Local-clause-same : goal.returns-in-Local-clause-same
returns-in-Local-clause-same c = rw (← c.self.view_is) (λ beside.
    local_kept beside (record { local = c.self.inside.local; session = c.self.inside.session })
    c.reserve_local.new.shed c.reserve_local.ensures.areas c.reserve_local.ensures.modes)

pub returns-in-Local-clause-memory : goal.returns-in-Local-clause-memory
returns-in-Local-clause-memory c = rw (← c.self.view_is) (λ beside. on_err_weaker c.reserve_local.result
    (λ none. local_of beside c.args.kind c.args.tab (plain_key c.args.key.now) c.in-Local.is
    (record { local = c.self.inside.local; session = c.self.inside.session }) ∙ none)
    c.reserve_local.ensures.area)

pub returns-in-Session-clause-same : goal.returns-in-Session-clause-same
returns-in-Session-clause-same c = rw (← c.self.view_is) (λ beside.
    session_kept beside (record { local = c.self.inside.local; session = c.self.inside.session })
    c.reserve_session.new.sessions c.reserve_session.ensures.sessions)

pub returns-in-Session-clause-memory : goal.returns-in-Session-clause-memory
returns-in-Session-clause-memory c = rw (← c.self.view_is) (λ beside. on_err_weaker c.reserve_session.result
    (λ none. session_of beside c.args.kind c.args.tab (plain_key c.args.key.now) c.in-Session.is
    (record { local = c.self.inside.local; session = c.self.inside.session }) ∙ none)
    c.reserve_session.ensures.area)
