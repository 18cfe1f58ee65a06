-- An empty area holds nothing, and a tab without an area at the key has no pairs there.
use Rattle.std.proofs.Common.{◌∙◌, sym}
use Rattle.std.proofs.lemmas.Result.{on_ok_weaker, on_err_weaker}
use Rattle.session_area.specs.Sessions.{areas_of, made_area}
use Rattle.web_storage.proofs.OrderOfKeys.{order, alike}
use Rattle.web_storage.proofs.WriteLemmas.{either_way}
use Rattle.agent_base.proofs.Logic.{on_err}
use Rattle.web_storage.proofs.SessionWrites.{sessions_alike, sessions_kept, made_alike, no_session}
use Rattle.web_storage.proofs.session.reserve_session.Goals as goal

pub returns-in_err-key-clause-area : goal.returns-in_err-key-clause-area
returns-in_err-key-clause-area c =
    on_err c.from_residual.result (no_session order alike c.args.tab c.args.key.now c.args.sessions.now
    (sym c.contains.ensures.contains ∙ c.if-contains.false))

pub returns-clause-sessions : goal.returns-clause-sessions
returns-clause-sessions c = either_way c.reserve.result
    (on_ok_weaker c.reserve.result
    (λ made. sessions_alike c.args.tab (made_area order c.in_ok-key.key
    (areas_of c.args.tab c.args.sessions.now)) c.args.sessions.now c.reserve.new.self made
    (made_alike order alike c.in_ok-key.key (areas_of c.args.tab c.args.sessions.now)))
    c.reserve.ensures.made)
    (on_err_weaker c.reserve.result (λ same. sessions_kept c.args.sessions.now c.reserve.new.self same)
    c.reserve.ensures.unchanged)

pub returns-clause-area : goal.returns-clause-area
returns-clause-area c =
    on_err c.reserve.result (no_session order alike c.args.tab c.args.key.now c.args.sessions.now
    (sym c.contains.ensures.contains ∙ c.if-contains.false))
