use Rattle.std.proofs.Common.{◌∙◌}
use Rattle.std.proofs.lemmas.Result.{on_err_weaker}
use Rattle.origin_site.specs.Plain.{plain_site}
use Rattle.web_storage.specs.Stored.{sessions_in}
use Rattle.web_storage.proofs.SessionWrites.{sessions_closed, sessions_kept}
use Rattle.web_storage.proofs.CopyLemmas.{closed_same, after_copy}
use Rattle.agent_base.proofs.Logic.{on_err}
use Rattle.web_storage.proofs.session.copy_areas.Goals as goal

pub returns-in_err-keys-clause-unchanged : goal.returns-in_err-keys-clause-unchanged
returns-in_err-keys-clause-unchanged c = on_err c.from_residual.result
    (sessions_closed c.args.to c.args.sessions.now c.close.new.self c.close.ensures.closed
    ∙ closed_same c.args.to (sessions_in c.args.sessions.now) c.requires)

pub returns-clause-copied : goal.returns-clause-copied
returns-clause-copied c = λ held is.
    after_copy (plain_site c.args.site.now) c.args.from c.args.to c.in_ok-keys.keys.items c.args.sessions.now
    c.close.new.self c.clone_tab.new.self held is c.requires
    c.close.ensures.closed
    c.in_ok-keys.ensures.keys
    c.clone_tab.result c.clone_tab.ensures.copied c.clone_tab.ensures.elsewhere

pub returns-clause-unchanged : goal.returns-clause-unchanged
returns-clause-unchanged c = on_err_weaker c.clone_tab.result
    (λ same. sessions_kept c.close.new.self c.clone_tab.new.self same
    ∙ sessions_closed c.args.to c.args.sessions.now c.close.new.self c.close.ensures.closed
    ∙ closed_same c.args.to (sessions_in c.args.sessions.now) c.requires)
    c.clone_tab.ensures.unchanged
