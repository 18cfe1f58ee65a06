use Rattle.line_session.proofs.LineLemmas.{tended_goes}
use Rattle.std.proofs.Common.{subst}
use Rattle.store_runs.specs.FaultCounts.{KeepsCount}
use Rattle.line_session.specs.SessionView.{SessionView}
use Rattle.line_session.proofs.session.Session.tend.Goals as goal

pub returns-clause-means : goal.returns-clause-means
returns-clause-means g c =
    tended_goes g.D.Disk.view _ _ _ c.self.view_is c.tend.result c.tend.ensures.goes_on c.tend.ensures.closes

pub returns-clause-counts : goal.returns-clause-counts
returns-clause-counts g c =
    subst (λ (old : SessionView _). KeepsCount g.D.Disk.view old.agent c.tend.new.agent) c.self.view_is c.tend.ensures.counts
