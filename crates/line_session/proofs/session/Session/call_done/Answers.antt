use Rattle.line_session.proofs.LineLemmas.{done_goes}
use Rattle.line_session.proofs.session.Session.call_done.Goals as goal

pub returns-clause-means : goal.returns-clause-means
returns-clause-means g c =
    let is = c.call_done.ensures in
    done_goes g.D.Disk.view _ _ _ c.self.view_is is.tells is.same is.means is.found
