use Rattle.unwinding.proofs.LawProofs.{restart_projects}
use Rattle.unwinding.proofs.laws.restart_projects.Goals as goal

pub returns : goal.returns
returns g c = record { projects = restart_projects g.M.Isolated.setting }
