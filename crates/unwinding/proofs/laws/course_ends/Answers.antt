use Rattle.unwinding.proofs.LawProofs.{course_ends}
use Rattle.unwinding.proofs.laws.course_ends.Goals as goal

pub returns : goal.returns
returns g c = record { admissible = course_ends g.M.Isolated.setting }
