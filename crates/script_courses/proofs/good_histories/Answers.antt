use Rattle.script_courses.proofs.GoodLemmas.{gives_good, gives_the_only}
use Rattle.script_courses.proofs.good_histories.Goals as goal

pub returns-clause-good : goal.returns-clause-good
returns-clause-good c = gives_good

pub returns-clause-only : goal.returns-clause-only
returns-clause-only c = gives_the_only
