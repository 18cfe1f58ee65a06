use Rattle.script_courses.proofs.GivenLemmas.{gives_by_one, keeps_entries}
use Rattle.script_courses.proofs.entries.Goals as goal

pub returns-clause-stay : goal.returns-clause-stay
returns-clause-stay c = keeps_entries

pub returns-clause-line : goal.returns-clause-line
returns-clause-line c = gives_by_one
