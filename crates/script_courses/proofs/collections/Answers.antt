use Rattle.script_courses.proofs.CollectedLemmas.{begins_with_nothing, ends_with_script, grows_by_commit, grows_by_line, grows_by_restart, holds_more, waits_as_held}
use Rattle.script_courses.proofs.TouchedLemmas.{goes_by_own_domain}
use Rattle.script_courses.proofs.collections.Goals as goal

pub returns-clause-begins : goal.returns-clause-begins
returns-clause-begins c = begins_with_nothing

pub returns-clause-line : goal.returns-clause-line
returns-clause-line c = grows_by_line

pub returns-clause-commit : goal.returns-clause-commit
returns-clause-commit c = grows_by_commit

pub returns-clause-restart : goal.returns-clause-restart
returns-clause-restart c = grows_by_restart

pub returns-clause-ends : goal.returns-clause-ends
returns-clause-ends c = ends_with_script

pub returns-clause-waits : goal.returns-clause-waits
returns-clause-waits c = waits_as_held

pub returns-clause-domain : goal.returns-clause-domain
returns-clause-domain c = goes_by_own_domain

pub returns-clause-holds : goal.returns-clause-holds
returns-clause-holds c = holds_more
