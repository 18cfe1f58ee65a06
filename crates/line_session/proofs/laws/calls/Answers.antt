use Rattle.line_session.proofs.CallLemmas.{calls_between, calls_left, calls_same, calls_sites, calls_text}
use Rattle.line_session.proofs.laws.calls.Goals as goal

pub returns-clause-text : goal.returns-clause-text
returns-clause-text g c = calls_text g.D.Disk.view

pub returns-clause-sites : goal.returns-clause-sites
returns-clause-sites g c = calls_sites g.D.Disk.view c.printed_histories_are_isolated.ensures.sites

pub returns-clause-same : goal.returns-clause-same
returns-clause-same g c = calls_same g.D.Disk.view c.printed_histories_are_isolated.ensures.same

pub returns-clause-left : goal.returns-clause-left
returns-clause-left g c = calls_left g.D.Disk.view

pub returns-clause-between : goal.returns-clause-between
returns-clause-between g c = calls_between g.D.Disk.view
