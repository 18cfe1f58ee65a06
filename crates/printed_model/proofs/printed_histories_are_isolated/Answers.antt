use Rattle.printed_model.proofs.LawLemmas.{one_text, same_lines, site_lines}
use Rattle.printed_model.proofs.printed_histories_are_isolated.Goals as goal

pub returns-clause-sites : goal.returns-clause-sites
returns-clause-sites c = site_lines c.histories_are_isolated.ensures.lines

pub returns-clause-same : goal.returns-clause-same
returns-clause-same c = same_lines (site_lines c.histories_are_isolated.ensures.lines)

pub returns-clause-unbroken : goal.returns-clause-unbroken
returns-clause-unbroken c = one_text
