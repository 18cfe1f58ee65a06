use Rattle.script_courses.proofs.TwinLemmas.{answers_by_items, has_one_answer, prints_the_same, tells_of_lines}
use Rattle.script_courses.proofs.twins.Goals as goal

pub returns-clause-one : goal.returns-clause-one
returns-clause-one c = has_one_answer

pub returns-clause-same : goal.returns-clause-same
returns-clause-same c = prints_the_same c.printed_histories_are_isolated.ensures.same

pub returns-clause-count : goal.returns-clause-count
returns-clause-count c = tells_of_lines

pub returns-clause-answers : goal.returns-clause-answers
returns-clause-answers c = answers_by_items
