use Rattle.std.proofs.Common.{◌++◌, sym, ap, ◌∙◌, append-nil}
use Rattle.store_runs.specs.Answers.{answer_text}
use Rattle.store_runs.proofs.answer.Answer.hold.Goals as goal

pub returns-in-Waits-clause-text : goal.returns-in-Waits-clause-text
returns-in-Waits-clause-text c =
    sym (append-nil c.args.waiting.now.items)
    ∙ ap (λ answer. c.args.waiting.now.items ++ answer_text answer) (sym c.in-Waits.is)
