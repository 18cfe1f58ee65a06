use Rattle.std.proofs.Common.{◌∙◌, sym, ap, length}
use Rattle.std.proofs.lemmas.List.{length-map}
use Rattle.generated_day.proofs.DayLemmas.{day_count}
use Rattle.generated_day.proofs.day.generated_day.Goals as goal

pub returns-clause-count : goal.returns-clause-count
returns-clause-count c =
    sym (length-map c.add_drawn.new.lines.items (λ line. line.number))
    ∙ ap length c.in_ok-add_drawn.ensures.numbers ∙ day_count
