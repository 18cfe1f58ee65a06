use Rattle.std.proofs.Common.{⊎_elim, arith}
use Rattle.std.proofs.lemmas.Str.{IsCharBoundary-after_ascii}
use Rattle.suffix_list.proofs.labels.name_from.Goals as goal

pub range_from-requires : goal.range_from-requires
range_from-requires c above =
    ⊎_elim
    (λ none. absurd (omega (arith, none, above)))
    (λ dotted. rw dotted.1 (IsCharBoundary-after_ascii c.args.name.now dotted.0 c.utf8.name dotted.2 (omega (arith, dotted.3))))
    c.requires
