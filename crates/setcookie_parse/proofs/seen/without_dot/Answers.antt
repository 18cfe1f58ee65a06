use Rattle.std.proofs.Common.{◌∙◌, sym}
use Rattle.std.proofs.lemmas.Str.{IsCharBoundary-after_ascii}
use Rattle.setcookie_parse.proofs.CutsLemmas.{first_byte}
use Rattle.setcookie_parse.proofs.seen.without_dot.Goals as goal

pub range_from-requires : goal.range_from-requires
range_from-requires c =
    let first = first_byte c.args.text.now (sym c.begins_with_dot.ensures ∙ c.if-begins_with_dot.true) in
    λ some. IsCharBoundary-after_ascii c.args.text.now 0 c.utf8.text first.0 first.1
