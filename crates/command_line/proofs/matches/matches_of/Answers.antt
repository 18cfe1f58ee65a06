use Rattle.std.proofs.Common.{ap, map, string_bytes, ◌∙◌}
use Rattle.std.proofs.lemmas.Result.{IfErr-weaker}
use Rattle.clap.specs.Words.{takes}
use Rattle.command_line.proofs.matches.matches_of.Goals as goal

pub returns-clause-refused : goal.returns-clause-refused
returns-clause-refused c =
    IfErr-weaker c.try_get_matches_from.result _ _ (λ why passes taken. passes (ap (λ app. takes app (map string_bytes c.args.words.now)) c.in_ok-program.ensures ∙ taken))
    c.try_get_matches_from.ensures.passes
