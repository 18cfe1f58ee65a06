use Rattle.std.proofs.Common.{ap₂, ◌∙◌}
use Rattle.std.proofs.lemmas.Result.{IfOk-weaker}
use Rattle.selftests.specs.Line.{selftest_line}
use Rattle.replay.proofs.seeds.selftest_line.Goals as goal

pub returns : goal.returns
returns c =
    let found = c.in_ok-found.found in
    let is = c.in_ok-found.ensures in
    IfOk-weaker c.line.result _ _ (λ line same. (found.store, is.store, same ∙ ap₂ (λ digest lines. selftest_line digest lines found.store) is.digest is.lines)) c.line.ensures.text
