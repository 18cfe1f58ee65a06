use Rattle.std.proofs.Common.{◌≡◌, ◌++◌, [], drop, take, map}
use Rattle.cookie_jar.specs.Steps.{removals}
use Rattle.cookie_jar.specs.Lifetime.{is_persistent}
use Rattle.cookie_jar.specs.Plain.{plain_cookie}
use Rattle.cookie_jar.proofs.StepLaws.{gone_after}
use Rattle.cookie_jar.proofs.RemovalLemmas.{left_after}
use Rattle.cookie_jar.proofs.removals.removals.Given as goal

abbrev pub invariant-loop-done : goal.invariant-loop-done
invariant-loop-done l = record {
  steps : removals (map plain_cookie l.cookies) [] l.gone ≡ l.steps.items ++ removals (left_after (map plain_cookie l.cookies) [] (take l.done l.gone)) (gone_after [] (take l.done l.gone)) (drop l.done l.gone);
  flags : l.flags.items ≡ map is_persistent (left_after (map plain_cookie l.cookies) [] (take l.done l.gone));
}
