use Rattle.std.proofs.Common.{◌≡◌, ◌≤◌, take}
use Rattle.cookie_jar.specs.Performed.{after_removals}
use Rattle.cookie_jar.proofs.jar.Jar.remove_all.Given as goal

abbrev pub invariant-loop-step : goal.invariant-loop-step
invariant-loop-step l = record {
  cookies : l.self.cookies ≡ after_removals l.initial.self.cookies (take l.step-index l.steps);
  kind : l.self.kind ≡ l.initial.self.kind;
  spare : l.initial.self.spare ≤ l.self.spare;
}
