use Rattle.std.proofs.Common.{◌≡◌, ◌||◌, false, codes, ap, ◌∙◌}
use Rattle.std.proofs.Math.Bool.{or-false}
use Rattle.std.proofs.lemmas.Result.{IfOk-weaker}
use Rattle.clap.specs.Built.{AddsArg}
use Rattle.clap.specs.Words.{Text, app_of, rule_of, with_rule}
use Rattle.clap.specs.declared.builder.arg.Arg.{Arg}
use Rattle.clap.specs.declared.builder.command.Command.{Command}
use Rattle.command_line.specs.Program.{has_globals, option_rule}
use Rattle.command_line.proofs.matches.with_numbers.Goals as goal

-- a command with an option more
record HasOption (old : Command) (name : Text) (new : Command) : Type 0 where
  pub shape : app_of new ≡ with_rule (app_of old) (option_rule name)
  pub own : has_globals new ≡ has_globals old

has_option : (old : Command) (arg : Arg) (name : Text) (new : Command) → rule_of arg ≡ option_rule name → arg.global ≡ false → AddsArg old arg new → HasOption old name new
has_option old arg name new rule own adds = record {
  shape = adds.shape own ∙ ap (with_rule (app_of old)) rule;
  own = adds.globals ∙ ap (λ global. has_globals old || global) own ∙ or-false (has_globals old);
}

pub returns-clause-shape : goal.returns-clause-shape
returns-clause-shape c =
    let batch = has_option c.args.command c.option.result (codes "batch") c.in_ok-arg.field-0 c.option.ensures.rule c.option.ensures.own c.in_ok-arg.ensures in
    let checkpoint = has_option c.in_ok-arg.field-0 c.option-2.result (codes "checkpoint") c.in_ok-arg-2.field-0 c.option-2.ensures.rule c.option-2.ensures.own c.in_ok-arg-2.ensures in
    IfOk-weaker c.arg-3.result _ _ (λ more adds.
    (has_option c.in_ok-arg-2.field-0 c.option-3.result (codes "start") more c.option-3.ensures.rule c.option-3.ensures.own adds).shape
    ∙ ap (λ app. with_rule app (option_rule (codes "start"))) (checkpoint.shape ∙ ap (λ app. with_rule app (option_rule (codes "checkpoint"))) batch.shape))
    c.arg-3.ensures

pub returns-clause-own : goal.returns-clause-own
returns-clause-own c =
    let batch = has_option c.args.command c.option.result (codes "batch") c.in_ok-arg.field-0 c.option.ensures.rule c.option.ensures.own c.in_ok-arg.ensures in
    let checkpoint = has_option c.in_ok-arg.field-0 c.option-2.result (codes "checkpoint") c.in_ok-arg-2.field-0 c.option-2.ensures.rule c.option-2.ensures.own c.in_ok-arg-2.ensures in
    IfOk-weaker c.arg-3.result _ _ (λ more adds.
    (has_option c.in_ok-arg-2.field-0 c.option-3.result (codes "start") more c.option-3.ensures.rule c.option-3.ensures.own adds).own ∙ checkpoint.own ∙ batch.own)
    c.arg-3.ensures
