use Rattle.std.proofs.Common.{◌≡◌, false, ap₂, ◌∙◌}
use Rattle.std.proofs.lemmas.Result.{IfOk-weaker}
use Rattle.clap.specs.Built.{AddsSubcommand}
use Rattle.clap.specs.Words.{App, app_of, with_subcommand}
use Rattle.clap.specs.declared.builder.command.Command.{Command}
use Rattle.command_line.specs.Program.{bare_app, dump_app, has_globals, replay_app, selftest_app, twin_app}
use Rattle.command_line.proofs.matches.program.Goals as goal

-- a program with a command more
added : (old sub new : Command) (before app : App) → AddsSubcommand old sub new → has_globals sub ≡ false → app_of sub ≡ app → app_of old ≡ before → app_of new ≡ with_subcommand before app.top
added old sub new before app adds own is same = adds.shape own ∙ ap₂ (λ program command. with_subcommand program command.top) same is

pub returns : goal.returns
returns c =
    let replay = added c.bare.result c.in_ok-replay.replay c.in_ok-subcommand.field-0 bare_app replay_app c.in_ok-subcommand.ensures c.in_ok-replay.ensures.own c.in_ok-replay.ensures.shape c.bare.ensures in
    let one = with_subcommand bare_app replay_app.top in
    let twin = added c.in_ok-subcommand.field-0 c.in_ok-twin.twin c.in_ok-subcommand-2.field-0 one twin_app c.in_ok-subcommand-2.ensures c.in_ok-twin.ensures.own c.in_ok-twin.ensures.shape replay in
    let two = with_subcommand one twin_app.top in
    let dump = added c.in_ok-subcommand-2.field-0 c.in_ok-dump.dump c.in_ok-subcommand-3.field-0 two dump_app c.in_ok-subcommand-3.ensures c.in_ok-dump.ensures.own c.in_ok-dump.ensures.shape twin in
    IfOk-weaker c.subcommand-4.result _ _ (λ program adds.
    added c.in_ok-subcommand-3.field-0 c.in_ok-selftest.selftest program (with_subcommand two dump_app.top) selftest_app adds c.in_ok-selftest.ensures.own c.in_ok-selftest.ensures.shape dump)
    c.subcommand-4.ensures
