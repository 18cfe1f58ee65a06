use Rattle.std.proofs.Common.{◌≡◌, Some, map, rules, string_bytes, subst}
use Rattle.command_line.specs.Words.{Selftest, command_of}
use Rattle.replay.specs.BeforeAfter.{from_to}
use Rattle.replay.specs.Commands.{Obeys}
use Rattle.replay.proofs.CommandLemmas.{obeys_memory, obeys_selftest}
use Rattle.replay.proofs.runs.command.Goals as goal

pub returns-in-Err : goal.returns-in-Err
returns-in-Err g c =
    obeys_memory g.H.Host g.I.Source g.O.Sink c.args.host.now c.args.script.now c.requires (command_of (map string_bytes c.args.words.now)) c.args.out.now c.in-Err.ensures.command c.in-Err.ensures.refused

pub returns-in-Selftest : goal.returns-in-Selftest
returns-in-Selftest g c =
    let host = c.args.host.now in
    let script = c.args.script.now in
    let out = from_to c.args.out.now c.write_selftest.new.out in
    let seed = c.in-Selftest.seed in
    let status = c.write_selftest.result in
    let command : Some (Selftest seed) ≡ command_of (map string_bytes c.args.words.now) = search rules in
    subst (λ named. Obeys g.H.Host g.I.Source g.O.Sink named status (from_to host host) (from_to script script) out) command
    (obeys_selftest g.H.Host g.I.Source g.O.Sink host script c.requires seed status out c.write_selftest.ensures.text c.write_selftest.ensures.status c.write_selftest.ensures.write)
