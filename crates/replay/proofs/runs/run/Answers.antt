-- What a command wrote is said by the clause of its kind.
use Rattle.std.proofs.Common.{map, string_bytes}
use Rattle.command_line.specs.Words.{command_of}
use Rattle.replay.specs.BeforeAfter.{from_to}
use Rattle.replay.proofs.CompleteLemmas.{completes}
use Rattle.replay.proofs.TextLemmas.{of_dump, of_help, of_replay, of_selftest, of_twin}
use Rattle.replay.proofs.runs.run.Goals as goal

pub returns-clause-text : goal.returns-clause-text
returns-clause-text g c =
    let old = c.args.host.now in
    let new = c.command-status.new.host in
    let H = g.H.Host in
    of_replay c.command-status.result (H.lists old) (H.tells_stores old) (H.stores old) (H.stores new) (from_to (H.store_faults old) (H.store_faults new)) (from_to (g.I.Source.left c.args.script.now) (g.I.Source.left c.command-status.new.script))
    (from_to (g.O.Sink.taken c.args.out.now) (g.O.Sink.taken c.command-status.new.out)) (command_of (map string_bytes c.args.words.now)) c.command-status.ensures.text

pub returns-clause-rows : goal.returns-clause-rows
returns-clause-rows g c =
    let old = c.args.host.now in
    let new = c.command-status.new.host in
    let H = g.H.Host in
    of_dump c.command-status.result (H.lists old) (H.tells_stores old) (H.stores old) (H.stores new) (from_to (H.store_faults old) (H.store_faults new)) (from_to (g.I.Source.left c.args.script.now) (g.I.Source.left c.command-status.new.script))
    (from_to (g.O.Sink.taken c.args.out.now) (g.O.Sink.taken c.command-status.new.out)) (command_of (map string_bytes c.args.words.now)) c.command-status.ensures.text

pub returns-clause-twin : goal.returns-clause-twin
returns-clause-twin g c =
    let old = c.args.host.now in
    let new = c.command-status.new.host in
    let H = g.H.Host in
    of_twin c.command-status.result (H.lists old) (H.tells_stores old) (H.stores old) (H.stores new) (from_to (H.store_faults old) (H.store_faults new)) (from_to (g.I.Source.left c.args.script.now) (g.I.Source.left c.command-status.new.script))
    (from_to (g.O.Sink.taken c.args.out.now) (g.O.Sink.taken c.command-status.new.out)) (command_of (map string_bytes c.args.words.now)) c.command-status.ensures.text

pub returns-clause-selftest : goal.returns-clause-selftest
returns-clause-selftest g c =
    let old = c.args.host.now in
    let new = c.command-status.new.host in
    let H = g.H.Host in
    of_selftest c.command-status.result (H.lists old) (H.tells_stores old) (H.stores old) (H.stores new) (from_to (H.store_faults old) (H.store_faults new)) (from_to (g.I.Source.left c.args.script.now) (g.I.Source.left c.command-status.new.script))
    (from_to (g.O.Sink.taken c.args.out.now) (g.O.Sink.taken c.command-status.new.out)) (command_of (map string_bytes c.args.words.now)) c.command-status.ensures.text

pub returns-clause-help : goal.returns-clause-help
returns-clause-help g c =
    let old = c.args.host.now in
    let new = c.command-status.new.host in
    let H = g.H.Host in
    of_help c.command-status.result (H.lists old) (H.tells_stores old) (H.stores old) (H.stores new) (from_to (H.store_faults old) (H.store_faults new)) (from_to (g.I.Source.left c.args.script.now) (g.I.Source.left c.command-status.new.script))
    (from_to (g.O.Sink.taken c.args.out.now) (g.O.Sink.taken c.command-status.new.out)) (command_of (map string_bytes c.args.words.now)) c.command-status.ensures.text

pub returns-clause-complete : goal.returns-clause-complete
returns-clause-complete g c = λ suitable none.
    completes g.H.Host g.I.Source g.O.Sink c.command-status.result (from_to c.args.host.now c.command-status.new.host)
    (from_to c.args.script.now c.command-status.new.script) (from_to c.args.out.now c.command-status.new.out) none
    (command_of (map string_bytes c.args.words.now)) c.command-status.ensures suitable
