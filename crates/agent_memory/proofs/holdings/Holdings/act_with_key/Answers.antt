use Rattle.std.proofs.Common.{refl, sym, subst}
use Rattle.std.proofs.lemmas.Option.{IfSome_then}
use Rattle.script_actions.specs.Plain.{action_of}
use Rattle.agent_memory.specs.Documents.{IsFound, key_wanted}
use Rattle.agent_memory.specs.ActionKinds.{by_keyed}
use Rattle.agent_memory.specs.Actions.{Acts}
use Rattle.agent_memory.specs.HoldingsView.{cells_of, held_of}
use Rattle.agent_model.specs.Documents.{with_key}
use Rattle.agent_memory.specs.Writes.{Writes, WritesIn}
use Rattle.agent_memory.proofs.FoundLemmas.{by_found, keyed_there}
use Rattle.agent_memory.proofs.WritesLemmas.{each_some, front_same, keyed_none, reading_none, writes_none, writes_wanting}
use Rattle.agent_memory.proofs.holdings.Holdings.act_with_key.Goals as goal

pub read_under-requires-clause-there : goal.read_under-requires-clause-there
read_under-requires-clause-there c =
    keyed_there c.args.at c.args.self.now.live.tabs c.tab.result.now c.in-Keyed.key (sym c.tab.ensures.tab)
    (subst (IsFound (key_wanted c.args.at.frame c.tab.result.now)) c.in-Keyed.is c.key_at.ensures.found)

pub write_under-requires-clause-there : goal.write_under-requires-clause-there
write_under-requires-clause-there c =
    keyed_there c.args.at c.args.self.now.live.tabs c.tab.result.now c.in-Keyed.key (sym c.tab.ensures.tab)
    (subst (IsFound (key_wanted c.args.at.frame c.tab.result.now)) c.in-Keyed.is c.key_at.ensures.found)

pub returns-then-is_reading-clause-acts : goal.returns-then-is_reading-clause-acts
returns-then-is_reading-clause-acts c = IfSome_then (by_keyed c.args.input.now.list.now.rules c.args.input.now.clock
    (action_of c.args.action.now)) c.read_under.ensures.acts
    (by_found (λ does. Acts does c.args.self.now c.args.self.now c.read_under.result)
    c.args.at c.args.self.now.live.tabs c.tab.result.now c.in-Keyed.key _ (sym c.tab.ensures.tab)
    (subst (IsFound (key_wanted c.args.at.frame c.tab.result.now)) c.in-Keyed.is c.key_at.ensures.found) refl)

pub returns-in_ok-key-in-Keyed-clause-acts : goal.returns-in_ok-key-in-Keyed-clause-acts
returns-in_ok-key-in-Keyed-clause-acts c = IfSome_then (by_keyed c.args.input.now.list.now.rules c.args.input.now.clock
    (action_of c.args.action.now)) c.write_under.ensures.acts
    (by_found (λ does. Acts does c.args.self.now c.write_under.new.self c.write_under.result)
    c.args.at c.args.self.now.live.tabs c.tab.result.now c.in-Keyed.key _ (sym c.tab.ensures.tab)
    (subst (IsFound (key_wanted c.args.at.frame c.tab.result.now)) c.in-Keyed.is c.key_at.ensures.found)
    c.in_ok-key-in-Keyed.ensures.same)

pub returns-then-is_reading-clause-changes : goal.returns-then-is_reading-clause-changes
returns-then-is_reading-clause-changes c =
    IfSome_then (by_keyed c.args.input.now.list.now.rules c.args.input.now.clock (action_of c.args.action.now))
    (reading_none c.args.input.now.list.now.rules c.args.input.now.clock (action_of c.args.action.now) (sym c.if-is_reading.ensures))
    (λ does none tab site found top.
    writes_none _ (keyed_none c.args.at tab (does site tab) (cells_of c.args.self.now)
    (held_of c.args.self.now) (λ reader. none site tab reader (cells_of c.args.self.now) (held_of c.args.self.now)))
    c.args.body.now.bytes c.read_under.result)

pub returns-in_ok-key-in-Keyed-clause-changes : goal.returns-in_ok-key-in-Keyed-clause-changes
returns-in_ok-key-in-Keyed-clause-changes c =
    IfSome_then (by_keyed c.args.input.now.list.now.rules c.args.input.now.clock (action_of c.args.action.now)) c.write_under.ensures.changes
    (by_found (λ does. Writes does c.args.self.now c.args.body.now.bytes c.write_under.new.body.bytes
    c.write_under.result) c.args.at c.args.self.now.live.tabs c.tab.result.now c.in-Keyed.key _ (sym c.tab.ensures.tab)
    (subst (IsFound (key_wanted c.args.at.frame c.tab.result.now)) c.in-Keyed.is c.key_at.ensures.found)
    c.in_ok-key-in-Keyed.ensures.same)

pub returns-in_err-key-in-Keyed-clause-changes : goal.returns-in_err-key-in-Keyed-clause-changes
returns-in_err-key-in-Keyed-clause-changes c =
    each_some (λ does. WritesIn c.args.at.tab (λ site tab. with_key c.args.at tab (does site tab))
    c.args.self.now c.args.body.now.bytes c.args.body.now.bytes c.from_residual.result)
    (by_keyed c.args.input.now.list.now.rules c.args.input.now.clock (action_of c.args.action.now))
    (λ does tab site found top. writes_wanting _ c.args.body.now.bytes c.args.body.now.bytes
    c.from_residual.result c.from_residual.ensures.0 (front_same c.args.body.now.bytes))
