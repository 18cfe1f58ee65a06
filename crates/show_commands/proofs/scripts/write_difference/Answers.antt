use Rattle.std.proofs.Common.{map, subst}
use Rattle.command_line.specs.declared.shows.Shown.TheVariants.{Difference}
use Rattle.origin_site.specs.Plain.{plain_site}
use Rattle.replay.specs.BeforeAfter.{from_to}
use Rattle.replay.specs.Readings.{HasScripts, ScriptCounts}
use Rattle.replay.proofs.TwinLemmas.{line_weaker}
use Rattle.script_actions.specs.Plain.{line_of}
use Rattle.twins.specs.Settings.{setting}
use Rattle.show_commands.specs.Causes.{CauseOf, IsOf}
use Rattle.show_commands.specs.Shows.{IsAnswerText, IsTextOfScripts}
use Rattle.show_commands.proofs.ServeLemmas.{differ_count, differ_ends, differ_text, two_fine, two_read}
use Rattle.show_commands.proofs.scripts.write_difference.Goals as goal

pub returns-in-Ok : goal.returns-in-Ok
returns-in-Ok g c =
    let list = c.args.list.now in
    let site = plain_site c.args.site.now in
    let options = c.args.options in
    let at = setting list site options in
    let script = c.args.script.now in
    let left = from_to (g.I.Source.left script) (g.I.Source.left c.read_scripts.new.script) in
    let faults = from_to (g.I.Source.faults script) (g.I.Source.faults c.read_scripts.new.script) in
    let read = c.in-Ok.ensures.read in
    let first = c.in-Ok.first in
    let second = c.in-Ok.second in
    let result = c.differ-shown.result in
    let told = c.write_equal.result in
    let mid = g.O.Sink.taken c.differ-shown.new.out in
    let taken = from_to (g.O.Sink.taken c.args.out.now) (g.O.Sink.taken c.write_equal.new.out) in
    let rest = c.write_equal.ensures.text in
    let behind = from_to mid taken.after in
    let fine = two_fine list site options left read.0 in
    record {
      text = line_weaker told taken
          (IsAnswerText at (map line_of c.deref.result.now) (map line_of c.deref-in-Ok.result.now))
          (IsTextOfScripts Difference list site options.start options.batch left)
          (λ text shown. two_read list site options left read.0 first second read.1 read.2 text
          (subst (λ ls. IsAnswerText at (map line_of first.lines.items) (map line_of ls) text) c.deref-in-Ok.ensures.value
          (subst (λ ls. IsAnswerText at (map line_of ls) (map line_of c.deref-in-Ok.result.now) text) c.deref.ensures.value shown)))
          (differ_text at (map line_of c.deref.result.now) (map line_of c.deref-in-Ok.result.now) taken.before mid taken.after
          result told c.differ-shown.ensures.text rest);
      scripts = differ_ends (HasScripts (IsOf Difference)) tt tt tt result told behind rest;
      script = differ_ends (λ s. CauseOf Difference s left.before) fine fine tt result told behind rest;
      read = differ_ends (λ s. ScriptCounts s faults) c.in-Ok.ensures.still c.in-Ok.ensures.still c.in-Ok.ensures.still result told behind rest;
      write = differ_count result told (g.O.Sink.faults c.args.out.now) (g.O.Sink.faults c.differ-shown.new.out)
          (g.O.Sink.faults c.write_equal.new.out) c.differ-shown.ensures.count c.write_equal.ensures.write;
    }
