use Rattle.std.proofs.Common.{◌≡◌, Err, map, sym, subst, rules}
use Rattle.agent_base.specs.Streams.{Takes, TakesPrefix}
use Rattle.agent_base.proofs.Pieces.{takes_none}
use Rattle.origin_site.specs.Plain.{plain_site}
use Rattle.script_actions.specs.Plain.{line_of}
use Rattle.twins.specs.Plain.{plain_twin}
use Rattle.twins.specs.Settings.{setting}
use Rattle.shown_scripts.specs.Differ.{TakesDifference}
use Rattle.shown_scripts.specs.declared.fault.ShowFault.TheVariants.{NoMemory, Write}
use Rattle.shown_scripts.proofs.showing.differ.Goals as goal

pub returns-in_err-found-clause-text : goal.returns-in_err-found-clause-text
returns-in_err-found-clause-text g c =
    let out = g.O.Sink.taken c.args.out.now in
    let at = setting c.args.list.now (plain_site c.args.site.now) c.args.options in
    let is : c.from_residual.result ≡ Err NoMemory = search rules in
    subst (λ r. TakesDifference at (map line_of c.args.first.now) (map line_of c.args.second.now) r out out)
    (sym is) (takes_none out)

pub returns-in_err-write_all-clause-text : goal.returns-in_err-write_all-clause-text
returns-in_err-write_all-clause-text g c =
    let out = g.O.Sink.taken c.args.out.now in
    let later = g.O.Sink.taken c.write_all.new.sink in
    let at = setting c.args.list.now (plain_site c.args.site.now) c.args.options in
    let found = c.in_ok-found.found in
    let prefix = subst (TakesPrefix out later) c.deref.ensures.value c.in_err-write_all.ensures.prefix in
    let is : c.from_residual-in_err-write_all.result ≡ Err Write = search rules in
    subst (λ r. TakesDifference at (map line_of c.args.first.now) (map line_of c.args.second.now) r out later) (sym is)
    (plain_twin found.answer, found.text.items, c.in_ok-found.ensures.difference, prefix)

pub returns-clause-text : goal.returns-clause-text
returns-clause-text g c =
    let out = g.O.Sink.taken c.args.out.now in
    let later = g.O.Sink.taken c.write_all.new.sink in (
      c.in_ok-found.found.text.items,
      c.in_ok-found.ensures.difference,
      subst (Takes out later) c.deref.ensures.value c.in_ok-write_all.ensures.all,
    )
