use Rattle.std.proofs.Common.{arith, rules}
use Rattle.hosts.proofs.EntryLemmas.{first_removed, named_there}
use Rattle.hosts.proofs.entries.place_of.Goals as goal

pub returns-then-eq-clause-first : goal.returns-then-eq-clause-first
returns-then-eq-clause-first g c =
    first_removed c.args.entries.now c.args.path.now c.loop-place.place c.index-entries-place.result (omega arith) (search rules) c.loop-place.invariant.first

pub returns-then-eq-clause-named : goal.returns-then-eq-clause-named
returns-then-eq-clause-named g c =
    named_there c.args.entries.now c.args.path.now c.loop-place.place c.index-entries-place.result (omega arith) (search rules)
