-- One that holds the lock goes after another.
use Rattle.std.proofs.Common.{◌∙◌, sym}
use Rattle.web_locks.proofs.StealLemmas.{holder_found, holder_gone, holder_none}
use Rattle.web_locks.proofs.ToldLemmas.{indexed_without}
use Rattle.web_locks.proofs.requests.Requests.take_held.Goals as goal

pub loop-number-smaller : goal.loop-number-smaller
loop-number-smaller g c =
    let holds = holder_found g.K.Ord.cmp c.args.resource.now c.in-Some.number c.loop-number.self.rows c.holder.ensures.ordered (sym c.in-Some.ensures.holder) in
    (holder_gone g.K.Ord.cmp c.args.resource.now c.in-Some.number c.loop-number.self.rows c.take.new.self.rows c.holder.ensures.ordered holds
    c.loop-number.invariant.thief c.take.ensures.taken).fewer

pub loop-number-preserved : goal.loop-number-preserved
loop-number-preserved g c =
    let holds = holder_found g.K.Ord.cmp c.args.resource.now c.in-Some.number c.loop-number.self.rows c.holder.ensures.ordered (sym c.in-Some.ensures.holder) in
    let gone = holder_gone g.K.Ord.cmp c.args.resource.now c.in-Some.number c.loop-number.self.rows c.take.new.self.rows c.holder.ensures.ordered holds
    c.loop-number.invariant.thief c.take.ensures.taken in
    record {
      indexed =
          indexed_without g.K.Ord.cmp c.in-Some.number holds.lock c.loop-number.self c.take.new.self c.holder.ensures.ordered holds.row
          c.loop-number.invariant.indexed c.take.ensures.made c.take.ensures.taken c.take.ensures.told;
      thief = gone.thief;
      same = gone.same ∙ c.loop-number.invariant.same;
    }

pub loop-number-smaller-in-Some : goal.loop-number-smaller-in-Some
loop-number-smaller-in-Some g c =
    let holds = holder_found g.K.Ord.cmp c.args.resource.now c.in-Some.number c.loop-number.self.rows c.holder.ensures.ordered (sym c.in-Some.ensures.holder) in
    (holder_gone g.K.Ord.cmp c.args.resource.now c.in-Some.number c.loop-number.self.rows c.take.new.self.rows c.holder.ensures.ordered holds
    c.loop-number.invariant.thief c.take.ensures.taken).fewer

pub loop-number-preserved-in-Some : goal.loop-number-preserved-in-Some
loop-number-preserved-in-Some g c =
    let holds = holder_found g.K.Ord.cmp c.args.resource.now c.in-Some.number c.loop-number.self.rows c.holder.ensures.ordered (sym c.in-Some.ensures.holder) in
    let gone = holder_gone g.K.Ord.cmp c.args.resource.now c.in-Some.number c.loop-number.self.rows c.take.new.self.rows c.holder.ensures.ordered holds
    c.loop-number.invariant.thief c.take.ensures.taken in
    record {
      indexed =
          indexed_without g.K.Ord.cmp c.in-Some.number holds.lock c.loop-number.self c.take.new.self c.holder.ensures.ordered holds.row
          c.loop-number.invariant.indexed c.take.ensures.made c.take.ensures.taken c.take.ensures.told;
      thief = gone.thief;
      same = gone.same ∙ c.loop-number.invariant.same;
    }

pub returns-clause-taken : goal.returns-clause-taken
returns-clause-taken g c =
    sym (holder_none g.K.Ord.cmp c.args.resource.now c.loop-number.self.rows c.holder.ensures.ordered c.loop-number.invariant.thief
    (sym c.holder.ensures.holder ∙ c.in_default.is))
    ∙ c.loop-number.invariant.same
