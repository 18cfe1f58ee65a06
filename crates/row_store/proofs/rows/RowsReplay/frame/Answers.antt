-- A frame means what its pieces make of the state from which it is read.
use Rattle.std.proofs.Common.{ap, ◌∙◌}
use Rattle.std.proofs.lemmas.Result.{IfOk-weaker}
use Rattle.row_store.specs.Stored.{saved_of}
use Rattle.row_store.proofs.BodyLemmas.{fault_in_body, meaning}
use Rattle.row_store.proofs.PieceLemmas.{nothing_standing}
use Rattle.row_store.proofs.rows.RowsReplay.frame.Goals as goal

pub invariant_of-self : goal.invariant_of-self
invariant_of-self c = nothing_standing c.new.result c.new.ensures.saved c.new.ensures.sessions

pub returns-then-is_err-clause-refuses : goal.returns-then-is_err-clause-refuses
returns-then-is_err-clause-refuses c o is =
    meaning (saved_of c.args.self.now.parts)
    (saved_of c.self.inside.parts) c.args.snapshot c.args.body.now
    (ap (λ r. saved_of r.parts) c.self.view_is ∙ c.begin_frame.ensures.saved)
    ∙ c.read_body-read.ensures.fault o is

pub returns-then-is_err-clause-within : goal.returns-then-is_err-clause-within
returns-then-is_err-clause-within c o is =
    fault_in_body c.args.snapshot c.args.body.now (saved_of c.self.inside.parts)
    o (c.read_body-read.ensures.fault o is)

pub returns-else-is_err-clause-takes : goal.returns-else-is_err-clause-takes
returns-else-is_err-clause-takes c =
    IfOk-weaker c.read_body-read.result _ _
    (λ n taken. meaning (saved_of c.args.self.now.parts)
    (saved_of c.self.inside.parts) c.args.snapshot c.args.body.now
    (ap (λ r. saved_of r.parts) c.self.view_is ∙ c.begin_frame.ensures.saved)
    ∙ taken.after)
    c.read_body-read.ensures.taken
