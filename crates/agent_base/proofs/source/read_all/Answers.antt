use Rattle.std.proofs.Common.{[], take}
use Rattle.agent_base.proofs.Pieces.{shortens_by, gives_more}
use Rattle.agent_base.proofs.source.read_all.Goals as goal

pub returns-in-Err-clause-rest : goal.returns-in-Err-clause-rest
returns-in-Err-clause-rest g c =
    shortens_by _ _ _ (gives_more _ _ _ c.pieces.bytes.items [] c.pieces.invariant.so_far c.in-Err.ensures.bytes)

pub returns-then-n-eq0-clause-rest : goal.returns-then-n-eq0-clause-rest
returns-then-n-eq0-clause-rest g c =
    shortens_by _ _ _ (gives_more _ _ _ c.pieces.bytes.items (take c.in-Ok.n c.read.new.into) c.pieces.invariant.so_far c.in-Ok.ensures.bytes)

pub returns-then-n-limit-clause-rest : goal.returns-then-n-limit-clause-rest
returns-then-n-limit-clause-rest g c =
    shortens_by _ _ _ (gives_more _ _ _ c.pieces.bytes.items (take c.in-Ok.n c.read.new.into) c.pieces.invariant.so_far c.in-Ok.ensures.bytes)

pub returns-then-is_err-clause-rest : goal.returns-then-is_err-clause-rest
returns-then-is_err-clause-rest g c =
    shortens_by _ _ _ (gives_more _ _ _ c.pieces.bytes.items (take c.in-Ok.n c.read.new.into) c.pieces.invariant.so_far c.in-Ok.ensures.bytes)

pub returns-clause-rest : goal.returns-clause-rest
returns-clause-rest g c = shortens_by _ _ _ c.pieces.invariant.so_far
