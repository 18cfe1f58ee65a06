-- Each call keeps what holds of the table.
use Rattle.web_locks.proofs.CallLemmas.{governed}
use Rattle.web_locks.proofs.PartLemmas.{parts_apart}
use Rattle.web_locks.proofs.laws.lock_laws.Goals as goal

pub returns : goal.returns
returns g c = record {
  governed = λ calls. governed g.K.Ord.cmp g.met.K.Ord.total calls;
  parts = parts_apart g.K.Ord.cmp g.met.K.Ord.total;
}
