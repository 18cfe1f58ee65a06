use Rattle.std.proofs.Common.{◌≡◌, ℕ, List, subst, ap, sym, ◌∙◌}
use Rattle.std.specs.Prelude.{Some}
use Rattle.disk_model.specs.History.{Past, held, ImageOf}
use Rattle.disk_model.specs.MemDisk.{MemView}
use Rattle.disk_model.specs.Recovery.{Recovered}
use Rattle.disk_model.proofs.MemView.{settled_anew, restarted}
use Rattle.disk_model.proofs.mem_disk.MemDisk.reopen.Goals as goal

pub returns-clause-image : goal.returns-clause-image
returns-clause-image c = λ x told.
    let new = c.restart.new.self in
    let past = c.args.self.past in
    let P : Past → Type 0 = λ p. Recovered c.unwrap_or.result (held p) new.first in
    let left = restarted past new c.unwrap_or.result c.restart.ensures.events (subst P (ap (λ (v : MemView). v.past) c.self.view_is) c.restart.ensures.recovered) in
    let I : List ℕ → Type 0 = λ f. ImageOf (held past) f in
    subst I (some_is left.0 x (sym left.1 ∙ told)) left.2
  where
    some_is : (a b : List ℕ) → Some a ≡ Some b → a ≡ b
    some_is a b e = cc

pub returns-clause-settled : goal.returns-clause-settled
returns-clause-settled c = λ x left. settled_anew c.restart.new.self x c.restart.ensures.events left
