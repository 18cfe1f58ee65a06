use Rattle.std.proofs.Common.{subst, ap}
use Rattle.disk_model.specs.History.{Past, held}
use Rattle.disk_model.specs.MemDisk.{MemView}
use Rattle.disk_model.specs.Recovery.{Recovered}
use Rattle.disk_model.proofs.MemView.{anew, restarted}
use Rattle.disk_model.proofs.mem_disk.MemDiskDisk.restart.Goals as goal

pub returns-clause-contents : goal.returns-clause-contents
returns-clause-contents c =
    let new = c.restart-2.new.self in
    let P : Past → Type 0 = λ p. Recovered c.unwrap_or-pick.result (held p) new.first in
    restarted c.args.self.now.past new c.unwrap_or-pick.result c.restart-2.ensures.events (subst P (ap (λ (v : MemView). v.past) c.self.view_is) c.restart-2.ensures.recovered)

pub returns-clause-anew : goal.returns-clause-anew
returns-clause-anew c = λ t d since. anew c.restart-2.new.self c.saturating_add-self-inside.result t d c.restart-2.ensures.events since
