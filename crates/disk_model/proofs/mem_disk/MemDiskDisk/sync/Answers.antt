use Rattle.std.proofs.Common.{ap}
use Rattle.disk_model.specs.History.{Past, after, synced, held}
use Rattle.disk_model.specs.MemDisk.{MemView}
use Rattle.disk_model.proofs.MemView.{sync_images, sync_settled, grows_at}
use Rattle.disk_model.proofs.mem_disk.MemDiskDisk.sync.Goals as goal

pub returns-clause-settled : goal.returns-clause-settled
returns-clause-settled c =
    let past = c.args.self.now.past in
    let h : Past → _ = λ p. after (held p) synced in
    sync_settled past c.sync.new.self (grows_at c.self.inside.medium past c.sync.new.self h (ap (λ (v : MemView). v.past) c.self.view_is) c.sync.ensures.grows)

pub returns-clause-images : goal.returns-clause-images
returns-clause-images c =
    let past = c.args.self.now.past in
    let h : Past → _ = λ p. after (held p) synced in
    sync_images past c.sync.new.self (grows_at c.self.inside.medium past c.sync.new.self h (ap (λ (v : MemView). v.past) c.self.view_is) c.sync.ensures.grows)
