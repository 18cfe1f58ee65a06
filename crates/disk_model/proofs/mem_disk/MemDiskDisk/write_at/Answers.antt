use Rattle.std.proofs.Common.{refl, ap}
use Rattle.disk_model.specs.History.{Past, after, wrote, held}
use Rattle.disk_model.specs.MemDisk.{MemView}
use Rattle.disk_model.proofs.MemView.{elapses, told, told_torn, follows, grows_at}
use Rattle.disk_model.proofs.mem_disk.MemDiskDisk.write_at.Goals as goal

pub returns-then-fails-clause-failed : goal.returns-then-fails-clause-failed
returns-then-fails-clause-failed c =
    let past = c.args.self.now.past in
    let h : Past → _ = λ p. after (held p) (wrote c.args.at c.args.bytes.now) in
    rw c.failure.ensures.counted (told_torn past c.write-made.new.self c.args.at c.args.bytes.now (grows_at c.self.inside.medium past c.write-made.new.self h (ap (λ (v : MemView). v.past) c.self.view_is) c.write-made.ensures.grows))

pub returns-then-fails-clause-images : goal.returns-then-fails-clause-images
returns-then-fails-clause-images c =
    let past = c.args.self.now.past in
    let h : Past → _ = λ p. after (held p) (wrote c.args.at c.args.bytes.now) in
    rw c.failure.ensures.counted (follows past c.write-made.new.self c.args.at c.args.bytes.now (grows_at c.self.inside.medium past c.write-made.new.self h (ap (λ (v : MemView). v.past) c.self.view_is) c.write-made.ensures.grows))

pub returns-then-fails-clause-time : goal.returns-then-fails-clause-time
returns-then-fails-clause-time c =
    let s = c.args.self.now in
    let h : Past → _ = λ p. after (held p) (wrote c.args.at c.args.bytes.now) in
    let grows = grows_at c.self.inside.medium s.past c.write-made.new.self h (ap (λ (v : MemView). v.past) c.self.view_is) c.write-made.ensures.grows in
    elapses s c.failure.new.self (h s.past) (rw c.failure.ensures.counted grows) (rw c.failure.ensures.counted (ap (λ (v : MemView). v.base) c.self.view_is))

pub returns-clause-written : goal.returns-clause-written
returns-clause-written c =
    let past = c.args.self.now.past in
    let h : Past → _ = λ p. after (held p) (wrote c.args.at c.args.bytes.now) in
    told past c.write-made.new.self c.args.at c.args.bytes.now (grows_at c.self.inside.medium past c.write-made.new.self h (ap (λ (v : MemView). v.past) c.self.view_is) c.write-made.ensures.grows) (c.requires.place (held past).contents refl)

pub returns-clause-images : goal.returns-clause-images
returns-clause-images c =
    let past = c.args.self.now.past in
    let h : Past → _ = λ p. after (held p) (wrote c.args.at c.args.bytes.now) in
    follows past c.write-made.new.self c.args.at c.args.bytes.now (grows_at c.self.inside.medium past c.write-made.new.self h (ap (λ (v : MemView). v.past) c.self.view_is) c.write-made.ensures.grows)
