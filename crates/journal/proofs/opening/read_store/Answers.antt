use Rattle.std.proofs.Common.{◌≡◌, ◌+◌, ◌≤◌, ◌<◌, true, List, ℕ, length, Err, inr, arith, sym, subst, rules}
use Rattle.disk_model.specs.Disk.{Holds}
use Rattle.journal.specs.Opening.{IsStoreFault}
use Rattle.journal.specs.declared.region.RegionFault.TheVariants.{NotAStore}
use Rattle.journal.proofs.Runs.{runs_last}
use Rattle.journal.proofs.Whole.{bytes_at, bytes_long, bytes_hold}
use Rattle.journal.proofs.Opened.{reads_as}
use Rattle.journal.proofs.opening.read_store.Goals as goal

-- the digest in a head
kept_in : (file : List ℕ) (begin : ℕ) → 128 ≤ begin → begin < length file → (kept : List ℕ) × (length kept ≡ 32) × Holds file 12 kept
kept_in file begin from below =
    let there : 12 + 32 ≤ length file = omega (arith, from, below) in
    (bytes_at file 12 32, bytes_long file 12 32 there, bytes_hold file 12 32 there)

pub returns-in-Err-NotAStore-clause-refused : goal.returns-in-Err-NotAStore-clause-refused
returns-in-Err-NotAStore-clause-refused g c =
    let R = g.R.Replay in
    let by = R.rules c.args.into.now in
    let h = c.in-Live.ensures in
    let k = kept_in c.args.bytes.now c.in-Live.begin h.1 h.2 in
    let e : c.read_region.result ≡ Err (NotAStore c.in-Err-NotAStore.offset) = search rules in
    let fault : IsStoreFault (R.takes by) (R.refuses by) R.empty c.args.bytes.now c.in-Err-NotAStore.offset =
    inr (k.0, c.in-Live.live, c.in-Live.number, c.in-Live.begin, h.0 k.0 k.1 k.2, h.1, h.2, omega arith, c.read_region.ensures.bad c.in-Err-NotAStore.offset e) in
    let T = λ (o : ℕ). IsStoreFault (R.takes by) (R.refuses by) R.empty c.args.bytes.now o in
    subst T (sym c.in-Err-NotAStore.offset-is) fault

pub returns-clause-frames : goal.returns-clause-frames
returns-clause-frames g c =
    let R = g.R.Replay in
    let takes = R.takes (R.rules c.args.into.now) in
    let h = c.in-Live.ensures in
    let k = kept_in c.args.bytes.now c.in-Live.begin h.1 h.2 in
    let r = c.in-Ok.ensures.frames in
    let under = c.region_digest.ensures.digest k.0 r.0 k.1 k.2 r.1 r.2 in
    let last = runs_last takes true R.empty (R.state c.read_region.new.into) 0 c.in-Ok.region.last r.0 r.3 in
    reads_as takes R.empty (R.state c.read_region.new.into) _ c.args.bytes.now r.0 k.0 (h.0 k.0 k.1 k.2) h.1 (omega arith) r.1 r.2 under r.4 last r.5 r.3
