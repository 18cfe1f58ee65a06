-- The snapshot stands alone, under the list.
use Rattle.std.proofs.Common.{◌∙◌, ap}
use Rattle.std.specs.Prelude.{Ok}
use Rattle.journal.specs.Journal.{JournalView}
use Rattle.open_store.proofs.StoreLemmas.{checkpoint_done}
use Rattle.durable_model.specs.Saved.{nothing_saved}
use Rattle.row_store.specs.Bodies.{Takes}
use Rattle.row_store.specs.Stored.{saved_of}
use Rattle.row_opening.proofs.Openings.{is_opened, snapshot_takes}
use Rattle.row_opening.proofs.Rewrites.{reserved_at, reserved_leaves, rewritten_leaves, still_leaves}
use Rattle.row_opening.proofs.opening.rewrite.Goals as goal

pub returns-in_default-clause-any_moment : goal.returns-in_default-clause-any_moment
returns-in_default-clause-any_moment g c = λ base at tells.
    still_leaves Takes nothing_saved c.args.journal (g.D.Disk.view c.args.disk.now) base
    (saved_of c.args.rows.parts) c.args.list.now.digest at (g.met.D.Disk.lawful c.args.disk.now)

pub returns-in_default-reserve-clause-any_moment : goal.returns-in_default-reserve-clause-any_moment
returns-in_default-reserve-clause-any_moment g c = λ base at tells.
    let e = c.reserve.ensures in
    reserved_leaves Takes nothing_saved c.args.journal (g.D.Disk.view c.args.disk.now) base
    (saved_of c.args.rows.parts) c.args.list.now.digest at c.reserve.new.self
    (g.D.Disk.view c.reserve.new.disk) e.stays e.same (e.at_rest at.rests) e.stands
    (g.met.D.Disk.lawful c.args.disk.now)

pub returns-in_default-checkpoint-clause-any_moment : goal.returns-in_default-checkpoint-clause-any_moment
returns-in_default-checkpoint-clause-any_moment g c = λ base at tells.
    let e = c.reserve.ensures in
    let parts = c.into_parts_under-parts.ensures in
    let laws = c.bodies_mean_states.ensures in
    let saved = saved_of c.args.rows.parts in
    let taken = snapshot_takes laws.snapshots laws.listed saved c.deref.result.now parts.storable parts.spelled (c.deref.ensures.value ∙ c.in-Ok.ensures.bytes) in
    rewritten_leaves Takes nothing_saved c.args.journal (g.D.Disk.view c.args.disk.now) base
    saved c.args.list.now.digest at c.reserve.new.self
    (g.D.Disk.view c.reserve.new.disk) e.stays e.same (e.at_rest at.rests) e.stands
    c.checkpoint.new.self (g.D.Disk.view c.checkpoint.new.disk) c.digest.result c.deref.result.now 0
    (g.met.D.Disk.lawful c.args.disk.now) (g.met.D.Disk.lawful c.reserve.new.disk) tells
    c.digest.ensures.value taken c.checkpoint.ensures.any_moment

pub returns-clause-any_moment : goal.returns-clause-any_moment
returns-clause-any_moment g c = λ base at tells.
    let e = c.reserve.ensures in
    let parts = c.into_parts_under-parts.ensures in
    let laws = c.bodies_mean_states.ensures in
    let saved = saved_of c.args.rows.parts in
    let taken = snapshot_takes laws.snapshots laws.listed saved c.deref.result.now parts.storable parts.spelled (c.deref.ensures.value ∙ c.in-Ok.ensures.bytes) in
    rewritten_leaves Takes nothing_saved c.args.journal (g.D.Disk.view c.args.disk.now) base
    saved c.args.list.now.digest at c.reserve.new.self
    (g.D.Disk.view c.reserve.new.disk) e.stays e.same (e.at_rest at.rests) e.stands
    c.checkpoint.new.self (g.D.Disk.view c.checkpoint.new.disk) c.digest.result c.deref.result.now 0
    (g.met.D.Disk.lawful c.args.disk.now) (g.met.D.Disk.lawful c.reserve.new.disk) tells
    c.digest.ensures.value taken c.checkpoint.ensures.any_moment

pub returns-clause-opened : goal.returns-clause-opened
returns-clause-opened g c =
    let V = g.D.Disk.view in
    let e = c.reserve.ensures in
    let done = c.in-Ok-checkpoint.ensures in
    let parts = c.into_parts_under-parts.ensures in
    let laws = c.bodies_mean_states.ensures in
    let saved = saved_of c.args.rows.parts in
    let base = c.requires.stands.0 in
    let at = c.requires.stands.1 in
    let taken = snapshot_takes laws.snapshots laws.listed saved c.deref.result.now parts.storable parts.spelled (c.deref.ensures.value ∙ c.in-Ok.ensures.bytes) in
    let reserved = reserved_at Takes nothing_saved c.args.journal (V c.args.disk.now) base saved c.args.list.now.digest at c.reserve.new.self (V c.reserve.new.disk) e.stays e.same (e.at_rest at.rests) e.stands in
    let now = checkpoint_done Takes nothing_saved c.reserve.new.self c.checkpoint.new.self (V c.reserve.new.disk) (V c.checkpoint.new.disk) c.digest.result c.deref.result.now {E = Unit {0}} (Ok c.in-Ok-checkpoint.field-0)
    (g.met.D.Disk.lawful c.reserve.new.disk) (g.met.D.Disk.lawful c.checkpoint.new.disk) done.device.faults.tells done.at_rest done.shut (ap (λ (i : JournalView). i.changes) done.done) done.acknowledged base saved 0 reserved taken in
    is_opened c.args.list.now c.checkpoint.new.self (V c.checkpoint.new.disk) c.into_parts_under-parts.result c.args.rows.parts parts.parts now
    (ap (λ (i : JournalView). i.digest) done.done ∙ c.digest.ensures.value) c.requires.under parts.valid parts.read_under parts.storable parts.spelled_under parts.sessions
