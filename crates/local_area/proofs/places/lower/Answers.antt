-- What was not visited is as it was.
use Rattle.std.proofs.Common.{◌<◌, length, arith}
use Rattle.std.specs.Prelude.{slice_index}
use Rattle.local_area.proofs.places.lower.Goals as goal

pub overflow_sub-index_mut : goal.overflow_sub-index_mut
overflow_sub-index_mut c =
    let inside : c.loop-block.block < length c.args.counts.now.items =
    omega (arith, c.loop-block-test.true, c.len-block-end.ensures) in
    let some : 0 < slice_index c.args.counts.now.items c.loop-block.block =
    c.requires c.loop-block.block c.loop-block.auto.block inside in
    grind (arith, some, c.index_mut.ensures.value, c.loop-block.invariant.rest c.loop-block.block (omega arith) inside)
