use Rattle.std.proofs.Common.{◌++◌, ◌∷◌, [], false, map, take, get_or, sym, ap, ◌∙◌}
use Rattle.frame_tree.specs.Plain.{plain_frame}
use Rattle.frame_tree.specs.Tree.{is_on_chain}
use Rattle.frame_tree.proofs.SetLemmas.{frames-more, from-more, set-empty}
use Rattle.frame_tree.proofs.sets.frames_from.Goals as goal

pub loop-f-init : goal.loop-f-init
loop-f-init c = λ n. set-empty n

pub loop-f-preserved : goal.loop-f-preserved
loop-f-preserved c = λ n.
    let e = c.f-item.result in
    let fs = map plain_frame (take c.loop-f.f-index c.args.frames.now) in
    ap (λ s. get_or s n false) c.put.ensures.put
    ∙ from-more c.args.frame fs (plain_frame e) c.loop-f.from c.is_from-is.result c.put.ensures.low c.is_from-is.ensures c.loop-f.invariant n
    ∙ ap (is_on_chain c.args.frame n)
    (ap (λ f. fs ++ plain_frame f ∷ []) c.f-item.is ∙ sym (frames-more c.args.frames.now c.loop-f.f-index e c.loop-f-test.true))
