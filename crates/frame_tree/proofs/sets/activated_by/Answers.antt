-- A frame more: it is marked where it is above, or below with the same origin.
use Rattle.std.proofs.Common.{◌≡◌, ◌++◌, ◌∷◌, [], false, map, reverse, take, get_or, sym, ap, ◌∙◌}
use Rattle.std.specs.Prelude.{◌&&◌, ◌||◌, option_copied, option_map}
use Rattle.origin_site.specs.Plain.{plain_origin}
use Rattle.frame_tree.specs.Calls.{is_activated}
use Rattle.frame_tree.specs.Document.{same_document_origin}
use Rattle.frame_tree.specs.Plain.{plain_frame}
use Rattle.frame_tree.specs.Sets.{found}
use Rattle.frame_tree.specs.Tree.{is_on_chain}
use Rattle.frame_tree.proofs.SetLemmas.{frames-more, found-more, set-empty}
use Rattle.frame_tree.proofs.sets.activated_by.Goals as goal

pub loop-f-init : goal.loop-f-init
loop-f-init c = λ n. set-empty n

pub loop-f-preserved : goal.loop-f-preserved
loop-f-preserved c = λ n.
    let e = c.f-item.result in
    let all = map plain_frame c.args.frames.now in
    let fs = map plain_frame (take c.loop-f.f-index c.args.frames.now) in
    let origin = option_map plain_origin (option_copied c.args.origin) in
    let passes = is_activated c.args.frame origin all in
    let is : c.is_activated-is.result ≡ passes (plain_frame e) =
    c.is_activated-is.ensures
    ∙ ap (λ b. b || (get_or c.frames_from-from.result e.frame false && same_document_origin origin (plain_frame e).document.origin)) (c.frames_above-above.ensures.set e.frame)
    ∙ ap (λ b. is_on_chain e.frame c.args.frame all || (b && same_document_origin origin (plain_frame e).document.origin)) (c.frames_from-from.ensures.set e.frame) in
    ap (λ s. get_or s n false) c.put.ensures.put
    ∙ found-more passes fs (plain_frame e) c.loop-f.set c.is_activated-is.result c.put.ensures.low is c.loop-f.invariant n
    ∙ ap (λ l. found passes n (reverse l))
    (ap (λ f. fs ++ plain_frame f ∷ []) c.f-item.is ∙ sym (frames-more c.args.frames.now c.loop-f.f-index e c.loop-f-test.true))
