-- The frame below a parent keeps the bit and the key of its chain.
use Rattle.std.proofs.Common.{◌≡◌, List, map, refl, ap, subst, sym, ◌∙◌, ◌++◌, ◌∷◌, []}
use Rattle.std.specs.Prelude.{◌==◌, Some, find}
use Rattle.origin_site.specs.Plain.{plain_site}
use Rattle.frame_tree.specs.Kept.{KeepsChain, KeptDocument, kept_document, kept_frame}
use Rattle.frame_tree.specs.Plain.{plain_document, plain_frame}
use Rattle.frame_tree.specs.Tree.{PlainFrame, has_frame}
use Rattle.frame_tree.specs.declared.frames.Frame.{Frame}
use Rattle.frame_tree.proofs.KeyLemmas.{bit-found, found-in, kept-below, there-found, under-own}
use Rattle.frame_tree.proofs.tab.Tab.below.Goals as goal

pub returns-clause-parent : goal.returns-clause-parent
returns-clause-parent c =
    ap (has_frame c.args.parent) (sym c.self.view_is)
    ∙ there-found c.args.parent c.self.inside.frames.items c.in-Some.above.now
    (found-in c.args.parent c.self.inside.frames.items c.as_slice.result.now (Some c.in-Some.above.now) c.in-Some.ensures.found c.as_slice.ensures.value)

pub returns-clause-kept : goal.returns-clause-kept
returns-clause-kept c =
    let made = c.in_ok-below.field-0 in
    let fresh : Frame = record { frame = c.args.frame; parent = c.args.parent; loaded = made } in
    let items : List Frame = c.self.inside.frames.items in
    let found : Some c.in-Some.above.now ≡ find (λ f. f.frame == c.args.parent) items =
    found-in c.args.parent items c.as_slice.result.now (Some c.in-Some.above.now) c.in-Some.ensures.found c.as_slice.ensures.value in
    let site = plain_site c.self.inside.top in
    let above = c.in-Some.above.now.loaded.bit in
    let own = under-own site above (kept_document made) (plain_document c.in_ok-document.document) c.in_ok-below.ensures.made in
    subst (λ (fs : List PlainFrame). KeepsChain (fs ++ plain_frame fresh ∷ []) (kept_frame fresh)) c.self.view_is
    (kept-below site above (plain_frame fresh) (kept_frame fresh) (map plain_frame items) c.self.invariant.tree c.self.invariant.top
    (there-found c.args.parent items c.in-Some.above.now found) (bit-found c.args.parent items c.in-Some.above.now found c.self.invariant.keys)
    refl (ap (λ (d : KeptDocument). d.bit) own) (ap (λ (d : KeptDocument). d.key) own))
