-- The document in the place of another keeps the bit and the key of its chain.
use Rattle.std.proofs.Common.{◌≡◌, List, map, ap, subst, sym, ◌∙◌}
use Rattle.std.specs.Prelude.{◌==◌, Ok, Some, true, find, option_map, unwrap_or}
use Rattle.origin_site.specs.Plain.{plain_address, plain_site}
use Rattle.frame_tree.specs.Calls.{navigated_from, with_document, without_below}
use Rattle.frame_tree.specs.Document.{PlainDocument}
use Rattle.frame_tree.specs.Kept.{KeepsChainAt, KeptDocument, kept_document}
use Rattle.frame_tree.specs.Plain.{plain_document, plain_frame}
use Rattle.frame_tree.specs.Tree.{PlainFrame, document_of, has_frame}
use Rattle.frame_tree.specs.declared.frames.Frame.{Frame}
use Rattle.frame_tree.proofs.KeyLemmas.{found-in, kept-instead, there-found, under-own}
use Rattle.frame_tree.proofs.tab.Tab.loaded_instead.Goals as goal

pub returns-clause-answer : goal.returns-clause-answer
returns-clause-answer c =
    let items : List Frame = c.self.inside.frames.items in
    let before = plain_document c.in-Some.before.now.loaded.document in
    let document : Some before ≡ document_of c.args.frame c.args.self.now =
    c.in-Some.ensures.document
    ∙ ap (λ (xs : List Frame). document_of c.args.frame (map plain_frame xs)) c.as_slice.ensures.value
    ∙ ap (document_of c.args.frame) c.self.view_is in
    ap (λ o. navigated_from o c.args.list.now.rules c.args.frame (plain_address c.args.address) c.args.keep_flag c.args.self.now) (sym document)
    ∙ ap (λ (d : PlainDocument). Ok (with_document c.args.frame (λ _. d) (without_below c.args.frame c.args.self.now)))
    (sym (ap (λ (k : KeptDocument). k.plain) c.in_ok-below.ensures.made ∙ c.in_ok-document.ensures))

pub returns-clause-there : goal.returns-clause-there
returns-clause-there c =
    ap (has_frame c.args.frame) (sym c.self.view_is)
    ∙ there-found c.args.frame c.self.inside.frames.items c.in-Some.before.now
    (found-in c.args.frame c.self.inside.frames.items c.as_slice.result.now (Some c.in-Some.before.now) c.in-Some.ensures.found c.as_slice.ensures.value)

pub returns-clause-kept : goal.returns-clause-kept
returns-clause-kept c =
    let made = c.in_ok-below.field-0 in
    let items : List Frame = c.self.inside.frames.items in
    let before : Frame = c.in-Some.before.now in
    let site = plain_site c.self.inside.top in
    let above = c.bit_of-above.result in
    subst (λ (fs : List PlainFrame). KeepsChainAt c.args.frame fs (kept_document made)) c.self.view_is
    (kept-instead site c.args.frame items before above (kept_document made) c.requires
    (found-in c.args.frame items c.as_slice.result.now (Some before) c.in-Some.ensures.found c.as_slice.ensures.value)
    c.self.invariant.tree c.self.invariant.top c.self.invariant.keys
    (c.bit_of-above.ensures.bit
    ∙ ap (λ (xs : List Frame). unwrap_or (option_map (λ g. g.loaded.bit) (find (λ g. g.frame == before.parent) xs)) true) c.as_slice-2.ensures.value)
    (under-own site above (kept_document made) (plain_document c.in_ok-document.document) c.in_ok-below.ensures.made))
