-- The document of one frame more is listed, if it has a key.
use Rattle.std.proofs.Common.{◌≡◌, ◌≤◌, ◌+◌, ◌++◌, map, ap, subst, ◌∙◌, arith}
use Rattle.std.specs.Prelude.{option_copied, option_map}
use Rattle.storage_key.specs.Plain.{plain_key}
use Rattle.frame_tree.specs.Tree.{IsLastFrame}
use Rattle.live_state.specs.Documents.{keyed, plain_keyed}
use Rattle.live_state.proofs.DocumentLemmas.{keyed-as, listed-next, upto-last}
use Rattle.live_state.proofs.open_tab.OpenTab.list_documents.Goals as goal

pub loop-frame-preserved : goal.loop-frame-preserved
loop-frame-preserved c =
    let tab = c.args.self.now.plain in
    let seen = c.by_number-frames.ensures.same ∙ ap (λ t. t.plain.frames) c.self.view_is in
    let own = keyed-as tab.number tab.frames c.by_number-frames.result c.loop-frame.frame c.label.result (option_map plain_key (option_copied c.key.result))
    seen c.label.ensures.label c.key.ensures.key in
    listed-next (keyed tab.number tab.frames) c.args.documents.now.items c.loop-frame.documents.items c.list_document.new.documents.items c.loop-frame.frame
    _ own c.loop-frame.invariant c.in_ok-list_document.ensures.listed

pub returns-in_ok-list_document : goal.returns-in_ok-list_document
returns-in_ok-list_document c =
    let tab = c.args.self.now.plain in
    let seen = c.by_number-frames.ensures.same ∙ ap (λ t. t.plain.frames) c.self.view_is in
    let own = keyed-as tab.number tab.frames c.by_number-frames.result c.loop-frame.frame c.label.result (option_map plain_key (option_copied c.key.result))
    seen c.label.ensures.label c.key.ensures.key in
    let last : IsLastFrame c.last_frame-frame-end.result tab.frames = subst (IsLastFrame c.last_frame-frame-end.result) seen c.last_frame-frame-end.ensures.last in
    let end : c.loop-frame.frame + 1 ≡ c.last_frame-frame-end.result + 1 = omega arith in
    let fits : c.loop-frame.frame + 1 ≤ 256 = omega arith in record {
      listed =
          listed-next (keyed tab.number tab.frames) c.args.documents.now.items c.loop-frame.documents.items c.list_document.new.documents.items c.loop-frame.frame
          _ own c.loop-frame.invariant c.in_ok-list_document.ensures.listed
          ∙ ap (λ documents. map plain_keyed c.args.documents.now.items ++ documents)
          (upto-last tab.number tab.frames c.last_frame-frame-end.result last (c.loop-frame.frame + 1) end fits);
    }
