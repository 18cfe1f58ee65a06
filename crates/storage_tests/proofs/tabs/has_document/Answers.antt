-- A document that is found is there.
use Rattle.std.proofs.Common.{◌≡◌, Option, Some, None, List, ap, sym, ◌∙◌}
use Rattle.std.specs.Prelude.{◌==◌, find, is_some, option_copied, option_map}
use Rattle.frame_tree.specs.Plain.{plain_document}
use Rattle.frame_tree.specs.Tree.{PlainFrame, has_frame}
use Rattle.live_state.specs.Queues.{frames_by}
use Rattle.live_state.specs.Tabs.{PlainTab, tab_at}
use Rattle.live_state.proofs.ListLemmas.{is_some-find, is_some-map}
use Rattle.storage_tests.proofs.tabs.has_document.Goals as goal

frames_of : (o : Option PlainTab) (frames : List PlainFrame) → Some frames ≡ option_map (λ t. t.frames) o → frames ≡ frames_by o
frames_of None frames is = absurd (cc is)
frames_of (Some t) frames is = cc is

pub returns-in-Some : goal.returns-in-Some
returns-in-Some c = λ there.
    let tab : List PlainFrame = c.in-Some.tab.now in
    ap (has_frame c.args.at.frame) (sym (frames_of (tab_at c.args.at.tab c.args.live.now.tabs) tab c.in-Some.ensures.tab))
    ∙ sym (is_some-find (λ f. f.frame == c.args.at.frame) tab)
    ∙ sym (is_some-map (λ f. f.document) (find (λ f. f.frame == c.args.at.frame) tab))
    ∙ sym (ap is_some c.document.ensures.document)
    ∙ is_some-map plain_document (option_copied c.document.result)
    ∙ is_some-map (λ d. d.now) c.document.result
    ∙ sym c.is_some.ensures
    ∙ there
