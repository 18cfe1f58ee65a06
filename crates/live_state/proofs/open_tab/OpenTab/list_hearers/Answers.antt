-- The hearers of one frame more.
use Rattle.std.proofs.Common.{◌≡◌, ◌≤◌, ◌+◌, ◌++◌, ap, subst, ◌∙◌, arith}
use Rattle.std.specs.Prelude.{option_copied, option_map}
use Rattle.storage_key.specs.Plain.{plain_key}
use Rattle.frame_tree.specs.Tree.{IsLastFrame}
use Rattle.live_state.specs.Documents.{keyed}
use Rattle.live_state.specs.Hearers.{hearing}
use Rattle.live_state.proofs.DocumentLemmas.{keyed-as, upto-last}
use Rattle.live_state.proofs.HearerLemmas.{hearing-next}
use Rattle.live_state.proofs.open_tab.OpenTab.list_hearers.Goals as goal

pub loop-frame-preserved : goal.loop-frame-preserved
loop-frame-preserved c =
    let tab = c.args.self.now.plain in
    let seen = c.by_number-frames.ensures.same ∙ ap (λ t. t.plain.frames) c.self.view_is in
    let own = keyed-as tab.number tab.frames c.by_number-frames.result c.loop-frame.frame c.label-at.result (option_map plain_key (option_copied c.key.result))
    seen c.label-at.ensures.label c.key.ensures.key in
    hearing-next c.args.kind c.args.writer (plain_key c.args.key.now) (keyed tab.number tab.frames) c.args.to.now.items c.loop-frame.to.items
    c.list_hearer.new.to.items c.loop-frame.frame _ own c.loop-frame.invariant c.in_ok-list_hearer.ensures.listed

pub returns-in_ok-list_hearer : goal.returns-in_ok-list_hearer
returns-in_ok-list_hearer c =
    let tab = c.args.self.now.plain in
    let seen = c.by_number-frames.ensures.same ∙ ap (λ t. t.plain.frames) c.self.view_is in
    let own = keyed-as tab.number tab.frames c.by_number-frames.result c.loop-frame.frame c.label-at.result (option_map plain_key (option_copied c.key.result))
    seen c.label-at.ensures.label c.key.ensures.key in
    let last : IsLastFrame c.last_frame-frame-end.result tab.frames = subst (IsLastFrame c.last_frame-frame-end.result) seen c.last_frame-frame-end.ensures.last in
    let end : c.loop-frame.frame + 1 ≡ c.last_frame-frame-end.result + 1 = omega arith in
    let fits : c.loop-frame.frame + 1 ≤ 256 = omega arith in record {
      listed =
          hearing-next c.args.kind c.args.writer (plain_key c.args.key.now) (keyed tab.number tab.frames) c.args.to.now.items c.loop-frame.to.items
          c.list_hearer.new.to.items c.loop-frame.frame _ own c.loop-frame.invariant c.in_ok-list_hearer.ensures.listed
          ∙ ap (λ documents. c.args.to.now.items ++ hearing c.args.kind c.args.writer (plain_key c.args.key.now) documents)
          (upto-last tab.number tab.frames c.last_frame-frame-end.result last (c.loop-frame.frame + 1) end fits);
    }
