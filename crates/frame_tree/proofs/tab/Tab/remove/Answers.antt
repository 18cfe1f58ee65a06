-- A tab without a frame and those below it is sound, and at its site.
use Rattle.std.proofs.Common.{rules, ◌≡◌, ℕ, Bool, true, false, not, List, map, get_or, ap, ◌∙◌}
use Rattle.origin_site.specs.Plain.{plain_site}
use Rattle.frame_tree.specs.Calls.{without}
use Rattle.frame_tree.specs.Plain.{plain_frame}
use Rattle.frame_tree.specs.Tree.{has_frame, is_on_chain, top_site}
use Rattle.frame_tree.specs.declared.frames.Frame.{Frame}
use Rattle.frame_tree.proofs.SoundLemmas.{plain-left, sound-left, top-left}
use Rattle.frame_tree.proofs.tab.Tab.remove.Goals as goal

pub invariant_of-self : goal.invariant_of-self
invariant_of-self c =
    sound-left false c.args.frame c.requires (λ n. not (get_or c.frames_from-gone.result n false)) c.self.inside.frames.items
    c.drop_frames.new.frames.items
    (λ n. ap not (c.frames_from-gone.ensures.set n ∙ ap (λ (xs : List Frame). is_on_chain c.args.frame n (map plain_frame xs)) c.as_slice-2.ensures.value))
    c.drop_frames.ensures.dropped (plain_site c.self.inside.top) c.self.invariant

pub returns : goal.returns
returns c =
    let there : has_frame c.args.frame c.args.self.now ≡ true = search rules in
    let stays : ℕ → Bool = λ n. not (get_or c.frames_from-gone.result n false) in
    let so : (n : ℕ) → stays n ≡ not (is_on_chain c.args.frame n (map plain_frame c.self.inside.frames.items)) = λ n. ap not (c.frames_from-gone.ensures.set n ∙ ap (λ (xs : List Frame). is_on_chain c.args.frame n (map plain_frame xs)) c.as_slice-2.ensures.value) in
    record {
      removed = (
        there,
        plain-left false c.args.frame c.requires stays c.self.inside.frames.items c.drop_frames.new.frames.items so c.drop_frames.ensures.dropped
            ∙ ap (without c.args.frame) c.self.view_is,
      );
      site =
          top-left false c.args.frame c.requires stays c.self.inside.frames.items c.drop_frames.new.frames.items so c.drop_frames.ensures.dropped
          c.self.invariant.tree ∙ ap top_site c.self.view_is;
      tree = (sound-left false c.args.frame c.requires stays c.self.inside.frames.items c.drop_frames.new.frames.items so c.drop_frames.ensures.dropped
          (plain_site c.self.inside.top) c.self.invariant).tree;
    }
