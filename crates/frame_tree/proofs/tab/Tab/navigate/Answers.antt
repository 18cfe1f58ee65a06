-- A tab after a navigation is sound, and at its site.
use Rattle.std.proofs.Common.{◌≡◌, ℕ, true, not, List, map, get_or, false, sym, ap, subst, ◌∙◌}
use Rattle.std.specs.Prelude.{◌||◌, ◌==◌, Bool, Ok}
use Rattle.origin_site.specs.Plain.{plain_site}
use Rattle.frame_tree.specs.Calls.{with_document, without_below}
use Rattle.frame_tree.specs.Kept.{KeepsChainAt, KeptDocument, kept_document}
use Rattle.frame_tree.specs.Plain.{plain_frame}
use Rattle.frame_tree.specs.Tree.{has_frame, is_on_chain, top_site}
use Rattle.frame_tree.proofs.KeyLemmas.{kept-at-left}
use Rattle.frame_tree.proofs.SoundLemmas.{SoundOf, clear-left, plain-left, plain-put, sound-left, sound-put, there-left, top-left, top-put}
use Rattle.frame_tree.proofs.tab.Tab.navigate.Goals as goal
use Rattle.frame_tree.proofs.tab.Tab.navigate.Goals.{After-drop_frames, After-put_document}

-- the numbers of the frames that stay
abbrev stays : List Bool → ℕ → Bool
stays below n = not (get_or below n false)

-- ---- once the frames below are gone

stays_is : (c : After-drop_frames) (n : ℕ)
    → stays c.frames_below-below.result n ≡ (n == c.args.frame || not (is_on_chain c.args.frame n (map plain_frame c.self.inside.frames.items)))
stays_is c n =
    c.frames_below-below.ensures.set n
    ∙ ap (λ xs. n == c.args.frame || not (is_on_chain c.args.frame n (map plain_frame xs))) c.as_slice.ensures.value

left_is : (c : After-drop_frames) → map plain_frame c.drop_frames.new.frames.items ≡ without_below c.args.frame (map plain_frame c.self.inside.frames.items)
left_is c =
    plain-left true c.args.frame c.requires (stays c.frames_below-below.result) c.self.inside.frames.items c.drop_frames.new.frames.items (stays_is c)
    c.drop_frames.ensures.dropped

sound_left : (c : After-drop_frames) → SoundOf (plain_site c.self.inside.top) c.drop_frames.new.frames.items
sound_left c =
    sound-left true c.args.frame c.requires (stays c.frames_below-below.result) c.self.inside.frames.items c.drop_frames.new.frames.items (stays_is c)
    c.drop_frames.ensures.dropped (plain_site c.self.inside.top) c.self.invariant

pub put_document-requires : goal.put_document-requires
put_document-requires c =
    let at = (goal.at.put_document-requires c).After-drop_frames in
    record {
      tree = (sound_left at).tree;
      there =
          ap (has_frame c.args.frame) (left_is at)
          ∙ there-left c.args.frame (map plain_frame c.self.inside.frames.items) (ap (has_frame c.args.frame) c.self.view_is ∙ c.in_ok-made.ensures.there);
    }

-- ---- once the document is put

sound_put : (c : After-put_document) → SoundOf (plain_site c.self.inside.top) c.put_document.new.frames.items
sound_put c =
    let left : After-drop_frames = c.before.before in
    let made : KeptDocument = kept_document c.in_ok-made.made in
    let own = subst (λ l. KeepsChainAt c.args.frame l made) (sym c.self.view_is) c.in_ok-made.ensures.kept in
    sound-put c.args.frame c.requires made c.drop_frames.new.frames.items c.put_document.new.frames.items c.put_document.ensures.put (plain_site c.self.inside.top)
    (clear-left true c.args.frame c.requires (stays c.frames_below-below.result) c.self.inside.frames.items c.drop_frames.new.frames.items (stays_is left)
    c.drop_frames.ensures.dropped c.self.invariant.tree)
    (subst (λ l. KeepsChainAt c.args.frame l made) (sym (left_is left)) (kept-at-left c.args.frame made (map plain_frame c.self.inside.frames.items) c.self.invariant.tree own))
    (sound_left left)

pub invariant_of-self : goal.invariant_of-self
invariant_of-self c = sound_put (goal.at.invariant_of-self c).After-put_document

pub returns : goal.returns
returns c =
    let put_at = (goal.at.returns c).After-put_document in
    let left_at = (goal.at.returns c).After-drop_frames in
    let items = c.self.inside.frames.items in
    let mid = c.drop_frames.new.frames.items in
    let made : KeptDocument = kept_document c.in_ok-made.made in
    let put : map plain_frame c.put_document.new.frames.items ≡ with_document c.args.frame (λ _. made.plain) (map plain_frame mid) =
    plain-put c.args.frame c.requires made mid c.put_document.new.frames.items c.put_document.ensures.put in
    record {
      answer =
          c.in_ok-made.ensures.answer
          ∙ ap Ok (ap (λ l. with_document c.args.frame (λ _. made.plain) (without_below c.args.frame l)) (sym c.self.view_is)
          ∙ sym (put ∙ ap (with_document c.args.frame (λ _. made.plain)) (left_is left_at)));
      decided = λ why is. absurd (cc (sym c.in_ok-made.ensures.answer ∙ is));
      site =
          top-put c.args.frame c.requires made mid c.put_document.new.frames.items c.put_document.ensures.put (sound_left left_at).tree
          ∙ top-left true c.args.frame c.requires (stays c.frames_below-below.result) items mid (stays_is left_at) c.drop_frames.ensures.dropped c.self.invariant.tree
          ∙ ap top_site c.self.view_is;
      tree = (sound_put put_at).tree;
      unchanged = tt;
    }
