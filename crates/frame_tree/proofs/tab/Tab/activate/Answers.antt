-- A tab after an activation is sound, and at its site.
use Rattle.std.proofs.Common.{rules, ◌≡◌, ◌∙◌, ℕ, Bool, false, true, List, map, reverse, get_or, refl, ap}
use Rattle.std.specs.Prelude.{Some}
use Rattle.origin_site.specs.Plain.{plain_site}
use Rattle.frame_tree.specs.Calls.{activated, is_activated, origin_of, with_mark}
use Rattle.frame_tree.specs.Kept.{kept_frame}
use Rattle.frame_tree.specs.Plain.{plain_frame}
use Rattle.frame_tree.specs.Sets.{found}
use Rattle.frame_tree.specs.Tree.{PlainFrame, has_frame, top_site}
use Rattle.frame_tree.specs.declared.frames.Frame.{Frame}
use Rattle.frame_tree.proofs.ApartLemmas.{activated-as}
use Rattle.frame_tree.proofs.KeptLemmas.{KeepsOrigin, kept_where}
use Rattle.frame_tree.proofs.SoundLemmas.{plain-marked, sound-marked, top-kept}
use Rattle.frame_tree.proofs.tab.Tab.activate.Goals as goal

pub invariant_of-self : goal.invariant_of-self
invariant_of-self c =
    let same : KeepsOrigin (with_mark (Some c.args.now)) = record { site = λ d. refl; origin = λ d. refl } in
    let counts : ℕ → Bool = λ n. get_or c.activated_with-reached.result n false in
    let marked : map kept_frame c.mark.new.frames.items ≡ map (kept_where counts (with_mark (Some c.args.now))) (map kept_frame c.self.inside.frames.items) = search rules in
    sound-marked counts (with_mark (Some c.args.now)) same c.self.inside.frames.items
    c.mark.new.frames.items marked (plain_site c.self.inside.top) c.self.invariant

pub returns : goal.returns
returns c =
    let there : has_frame c.args.frame c.args.self.now ≡ true = search rules in
    let same : KeepsOrigin (with_mark (Some c.args.now)) = record { site = λ d. refl; origin = λ d. refl } in
    let counts : ℕ → Bool = λ n. get_or c.activated_with-reached.result n false in
    let marked : map kept_frame c.mark.new.frames.items ≡ map (kept_where counts (with_mark (Some c.args.now))) (map kept_frame c.self.inside.frames.items) = search rules in
    let fs : List PlainFrame = map plain_frame c.self.inside.frames.items in
    let so : (n : ℕ) → get_or c.activated_with-reached.result n false ≡ found (is_activated c.args.frame (origin_of c.args.frame fs) fs) n (reverse fs) =
    λ n. c.activated_with-reached.ensures.set n
    ∙ ap (λ (xs : List Frame). let gs : List PlainFrame = map plain_frame xs in found (is_activated c.args.frame (origin_of c.args.frame gs) gs) n (reverse gs)) c.as_slice-2.ensures.value in
    record {
      activated = (
        there,
        activated-as c.args.frame (with_mark (Some c.args.now)) c.activated_with-reached.result fs (map plain_frame c.mark.new.frames.items)
            c.self.invariant.tree so
            (plain-marked counts (with_mark (Some c.args.now)) same c.self.inside.frames.items c.mark.new.frames.items marked)
            ∙ ap (activated c.args.frame c.args.now) c.self.view_is,
      );
      site =
          top-kept counts (with_mark (Some c.args.now)) same c.self.inside.frames.items c.mark.new.frames.items marked
          c.self.invariant.tree ∙ ap top_site c.self.view_is;
      tree = (sound-marked counts (with_mark (Some c.args.now)) same c.self.inside.frames.items c.mark.new.frames.items marked
          (plain_site c.self.inside.top) c.self.invariant).tree;
    }
