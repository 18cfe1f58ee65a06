-- The frame at the place is the first of its number.
use Rattle.std.proofs.Common.{◌≡◌, ◌∙◌, List, Some, None, length, ap, refl, sym}
use Rattle.std.specs.Prelude.{option_map}
use Rattle.std.proofs.lemmas.Option.{slice_get_past, slice_get_read}
use Rattle.frame_tree.specs.declared.frames.Frame.{Frame}
use Rattle.frame_tree.proofs.PlaceLemmas.{absent-place, found-place}
use Rattle.frame_tree.proofs.frames.frame_at.Goals as goal
use Rattle.frame_tree.proofs.frames.frame_at.Goals.{in_default-via-in-Some+else-f-frame, in_default-via-in_default}

pub returns-in-Some : goal.returns-in-Some
returns-in-Some c =
    let frames : List Frame = c.args.frames.now in
    let there = c.in-Some.ensures.lookup in record {
      found = found-place c.args.frame frames c.args.place c.in-Some.f.now c.requires.tree
          (slice_get_read frames (length frames) c.args.place c.in-Some.f.now refl there.3.0 there.1) c.if-f-frame.true;
    }

pub returns-in_default : goal.returns-in_default
returns-in_default c =
    let frames : List Frame = c.args.frames.now in record {
      found =
          absent-place c.args.frame c.args.place frames c.requires.place
          (λ is. elim c.in_default.branch [
            | in_default-via-in-Some+else-f-frame w ↦
                let there = w.in-Some.ensures.lookup in
                let own : Some w.in-Some.f.now.frame ≡ Some c.args.frame =
                sym (ap (option_map (λ f. f.frame)) (slice_get_read frames (length frames) c.args.place w.in-Some.f.now refl there.3.0 there.1)) ∙ is in
                w.if-f-frame.false (cc own)
            | in_default-via-in_default w ↦
                let none : None ≡ Some c.args.frame =
                sym (ap (option_map (λ f. f.frame)) (slice_get_past frames c.args.place w.in_default.ensures.lookup.3)) ∙ is in
                cc none
          ]);
    }
