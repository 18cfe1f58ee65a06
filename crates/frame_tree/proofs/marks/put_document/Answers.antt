-- The write at the place of a frame is one at its number.
use Rattle.std.proofs.Common.{rules, ◌≡◌, ◌<◌, List, length, get_or, ap, subst}
use Rattle.std.specs.Prelude.{Some, option_map, slice_get}
use Rattle.frame_tree.specs.Kept.{kept_document, kept_frame, kept_instead}
use Rattle.frame_tree.specs.declared.frames.Frame.{Frame}
use Rattle.frame_tree.proofs.ApartLemmas.{put-frame}
use Rattle.frame_tree.proofs.marks.put_document.Goals as goal

pub returns-in-Some : goal.returns-in-Some
returns-in-Some c =
    let items : List Frame = c.args.frames.now.items in
    let value : c.index_mut.result.now ≡ get_or items c.in-Some.place c.index_mut.result.now = search rules in
    let low : c.in-Some.place < length items =
    subst (λ (xs : List Frame). c.in-Some.place < length xs) c.as_slice.ensures.value c.in-Some.ensures.place.0 in
    let at : option_map (λ f. f.frame) (slice_get items c.in-Some.place) ≡ Some c.args.frame =
    subst (λ (xs : List Frame). option_map (λ f. f.frame) (slice_get xs c.in-Some.place) ≡ Some c.args.frame) c.as_slice.ensures.value c.in-Some.ensures.place.1 in
    record {
      put = put-frame c.args.frame (kept_document c.args.made) items c.in-Some.place _ c.index_mut.result.now
          c.requires.tree low at (ap (λ (r : Frame). kept_instead (kept_document c.args.made) (kept_frame r)) value);
    }
