-- A copy of the frames is sound at the same site.
use Rattle.std.proofs.Common.{map, ap, sym, subst, ◌∙◌}
use Rattle.origin_site.specs.Site.{PlainSite}
use Rattle.origin_site.specs.Plain.{plain_site}
use Rattle.std.proofs.Common.{List}
use Rattle.frame_tree.specs.Kept.{kept_frame}
use Rattle.frame_tree.specs.declared.frames.Frame.{Frame}
use Rattle.frame_tree.proofs.KeptLemmas.{plain-same}
use Rattle.frame_tree.proofs.SoundLemmas.{SoundOf, sound-same}
use Rattle.frame_tree.proofs.tab.Tab.copy.Goals as goal

pub invariant_of-result : goal.invariant_of-result
invariant_of-result c =
    subst (λ (site : PlainSite). SoundOf site c.in_ok-copies_of.field-0.items) (sym c.in_ok-copy.ensures.same)
    (sound-same (plain_site c.self.inside.top) c.self.inside.frames.items c.in_ok-copies_of.field-0.items
    (c.in_ok-copies_of.ensures.copies ∙ ap (λ (xs : List Frame). map kept_frame xs) c.as_slice.ensures.value) c.self.invariant)

pub returns : goal.returns
returns c = record {
  same =
      plain-same c.in_ok-copies_of.field-0.items c.self.inside.frames.items
      (c.in_ok-copies_of.ensures.copies ∙ ap (λ (xs : List Frame). map kept_frame xs) c.as_slice.ensures.value)
      ∙ c.self.view_is;
}
