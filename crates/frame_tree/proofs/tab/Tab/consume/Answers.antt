-- A tab without activations is sound, and at its site.
use Rattle.std.proofs.Common.{◌∙◌, true, map, refl, ap}
use Rattle.std.specs.Prelude.{None}
use Rattle.origin_site.specs.Plain.{plain_site}
use Rattle.frame_tree.specs.Calls.{with_mark}
use Rattle.frame_tree.specs.Tree.{top_site, with_next}
use Rattle.frame_tree.proofs.KeptLemmas.{KeepsOrigin}
use Rattle.frame_tree.proofs.SoundLemmas.{plain-marked, sound-marked, top-kept}
use Rattle.frame_tree.proofs.tab.Tab.consume.Goals as goal

same : KeepsOrigin (with_mark None)
same = record { site = λ d. refl; origin = λ d. refl }

pub invariant_of-self : goal.invariant_of-self
invariant_of-self c =
    sound-marked (λ _. true) (with_mark None) same c.self.inside.frames.items c.unmark.new.frames.items c.unmark.ensures.unmarked
    (plain_site c.self.inside.top) c.self.invariant

pub returns : goal.returns
returns c = record {
  consumed =
      plain-marked (λ _. true) (with_mark None) same c.self.inside.frames.items c.unmark.new.frames.items c.unmark.ensures.unmarked
      ∙ ap (map (with_next (with_mark None))) c.self.view_is;
  site =
      top-kept (λ _. true) (with_mark None) same c.self.inside.frames.items c.unmark.new.frames.items c.unmark.ensures.unmarked
      c.self.invariant.tree ∙ ap top_site c.self.view_is;
  tree =
      (sound-marked (λ _. true) (with_mark None) same c.self.inside.frames.items c.unmark.new.frames.items c.unmark.ensures.unmarked
      (plain_site c.self.inside.top) c.self.invariant).tree;
}
