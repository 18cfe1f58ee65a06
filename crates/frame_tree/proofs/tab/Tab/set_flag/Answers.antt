-- A tab with storage access in a document is sound, and at its site.
use Rattle.std.proofs.Common.{rules, ◌≡◌, ◌∙◌, true, refl, ap}
use Rattle.std.specs.Prelude.{◌==◌}
use Rattle.origin_site.specs.Plain.{plain_site}
use Rattle.frame_tree.specs.Calls.{flagged, with_document}
use Rattle.frame_tree.specs.Tree.{has_frame, top_site}
use Rattle.frame_tree.proofs.KeptLemmas.{KeepsOrigin}
use Rattle.frame_tree.proofs.SoundLemmas.{plain-marked, sound-marked, top-kept}
use Rattle.frame_tree.proofs.tab.Tab.set_flag.Goals as goal

same : KeepsOrigin flagged
same = record { site = λ d. refl; origin = λ d. refl }

pub invariant_of-self : goal.invariant_of-self
invariant_of-self c =
    sound-marked (λ n. n == c.args.frame) flagged same c.self.inside.frames.items c.flag.new.frames.items c.flag.ensures.flagged
    (plain_site c.self.inside.top) c.self.invariant

pub returns : goal.returns
returns c =
    let there : has_frame c.args.frame c.args.self.now ≡ true = search rules in record {
      flagged = (
        there,
        plain-marked (λ n. n == c.args.frame) flagged same c.self.inside.frames.items c.flag.new.frames.items c.flag.ensures.flagged
            ∙ ap (with_document c.args.frame flagged) c.self.view_is,
      );
      site =
          top-kept (λ n. n == c.args.frame) flagged same c.self.inside.frames.items c.flag.new.frames.items c.flag.ensures.flagged
          c.self.invariant.tree ∙ ap top_site c.self.view_is;
      tree = (sound-marked (λ n. n == c.args.frame) flagged same c.self.inside.frames.items c.flag.new.frames.items c.flag.ensures.flagged
          (plain_site c.self.inside.top) c.self.invariant).tree;
    }
