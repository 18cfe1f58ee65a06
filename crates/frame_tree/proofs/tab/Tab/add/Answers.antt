-- A frame more leaves a tab sound, and at its site.
use Rattle.std.proofs.Common.{rules, ◌≡◌, List, [], ◌∷◌, ◌++◌, map, sym, ap, subst, ◌∙◌}
use Rattle.std.proofs.lemmas.List.{map-append}
use Rattle.origin_site.specs.Plain.{plain_site}
use Rattle.frame_tree.specs.Kept.{KeepsChain, kept_frame}
use Rattle.frame_tree.specs.Plain.{plain_frame}
use Rattle.frame_tree.specs.Tree.{PlainFrame, has_frame, top_site}
use Rattle.frame_tree.specs.declared.frames.Frame.{Frame}
use Rattle.frame_tree.proofs.SoundLemmas.{sound-added}
use Rattle.frame_tree.proofs.TopLemmas.{top-added}
use Rattle.frame_tree.proofs.tab.Tab.add.Goals as goal

pub invariant_of-self-2 : goal.invariant_of-self-2
invariant_of-self-2 c =
    let fresh = c.in_ok-fresh.fresh in
    let items = c.self.inside.frames.items in
    let more : c.push.new.self.items ≡ items ++ fresh ∷ [] = search rules in
    sound-added (plain_site c.self.inside.top) fresh items c.push.new.self.items more
    (ap (has_frame fresh.frame) c.self.view_is ∙ c.in_ok-fresh.ensures.fresh)
    (ap (has_frame fresh.parent) c.self.view_is ∙ c.in_ok-fresh.ensures.parent)
    (subst (λ (fs : List PlainFrame). KeepsChain (fs ++ plain_frame fresh ∷ []) (kept_frame fresh)) (sym c.self.view_is) c.in_ok-fresh.ensures.kept)
    c.self.invariant

pub returns-clause-site : goal.returns-clause-site
returns-clause-site c =
    let fresh = c.in_ok-fresh.fresh in
    let items = c.self.inside.frames.items in
    let more : c.push.new.self.items ≡ items ++ fresh ∷ [] = search rules in
    ap (λ (xs : List Frame). top_site (map plain_frame xs)) more
    ∙ ap top_site (map-append plain_frame items (fresh ∷ []))
    ∙ top-added (map plain_frame items) (plain_frame fresh) c.self.invariant.tree ∙ ap top_site c.self.view_is

pub returns-clause-tree : goal.returns-clause-tree
returns-clause-tree c =
    let fresh = c.in_ok-fresh.fresh in
    let items = c.self.inside.frames.items in
    let more : c.push.new.self.items ≡ items ++ fresh ∷ [] = search rules in
    (sound-added (plain_site c.self.inside.top) fresh items c.push.new.self.items more
    (ap (has_frame fresh.frame) c.self.view_is ∙ c.in_ok-fresh.ensures.fresh)
    (ap (has_frame fresh.parent) c.self.view_is ∙ c.in_ok-fresh.ensures.parent)
    (subst (λ (fs : List PlainFrame). KeepsChain (fs ++ plain_frame fresh ∷ []) (kept_frame fresh)) (sym c.self.view_is) c.in_ok-fresh.ensures.kept)
    c.self.invariant).tree
