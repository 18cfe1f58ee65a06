-- The kept bit and the tab's site say what is first party.
use Rattle.std.proofs.Common.{List, None, Some, ap, ◌∙◌}
use Rattle.origin_site.specs.Plain.{plain_site}
use Rattle.frame_tree.specs.Keys.{is_first_at}
use Rattle.frame_tree.specs.Tree.{PlainFrame}
use Rattle.frame_tree.proofs.KeyLemmas.{first-absent, first-found, found-in}
use Rattle.frame_tree.proofs.tab.Tab.first_party.Goals as goal

pub returns-in-Some : goal.returns-in-Some
returns-in-Some c = record {
  first =
      c.is_first.ensures.first
      ∙ first-found (plain_site c.self.inside.top) (plain_site c.args.url.now) c.args.frame c.self.inside.frames.items c.in-Some.f.now
      (found-in c.args.frame c.self.inside.frames.items c.as_slice.result.now (Some c.in-Some.f.now) c.in-Some.ensures.found c.as_slice.ensures.value)
      c.self.invariant.tree c.self.invariant.top c.self.invariant.keys
      ∙ ap (λ (fs : List PlainFrame). is_first_at c.args.frame fs (plain_site c.args.url.now)) c.self.view_is;
}

pub returns-in-None : goal.returns-in-None
returns-in-None c = record {
  first =
      first-absent (plain_site c.args.url.now) c.args.frame c.self.inside.frames.items
      (found-in c.args.frame c.self.inside.frames.items c.as_slice.result.now None c.in-None.ensures.found c.as_slice.ensures.value)
      ∙ ap (λ (fs : List PlainFrame). is_first_at c.args.frame fs (plain_site c.args.url.now)) c.self.view_is;
}
