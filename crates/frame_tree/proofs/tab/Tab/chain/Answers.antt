use Rattle.std.proofs.Common.{rules, ◌≡◌, true, List, map, reverse, ◌∙◌, ap, subst, sym}
use Rattle.frame_tree.specs.Calls.{begins_with_site}
use Rattle.frame_tree.specs.Plain.{plain_frame}
use Rattle.frame_tree.specs.Tree.{IsChain, PlainFrame, chain_back, chain_of, has_frame, top_site}
use Rattle.frame_tree.specs.declared.frames.Frame.{Frame}
use Rattle.frame_tree.proofs.LawLemmas.{chain-law}
use Rattle.frame_tree.proofs.ShapeLemmas.{chain-begins, has-reversed}
use Rattle.frame_tree.proofs.TopLemmas.{top-of-chain}
use Rattle.frame_tree.proofs.tab.Tab.chain.Goals as goal

pub returns-clause-law : goal.returns-clause-law
returns-clause-law c =
    let fs : List PlainFrame = map plain_frame c.self.inside.frames.items in
    let there : has_frame c.args.frame fs ≡ true = search rules in
    subst (λ (l : List PlainFrame). IsChain c.args.frame l (chain_of c.args.frame l)) c.self.view_is
    (chain-law c.args.frame fs c.self.invariant.tree there)

pub returns-clause-top : goal.returns-clause-top
returns-clause-top c =
    let fs = map plain_frame c.self.inside.frames.items in
    let there : has_frame c.args.frame fs ≡ true = search rules in
    ap begins_with_site c.in_ok-sites_of.ensures.sites
    ∙ ap (λ (xs : List Frame). begins_with_site (map (λ f. f.document.site) (chain_back c.args.frame (reverse (map plain_frame xs))))) c.as_slice-2.ensures.value
    ∙ chain-begins c.args.frame (reverse fs) c.self.invariant.tree (has-reversed c.args.frame fs ∙ there)

pub returns-clause-site : goal.returns-clause-site
returns-clause-site c =
    let fs : List PlainFrame = map plain_frame c.self.inside.frames.items in
    let there : has_frame c.args.frame fs ≡ true = search rules in
    ap (λ (l : List PlainFrame). top_site (chain_of c.args.frame l)) (sym c.self.view_is)
    ∙ top-of-chain c.args.frame fs c.self.invariant.tree there ∙ ap top_site c.self.view_is
