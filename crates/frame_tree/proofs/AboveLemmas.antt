-- What is first party below a frame that is there, and the sites of the chain of its parent.
use Rattle.std.proofs.Common.{◌≡◌, ℕ, true, cond, ◌&&◌, List, map, take, length, ◌-◌, Option, sym, ap, ◌∙◌}
use Rattle.std.specs.Prelude.{Result, Ok, Err}
use Rattle.std.proofs.lemmas.List.{length-map, take-map}
use Rattle.origin_site.specs.Site.{PlainSite}
use Rattle.origin_site.specs.declared.site.Site.{Site}
use Rattle.storage_key.specs.Context.{is_first_party}
use Rattle.frame_tree.specs.declared.tab.TreeFault.{TreeFault}
use Rattle.frame_tree.specs.declared.tab.TreeFault.TheVariants.{NoFrame}
use Rattle.frame_tree.specs.Calls.{sites_of}
use Rattle.frame_tree.specs.Keys.{is_first_at, sites}
use Rattle.frame_tree.specs.Plain.{plain_chain_site}
use Rattle.frame_tree.specs.Tree.{PlainFrame, chain_of, has_frame}

-- what is at a site is first party below a frame that is there
pub first_is : (frame : ℕ) (frames : List PlainFrame) (target : PlainSite) → has_frame frame frames ≡ true
    → is_first_at frame frames target ≡ is_first_party (sites (chain_of frame frames)) target
first_is frame frames target there = ap (λ b. b && is_first_party (sites (chain_of frame frames)) target) there

-- a chain without its last document, by its sites
pub above_is : (frame : ℕ) (frames : List PlainFrame) (seen : List (Option Site))
    → has_frame frame frames ≡ true → sites_of frame frames ≡ Ok (map plain_chain_site seen)
    → map plain_chain_site (take (length seen - 1) seen)
    ≡ sites (take (length (chain_of frame frames) - 1) (chain_of frame frames))
above_is frame frames seen there is =
    let chain = chain_of frame frames in
    let own : sites chain ≡ map plain_chain_site seen =
    ok_is (sym (ap (λ b. cond b (Ok (sites chain)) (Err NoFrame)) there) ∙ is) in
    last_gone plain_chain_site seen ∙ ap (λ known. take (length known - 1) known) (sym own)
    ∙ sym (last_gone (λ f. f.document.site) chain)
  where
    last_gone : {X Y : Type 0} (f : X → Y) (xs : List X)
        → map f (take (length xs - 1) xs) ≡ take (length (map f xs) - 1) (map f xs)
    last_gone f xs = sym (take-map f (length xs - 1) xs) ∙ ap (λ n. take (n - 1) (map f xs)) (sym (length-map xs f))

    ok_is : {x y : List (Option PlainSite)} → ◌≡◌ {A = Result (List (Option PlainSite)) TreeFault} (Ok x) (Ok y) → x ≡ y
    ok_is same = cc same
