-- Each fact is that of the document, which is there.
use Rattle.std.proofs.Common.{rules, w64, ◌≡◌, Bool, true, false, not, Option, Some, None, refl, sym, ap, ◌∙◌}
use Rattle.std.specs.Prelude.{is_some, option_map}
use mir.Val.{of_z, to_z}
use Rattle.origin_site.specs.Plain.{plain_origin}
use Rattle.frame_tree.specs.Calls.{is_active_document}
use Rattle.frame_tree.specs.Keys.{is_first_at}
use Rattle.frame_tree.specs.Plain.{plain_document}
use Rattle.frame_tree.specs.Tree.{has_frame}
use Rattle.agent_model.specs.StorageAccess.{embedded_site}
use Rattle.frame_tree.proofs.AboveLemmas.{first_is}
use Rattle.frame_tree.proofs.ShapeLemmas.{document_there}
use Rattle.agent_memory.proofs.holdings.access.facts_of.Goals as goal

-- what a test says of what may not be there, it says of its plain value
none_is : {A B : Type 0} (f : A → B) (x : Option A) (none : Bool) → is_some x ≡ not none → none ≡ not (is_some (option_map f x))
none_is f None true is = refl
none_is f None false is = absurd (cc is)
none_is f (Some a) true is = absurd (cc is)
none_is f (Some a) false is = refl

pub returns : goal.returns
returns c =
    let frame = c.args.frame in
    let frames = c.args.tab.now in
    let document = plain_document c.args.document.now in
    let there : has_frame frame frames ≡ true = sym (document_there frame frames) ∙ ap is_some c.requires.document in
    let opaque = none_is plain_origin c.args.document.now.origin c.is_none.result c.is_none.ensures in
    let back : to_z w64 (of_z w64 c.signed.result) ≡ c.signed.result = search rules in
    let active = c.is_active.ensures.active ∙ (λ i. is_active_document ((back ∙ c.signed.ensures.number) i) (c.requires.document i)) in
    record {
      facts = λ given own. λ i. record {
        opaque = opaque i;
        secure = c.https_chain.ensures.https i;
        deny = document.deny;
        sandbox_allows = document.sandbox.storage_access;
        first = (c.first_party.ensures.first ∙ ap (is_first_at frame frames) own
            ∙ first_is frame frames (embedded_site given document) there) i;
        flag = document.flag;
        active = active i;
      };
    }
