-- Values worked out by hand from the rules of frames and sandboxes.
use Rattle.std.proofs.Common.{◌≡◌, refl, List, [], ◌∷◌, map, ℕ, true, false, Some, None}
use Rattle.std.specs.Prelude.{codes, pos}
use Rattle.std.specs.List.{All, Contains}
use Rattle.origin_site.specs.Address.{PlainAddress}
use Rattle.frame_tree.specs.Sandbox.{sandbox_of, unrestricted}
use Rattle.frame_tree.specs.Document.{PlainDocument, is_active_by, loaded, loaded_below}
use Rattle.frame_tree.specs.Tree.{PlainFrame, IsChain, IsLine, chain_of, is_on_chain, top_site}
use Rattle.frame_tree.specs.Calls.{without, without_below}

only_scripts : sandbox_of (Some (codes "allow-scripts")) ≡ record { same_origin = false; storage_access = false }
only_scripts = refl

in_any_case : sandbox_of (Some (codes "x ALLOW-same-Origin")) ≡ record { same_origin = true; storage_access = false }
in_any_case = refl

no_sandbox : sandbox_of None ≡ unrestricted
no_sandbox = refl

abbrev at : List ℕ → PlainAddress
at host = record { text = host; https = true; ip = false; host = host; port = 443; path = codes "/" }

abbrev top : PlainDocument
top = loaded [] unrestricted false (at (codes "a.test"))

abbrev scripts : PlainDocument
scripts = loaded_below [] top (sandbox_of (Some (codes "allow-scripts"))) false (at (codes "a.test"))

site_of_the_top : top.site ≡ Some (record { https = true; host = codes "a.test" })
site_of_the_top = refl

-- a sandbox without `allow-same-origin` is opaque, and so is what inherits it
sandboxed_is_opaque : scripts.origin ≡ None
sandboxed_is_opaque = refl

inherited_is_opaque : (loaded_below [] scripts unrestricted false (at (codes "a.test"))).site ≡ None
inherited_is_opaque = refl

denied_below : (loaded_below [] (loaded_below [] top unrestricted true (at (codes "b.test"))) unrestricted false (at (codes "c.test"))).deny ≡ true
denied_below = refl

last_moment : is_active_by (pos 104) (Some (pos 100)) ≡ true
last_moment = refl

too_late : is_active_by (pos 105) (Some (pos 100)) ≡ false
too_late = refl

never_activated : is_active_by (pos 0) None ≡ false
never_activated = refl

-- 1 and 3 are below the top, 2 is below 1, and 4 is below 2
abbrev five : List PlainFrame
five =
    record { frame = 0; parent = 0; document = top } ∷ record { frame = 1; parent = 0; document = top }
    ∷ record { frame = 2; parent = 1; document = top } ∷ record { frame = 3; parent = 0; document = top }
    ∷ record { frame = 4; parent = 2; document = top } ∷ []

abbrev numbers : List PlainFrame → List ℕ
numbers frames = map (λ f. f.frame) frames

chain_of_grandchild : numbers (chain_of 4 five) ≡ 0 ∷ 1 ∷ 2 ∷ 4 ∷ []
chain_of_grandchild = refl

chain_of_the_top : numbers (chain_of 0 five) ≡ 0 ∷ []
chain_of_the_top = refl

chain_of_none : numbers (chain_of 7 five) ≡ []
chain_of_none = refl

left_without_one : numbers (without 1 five) ≡ 0 ∷ 3 ∷ []
left_without_one = refl

left_below_one : numbers (without_below 1 five) ≡ 0 ∷ 1 ∷ 3 ∷ []
left_below_one = refl

unrelated : is_on_chain 1 3 five ≡ false
unrelated = refl

-- a tab is at the site of its top document, whatever is below
site_of_a_tab : top_site (record { frame = 0; parent = 0; document = top } ∷ record { frame = 1; parent = 0; document = scripts } ∷ [])
    ≡ Some (record { https = true; host = codes "a.test" })
site_of_a_tab = refl

site_of_no_frames : top_site [] ≡ None
site_of_no_frames = refl

abbrev frame_of : ℕ → ℕ → PlainFrame
frame_of frame parent = record { frame = frame; parent = parent; document = top }

one_is_not_zero : ◌≡◌ {A = ℕ} 1 0 → ⊥
one_is_not_zero is = cc

-- a line goes from a parent to its child
not_a_line : IsLine (frame_of 0 0 ∷ frame_of 2 1 ∷ []) → ⊥
not_a_line is = one_is_not_zero is.0

-- no frame of another tab is on a chain
members_of_the_tab : (frame : ℕ) (frames chain : List PlainFrame) → IsChain frame frames chain
    → All (Contains frames) chain
members_of_the_tab frame frames chain is = is.members
