-- What calls leave of a tab of four frames, and what is read of it, worked out by hand from HTML,
-- "Sandboxing", "Navigables", "Navigation" and "Tracking user activation", from the Storage Standard,
-- "Storage keys", and from our own choices.
use Rattle.std.proofs.Common.{◌≡◌, ◌≤◌, refl, List, [], ◌∷◌, ◌++◌, map, ℕ, true, false, Option, Some, None}
use Rattle.std.specs.Prelude.{codes, pos, ℤ, Ok, Err, option_map}
use Rattle.origin_site.specs.Address.{PlainAddress}
use Rattle.origin_site.specs.Origin.{PlainOrigin}
use Rattle.origin_site.specs.Site.{PlainSite}
use Rattle.origin_site.specs.Plain.{plain_address, plain_origin, plain_site}
use Rattle.origin_site.specs.declared.site.Site.{Site}
use Rattle.frame_tree.specs.declared.document.Document.{Document}
use Rattle.frame_tree.specs.declared.frames.Frame.{Frame}
use Rattle.frame_tree.specs.declared.sandbox.Sandbox.{Sandbox}
use Rattle.frame_tree.specs.declared.tab.TreeFault.{TreeFault}
use Rattle.frame_tree.specs.declared.tab.TreeFault.TheVariants.{NoFrame, FrameExists}
use Rattle.frame_tree.specs.Calls.{IsDoneAt, activated, added, begins_with_site, consumed, flagged, is_active}
use Rattle.frame_tree.specs.Calls.{is_active_document, is_https_chain, navigated, opened, origin_of, sites_of}
use Rattle.frame_tree.specs.Calls.{with_document, with_mark}
use Rattle.frame_tree.specs.Document.{PlainDocument, loaded, loaded_below, loaded_instead, same_document_origin}
use Rattle.frame_tree.specs.Keys.{is_first_at, key_of_document, key_of_frame, sites}
use Rattle.frame_tree.specs.Plain.{plain_chain_site, plain_document, plain_frame, plain_sandbox}
use Rattle.frame_tree.specs.Sandbox.{both, sandbox_of, unrestricted}
use Rattle.frame_tree.specs.Tree.{IsChain, IsLastFrame, IsTree, PlainFrame, chain_of, document_of, first_number}
use Rattle.frame_tree.specs.Tree.{has_frame, last_number, with_next}

abbrev at : List ℕ → PlainAddress
at host = record { text = host; https = true; ip = false; host = host; port = 443; path = codes "/" }

abbrev a_site : PlainSite
a_site = record { https = true; host = codes "a.test" }

abbrev b_site : PlainSite
b_site = record { https = true; host = codes "b.test" }

abbrev origin : List ℕ → PlainOrigin
origin host = record { https = true; ip = false; host = host; port = 443 }

-- documents of `https://a.test`, of `https://b.test` in it, and of `https://a.test` in that
abbrev top : PlainDocument
top = loaded [] unrestricted false (at (codes "a.test"))

abbrev child : PlainDocument
child = loaded_below [] top unrestricted false (at (codes "b.test"))

abbrev inner : PlainDocument
inner = loaded_below [] child unrestricted false (at (codes "a.test"))

abbrev framed : ℕ → ℕ → PlainDocument → PlainFrame
framed frame parent document = record { frame = frame; parent = parent; document = document }

-- and another one of `https://a.test` beside
abbrev tab : List PlainFrame
tab = framed 0 0 top ∷ framed 1 0 child ∷ framed 2 1 inner ∷ framed 3 0 top ∷ []

-- ---- sandboxes

no_sandbox_allows : sandbox_of None ≡ record { same_origin = true; storage_access = true }
no_sandbox_allows = refl

-- tokens are divided by ASCII white space, a tab among it
behind_a_tab : sandbox_of (Some (codes "allow-scripts" ++ 9 ∷ codes "allow-same-origin"))
    ≡ record { same_origin = true; storage_access = false }
behind_a_tab = refl

token_for_access : sandbox_of (Some (codes "allow-storage-access-by-user-activation"))
    ≡ record { same_origin = false; storage_access = true }
token_for_access = refl

part_of_a_token : sandbox_of (Some (codes "allow-same-origins")) ≡ record { same_origin = false; storage_access = false }
part_of_a_token = refl

each_restriction : both (record { same_origin = true; storage_access = false })
    (record { same_origin = false; storage_access = true })
    ≡ record { same_origin = false; storage_access = false }
each_restriction = refl

restriction_of_the_frame : both unrestricted (record { same_origin = true; storage_access = false })
    ≡ record { same_origin = true; storage_access = false }
restriction_of_the_frame = refl

-- ---- documents

-- a sandbox with `allow-same-origin` leaves the origin, and the other token does not
origin_is_allowed : (loaded [] (record { same_origin = true; storage_access = false }) false (at (codes "a.test"))).origin
    ≡ Some (origin (codes "a.test"))
origin_is_allowed = refl

origin_is_opaque : (loaded [] (record { same_origin = false; storage_access = true }) false (at (codes "a.test"))).origin ≡ None
origin_is_opaque = refl

-- a fresh document has no access and no activation, and keeps sandbox and policy
fresh : loaded [] unrestricted true (at (codes "a.test")) ≡ record {
  address = at (codes "a.test");
  origin = Some (origin (codes "a.test"));
  site = Some a_site;
  sandbox = unrestricted;
  deny = true;
  flag = false;
  mark = None;
}
fresh = refl

denied_by_its_frame : (loaded_below [] top unrestricted true (at (codes "b.test"))).deny ≡ true
denied_by_its_frame = refl

allowed_by_both : child.deny ≡ false
allowed_by_both = refl

-- storage access goes with the document, unless the navigation keeps it, and is never given by one
access_is_kept : (loaded_instead [] true (flagged top) (at (codes "a.test"))).flag ≡ true
access_is_kept = refl

access_goes : (loaded_instead [] false (flagged top) (at (codes "a.test"))).flag ≡ false
access_goes = refl

access_is_not_given : (loaded_instead [] true top (at (codes "a.test"))).flag ≡ false
access_is_not_given = refl

policy_stays : (loaded_instead [] true (record top { deny = true }) (at (codes "b.test"))).deny ≡ true
policy_stays = refl

-- an opaque origin stays opaque, since the sandbox is that of the frame
abbrev opaque : PlainDocument
opaque = loaded [] (record { same_origin = false; storage_access = true }) false (at (codes "a.test"))

sandbox_stays : (loaded_instead [] true opaque (at (codes "b.test"))).origin ≡ None
sandbox_stays = refl

-- an opaque origin is the same as no other, itself among them
opaque_origins : same_document_origin None None ≡ false
opaque_origins = refl

one_opaque_origin : same_document_origin (Some (origin (codes "a.test"))) None ≡ false
one_opaque_origin = refl

other_port : same_document_origin (Some (origin (codes "a.test"))) (Some (record (origin (codes "a.test")) { port = 8443 }))
    ≡ false
other_port = refl

same_origins : same_document_origin top.origin inner.origin ≡ true
same_origins = refl

-- ---- the frames of a tab

parent_stays : with_next (λ _. child) (framed 2 1 inner) ≡ framed 2 1 child
parent_stays = refl

frame_is_there : has_frame 3 tab ≡ true
frame_is_there = refl

frame_is_not : has_frame 4 tab ≡ false
frame_is_not = refl

document_of_its_frame : document_of 1 tab ≡ Some child
document_of_its_frame = refl

document_of_none : document_of 4 tab ≡ None
document_of_none = refl

-- the top is frame 0, with a site; each other one has a number of its own, and a parent before it
is_a_tree : IsTree tab
is_a_tree = (refl, refl, (refl, refl, (refl, refl, (refl, refl, refl))))

one_is_not_zero : ◌≡◌ {A = ℕ} 1 0 → ⊥
one_is_not_zero is = cc

false_is_not_true : false ≡ true → ⊥
false_is_not_true is = cc

true_is_not_false : true ≡ false → ⊥
true_is_not_false is = cc

top_of_another_number : IsTree (framed 1 0 top ∷ []) → ⊥
top_of_another_number is = one_is_not_zero is.0

top_without_site : IsTree (framed 0 0 (record top { site = None }) ∷ []) → ⊥
top_without_site is = false_is_not_true is.2

number_twice : IsTree (framed 0 0 top ∷ framed 1 0 child ∷ framed 1 0 child ∷ []) → ⊥
number_twice is = true_is_not_false is.0

parent_that_is_not : IsTree (framed 0 0 top ∷ framed 2 1 child ∷ []) → ⊥
parent_that_is_not is = false_is_not_true is.1

first_of_a_chain : first_number (chain_of 2 tab) ≡ Some 0
first_of_a_chain = refl

number_of_a_frame_alone : first_number (framed 2 1 inner ∷ []) ≡ Some 2
number_of_a_frame_alone = refl

last_of_a_chain : last_number (chain_of 2 tab) ≡ Some 2
last_of_a_chain = refl

chain_begins_at_the_top : (frame : ℕ) (frames chain : List PlainFrame) → IsChain frame frames chain → first_number chain ≡ Some 0
chain_begins_at_the_top frame frames chain is = is.first

chain_ends_at_the_frame : (frame : ℕ) (frames chain : List PlainFrame) → IsChain frame frames chain → last_number chain
    ≡ Some frame
chain_ends_at_the_frame frame frames chain is = is.last

last_is_there : (last : ℕ) (frames : List PlainFrame) → IsLastFrame last frames → has_frame last frames ≡ true
last_is_there last frames is = is.there

last_is_highest : (last : ℕ) (frames : List PlainFrame) → IsLastFrame last frames
    → (frame : ℕ) → has_frame frame frames ≡ true → frame ≤ last
last_is_highest last frames is = is.highest

-- ---- keys

sites_of_a_chain : sites (chain_of 2 tab) ≡ Some a_site ∷ Some b_site ∷ Some a_site ∷ []
sites_of_a_chain = refl

-- `https://a.test` in `https://b.test` in `https://a.test`, and beside
key_below_another : key_of_frame 2 tab ≡ Some (record { top = a_site; origin = origin (codes "a.test"); bit = true })
key_below_another = refl

key_of_another_site : key_of_frame 1 tab ≡ Some (record { top = a_site; origin = origin (codes "b.test"); bit = true })
key_of_another_site = refl

key_beside : key_of_frame 3 tab ≡ Some (record { top = a_site; origin = origin (codes "a.test"); bit = false })
key_beside = refl

key_of_no_frame : key_of_frame 4 tab ≡ None
key_of_no_frame = refl

key_in_the_place : key_of_document 1 tab top ≡ Some (record { top = a_site; origin = origin (codes "a.test"); bit = true })
key_in_the_place = refl

not_first_below_another : is_first_at 2 tab a_site ≡ false
not_first_below_another = refl

first_beside : is_first_at 3 tab a_site ≡ true
first_beside = refl

not_first_elsewhere : is_first_at 3 tab b_site ≡ false
not_first_elsewhere = refl

-- ---- what calls leave

top_alone : opened [] (at (codes "a.test")) ≡ framed 0 0 top ∷ []
top_alone = refl

with_one_more : added [] 1 4 (at (codes "c.test")) unrestricted true tab
    ≡ Ok (tab ++ framed 4 1 (loaded_below [] child unrestricted true (at (codes "c.test"))) ∷ [])
with_one_more = refl

-- with the restrictions of the document above: its origin is opaque, and its policy denies
abbrev sandboxed : PlainDocument
sandboxed = loaded [] (record { same_origin = false; storage_access = true }) true (at (codes "b.test"))

below_a_sandboxed_one : added [] 1 2 (at (codes "c.test")) unrestricted false (framed 0 0 top ∷ framed 1 0 sandboxed ∷ [])
    ≡ Ok (framed 0 0 top ∷ framed 1 0 sandboxed ∷ framed 2 1 (record sandboxed { address = at (codes "c.test") }) ∷ [])
below_a_sandboxed_one = refl

-- a parent that is not there comes before a number that is taken
no_parent : added [] 4 1 (at (codes "c.test")) unrestricted false tab ≡ Err NoFrame
no_parent = refl

number_is_taken : added [] 0 3 (at (codes "c.test")) unrestricted false tab ≡ Err FrameExists
number_is_taken = refl

in_its_place : with_document 1 (λ _. top) tab ≡ framed 0 0 top ∷ framed 1 0 top ∷ framed 2 1 inner ∷ framed 3 0 top ∷ []
in_its_place = refl

-- the frames below go
after_a_navigation : navigated [] 1 (at (codes "c.test")) false tab
    ≡ Ok (framed 0 0 top ∷ framed 1 0 (loaded [] unrestricted false (at (codes "c.test"))) ∷ framed 3 0 top ∷ [])
after_a_navigation = refl

access_after_a_navigation : navigated [] 0 (at (codes "a.test")) true (framed 0 0 (flagged top) ∷ [])
    ≡ Ok (framed 0 0 (flagged top) ∷ [])
access_after_a_navigation = refl

no_access_after_a_navigation : navigated [] 0 (at (codes "a.test")) true (framed 0 0 top ∷ []) ≡ Ok (framed 0 0 top ∷ [])
no_access_after_a_navigation = refl

nothing_to_navigate : navigated [] 4 (at (codes "c.test")) false tab ≡ Err NoFrame
nothing_to_navigate = refl

origin_of_a_frame : origin_of 1 tab ≡ Some (origin (codes "b.test"))
origin_of_a_frame = refl

origin_of_no_frame : origin_of 4 tab ≡ None
origin_of_no_frame = refl

abbrev marks : List PlainFrame → List (Option ℤ)
marks frames = map (λ f. f.document.mark) frames

-- a click in frame 1 activates its document and those above, and below it none of another origin
click_below : marks (activated 1 (pos 100) tab) ≡ Some (pos 100) ∷ Some (pos 100) ∷ None ∷ None ∷ []
click_below = refl

-- a click in the top activates each document of its origin
click_at_the_top : marks (activated 0 (pos 100) tab) ≡ Some (pos 100) ∷ None ∷ Some (pos 100) ∷ Some (pos 100) ∷ []
click_at_the_top = refl

-- one in frame 3 activates none beside it, of its origin too
click_beside : marks (activated 3 (pos 7) tab) ≡ Some (pos 7) ∷ None ∷ None ∷ Some (pos 7) ∷ []
click_beside = refl

marked : with_mark (Some (pos 7)) top ≡ record top { mark = Some (pos 7) }
marked = refl

with_access : flagged child ≡ record child { flag = true }
with_access = refl

all_are_consumed : consumed (activated 0 (pos 100) tab) ≡ tab
all_are_consumed = refl

sites_above : sites_of 2 tab ≡ Ok (Some a_site ∷ Some b_site ∷ Some a_site ∷ [])
sites_above = refl

sites_of_none : sites_of 4 tab ≡ Err NoFrame
sites_of_none = refl

site_first : begins_with_site (Some a_site ∷ None ∷ []) ≡ true
site_first = refl

opaque_first : begins_with_site (None ∷ Some a_site ∷ []) ≡ false
opaque_first = refl

no_site_first : begins_with_site [] ≡ false
no_site_first = refl

-- a document over http between two over https
abbrev mixed : List PlainFrame
mixed = framed 0 0 top ∷ framed 1 0 (loaded [] unrestricted false (record (at (codes "b.test")) { https = false }))
    ∷ framed 2 1 inner ∷ framed 3 0 top ∷ []

http_above : is_https_chain 2 mixed ≡ false
http_above = refl

http_itself : is_https_chain 1 mixed ≡ false
http_itself = refl

http_beside : is_https_chain 3 mixed ≡ true
http_beside = refl

https_of_none : is_https_chain 4 mixed ≡ false
https_of_none = refl

active_still : is_active 1 (pos 104) (activated 1 (pos 100) tab) ≡ true
active_still = refl

active_no_more : is_active 1 (pos 105) (activated 1 (pos 100) tab) ≡ false
active_no_more = refl

not_active_below : is_active 2 (pos 104) (activated 1 (pos 100) tab) ≡ false
not_active_below = refl

none_is_active : is_active_document (pos 0) None ≡ false
none_is_active = refl

-- a call that can only lack its frame
done_at_a_frame : (old new done : List PlainFrame) → IsDoneAt {E = TreeFault} 1 old new done (Ok tt) → new ≡ done
done_at_a_frame old new done is = is.1

there_where_it_is_done : (old new done : List PlainFrame) → IsDoneAt {E = TreeFault} 1 old new done (Ok tt) → has_frame 1 old
    ≡ true
there_where_it_is_done old new done is = is.0

unchanged_at_no_frame : (old new done : List PlainFrame) → IsDoneAt {E = TreeFault} 1 old new done (Err NoFrame) → new ≡ old
unchanged_at_no_frame old new done is = is.1

not_there_where_it_is_not_done : (old new done : List PlainFrame) → IsDoneAt {E = TreeFault} 1 old new done (Err NoFrame)
    → has_frame 1 old ≡ false
not_there_where_it_is_not_done old new done is = is.0

-- ---- what contracts see of what the program holds

fields_of_a_sandbox : (s : Sandbox) → plain_sandbox s ≡ record { same_origin = s.same_origin; storage_access = s.storage_access }
fields_of_a_sandbox s = refl

site_of_a_document : (site : Site) → plain_chain_site (Some site) ≡ Some (plain_site site)
site_of_a_document site = refl

fields_of_a_document : (d : Document) → plain_document d ≡ record {
  address = plain_address d.address;
  origin = option_map plain_origin d.origin;
  site = option_map plain_site d.site;
  sandbox = plain_sandbox d.sandbox;
  deny = d.deny;
  flag = d.flag;
  mark = d.mark;
}
fields_of_a_document d = refl

fields_of_a_frame : (f : Frame) → plain_frame f ≡ framed f.frame f.parent (plain_document f.loaded.document)
fields_of_a_frame f = refl
