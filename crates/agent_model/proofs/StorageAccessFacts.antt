-- Storage access, worked out by hand: what each request of a frame comes to, and what granted access
-- is for. The frame shows `https://w.test/` in a tab at `https://a.test`.
use Rattle.std.proofs.Common.{◌≡◌, ℕ, pos, Bool, true, false, List, [], ◌∷◌, Option, Some, None, Ok, refl}
use Rattle.std.specs.Prelude.{codes, option_and_then, option_map}
use Rattle.origin_site.specs.Address.{PlainAddress}
use Rattle.access_grants.specs.Grant.{PlainGrant}
use Rattle.access_grants.specs.Request.{denied_now, dismissed, granted_now, has_access}
use Rattle.frame_tree.specs.Calls.{activated, flagged, with_document}
use Rattle.frame_tree.specs.Document.{loaded}
use Rattle.frame_tree.specs.Sandbox.{unrestricted}
use Rattle.frame_tree.specs.Tree.{PlainFrame, document_of}
use Rattle.live_state.specs.FramesInPlace.{requested}
use Rattle.script_actions.specs.declared.words.Method.TheVariants as method
use Rattle.script_actions.specs.declared.words.Prompt.{Prompt}
use Rattle.script_actions.specs.declared.words.Prompt.TheVariants as prompt
use Rattle.agent_model.specs.CookieUse.{consulted_by}
use Rattle.agent_model.specs.CookieUses.{fetch_use, frame_use, nav_use}
use Rattle.agent_model.specs.Frames.{frames_navigated}
use Rattle.agent_model.specs.StorageAccess.{access_facts, answer_of, decision_word, embedded_site, grants_requested, outcome_of}
use Rattle.agent_model.proofs.CookieRunFacts.{http_a}
use Rattle.agent_model.proofs.StandardFacts.{address, at_frame, shown, site, widget, a, b}

-- the word that a request of frame 1 is answered by at the second 7
abbrev decided : List PlainFrame → Prompt → List PlainGrant → Option (List ℕ)
decided frames answer grants =
    option_map (λ outcome. decision_word outcome.decision)
    (option_and_then (λ document. outcome_of (site a) (embedded_site [] document) (access_facts [] 7 1 frames document) (answer_of answer) 7 grants) (document_of 1 frames))

-- whether its document has access
abbrev has : List PlainFrame → Option Bool
has frames = option_map (λ document. has_access (access_facts [] 7 1 frames document)) (document_of 1 frames)

-- a tab with this top document, and another one in frame 1
abbrev below : PlainAddress → (deny : Bool) → PlainAddress → List PlainFrame
below top deny url = record { frame = 0; parent = 0; document = loaded [] unrestricted false top } ∷ record { frame = 1; parent = 0; document = loaded [] unrestricted deny url } ∷ []

-- the widget, after a click at this second
abbrev clicked : ℕ → List PlainFrame
clicked at = activated 1 (pos at) (shown a None)

-- a permission of a widget until a second
abbrev permission : List ℕ → Bool → ℕ → PlainGrant
permission top granted until = record { top = site top; site = site widget; granted = granted; until = pos until }

-- ---- the rows of the table, each by the first thing that is wrong

opaque : decided (shown a (Some (codes "allow-scripts"))) prompt.Grant (permission a true 8 ∷ []) ≡ Some (codes "opaque")
opaque = refl

insecure : decided (below http_a true (address widget)) prompt.Grant (permission a true 8 ∷ []) ≡ Some (codes "insecure")
insecure = refl

policy : decided (below (address a) true (address widget)) prompt.Grant (permission a true 8 ∷ []) ≡ Some (codes "policy")
policy = refl

sandbox : decided (shown a (Some (codes "allow-same-origin"))) prompt.Grant (permission a true 8 ∷ []) ≡ Some (codes "sandbox")
sandbox = refl

-- a first party is granted it, and a document that has it, whatever was denied before
first_party : decided (below (address a) false (address a)) prompt.Deny [] ≡ Some (codes "granted")
first_party = refl

has_it : decided (with_document 1 flagged (shown a None)) prompt.Deny (permission a false 8 ∷ []) ≡ Some (codes "granted")
has_it = refl

-- a permission counts under its own top-level site, and until its last second
granted_before : decided (shown a None) prompt.Deny (permission a true 8 ∷ []) ≡ Some (codes "granted")
granted_before = refl

denied_before : decided (clicked 7) prompt.Grant (permission a false 8 ∷ []) ≡ Some (codes "denied")
denied_before = refl

past_its_end : decided (shown a None) prompt.Grant (permission a true 7 ∷ []) ≡ Some (codes "no-activation")
past_its_end = refl

under_another_top : decided (shown a None) prompt.Grant (permission b true 8 ∷ []) ≡ Some (codes "no-activation")
under_another_top = refl

-- a click lasts five seconds
clicked_long_ago : decided (clicked 2) prompt.Grant [] ≡ Some (codes "no-activation")
clicked_long_ago = refl

granted_by_prompt : decided (clicked 3) prompt.Grant [] ≡ Some (codes "granted")
granted_by_prompt = refl

denied_by_prompt : decided (clicked 7) prompt.Deny [] ≡ Some (codes "denied-now")
denied_by_prompt = refl

closed_prompt : decided (clicked 7) prompt.Dismiss [] ≡ Some (codes "dismissed")
closed_prompt = refl

-- ---- what is kept, given and consumed

-- a grant is kept for the pair for 30 days, in the place of the pair's old row
kept_last : grants_requested (granted_now (pos 7)).kept (site a) (site widget) (permission b false 9 ∷ []) ≡ permission b false 9 ∷ permission a true 2592007 ∷ []
kept_last = refl

kept_in_place : grants_requested (denied_now (pos 7)).kept (site a) (site widget) (permission a true 7 ∷ permission b false 9 ∷ []) ≡ permission a false 2592007 ∷ permission b false 9 ∷ []
kept_in_place = refl

-- a dismissed prompt keeps nothing, and consumes the click as a denial does; a grant leaves it
nothing_kept : grants_requested dismissed.kept (site a) (site widget) (permission b false 9 ∷ []) ≡ permission b false 9 ∷ []
nothing_kept = refl

consumes : requested dismissed.sets_flag dismissed.consumes 1 (clicked 7) ≡ shown a None
consumes = refl

leaves_click : requested (granted_now (pos 7)).sets_flag (granted_now (pos 7)).consumes 1 (clicked 7) ≡ with_document 1 flagged (clicked 7)
leaves_click = refl

-- ---- who has it

-- a widget has none before, and has it afterwards
has_none : has (shown a None) ≡ Some false
has_none = refl

has_now : has (with_document 1 flagged (shown a None)) ≡ Some true
has_now = refl

-- a first party has it, but under a document of http
has_first : has (below (address a) false (address a)) ≡ Some true
has_first = refl

has_insecure : has (with_document 1 flagged (below http_a false (address widget))) ≡ Some false
has_insecure = refl

-- an opaque document has none
has_opaque : has (shown a (Some [])) ≡ Some false
has_opaque = refl

-- ---- what it is for

-- the tab after a grant
abbrev given : List PlainFrame
given = with_document 1 flagged (shown a None)

-- another origin of the widget's site
abbrev other_origin : PlainAddress
other_origin = record (address (codes "y.w.test")) { port = 443 }

-- a request of the document consults its own domain, and a request for another origin none
own_request : consulted_by [] (fetch_use [] (site a) 1 given (address widget) method.Post) ≡ widget ∷ []
own_request = refl

other_request : consulted_by [] (fetch_use [] (site a) 1 given other_origin method.Post) ≡ []
other_request = refl

-- so does a request of the top document for it
of_the_top : consulted_by [] (fetch_use [] (site a) 0 given (address widget) method.Get) ≡ []
of_the_top = refl

-- and a load of a frame below it
load_below : consulted_by [] (frame_use [] (site a) 1 given (address widget)) ≡ []
load_below = refl

-- where the document itself goes to its own origin, that is a request of it, and the new document
-- has the access
goes_itself : consulted_by [] (nav_use [] (site a) 1 given (address widget) true method.Get) ≡ widget ∷ []
goes_itself = refl

sent_by_parent : consulted_by [] (nav_use [] (site a) 1 given (address widget) false method.Get) ≡ []
sent_by_parent = refl

keeps_it : frames_navigated [] (at_frame 1 1) (address widget) true given ≡ Ok given
keeps_it = refl

loses_it_by_parent : frames_navigated [] (at_frame 1 1) (address widget) false given ≡ Ok (shown a None)
loses_it_by_parent = refl

loses_it_elsewhere : frames_navigated [] (at_frame 1 1) other_origin true given ≡ Ok (below (address a) false other_origin)
loses_it_elsewhere = refl
