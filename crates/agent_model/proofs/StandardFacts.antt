-- Loads, frames and keys, worked out by hand from the rules, so that a wrong rule in the specs does
-- not check. The other files of facts have openers, areas, buckets, session areas and whole runs.
use Rattle.std.proofs.Common.{◌≡◌, ℕ, Bool, true, false, refl, List, [], ◌∷◌, ◌++◌, Option, Some, None, Ok, Err}
use Rattle.std.specs.Prelude.{codes}
use Rattle.agent_base.specs.declared.refusals.Label.{Label}
use Rattle.origin_site.specs.Address.{PlainAddress}
use Rattle.origin_site.specs.Origin.{origin_of_address}
use Rattle.origin_site.specs.Site.{PlainSite}
use Rattle.storage_key.specs.Key.{PlainKey}
use Rattle.frame_tree.specs.Tree.{PlainFrame}
use Rattle.frame_tree.specs.Calls.{opened}
use Rattle.frame_tree.specs.Document.{loaded}
use Rattle.frame_tree.specs.Sandbox.{both, sandbox_of, unrestricted}
use Rattle.frame_tree.specs.declared.tab.TreeFault.TheVariants.{NoFrame, FrameExists}
use Rattle.frame_tree.specs.Keys.{key_of_frame}
use Rattle.script_actions.specs.declared.words.Method.TheVariants as method
use Rattle.script_actions.specs.Action.{HeadField}
use Rattle.agent_model.specs.Partition.{Holdings, without_tab}
use Rattle.agent_model.specs.SiteEvent.{SiteEvent, TimedEvent, Arrives, Leaves, Opens, Goes}
use Rattle.agent_model.specs.Frames.{frames_added, frames_navigated, frames_removed}
use Rattle.agent_model.specs.Lines.{SiteOccurrence, User, Page, opening, going}
use Rattle.agent_model.specs.SideEvents.{leaves}
use Rattle.agent_model.specs.Rest.{clock_after}
use Rattle.agent_model.specs.TheMachine.{beginning}

-- ---- names

-- the address `https://HOST/`
abbrev pub address : List ℕ → PlainAddress
address host =
    record {
      text = codes "https://" ++ host ++ codes "/";
      https = true;
      ip = false;
      host = host;
      port = 443;
      path = codes "/";
    }

abbrev pub site : List ℕ → PlainSite
site host = record { https = true; host = host }

abbrev pub at_frame : (tab frame : ℕ) → Label
at_frame tab frame = record { tab = tab; frame = frame }

abbrev pub a : List ℕ
a = codes "a.test"

abbrev pub b : List ℕ
b = codes "b.test"

-- an event at second 7
abbrev pub at_seven : SiteEvent → TimedEvent
at_seven event = record { moment = 7; event = event }

abbrev pub occurs_at : List ℕ → SiteEvent → Option SiteOccurrence
occurs_at host event = Some (record { site = site host; event = at_seven event })

-- the head of a response with the field `set-cookie: TEXT` alone
abbrev pub stores : List ℕ → List HeadField
stores text = record { name = codes "set-cookie"; value = text } ∷ []

-- ---- loads of top documents

-- the user opens a tab, and a page of another site opens one
free : opening [] (beginning 7) 1 (address a) method.Get [] (Some User) None ≡ occurs_at a (Arrives Opens 1 (address a) method.Get true [])
unfolding beginning
free = refl

by_page : opening [] (beginning 7) 2 (address a) method.Get [] (Some (Page (site b))) None ≡ occurs_at a (Arrives Opens 2 (address a) method.Get false [])
unfolding beginning
by_page = refl

-- a number that is taken opens nothing, and without its opener a free one neither
taken : opening [] (beginning 7) 1 (address a) method.Get [] (Some User) (Some (site b)) ≡ None
taken = refl

no_opener : opening [] (beginning 7) 1 (address a) method.Get [] None None ≡ None
no_opener = refl

-- a tab that a page of another site sends elsewhere arrives there, from another site
sent : going [] (beginning 7) 1 (address a) true method.Get [] (Some (site b)) ≡ occurs_at a (Arrives Goes 1 (address a) method.Get false [])
unfolding beginning
sent = refl

-- the user's own going is same-site, whatever site the tab was at, and each load carries its method
-- and the head of its response
gone : going [] (beginning 7) 1 (address a) false method.Post [] (Some (site b)) ≡ occurs_at a (Arrives Goes 1 (address a) method.Post true [])
unfolding beginning
gone = refl

posted : opening [] (beginning 7) 1 (address a) method.Post (stores (codes "s=1")) (Some User) None ≡ occurs_at a (Arrives Opens 1 (address a) method.Post true (stores (codes "s=1")))
unfolding beginning
posted = refl

-- it leaves its old site, and no other; and it leaves none where it stays
leaves_old : leaves (beginning 7) 1 (Some (site b)) (site a) (site b) ≡ Some (at_seven (Leaves 1))
unfolding beginning
leaves_old = refl

others_stay : leaves (beginning 7) 1 (Some (site b)) (site a) (site (codes "c.test")) ≡ None
others_stay = refl

stays : leaves (beginning 7) 1 (Some (site b)) (site b) (site b) ≡ None
stays = refl

-- and keeps its session areas while it is gone
areas_stay : (held : Holdings) → (without_tab 1 held).sessions ≡ held.sessions
areas_stay held = refl

-- the clock stays at its last second
last : clock_after 253402300700 4294967295 ≡ 253402300799
last = refl

-- ---- frames

-- a widget of `w.test` under two sites has a key under each, and as a top document a third one
abbrev pub widget : List ℕ
widget = codes "w.test"

-- the frames of a tab at a site with the widget in frame 1
abbrev pub shown : List ℕ → Option (List ℕ) → List PlainFrame
shown top sandbox = record { frame = 0; parent = 0; document = loaded [] unrestricted false (address top) }
    ∷ record { frame = 1; parent = 0; document = loaded [] (both unrestricted (sandbox_of sandbox)) false (address widget) } ∷ []

framed : frames_added [] (at_frame 1 1) 0 (address widget) None false (opened [] (address a)) ≡ Ok (shown a None)
framed = refl

abbrev pub widget_key : List ℕ → Bool → PlainKey
widget_key top bit = record { origin = origin_of_address (address widget); top = site top; bit = bit }

under_a : key_of_frame 1 (shown a None) ≡ Some (widget_key a true)
under_a = refl

under_b : key_of_frame 1 (shown b None) ≡ Some (widget_key b true)
under_b = refl

alone : key_of_frame 0 (opened [] (address widget)) ≡ Some (widget_key widget false)
alone = refl

-- a frame in a sandbox without `allow-same-origin` has no key, and one that is not there none either
sandboxed : key_of_frame 1 (shown a (Some [])) ≡ None
sandboxed = refl

absent : key_of_frame 2 (shown a None) ≡ None
absent = refl

-- the top document neither navigates nor is dropped
top_stays : frames_navigated [] (at_frame 1 0) (address b) false (shown a None) ≡ Err NoFrame
top_stays = refl

top_kept : frames_removed (at_frame 1 0) (shown a None) ≡ Err NoFrame
top_kept = refl

dropped : frames_removed (at_frame 1 1) (shown a None) ≡ Ok (opened [] (address a))
dropped = refl

drop_of_none : frames_removed (at_frame 1 2) (shown a None) ≡ Err NoFrame
drop_of_none = refl

number_taken : frames_added [] (at_frame 1 1) 0 (address b) None false (shown a None) ≡ Err FrameExists
number_taken = refl
