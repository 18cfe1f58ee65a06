-- The unpartitioned cookies that a use of cookies consults, as a borrowed domain.
-- Source: that of each use stands in `agent_model`.
use Rattle.std.specs.Prelude.{◌≡◌, ℕ, Bool, List, map, Option, option_to_list}
use Rattle.std.specs.Borrow.{Bor}
use Rattle.suffix_list.specs.Suffix.{Rule}
use Rattle.agent_base.specs.declared.refusals.Label.{Label}
use Rattle.origin_site.specs.Address.{PlainAddress}
use Rattle.origin_site.specs.Site.{PlainSite}
use Rattle.frame_tree.specs.Tree.{PlainFrame}
use Rattle.live_state.specs.Tabs.{PlainTab}
use Rattle.script_actions.specs.declared.words.Method.{Method}
use Rattle.script_actions.specs.Action.{DocumentAction, Fetch, Frame, HeadField, Nav}
use Rattle.script_actions.specs.Action.{PlainAction, Act}
use Rattle.agent_model.specs.Consults.{by_script, keyed_at, names_in}
use Rattle.agent_model.specs.CookieCells.{Domain}
use Rattle.agent_model.specs.CookieUse.{CookieUse, consulted_by, uses_own}

-- a domain that may be there, as a list
abbrev pub domains_of : Option (Bor (List ℕ)) → List Domain
domains_of domain = map (λ d. d.now) (option_to_list domain)

-- the domain is what each use of this URL consults that uses unpartitioned cookies or does not
abbrev pub IsUsed : List Rule → PlainAddress → Bool → Option (Bor (List ℕ)) → Type 0
IsUsed rules url uses domain =
    (how : CookieUse) → how.url ≡ url → uses_own how ≡ uses
    → consulted_by rules how ≡ domains_of domain

-- ---- what an action of a document consults, whatever tab and label it is told with

-- a frame that is added
abbrev pub FrameNames : List Rule → List PlainFrame → (frame parent : ℕ) → PlainAddress
    → Option (Bor (List ℕ)) → Type 0
FrameNames rules frames frame parent url domain =
    (shown : PlainTab) (site : PlainSite) (at : Label) (sandbox : Option (List ℕ)) (deny : Bool)
    (head : List HeadField) → shown.frames ≡ frames → at.frame ≡ frame
    → names_in rules site at (Frame parent url sandbox deny head) shown ≡ domains_of domain

-- a frame that goes to another address
abbrev pub NavNames : List Rule → List PlainFrame → (frame : ℕ) → PlainAddress → (by_self : Bool)
    → Option (Bor (List ℕ)) → Type 0
NavNames rules frames frame url by_self domain =
    (shown : PlainTab) (site : PlainSite) (at : Label) (method : Method) (head : List HeadField)
    → shown.frames ≡ frames → at.frame ≡ frame
    → names_in rules site at (Nav url by_self method head) shown ≡ domains_of domain

-- a request
abbrev pub FetchNames : List Rule → List PlainFrame → (frame : ℕ) → PlainAddress
    → Option (Bor (List ℕ)) → Type 0
FetchNames rules frames frame url domain =
    (shown : PlainTab) (site : PlainSite) (at : Label) (method : Method) (head : List HeadField)
    → shown.frames ≡ frames → at.frame ≡ frame
    → names_in rules site at (Fetch url method head) shown ≡ domains_of domain

-- a script
abbrev pub ScriptNames : List Rule → List PlainFrame → (frame : ℕ) → Option (Bor (List ℕ))
    → Type 0
ScriptNames rules frames frame domain =
    (shown : PlainTab) (site : PlainSite) (at : Label) → shown.frames ≡ frames → at.frame ≡ frame
    → by_script rules site (keyed_at at shown) ≡ domains_of domain

-- an action of a document in this tab, if the line is one
abbrev pub ActNames : List Rule → List PlainFrame → PlainAction → Option (Bor (List ℕ)) → Type 0
ActNames rules frames action domain =
    (shown : PlainTab) (site : PlainSite) (at : Label) (done : DocumentAction)
    → shown.frames ≡ frames → action ≡ Act at done
    → names_in rules site at done shown ≡ domains_of domain
