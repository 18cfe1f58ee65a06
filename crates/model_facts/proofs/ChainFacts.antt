-- Documents below documents, worked out by hand: the storage key of each, whether it is first party,
-- and which cookies its requests and scripts use. And the methods that are safe.
-- Source: CHIPS, "Partitioning model" (the ancestor chain bit: some ancestor is cross-site with the
-- top-level site); HTML, "Sites" (a site has a scheme, so that http and https are apart); Storage
-- Standard, "Storage keys"; RFC 6265bis, "Same-site and cross-site requests" (each ancestor has to
-- be same-site); HTTP Semantics (RFC 9110), "Safe Methods".
use Rattle.std.proofs.Common.{◌≡◌, Bool, true, false, pos, List, [], ◌∷◌, Some, None, refl, ap, ◌∙◌}
use Rattle.std.specs.Prelude.{codes}
use Rattle.unwinding.specs.FiniteCells.{get_cell, set_cell}
use Rattle.unwinding.proofs.FiniteCellsLemmas.{get_set}
use Rattle.origin_site.specs.Address.{PlainAddress}
use Rattle.origin_site.specs.Origin.{origin_of_address}
use Rattle.storage_key.specs.Context.{PlainContext}
use Rattle.storage_key.specs.Key.{PlainKey}
use Rattle.frame_tree.specs.Document.{loaded}
use Rattle.frame_tree.specs.Keys.{key_of_frame}
use Rattle.frame_tree.specs.Sandbox.{unrestricted}
use Rattle.frame_tree.specs.Tree.{PlainFrame}
use Rattle.setcookie_parse.specs.declared.cookie.SameSite.TheVariants as when
use Rattle.stored_cookie.specs.StoredCookie.{PlainCookie}
use Rattle.row_changes.specs.Change.{AreaClear}
use Rattle.script_actions.specs.declared.words.Method.TheVariants as method
use Rattle.agent_model.specs.Changes.{clears}
use Rattle.agent_model.specs.CookieStore.{both_marked}
use Rattle.agent_model.specs.CookieUse.{CookieUse, consulted_by}
use Rattle.agent_model.specs.CookieUses.{fetch_use, frame_use, is_safe, nav_use, script_use}
use Rattle.agent_model.specs.Cookies.{request}
use Rattle.agent_model.specs.Documents.{Keyed}
use Rattle.agent_model.specs.Effects.{SharedCells}
use Rattle.agent_model.specs.Partition.{Holdings}
use Rattle.agent_model.specs.PartitionedCells.{PartitionedKey, partitioned_order}
use Rattle.agent_model.proofs.CookieRunFacts.{cookie, http_a}
use Rattle.agent_model.proofs.PartitionedLemmas.{partitioned_order_same, partitioned_order_total}
use Rattle.agent_model.proofs.StandardFacts.{a, address, at_frame, b, shown, site, widget, widget_key}
use Rattle.model_facts.proofs.Names.{at_address}

-- ---- names

-- `https://a.test/`, below it a document at this address in frame 1, and below that `https://a.test/`
-- in frame 2
abbrev chain : PlainAddress → List PlainFrame
chain between = at_address 0 0 (address a) ∷ at_address 1 0 between ∷ at_address 2 1 (address a) ∷ []

-- a request of the document in a frame for `https://a.test/`
abbrev asks : PlainAddress → CookieUse
asks between = fetch_use [] (site a) 2 (chain between) (address a) method.Get

abbrev key_with : Bool → PlainKey
key_with bit = record { origin = origin_of_address (address a); top = site a; bit = bit }

-- neither first party nor without the ancestor bit, and first party
abbrev foreign : PlainContext
foreign = record { first = false; bit = true }

abbrev own : PlainContext
own = record { first = true; bit = false }

-- ---- A in B in A

-- the inner document of the top-level site has another key than the top document, with the bit
inner_key : key_of_frame 2 (chain (address b)) ≡ Some (key_with true)
inner_key = refl

top_key : key_of_frame 0 (chain (address b)) ≡ Some (key_with false)
top_key = refl

-- its requests are not first party, and not same-site, though it and its URL are of the top's site
inner_asks : ((asks (address b)).context ≡ foreign) × ((asks (address b)).same_site ≡ false) × (consulted_by [] (asks (address b)) ≡ [])
inner_asks = (refl, refl, refl)

-- the same of the load of a frame below the one between, and of one that goes to such an address,
-- whoever starts it
load_below : (frame_use [] (site a) 1 (chain (address b)) (address a)).context ≡ foreign
load_below = refl

goes_below : (nav_use [] (site a) 2 (chain (address b)) (address a) true method.Get).context ≡ foreign
goes_below = refl

sent_below : ((nav_use [] (site a) 2 (chain (address b)) (address a) false method.Get).context ≡ foreign) × ((nav_use [] (site a) 2 (chain (address b)) (address a) false method.Get).same_site ≡ false)
sent_below = (refl, refl)

-- and of its script
abbrev inner : Keyed
inner = record { at = at_frame 1 2; document = loaded [] unrestricted false (address a); key = key_with true }

inner_script : ((script_use (site a) inner).context ≡ foreign) × ((script_use (site a) inner).same_site ≡ false)
inner_script = (refl, refl)

-- ---- http between two of https

-- http and https of one domain are two sites, so that this chain is as the one above
under_http : key_of_frame 2 (chain http_a) ≡ Some (key_with true)
under_http = refl

asks_under_http : ((asks http_a).context ≡ foreign) × ((asks http_a).same_site ≡ false) × (consulted_by [] (asks http_a) ≡ [])
asks_under_http = (refl, refl, refl)

-- nor is the document over http first party itself, and it has a key of its own
http_key : key_of_frame 1 (chain http_a) ≡ Some (record { origin = origin_of_address http_a; top = site a; bit = true })
http_key = refl

http_asks : (fetch_use [] (site a) 1 (chain http_a) http_a method.Get).context ≡ foreign
http_asks = refl

-- ---- one site throughout

-- another host of the domain between them is of their site: all three are first party
same_site_chain : key_of_frame 2 (chain (address (codes "x.a.test"))) ≡ Some (key_with false)
same_site_chain = refl

asks_same_site : ((asks (address (codes "x.a.test"))).context ≡ own) × ((asks (address (codes "x.a.test"))).same_site ≡ true) × (consulted_by [] (asks (address (codes "x.a.test"))) ≡ a ∷ [])
asks_same_site = (refl, refl, refl)

-- ---- methods

-- GET is safe; the other methods stand in the facts of `agent_model`
safe_get : is_safe method.Get ≡ true
safe_get = refl

safe_load : (frame_use [] (site a) 0 (shown a None) (address b)).safe ≡ true
safe_load = refl

-- ---- the last use in a partitioned cell

-- a widget of `w.test` below `https://a.test`, and a cookie of its own cell
abbrev third_party : CookieUse
third_party = fetch_use [] (site a) 1 (shown a None) (address widget) method.Get

abbrev partitioned : PlainCookie
partitioned = record (cookie (codes "p")) { domain = widget; secure = true; same_site = when.NoneSent }

abbrev under_a : PartitionedKey
under_a = record { top = site a; bit = true; domain = widget }

-- what is sent of it is used at that moment, where it is kept
use_is_kept : (cells : SharedCells) (held : Holdings) →
    get_cell partitioned_order (request [] 9 third_party [] cells (record held { cookies = set_cell partitioned_order under_a (partitioned ∷ []) held.cookies })).held.cookies under_a
    ≡ record partitioned { last = pos 9 } ∷ []
use_is_kept cells held =
    get_set partitioned_order partitioned_order_total partitioned_order_same under_a under_a (left (get_cell partitioned_order before.cookies under_a)) before.cookies
    ∙ ap left (get_set partitioned_order partitioned_order_total partitioned_order_same under_a under_a (partitioned ∷ []) held.cookies)
  where
    before : Holdings
    before = record held { cookies = set_cell partitioned_order under_a (partitioned ∷ []) held.cookies }

    left : List PlainCookie → List PlainCookie
    left found = (both_marked 9 third_party (record { own = []; partition = found })).partition

-- ---- row changes of an eviction

-- keys that differ in the bit: the one without it first, in whatever order they come
bit_order : clears (widget_key a false ∷ widget_key a true ∷ []) ≡ AreaClear (widget_key a false) ∷ AreaClear (widget_key a true) ∷ []
bit_order = refl

turned_order : clears (widget_key a true ∷ widget_key a false ∷ []) ≡ AreaClear (widget_key a false) ∷ AreaClear (widget_key a true) ∷ []
turned_order = refl
