-- What a partitioned cell holds at most, the words that answer a Set-Cookie text, what Secure goes by,
-- and which lines consult a shared cell, worked out by hand.
-- Source: CHIPS, "Limits on partitions" (10 KiB of cookies for each partition of a domain), and
-- RFC 6265bis, "Storage Model" (excess cookies are removed, those of the earliest last access
-- first). The words are those of docs/FORMATS.md.
-- Our own choice: an unpartitioned cell has no limit of bytes.
use Rattle.std.proofs.Common.{◌≡◌, ℕ, true, false, pos, List, [], ◌∷◌, Option, Some, None, map, refl}
use Rattle.std.specs.Prelude.{codes, replicate}
use Rattle.origin_site.specs.Address.{PlainAddress}
use Rattle.frame_tree.specs.Document.{loaded}
use Rattle.frame_tree.specs.Sandbox.{unrestricted}
use Rattle.live_state.specs.Tabs.{PlainTab, made_tab}
use Rattle.setcookie_parse.specs.declared.cookie.DropCause.TheVariants as parse
use Rattle.setcookie_parse.specs.declared.cookie.SameSite.TheVariants as when
use Rattle.stored_cookie.specs.StoredCookie.{PlainCookie}
use Rattle.cookie_jar.specs.declared.cause.CookieDrop.TheVariants as why
use Rattle.cookie_jar.specs.declared.plan.StoredKind.TheVariants as kind
use Rattle.script_actions.specs.Action.{Cookie, Has, Request, SetCookie}
use Rattle.script_actions.specs.declared.words.Method.TheVariants as method
use Rattle.script_actions.specs.declared.words.Prompt.TheVariants as prompt
use Rattle.agent_model.specs.Consults.{names_in}
use Rattle.agent_model.specs.CookieStore.{header_text, sent, store_text}
use Rattle.agent_model.specs.CookieUse.{CookieUse}
use Rattle.agent_model.specs.CookieUses.{fetch_use, script_use, top_use}
use Rattle.agent_model.specs.CookieWords.{drop_word, parse_word, stored_word}
use Rattle.agent_model.specs.Documents.{Keyed}
use Rattle.agent_model.proofs.CookieRunFacts.{cookie}
use Rattle.agent_model.proofs.StandardFacts.{a, address, at_frame, shown, site, widget, widget_key}

-- ---- limits

-- a cookie of `w.test` with a name of one byte, a value of so many, and this last use
abbrev heavy : (name : List ℕ) → ℕ → ℕ → PlainCookie
heavy name bytes last = record (cookie name) { value = replicate bytes 97; domain = widget; secure = true; same_site = when.NoneSent; last = pos last }

-- three of them are 10,240 bytes, as many as a partition holds
abbrev full : List PlainCookie
full = heavy (codes "a") 4000 3 ∷ heavy (codes "b") 4000 1 ∷ heavy (codes "c") 2237 2 ∷ []

abbrev third_party : CookieUse
third_party = fetch_use [] (site a) 1 (shown a None) (address widget) method.Get

abbrev named : List PlainCookie → List (List ℕ)
named cookies = map (λ c. c.name) cookies

-- one more, and that of the earliest use goes
over_the_limit : named (store_text [] 7 third_party (record { own = []; partition = full }) (codes "n=1; Secure; SameSite=None; Partitioned")).both.partition ≡ codes "a" ∷ codes "c" ∷ codes "n" ∷ []
over_the_limit = refl

-- one less heavy stays with it
within_the_limit : named (store_text [] 7 third_party (record { own = []; partition = heavy (codes "a") 4000 3 ∷ heavy (codes "b") 4000 1 ∷ heavy (codes "c") 2235 2 ∷ [] }) (codes "n=1; Secure; SameSite=None; Partitioned")).both.partition
    ≡ codes "a" ∷ codes "b" ∷ codes "c" ∷ codes "n" ∷ []
within_the_limit = refl

-- an unpartitioned cell holds them all
unpartitioned : named (store_text [] 7 (top_use (site widget) (address widget) method.Get true) (record { own = full; partition = [] }) (codes "n=1")).both.own ≡ codes "a" ∷ codes "b" ∷ codes "c" ∷ codes "n" ∷ []
unpartitioned = refl

-- ---- words

-- a text that is no cookie
no_cookie : (parse_word parse.Control ≡ codes "control") × (parse_word parse.TooLong ≡ codes "too-long") × (parse_word parse.Empty ≡ codes "empty")
no_cookie = (refl, refl, refl)

-- a cookie that was stored
stored : (stored_word kind.Added ≡ codes "added") × (stored_word kind.Replaced ≡ codes "replaced") × (stored_word kind.Removed ≡ codes "removed")
stored = (refl, refl, refl)

-- a cookie that was dropped, by its cause
by_domain : (drop_word why.NonAsciiDomain ≡ codes "non-ascii-domain") × (drop_word why.PublicSuffix ≡ codes "public-suffix") × (drop_word why.DomainMismatch ≡ codes "domain-mismatch")
by_domain = (refl, refl, refl)

by_use : (drop_word why.NotSecureUrl ≡ codes "not-secure-url") × (drop_word why.HttpOnlyFromScript ≡ codes "http-only-from-script") × (drop_word why.SameSite ≡ codes "same-site") × (drop_word why.ThirdParty ≡ codes "third-party")
by_use = (refl, refl, refl, refl)

by_attributes : (drop_word why.NoneNeedsSecure ≡ codes "none-needs-secure") × (drop_word why.PartitionedNeedsSecure ≡ codes "partitioned-needs-secure")
by_attributes = (refl, refl)

by_prefix : (drop_word why.SecurePrefix ≡ codes "secure-prefix") × (drop_word why.HostPrefix ≡ codes "host-prefix") × (drop_word why.NamelessPrefix ≡ codes "nameless-prefix")
by_prefix = (refl, refl, refl)

by_another : (drop_word why.OverlaysSecure ≡ codes "overlays-secure") × (drop_word why.OverwritesHttpOnly ≡ codes "overwrites-http-only")
by_another = (refl, refl)

-- a script of a third party that sets a cookie for no cell: its own cause, whatever the unpartitioned
-- cell has
abbrev embedded : Keyed
embedded = record { at = at_frame 1 1; document = loaded [] unrestricted false (address widget); key = widget_key a true }

no_cell : (store_text [] 7 (script_use (site a) embedded) (record { own = record (heavy (codes "p") 1 1) { http_only = true } ∷ []; partition = [] }) (codes "p=2; Secure; SameSite=None")).word ≡ codes "third-party"
no_cell = refl

-- ---- Secure goes by the URL of the request, and not by the top document

abbrev http_widget : PlainAddress
http_widget = record { text = codes "http://w.test/"; https = false; ip = false; host = widget; port = 80; path = codes "/" }

abbrev sends : PlainAddress → Option (List ℕ)
sends url = header_text (sent 7 (fetch_use [] (site a) 0 (shown a None) url method.Get) (record { own = []; partition = heavy (codes "p") 1 1 ∷ [] }))

over_http : sends http_widget ≡ None
over_http = refl

over_https : sends (address widget) ≡ Some (codes "p=a")
over_https = refl

-- ---- which lines consult a shared cell

-- a script's reading and setting do, and asking for access or whether one has it does not
abbrev tab : PlainTab
tab = made_tab 1 (shown a None) None None

consults : (names_in [] (site a) (at_frame 1 0) Cookie tab ≡ a ∷ []) × (names_in [] (site a) (at_frame 1 0) (SetCookie (codes "s=1")) tab ≡ a ∷ [])
consults = (refl, refl)

consults_none : (names_in [] (site a) (at_frame 1 0) Has tab ≡ []) × (names_in [] (site a) (at_frame 1 0) (Request prompt.Grant) tab ≡ [])
consults_none = (refl, refl)
