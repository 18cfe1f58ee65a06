-- What requests and scripts make of cookies.
-- Source: Fetch, "HTTP-network-or-cache fetch" (the Cookie header is made before a request is sent)
-- and "HTTP-network fetch" (the response's Set-Cookie fields are stored); HTML, `document.cookie`,
-- which is refused to a document of an opaque origin; RFC 6265bis, "Retrieval Model" and "Storage
-- Model".
use Rattle.std.specs.Prelude.{ℕ, List, [], if◌then◌else◌}
use Rattle.suffix_list.specs.Suffix.{Rule}
use Rattle.unwinding.specs.FiniteCells.{get_cell, set_cell}
use Rattle.cookie_jar.specs.Sending.{joined}
use Rattle.agent_base.specs.declared.refusals.Label.{Label}
use Rattle.origin_site.specs.Address.{PlainAddress}
use Rattle.origin_site.specs.Site.{PlainSite}
use Rattle.script_actions.specs.declared.words.Method.{Method}
use Rattle.script_actions.specs.Action.{HeadField}
use Rattle.live_state.specs.Tabs.{PlainTab}
use Rattle.row_changes.specs.Change.{PlainChange}
use Rattle.reply_lines.specs.Reply.{PlainBody, Load, Cookie, SetOne}
use Rattle.agent_model.specs.CookieCells.{Cookies, domain_order}
use Rattle.agent_model.specs.PartitionedCells.{partitioned_order}
use Rattle.agent_model.specs.Partition.{Holdings}
use Rattle.agent_model.specs.Effects.{SharedCells, Effect, answers}
use Rattle.agent_model.specs.Documents.{Keyed, with_document}
use Rattle.agent_model.specs.CookieUse.{CookieUse, cookie_domain, key_of, uses_own}
use Rattle.agent_model.specs.CookieUses.{fetch_use, script_use}
use Rattle.agent_model.specs.CookieStore.{BothCells, both_marked, cookie_texts, header_text, sent}
use Rattle.agent_model.specs.CookieStore.{store_text, store_texts}

-- the unpartitioned cookies that a use finds: those of the domain, where it uses them
abbrev pub own_found : List Rule → CookieUse → SharedCells → Cookies
own_found rules how cells =
    if uses_own how then get_cell domain_order cells (cookie_domain rules how) else []

-- both cells that it finds
abbrev pub both_found : List Rule → CookieUse → SharedCells → Holdings → BothCells
both_found rules how cells held =
    record {
      own = own_found rules how cells;
      partition = get_cell partitioned_order held.cookies (key_of rules how);
    }

-- the shared cells that it leaves
abbrev pub own_left : List Rule → CookieUse → Cookies → SharedCells → SharedCells
own_left rules how cookies cells =
    if uses_own how then set_cell domain_order (cookie_domain rules how) cookies cells else cells

-- both cells are left so, by these row changes, and this is answered
abbrev pub leaves : List Rule → CookieUse → BothCells → List PlainChange → PlainBody → Effect
leaves rules how both changes body cells held =
    record {
      held = record held {
        cookies = set_cell partitioned_order (key_of rules how) both.partition held.cookies;
      };
      cells = own_left rules how both.own cells;
      changes = changes;
      body = body;
    }

-- a request is sent with its cookies, which are marked as used; then those of its response are
-- stored, in their order
abbrev pub request : List Rule → ℕ → CookieUse → List HeadField → Effect
request rules now how head cells held =
    let found = both_found rules how cells held in
    let stored = store_texts rules now how (both_marked now how found) (cookie_texts head) in
    leaves rules how stored.both stored.changes
    (Load (header_text (sent now how found)) stored.words) cells held

-- a document requests an address
abbrev pub fetch : List Rule → ℕ → PlainSite → Label → PlainAddress → Method → List HeadField
    → PlainTab → Effect
fetch rules now site at url method head tab =
    let how = fetch_use rules site at.frame tab.frames url method in
    with_document at tab (λ document. request rules now how head)

-- a script reads the cookies of a use
abbrev pub read_cookies_by : List Rule → ℕ → CookieUse → Effect
read_cookies_by rules now how cells held =
    answers (Cookie (joined (sent now how (both_found rules how cells held)))) cells held

-- a script sets one by a text
abbrev pub set_cookie_by : List Rule → ℕ → CookieUse → List ℕ → Effect
set_cookie_by rules now how text cells held =
    let stored = store_text rules now how (both_found rules how cells held) text in
    leaves rules how stored.both stored.changes (SetOne stored.word) cells held

-- the script of a document reads its cookies
abbrev pub read_cookies : List Rule → ℕ → PlainSite → Keyed → Effect
read_cookies rules now site reader = read_cookies_by rules now (script_use site reader)

-- or sets one
abbrev pub set_cookie : List Rule → ℕ → PlainSite → List ℕ → Keyed → Effect
set_cookie rules now site text writer = set_cookie_by rules now (script_use site writer) text
