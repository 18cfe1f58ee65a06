-- Uses of cookies, worked out by hand: what each consults, and what it answers.
use Rattle.std.proofs.Common.{◌≡◌, ℕ, true, false, List, [], ◌∷◌, Option, Some, None, pos, refl}
use Rattle.std.specs.Prelude.{codes}
use Rattle.setcookie_parse.specs.declared.cookie.SameSite.TheVariants as when
use Rattle.stored_cookie.specs.StoredCookie.{PlainCookie}
use Rattle.cookie_jar.specs.Key.{OwnCell, PartitionCell}
use Rattle.cookie_jar.specs.Sending.{joined}
use Rattle.row_changes.specs.Change.{PlainChange, CookieInsert, CookieReplace, CookieRemove}
use Rattle.reply_lines.specs.Reply.{PlainBody, Load}
use Rattle.script_actions.specs.declared.words.Method.TheVariants as method
use Rattle.agent_model.specs.CookieUse.{CookieUse, consulted_by, key_of}
use Rattle.agent_model.specs.CookieUses.{fetch_use, frame_use, nav_use, script_use, top_use}
use Rattle.agent_model.specs.CookieStore.{BothCells, both_marked, cookie_texts, header_text, sent, store_text, store_texts}
use Rattle.agent_model.specs.Partition.{Holdings, no_holdings}
use Rattle.agent_model.specs.Effects.{SharedCells, no_shared_cells}
use Rattle.agent_model.specs.Cookies.{read_cookies, request}
use Rattle.agent_model.proofs.CookieCellsLemmas.{get_none}
use Rattle.agent_model.proofs.StandardFacts.{address, site, shown, stores, widget, a, b}
use Rattle.agent_model.proofs.CookieRunFacts.{cookie, http_a, http_site, nothing_partitioned, reader}

-- ---- what is consulted

-- a load of a top document consults its domain, over https and over http
top_asks : consulted_by [] (top_use (site a) (address a) method.Get true) ≡ a ∷ []
top_asks = refl

http_asks : consulted_by [] (top_use http_site http_a method.Get true) ≡ a ∷ []
http_asks = refl

-- so does a script of the top document
script_asks : consulted_by [] (script_use (site a) reader) ≡ a ∷ []
script_asks = refl

-- a document of another site consults none, whatever it requests, and its own cell is partitioned
widget_asks : consulted_by [] (fetch_use [] (site a) 1 (shown a None) (address widget) method.Get) ≡ []
widget_asks = refl

widget_asks_top : consulted_by [] (fetch_use [] (site a) 1 (shown a None) (address a) method.Get) ≡ []
widget_asks_top = refl

widget_key : key_of [] (fetch_use [] (site a) 1 (shown a None) (address widget) method.Get) ≡ record { top = site a; bit = true; domain = widget }
widget_key = refl

-- the top document that requests another site does not either, and requests its own
other_asks : consulted_by [] (fetch_use [] (site a) 0 (shown a None) (address b) method.Get) ≡ []
other_asks = refl

own_asks : consulted_by [] (fetch_use [] (site a) 0 (shown a None) (address a) method.Get) ≡ a ∷ []
own_asks = refl

-- a frame of the top-level site is first party where its parent is
frame_asks : consulted_by [] (frame_use [] (site a) 0 (shown a None) (address a)) ≡ a ∷ []
frame_asks = refl

-- a frame that goes to the top-level site is so too, whoever starts it; only where its parent starts
-- it is the load same-site
nav_asks : consulted_by [] (nav_use [] (site a) 1 (shown a None) (address a) true method.Get) ≡ a ∷ []
nav_asks = refl

by_widget : (nav_use [] (site a) 1 (shown a None) (address a) true method.Get).same_site ≡ false
by_widget = refl

by_parent : (nav_use [] (site a) 1 (shown a None) (address a) false method.Get).same_site ≡ true
by_parent = refl

-- ---- what is answered

-- both cells with these unpartitioned cookies
abbrev own : List PlainCookie → BothCells
own cookies = record { own = cookies; partition = [] }

-- the header of a request
abbrev header : CookieUse → BothCells → Option (List ℕ)
header how both = header_text (sent 7 how both)

-- the first load sends nothing; the second, over http, sends what the first stored
first_header : header (top_use (site a) (address a) method.Get true) (own []) ≡ None
first_header = refl

second_header : header (top_use http_site http_a method.Get true) (own (cookie (codes "s") ∷ [])) ≡ Some (codes "s=1")
second_header = refl

-- its response is stored after that
second_words : (store_texts [] 7 (top_use http_site http_a method.Get true) (own (cookie (codes "s") ∷ [])) (cookie_texts (stores (codes "t=1")))).words ≡ codes "added" ∷ []
second_words = refl

-- the script reads both
third_text : joined (sent 7 (script_use (site a) reader) (own (cookie (codes "s") ∷ cookie (codes "t") ∷ []))) ≡ codes "s=1; t=1"
third_text = refl

-- a request of a third party stores what is partitioned, and nothing else
abbrev third_party : CookieUse
third_party = fetch_use [] (site a) 1 (shown a None) (address widget) method.Get

unpartitioned : store_text [] 7 third_party (own []) (codes "p=1; Secure; SameSite=None") ≡ record { both = own []; changes = []; word = codes "third-party" }
unpartitioned = refl

partitioned : (store_text [] 7 third_party (own []) (codes "p=1; Secure; SameSite=None; Partitioned")).word ≡ codes "added"
partitioned = refl

lax : (store_text [] 7 third_party (own []) (codes "p=1; Secure; Partitioned")).word ≡ codes "same-site"
lax = refl

-- ---- row changes

-- the cookie with an expiry, and as it outlives a restart
abbrev lasting : List ℕ → PlainCookie
lasting name = record (cookie name) { expiry = Some (pos 67) }

abbrev row : List ℕ → PlainCookie
row name = record (lasting name) { last = pos 0 }

abbrev by_load : BothCells → List ℕ → List PlainChange
by_load both text = (store_text [] 7 (top_use (site a) (address a) method.Get true) both text).changes

-- a cookie with a Max-Age is one, at its place among those of its cell that have an expiry
inserted : by_load (own (cookie (codes "s") ∷ lasting (codes "p") ∷ cookie (codes "q") ∷ [])) (codes "t=1; Max-Age=60") ≡ CookieInsert (OwnCell a) 1 (row (codes "t")) ∷ []
inserted = refl

replaced : by_load (own (cookie (codes "s") ∷ lasting (codes "t") ∷ [])) (codes "t=1; Max-Age=60") ≡ CookieReplace (OwnCell a) 0 (row (codes "t")) ∷ []
replaced = refl

-- one without an expiry is none, but in the place of one that has it
session_cookie : by_load (own (lasting (codes "p") ∷ [])) (codes "t=1") ≡ []
session_cookie = refl

instead : by_load (own (lasting (codes "p") ∷ cookie (codes "s") ∷ lasting (codes "t") ∷ [])) (codes "t=1") ≡ CookieRemove (OwnCell a) 1 ∷ []
instead = refl

-- a partitioned one is of the partitioned cell
partitioned_row : (store_text [] 7 third_party (own []) (codes "p=1; Secure; SameSite=None; Partitioned; Max-Age=60")).changes
    ≡ CookieInsert (PartitionCell (site a) true widget) 0 (record (row (codes "p")) { domain = widget; secure = true; same_site = when.NoneSent }) ∷ []
partitioned_row = refl

-- the texts of a response have theirs in one list
both_rows : (store_texts [] 7 (top_use (site a) (address a) method.Get true) (own []) (codes "s=1; Max-Age=60" ∷ codes "t=1; Max-Age=60" ∷ [])).changes
    ≡ CookieInsert (OwnCell a) 0 (row (codes "s")) ∷ CookieInsert (OwnCell a) 1 (row (codes "t")) ∷ []
both_rows = refl

-- ---- what is no cookie

-- a text that is none
control : store_text [] 7 third_party (own []) (1 ∷ []) ≡ record { both = own []; changes = []; word = codes "control" }
control = refl

-- other fields of a response are passed over
passed_over : cookie_texts (record { name = codes "Cookie"; value = codes "s=1" } ∷ record { name = codes "SET-COOKIE"; value = codes "t=1" } ∷ []) ≡ codes "t=1" ∷ []
passed_over = refl

-- ---- what is done

-- a first load sends nothing and stores the cookie of its response: it is sent before that is stored
first_load : (request [] 7 (top_use (site a) (address a) method.Get true) (stores (codes "s=1")) no_shared_cells no_holdings).body ≡ Load None (codes "added" ∷ [])
first_load = λ i. answer (record { own = get_none a i; partition = nothing_partitioned (record { top = site a; bit = false; domain = a }) i })
  where
    how : CookieUse
    how = top_use (site a) (address a) method.Get true

    answer : BothCells → PlainBody
    answer both = Load (header how both) (store_texts [] 7 how (both_marked 7 how both) (cookie_texts (stores (codes "s=1")))).words

-- what is sent is used, in the last use too; a script's reading is no use
used : (both_marked 9 (top_use (site a) (address a) method.Get true) (own (cookie (codes "s") ∷ []))).own ≡ record (cookie (codes "s")) { last = pos 9 } ∷ []
used = refl

reading_leaves : (cells : SharedCells) (held : Holdings) → (read_cookies [] 9 (site a) reader cells held).cells ≡ cells
reading_leaves cells held = refl
