-- The table of all lines but `disk`, each with its row.
-- Source: the script format of docs/FORMATS.md. Our own choice: all of it.
use Rattle.std.specs.Prelude.{ℕ, false, List, [], ◌∷◌, codes, None}
use Rattle.script_actions.specs.Action.{Tick, Open, Close, Go, Frame, Nav, Drop, Click, Fetch, Set}
use Rattle.script_actions.specs.Action.{Get, Del, Clear, Len, Key, Events, Cookie, SetCookie}
use Rattle.script_actions.specs.Action.{Has, Request, Persisted, Estimate, Persist, Evict, PlainStep}
use Rattle.unwinding.specs.Admissible.{Acts, Reopens}
use Rattle.script_lines.specs.Fields.{required, defaulted, whole, any_text, truth, site_name}
use Rattle.script_lines.specs.Fields.{loader, navigator, prompt_answer, consent, optional}
use Rattle.script_lines.specs.Rows.{Row, acts, document_row, area_row, name_row, tab, frame}
use Rattle.script_lines.specs.Rows.{inner_frame, url, method_field, head, area, key}
use Rattle.script_lines.specs.Rows.{tab_number, frame_number}

-- the clock is moved by so many seconds
abbrev pub tick_row : Row PlainStep
tick_row = record {
  fields = required (codes "s") (whole 0 1000000000) ∷ [];
  gives = λ (s, _). Acts (Tick s);
}

-- the power fails and comes back, and the store is opened again
abbrev pub restart_row : Row PlainStep
restart_row = record { fields = []; gives = λ _. Reopens }

-- a tab is opened at an address, by the top document of the opener or by the user
abbrev pub open_row : Row PlainStep
open_row = record {
  fields = tab ∷ url ∷ defaulted (codes "opener") (optional tab_number) None
      ∷ defaulted (codes "noopener") truth false ∷ method_field ∷ head ∷ [];
  gives = λ (tab, (url, (opener, (noopener, (method, (head, _)))))).
      Acts (Open tab url opener noopener method head);
}

-- a tab is closed
abbrev pub close_row : Row PlainStep
close_row = record { fields = tab ∷ []; gives = λ (tab, _). Acts (Close tab) }

-- a tab goes to an address, by the user or by its page
abbrev pub go_row : Row PlainStep
go_row = record {
  fields = tab ∷ url ∷ defaulted (codes "by") loader false ∷ method_field ∷ head ∷ [];
  gives = λ (tab, (url, (by_page, (method, (head, _))))). Acts (Go tab url by_page method head);
}

-- a frame is added below its parent, at an address
abbrev pub frame_row : Row PlainStep
frame_row = record {
  fields = tab ∷ inner_frame ∷ defaulted (codes "parent") frame_number 0 ∷ url
      ∷ defaulted (codes "sandbox") (optional any_text) None
      ∷ defaulted (codes "deny") truth false ∷ head ∷ [];
  gives = λ (tab, (frame, (parent, (url, (sandbox, (deny, (head, _))))))).
      acts tab frame (Frame parent url sandbox deny head);
}

-- a frame goes to an address, by its parent's document or by its own
abbrev pub nav_row : Row PlainStep
nav_row = record {
  fields = tab ∷ inner_frame ∷ url ∷ defaulted (codes "by") navigator false
      ∷ method_field ∷ head ∷ [];
  gives = λ (tab, (frame, (url, (by_self, (method, (head, _)))))).
      acts tab frame (Nav url by_self method head);
}

-- a frame is removed
abbrev pub drop_row : Row PlainStep
drop_row = record {
  fields = tab ∷ inner_frame ∷ [];
  gives = λ (tab, (frame, _)). acts tab frame Drop;
}

-- a user clicks on the document
abbrev pub click_row : Row PlainStep
click_row = document_row Click

-- the document requests an address
abbrev pub fetch_row : Row PlainStep
fetch_row = record {
  fields = tab ∷ frame ∷ url ∷ method_field ∷ head ∷ [];
  gives = λ (tab, (frame, (url, (method, (head, _))))).
      acts tab frame (Fetch url method head);
}

-- a name of an area gets a value
abbrev pub set_row : Row PlainStep
set_row = record {
  fields = tab ∷ frame ∷ area ∷ key ∷ required (codes "value") any_text ∷ [];
  gives = λ (tab, (frame, (area, (key, (value, _))))). acts tab frame (Set area key value);
}

-- the value of a name of an area is asked for
abbrev pub get_row : Row PlainStep
get_row = name_row Get

-- a name of an area is removed, with its value
abbrev pub del_row : Row PlainStep
del_row = name_row Del

-- an area is emptied
abbrev pub clear_row : Row PlainStep
clear_row = area_row Clear

-- the number of names of an area is asked for
abbrev pub len_row : Row PlainStep
len_row = area_row Len

-- the name at a place of an area is asked for, from 0 on
abbrev pub key_row : Row PlainStep
key_row = record {
  fields = tab ∷ frame ∷ area ∷ required (codes "n") (whole 0 4294967295) ∷ [];
  gives = λ (tab, (frame, (area, (n, _)))). acts tab frame (Key area n);
}

-- the storage events that the document has are taken
abbrev pub events_row : Row PlainStep
events_row = document_row Events

-- a script of the document reads its cookies
abbrev pub cookie_row : Row PlainStep
cookie_row = document_row Cookie

-- a script of the document sets a cookie by a Set-Cookie text
abbrev pub setcookie_row : Row PlainStep
setcookie_row = record {
  fields = tab ∷ frame ∷ required (codes "text") any_text ∷ [];
  gives = λ (tab, (frame, (text, _))). acts tab frame (SetCookie text);
}

-- whether the document has access to its unpartitioned cookies
abbrev pub has_row : Row PlainStep
has_row = document_row Has

-- the document requests that access, and the user answers
abbrev pub request_row : Row PlainStep
request_row = record {
  fields = tab ∷ frame ∷ required (codes "answer") prompt_answer ∷ [];
  gives = λ (tab, (frame, (answer, _))). acts tab frame (Request answer);
}

-- whether the bucket of the document is persistent
abbrev pub persisted_row : Row PlainStep
persisted_row = document_row Persisted

-- what the local area of the document weighs is asked for
abbrev pub estimate_row : Row PlainStep
estimate_row = document_row Estimate

-- the document asks for a persistent bucket, and the user answers
abbrev pub persist_row : Row PlainStep
persist_row = record {
  fields = tab ∷ frame ∷ required (codes "answer") consent ∷ [];
  gives = λ (tab, (frame, (answer, _))). acts tab frame (Persist answer);
}

-- the local areas under a top-level site are emptied
abbrev pub evict_row : Row PlainStep
evict_row = record {
  fields = required (codes "site") site_name ∷ [];
  gives = λ (site, _). Acts (Evict site);
}

-- what lines may ask for, by their names
unfoldable pub table : List (List ℕ × Row PlainStep)
table =
    (codes "tick", tick_row) ∷ (codes "restart", restart_row) ∷ (codes "open", open_row)
    ∷ (codes "close", close_row) ∷ (codes "go", go_row) ∷ (codes "frame", frame_row)
    ∷ (codes "nav", nav_row) ∷ (codes "drop", drop_row) ∷ (codes "click", click_row)
    ∷ (codes "fetch", fetch_row) ∷ (codes "set", set_row) ∷ (codes "get", get_row)
    ∷ (codes "del", del_row) ∷ (codes "clear", clear_row) ∷ (codes "len", len_row)
    ∷ (codes "key", key_row) ∷ (codes "events", events_row) ∷ (codes "cookie", cookie_row)
    ∷ (codes "setcookie", setcookie_row) ∷ (codes "has", has_row)
    ∷ (codes "request", request_row) ∷ (codes "persisted", persisted_row)
    ∷ (codes "estimate", estimate_row) ∷ (codes "persist", persist_row)
    ∷ (codes "evict", evict_row) ∷ []
