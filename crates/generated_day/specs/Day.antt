-- The lines of a generated day: 20 tabs are opened, and then 5,000 lines are drawn.
-- Source: none. Our own choice: all of it. What a line asks for is said in docs/FORMATS.md, and a
-- field that is not named here has its default there.
use Rattle.std.specs.Prelude.{ℕ, zero, suc, ◌+◌, ◌-◌, ◌==◌, true, false, if◌then◌else◌}
use Rattle.std.specs.Prelude.{List, [], ◌∷◌, ◌++◌, map, codes, decimal, None}
use Rattle.std.specs.List.{range_with_len}
use Rattle.unwinding.specs.Admissible.{Acts}
use Rattle.origin_site.specs.Address.{PlainAddress}
use Rattle.origin_site.specs.Origin.{root_address, default_origin}
use Rattle.storage_events.specs.declared.event.AreaKind.{AreaKind}
use Rattle.storage_events.specs.declared.event.AreaKind.TheVariants.{Local, Session}
use Rattle.script_actions.specs.Action.{PlainStep, DocumentAction, HeadField, Act, Tick, Open, Go}
use Rattle.script_actions.specs.Action.{Frame, Fetch, Set, Get, SetCookie}
use Rattle.script_actions.specs.declared.words.Method.TheVariants as method
use Rattle.generated_day.specs.Draws.{first_state, next, draw, one_draw, two_draws}

-- ---- the parts of lines

-- a name and a number
abbrev pub numbered : List ℕ → ℕ → List ℕ
numbered name n = name ++ decimal n

-- the address `https://NAME.test/` of a name with a number. An address has its parts beside its
-- text: it is the root of the https origin of this host, at the default port.
abbrev pub address : List ℕ → ℕ → PlainAddress
address name n = root_address (default_origin true false (name ++ (decimal n ++ codes ".test")))

-- what the document of a tab in a frame does; frame 0 is the tab's top document
abbrev pub in_frame : ℕ → ℕ → DocumentAction → PlainStep
in_frame tab frame action = Acts (Act (record { tab = tab; frame = frame }) action)

-- a header field `Set-Cookie`, whose cookie has this number
abbrev pub set_cookie : ℕ → HeadField
set_cookie n = record {
  name = codes "Set-Cookie";
  value = codes "c" ++ (decimal n ++ codes "=1; Secure; SameSite=None; Partitioned; Max-Age=1000");
}

-- the text of a cookie of this number and value
abbrev pub cookie_text : ℕ → ℕ → List ℕ
cookie_text n value =
    codes "d" ++ (decimal n ++ (codes "=" ++ (decimal value ++ codes "; Max-Age=1000")))

-- ---- lines, by the numbers in them

-- the line that opens a tab
abbrev pub open_line : ℕ → PlainStep
open_line tab = Acts (Open tab (address (codes "s") (tab - 1)) None false method.Get [])

-- the line that loads a tab's next document
abbrev pub go_line : ℕ → ℕ → PlainStep
go_line tab a = Acts (Go tab (address (codes "s") a) false method.Get [])

-- the line that puts a pair into an area of a tab's top document
abbrev pub set_line : AreaKind → ℕ → ℕ → ℕ → PlainStep
set_line area tab a b =
    in_frame tab 0 (Set area (numbered (codes "k") a) (numbered (codes "v") b))

-- the line that reads a name of the local area of a tab's top document
abbrev pub get_line : ℕ → ℕ → PlainStep
get_line tab a = in_frame tab 0 (Get Local (numbered (codes "k") a))

-- the line that puts a frame below a tab's top document
abbrev pub frame_line : ℕ → ℕ → PlainStep
frame_line tab a = in_frame tab 1 (Frame 0 (address (codes "w") a) None false [])

-- the line by which a tab's top document fetches an address, whose answer sets a cookie
abbrev pub fetch_line : ℕ → ℕ → ℕ → PlainStep
fetch_line tab a b =
    in_frame tab 0 (Fetch (address (codes "w") a) method.Get (set_cookie b ∷ []))

-- the line by which a tab's top document sets a cookie
abbrev pub setcookie_line : ℕ → ℕ → ℕ → PlainStep
setcookie_line tab a b = in_frame tab 0 (SetCookie (cookie_text a b))

-- the line that lets so many seconds pass
abbrev pub tick_line : ℕ → PlainStep
tick_line s = Acts (Tick s)

-- ---- the day

-- how many tabs a day has, from 1 on
abbrev pub day_tabs : ℕ
day_tabs = 20

-- how many of a day's lines are drawn
abbrev pub drawn_count : ℕ
drawn_count = 5000

-- The line of a kind, which is 0 to 7, of a tab: the row's draws from left to right, below their
-- limits, are the numbers in the line. And the state after them.
abbrev pub row : ℕ → ℕ → ℕ → PlainStep × ℕ
row kind tab =
    if kind == 0 then one_draw 40 (go_line tab)
    else (if kind == 1 then two_draws 10 100 (set_line Local tab)
    else (if kind == 2 then one_draw 10 (get_line tab)
    else (if kind == 3 then one_draw 10 (frame_line tab)
    else (if kind == 4 then two_draws 10 10 (fetch_line tab)
    else (if kind == 5 then two_draws 10 100 (setcookie_line tab)
    else (if kind == 6 then one_draw 10 tick_line
    else two_draws 10 100 (set_line Session tab)))))))

-- a line that is drawn from a state, and the state after it: its tab, its kind, and the draws of
-- its row
unfoldable pub drawn_line : ℕ → PlainStep × ℕ
drawn_line x = row (draw 8 (next x)) (1 + draw day_tabs x) (next (next x))

-- so many lines, drawn one behind the other from a state
unfoldable pub drawn_lines : ℕ → ℕ → List PlainStep
drawn_lines zero x = []
drawn_lines (suc n) x = (drawn_line x).0 ∷ drawn_lines n (drawn_line x).1

-- the tabs are opened, one line each
unfoldable pub open_lines : List PlainStep
open_lines = map open_line (range_with_len 1 day_tabs)

-- the lines of the day of a seed
unfoldable pub day_lines : ℕ → List PlainStep
day_lines seed = open_lines ++ drawn_lines drawn_count (first_state seed)

-- how many lines a day has
abbrev pub day_length : ℕ
day_length = day_tabs + drawn_count

-- the numbers of a day's lines, from this one on
unfoldable pub numbers_from : ℕ → List ℕ
numbers_from first = range_with_len first (day_length + 1 - first)
