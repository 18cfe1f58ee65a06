-- Values from outside, so that a wrong rule in the specs does not check: the numbers of the example
-- of ISO C, and lines of the day of seed 7 that another program wrote, with the states around them.
use Rattle.std.proofs.Common.{◌≡◌, refl}
use Rattle.std.specs.Prelude.{ℕ, List, [], ◌∷◌, map, true, false, codes, None}
use Rattle.std.specs.Fmt.{digits}
use Rattle.unwinding.specs.Admissible.{Acts}
use Rattle.origin_site.specs.Address.{PlainAddress}
use Rattle.storage_events.specs.declared.event.AreaKind.TheVariants.{Local, Session}
use Rattle.script_actions.specs.Action.{Act, Tick, Open, Go, Frame, Fetch, Set, Get, SetCookie}
use Rattle.script_actions.specs.declared.words.Method.TheVariants as method
use Rattle.generated_day.specs.Draws.{next, draw, first_state}
use Rattle.generated_day.specs.Day.{drawn_line, open_line}

-- the first four numbers that the example's `rand` gives, whose first state is 1
first_number : draw 32768 1 ≡ 16838
unfolding next draw
first_number = refl

second_number : draw 32768 (next 1) ≡ 5758
unfolding next draw
second_number = refl

third_number : draw 32768 (next (next 1)) ≡ 10113
unfolding next draw
third_number = refl

fourth_number : draw 32768 (next (next (next 1))) ≡ 17515
unfolding next draw
fourth_number = refl

-- the seeds at both ends, and the least one above the states
first_seeds : map first_state (0 ∷ 7 ∷ 2147483647 ∷ 2147483648 ∷ 4294967295 ∷ []) ≡ 0 ∷ 7 ∷ 2147483647 ∷ 0 ∷ 2147483647 ∷ []
first_seeds = refl

-- the first draws of seed 7
first_draws : draw 20 7 ∷ draw 8 1282168116 ∷ draw 10 642666333 ∷ draw 20 712265938 ∷ [] ≡ 4 ∷ 6 ∷ 8 ∷ 14 ∷ []
unfolding next draw
first_draws = refl

-- an https address with this text, host and path `/`
abbrev root : List ℕ → List ℕ → PlainAddress
root text host =
    record { text = text; https = true; ip = false; host = host; port = 443; path = codes "/" }

last_open : open_line 20 ≡ Acts (Open 20 (root (codes "https://s19.test/") (codes "s19.test")) None false method.Get [])
unfolding digits
last_open = refl

-- of each kind the first line of the day of seed 7: lines 32, 36, 29, 22, 31, 24, 21 and 52
goes : drawn_line 1360256768 ≡ (Acts (Go 13 (root (codes "https://s28.test/") (codes "s28.test")) false method.Get []), 1960104671)
unfolding next draw drawn_line digits
goes = refl

sets : drawn_line 357200836 ≡ (Acts (Act (record { tab = 14; frame = 0 }) (Set Local (codes "k9") (codes "v73"))), 509413424)
unfolding next draw drawn_line digits
sets = refl

gets : drawn_line 2073554906 ≡ (Acts (Act (record { tab = 14; frame = 0 }) (Get Local (codes "k0"))), 990303489)
unfolding next draw drawn_line digits
gets = refl

adds_a_frame : drawn_line 712265938 ≡ (Acts (Act (record { tab = 15; frame = 1 }) (Frame 0 (root (codes "https://w5.test/") (codes "w5.test")) None false [])), 220562521)
unfolding next draw drawn_line digits
adds_a_frame = refl

fetches : drawn_line 1757576596 ≡ (
  Acts (Act (record { tab = 11; frame = 0 }) (Fetch (root (codes "https://w7.test/") (codes "w7.test")) method.Get
      (record { name = codes "Set-Cookie"; value = codes "c5=1; Secure; SameSite=None; Partitioned; Max-Age=1000" } ∷ []))),
  1360256768,
)
unfolding next draw drawn_line digits
fetches = refl

sets_a_cookie : drawn_line 523310796 ≡ (Acts (Act (record { tab = 14; frame = 0 }) (SetCookie (codes "d3=30; Max-Age=1000"))), 1941885880)
unfolding next draw drawn_line digits
sets_a_cookie = refl

ticks : drawn_line 7 ≡ (Acts (Tick 8), 712265938)
unfolding next draw drawn_line digits
ticks = refl

sets_in_a_session : drawn_line 1452925877 ≡ (Acts (Act (record { tab = 10; frame = 0 }) (Set Session (codes "k8") (codes "v70"))), 181536305)
unfolding next draw drawn_line digits
sets_in_a_session = refl
