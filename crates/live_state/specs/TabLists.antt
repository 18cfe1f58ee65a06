-- What the open tabs are after a write through one that was lent.
use Rattle.std.specs.Prelude.{ℕ, slice_set}
use Rattle.std.specs.Borrow.{Lends, MutBor, Fml}
use Rattle.live_state.specs.ExistingQueues.{PlainOpenTab}
use Rattle.live_state.specs.OpenTabs.{PlainTabList}
use Rattle.live_state.specs.contracts.open_tab.OpenTab as open_tab
use Rattle.live_state.specs.contracts.tab_list.TabList as tab_list

-- the tabs with another at this place
abbrev pub with_open_tab : PlainTabList → ℕ → PlainOpenTab → PlainTabList
with_open_tab list place tab = record { items = slice_set list.items place tab; room = list.room }

-- the tabs end with the last one behind r at this place
abbrev pub LendsTab : MutBor PlainTabList → ℕ → MutBor PlainOpenTab → Fml
LendsTab s place r = Lends tab_list.the_row open_tab.the_row s r (with_open_tab s.now place)
