-- The open tabs in the order of their numbers, each in a slot. A tab that comes or goes moves the
-- slot numbers of those behind it, and at most one tab.
-- Source: none.
use Rattle.std.specs.Prelude.{◌≡◌, ◌<◌, ◌≤◌, ◌+◌, ◌==◌, ℕ, List, [], length, map, slice_index_or, vec_capacity, if◌then◌else◌}
use Rattle.std.specs.Global.{Vec}
use Rattle.std.specs.List.{All}
use Rattle.live_state.specs.ExistingQueues.{PlainOpenTab}

-- what is seen of a list of open tabs: the tabs, and the number of tabs more that take no memory
pub record PlainTabList : Type 0 where
  pub items : List PlainOpenTab
  pub room : ℕ

-- no tab, which stands for a slot that is not there
abbrev pub no_tab : PlainOpenTab
no_tab = record { plain = record { number = 0; frames = []; queues = [] }; ready = [] }

-- the tab in a slot
abbrev pub in_slot : List PlainOpenTab → ℕ → PlainOpenTab
in_slot slots slot = slice_index_or slots slot no_tab

-- the tabs in these slots, in this order
abbrev pub in_slots : List ℕ → List PlainOpenTab → List PlainOpenTab
in_slots order slots = map (in_slot slots) order

-- there is a slot for each tab, and room for more, of which no slot has a number over 65,535
pub record AreSlots (order : Vec ℕ) (slots : Vec PlainOpenTab) (room : ℕ) : Type 0 where
  pub each : length order.items ≡ length slots.items
  pub there : All (λ slot. slot < length slots.items) order.items
  pub order_room : length slots.items + room ≤ vec_capacity order
  pub slots_room : length slots.items + room ≤ vec_capacity slots
  pub fits : length slots.items + room ≤ 65536

-- slots of which one has another number
abbrev pub renamed : (from to : ℕ) → List ℕ → List ℕ
renamed from to slots = map (λ slot. if slot == from then to else slot) slots
