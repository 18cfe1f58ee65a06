-- What becomes of a tab, which documents go by it, and what leaves with them.
-- Source: HTML, "Navigables" (a navigable is destroyed with its documents) and "Navigation" (a
-- document is replaced by another), "Web storage", the broadcast of a storage object.
-- Our own choice: the events that wait for a document go with it, as do its activation and its
-- storage access, which stand in the document. Its areas stay. A tab that goes to another site is
-- gone from this one.
use Rattle.std.specs.Prelude.{ℕ, ◌==◌, Bool, List, Option}
use Rattle.agent_base.specs.declared.refusals.Label.{Label}
use Rattle.frame_tree.specs.Tree.{PlainFrame}
use Rattle.live_state.specs.Queues.{goes}
use Rattle.live_state.specs.Tabs.{PlainTab, made_tab}
use Rattle.agent_model.specs.Partition.{Holdings, with_tab, without_tab}

-- what becomes of a tab: it has these frames, of which one may have a fresh document, after what it
-- was before; or it is gone from its site
pub data TabChange : Type 0 where
  Framed : (frames : List PlainFrame) (fresh : Option ℕ) (before : Option PlainTab) → TabChange
  Gone : TabChange

-- a document goes: its frame is not there afterwards, or has a fresh one
abbrev pub goes_by : ℕ → TabChange → Label → Bool
goes_by number (Framed frames fresh before) at = goes number frames fresh at
goes_by number Gone at = at.tab == number

-- What is held after a change of a tab. Each way by which a document goes passes here, and what is
-- held of those that go by `goes_by` leaves here alone.
abbrev pub tab_becomes : ℕ → TabChange → Holdings → Holdings
tab_becomes number (Framed frames fresh before) held =
    with_tab number (made_tab number frames fresh before) held
tab_becomes number Gone held = without_tab number held
