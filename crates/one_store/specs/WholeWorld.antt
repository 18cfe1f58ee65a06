-- The world of all sites, from what is held for all of them at once.
-- Source: none; these are the words of the world.
-- Our own choice: a layer that keeps one store for all sites stands for the world in which each
-- site has its part of it.
use Rattle.std.specs.Prelude.{◌≡◌, ℕ, Option, Some, None}
use Rattle.origin_site.specs.Site.{PlainSite}
use Rattle.storage_key.specs.Context.{is_of}
use Rattle.frame_tree.specs.Tree.{IsTree, top_site}
use Rattle.live_state.specs.Tabs.{PlainTab}
use Rattle.agent_model.specs.Partition.{Holdings, Partition, tab_named}
use Rattle.agent_model.specs.Effects.{SharedCells}
use Rattle.agent_model.specs.Lines.{AgentWorld, Places, site_at}
use Rattle.one_store.specs.HeldAt.{held_at}

-- what one site has, where the tabs are at these places
abbrev pub partition_at : Places → Holdings → PlainSite → Partition
partition_at places held site =
    record { site = site; held = held_at site (λ tab. is_of site (site_at tab places)) held }

-- the world of all sites, at this moment of the clock
unfoldable pub whole_world : ℕ → Places → SharedCells → Holdings → AgentWorld
whole_world now places cells held =
    record {
      partition = partition_at places held;
      cells = cells;
      rest = record { now = now; places = places };
    }

-- a tab is where its top document is, and its frames are those of a tab
abbrev pub IsPlacedAt : Option PlainSite → Option PlainTab → Type 0
IsPlacedAt place None = place ≡ None
IsPlacedAt place (Some tab) = IsTree tab.frames × (top_site tab.frames ≡ place)

-- every open tab is where its top document is, and no other tab is anywhere
abbrev pub IsPlaced : Places → Holdings → Type 0
IsPlaced places held = (tab : ℕ) → IsPlacedAt (site_at tab places) (tab_named tab held)
