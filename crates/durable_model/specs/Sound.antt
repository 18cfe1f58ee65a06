-- The worlds that a run reaches, and the durable states that it keeps.
-- Source: none; these are what the general law asks its facts of.
use Rattle.std.specs.Prelude.{◌≡◌, ◌≤◌, ℕ, List, Option, Some, None}
use Rattle.unwinding.specs.FiniteCells.{get_cell}
use Rattle.unwinding.specs.Durable.{IsKeptOf}
use Rattle.suffix_list.specs.Suffix.{Rule}
use Rattle.origin_site.specs.Site.{PlainSite}
use Rattle.frame_tree.specs.Tree.{IsTree, top_site}
use Rattle.live_state.specs.Tabs.{PlainTab}
use Rattle.cookie_jar.specs.Cookie.{PlainCookie, copies}
use Rattle.agent_model.specs.CookieCells.{Domain, domain_order}
use Rattle.agent_model.specs.PartitionedCells.{PartitionedKey, partitioned_order}
use Rattle.agent_model.specs.Partition.{tab_named}
use Rattle.agent_model.specs.Lines.{AgentWorld}
use Rattle.agent_model.specs.TheMachine.{IsSound, machine}
use Rattle.durable_model.specs.Saved.{IsKeptCell, Saved}
use Rattle.durable_model.specs.Keeping.{AgentDurable, durable_of, keeping}

-- the frames of an open tab are a tree, and its top document is of this site
abbrev pub IsTabOf : PlainSite → Option PlainTab → Type 0
IsTabOf site None = Unit {0}
IsTabOf site (Some tab) = IsTree tab.frames × (top_site tab.frames ≡ Some site)

-- a world as runs reach it: each partition is its own site's and has the tabs at that site, and no
-- cell has two cookies that are the same
pub record IsSoundWorld (world : AgentWorld) : Type 0 where
  pub own : IsSound world
  pub tabs : (site : PlainSite) (tab : ℕ)
      → IsTabOf site (tab_named tab (world.partition site).held)
  pub shared : (domain : Domain) (c : PlainCookie)
      → copies c (get_cell domain_order world.cells domain) ≤ 1
  pub partitioned : (site : PlainSite) (key : PartitionedKey) (c : PlainCookie)
      → copies c (get_cell partitioned_order (world.partition site).held.cookies key) ≤ 1

-- a durable state whose cells are such as outlive a restart
pub record IsValidState (d : AgentDurable) : Type 0 where
  pub shared : (domain : Domain) → IsKeptCell (get_cell domain_order d.cells domain)
  pub partitioned : (site : PlainSite) (key : PartitionedKey)
      → IsKeptCell (get_cell partitioned_order (d.partition site).cookies key)

-- a durable state is what is kept of a world, at each site and of each cell
abbrev pub IsSavedOf : List Rule → AgentWorld → Saved → Type 0
IsSavedOf rules world d = IsKeptOf (machine rules) keeping world (durable_of d)
