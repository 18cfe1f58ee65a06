-- What a line makes of the agent, and its reply; and what a tab that is opened copies.
-- Source: HTML, "Navigables"; Storage Standard, "Storage sheds", for the copies.
use Rattle.std.specs.Prelude.{◌≡◌, ℕ, Bool, true, List, Option, Some, None, Result, IfOk, IsOk}
use Rattle.std.specs.Prelude.{OnOk, OnErr}
use Rattle.unwinding.specs.World.{line_reply, world_step}
use Rattle.agent_base.specs.declared.refusals.NoMemory.{NoMemory}
use Rattle.origin_site.specs.Site.{PlainSite}
use Rattle.frame_tree.specs.Tree.{top_site}
use Rattle.live_state.specs.Queues.{frames_by}
use Rattle.live_state.specs.Tabs.{PlainTab, is_open, tab_at}
use Rattle.reply_lines.specs.declared.reply.Reply.{Reply}
use Rattle.reply_lines.specs.Plain.{reply_of}
use Rattle.script_actions.specs.Action.{PlainAction}
use Rattle.agent_model.specs.Lines.{main_event}
use Rattle.agent_model.specs.Partition.{Holdings}
use Rattle.agent_model.specs.Sessions.{copy_sessions}
use Rattle.agent_model.specs.TheMachine.{machine}
use Rattle.agent_model.specs.Isolation.{printed}
use Rattle.agent_memory.specs.AgentState.{AgentState, world_of}

-- ---- a line of the agent

-- a line was run: its reply is the world's, and the agent stands for the world after it; or memory
-- was wanting, which a line without a main event does not take, and the agent stands for the world
-- as it was
pub record Runs (action : PlainAction) (old new : AgentState) (result : Result Reply NoMemory)
    : Type 0 where
  pub reply : IfOk result (λ r.
      reply_of r ≡ printed (line_reply (machine old.rules) (world_of old) action))
  pub world : OnOk result (world_of new ≡ world_step (machine old.rules) (world_of old) action)
  pub rules : new.rules ≡ old.rules
  pub unchanged : OnErr result (world_of new ≡ world_of old)
  pub refused : main_event old.rules (world_of old) action ≡ None → IsOk result

-- ---- loads

-- the opener of a tab is open, if there is one
abbrev pub is_there : Option ℕ → List PlainTab → Bool
is_there None tabs = true
is_there (Some opener) tabs = is_open opener tabs

-- what is held with copies, for a tab, of the session areas of another under this site
abbrev pub copied_under : Option PlainSite → (from to : ℕ) → Holdings → Holdings
copied_under None from to held = held
copied_under (Some site) from to held = copy_sessions site from to held

-- the same for a tab with this opener, under the site that the opener is at
abbrev pub with_copies : Option ℕ → ℕ → List PlainTab → Holdings → Holdings
with_copies None to tabs held = held
with_copies (Some opener) to tabs held =
    copied_under (top_site (frames_by (tab_at opener tabs))) opener to held
