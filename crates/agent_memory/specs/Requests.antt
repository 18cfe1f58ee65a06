-- Requests: who starts the load of a top document, and what is prepared for a request.
-- Source: HTML, "Navigation" (a navigation has a source document, or the user starts it).
use Rattle.std.specs.Prelude.{◌≡◌, ℕ, List, Option, Some, None, Result, Ok, Err, IfOk, MatchResult}
use Rattle.agent_base.specs.declared.refusals.NoMemory.{NoMemory}
use Rattle.suffix_list.specs.Suffix.{Rule}
use Rattle.origin_site.specs.Site.{PlainSite}
use Rattle.frame_tree.specs.declared.tab.TreeFault.{TreeFault}
use Rattle.frame_tree.specs.Tree.{top_site}
use Rattle.live_state.specs.FramesInPlace.{frames_at}
use Rattle.live_state.specs.Tabs.{PlainTab}
use Rattle.script_actions.specs.Action.{HeadField}
use Rattle.reply_lines.specs.declared.reply.ReplyBody.{ReplyBody}
use Rattle.reply_lines.specs.Plain.{body_of}
use Rattle.reply_lines.specs.Reply.{PlainBody}
use Rattle.web_cookies.specs.declared.prepared.Prepared.{Prepared}
use Rattle.web_cookies.specs.Prepared.{Prepares}
use Rattle.web_cookies.specs.Stored.{Entries, IsDoneBy, partitioned_in, shared_in}
use Rattle.agent_model.specs.CookieUse.{CookieUse}
use Rattle.agent_model.specs.Cookies.{request}
use Rattle.agent_model.specs.Effects.{Effect}
use Rattle.agent_model.specs.Lines.{Starter, User, Page}
use Rattle.agent_memory.specs.Actions.{Answered}

-- a page at this site starts a load, or the user where there is no page
abbrev pub starter_by : Option PlainSite → Starter
starter_by None = User
starter_by (Some site) = Page site

-- the page of this tab starts a load, or the user
abbrev pub starter_in : Option ℕ → List PlainTab → Starter
starter_in None tabs = User
starter_in (Some number) tabs = starter_by (top_site (frames_at number tabs))

-- what was prepared for the load of a frame was performed on these cookies where the frames have
-- it, and else what refused it is answered
abbrev pub IsPerformed : Result (Unit {0}) TreeFault → Prepared → (old new : Entries)
    → Result ReplyBody NoMemory → Type 0
IsPerformed (Ok u) prepared old new result =
    MatchResult result
    (λ body. (does : Effect) → Prepares does old prepared
    → IsDoneBy does old new (body_of body))
    (λ _. ⊥)
IsPerformed (Err why) prepared old new result =
    (new ≡ old) × ((body : PlainBody) → Answered (Err why) body result)

-- no cookie changes
pub record KeepsCookies (old new : Entries) : Type 0 where
  pub shared : shared_in new ≡ shared_in old
  pub partitioned : partitioned_in new ≡ partitioned_in old

-- a request by a use of cookies was prepared, or memory was wanting; no cookie changes
pub record IsPrepared (rules : List Rule) (now : ℕ) (how : CookieUse) (head : List HeadField)
    (old new : Entries) (result : Result Prepared NoMemory) : Type 0 where
  pub keeps : KeepsCookies old new
  pub ready : IfOk result (Prepares (request rules now how head) new)
