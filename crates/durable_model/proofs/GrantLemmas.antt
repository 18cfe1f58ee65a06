-- What a request for storage access changes of what is kept.
use Rattle.std.proofs.Common.{List, [], Option, Some, None, refl}
use Rattle.agent_base.specs.declared.refusals.Label.{Label}
use Rattle.origin_site.specs.Site.{PlainSite}
use Rattle.access_grants.specs.declared.outcome.Outcome.{Outcome}
use Rattle.access_grants.specs.declared.permission.Permission.{Permission}
use Rattle.row_changes.specs.Change.{Grant}
use Rattle.live_state.specs.FramesInPlace.{requested}
use Rattle.live_state.specs.Tabs.{PlainTab, made_tab}
use Rattle.reply_lines.specs.Reply.{PlainBody, Plain}
use Rattle.agent_model.specs.CookieCells.{Domain}
use Rattle.agent_model.specs.Partition.{Holdings, with_tab}
use Rattle.agent_model.specs.Effects.{SharedCells}
use Rattle.agent_model.specs.StorageAccess.{decision_word, done_by, grants_requested, keeps_grant, row_of}
use Rattle.durable_model.proofs.FollowsLemmas.{DoneFollows, IsOnce, one_follows, rows_of, stays}

module _ (site : PlainSite) (names : List Domain) (cells : SharedCells) (held : Holdings) (once : IsOnce cells held.cookies) where
  -- what is kept of a request is kept under the site that the tab is at
  keeps_follows : (permission : Option Permission) (asker : PlainSite) (body : PlainBody) → DoneFollows site names cells (rows_of held) (keeps_grant permission site asker body cells held)
  keeps_follows None asker body = stays site names cells held body once
  keeps_follows (Some permission) asker body =
      one_follows site names cells (rows_of held) (Grant (row_of permission site asker))
      (record held { grants = grants_requested (Some permission) site asker held.grants }) body refl refl refl refl once

-- and so is what it comes to
pub request_follows : (site : PlainSite) (names : List Domain) (cells : SharedCells) (held : Holdings) → IsOnce cells held.cookies → (outcome : Option Outcome) (at : Label) (tab : PlainTab) (asker : PlainSite)
    → DoneFollows site names cells (rows_of held) (done_by outcome at tab site asker cells held)
request_follows site names cells held once None at tab asker = stays site names cells held (Plain []) once
request_follows site names cells held once (Some outcome) at tab asker =
    let made = made_tab at.tab (requested outcome.sets_flag outcome.consumes at.frame tab.frames) None (Some tab) in
    keeps_follows site names cells (with_tab at.tab made held) once outcome.kept asker (Plain (decision_word outcome.decision))
