-- What persisting a bucket changes of what is kept.
use Rattle.std.proofs.Common.{◌≡◌, Bool, true, false, not, List, Some, refl, ap}
use Rattle.origin_site.specs.Site.{PlainSite}
use Rattle.row_changes.specs.Change.{SetMode}
use Rattle.script_actions.specs.declared.words.Prompt.{Prompt}
use Rattle.reply_lines.specs.Reply.{Truth}
use Rattle.agent_model.specs.CookieCells.{Domain}
use Rattle.agent_model.specs.Partition.{Holdings}
use Rattle.agent_model.specs.Effects.{SharedCells}
use Rattle.agent_model.specs.Documents.{Keyed}
use Rattle.agent_model.specs.Buckets.{is_grant, is_persistent, made_persistent, persist, persist_by}
use Rattle.durable_model.proofs.FollowsLemmas.{DoneFollows, IsOnce, one_follows, rows_of, stays}

module _ (site : PlainSite) (names : List Domain) (cells : SharedCells) (held : Holdings) (once : IsOnce cells held.cookies) where
  -- a bucket becomes persistent by a grant, where it is not so yet
  pub persist_follows : (answer : Prompt) (asker : Keyed) → asker.key.top ≡ site → DoneFollows site names cells (rows_of held) (persist answer asker cells held)
  persist_follows answer asker under = by (is_persistent asker.key held) (is_grant answer) refl
    where
      by : (before granted : Bool) → is_persistent asker.key held ≡ before → DoneFollows site names cells (rows_of held) (persist_by before granted asker cells held)
      by true granted is = stays site names cells held (Truth true) once
      by false true is =
          one_follows site names cells (rows_of held) (SetMode asker.key) (made_persistent asker.key held) (Truth true) refl (ap Some under) (ap not is) refl once
      by false false is = stays site names cells held (Truth false) once
