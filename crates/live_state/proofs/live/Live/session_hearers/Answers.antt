-- Those of the writer's tab are all.
use Rattle.std.proofs.Common.{◌≡◌, ◌++◌, true, ap, sym, ◌∙◌}
use Rattle.storage_key.specs.Plain.{plain_key}
use Rattle.storage_events.specs.declared.event.AreaKind.TheVariants.{Session}
use Rattle.live_state.specs.Hearers.{hearers_by}
use Rattle.live_state.specs.Tabs.{is_rising, tab_at}
use Rattle.live_state.proofs.HearerLemmas.{hearers-session}
use Rattle.live_state.proofs.live.Live.session_hearers.Goals as goal

pub returns-clause-hearers : goal.returns-clause-hearers
returns-clause-hearers c =
    let rising : is_rising c.args.self.now.tabs ≡ true = ap (λ live. is_rising live.tabs) (sym c.self.view_is) ∙ c.self.invariant.rising in
    c.in_ok-list_hearers.ensures.listed
    ∙ ap (λ l. l ++ hearers_by Session c.args.writer (plain_key c.args.key.now) (tab_at c.args.writer.tab c.args.self.now.tabs)) c.new-to.ensures.items
    ∙ sym (hearers-session c.args.writer (plain_key c.args.key.now) c.args.self.now.tabs rising)
