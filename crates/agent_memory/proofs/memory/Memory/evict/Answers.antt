use Rattle.std.proofs.Common.{ap}
use Rattle.origin_site.specs.Plain.{plain_site}
use Rattle.live_state.specs.Tabs.{PlainLive}
use Rattle.web_cookies.specs.Stored.{shared_in}
use Rattle.reply_lines.specs.Reply.{Cleared}
use Rattle.script_actions.specs.Action.{Evict}
use Rattle.agent_memory.specs.AgentState.{places_in}
use Rattle.agent_memory.proofs.StandingLemmas.{reply_as, runs_from, runs_still}
use Rattle.agent_memory.proofs.RunsLemmas.{changes_evicted, runs_evicted, runs_stays, runs_unchanged, standing_evicted, standing_stays}
use Rattle.agent_memory.proofs.WritesLemmas.{line_written}
use Rattle.agent_memory.proofs.memory.Memory.evict.Goals as goal

pub returns-in_err-named-clause-runs : goal.returns-in_err-named-clause-runs
returns-in_err-named-clause-runs c =
    runs_still c.self.view_is (runs_unchanged _ (Evict (plain_site c.args.site.now))
    tt c.from_residual.result c.from_residual.ensures.0)

pub invariant_of-self : goal.invariant_of-self
invariant_of-self c =
    let evicted = c.in_err-cleared.ensures in
    standing_stays _ c.self.invariant _ _ _ _ (ap (λ (live : PlainLive). places_in live.tabs) evicted.live)
    (ap shared_in evicted.cookies) evicted.unchanged

pub returns-in_err-cleared-clause-runs : goal.returns-in_err-cleared-clause-runs
returns-in_err-cleared-clause-runs c =
    let evicted = c.in_err-cleared.ensures in
    runs_from c.self.view_is
    (runs_stays _ c.self.invariant _ _ _ _ (ap (λ (live : PlainLive). places_in live.tabs) evicted.live)
    (ap shared_in evicted.cookies) evicted.unchanged
    (Evict (plain_site c.args.site.now)) tt c.from_residual-in_err-cleared.result c.from_residual-in_err-cleared.ensures.0)

pub invariant_of-self-2 : goal.invariant_of-self-2
invariant_of-self-2 c =
    let evicted = c.in_ok-cleared.ensures in
    standing_evicted _ c.self.invariant (plain_site c.args.site.now) _ _ _ _
    (ap (λ (live : PlainLive). places_in live.tabs) evicted.live) (ap shared_in evicted.cookies) evicted.held

pub returns-clause-runs : goal.returns-clause-runs
returns-clause-runs c =
    let site = plain_site c.args.site.now in
    let evicted = c.in_ok-cleared.ensures in
    runs_from c.self.view_is
    (runs_evicted _ c.self.invariant site _ _ _ _ (ap (λ (live : PlainLive). places_in live.tabs)
    evicted.live) (ap shared_in evicted.cookies) evicted.held c.replied.result
    (reply_as (Evict site) c.replied.result c.replied.ensures c.in_ok-named.ensures.same (ap Cleared evicted.count)))

pub returns-clause-written : goal.returns-clause-written
returns-clause-written c =
    let site = plain_site c.args.site.now in
    line_written (Evict site) _ _ c.self.view_is site _ (changes_evicted _ c.self.invariant site)
    c.args.body.now.bytes c.evict.new.body.bytes c.in_ok-cleared.ensures.changes
