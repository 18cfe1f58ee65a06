use Rattle.std.proofs.Common.{◌≡◌, map, sym, ap, subst, ◌∙◌}
use Rattle.std.specs.Prelude.{is_some}
use Rattle.origin_site.specs.Plain.{plain_address}
use Rattle.origin_site.specs.Site.{site_of_address}
use Rattle.reply_lines.specs.Plain.{body_of}
use Rattle.script_actions.specs.Plain.{head_field_of}
use Rattle.script_actions.specs.Action.{Go}
use Rattle.agent_model.specs.Lines.{is_same_site}
use Rattle.agent_model.specs.Sessions.{arrive}
use Rattle.agent_memory.specs.Actions.{IsLoaded}
use Rattle.agent_memory.specs.HoldingsView.{cells_of, held_of}
use Rattle.agent_memory.specs.Requests.{starter_in}
use Rattle.agent_memory.proofs.StandingLemmas.{changes_without_tab, nowhere_is, place_is, reply_as, runs_from, runs_still, runs_without_tab, tab_there}
use Rattle.agent_memory.proofs.RunsLemmas.{by_tab, changes_gone, runs_gone, runs_stays, standing_gone}
use Rattle.row_changes.specs.Appended.{IsAppended}
use Rattle.agent_memory.proofs.WritesLemmas.{line_none, line_written}
use Rattle.agent_memory.proofs.memory.Memory.go.Goals as goal
use Rattle.agent_memory.proofs.memory.Memory.go.Goals.{then-by_page, else-by_page}

pub returns-then-not-is_open-clause-runs : goal.returns-then-not-is_open-clause-runs
returns-then-not-is_open-clause-runs c =
    let tab = c.args.tab in
    runs_still c.self.view_is
    (runs_without_tab (Go tab (plain_address c.args.url.now) c.args.by_page c.args.method
    (map head_field_of c.args.head.now)) _ c.self.invariant c.refused.result
    (nowhere_is tab _ (sym c.if-not-is_open.ensures.«open»)) c.refused.ensures)

pub returns-in_err-site-clause-runs : goal.returns-in_err-site-clause-runs
returns-in_err-site-clause-runs c =
    let stays = c.in_err-site.ensures.unchanged in
    let tab = tab_there c.args.tab c.self.inside.held.live.tabs (sym c.if-not-is_open.ensures.«open») in
    let event = ap is_some (place_is _ c.args.tab c.self.invariant tab.0 tab.1).1 in
    runs_from c.self.view_is
    (runs_stays _ c.self.invariant _ _ _ _ stays.places stays.cells stays.held
    (Go c.args.tab (plain_address c.args.url.now) c.args.by_page c.args.method (map head_field_of c.args.head.now)) event
    c.from_residual.result c.from_residual.ensures.0)

-- who starts it
starter_is : (c : goal.After-replied) → c.if-by_page.starter ≡ by_tab c.args.by_page c.args.tab
starter_is c =
    elim c.if-by_page.branch [
      | then-by_page w ↦ w.starter-is ∙ sym (ap (λ b. by_tab b c.args.tab) w.if-by_page.true)
      | else-by_page w ↦ w.starter-is ∙ sym (ap (λ b. by_tab b c.args.tab) w.if-by_page.false)
    ]

-- the load, by who starts it
loaded : (c : goal.After-replied) → let here = c.self.inside in
    let target = site_of_address here.input.list.now.rules (plain_address c.args.url.now) in
    IsLoaded (arrive here.input.list.now.rules here.input.clock target c.args.tab (plain_address c.args.url.now)
    c.args.method (is_same_site (starter_in (by_tab c.args.by_page c.args.tab) here.held.live.tabs) target)
    (map head_field_of c.args.head.now) (cells_of here.held) (held_of here.held))
    c.args.tab target here.held c.arrive.new.self (body_of c.in_ok-site.load)
loaded c =
    let here = c.self.inside in
    let target = site_of_address here.input.list.now.rules (plain_address c.args.url.now) in
    subst (λ starter. IsLoaded (arrive here.input.list.now.rules here.input.clock target c.args.tab
    (plain_address c.args.url.now) c.args.method (is_same_site (starter_in starter here.held.live.tabs) target)
    (map head_field_of c.args.head.now) (cells_of here.held) (held_of here.held))
    c.args.tab target here.held c.arrive.new.self (body_of c.in_ok-site.load)) (starter_is c) c.in_ok-site.ensures.loaded

pub invariant_of-self-2 : goal.invariant_of-self-2
invariant_of-self-2 c =
    let there = tab_there c.args.tab c.self.inside.held.live.tabs (sym c.if-not-is_open.ensures.«open») in
    let place = place_is _ c.args.tab c.self.invariant there.0 there.1 in
    let load = loaded c in
    standing_gone _ c.self.invariant c.args.tab (plain_address c.args.url.now) c.args.by_page c.args.method
    (map head_field_of c.args.head.now) there.0 there.1 place.0 place.1 _ _ _ _ load.places load.cells load.held

pub returns-clause-runs : goal.returns-clause-runs
returns-clause-runs c =
    let url = plain_address c.args.url.now in
    let head = map head_field_of c.args.head.now in
    let there = tab_there c.args.tab c.self.inside.held.live.tabs (sym c.if-not-is_open.ensures.«open») in
    let place = place_is _ c.args.tab c.self.invariant there.0 there.1 in
    let load = loaded c in
    runs_from c.self.view_is
    (runs_gone _ c.self.invariant c.args.tab url c.args.by_page c.args.method head there.0 there.1 place.0
    place.1 _ _ _ _ load.places load.cells load.held c.replied.result
    (reply_as (Go c.args.tab url c.args.by_page c.args.method head)
    c.replied.result c.replied.ensures c.in_ok-site.ensures.site load.answer))

pub returns-then-not-is_open-clause-written : goal.returns-then-not-is_open-clause-written
returns-then-not-is_open-clause-written c =
    let tab = c.args.tab in
    let line = Go tab (plain_address c.args.url.now) c.args.by_page c.args.method (map head_field_of c.args.head.now) in
    line_none line _ _ c.self.view_is (changes_without_tab line _ c.self.invariant
    (nowhere_is tab _ (sym c.if-not-is_open.ensures.«open»))) c.args.body.now.bytes

pub returns-clause-written : goal.returns-clause-written
returns-clause-written c =
    let here = c.self.inside in
    let url = plain_address c.args.url.now in
    let head = map head_field_of c.args.head.now in
    let target = site_of_address here.input.list.now.rules url in
    let there = tab_there c.args.tab c.self.inside.held.live.tabs (sym c.if-not-is_open.ensures.«open») in
    let place = place_is _ c.args.tab c.self.invariant there.0 there.1 in
    line_written (Go c.args.tab url c.args.by_page c.args.method head) _ _ c.self.view_is target _
    (changes_gone _ c.self.invariant c.args.tab url c.args.by_page c.args.method head there.0 there.1 place.0
    place.1) c.args.body.now.bytes c.arrive.new.body.bytes
    (subst (λ starter. IsAppended (arrive here.input.list.now.rules here.input.clock target c.args.tab url c.args.method
    (is_same_site (starter_in starter here.held.live.tabs) target) head (cells_of here.held) (held_of here.held)).changes
    c.args.body.now.bytes c.arrive.new.body.bytes) (starter_is c) c.in_ok-site.ensures.changes)
