use Rattle.std.proofs.Common.{◌≡◌, map, sym, ap, subst, ◌∙◌}
use Rattle.std.specs.Prelude.{is_some}
use Rattle.origin_site.specs.Plain.{plain_address}
use Rattle.origin_site.specs.Site.{site_of_address}
use Rattle.reply_lines.specs.Plain.{body_of}
use Rattle.script_actions.specs.Plain.{head_field_of}
use Rattle.script_actions.specs.Action.{Open}
use Rattle.agent_model.specs.Lines.{is_same_site}
use Rattle.agent_model.specs.Sessions.{arrive}
use Rattle.agent_memory.specs.Actions.{IsLoaded}
use Rattle.agent_memory.specs.HoldingsView.{cells_of, held_of}
use Rattle.agent_memory.specs.Lines.{is_there, with_copies}
use Rattle.agent_memory.specs.Requests.{starter_in}
use Rattle.agent_memory.proofs.StandingLemmas.{nowhere_is, reply_as, runs_from, runs_still}
use Rattle.agent_memory.proofs.RunsLemmas.{runs_stays}
use Rattle.agent_memory.proofs.OpenRunsLemmas.{changes_opened, changes_taken, changes_unopened, copied_from, fresh_is, runs_opened, runs_taken, runs_unopened, standing_opened, starter_is}
use Rattle.row_changes.specs.Appended.{IsAppended}
use Rattle.agent_memory.proofs.WritesLemmas.{line_none, line_written}
use Rattle.agent_memory.proofs.memory.Memory.open.Goals as goal
use Rattle.agent_memory.proofs.memory.Memory.open.Goals.{then-noopener, else-noopener}

pub returns-then-not-is_there-clause-runs : goal.returns-then-not-is_there-clause-runs
returns-then-not-is_there-clause-runs c =
    let a = c.args in
    runs_still c.self.view_is
    (runs_unopened _ c.self.invariant a.tab (plain_address a.url.now) a.opener a.noopener a.method
    (map head_field_of a.head.now) (sym c.if-not-is_there.ensures.there) c.refused.result c.refused.ensures)

pub returns-then-is_open-clause-runs : goal.returns-then-is_open-clause-runs
returns-then-is_open-clause-runs c =
    let a = c.args in
    runs_still c.self.view_is
    (runs_taken _ c.self.invariant a.tab (plain_address a.url.now) a.opener a.noopener a.method
    (map head_field_of a.head.now) (sym c.if-not-is_there.ensures.there) (sym c.if-is_open.ensures.«open»)
    c.refused-then-is_open.result c.refused-then-is_open.ensures)

pub arrive-requires-clause-there : goal.arrive-requires-clause-there
arrive-requires-clause-there c =
    let tabs = c.self.inside.held.live.tabs in
    elim c.if-noopener.branch [
      | then-noopener w ↦ ap (λ from. is_there from tabs) w.copied-is
      | else-noopener w ↦ ap (λ from. is_there from tabs) w.copied-is ∙ sym c.if-not-is_there.ensures.there
    ]

pub arrive-requires-clause-fresh : goal.arrive-requires-clause-fresh
arrive-requires-clause-fresh c = λ from is. fresh_is _ c.self.invariant c.args.tab (sym c.if-is_open.ensures.«open»)

pub returns-in_err-site-clause-runs : goal.returns-in_err-site-clause-runs
returns-in_err-site-clause-runs c =
    let a = c.args in
    let stays = c.in_err-site.ensures.unchanged in
    runs_from c.self.view_is
    (runs_stays _ c.self.invariant _ _ _ _ stays.places stays.cells stays.held
    (Open a.tab (plain_address a.url.now) a.opener a.noopener a.method (map head_field_of a.head.now)) (
      ap is_some (starter_is _ c.self.invariant a.opener (sym c.if-not-is_there.ensures.there)),
      nowhere_is a.tab c.self.inside.held.live.tabs (sym c.if-is_open.ensures.«open»),
    )
    c.from_residual.result c.from_residual.ensures.0)

-- what is copied
copied_is : (c : goal.After-replied) → c.if-noopener.copied ≡ copied_from c.args.noopener c.args.opener
copied_is c =
    elim c.if-noopener.branch [
      | then-noopener w ↦ w.copied-is ∙ sym (ap (λ b. copied_from b c.args.opener) w.if-noopener.true)
      | else-noopener w ↦ w.copied-is ∙ sym (ap (λ b. copied_from b c.args.opener) w.if-noopener.false)
    ]

-- the load, by what is copied
loaded : (c : goal.After-replied) → let here = c.self.inside in
    let target = site_of_address here.input.list.now.rules (plain_address c.args.url.now) in
    IsLoaded (arrive here.input.list.now.rules here.input.clock target c.args.tab (plain_address c.args.url.now)
    c.args.method (is_same_site (starter_in c.args.opener here.held.live.tabs) target)
    (map head_field_of c.args.head.now) (cells_of here.held)
    (with_copies (copied_from c.args.noopener c.args.opener) c.args.tab here.held.live.tabs (held_of here.held)))
    c.args.tab target here.held c.arrive.new.self (body_of c.in_ok-site.load)
loaded c =
    let here = c.self.inside in
    let target = site_of_address here.input.list.now.rules (plain_address c.args.url.now) in
    subst (λ from. IsLoaded (arrive here.input.list.now.rules here.input.clock target c.args.tab
    (plain_address c.args.url.now) c.args.method (is_same_site (starter_in c.args.opener here.held.live.tabs) target)
    (map head_field_of c.args.head.now) (cells_of here.held)
    (with_copies from c.args.tab here.held.live.tabs (held_of here.held)))
    c.args.tab target here.held c.arrive.new.self (body_of c.in_ok-site.load)) (copied_is c) c.in_ok-site.ensures.loaded

pub invariant_of-self-2 : goal.invariant_of-self-2
invariant_of-self-2 c =
    let a = c.args in
    let load = loaded c in
    standing_opened _ c.self.invariant a.tab (plain_address a.url.now) a.opener a.noopener a.method
    (map head_field_of a.head.now) (sym c.if-not-is_there.ensures.there) (sym c.if-is_open.ensures.«open»)
    _ _ _ _ load.places load.cells load.held

pub returns-clause-runs : goal.returns-clause-runs
returns-clause-runs c =
    let a = c.args in
    let url = plain_address a.url.now in
    let head = map head_field_of a.head.now in
    let load = loaded c in
    runs_from c.self.view_is
    (runs_opened _ c.self.invariant a.tab url a.opener a.noopener a.method head
    (sym c.if-not-is_there.ensures.there) (sym c.if-is_open.ensures.«open»)
    _ _ _ _ load.places load.cells load.held c.replied.result
    (reply_as (Open a.tab url a.opener a.noopener a.method head)
    c.replied.result c.replied.ensures c.in_ok-site.ensures.site load.answer))

pub returns-then-not-is_there-clause-written : goal.returns-then-not-is_there-clause-written
returns-then-not-is_there-clause-written c =
    let a = c.args in
    let url = plain_address a.url.now in
    let head = map head_field_of a.head.now in
    line_none (Open a.tab url a.opener a.noopener a.method head) _ _ c.self.view_is
    (changes_unopened _ c.self.invariant a.tab url a.opener a.noopener a.method head
    (sym c.if-not-is_there.ensures.there)) a.body.now.bytes

pub returns-then-is_open-clause-written : goal.returns-then-is_open-clause-written
returns-then-is_open-clause-written c =
    let a = c.args in
    let url = plain_address a.url.now in
    let head = map head_field_of a.head.now in
    line_none (Open a.tab url a.opener a.noopener a.method head) _ _ c.self.view_is
    (changes_taken _ c.self.invariant a.tab url a.opener a.noopener a.method head
    (sym c.if-not-is_there.ensures.there) (sym c.if-is_open.ensures.«open»)) a.body.now.bytes

pub returns-clause-written : goal.returns-clause-written
returns-clause-written c =
    let here = c.self.inside in
    let a = c.args in
    let url = plain_address a.url.now in
    let head = map head_field_of a.head.now in
    let target = site_of_address here.input.list.now.rules url in
    line_written (Open a.tab url a.opener a.noopener a.method head) _ _ c.self.view_is target _
    (changes_opened _ c.self.invariant a.tab url a.opener a.noopener a.method head
    (sym c.if-not-is_there.ensures.there) (sym c.if-is_open.ensures.«open»)) a.body.now.bytes c.arrive.new.body.bytes
    (subst (λ from. IsAppended (arrive here.input.list.now.rules here.input.clock target a.tab url a.method
    (is_same_site (starter_in a.opener here.held.live.tabs) target) head (cells_of here.held)
    (with_copies from a.tab here.held.live.tabs (held_of here.held))).changes a.body.now.bytes
    c.arrive.new.body.bytes) (copied_is c) c.in_ok-site.ensures.changes)
