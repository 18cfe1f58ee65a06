-- Each kind of line.
use Rattle.std.proofs.Common.{None, map, refl, subst, sym}
use Rattle.std.specs.Prelude.{IfOk}
use Rattle.std.proofs.lemmas.Result.{IfOk-weaker}
use Rattle.origin_site.specs.Plain.{plain_address, plain_site}
use Rattle.script_actions.specs.Plain.{action_of, head_field_of}
use Rattle.local_scripts.specs.Events.{IsSide}
use Rattle.local_scripts.specs.Sides.{LeavesSide}
use Rattle.local_scripts.proofs.EventLemmas.{closing_side, going_side, no_side, no_side_of, opening_side}
use Rattle.local_scripts.proofs.side_events.side_event.Goals as goal

pub returns-in-Open : goal.returns-in-Open
returns-in-Open c =
    let rules = c.args.list.now.rules in
    let tabs = c.args.live.now.tabs in
    let site = plain_site c.args.site.now in
    let s = c.in-Open in
    record {
      event = subst (λ action. IsSide rules tabs (action_of action) site c.args.areas c.copies.result) (sym s.is)
          (opening_side rules tabs site c.args.areas c.copies.result s.tab (plain_address s.url.value)
          s.opener s.noopener s.method (map head_field_of s.head.items) c.copies.ensures.event);
    }

pub returns-in-Go : goal.returns-in-Go
returns-in-Go c =
    let rules = c.args.list.now.rules in
    let tabs = c.args.live.now.tabs in
    let site = plain_site c.args.site.now in
    let s = c.in-Go in
    record {
      event = subst (λ action. IfOk c.leaves.result (IsSide rules tabs (action_of action) site c.args.areas)) (sym s.is)
          (IfOk-weaker c.leaves.result _ _
          (λ found. going_side rules tabs site c.args.areas found s.tab (plain_address s.url.value)
          s.by_page s.method (map head_field_of s.head.items))
          (subst (λ url. IfOk c.leaves.result (LeavesSide rules tabs s.tab (plain_address url) site))
          c.deref.ensures c.leaves.ensures.event));
    }

pub returns-in-Close : goal.returns-in-Close
returns-in-Close c =
    let rules = c.args.list.now.rules in
    let tabs = c.args.live.now.tabs in
    let site = plain_site c.args.site.now in
    record {
      event = subst (λ action. IsSide rules tabs (action_of action) site c.args.areas c.closes.result) (sym c.in-Close.is)
          (closing_side rules tabs site c.args.areas c.closes.result c.in-Close.tab c.closes.ensures.event);
    }

pub returns-in_default : goal.returns-in_default
returns-in_default c = record {
  event =
      no_side c.args.list.now.rules c.args.live.now.tabs (plain_site c.args.site.now) c.args.areas None
      (action_of c.args.action.now)
      (no_side_of c.args.action.now c.in_default.not-Open c.in_default.not-Close c.in_default.not-Go) refl;
}
