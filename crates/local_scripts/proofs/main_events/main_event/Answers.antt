-- Each kind of line.
use Rattle.std.proofs.Common.{None, Some, false, map, refl, subst, sym}
use Rattle.std.specs.Prelude.{IfOk}
use Rattle.origin_site.specs.Plain.{plain_address, plain_site}
use Rattle.script_actions.specs.Action as plain
use Rattle.script_actions.specs.Plain.{action_of, head_field_of}
use Rattle.local_scripts.specs.Events.{IsMain}
use Rattle.local_scripts.specs.declared.main_events.MainEvent.{MainEvent}
use Rattle.local_scripts.proofs.EventLemmas.{evicting, ticking}
use Rattle.local_scripts.proofs.main_events.main_event.Goals as goal

pub returns-in-Tick : goal.returns-in-Tick
returns-in-Tick c = record {
  event = subst (λ action. IsMain c.args.list.now.rules c.args.live.now.tabs (action_of action) None)
      (sym c.in-Tick.is) (ticking c.args.list.now.rules c.args.live.now.tabs c.in-Tick.s);
}

pub returns-in-Open : goal.returns-in-Open
returns-in-Open c =
    let rules = c.args.list.now.rules in
    let tabs = c.args.live.now.tabs in
    let s = c.in-Open in
    record {
      event = subst (λ action. IfOk c.of_opening.result (IsMain rules tabs (action_of action))) (sym s.is)
          (subst (λ url. IfOk c.of_opening.result (IsMain rules tabs
          (plain.Open s.tab (plain_address url) s.opener s.noopener s.method
          (map head_field_of s.head.items)))) c.deref.ensures
          (c.of_opening.ensures.event s.noopener s.method (map head_field_of s.head.items)));
    }

pub returns-in-Close : goal.returns-in-Close
returns-in-Close c = record {
  event = subst (λ action. IfOk c.of_closing.result
      (IsMain c.args.list.now.rules c.args.live.now.tabs (action_of action))) (sym c.in-Close.is)
      (c.of_closing.ensures.event c.args.list.now.rules);
}

pub returns-in-Go : goal.returns-in-Go
returns-in-Go c =
    let rules = c.args.list.now.rules in
    let tabs = c.args.live.now.tabs in
    let s = c.in-Go in
    record {
      event = subst (λ action. IfOk c.of_going.result (IsMain rules tabs (action_of action))) (sym s.is)
          (subst (λ url. IfOk c.of_going.result (IsMain rules tabs
          (plain.Go s.tab (plain_address url) s.by_page s.method (map head_field_of s.head.items)))) c.deref-in-Go.ensures
          (c.of_going.ensures.event s.method (map head_field_of s.head.items)));
    }

pub returns-in_ok-copy-in-Evict : goal.returns-in_ok-copy-in-Evict
returns-in_ok-copy-in-Evict c =
    let made : MainEvent = record { site = c.in_ok-copy-in-Evict.field-0; same_site = false; domain = None } in
    record {
      event = subst (λ action. IsMain c.args.list.now.rules c.args.live.now.tabs (action_of action)
          (Some made)) (sym c.in-Evict.is)
          (evicting c.args.list.now.rules c.args.live.now.tabs (plain_site c.in-Evict.site)
          made c.in_ok-copy-in-Evict.ensures.same refl);
    }
