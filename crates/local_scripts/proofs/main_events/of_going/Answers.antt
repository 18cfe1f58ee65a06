-- A tab goes to an address where it is open.
use Rattle.std.proofs.Common.{not, ap, subst, ◌∙◌}
use Rattle.origin_site.specs.Plain.{plain_address, plain_site}
use Rattle.local_scripts.specs.Events.{IsArrival}
use Rattle.local_scripts.proofs.EventLemmas.{going_is, going_none, some_seen}
use Rattle.local_scripts.proofs.main_events.of_going.Goals as goal

pub returns-then-is_none : goal.returns-then-is_none
returns-then-is_none c = record {
  event = λ method head.
      going_none c.args.list.now.rules c.args.live.now.tabs c.args.tab (plain_address c.args.url.now) c.args.by_page method head
      (some_seen (λ s. plain_site s.now) c.place.result _ c.place.ensures.place ∙ c.is_none.ensures ∙ ap not c.if-is_none.true);
}

pub returns : goal.returns
returns c = record {
  event = λ method head.
      going_is c.args.list.now.rules c.args.live.now.tabs c.args.tab (plain_address c.args.url.now) c.args.by_page method head _
      (some_seen (λ s. plain_site s.now) c.place.result _ c.place.ensures.place ∙ c.is_none.ensures ∙ ap not c.if-is_none.false)
      (subst (λ starter. IsArrival c.args.list.now.rules c.args.live.now.tabs (plain_address c.args.url.now)
      starter c.in_ok-arrival.field-0) c.page_of.ensures.page c.in_ok-arrival.ensures.event);
}
