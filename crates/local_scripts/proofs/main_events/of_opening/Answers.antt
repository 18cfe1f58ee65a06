-- A tab is opened where its number is free and its opener is there.
use Rattle.std.proofs.Common.{sym, ◌∙◌}
use Rattle.origin_site.specs.Plain.{plain_address, plain_site}
use Rattle.local_scripts.proofs.EventLemmas.{opening_is, opening_none, opening_taken, some_seen}
use Rattle.local_scripts.proofs.main_events.of_opening.Goals as goal

pub returns-then-is_some : goal.returns-then-is_some
returns-then-is_some c = record {
  event = λ noopener method head.
      opening_taken c.args.list.now.rules c.args.live.now.tabs c.args.tab (plain_address c.args.url.now)
      c.args.opener noopener method head
      (some_seen (λ s. plain_site s.now) c.place.result _ c.place.ensures.place ∙ sym c.is_some.ensures ∙ c.if-is_some.true);
}

pub returns-then-not-can_start : goal.returns-then-not-can_start
returns-then-not-can_start c = record {
  event = λ noopener method head.
      opening_none c.args.list.now.rules c.args.live.now.tabs c.args.tab (plain_address c.args.url.now)
      c.args.opener noopener method head
      (sym c.can_start.ensures.there ∙ c.if-not-can_start.true);
}

pub returns : goal.returns
returns c = record {
  event = λ noopener method head.
      opening_is c.args.list.now.rules c.args.live.now.tabs c.args.tab (plain_address c.args.url.now)
      c.args.opener noopener method head _
      (some_seen (λ s. plain_site s.now) c.place.result _ c.place.ensures.place ∙ sym c.is_some.ensures ∙ c.if-is_some.false)
      (sym c.can_start.ensures.there ∙ c.if-not-can_start.false)
      c.in_ok-arrival.ensures.event;
}
