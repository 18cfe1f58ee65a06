-- Each event goes to a document that no other event is for.
use Rattle.std.proofs.Common.{◌≡◌, ◌∷◌, [], List, true, map, ap, refl, sym, ◌∙◌, rules}
use Rattle.std.proofs.lemmas.Bool.{and_parts}
use Rattle.std.specs.List.{list_all}
use Rattle.std.proofs.lemmas.List.{nil_from_length}
use Rattle.agent_base.specs.declared.refusals.Label.{Label}
use Rattle.storage_events.specs.declared.event.Event.{Event}
use Rattle.live_state.specs.Queues.{are_distinct, is_ready, is_told, plain_sent, sent}
use Rattle.live_state.proofs.LabelLemmas.{distinct-rest, ready-rest, sent-none, sent-rest, to_of, untold}
use Rattle.live_state.proofs.live.Live.send.Goals as goal

pub loop-at-init : goal.loop-at-init
loop-at-init c =
    let items = c.into_iter-at-iterator.ensures.into_iter_gives.0 in record {
      ready = ap (list_all (λ entry. is_ready c.args.self.now entry.0)) items ∙ c.requires.ready;
      distinct = ap (λ es. are_distinct (to_of es)) items ∙ c.requires.distinct;
      sent = ap (λ es. sent (map plain_sent es) c.args.self.now.tabs) items;
      others = λ at isnt. (ap (λ es. is_told (map plain_sent es) at) items ∙ isnt, λ ready. ready);
      room = refl;
    }

pub push_event-requires : goal.push_event-requires
push_event-requires c = record {
  ready =
      (and_parts (is_ready c.loop-at.self c.in-Some.at) (list_all (λ entry. is_ready c.loop-at.self entry.0) c.next.new.self.rest.items)
      (ap (list_all (λ entry. is_ready c.loop-at.self entry.0)) (sym c.in-Some.ensures.steps.0) ∙ c.loop-at.invariant.ready)).0;
}

pub loop-at-preserved : goal.loop-at-preserved
loop-at-preserved c =
    let rest : List (Label × Event) = c.next.new.self.rest.items in
    let items = c.in-Some.ensures.steps.0 in
    let distinct : are_distinct (to_of ((c.in-Some.at, c.in-Some.event) ∷ rest)) ≡ true =
    ap (λ es. are_distinct (to_of es)) (sym items) ∙ c.loop-at.invariant.distinct in record {
      ready =
          ready-rest c.loop-at.self c.push_event.new.self (c.in-Some.at, c.in-Some.event) rest distinct c.push_event.ensures.kept
          (ap (list_all (λ entry. is_ready c.loop-at.self entry.0)) (sym items) ∙ c.loop-at.invariant.ready);
      distinct = distinct-rest (c.in-Some.at, c.in-Some.event) rest distinct;
      sent =
          ap (sent (map plain_sent rest)) c.push_event.ensures.sent
          ∙ sym (sent-rest (c.in-Some.at, c.in-Some.event) rest c.loop-at.self.tabs distinct)
          ∙ ap (λ es. sent (map plain_sent es) c.loop-at.self.tabs) (sym items)
          ∙ c.loop-at.invariant.sent;
      others = λ at isnt.
          let so_far = c.loop-at.invariant.others at isnt in
          let parts = untold (c.in-Some.at, c.in-Some.event) rest at (ap (λ es. is_told (map plain_sent es) at) (sym items) ∙ so_far.0) in
          (parts.1, λ ready. c.push_event.ensures.kept at parts.0 (so_far.1 ready));
      room = c.push_event.ensures.room ∙ c.loop-at.invariant.room;
    }

pub returns-clause-sent : goal.returns-clause-sent
returns-clause-sent c =
    let none : c.loop-at.at-iterator.rest.items ≡ [] = nil_from_length _ (search rules) in
    sym (sent-none c.loop-at.self.tabs)
    ∙ ap (λ es. sent (map plain_sent es) c.loop-at.self.tabs) (sym none)
    ∙ c.loop-at.invariant.sent

pub returns-clause-kept : goal.returns-clause-kept
returns-clause-kept c = λ at isnt. (c.loop-at.invariant.others at isnt).1
