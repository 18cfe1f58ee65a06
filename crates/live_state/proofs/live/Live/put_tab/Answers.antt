-- The tab is put into its place, or into the gap for it.
use Rattle.std.proofs.Common.{◌≡◌, ◌<◌, ◌-◌, ℕ, List, length, not, ap, sym, subst, ◌∙◌, rules}
use Rattle.std.specs.Prelude.{◌&&◌, ◌||◌, if◌then◌else◌, nat_lt}
use Rattle.std.specs.List.{insert}
use Rattle.std.proofs.lemmas.Bool.{eq-eqb}
use Rattle.live_state.specs.ExistingQueues.{PlainOpenTab}
use Rattle.live_state.specs.Tabs.{has_site_room, is_open, room_put, stays, tabs_put}
use Rattle.origin_site.specs.Plain.{plain_site}
use Rattle.origin_site.specs.Site.{PlainSite}
use Rattle.frame_tree.specs.Tree.{IsTree, top_site}
use Rattle.live_state.specs.SiteTabs.{AreIndexed}
use Rattle.live_state.proofs.IndexLemmas.{reserved-parts, room-seen}
use Rattle.live_state.proofs.IndexStepLemmas.{absent-apart, absent-gap, index-same, indexed-moved, indexed-put, listed-rise}
use Rattle.live_state.specs.TabPlaces.{IsAt, IsGap}
use Rattle.live_state.specs.Queues.{is_ready}
use Rattle.live_state.proofs.LiveLemmas.{live_ready, ready-inserted, ready-kept}
use Rattle.live_state.proofs.SearchLemmas.{plain_of}
use Rattle.live_state.proofs.StepLemmas.{closed-gap, number-here, open-here, put-open, put-closed, rising-put, room-gap}
use Rattle.live_state.proofs.live.Live.put_tab.Goals as goal

pub move_tab-requires-clause-room : goal.move_tab-requires-clause-room
move_tab-requires-clause-room c =
    let to : PlainSite = plain_site c.top_site-in-Ok.result.now in
    sym (room-seen to c.self.inside.sites.numbers.entries)
    ∙ ap (has_site_room to) c.self.view_is
    ∙ (reserved-parts c.args.tab c.args.made to c.top_site-in-Ok.ensures.site c.args.self.now c.requires.reserved).1

pub move_tab-requires-clause-rising : goal.move_tab-requires-clause-rising
move_tab-requires-clause-rising c =
    listed-rise (plain_of c.self.inside.tabs.items) c.self.inside.sites.numbers c.self.invariant c.top_site-in-Ok.result.now

pub move_tab-requires-clause-absent : goal.move_tab-requires-clause-absent
move_tab-requires-clause-absent c = λ apart.
    let items : List PlainOpenTab = c.self.inside.tabs.items in
    let at : IsAt c.args.tab (plain_of items) c.in-Ok.place = c.in-Ok.ensures.place in
    absent-apart c.args.tab items c.in-Ok.place at c.at.result.now (search rules) c.at.ensures.value c.self.inside.sites.numbers c.self.invariant
    (plain_site c.top_site.result.now) c.top_site.ensures.site c.top_site-in-Ok.result.now apart

pub invariant_of-self : goal.invariant_of-self
invariant_of-self c =
    let items : List PlainOpenTab = c.self.inside.tabs.items in
    let at : IsAt c.args.tab (plain_of items) c.in-Ok.place = c.in-Ok.ensures.place in
    let old : PlainOpenTab = c.at_mut.result.now in
    let within : c.in-Ok.place < length items = search rules in
    let own : c.at.result.now ≡ old = index-same items c.in-Ok.place c.at.result.now old within c.at.ensures.value c.at_mut.ensures.value in
    let from = ap (λ (t : PlainOpenTab). top_site t.plain.frames) (sym own) ∙ c.top_site.ensures.site in
    indexed-moved c.args.tab items c.in-Ok.place at old within c.at_mut.ensures.value c.self.inside.sites.numbers c.self.invariant c.put.new.self
    (ap (λ t. t.number) c.put.ensures.put ∙ number-here c.args.tab items c.in-Ok.place at old within c.at_mut.ensures.value)
    (subst IsTree (sym (ap (λ t. t.frames) c.put.ensures.put)) c.top_site-in-Ok.ensures.tree)
    (plain_site c.top_site.result.now) (plain_site c.top_site-in-Ok.result.now) from
    (ap (λ t. top_site t.frames) c.put.ensures.put ∙ c.top_site-in-Ok.ensures.site)
    c.move_tab.new.sites.numbers c.move_tab.ensures.moved

pub put-requires-in-Err-clause-room : goal.put-requires-in-Err-clause-room
put-requires-in-Err-clause-room c =
    let to : PlainSite = plain_site c.top_site-in-Err.result.now in
    sym (room-seen to c.self.inside.sites.numbers.entries)
    ∙ ap (has_site_room to) c.self.view_is
    ∙ (reserved-parts c.args.tab c.args.made to c.top_site-in-Err.ensures.site c.args.self.now c.requires.reserved).1

pub put-requires-in-Err-clause-rising : goal.put-requires-in-Err-clause-rising
put-requires-in-Err-clause-rising c =
    listed-rise (plain_of c.self.inside.tabs.items) c.self.inside.sites.numbers c.self.invariant c.top_site-in-Err.result.now

pub put-requires-in-Err-clause-absent : goal.put-requires-in-Err-clause-absent
put-requires-in-Err-clause-absent c =
    let items : List PlainOpenTab = c.self.inside.tabs.items in
    let gap : IsGap c.args.tab (plain_of items) c.in-Err.place = c.in-Err.ensures.place in
    absent-gap c.args.tab items c.in-Err.place gap c.self.inside.sites.numbers c.self.invariant c.top_site-in-Err.result.now

pub returns-in-Ok : goal.returns-in-Ok
returns-in-Ok c =
    let items : List PlainOpenTab = c.self.inside.tabs.items in
    let at : IsAt c.args.tab (plain_of items) c.in-Ok.place = c.in-Ok.ensures.place in
    let old : PlainOpenTab = c.at_mut.result.now in
    let within : c.in-Ok.place < length items = search rules in
    let room : ℕ = c.self.inside.tabs.room in record {
      put =
          put-open c.args.tab c.args.made c.args.fresh items c.in-Ok.place at old c.put.new.self within c.at_mut.ensures.value c.put.ensures.put
          ∙ ap (λ live. tabs_put c.args.tab c.args.made c.args.fresh live.tabs) c.self.view_is;
      room =
          ap (λ b. if b then room else room - 1) (sym (open-here c.args.tab items c.in-Ok.place at old within c.at_mut.ensures.value))
          ∙ ap (room_put c.args.tab) c.self.view_is;
      kept = λ other stay ready.
          ready-kept c.args.tab items c.in-Ok.place at old within c.at_mut.ensures.value c.put.new.self
          (ap (λ t. t.number) c.put.ensures.put ∙ number-here c.args.tab items c.in-Ok.place at old within c.at_mut.ensures.value) other
          (λ here. c.put.ensures.kept other.frame
          (ap (λ b. b && not (stays c.args.fresh c.args.made other.frame)) (sym (eq-eqb other.tab c.args.tab here)) ∙ stay))
          (ap (λ live. is_ready live other) c.self.view_is ∙ ready);
    }

pub insert-requires-clause-room : goal.insert-requires-clause-room
insert-requires-clause-room c =
    let items : List PlainOpenTab = c.self.inside.tabs.items in
    room-gap c.args.tab items c.in-Err.place c.in-Err.ensures.place c.self.inside.tabs.room
    (ap (λ live. is_open c.args.tab live.tabs || nat_lt 0 live.room) c.self.view_is
    ∙ (reserved-parts c.args.tab c.args.made (plain_site c.top_site-in-Err.result.now) c.top_site-in-Err.ensures.site c.args.self.now c.requires.reserved).0)

pub invariant_of-self-in-Err : goal.invariant_of-self-in-Err
invariant_of-self-in-Err c =
    let items : List PlainOpenTab = c.self.inside.tabs.items in
    let gap : IsGap c.args.tab (plain_of items) c.in-Err.place = c.in-Err.ensures.place in
    let opened : PlainOpenTab = c.new-opened.result in
    let rises = rising-put c.args.tab c.args.made c.args.fresh (plain_of items) (plain_of (insert items c.in-Err.place opened)) c.self.invariant.rising
    (put-closed c.args.tab c.args.made c.args.fresh items c.in-Err.place gap opened c.new-opened.ensures.opened) in
    subst (λ ts. AreIndexed (plain_of ts) c.put-in-Err.new.self.numbers) (sym c.insert.ensures.inserted)
    (indexed-put c.args.tab items c.in-Err.place gap c.self.inside.sites.numbers c.self.invariant opened
    (ap (λ t. t.number) c.new-opened.ensures.opened)
    (subst IsTree (sym (ap (λ t. t.frames) c.new-opened.ensures.opened)) c.top_site-in-Err.ensures.tree)
    (plain_site c.top_site-in-Err.result.now)
    (ap (λ t. top_site t.frames) c.new-opened.ensures.opened ∙ c.top_site-in-Err.ensures.site)
    rises c.put-in-Err.new.self.numbers c.put-in-Err.ensures.put)

pub returns-in-Err : goal.returns-in-Err
returns-in-Err c =
    let items : List PlainOpenTab = c.self.inside.tabs.items in
    let gap : IsGap c.args.tab (plain_of items) c.in-Err.place = c.in-Err.ensures.place in
    let opened : PlainOpenTab = c.new-opened.result in record {
      put =
          ap plain_of c.insert.ensures.inserted
          ∙ put-closed c.args.tab c.args.made c.args.fresh items c.in-Err.place gap opened c.new-opened.ensures.opened
          ∙ ap (λ live. tabs_put c.args.tab c.args.made c.args.fresh live.tabs) c.self.view_is;
      room =
          c.insert.ensures.room
          ∙ ap (λ b. if b then c.self.inside.tabs.room else c.self.inside.tabs.room - 1) (sym (closed-gap c.args.tab items c.in-Err.place gap))
          ∙ ap (room_put c.args.tab) c.self.view_is;
      kept = λ other stay ready.
          ap (live_ready other) c.insert.ensures.inserted
          ∙ ready-inserted c.args.tab items c.in-Err.place gap opened (ap (λ t. t.number) c.new-opened.ensures.opened) other
          (ap (λ live. is_ready live other) c.self.view_is ∙ ready);
    }
