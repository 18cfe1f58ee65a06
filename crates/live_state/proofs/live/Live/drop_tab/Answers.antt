-- The tab at the place is gone, or there was none.
use Rattle.std.proofs.Common.{◌≡◌, ◌+◌, ◌-◌, ◌<◌, ℕ, List, length, ap, sym, subst, ◌∙◌, arith, rules}
use Rattle.std.specs.Prelude.{if◌then◌else◌}
use Rattle.live_state.specs.ExistingQueues.{PlainOpenTab}
use Rattle.live_state.specs.Tabs.{room_dropped, without_tab}
use Rattle.live_state.specs.TabPlaces.{IsAt, IsGap}
use Rattle.live_state.specs.Queues.{is_ready}
use Rattle.origin_site.specs.Plain.{plain_site}
use Rattle.frame_tree.specs.Tree.{top_site}
use Rattle.live_state.specs.SiteTabs.{AreIndexed}
use Rattle.live_state.proofs.IndexStepLemmas.{indexed-dropped}
use Rattle.live_state.proofs.LiveLemmas.{live_ready, ready-removed}
use Rattle.live_state.proofs.TabPlaceLemmas.{without-gap}
use Rattle.live_state.proofs.SearchLemmas.{plain_of}
use Rattle.live_state.proofs.StepLemmas.{closed-gap, dropped-at, open-here}
use Rattle.live_state.proofs.live.Live.drop_tab.Goals as goal

pub invariant_of-self : goal.invariant_of-self
invariant_of-self c =
    let items : List PlainOpenTab = c.self.inside.tabs.items in
    let at : IsAt c.args.tab (plain_of items) c.in-Ok.place = c.in-Ok.ensures.place in
    let old : PlainOpenTab = c.at.result.now in
    let within : c.in-Ok.place < length items = search rules in
    subst (λ ts. AreIndexed (plain_of ts) c.drop.new.self.numbers) (sym c.remove.ensures.removed)
    (indexed-dropped c.args.tab items c.in-Ok.place at old within c.at.ensures.value c.self.inside.sites.numbers c.self.invariant
    (plain_site c.top_site.result.now) c.top_site.ensures.site c.drop.new.self.numbers c.drop.ensures.dropped)

pub returns-in-Ok : goal.returns-in-Ok
returns-in-Ok c =
    let items : List PlainOpenTab = c.self.inside.tabs.items in
    let at : IsAt c.args.tab (plain_of items) c.in-Ok.place = c.in-Ok.ensures.place in
    let old : PlainOpenTab = c.at.result.now in
    let within : c.in-Ok.place < length items = search rules in record {
      dropped =
          ap plain_of c.remove.ensures.removed
          ∙ dropped-at c.args.tab items c.in-Ok.place at
          ∙ ap (λ live. without_tab c.args.tab live.tabs) c.self.view_is;
      room =
          c.remove.ensures.room
          ∙ ap (λ b. if b then c.self.inside.tabs.room + 1 else c.self.inside.tabs.room)
          (sym (open-here c.args.tab items c.in-Ok.place at old within c.at.ensures.value))
          ∙ ap (room_dropped c.args.tab) c.self.view_is;
      kept = λ other differ ready.
          ap (live_ready other) c.remove.ensures.removed
          ∙ ready-removed c.args.tab items c.in-Ok.place at old within c.at.ensures.value other differ (ap (λ live. is_ready live other) c.self.view_is ∙ ready);
    }

pub returns-in_default : goal.returns-in_default
returns-in_default c =
    let items : List PlainOpenTab = c.self.inside.tabs.items in
    let gap : IsGap c.args.tab (plain_of items) c.in_default.field-0 = c.in_default.ensures.place in
    let room : ℕ = c.self.inside.tabs.room in record {
      dropped =
          sym (ap (λ live. live.tabs) c.self.view_is)
          ∙ sym (without-gap c.args.tab (plain_of items) c.in_default.field-0 gap)
          ∙ ap (λ live. without_tab c.args.tab live.tabs) c.self.view_is;
      room =
          sym (ap (λ live. live.room) c.self.view_is)
          ∙ ap (λ b. if b then room + 1 else room) (sym (closed-gap c.args.tab items c.in_default.field-0 gap))
          ∙ ap (room_dropped c.args.tab) c.self.view_is;
      kept = λ other differ ready. ready;
    }
