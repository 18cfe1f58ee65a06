-- The queue is there and ready, and contracts see the same tabs.
use Rattle.std.proofs.Common.{◌≡◌, List, true, false, ap, refl, sym, ◌∙◌, rules}
use Rattle.std.proofs.lemmas.List.{map-id}
use Rattle.std.proofs.lemmas.Result.{on_err_weaker, on_ok_weaker}
use Rattle.frame_tree.specs.Tree.{has_frame}
use Rattle.live_state.specs.ExistingQueues.{PlainOpenTab}
use Rattle.live_state.specs.TabPlaces.{IsAt, IsGap}
use Rattle.live_state.specs.Queues.{frames_by, has_document, is_ready}
use Rattle.live_state.proofs.FramesInPlaceLemmas.{IsWritten, indexed-told, ready-after, ready-before, ready-written, tabs-changed, written}
use Rattle.live_state.proofs.TabPlaceLemmas.{found-gap}
use Rattle.live_state.proofs.SearchLemmas.{plain_of}
use Rattle.live_state.proofs.StepLemmas.{tab-here}
use Rattle.live_state.proofs.live.Live.reserve_queue.Goals as goal
use Rattle.live_state.proofs.live.Live.reserve_queue.Goals.{After-self-1}

changed : (c : After-self-1) → IsWritten c.args.at.tab c.args.self.now.tabs c.self.inside.tabs.items c.in-Ok.place c.at_mut.result.now c.reserve.new.self
changed c = written c.in-Ok.ensures.place (search rules) c.at_mut.ensures.value (ap (λ t. t.number) c.reserve.ensures.same) (ap (λ live. live.tabs) c.self.view_is)

pub reserve-requires : goal.reserve-requires
reserve-requires c = record {
  there =
      let items : List PlainOpenTab = c.self.inside.tabs.items in
      let at : IsAt c.args.at.tab (plain_of items) c.in-Ok.place = c.in-Ok.ensures.place in
      sym (ap (λ o. has_frame c.args.at.frame (frames_by o)) (tab-here c.args.at.tab items c.in-Ok.place at c.at_mut.result.now (search rules) c.at_mut.ensures.value))
      ∙ ap (λ live. has_document live.tabs c.args.at) c.self.view_is
      ∙ c.requires.there;
}

pub invariant_of-self : goal.invariant_of-self
invariant_of-self c =
    indexed-told (changed c) c.self.inside.sites.numbers c.self.invariant (ap (λ t. t.frames) c.reserve.ensures.same)

pub returns-in-Ok : goal.returns-in-Ok
returns-in-Ok c =
    record {
      reserved = on_ok_weaker c.reserve.result (λ ready. ready-after (changed c) c.args.at refl ∙ ready) c.reserve.ensures.reserved;
      memory = on_err_weaker c.reserve.result
          (λ isnt. sym (ap (λ live. is_ready live c.args.at) c.self.view_is) ∙ ready-before (changed c) c.args.at refl ∙ isnt)
          c.reserve.ensures.memory;
      kept = λ other but ready.
          ready-written (changed c) other (λ here. c.reserve.ensures.kept other.frame refl) (ap (λ live. is_ready live other) c.self.view_is ∙ ready);
      same = (tabs-changed (changed c) (λ t. t) (λ t differ. refl) c.reserve.ensures.same ∙ map-id c.args.self.now.tabs, search rules);
    }

pub returns-in-Err-clause-reserved : goal.returns-in-Err-clause-reserved
returns-in-Err-clause-reserved c =
    let items : List PlainOpenTab = c.self.inside.tabs.items in
    let gap : IsGap c.args.at.tab (plain_of items) c.in-Err.field-0 = c.in-Err.ensures.place in
    let no : false ≡ true =
    sym (ap (λ o. has_frame c.args.at.frame (frames_by o)) (found-gap c.args.at.tab (plain_of items) c.in-Err.field-0 gap))
    ∙ ap (λ live. has_document live.tabs c.args.at) c.self.view_is
    ∙ c.requires.there in absurd (cc no)
