-- The tab at the place lists its own, or no tab has the number.
use Rattle.std.proofs.Common.{◌++◌, List, ap, sym, ◌∙◌, rules}
use Rattle.std.proofs.lemmas.Result.{on_ok_weaker}
use Rattle.std.proofs.lemmas.List.{append-nil}
use Rattle.storage_key.specs.Plain.{plain_key}
use Rattle.live_state.specs.ExistingQueues.{PlainOpenTab}
use Rattle.live_state.specs.Hearers.{hearers_by}
use Rattle.live_state.specs.TabPlaces.{IsAt, IsGap}
use Rattle.live_state.specs.Tabs.{tab_at}
use Rattle.live_state.proofs.SearchLemmas.{plain_of}
use Rattle.live_state.proofs.StepLemmas.{tab-here}
use Rattle.live_state.proofs.TabPlaceLemmas.{found-gap}
use Rattle.live_state.proofs.live.Live.list_hearers.Goals as goal

pub returns-in-Ok : goal.returns-in-Ok
returns-in-Ok c =
    let items : List PlainOpenTab = c.self.inside.tabs.items in
    let at : IsAt c.args.number (plain_of items) c.in-Ok.place = c.in-Ok.ensures.place in
    let found = sym (tab-here c.args.number items c.in-Ok.place at c.at.result.now (search rules) (search rules))
    ∙ ap (λ live. tab_at c.args.number live.tabs) c.self.view_is in record {
      listed =
          on_ok_weaker c.list_hearers.result
          (λ is. is ∙ ap (λ tab. c.args.to.now.items ++ hearers_by c.args.kind c.args.writer (plain_key c.args.key.now) tab) found)
          c.list_hearers.ensures.listed;
    }

pub returns-in-Err : goal.returns-in-Err
returns-in-Err c =
    let items : List PlainOpenTab = c.self.inside.tabs.items in
    let gap : IsGap c.args.number (plain_of items) c.in-Err.field-0 = c.in-Err.ensures.place in
    let found = sym (found-gap c.args.number (plain_of items) c.in-Err.field-0 gap)
    ∙ ap (λ live. tab_at c.args.number live.tabs) c.self.view_is in record {
      listed =
          sym (append-nil c.args.to.now.items)
          ∙ ap (λ tab. c.args.to.now.items ++ hearers_by c.args.kind c.args.writer (plain_key c.args.key.now) tab) found;
    }
