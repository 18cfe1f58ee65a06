-- Those of the tabs at the key's site are all.
use Rattle.std.proofs.Common.{◌≡◌, true, ap, sym, subst, ◌∙◌}
use Rattle.std.specs.List.{flat_map}
use Rattle.std.proofs.lemmas.List.{take_all}
use Rattle.storage_key.specs.Key.{PlainKey}
use Rattle.storage_key.specs.Plain.{plain_key}
use Rattle.storage_events.specs.declared.event.AreaKind.TheVariants.{Local}
use Rattle.live_state.specs.Hearers.{hearers_by}
use Rattle.live_state.specs.SiteTabs.{AreTrees, numbers_at}
use Rattle.live_state.specs.Tabs.{is_rising, tab_at}
use Rattle.live_state.proofs.HearerLemmas.{hearers-at}
use Rattle.live_state.proofs.live.Live.local_hearers.Goals as goal

pub returns-clause-hearers : goal.returns-clause-hearers
returns-clause-hearers c =
    let key : PlainKey = plain_key c.args.key.now in
    let rising : is_rising c.args.self.now.tabs ≡ true = ap (λ live. is_rising live.tabs) (sym c.self.view_is) ∙ c.self.invariant.rising in
    let trees : AreTrees c.args.self.now.tabs = subst (λ live. AreTrees live.tabs) c.self.view_is c.self.invariant.trees in
    let numbers : c.at-number-items.result.now ≡ numbers_at key.top c.args.self.now.tabs =
    c.at-number-items.ensures.numbers ∙ c.self.invariant.index c.args.key.now.top ∙ ap (λ live. numbers_at key.top live.tabs) c.self.view_is in
    c.loop-number.invariant
    ∙ ap (flat_map (λ n. hearers_by Local c.args.writer key (tab_at n c.args.self.now.tabs)))
    (take_all c.loop-number.number-index c.at-number-items.result.now c.loop-number-test.false ∙ numbers)
    ∙ sym (hearers-at Local c.args.writer key c.args.self.now.tabs rising trees)
