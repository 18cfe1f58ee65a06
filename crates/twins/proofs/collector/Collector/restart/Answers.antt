use Rattle.std.proofs.Common.{map, [], ◌∷◌, ◌++◌, ap, ◌∙◌}
use Rattle.std.proofs.lemmas.List.{map-append}
use Rattle.local_scripts.specs.Items.{item_of}
use Rattle.local_scripts.specs.declared.item.Item.TheVariants as item
use Rattle.script_courses.specs.Collected.{no_tally}
use Rattle.twins.proofs.collector.Collector.restart.Goals as goal

pub returns : goal.returns
returns c = record {
  restarted = λ waiting.
      let before = c.args.self.now.items.items in
      let items =
      ap (map item_of) c.in_ok-push.ensures.pushed
      ∙ map-append item_of before (item.Restarts c.closing-end.result ∷ [])
      ∙ ap (λ x. map item_of before ++ x ∷ []) (c.closing-end.ensures.closing waiting) in
      λ i. record { items = items i; changed = c.args.self.now.changed; answered = no_tally; waiting = no_tally };
}
