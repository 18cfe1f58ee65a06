-- The document is listed where it hears.
use Rattle.std.proofs.Common.{◌++◌, [], ◌∷◌, cond, ap, sym, ◌∙◌}
use Rattle.std.specs.Prelude.{option_copied, option_map}
use Rattle.std.proofs.lemmas.List.{append-nil}
use Rattle.agent_base.specs.declared.refusals.Label.{Label}
use Rattle.storage_key.specs.Key.{PlainKey}
use Rattle.storage_key.specs.Plain.{plain_key}
use Rattle.live_state.proofs.HearerLemmas.{one-hearer}
use Rattle.live_state.proofs.listed.list_hearer.Goals as goal

pub returns-then-not-hears : goal.returns-then-not-hears
returns-then-not-hears c = record {
  listed =
      sym (append-nil c.args.to.now.items)
      ∙ ap (λ l. c.args.to.now.items ++ l)
      (sym (one-hearer c.args.kind c.args.writer c.args.key.now c.in-Some.own.now c.args.at c.hears.result c.hears.ensures.hears _
      (ap (λ o. option_map {U = Label × PlainKey} (λ key. (c.args.at, key)) (option_map plain_key (option_copied o))) c.in-Some.is)
      ∙ ap (λ b. cond b (c.args.at ∷ []) []) c.if-not-hears.true));
}

pub returns-in-Ok : goal.returns-in-Ok
returns-in-Ok c = record {
  listed =
      c.in-Ok.ensures.items
      ∙ ap (λ l. c.args.to.now.items ++ l)
      (sym (one-hearer c.args.kind c.args.writer c.args.key.now c.in-Some.own.now c.args.at c.hears.result c.hears.ensures.hears _
      (ap (λ o. option_map {U = Label × PlainKey} (λ key. (c.args.at, key)) (option_map plain_key (option_copied o))) c.in-Some.is)
      ∙ ap (λ b. cond b (c.args.at ∷ []) []) c.if-not-hears.false));
}
