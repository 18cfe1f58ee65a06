use Rattle.std.proofs.Common.{◌≡◌, ◌++◌, ◌∷◌, [], OnOk, sym, subst, ◌∙◌}
use Rattle.reply_lines.proofs.QuoteLemmas.{plain_stands}
use Rattle.reply_lines.proofs.json_text.put_quoted.Goals as goal

pub returns-then-is_plain : goal.returns-then-is_plain
returns-then-is_plain c =
    let plain = plain_stands c.args.text.now (sym c.is_plain.ensures ∙ c.if-is_plain.true) in
    subst (λ t. OnOk c.put_plain.result (c.put_plain.new.line.items ≡ c.args.line.now.items ++ 34 ∷ (t ++ 34 ∷ []))) (sym plain) c.put_plain.ensures
