use Rattle.std.proofs.Common.{◌≡◌, ◌++◌, ◌∷◌, [], OnOk, ap, sym, subst, ◌∙◌, rules}
use Rattle.std.specs.Prelude.{codes}
use Rattle.std.specs.List.{list_all}
use Rattle.json.specs.Run.{is_plain}
use Rattle.origin_site.specs.Plain.{plain_site}
use Rattle.reply_lines.proofs.QuoteLemmas.{site_stands}
use Rattle.reply_lines.proofs.printed_bodies.put_site_text.Goals as goal

pub returns-then-is_plain : goal.returns-then-is_plain
returns-then-is_plain c =
    let host : c.as_str.result.now ≡ (plain_site c.args.site.now).host = search rules in
    let plain = site_stands (plain_site c.args.site.now) (ap (list_all is_plain) (sym host) ∙ sym c.is_plain.ensures ∙ c.if-is_plain.true) in
    subst (λ t. OnOk c.put_plain_site.result (c.put_plain_site.new.line.items ≡ c.args.line.now.items ++ (codes ",\"site\":" ++ 34 ∷ (t ++ 34 ∷ [])))) (sym plain) c.put_plain_site.ensures
