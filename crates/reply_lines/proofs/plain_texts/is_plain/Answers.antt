-- Sixteen bytes more.
use Rattle.std.proofs.Common.{rules, ◌≡◌, ◌∙◌, ◌+◌, true, false, drop, ap, sym, arith}
use Rattle.std.specs.Prelude.{◌&&◌}
use Rattle.std.specs.List.{list_all}
use Rattle.json.specs.Run.{is_plain}
use lib.Lanes.{chunk}
use Rattle.reply_lines.proofs.PlainLemmas.{plain_more}
use Rattle.reply_lines.proofs.plain_texts.is_plain.Goals as goal

pub returns-then-not-are_plain_16 : goal.returns-then-not-are_plain_16
returns-then-not-are_plain_16 c =
    let text = c.args.text.now in
    let from = c.loop-from.from in
    let some : c.are_plain_16.result ≡ false = search rules in
    sym (c.loop-from.invariant.0 ∙ plain_more text from 16
    ∙ ap (λ t. list_all is_plain (chunk from 16 t) && list_all is_plain (drop (from + 16) text)) (sym c.as_bytes-bytes.ensures.value)
    ∙ ap (λ b. b && list_all is_plain (drop (from + 16) text)) (sym c.are_plain_16.ensures ∙ some))

pub loop-from-preserved : goal.loop-from-preserved
loop-from-preserved c =
    let text = c.args.text.now in
    let from = c.loop-from.from in
    let none : c.are_plain_16.result ≡ true = search rules in (
      c.loop-from.invariant.0 ∙ plain_more text from 16
          ∙ ap (λ t. list_all is_plain (chunk from 16 t) && list_all is_plain (drop (from + 16) text)) (sym c.as_bytes-bytes.ensures.value)
          ∙ ap (λ b. b && list_all is_plain (drop (from + 16) text)) (sym c.are_plain_16.ensures ∙ none),
      omega arith,
    )
