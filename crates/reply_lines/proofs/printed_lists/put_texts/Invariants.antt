use Rattle.std.proofs.Common.{◌≡◌, ◌++◌, map, drop}
use Rattle.serde_json.specs.Data.{string}
use Rattle.serde_json.specs.Written.{compact_text}
use Rattle.reply_lines.specs.Reply.{texts_data}
use Rattle.reply_lines.proofs.ListLemmas.{put_later}
use Rattle.reply_lines.proofs.printed_lists.put_texts.Given as goal

abbrev pub invariant-loop-text : goal.invariant-loop-text
invariant-loop-text l =
    l.fn.line.items ++ compact_text (texts_data (map (λ t. t.now) l.fn.texts)) ≡ put_later (λ t. string t.now) l.line.items l.later (drop l.text-index l.fn.texts)
