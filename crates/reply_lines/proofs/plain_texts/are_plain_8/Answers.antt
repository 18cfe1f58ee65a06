use Rattle.std.proofs.Common.{◌∙◌}
use Rattle.reply_lines.proofs.PlainLemmas.{plain_seen}
use Rattle.reply_lines.proofs.plain_texts.are_plain_8.Goals as goal

pub returns : goal.returns
returns c =
    c.are_all.ensures ∙ plain_seen c.args.bytes c.lack_8.result c.lack_8-2.result c.lack_controls_8.result c.lack_8.ensures c.lack_8-2.ensures c.lack_controls_8.ensures
