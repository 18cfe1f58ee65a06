use Rattle.std.proofs.Common.{◌∙◌}
use Rattle.reply_lines.proofs.PlainLemmas.{plain_seen}
use Rattle.reply_lines.proofs.plain_texts.are_plain_16.Goals as goal

pub returns : goal.returns
returns c =
    c.are_all.ensures ∙ plain_seen c.args.bytes c.lack_16.result c.lack_16-2.result c.lack_controls_16.result c.lack_16.ensures c.lack_16-2.ensures c.lack_controls_16.ensures
