use Rattle.std.proofs.Common.{rules}
use Rattle.json.specs.Print.{print_from}
use Rattle.reply_lines.proofs.json_text.put_escaped.Goals as goal

pub returns : goal.returns
unfolding print_from
returns c = search rules
