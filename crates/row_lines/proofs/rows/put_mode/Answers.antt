use Rattle.row_lines.proofs.TokenLemmas.{joined}
use Rattle.row_lines.proofs.rows.put_mode.Goals as goal

pub returns : goal.returns
returns c =
    joined c.in_ok-begin.ensures.puts (joined c.in_ok-put_truth.ensures.puts (joined c.in_ok-put_origin.ensures (joined c.in_ok-put_text.ensures.puts (joined c.in_ok-put_site.ensures c.end.ensures.puts))))
