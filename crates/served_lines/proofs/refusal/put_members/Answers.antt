use Rattle.row_lines.proofs.TokenLemmas.{joined}
use Rattle.served_lines.proofs.refusal.put_members.Goals as goal

pub returns : goal.returns
returns c =
    joined c.in_ok-begin.ensures.puts (joined c.in_ok-put_null.ensures.puts (joined c.in_ok-put_text.ensures.puts (joined c.in_ok-put_text-2.ensures.puts (joined c.in_ok-put_line_number.ensures (joined c.in_ok-put_null-2.ensures.puts c.end.ensures.puts)))))
