-- A line of which more may come.
-- Source: none.
-- Our own choice: a line that is too long is not held, since its fault is known without its bytes.
use Rattle.std.specs.Prelude.{◌≡◌, ℕ, nat_lt, true, false, List, [], length}
use Rattle.script_lines.specs.Grammar.{is_blank, line_limit}
use Rattle.line_session.specs.Asked.{is_one_line}
use Rattle.served_lines.specs.declared.waiting.WaitingLine.{WaitingLine}

-- these are the bytes of the line that waits, as far as they have come
pub record Waits (line : List ℕ) (waiting : WaitingLine) : Type 0 where
  pub one : is_one_line line ≡ true
  pub spaces : waiting.blank ≡ is_blank line
  pub long : waiting.long ≡ nat_lt line_limit (length line)
  pub held : waiting.long ≡ false → waiting.bytes.items ≡ line
  pub dropped : waiting.long ≡ true → waiting.bytes.items ≡ []
