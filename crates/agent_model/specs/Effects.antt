-- What an action makes of what is held, and what it answers.
-- Source: none; these are the words of the machine.
-- Our own choice: an action finds the shared cells beside what is held, and leaves both. What it
-- changes of durable state it tells in row changes, which are those of one line.
use Rattle.std.specs.Prelude.{List, [], codes}
use Rattle.row_changes.specs.Change.{PlainChange}
use Rattle.reply_lines.specs.Reply.{PlainBody, Plain}
use Rattle.agent_model.specs.CookieCells.{CookieCells, no_cookies}
use Rattle.agent_model.specs.Partition.{Holdings}

-- the cells that sites share
abbrev pub SharedCells : Type 0
SharedCells = CookieCells

-- none of them holds anything
abbrev pub no_shared_cells : SharedCells
no_shared_cells = no_cookies

-- what is held and what the shared cells are afterwards, the row changes, and the answer
pub record Done : Type 0 where
  pub held : Holdings
  pub cells : SharedCells
  pub changes : List PlainChange
  pub body : PlainBody

-- what an action makes of the shared cells and of what is held
abbrev pub Effect : Type 0
Effect = SharedCells → Holdings → Done

-- an answer that is `ok` alone
abbrev pub ok : PlainBody
ok = Plain (codes "ok")

-- an answer that leaves all as it is
abbrev pub answers : PlainBody → Effect
answers body cells held = record { held = held; cells = cells; changes = []; body = body }

-- an answer with these row changes, which lead to what is held
abbrev pub changes_to : List PlainChange → PlainBody → Effect
changes_to changes body cells held =
    record { held = held; cells = cells; changes = changes; body = body }
