-- A script as contracts see it: its cuts and its lines, or why it has none.
-- Source: none; the script language is our own.
use Rattle.std.specs.Prelude.{ℕ, List}
use Rattle.disk_model.specs.declared.schedule.Cut.{Cut}
use Rattle.script_actions.specs.Action.{PlainLine}

-- a script: the cuts of the power that its disk meets, and its lines
pub record PlainScript : Type 0 where
  pub cuts : List Cut
  pub lines : List PlainLine

-- why a text is no script, with the number of the line and the name of the member, or no two
-- scripts; and the two refusals of a reader that are not the text's
pub data PlainFault : Type 0 where
  NotJson : (line : ℕ) → PlainFault
  UnknownAction : (line : ℕ) → PlainFault
  BadField : (line : ℕ) (name : List ℕ) → PlainFault
  LineTooLong : (line : ℕ) → PlainFault
  TooLong : PlainFault
  NotUtf8 : (line : ℕ) → PlainFault
  ReadFault : PlainFault
  BadHeader : (line : ℕ) → PlainFault
  NoDivider : PlainFault
  NoMemory : PlainFault
