use Rattle.std.proofs.Common.{◌≡◌, ◌++◌, take}
use Rattle.std.specs.Prelude.{map}
use Rattle.std.specs.List.{All}
use Rattle.row_changes.specs.Appended.{HasTexts}
use Rattle.row_changes.specs.Body.{rows_bytes}
use Rattle.row_changes.specs.Grown.{Grown}
use Rattle.row_changes.specs.Plain.{plain_change}
use Rattle.row_changes.proofs.writing.put_rows.Given as goal

abbrev pub invariant-loop-change : goal.invariant-loop-change
invariant-loop-change l = record {
  bytes : l.out.items ≡ l.fn.out.items ++ rows_bytes (map plain_change (take l.change-index l.changes));
  texts : All HasTexts (map plain_change (take l.change-index l.changes));
  front : Grown l.fn.out.items l.out.items;
}
