-- The domain of a cell that was read is a host.
use Rattle.cookie_jar.specs.Key.{plain_key}
use Rattle.row_changes.proofs.RowLaws.{cell_host}
use Rattle.row_changes.proofs.cookies.placed_at.Goals as goal

pub suits-requires : goal.suits-requires
suits-requires c = record { named = cell_host c.args.bytes.now.now (plain_key c.in_ok-cell.cell) c.cell_at.new.bytes.now c.in_ok-cell.ensures }
