-- The keys so far, and those of the rest of the walk, are those of the whole walk.
use Rattle.std.proofs.Common.{◌≡◌, ◌++◌, map}
use Rattle.std.specs.Prelude.{filter}
use Rattle.std.specs.Map.{keys_of}
use Rattle.cookie_jar.specs.Key.{plain_key}
use Rattle.web_cookies.specs.Listed.{is_listed}
use Rattle.web_cookies.proofs.listing.push_cells.Given as goal

abbrev pub invariant-loop-cell : goal.invariant-loop-cell
invariant-loop-cell l =
    map plain_key l.cells.items ++ map plain_key (keys_of (filter (is_listed l.kind) l.cell-iterator))
    ≡ map plain_key l.fn.cells.items ++ map plain_key (keys_of (filter (is_listed l.kind) l.fn.range))
