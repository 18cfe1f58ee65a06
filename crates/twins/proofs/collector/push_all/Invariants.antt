-- The entries that were pushed, and those that are left, are all entries.
use Rattle.std.proofs.Common.{◌≡◌, ◌++◌, map}
use Rattle.std.specs.Vec.Iter.{into_iter_items}
use Rattle.unwinding.specs.LocalScript.{happenings}
use Rattle.local_scripts.specs.Items.{entry_of, item_of}
use Rattle.twins.proofs.collector.push_all.Given as goal

abbrev pub invariant-loop-entry : goal.invariant-loop-entry
invariant-loop-entry l = map item_of l.items.items
    ++ happenings (map entry_of (into_iter_items l.entry-iterator)) ≡ map item_of l.fn.items.items
    ++ happenings (map entry_of l.fn.entries.items)
