-- The entries so far, and those that the rest of the walk adds, are those of the whole walk.
use Rattle.std.proofs.Common.{◌≡◌, ◌++◌, map}
use Rattle.std.specs.Prelude.{reverse}
use Rattle.std.specs.List.{take_while}
use Rattle.origin_site.specs.Plain.{plain_site}
use Rattle.web_storage.specs.Evicting.{entry_of, is_entry_under}
use Rattle.web_storage.proofs.under.push_below.Given as goal

abbrev pub invariant-loop-key : goal.invariant-loop-key
invariant-loop-key g l =
    map entry_of l.found.items ++ take_while (is_entry_under (plain_site l.site)) (reverse l.key-iterator.iter)
    ≡ map entry_of l.fn.found.items ++ take_while (is_entry_under (plain_site l.site)) (reverse l.fn.range)
