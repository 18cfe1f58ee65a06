-- The keys so far are copies of those that were found.
use Rattle.std.proofs.Common.{◌≡◌, map}
use Rattle.std.specs.Map.{keys_of}
use Rattle.storage_key.specs.Plain.{plain_key}
use Rattle.web_storage.specs.Evicting.{entry_of}
use Rattle.web_storage.proofs.under.copies.Given as goal

abbrev pub invariant-loop-key : goal.invariant-loop-key
invariant-loop-key g l = map plain_key l.keys.items ≡ map plain_key (keys_of (map entry_of l.yielded))
