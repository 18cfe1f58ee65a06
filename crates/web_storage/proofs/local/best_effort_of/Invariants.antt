-- The keys so far are copies of those that were found at best-effort buckets.
use Rattle.std.proofs.Common.{◌≡◌, map}
use Rattle.std.specs.Prelude.{filter}
use Rattle.std.specs.Map.{keys_of}
use Rattle.storage_key.specs.Plain.{plain_key}
use Rattle.buckets.specs.Shed.{is_best_effort}
use Rattle.web_storage.specs.Evicting.{entry_of}
use Rattle.web_storage.proofs.local.best_effort_of.Given as goal

abbrev pub invariant-loop-key : goal.invariant-loop-key
invariant-loop-key l = map plain_key l.keys.items
    ≡ map plain_key (keys_of (filter (λ e. is_best_effort e.1.mode) (map entry_of l.yielded)))
