-- The keys so far, and those of the kind that are left, are those of the whole walk.
use Rattle.std.proofs.Common.{◌≡◌, ◌++◌, map}
use Rattle.std.specs.Prelude.{filter}
use Rattle.std.specs.Map.{keys_of}
use Rattle.storage_key.specs.Plain.{plain_key}
use Rattle.web_storage.specs.Stored.{areas_in, keys_in}
use Rattle.web_storage.specs.Texts.{is_of_kind}
use Rattle.web_storage.proofs.listing.push_all_of_kind.Given as goal

abbrev pub invariant-loop-key : goal.invariant-loop-key
invariant-loop-key l =
    map plain_key l.keys.items ++ filter (is_of_kind l.with_area (areas_in l.shed) (keys_in l.shed))
    (map plain_key (keys_of l.key-iterator))
    ≡ map plain_key l.fn.keys.items ++ filter (is_of_kind l.with_area (areas_in l.shed) (keys_in l.shed))
    (map plain_key (keys_of l.fn.range))
