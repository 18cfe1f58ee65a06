-- The order of storage keys in a map is that of the plain keys.
use Rattle.std.proofs.Common.{◌≡◌, refl}
use Rattle.std.specs.declared.cmp.Ordering.{Ordering}
use Rattle.storage_key.specs.Key.{key_order}
use Rattle.storage_key.specs.Plain.{plain_key}
use Rattle.storage_key.specs.declared.key.StorageKey.{StorageKey}
use Rattle.storage_key.specs.contracts.key.StorageKeyOrd as ord

abbrev pub order : StorageKey → StorageKey → Ordering
order = (ord.TheImpl.cmp-value).it

pub alike : (a b : StorageKey) → order a b ≡ key_order (plain_key a) (plain_key b)
alike a b = refl
