use Rattle.std.proofs.Common.{◌≡◌, ap, sym, ◌∙◌, List, map}
use Rattle.std.specs.Prelude.{min}
use Rattle.std.specs.Map.{keys_of}
use Rattle.origin_site.specs.Plain.{plain_site}
use Rattle.storage_key.specs.Plain.{plain_key}
use Rattle.storage_key.specs.declared.key.StorageKey.{StorageKey}
use Rattle.key_map.specs.Entries.{is_among}
use Rattle.buckets.specs.Shed.{evicted, count_evicted}
use Rattle.web_storage.specs.Stored.{areas_in, keys_in}
use Rattle.web_storage.specs.Evicting.{is_one_of, is_taken}
use Rattle.web_storage.proofs.OrderOfKeys.{order}
use Rattle.web_storage.proofs.EvictionLemmas.{EachKey, among_filtered, each_taken, evicted_areas, evicted_modes}
use Rattle.web_storage.proofs.EvictionCounts.{evicted_count}
use Rattle.web_storage.proofs.local.evict_local.Goals as goal

pub returns-clause-evicted : goal.returns-clause-evicted
returns-clause-evicted c =
    let shed = c.args.shed.now in
    let keys : List StorageKey = c.in_ok-keys.keys.items in
    let test = is_taken (plain_site c.args.site.now) (keys_in shed) in
    let taken : EachKey (λ k. is_among order keys k ≡ test (plain_key k)) shed =
    each_taken test keys shed (λ q. ap (is_one_of q) c.in_ok-keys.ensures.keys
    ∙ among_filtered test q (map plain_key (keys_of shed))) in
    ap areas_in (c.evict.ensures.evicted ∙ ap (λ ks. evicted order ks shed) c.as_slice.ensures.value)
    ∙ evicted_areas (plain_site c.args.site.now) keys shed c.in_ok-keys.ensures.ordered taken

pub returns-clause-modes : goal.returns-clause-modes
returns-clause-modes c =
    let shed = c.args.shed.now in
    let keys : List StorageKey = c.in_ok-keys.keys.items in
    let test = is_taken (plain_site c.args.site.now) (keys_in shed) in
    let taken : EachKey (λ k. is_among order keys k ≡ test (plain_key k)) shed =
    each_taken test keys shed (λ q. ap (is_one_of q) c.in_ok-keys.ensures.keys
    ∙ among_filtered test q (map plain_key (keys_of shed))) in
    ap keys_in (c.evict.ensures.evicted ∙ ap (λ ks. evicted order ks shed) c.as_slice.ensures.value)
    ∙ evicted_modes test keys shed c.in_ok-keys.ensures.ordered taken

pub returns-clause-count : goal.returns-clause-count
returns-clause-count c =
    let shed = c.args.shed.now in
    let keys : List StorageKey = c.in_ok-keys.keys.items in
    let test = is_taken (plain_site c.args.site.now) (keys_in shed) in
    let taken : EachKey (λ k. is_among order keys k ≡ test (plain_key k)) shed =
    each_taken test keys shed (λ q. ap (is_one_of q) c.in_ok-keys.ensures.keys
    ∙ among_filtered test q (map plain_key (keys_of shed))) in
    c.evict.ensures.count
    ∙ ap (λ n. min n 4294967295)
    (ap (λ ks. count_evicted order ks shed) c.as_slice.ensures.value
    ∙ sym (evicted_count (plain_site c.args.site.now) keys shed c.in_ok-keys.ensures.ordered taken))
