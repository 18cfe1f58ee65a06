-- A copy of the storage holds what it holds.
use Rattle.std.proofs.Common.{◌≡◌, ℕ, not, List, [], ◌∷◌, refl, sym, ap, ◌∙◌}
use Rattle.std.specs.Prelude.{unwrap_or}
use Rattle.unwinding.proofs.FiniteCellsLemmas as cells
use Rattle.storage_key.specs.Key.{key_order}
use Rattle.storage_key.specs.Plain.{plain_key}
use Rattle.storage_key.specs.declared.key.StorageKey.{StorageKey}
use Rattle.storage_key.proofs.OrderLemmas.{key_order_total, key_order_same}
use Rattle.key_map.specs.Entries.{map_get, IsCopy}
use Rattle.key_map.proofs.PlainKeyLemmas.{plain_of}
use Rattle.buckets.specs.declared.shed.Bucket.{Bucket}
use Rattle.buckets.specs.Shed.{is_best_effort, fresh_bucket}
use Rattle.session_area.specs.Sessions.{areas_of}
use Rattle.web_storage.specs.Stored.{areas_in, keys_in, sessions_in}
use Rattle.web_storage.proofs.ShedLemmas.{area_at, mode_at}
use Rattle.web_storage.proofs.WriteLemmas.{same_keys}
use Rattle.web_storage.proofs.SessionsLemmas.{pairs_or, session_at}
use Rattle.web_storage.proofs.SessionWrites.{Tabs, same_sessions}

-- entries that are clones of others
abbrev pub IsPlainCopy : {V : Type 0} → (es copy : List (StorageKey × V)) → Type 0
IsPlainCopy es copy = IsCopy (λ key clone. plain_key clone ≡ plain_key key) (λ value clone. clone ≡ value) es copy

plain_copy : {V : Type 0} (es copy : List (StorageKey × V)) → IsPlainCopy es copy → plain_of plain_key copy ≡ plain_of plain_key es
plain_copy [] [] zip = refl
plain_copy [] (c ∷ cs) zip = absurd zip
plain_copy (e ∷ es) [] zip = absurd zip
plain_copy (e ∷ es) (c ∷ cs) zip = λ i. (zip.0.0 i, zip.0.1 i) ∷ plain_copy es cs zip.1 i

pub areas_copied : (es copy : List (StorageKey × Bucket)) → IsPlainCopy es copy → areas_in copy ≡ areas_in es
areas_copied es copy zip = cells.same_cells key_order key_order_total key_order_same _ _ (λ q.
    area_at q copy ∙ ap (λ ps. (unwrap_or (map_get key_order q ps) fresh_bucket).area)
    (plain_copy es copy zip) ∙ sym (area_at q es))

pub keys_copied : (es copy : List (StorageKey × Bucket)) → IsPlainCopy es copy → keys_in copy ≡ keys_in es
keys_copied es copy zip = same_keys _ _ (λ q.
    mode_at q copy ∙ ap (λ ps. not (is_best_effort (unwrap_or (map_get key_order q ps) fresh_bucket).mode))
    (plain_copy es copy zip) ∙ sym (mode_at q es))

pub sessions_cloned : (old copy : Tabs) → ((tab : ℕ) → IsPlainCopy (areas_of tab old) (areas_of tab copy))
    → sessions_in copy ≡ sessions_in old
sessions_cloned old copy zip = same_sessions _ _ (λ n q.
    session_at n q copy ∙ ap (λ ps. pairs_or (map_get key_order q ps)) (plain_copy _ _ (zip n)) ∙ sym (session_at n q old))
