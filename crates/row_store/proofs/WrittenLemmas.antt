-- The row changes of a snapshot of what outlives a restart, and its body, whose bytes say nothing of
-- last uses.
use Rattle.std.proofs.Common.{◌≡◌, ℕ, Bool, true, false, List, [], ◌∷◌, ◌++◌, map, refl, sym, ap, subst, ◌∙◌}
use Rattle.std.specs.FinMap as finite
use Rattle.std.specs.List.{All, AllByRecursion, flat_map}
use Rattle.std.proofs.lemmas.Grind.{flat_map-append}
use Rattle.std.proofs.lemmas.List.{map-append}
use Rattle.std.proofs.lemmas.List.Elements.{All-append, All-from_recursion, recursion_from_All}
use Rattle.storage_key.specs.Key.{PlainKey}
use Rattle.local_area.specs.Area.{Pair}
use Rattle.access_grants.specs.Grant.{PlainGrant, PlainGrants}
use Rattle.row_changes.specs.Appended.{HasTexts}
use Rattle.row_changes.specs.Body.{rows_bytes}
use Rattle.row_changes.specs.Change.{PlainChange, AreaPut, AreaRemove, AreaClear, SetMode, CookieInsert, CookieReplace, CookieRemove, Grant}
use Rattle.row_changes.specs.Plain.{plain_change}
use Rattle.row_changes.specs.Spelling.{change_bytes}
use Rattle.row_changes.specs.declared.change.Change.{Change}
use Rattle.durable_model.specs.Saved.{pairs_at}
use Rattle.web_cookies.specs.Stored as cookies
use Rattle.web_storage.specs.Stored as storage
use Rattle.row_store.specs.Kept.{kept_change, kept_of}
use Rattle.row_store.specs.Listing.{listed, mode_rows, pair_rows, stored_keys}
use Rattle.row_store.specs.Pushed.{all_rows, area_rows, areas_alone, cookie_rows_in, key_rows_in}
use Rattle.row_store.specs.Sinks.{IsListed, IsWritten}
use Rattle.row_store.specs.Stored.{saved_in}
use Rattle.row_store.specs.declared.which.Which.TheVariants as which
use Rattle.row_store.proofs.KeptLemmas.{cells_kept, map_flat}
use Rattle.row_store.proofs.PushedLemmas.{areas_listed, cells_listed}

same_bytes : (change : PlainChange) → change_bytes (kept_change change) ≡ change_bytes change
same_bytes (AreaPut key name value) = refl
same_bytes (AreaRemove key name) = refl
same_bytes (AreaClear key) = refl
same_bytes (SetMode key) = refl
same_bytes (CookieInsert cell place c) = refl
same_bytes (CookieReplace cell place c) = refl
same_bytes (CookieRemove cell place) = refl
same_bytes (Grant row) = refl

same_texts : (change : PlainChange) → HasTexts change → HasTexts (kept_change change)
same_texts (AreaPut key name value) has = has
same_texts (AreaRemove key name) has = has
same_texts (AreaClear key) has = has
same_texts (SetMode key) has = has
same_texts (CookieInsert cell place c) has = has
same_texts (CookieReplace cell place c) has = has
same_texts (CookieRemove cell place) has = has
same_texts (Grant row) has = has

bytes_kept : (rows : List PlainChange) → rows_bytes (map kept_change rows) ≡ rows_bytes rows
bytes_kept [] = refl
bytes_kept (row ∷ rows) = λ i. same_bytes row i ++ bytes_kept rows i

texts_kept : (rows : List PlainChange) → AllByRecursion HasTexts rows → AllByRecursion HasTexts (map kept_change rows)
texts_kept [] has = tt
texts_kept (row ∷ rows) has = (same_texts row has.0, texts_kept rows has.1)

both : {X : Type 0} (P : X → Type 0) (xs ys : List X) → AllByRecursion P (xs ++ ys) → AllByRecursion P xs × AllByRecursion P ys
both P [] ys all = (tt, all)
both P (x ∷ xs) ys all = let rest = both P xs ys all.1 in ((all.0, rest.0), rest.1)

module _ (first second third : List PlainChange) where
  bytes_between : rows_bytes (first ++ second ++ third) ≡ rows_bytes (first ++ map kept_change second ++ third)
  bytes_between =
      flat_map-append change_bytes (first ++ second) third
      ∙ ap (λ l. l ++ rows_bytes third)
      (flat_map-append change_bytes first second ∙ ap (λ l. rows_bytes first ++ l) (sym (bytes_kept second))
      ∙ sym (flat_map-append change_bytes first (map kept_change second)))
      ∙ sym (flat_map-append change_bytes (first ++ map kept_change second) third)

  texts_between : All HasTexts (first ++ second ++ third) → All HasTexts (first ++ map kept_change second ++ third)
  texts_between has =
      let outer = both HasTexts (first ++ second) third (recursion_from_All HasTexts _ has) in
      let inner = both HasTexts first second outer.0 in
      All-append HasTexts (first ++ map kept_change second) third
      (All-append HasTexts first (map kept_change second) (All-from_recursion HasTexts first inner.0)
      (All-from_recursion HasTexts _ (texts_kept second inner.1)))
      (All-from_recursion HasTexts third outer.1)

-- ---- row changes without a cookie stay

pairs_stay : (key : PlainKey) (pairs : List Pair) → map kept_change (pair_rows key pairs) ≡ pair_rows key pairs
pairs_stay key [] = refl
pairs_stay key (pair ∷ pairs) = ap (λ l. AreaPut key pair.name pair.value ∷ l) (pairs_stay key pairs)

mode_stays : (key : PlainKey) (b : Bool) → map kept_change (mode_rows key b) ≡ mode_rows key b
mode_stays key true = refl
mode_stays key false = refl

grants_stay : (rows : List PlainGrant) → map kept_change (map (λ row. Grant row) rows) ≡ map (λ row. Grant row) rows
grants_stay [] = refl
grants_stay (row ∷ rows) = ap (λ l. Grant row ∷ l) (grants_stay rows)

areas_stay : (areas : storage.Entries) → map kept_change (area_rows areas) ≡ area_rows areas
areas_stay areas =
    sym (map_flat kept_change (key_rows_in areas) (stored_keys (areas_alone areas)))
    ∙ (λ i. flat_map (λ key. key_stays key i) (stored_keys (areas_alone areas)))
  where
    key_stays : (key : PlainKey) → map kept_change (key_rows_in areas key) ≡ key_rows_in areas key
    key_stays key =
        map-append kept_change (pair_rows key (pairs_at key (areas_alone areas)))
        (mode_rows key (finite.contains_key (areas_alone areas).under.persistent key))
        ∙ (λ i. pairs_stay key (pairs_at key (areas_alone areas)) i
        ++ mode_stays key (finite.contains_key (areas_alone areas).under.persistent key) i)

module _ (areas : storage.Entries) (entries : cookies.Entries) (grants : PlainGrants) where
  kept_listed : area_rows areas ++ map kept_change (cookie_rows_in which.Persistent entries)
      ++ map (λ row. Grant row) grants.rows ≡ listed (kept_of (saved_in areas entries grants))
  kept_listed = λ i.
      areas_listed areas entries grants i
      ++ (ap (map kept_change) (cells_listed areas entries grants which.Persistent)
      ∙ sym (cells_kept (saved_in areas entries grants))) i
      ++ map (λ row. Grant row) grants.rows

  -- the persistent cookies as they stand are written as what outlives a restart of all
  pub body_kept : (body : List ℕ) → IsWritten [] (all_rows which.Persistent areas entries grants) body
      → IsWritten [] (listed (kept_of (saved_in areas entries grants))) body
  body_kept body written = subst (λ rows. IsWritten [] rows body) kept_listed (record {
    bytes = written.bytes ∙ bytes_between (area_rows areas) (cookie_rows_in which.Persistent entries)
        (map (λ row. Grant row) grants.rows);
    texts = texts_between (area_rows areas) (cookie_rows_in which.Persistent entries)
        (map (λ row. Grant row) grants.rows) written.texts;
  })

  -- and listed as what outlives a restart of all
  pub rows_kept : map kept_change (all_rows which.Persistent areas entries grants)
      ≡ listed (kept_of (saved_in areas entries grants))
  rows_kept =
      map-append kept_change (area_rows areas ++ cookie_rows_in which.Persistent entries) (map (λ row. Grant row) grants.rows)
      ∙ (λ i. (map-append kept_change (area_rows areas) (cookie_rows_in which.Persistent entries)
      ∙ ap (λ l. l ++ map kept_change (cookie_rows_in which.Persistent entries)) (areas_stay areas)) i
      ++ grants_stay grants.rows i)
      ∙ kept_listed

  pub listed_kept : (before rows : List Change) → before ≡ []
      → IsListed before (map kept_change (all_rows which.Persistent areas entries grants)) rows
      → map plain_change rows ≡ listed (kept_of (saved_in areas entries grants))
  listed_kept before rows none is = is ∙ ap (λ b. map plain_change b
      ++ map kept_change (all_rows which.Persistent areas entries grants)) none ∙ rows_kept
