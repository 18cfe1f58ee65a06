-- What a change of an area's map makes of its pairs and its counts.
use Rattle.std.proofs.Common.{◌≡◌, ℕ, suc, zero, ◌+◌, ◌*◌, ◌/◌, ◌≤◌, ◌<◌, Bool, true, false, List, [], ◌∷◌, ◌++◌, map, filter, take, set, get_or, length, Option, Some, None, refl, ap, ◌∙◌, sym, arith, length-set}
use Rattle.std.specs.Prelude.{Vec, String, string_bytes, option_map, nat_lt, slice_get, is_some, if◌then◌else◌, swap_remove, position}
use Rattle.std.specs.declared.alloc.Global.{Global}
use Rattle.std.specs.List.{IsDistinct, position_or_len}
use Rattle.std.specs.Map as map
use Rattle.std.specs.Str.{IsUtf8}
use Rattle.std.proofs.lemmas.List.{length-map}
use Rattle.indexmap.specs.IndexMap.{insert_entry}
use Rattle.local_area.specs.Area.{Pair, area_get, area_put, area_remove, HasDistinctNames}
use Rattle.local_area.specs.Places.{Entry, is_mark_key, is_pair, pair_of, pairs_of, count_of, pairs_before, IsPlaces, EndsWithMark}
use Rattle.local_area.proofs.PairsLemmas.{put_first, remove_first, put_first-is, remove_first-is}
use Rattle.local_area.proofs.EntriesLemmas.{finds, same_key, text_key, found_pair, place_step, pairs_of-lookup, pairs_of-insert, pairs_of-remove, pairs_of-mark, pairs_of-distinct}
use Rattle.local_area.proofs.PlacesLemmas.{pairs_of-filter, uncounted, counted-insert, counted-lower, IsLowered, counted-push, swapped, composed, slice_get-map, texts-put, texts-remove, length-put_first, length-remove_first}

-- a look-up by the bytes of a text
pub pairs_of-found : (es : List Entry) (key name : List ℕ) (pairs : List Pair) → IsUtf8 key → key ≡ name → pairs_of es ≡ pairs
    → option_map string_bytes (map.lookup (finds key) es) ≡ area_get name pairs
pairs_of-found es key name pairs text same is =
    pairs_of-lookup es key (text_key key text) ∙ ap (λ n. area_get n (pairs_of es)) same ∙ ap (area_get name) is

pub pairs_of-inserted : (es new : List Entry) (k : Vec ℕ Global) (v : String Global) (name : List ℕ) (pairs : List Pair)
    → IsUtf8 k.items → k.items ≡ name → new ≡ insert_entry same_key es k v → HasDistinctNames (pairs_of es) → pairs_of es ≡ pairs
    → pairs_of new ≡ area_put name (string_bytes v) pairs
pairs_of-inserted es new k v name pairs text key is distinct same =
    ap pairs_of is ∙ pairs_of-insert es k v (text_key k.items text) ∙ put_first-is k.items (string_bytes v) (pairs_of es) distinct
    ∙ ap (λ n. area_put n (string_bytes v) (pairs_of es)) key ∙ ap (area_put name (string_bytes v)) same

pub pairs_of-removed : (es new : List Entry) (key name : List ℕ) (pairs : List Pair) → IsUtf8 key → key ≡ name
    → new ≡ map.remove_entry (finds key) es → HasDistinctNames (pairs_of es) → pairs_of es ≡ pairs
    → pairs_of new ≡ area_remove name pairs
pairs_of-removed es new key name pairs text same is distinct seen =
    ap pairs_of is ∙ pairs_of-remove es key (text_key key text) ∙ remove_first-is key (pairs_of es) distinct
    ∙ ap (λ n. area_remove n (pairs_of es)) same ∙ ap (area_remove name) seen

some_of : {X Y : Type 0} (f : X → Y) (o : Option X) → is_some (option_map f o) ≡ is_some o
some_of f None = refl
some_of f (Some x) = refl

-- a name is among the pairs where its key is among the entries
some_found : (es : List Entry) (key : List ℕ) → IsUtf8 key
    → is_some (area_get key (pairs_of es)) ≡ is_some (map.lookup (finds key) es)
some_found es key text =
    ap is_some (sym (pairs_of-lookup es key (text_key key text))) ∙ some_of string_bytes (map.lookup (finds key) es)

pub places-none : (es : List Entry) (counts : List ℕ) → es ≡ [] → counts ≡ [] → IsPlaces es 0 counts
unfolding IsDistinct
places-none es counts none empty =
    rw (none, empty) (record { distinct = tt; texts = tt; marked = omega arith; counted = uncounted [] })

pub places-insert : (es new : List Entry) (k : Vec ℕ Global) (v : String Global) (marks : ℕ) (counts : List ℕ)
    → IsPlaces es marks counts → IsUtf8 k.items → IsDistinct same_key (map.keys_of new)
    → new ≡ insert_entry same_key es k v
    → length new ≡ length es + (if is_some (map.lookup (same_key k) es) then 0 else 1)
    → IsPlaces new marks counts
places-insert es new k v marks counts places text distinct is long =
    let pairs : pairs_of new ≡ put_first k.items (string_bytes v) (pairs_of es) =
    ap pairs_of is ∙ pairs_of-insert es k v (text_key k.items text) in
    let more : length (pairs_of new) ≡ length (pairs_of es) + (if is_some (area_get k.items (pairs_of es)) then 0 else 1) =
    ap length pairs ∙ length-put_first k.items (string_bytes v) (pairs_of es) in
    let fits : length (pairs_of new) ≡ length (pairs_of es) + (if is_some (map.lookup (same_key k) es) then 0 else 1) =
    rw (some_found es k.items text) at more in
    let longer : length es ≤ length (insert_entry same_key es k v) = omega (arith, long, ap length is) in
    record {
      distinct = pairs_of-distinct new distinct;
      texts = rw pairs (texts-put k.items (string_bytes v) (pairs_of es) text places.texts);
      marked = omega (arith, fits, long, places.marked);
      counted = rw is (counted-insert es k v counts (text_key k.items text) longer places.counted);
    }

pub places-move : (es new : List Entry) (key : List ℕ) (marks : ℕ) (counts left : List ℕ) → IsPlaces es marks counts
    → IsUtf8 key → IsDistinct same_key (map.keys_of new) → new ≡ map.remove_entry (finds key) es
    → length new + (if is_some (map.lookup (finds key) es) then 1 else 0) ≡ length es → left ≡ []
    → IsPlaces new marks left
places-move es new key marks counts left places text distinct is long none =
    let pairs : pairs_of new ≡ remove_first key (pairs_of es) = ap pairs_of is ∙ pairs_of-remove es key (text_key key text) in
    let less : length (pairs_of new) + (if is_some (area_get key (pairs_of es)) then 1 else 0) ≡ length (pairs_of es) =
    rw pairs (length-remove_first key (pairs_of es)) in
    let fits : length (pairs_of new) + (if is_some (map.lookup (finds key) es) then 1 else 0) ≡ length (pairs_of es) =
    rw (some_found es key text) at less in
    record {
      distinct = pairs_of-distinct new distinct;
      texts = rw pairs (texts-remove key (pairs_of es) places.texts);
      marked = omega (arith, fits, long, places.marked);
      counted = rw none (uncounted new);
    }

position_step : {X : Type 0} (p : X → Bool) (xs : List X) (i : ℕ) (b : Bool) → nat_lt (position_or_len p xs) (length xs) ≡ b
    → position p xs ≡ Some i → (i ≡ position_or_len p xs) × (position_or_len p xs < length xs)
position_step p xs i true inside is =
    let there : Some (position_or_len p xs) ≡ Some i = rw inside at is in
    (cc there, grind (arith, inside))
position_step p xs i false inside is = let none : None ≡ Some i = rw inside at is in absurd (cc none)

-- the place of a key
pub place_of : (es : List Entry) (key : List ℕ) (place : ℕ) → position (finds key) (map.keys_of es) ≡ Some place
    → (place ≡ position_or_len (finds key) (map.keys_of es)) × (place < length es)
place_of es key place is =
    let found : (place ≡ position_or_len (finds key) (map.keys_of es)) × (position_or_len (finds key) (map.keys_of es) < length (map.keys_of es)) =
    position_step (finds key) (map.keys_of es) place (nat_lt (position_or_len (finds key) (map.keys_of es)) (length (map.keys_of es))) refl is in
    (found.0, omega (arith, found.0, found.1, length-map es (λ e. e.0)))

at_step : (key : List ℕ) (e d : Entry) (es : List Entry) (f : Bool) → finds key e.0 ≡ f → IsUtf8 key
    → (position_or_len (finds key) (map.keys_of es) < length es → is_pair (get_or es (position_or_len (finds key) (map.keys_of es)) d) ≡ true)
    → position_or_len (finds key) (map.keys_of (e ∷ es)) < suc (length es)
    → is_pair (get_or (e ∷ es) (position_or_len (finds key) (map.keys_of (e ∷ es))) d) ≡ true
at_step key e d es true is text rest within =
    ap (λ n. is_pair (get_or (e ∷ es) n d)) (place_step key e es true is) ∙ found_pair key e (text_key key text) is
at_step key e d es false is text rest within =
    let place : position_or_len (finds key) (map.keys_of (e ∷ es)) ≡ suc (position_or_len (finds key) (map.keys_of es)) =
    place_step key e es false is in
    ap (λ n. is_pair (get_or (e ∷ es) n d)) place ∙ rest (omega (arith, place, within))

-- what stands there is a pair
pair_at : (es : List Entry) (key : List ℕ) (d : Entry) → IsUtf8 key → position_or_len (finds key) (map.keys_of es) < length es
    → is_pair (get_or es (position_or_len (finds key) (map.keys_of es)) d) ≡ true
pair_at [] key d text within = absurd (omega (arith, within))
pair_at (e ∷ es) key d text within = at_step key e d es (finds key e.0) refl text (pair_at es key d text) within

pub pair_found : (es : List Entry) (key : List ℕ) (place : ℕ) (d : Entry) → IsUtf8 key
    → position (finds key) (map.keys_of es) ≡ Some place → is_pair (get_or es place d) ≡ true
pair_found es key place d text is =
    let found : (place ≡ position_or_len (finds key) (map.keys_of es)) × (place < length es) = place_of es key place is in
    ap (λ n. is_pair (get_or es n d)) found.0 ∙ pair_at es key d text (omega (arith, found.0, found.1))

-- the mark behind the entries comes to the place of a key
pub ends_swapped : (es ended new : List Entry) (place : ℕ) (d : Entry) → (m : EndsWithMark es ended) → place < length es
    → new ≡ swap_remove ended place d → new ≡ set es place m.0
ends_swapped es ended new place d m within is =
    is ∙ ap (λ l. swap_remove l place d) m.2 ∙ swapped es m.0 place d within

pub pairs_of-marked : (es ended new : List Entry) (key name : List ℕ) (place : ℕ) (d : Entry) (pairs : List Pair)
    → EndsWithMark es ended → IsUtf8 key → key ≡ name → position (finds key) (map.keys_of es) ≡ Some place
    → new ≡ swap_remove ended place d → HasDistinctNames (pairs_of es) → pairs_of es ≡ pairs
    → pairs_of new ≡ area_remove name pairs
pairs_of-marked es ended new key name place d pairs m text same at_place is distinct seen =
    let found : (place ≡ position_or_len (finds key) (map.keys_of es)) × (place < length es) = place_of es key place at_place in
    ap pairs_of (ends_swapped es ended new place d m found.1 is)
    ∙ ap (λ n. pairs_of (set es n m.0)) found.0
    ∙ pairs_of-mark es key m.0 (text_key key text) m.1
    ∙ remove_first-is key (pairs_of es) distinct
    ∙ ap (λ n. area_remove n (pairs_of es)) same ∙ ap (area_remove name) seen

some_step : (key : List ℕ) (e : Entry) (es : List Entry) (f : Bool) → finds key e.0 ≡ f
    → (position_or_len (finds key) (map.keys_of es) < length es → is_some (map.lookup (finds key) es) ≡ true)
    → position_or_len (finds key) (map.keys_of (e ∷ es)) < suc (length es)
    → is_some (map.lookup (finds key) (e ∷ es)) ≡ true
some_step key e es true is rest within = rw is refl
some_step key e es false is rest within =
    let place : position_or_len (finds key) (map.keys_of (e ∷ es)) ≡ suc (position_or_len (finds key) (map.keys_of es)) =
    place_step key e es false is in
    rw is (rest (omega (arith, place, within)))

some_place : (es : List Entry) (key : List ℕ) → IsUtf8 key → position_or_len (finds key) (map.keys_of es) < length es
    → is_some (map.lookup (finds key) es) ≡ true
some_place [] key text within = absurd (omega (arith, within))
some_place (e ∷ es) key text within = some_step key e es (finds key e.0) refl (some_place es key text) within

pub places-mark : (es ended new : List Entry) (key : List ℕ) (place marks : ℕ) (d : Entry) (counts lowered : List ℕ)
    → IsPlaces es marks counts → EndsWithMark es ended → IsUtf8 key → position (finds key) (map.keys_of es) ≡ Some place
    → new ≡ swap_remove ended place d → IsDistinct same_key (map.keys_of new) → IsLowered (place / 256) counts lowered
    → IsPlaces new (marks + 1) lowered
places-mark es ended new key place marks d counts lowered places m text at_place is distinct less =
    let found : (place ≡ position_or_len (finds key) (map.keys_of es)) × (place < length es) = place_of es key place at_place in
    let set_is : new ≡ set es place m.0 = ends_swapped es ended new place d m found.1 is in
    let pairs : pairs_of new ≡ remove_first key (pairs_of es) =
    ap pairs_of set_is ∙ ap (λ n. pairs_of (set es n m.0)) found.0 ∙ pairs_of-mark es key m.0 (text_key key text) m.1 in
    let fewer : length (pairs_of new) + (if is_some (area_get key (pairs_of es)) then 1 else 0) ≡ length (pairs_of es) =
    rw pairs (length-remove_first key (pairs_of es)) in
    let there : is_some (area_get key (pairs_of es)) ≡ true =
    some_found es key text ∙ some_place es key text (omega (arith, found.0, found.1)) in
    let one : length (pairs_of new) + 1 ≡ length (pairs_of es) = rw there at fewer in
    let same : length new ≡ length es = ap length set_is ∙ length-set es place m.0 in
    record {
      distinct = pairs_of-distinct new distinct;
      texts = rw pairs (texts-remove key (pairs_of es) places.texts);
      marked = omega (arith, one, same, places.marked);
      counted = rw set_is (counted-lower es counts lowered place m.0 d places.counted found.1 (pair_found es key place d text at_place) m.1 less);
    }

-- other entries for the same pairs
pub places-same : (es new : List Entry) (marks : ℕ) (counts left : List ℕ) → IsPlaces es marks counts
    → pairs_of new ≡ pairs_of es → length new ≡ length es → left ≡ [] → IsPlaces new marks left
places-same es new marks counts left places same long none = record {
  distinct = rw same places.distinct;
  texts = rw same places.texts;
  marked = omega (arith, ap length same, long, places.marked);
  counted = rw none (uncounted new);
}

-- the entries without the marks
pub places-filter : (es new : List Entry) (marks : ℕ) (counts left : List ℕ) → IsPlaces es marks counts
    → new ≡ filter is_pair es → left ≡ [] → IsPlaces new 0 left
places-filter es new marks counts left places is none =
    let same : pairs_of new ≡ pairs_of es = ap pairs_of is ∙ pairs_of-filter es in
    let long : length new ≡ length (pairs_of es) = ap length is ∙ sym (length-map (filter is_pair es) pair_of) in
    record {
      distinct = rw same places.distinct;
      texts = rw same places.texts;
      marked = omega (arith, ap length same, long);
      counted = rw none (uncounted new);
    }

-- a block more is counted
pub places-push : (es : List Entry) (marks : ℕ) (counts shown : List ℕ) (block before more total : ℕ)
    → IsPlaces es marks counts → length counts ≡ block → block * 256 + 256 ≤ length es → shown ≡ counts
    → before ≡ pairs_before shown (length shown)
    → count_of (take (block * 256) es) + more ≡ count_of (take (block * 256 + 256) es) → total ≡ before + more
    → IsPlaces es marks (counts ++ total ∷ [])
places-push es marks counts shown block before more total places long within is last counted sum =
    let front : pairs_before counts (length counts) ≡ count_of (take (length counts * 256) es) =
    places.counted.each (length counts) (omega arith) in
    let here : before ≡ pairs_before counts (length counts) = rw (← is) last in
    let end : suc (length counts) * 256 ≡ block * 256 + 256 = omega (arith, long) in
    let start : length counts * 256 ≡ block * 256 = omega (arith, long) in
    let all : total ≡ count_of (take (suc (length counts) * 256) es) =
    omega (arith, sum, here, front, counted, ap (λ n. count_of (take n es)) end, ap (λ n. count_of (take n es)) start) in
    record {
      distinct = places.distinct;
      texts = places.texts;
      marked = places.marked;
      counted = counted-push es counts total places.counted (omega (arith, end, within)) all;
    }

none_of : {X : Type 0} (o : Option X) → is_some o ≡ false → o ≡ None
none_of None is = refl
none_of (Some x) is = absurd (cc is)

-- a name that is not there
pub pairs_of-missing : (es : List Entry) (key name : List ℕ) (pairs : List Pair) → IsUtf8 key → key ≡ name → pairs_of es ≡ pairs
    → is_some (map.lookup (finds key) es) ≡ false → area_get name pairs ≡ None
pairs_of-missing es key name pairs text same is none =
    sym (pairs_of-found es key name pairs text same is) ∙ ap (option_map string_bytes) (none_of (map.lookup (finds key) es) none)

get_inside : (es more : List Entry) (i : ℕ) → i < length es → slice_get (es ++ more) i ≡ slice_get es i
get_inside [] more i within = absurd (omega (arith, within))
get_inside (e ∷ es) more zero within = refl
get_inside (e ∷ es) more (suc i) within = get_inside es more i (omega (arith, within))

-- what stood in the place of a key is its value
pub value_taken : (es ended : List Entry) (key name : List ℕ) (place : ℕ) (pairs : List Pair) (o : Option Entry)
    → EndsWithMark es ended → place < length es → slice_get (map (λ e. e.1) es) place ≡ map.lookup (finds key) es
    → o ≡ slice_get ended place → IsUtf8 key → key ≡ name → pairs_of es ≡ pairs
    → option_map (λ e. string_bytes e.1) o ≡ area_get name pairs
value_taken es ended key name place pairs o m within found taken text same is =
    let there : o ≡ slice_get es place = taken ∙ ap (λ l. slice_get l place) m.2 ∙ get_inside es (m.0 ∷ []) place within in
    ap (option_map (λ e. string_bytes e.1)) there
    ∙ composed (λ e. e.1) string_bytes (slice_get es place)
    ∙ ap (option_map string_bytes) (slice_get-map (λ e. e.1) es place ∙ found)
    ∙ pairs_of-found es key name pairs text same is

absent_step : (e : Entry) (es : List Entry) (k : Vec ℕ Global) (v : String Global) (f : Bool) → same_key k e.0 ≡ f
    → (is_some (map.lookup (same_key k) es) ≡ false → insert_entry same_key es k v ≡ es ++ (k, v) ∷ [])
    → is_some (map.lookup (same_key k) (e ∷ es)) ≡ false
    → insert_entry same_key (e ∷ es) k v ≡ e ∷ (es ++ (k, v) ∷ [])
absent_step e es k v true is rest = rw is (λ none. absurd (cc none))
absent_step e es k v false is rest = rw is (λ none. ap (λ r. e ∷ r) (rest none))

insert_absent : (es : List Entry) (k : Vec ℕ Global) (v : String Global) → is_some (map.lookup (same_key k) es) ≡ false
    → insert_entry same_key es k v ≡ es ++ (k, v) ∷ []
insert_absent [] k v none = refl
insert_absent (e ∷ es) k v none = absent_step e es k v (same_key k e.0) refl (insert_absent es k v) none

-- a mark that is inserted stands last
pub ends_with : (es new : List Entry) (k : Vec ℕ Global) (v : String Global) (shown : List ℕ) → is_mark_key k.items ≡ true
    → string_bytes v ≡ [] → shown ≡ k.items → is_some (map.lookup (finds shown) es) ≡ false
    → new ≡ insert_entry same_key es k v → EndsWithMark es new
ends_with es new k v shown key empty same none is =
    let mark : is_pair (k, v) ≡ false = rw (key, empty) refl in
    let missing : is_some (map.lookup (same_key k) es) ≡ false = rw same at none in
    ((k, v), mark, is ∙ insert_absent es k v missing)

inside_none : (es : List Entry) (i : ℕ) → i < length es → None ≡ slice_get es i → ⊥
inside_none [] i within none = omega (arith, within)
inside_none (e ∷ es) zero within none = cc none
inside_none (e ∷ es) (suc i) within none = inside_none es i (omega (arith, within)) none

-- an entry stands in the place of a key, also with a mark behind
pub taken_none : (es ended : List Entry) (place : ℕ) → EndsWithMark es ended → place < length es
    → None ≡ slice_get ended place → ⊥
taken_none es ended place m within none =
    inside_none es place within (none ∙ ap (λ l. slice_get l place) m.2 ∙ get_inside es (m.0 ∷ []) place within)
