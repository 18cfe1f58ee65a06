-- The entries of an area's map, as pairs.
use Rattle.std.proofs.Common.{◌≡◌, ℕ, suc, zero, ◌≤◌, Bool, true, false, true≢false, cond, List, [], ◌∷◌, map, take, set, length, refl, ap, ◌∙◌, sym, arith}
use Rattle.std.specs.Prelude.{bytes_eq, String, Vec, string_bytes, option_map, nat_eq, vec_len}
use Rattle.std.specs.declared.alloc.Global.{Global}
use Rattle.std.specs.Str.{IsUtf8}
use Rattle.std.specs.List.{IsDistinct, AllByRecursion, AllZip, position_or_len}
use Rattle.std.specs.Map as map
use Rattle.std.proofs.lemmas.Slice.Eq.{bytes_eq-Decides}
use Rattle.std.proofs.lemmas.Str.{IsCharBoundary-start}
use Rattle.indexmap.specs.IndexMap.{insert_entry}
use Rattle.local_area.specs.Area.{Pair, area_get, HasDistinctNames}
use Rattle.local_area.specs.Places.{Entry, is_mark_key, is_pair, pair_of, pairs_of, count_of}
use Rattle.local_area.proofs.PairsLemmas.{put_first, remove_first}

-- the test by which the map finds a name
abbrev pub finds : List ℕ → Vec ℕ Global → Bool
finds name key = bytes_eq name key.items

-- the test by which the map compares keys
abbrev pub same_key : Vec ℕ Global → Vec ℕ Global → Bool
same_key key other = bytes_eq key.items other.items

-- no text is the key of a mark
text_start : (byte : ℕ) (bytes : List ℕ) (b : Bool) → nat_eq byte 128 ≡ b → IsUtf8 (byte ∷ bytes)
    → nat_eq byte 128 ≡ false
text_start byte bytes false is text = is
text_start byte bytes true is text =
    let same : byte ≡ 128 = grind (arith, is) in
    let start : 128 ≤ byte → 192 ≤ byte = (IsCharBoundary-start (byte ∷ bytes) text).1 (omega arith) in
    absurd (omega (arith, same, start (omega (arith, same))))

pub text_key : (name : List ℕ) → IsUtf8 name → is_mark_key name ≡ false
text_key [] text = refl
text_key (byte ∷ bytes) text = text_start byte bytes (nat_eq byte 128) refl text

-- what is found by a text is a pair
pub found_pair : (name : List ℕ) (e : Entry) → is_mark_key name ≡ false → finds name e.0 ≡ true → is_pair e ≡ true
found_pair name e text found =
    let same : name ≡ e.0.items = (bytes_eq-Decides name e.0.items).0 found in
    let key : is_mark_key e.0.items ≡ false = rw same at text in
    rw key refl

lookup_step : (name : List ℕ) (e : Entry) (es : List Entry) (f p : Bool) → finds name e.0 ≡ f → is_pair e ≡ p
    → (f ≡ true → p ≡ true)
    → option_map string_bytes (map.lookup (finds name) es) ≡ area_get name (pairs_of es)
    → option_map string_bytes (map.lookup (finds name) (e ∷ es)) ≡ area_get name (pairs_of (e ∷ es))
lookup_step name e es true true is kept both rest = rw (kept, is) refl
lookup_step name e es true false is kept both rest = absurd (true≢false (sym (both refl)))
lookup_step name e es false true is kept both rest = rw (kept, is) rest
lookup_step name e es false false is kept both rest = rw (kept, is) rest

pub pairs_of-lookup : (es : List Entry) (name : List ℕ) → is_mark_key name ≡ false
    → option_map string_bytes (map.lookup (finds name) es) ≡ area_get name (pairs_of es)
pairs_of-lookup [] name text = refl
pairs_of-lookup (e ∷ es) name text =
    lookup_step name e es (finds name e.0) (is_pair e) refl refl (found_pair name e text) (pairs_of-lookup es name text)

insert_step : (e : Entry) (es : List Entry) (k : Vec ℕ Global) (v : String Global) (f p : Bool)
    → same_key k e.0 ≡ f → is_pair e ≡ p → is_mark_key k.items ≡ false
    → pairs_of (insert_entry same_key es k v) ≡ put_first k.items (string_bytes v) (pairs_of es)
    → pairs_of (insert_entry same_key (e ∷ es) k v) ≡ put_first k.items (string_bytes v) (pairs_of (e ∷ es))
insert_step e es k v true p is kept text rest =
    let same : k.items ≡ e.0.items = (bytes_eq-Decides k.items e.0.items).0 is in
    let key : is_mark_key e.0.items ≡ false = rw same at text in
    rw (is, key, is) refl
insert_step e es k v false true is kept text rest = rw (is, kept, is) (ap (λ r. pair_of e ∷ r) rest)
insert_step e es k v false false is kept text rest = rw (is, kept) rest

pub pairs_of-insert : (es : List Entry) (k : Vec ℕ Global) (v : String Global) → is_mark_key k.items ≡ false
    → pairs_of (insert_entry same_key es k v) ≡ put_first k.items (string_bytes v) (pairs_of es)
pairs_of-insert [] k v text = rw text refl
pairs_of-insert (e ∷ es) k v text =
    insert_step e es k v (same_key k e.0) (is_pair e) refl refl text (pairs_of-insert es k v text)

-- an insertion leaves the number of pairs among the entries that were there
count_step : (e : Entry) (es : List Entry) (k : Vec ℕ Global) (v : String Global) (n : ℕ) (f p : Bool)
    → same_key k e.0 ≡ f → is_pair e ≡ p → is_mark_key k.items ≡ false
    → count_of (take n (insert_entry same_key es k v)) ≡ count_of (take n es)
    → count_of (take (suc n) (insert_entry same_key (e ∷ es) k v)) ≡ count_of (take (suc n) (e ∷ es))
count_step e es k v n true p is kept text rest =
    let same : k.items ≡ e.0.items = (bytes_eq-Decides k.items e.0.items).0 is in
    let key : is_mark_key e.0.items ≡ false = rw same at text in
    rw (is, key) refl
count_step e es k v n false true is kept text rest = rw (is, kept) (ap suc rest)
count_step e es k v n false false is kept text rest = rw (is, kept) rest

pub count_of-insert : (es : List Entry) (k : Vec ℕ Global) (v : String Global) (n : ℕ)
    → is_mark_key k.items ≡ false → n ≤ length es
    → count_of (take n (insert_entry same_key es k v)) ≡ count_of (take n es)
count_of-insert es k v zero text within = refl
count_of-insert [] k v (suc n) text within = absurd (omega (arith, within))
count_of-insert (e ∷ es) k v (suc n) text within =
    count_step e es k v n (same_key k e.0) (is_pair e) refl refl text (count_of-insert es k v n text (omega (arith, within)))

remove_step : (name : List ℕ) (e : Entry) (es : List Entry) (f p : Bool) → finds name e.0 ≡ f → is_pair e ≡ p
    → (f ≡ true → p ≡ true)
    → pairs_of (map.remove_entry (finds name) es) ≡ remove_first name (pairs_of es)
    → pairs_of (map.remove_entry (finds name) (e ∷ es)) ≡ remove_first name (pairs_of (e ∷ es))
remove_step name e es true true is kept both rest = rw (kept, is) refl
remove_step name e es true false is kept both rest = absurd (true≢false (sym (both refl)))
remove_step name e es false true is kept both rest = rw (is, kept, is) (ap (λ r. pair_of e ∷ r) rest)
remove_step name e es false false is kept both rest = rw (is, kept) rest

pub pairs_of-remove : (es : List Entry) (name : List ℕ) → is_mark_key name ≡ false
    → pairs_of (map.remove_entry (finds name) es) ≡ remove_first name (pairs_of es)
pairs_of-remove [] name text = refl
pairs_of-remove (e ∷ es) name text =
    remove_step name e es (finds name e.0) (is_pair e) refl refl (found_pair name e text) (pairs_of-remove es name text)

pub place_step : (name : List ℕ) (e : Entry) (es : List Entry) (f : Bool) → finds name e.0 ≡ f
    → position_or_len (finds name) (map.keys_of (e ∷ es))
    ≡ cond f 0 (suc (position_or_len (finds name) (map.keys_of es)))
place_step name e es true is = rw is refl
place_step name e es false is = rw is (omega arith)

mark_step : (name : List ℕ) (g e : Entry) (es : List Entry) (f p : Bool) → finds name e.0 ≡ f → is_pair e ≡ p
    → (f ≡ true → p ≡ true) → is_pair g ≡ false
    → pairs_of (set es (position_or_len (finds name) (map.keys_of es)) g) ≡ remove_first name (pairs_of es)
    → pairs_of (set (e ∷ es) (position_or_len (finds name) (map.keys_of (e ∷ es))) g)
    ≡ remove_first name (pairs_of (e ∷ es))
mark_step name g e es true true is kept both mark rest =
    ap (λ n. pairs_of (set (e ∷ es) n g)) (place_step name e es true is) ∙ rw (kept, is, mark) refl
mark_step name g e es true false is kept both mark rest = absurd (true≢false (sym (both refl)))
mark_step name g e es false true is kept both mark rest =
    ap (λ n. pairs_of (set (e ∷ es) n g)) (place_step name e es false is)
    ∙ rw (kept, is) (ap (λ r. pair_of e ∷ r) rest)
mark_step name g e es false false is kept both mark rest =
    ap (λ n. pairs_of (set (e ∷ es) n g)) (place_step name e es false is) ∙ rw kept rest

-- a mark in the place of the pair of a name
pub pairs_of-mark : (es : List Entry) (name : List ℕ) (g : Entry) → is_mark_key name ≡ false → is_pair g ≡ false
    → pairs_of (set es (position_or_len (finds name) (map.keys_of es)) g) ≡ remove_first name (pairs_of es)
pairs_of-mark [] name g text mark = refl
pairs_of-mark (e ∷ es) name g text mark =
    mark_step name g e es (finds name e.0) (is_pair e) refl refl (found_pair name e text) mark (pairs_of-mark es name g text mark)

-- no pair has the name
abbrev pub AreOther : List ℕ → List Pair → Type 0
AreOther name pairs = AllByRecursion (λ other. bytes_eq name other ≡ false) (map (λ pair. pair.name) pairs)

other_step : (k : Vec ℕ Global) (e : Entry) (es : List Entry) (p : Bool) → is_pair e ≡ p → same_key k e.0 ≡ false
    → AreOther k.items (pairs_of es) → AreOther k.items (pairs_of (e ∷ es))
other_step k e es true kept other rest = rw kept (other, rest)
other_step k e es false kept other rest = rw kept rest

all_names : (k : Vec ℕ Global) (es : List Entry)
    → AllByRecursion (λ other. same_key k other ≡ false) (map.keys_of es) → AreOther k.items (pairs_of es)
all_names k [] all = tt
all_names k (e ∷ es) all = other_step k e es (is_pair e) refl all.0 (all_names k es all.1)

distinct_step : (e : Entry) (es : List Entry) (p : Bool) → is_pair e ≡ p → AreOther e.0.items (pairs_of es)
    → HasDistinctNames (pairs_of es) → HasDistinctNames (pairs_of (e ∷ es))
unfolding IsDistinct
distinct_step e es true kept other rest = rw kept (other, rest)
distinct_step e es false kept other rest = rw kept rest

-- the names are distinct, since the keys of a map are
pub pairs_of-distinct : (es : List Entry) → IsDistinct same_key (map.keys_of es) → HasDistinctNames (pairs_of es)
unfolding IsDistinct
pairs_of-distinct [] distinct = tt
pairs_of-distinct (e ∷ es) distinct =
    distinct_step e es (is_pair e) refl (all_names e.0 es distinct.0) (pairs_of-distinct es distinct.1)

clone_step : (e f : Entry) (es fs : List Entry) (p : Bool) → is_pair e ≡ p → f.0.items ≡ e.0.items
    → string_bytes f.1 ≡ string_bytes e.1 → pairs_of fs ≡ pairs_of es → pairs_of (f ∷ fs) ≡ pairs_of (e ∷ es)
clone_step e f es fs true kept key value rest =
    let kind : is_pair f ≡ true = rw (key, value) kept in
    let pair : pair_of f ≡ pair_of e = cc (key, value) in
    rw (kept, kind) (cc (pair, rest))
clone_step e f es fs false kept key value rest =
    let kind : is_pair f ≡ false = rw (key, value) kept in
    rw (kept, kind) rest

same_items : (xs ys : List ℕ) → AllZip (λ x y. y ≡ x) xs ys → ys ≡ xs
same_items [] [] same = refl
same_items [] (y ∷ ys) same = absurd same
same_items (x ∷ xs) [] same = absurd same
same_items (x ∷ xs) (y ∷ ys) same = cc (same.0, same_items xs ys same.1)

-- a clone of the map has the same pairs
pub pairs_of-clone : (es fs : List Entry)
    → AllZip (λ e f. (AllZip (λ x y. y ≡ x) e.0.items f.0.items × (vec_len f.0 ≡ vec_len e.0)) × (string_bytes f.1 ≡ string_bytes e.1)) es fs
    → (pairs_of fs ≡ pairs_of es) × (length fs ≡ length es)
pairs_of-clone [] [] same = (refl, refl)
pairs_of-clone [] (f ∷ fs) same = absurd same
pairs_of-clone (e ∷ es) [] same = absurd same
pairs_of-clone (e ∷ es) (f ∷ fs) same =
    let rest : (pairs_of fs ≡ pairs_of es) × (length fs ≡ length es) = pairs_of-clone es fs same.1 in
    (clone_step e f es fs (is_pair e) refl (same_items e.0.items f.0.items same.0.0.0) same.0.1 rest.0, ap suc rest.1)
