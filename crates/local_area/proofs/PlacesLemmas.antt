-- Pairs that are counted and found among entries with marks.
use Rattle.std.proofs.Common.{◌≡◌, ℕ, suc, zero, ◌+◌, ◌*◌, ◌/◌, ◌≤◌, ◌<◌, ◌-◌, Bool, true, false, cond, List, [], ◌∷◌, ◌++◌, map, filter, take, drop, set, get_or, length, Option, Some, None, refl, ap, ◌∙◌, sym, arith, take-append-drop, length-set}
use Rattle.std.specs.Prelude.{Vec, String, option_map, nat_le, slice_get, slice_index, is_some, if◌then◌else◌, swap_remove}
use Rattle.std.specs.declared.alloc.Global.{Global}
use Rattle.std.specs.Str.{IsUtf8}
use Rattle.std.proofs.lemmas.List.{length-map, take_at, get_or_push, set-append_left, length_push, take-set-le, get_or_append_left}
use Rattle.std.proofs.lemmas.List.Elements.{filter-append}
use Rattle.std.proofs.lemmas.List.Sums.{length-filter, count_by-le-length}
use Rattle.indexmap.specs.IndexMap.{insert_entry}
use Rattle.local_area.specs.Area.{Pair, has_name, area_get}
use Rattle.local_area.specs.Places.{Entry, is_mark_key, is_pair, pair_of, pairs_of, count_of, pairs_before, IsCounted, AreTexts, IsPlaces}
use Rattle.local_area.proofs.PairsLemmas.{put_first, remove_first}
use Rattle.local_area.proofs.EntriesLemmas.{same_key, count_of-insert}

pub count_of-le : (es : List Entry) → count_of es ≤ length es
count_of-le es = omega (arith, length-filter is_pair es, count_by-le-length is_pair es)

all_step : (e : Entry) (es : List Entry) (p : Bool) → is_pair e ≡ p
    → (length (pairs_of es) ≡ length es → pairs_of es ≡ map pair_of es)
    → length (pairs_of (e ∷ es)) ≡ suc (length es) → pairs_of (e ∷ es) ≡ map pair_of (e ∷ es)
all_step e es true kept rest long =
    let fewer : suc (length (pairs_of es)) ≡ suc (length es) = rw kept at long in
    rw kept (ap (λ r. pair_of e ∷ r) (rest (omega (arith, fewer))))
all_step e es false kept rest long =
    let more : length (pairs_of es) ≡ suc (length es) = rw kept at long in
    absurd (omega (arith, more, count_of-le es, length-map (filter is_pair es) pair_of))

-- where there are as many pairs as entries, no entry is a mark
pub all_pairs : (es : List Entry) → length (pairs_of es) ≡ length es → pairs_of es ≡ map pair_of es
all_pairs [] long = refl
all_pairs (e ∷ es) long = all_step e es (is_pair e) refl (all_pairs es) long

slice_get_after : {X : Type 0} (xs ys : List X) (n : ℕ) → length xs ≤ n
    → slice_get (xs ++ ys) n ≡ slice_get ys (n - length xs)
slice_get_after [] ys n within = let same : n ≡ n - 0 = omega arith in ap (slice_get ys) same
slice_get_after (x ∷ xs) ys zero within = absurd (omega (arith, within))
slice_get_after (x ∷ xs) ys (suc n) within =
    let same : n - length xs ≡ suc n - suc (length xs) = omega arith in
    slice_get_after xs ys n (omega (arith, within)) ∙ ap (slice_get ys) same

-- the n-th pair, behind entries with fewer pairs
pub nth_after : (es : List Entry) (k n before : ℕ) → before ≡ count_of (take k es) → before ≤ n
    → slice_get (filter is_pair (drop k es)) (n - before) ≡ slice_get (filter is_pair es) n
nth_after es k n before counted within =
    let parts : filter is_pair es ≡ filter is_pair (take k es) ++ filter is_pair (drop k es) =
    ap (filter is_pair) (sym (take-append-drop k es)) ∙ filter-append is_pair (take k es) (drop k es) in
    let enough : count_of (take k es) ≤ n = omega (arith, counted, within) in
    sym (ap (λ l. slice_get l n) parts
    ∙ slice_get_after (filter is_pair (take k es)) (filter is_pair (drop k es)) n enough
    ∙ ap (λ m. slice_get (filter is_pair (drop k es)) (n - m)) (sym counted))

drop_next : {X : Type 0} (xs : List X) (i : ℕ) (x : X) → slice_get xs i ≡ Some x → drop i xs ≡ x ∷ drop (suc i) xs
drop_next [] i x there = absurd (cc there)
drop_next (y ∷ xs) zero x there = cc there
drop_next (y ∷ xs) (suc i) x there = drop_next xs i x there

pub drop_at : {X : Type 0} (xs : List X) (i : ℕ) (x : X) → slice_get xs i ≡ Some x → drop i xs ≡ x ∷ drop (i + 1) xs
drop_at xs i x there =
    let next : suc i ≡ i + 1 = omega arith in
    drop_next xs i x there ∙ ap (λ n. x ∷ drop n xs) next

-- a mark is passed over
pub nth_mark : (es : List Entry) (i n : ℕ) (e : Entry) → slice_get es i ≡ Some e → is_pair e ≡ false
    → slice_get (filter is_pair (drop i es)) n ≡ slice_get (filter is_pair (drop (i + 1) es)) n
nth_mark es i n e there mark =
    ap (λ r. slice_get (filter is_pair r) n) (drop_at es i e there)
    ∙ ap (λ b. slice_get (cond b (e ∷ filter is_pair (drop (i + 1) es)) (filter is_pair (drop (i + 1) es))) n) mark

nth_pair_at : (es : List Entry) (i n : ℕ) (e : Entry) → slice_get es i ≡ Some e → is_pair e ≡ true
    → slice_get (filter is_pair (drop i es)) n ≡ slice_get (e ∷ filter is_pair (drop (i + 1) es)) n
nth_pair_at es i n e there pair =
    ap (λ r. slice_get (filter is_pair r) n) (drop_at es i e there)
    ∙ ap (λ b. slice_get (cond b (e ∷ filter is_pair (drop (i + 1) es)) (filter is_pair (drop (i + 1) es))) n) pair

-- a pair is the first, or is passed over
pub nth_first : (es : List Entry) (i n : ℕ) (e : Entry) → slice_get es i ≡ Some e → is_pair e ≡ true → n ≡ 0
    → slice_get (filter is_pair (drop i es)) n ≡ Some e
nth_first es i n e there pair none =
    nth_pair_at es i n e there pair ∙ ap (slice_get (e ∷ filter is_pair (drop (i + 1) es))) none

pub nth_next : (es : List Entry) (i n m : ℕ) (e : Entry) → slice_get es i ≡ Some e → is_pair e ≡ true → n ≡ m + 1
    → slice_get (filter is_pair (drop i es)) n ≡ slice_get (filter is_pair (drop (i + 1) es)) m
nth_next es i n m e there pair more =
    let next : n ≡ suc m = omega (arith, more) in
    nth_pair_at es i n e there pair ∙ ap (slice_get (e ∷ filter is_pair (drop (i + 1) es))) next

count_step : (e : Entry) (us vs : List Entry) (a : ℕ) (p : Bool) → is_pair e ≡ p
    → count_of us ≡ count_of vs + a → count_of (e ∷ us) ≡ count_of (e ∷ vs) + a
count_step e us vs a true pair rest = rw pair (omega (arith, rest))
count_step e us vs a false pair rest = rw pair rest

count_next : (es : List Entry) (i : ℕ) (e : Entry) → slice_get es i ≡ Some e
    → count_of (take (suc i) es) ≡ count_of (take i es) + count_of (e ∷ [])
count_next [] i e there = absurd (cc there)
count_next (x ∷ es) zero e there = let same : x ≡ e = cc there in rw same (omega arith)
count_next (x ∷ es) (suc i) e there =
    count_step x (take (suc i) es) (take i es) (count_of (e ∷ [])) (is_pair x) refl (count_next es i e there)

pub count_more : (es : List Entry) (i : ℕ) (e : Entry) → slice_get es i ≡ Some e
    → count_of (take (i + 1) es) ≡ count_of (take i es) + count_of (e ∷ [])
count_more es i e there =
    let next : i + 1 ≡ suc i = omega arith in
    ap (λ n. count_of (take n es)) next ∙ count_next es i e there

-- an entry more, which is a mark or a pair
pub count_more_mark : (es : List Entry) (i : ℕ) (e : Entry) → slice_get es i ≡ Some e → is_pair e ≡ false
    → count_of (take (i + 1) es) ≡ count_of (take i es)
count_more_mark es i e there mark =
    let none : count_of (e ∷ []) ≡ 0 = rw mark refl in omega (arith, count_more es i e there, none)

pub count_more_pair : (es : List Entry) (i : ℕ) (e : Entry) → slice_get es i ≡ Some e → is_pair e ≡ true
    → count_of (take (i + 1) es) ≡ count_of (take i es) + 1
count_more_pair es i e there pair =
    let one : count_of (e ∷ []) ≡ 1 = rw pair refl in omega (arith, count_more es i e there, one)

-- one pair less, where a mark takes the place of one
count_mark : (es : List Entry) (i n : ℕ) (g d : Entry) → i < n → i < length es → is_pair (get_or es i d) ≡ true
    → is_pair g ≡ false → count_of (take n es) ≡ count_of (take n (set es i g)) + 1
count_mark [] i n g d before within pair mark = absurd (omega (arith, within))
count_mark (e ∷ es) i zero g d before within pair mark = absurd (omega (arith, before))
count_mark (e ∷ es) zero (suc n) g d before within pair mark = rw (pair, mark) (omega arith)
count_mark (e ∷ es) (suc i) (suc n) g d before within pair mark =
    count_step e (take n es) (take n (set es i g)) 1 (is_pair e) refl
    (count_mark es i n g d (omega (arith, before)) (omega (arith, within)) pair mark)

-- the last entry takes the place of another
pub swapped : (es : List Entry) (g : Entry) (i : ℕ) (d : Entry) → i < length es
    → swap_remove (es ++ g ∷ []) i d ≡ set es i g
swapped es g i d within =
    let long : length (es ++ g ∷ []) - 1 ≡ length es = omega (arith, length_push es g) in
    ap (λ n. take n (set (es ++ g ∷ []) i (get_or (es ++ g ∷ []) n d))) long
    ∙ ap (λ x. take (length es) (set (es ++ g ∷ []) i x)) (get_or_push es g d (length es) refl)
    ∙ ap (take (length es)) (set-append_left es (g ∷ []) i g within)
    ∙ take_at (set es i g) (g ∷ []) (length es) (length-set es i g)

none_before : (es : List Entry) (block : ℕ) → block ≤ 0 → pairs_before [] block ≡ count_of (take (block * 256) es)
none_before es zero within = refl
none_before es (suc block) within = absurd (omega (arith, within))

pub uncounted : (es : List Entry) → IsCounted es []
uncounted es = record { within = omega arith; each = none_before es }

pub counted-insert : (es : List Entry) (k : Vec ℕ Global) (v : String Global) (counts : List ℕ)
    → is_mark_key k.items ≡ false → length es ≤ length (insert_entry same_key es k v)
    → IsCounted es counts → IsCounted (insert_entry same_key es k v) counts
counted-insert es k v counts text longer counted = record {
  within = omega (arith, longer, counted.within);
  each = λ block le. counted.each block le
      ∙ sym (count_of-insert es k v (block * 256) text (omega (arith, le, counted.within)));
}

push_step : (es : List Entry) (counts : List ℕ) (total block : ℕ) → IsCounted es counts
    → total ≡ count_of (take (suc (length counts) * 256) es) → block ≤ length counts + 1
    → (b : Bool) → nat_le block (length counts) ≡ b
    → pairs_before (counts ++ total ∷ []) block ≡ count_of (take (block * 256) es)
push_step es counts total zero counted is within b le = refl
push_step es counts total (suc block) counted is within true le =
    let inside : suc block ≤ length counts = grind (arith, le) in
    get_or_append_left counts (total ∷ []) 0 block (omega (arith, inside)) ∙ counted.each (suc block) inside
push_step es counts total (suc block) counted is within false le =
    let outside : length counts < suc block = grind (arith, le) in
    let last : length counts ≡ block = omega (arith, outside, within) in
    get_or_push counts total 0 block last ∙ is ∙ ap (λ n. count_of (take (suc n * 256) es)) last

pub counted-push : (es : List Entry) (counts : List ℕ) (total : ℕ) → IsCounted es counts
    → suc (length counts) * 256 ≤ length es → total ≡ count_of (take (suc (length counts) * 256) es)
    → IsCounted es (counts ++ total ∷ [])
counted-push es counts total counted within is =
    let long : length (counts ++ total ∷ []) ≡ length counts + 1 = length_push counts total in
    record {
      within = omega (arith, long, within);
      each = λ block le. push_step es counts total block counted is (omega (arith, le, long)) (nat_le block (length counts)) refl;
    }

lower_step : (es : List Entry) (counts lowered : List ℕ) (place block : ℕ) (g d : Entry) → IsCounted es counts
    → place < length es → is_pair (get_or es place d) ≡ true → is_pair g ≡ false → block < length counts
    → (place / 256 ≤ block → slice_index lowered block + 1 ≡ slice_index counts block)
    → (block < place / 256 → slice_index lowered block ≡ slice_index counts block)
    → (b : Bool) → nat_le (place / 256) block ≡ b
    → slice_index lowered block ≡ count_of (take (suc block * 256) (set es place g))
lower_step es counts lowered place block g d counted within pair mark inside less same true le =
    let behind : place / 256 ≤ block = grind (arith, le) in
    omega (arith, less behind, counted.each (suc block) inside, count_mark es place (suc block * 256) g d (omega (arith, behind)) within pair mark)
lower_step es counts lowered place block g d counted within pair mark inside less same false le =
    let front : block < place / 256 = grind (arith, le) in
    let all : take (suc block * 256) (set es place g) ≡ take (suc block * 256) es =
    take-set-le (suc block * 256) es place g (omega (arith, front)) in
    omega (arith, same front, counted.each (suc block) inside, ap count_of all)

-- one pair less in each block from one on
pub record IsLowered (first : ℕ) (counts lowered : List ℕ) : Type 0 where
  pub long : length lowered ≡ length counts
  pub less : (k : ℕ) → first ≤ k → k < length counts → slice_index lowered k + 1 ≡ slice_index counts k
  pub same : (k : ℕ) → k < first → k < length counts → slice_index lowered k ≡ slice_index counts k

each_lower : (es : List Entry) (counts lowered : List ℕ) (place : ℕ) (g d : Entry) → IsCounted es counts
    → place < length es → is_pair (get_or es place d) ≡ true → is_pair g ≡ false → IsLowered (place / 256) counts lowered
    → (block : ℕ) → block ≤ length counts → pairs_before lowered block ≡ count_of (take (block * 256) (set es place g))
each_lower es counts lowered place g d counted within pair mark is zero le = refl
each_lower es counts lowered place g d counted within pair mark is (suc block) le =
    let inside : block < length counts = omega (arith, le) in
    lower_step es counts lowered place block g d counted within pair mark inside (λ h. is.less block h inside) (λ h. is.same block h inside) (nat_le (place / 256) block) refl

pub counted-lower : (es : List Entry) (counts lowered : List ℕ) (place : ℕ) (g d : Entry) → IsCounted es counts
    → place < length es → is_pair (get_or es place d) ≡ true → is_pair g ≡ false → IsLowered (place / 256) counts lowered
    → IsCounted (set es place g) lowered
counted-lower es counts lowered place g d counted within pair mark is = record {
  within = omega (arith, counted.within, is.long, length-set es place g);
  each = λ block le. each_lower es counts lowered place g d counted within pair mark is block (omega (arith, le, is.long));
}

-- the blocks from that of a pair on have one at least
pub counted-some : (es : List Entry) (counts : List ℕ) (place : ℕ) (g d : Entry) → IsCounted es counts
    → place < length es → is_pair (get_or es place d) ≡ true → is_pair g ≡ false
    → (k : ℕ) → place / 256 ≤ k → k < length counts → 0 < slice_index counts k
counted-some es counts place g d counted within pair mark k behind inside =
    omega (arith, counted.each (suc k) (omega (arith, inside)), count_mark es place (suc k * 256) g d (omega (arith, behind)) within pair mark)

filter_step : (e : Entry) (es : List Entry) (p : Bool) → is_pair e ≡ p
    → pairs_of (filter is_pair es) ≡ pairs_of es → pairs_of (filter is_pair (e ∷ es)) ≡ pairs_of (e ∷ es)
filter_step e es true kept rest = rw (kept, kept) (ap (λ r. pair_of e ∷ r) rest)
filter_step e es false kept rest = rw kept rest

-- without the marks the pairs are the same
pub pairs_of-filter : (es : List Entry) → pairs_of (filter is_pair es) ≡ pairs_of es
pairs_of-filter [] = refl
pairs_of-filter (e ∷ es) = filter_step e es (is_pair e) refl (pairs_of-filter es)

-- names that are texts stay so
texts_put_step : (name value : List ℕ) (p : Pair) (ps : List Pair) (b : Bool) → has_name name p ≡ b → AreTexts (p ∷ ps)
    → AreTexts (put_first name value ps) → AreTexts (put_first name value (p ∷ ps))
texts_put_step name value p ps true is all rest = rw is (all.0, all.1)
texts_put_step name value p ps false is all rest = rw is (all.0, rest)

pub texts-put : (name value : List ℕ) (ps : List Pair) → IsUtf8 name → AreTexts ps → AreTexts (put_first name value ps)
texts-put name value [] text all = (text, tt)
texts-put name value (p ∷ ps) text all =
    texts_put_step name value p ps (has_name name p) refl all (texts-put name value ps text all.1)

texts_remove_step : (name : List ℕ) (p : Pair) (ps : List Pair) (b : Bool) → has_name name p ≡ b → AreTexts (p ∷ ps)
    → AreTexts (remove_first name ps) → AreTexts (remove_first name (p ∷ ps))
texts_remove_step name p ps true is all rest = rw is all.1
texts_remove_step name p ps false is all rest = rw is (all.0, rest)

pub texts-remove : (name : List ℕ) (ps : List Pair) → AreTexts ps → AreTexts (remove_first name ps)
texts-remove name [] all = tt
texts-remove name (p ∷ ps) all =
    texts_remove_step name p ps (has_name name p) refl all (texts-remove name ps all.1)

pub text_at : (ps : List Pair) (n : ℕ) (p : Pair) → AreTexts ps → slice_get ps n ≡ Some p → IsUtf8 p.name
text_at [] n p all there = absurd (cc there)
text_at (q ∷ ps) zero p all there = let same : q ≡ p = cc there in rw (← same) all.0
text_at (q ∷ ps) (suc n) p all there = text_at ps n p all.1 there

put_length_step : (name value : List ℕ) (p : Pair) (ps : List Pair) (b : Bool) → has_name name p ≡ b
    → length (put_first name value ps) ≡ length ps + (if is_some (area_get name ps) then 0 else 1)
    → length (put_first name value (p ∷ ps)) ≡ length (p ∷ ps) + (if is_some (area_get name (p ∷ ps)) then 0 else 1)
put_length_step name value p ps true is rest = rw is (omega arith)
put_length_step name value p ps false is rest = rw is (omega (arith, rest))

-- how many pairs there are afterwards
pub length-put_first : (name value : List ℕ) (ps : List Pair)
    → length (put_first name value ps) ≡ length ps + (if is_some (area_get name ps) then 0 else 1)
length-put_first name value [] = refl
length-put_first name value (p ∷ ps) =
    put_length_step name value p ps (has_name name p) refl (length-put_first name value ps)

remove_length_step : (name : List ℕ) (p : Pair) (ps : List Pair) (b : Bool) → has_name name p ≡ b
    → length (remove_first name ps) + (if is_some (area_get name ps) then 1 else 0) ≡ length ps
    → length (remove_first name (p ∷ ps)) + (if is_some (area_get name (p ∷ ps)) then 1 else 0) ≡ length (p ∷ ps)
remove_length_step name p ps true is rest = rw is (omega arith)
remove_length_step name p ps false is rest = rw is (omega (arith, rest))

pub length-remove_first : (name : List ℕ) (ps : List Pair)
    → length (remove_first name ps) + (if is_some (area_get name ps) then 1 else 0) ≡ length ps
length-remove_first name [] = refl
length-remove_first name (p ∷ ps) =
    remove_length_step name p ps (has_name name p) refl (length-remove_first name ps)

pub composed : {X Y Z : Type 0} (f : X → Y) (g : Y → Z) (o : Option X) → option_map (λ x. g (f x)) o ≡ option_map g (option_map f o)
composed f g None = refl
composed f g (Some x) = refl

pub slice_get-map : {X Y : Type 0} (f : X → Y) (xs : List X) (n : ℕ) → option_map f (slice_get xs n) ≡ slice_get (map f xs) n
slice_get-map f [] n = refl
slice_get-map f (x ∷ xs) zero = refl
slice_get-map f (x ∷ xs) (suc n) = slice_get-map f xs n

-- without marks the n-th entry is the n-th pair
pub nth_plain : (es : List Entry) (marks n : ℕ) (counts : List ℕ) (o : Option Entry) → IsPlaces es marks counts → marks ≡ 0
    → slice_get es n ≡ o → option_map pair_of o ≡ slice_get (pairs_of es) n
nth_plain es marks n counts o places none is =
    ap (option_map pair_of) (sym is) ∙ slice_get-map pair_of es n
    ∙ ap (λ l. slice_get l n) (sym (all_pairs es (omega (arith, places.marked, none))))

-- the n-th pair, behind the blocks that were counted
pub nth_counted : (es : List Entry) (marks n block before : ℕ) (counts : List ℕ) (o : Option Entry) → IsPlaces es marks counts
    → block ≤ length counts → before ≡ pairs_before counts block → before ≤ n
    → o ≡ slice_get (filter is_pair (drop (block * 256) es)) (n - before)
    → option_map pair_of o ≡ slice_get (pairs_of es) n
nth_counted es marks n block before counts o places within is reached found =
    ap (option_map pair_of) (found ∙ nth_after es (block * 256) n before (is ∙ places.counted.each block within) reached)
    ∙ slice_get-map pair_of (filter is_pair es) n
