-- The row changes of a store are what it does to the kept cookies.
use Rattle.std.proofs.Common.{◌≡◌, ℤ, ℕ, zero, suc, ◌+◌, ◌<◌, ◌≤◌, Bool, true, false, cond, List, [], ◌∷◌, ◌++◌, map, take, drop, length, refl, ap, ◌∙◌, sym, arith}
use Rattle.std.specs.Prelude.{◌||◌, slice_set, nat_lt}
use Rattle.std.specs.List.{filter, insert, remove}
use Rattle.std.proofs.lemmas.List.Sums.{sum_by-cons, sum_by-take-le, length-filter, fold-append}
use Rattle.std.proofs.lemmas.List.Elements.{filter-append}
use Rattle.std.proofs.lemmas.List.{take-append-drop, set_split, map-set}
use Rattle.std.proofs.lemmas.Bool.{ltb-true}
use Rattle.cookie_jar.specs.Cookie.{PlainCookie}
use Rattle.partition_limits.specs.declared.tally.CellKind.{CellKind}
use Rattle.cookie_jar.specs.declared.step.JarStep.{JarStep}
use Rattle.cookie_jar.specs.declared.step.JarStep.TheVariants.{Insert, Replace, Remove}
use Rattle.cookie_jar.specs.Steps.{rank, persists_at, after_step, after_steps, removals, remove_step, put_step, place_now, steps, stored, going, place_of}
use Rattle.cookie_jar.specs.Lifetime.{is_persistent, is_expired}
use Rattle.cookie_jar.specs.Persistent.{persistent_part, kept_cookie, after_rows, row_edit, rows_of_step, rows_of_steps, insert_row, remove_row, replace_row}
use Rattle.cookie_jar.proofs.CellLemmas.{map-insert, map-remove}

rank_cons : (i : ℕ) (c : PlainCookie) (cs : List PlainCookie) → rank (suc i) (c ∷ cs) ≡ cond (is_persistent c) 1 0 + rank i cs
rank_cons i c cs = sum_by-cons (λ d. cond (is_persistent d) 1 0) c (take i cs)

pub take_rank : (i : ℕ) (cs : List PlainCookie) → take (rank i cs) (filter is_persistent cs) ≡ filter is_persistent (take i cs)
take_rank zero cs = refl
take_rank (suc i) [] = refl
take_rank (suc i) (c ∷ cs) = rw rank_cons (at (is_persistent c) (take_rank i cs))
  where
    at : (b : Bool) → take (rank i cs) (filter is_persistent cs) ≡ filter is_persistent (take i cs)
        → take (cond b 1 0 + rank i cs) (cond b (c ∷ filter is_persistent cs) (filter is_persistent cs)) ≡ cond b (c ∷ filter is_persistent (take i cs)) (filter is_persistent (take i cs))
    at true ih = let e : 1 + rank i cs ≡ suc (rank i cs) = omega arith in rw e (ap (λ r. c ∷ r) ih)
    at false ih = let e : 0 + rank i cs ≡ rank i cs = omega arith in rw e ih

pub drop_rank : (i : ℕ) (cs : List PlainCookie) → drop (rank i cs) (filter is_persistent cs) ≡ filter is_persistent (drop i cs)
drop_rank zero cs = refl
drop_rank (suc i) [] = refl
drop_rank (suc i) (c ∷ cs) = rw rank_cons (at (is_persistent c) (drop_rank i cs))
  where
    at : (b : Bool) → drop (rank i cs) (filter is_persistent cs) ≡ filter is_persistent (drop i cs)
        → drop (cond b 1 0 + rank i cs) (cond b (c ∷ filter is_persistent cs) (filter is_persistent cs)) ≡ filter is_persistent (drop i cs)
    at true ih = let e : 1 + rank i cs ≡ suc (rank i cs) = omega arith in rw e ih
    at false ih = let e : 0 + rank i cs ≡ rank i cs = omega arith in rw e ih

-- one more place
pub rank_more : (i : ℕ) (cs : List PlainCookie) → rank (suc i) cs ≡ cond (persists_at i cs) 1 0 + rank i cs
rank_more zero [] = refl
rank_more zero (c ∷ cs) = at (is_persistent c)
  where
    at : (b : Bool) → ◌≡◌ {A = ℕ} (0 + cond b 1 0) (cond (b || false) 1 0 + 0)
    at true = refl
    at false = refl
rank_more (suc i) [] = refl
rank_more (suc i) (c ∷ cs) = rw (rank_cons (suc i) c cs, rank_cons i c cs, rank_more i cs) (omega arith)

-- a removal
pub filter_remove : (i : ℕ) (cs : List PlainCookie) → filter is_persistent (remove cs i) ≡ take (rank i cs) (filter is_persistent cs) ++ drop (cond (persists_at i cs) 1 0 + rank i cs) (filter is_persistent cs)
filter_remove i cs =
    filter-append is_persistent (take i cs) (drop (suc i) cs) ∙ ap (λ r. r ++ filter is_persistent (drop (suc i) cs)) (sym (take_rank i cs))
    ∙ ap (λ r. take (rank i cs) (filter is_persistent cs) ++ r) (sym (drop_rank (suc i) cs) ∙ ap (λ n. drop n (filter is_persistent cs)) (rank_more i cs))

abbrev pub persistent : List PlainCookie → List PlainCookie
persistent cs = filter is_persistent cs

filter_front : (i : ℕ) (cs rest : List PlainCookie) → persistent (take i cs ++ rest) ≡ take (rank i cs) (persistent cs) ++ persistent rest
filter_front i cs rest = filter-append is_persistent (take i cs) rest ∙ ap (λ r. r ++ persistent rest) (sym (take_rank i cs))

pub remove_kept : (i : ℕ) (cs : List PlainCookie) → persistent_part (remove cs i) ≡ after_rows (persistent_part cs) (remove_row (persists_at i cs) (rank i cs))
remove_kept i cs = ap (map kept_cookie) (filter_remove i cs) ∙ at (persists_at i cs)
  where
    at : (b : Bool) → map kept_cookie (take (rank i cs) (persistent cs) ++ drop (cond b 1 0 + rank i cs) (persistent cs)) ≡ after_rows (persistent_part cs) (remove_row b (rank i cs))
    at true = let e : 1 + rank i cs ≡ suc (rank i cs) = omega arith in rw e (map-remove kept_cookie (persistent cs) (rank i cs))
    at false = let e : 0 + rank i cs ≡ rank i cs = omega arith in rw e (ap (map kept_cookie) (take-append-drop (rank i cs) (persistent cs)))

pub insert_kept : (i : ℕ) (y : PlainCookie) (cs : List PlainCookie) → persistent_part (insert cs i y) ≡ after_rows (persistent_part cs) (insert_row (is_persistent y) (rank i cs) y)
insert_kept i y cs = ap (map kept_cookie) (filter_front i cs (y ∷ drop i cs) ∙ ap (λ d. take (rank i cs) (persistent cs) ++ cond (is_persistent y) (y ∷ d) d) (sym (drop_rank i cs))) ∙ at (is_persistent y)
  where
    at : (b : Bool) → map kept_cookie (take (rank i cs) (persistent cs) ++ cond b (y ∷ drop (rank i cs) (persistent cs)) (drop (rank i cs) (persistent cs))) ≡ after_rows (persistent_part cs) (insert_row b (rank i cs) y)
    at true = map-insert kept_cookie (persistent cs) (rank i cs) y
    at false = ap (map kept_cookie) (take-append-drop (rank i cs) (persistent cs))

pub rank_le : (i : ℕ) (cs : List PlainCookie) → rank i cs ≤ length (persistent cs)
rank_le i cs = let e = length-filter is_persistent cs in let le = sum_by-take-le (λ d. cond (is_persistent d) 1 0) cs i in omega (arith, e, le)

pub rank_below : (i : ℕ) (cs : List PlainCookie) → persists_at i cs ≡ true → rank i cs < length (persistent cs)
rank_below i cs is = let more : rank (suc i) cs ≡ 1 + rank i cs = rank_more i cs ∙ ap (λ b. cond b 1 0 + rank i cs) is in omega (arith, more, rank_le (suc i) cs)

pub replace_kept : (i : ℕ) (y : PlainCookie) (cs : List PlainCookie) → i < length cs → persistent_part (slice_set cs i y) ≡ after_rows (persistent_part cs) (replace_row (is_persistent y) (persists_at i cs) (rank i cs) y)
replace_kept i y cs lt =
    ap persistent_part (set_split cs i y lt)
    ∙ ap (map kept_cookie) (filter_front i cs (y ∷ drop (suc i) cs) ∙ ap (λ d. take (rank i cs) (persistent cs) ++ cond (is_persistent y) (y ∷ d) d) (sym (drop_rank (suc i) cs) ∙ ap (λ n. drop n (persistent cs)) (rank_more i cs)))
    ∙ at (is_persistent y) (persists_at i cs) refl
  where
    at : (a b : Bool) → persists_at i cs ≡ b
        → map kept_cookie (take (rank i cs) (persistent cs) ++ cond a (y ∷ drop (cond b 1 0 + rank i cs) (persistent cs)) (drop (cond b 1 0 + rank i cs) (persistent cs))) ≡ after_rows (persistent_part cs) (replace_row a b (rank i cs) y)
    at true true is = let e : 1 + rank i cs ≡ suc (rank i cs) = omega arith in rw e (ap (map kept_cookie) (sym (set_split (persistent cs) (rank i cs) y (rank_below i cs is))) ∙ map-set kept_cookie (persistent cs) (rank i cs) y)
    at true false is = let e : 0 + rank i cs ≡ rank i cs = omega arith in rw e (map-insert kept_cookie (persistent cs) (rank i cs) y)
    at false true is = let e : 1 + rank i cs ≡ suc (rank i cs) = omega arith in rw e (map-remove kept_cookie (persistent cs) (rank i cs))
    at false false is = let e : 0 + rank i cs ≡ rank i cs = omega arith in rw e (ap (map kept_cookie) (take-append-drop (rank i cs) (persistent cs)))

-- a step that says what stands at its place
abbrev pub IsRight : List PlainCookie → JarStep → Type 0
IsRight cs (Insert place r) = r ≡ rank place cs
IsRight cs (Replace place r was) = (place < length cs) × (r ≡ rank place cs) × (was ≡ persists_at place cs)
IsRight cs (Remove place r was) = (r ≡ rank place cs) × (was ≡ persists_at place cs)

abbrev pub AreRight : PlainCookie → List PlainCookie → List JarStep → Type 0
AreRight fresh cs [] = Unit {0}
AreRight fresh cs (s ∷ ss) = IsRight cs s × AreRight fresh (after_step fresh cs s) ss

step_kept : (fresh : PlainCookie) (cs : List PlainCookie) (s : JarStep) → IsRight cs s → after_rows (persistent_part cs) (rows_of_step fresh s) ≡ persistent_part (after_step fresh cs s)
step_kept fresh cs (Insert place r) h = rw h (sym (insert_kept place fresh cs))
step_kept fresh cs (Replace place r was) h = rw (h.1, h.2) (sym (replace_kept place fresh cs h.0))
step_kept fresh cs (Remove place r was) h = rw (h.0, h.1) (sym (remove_kept place cs))

pub steps_kept : (fresh : PlainCookie) (cs : List PlainCookie) (ss : List JarStep) → AreRight fresh cs ss → after_rows (persistent_part cs) (rows_of_steps fresh ss) ≡ persistent_part (after_steps fresh cs ss)
steps_kept fresh cs [] h = refl
steps_kept fresh cs (s ∷ ss) h =
    fold-append row_edit (persistent_part cs) (rows_of_step fresh s) (rows_of_steps fresh ss)
    ∙ ap (λ k. after_rows k (rows_of_steps fresh ss)) (step_kept fresh cs s h.0) ∙ steps_kept fresh (after_step fresh cs s) ss h.1

right_append : (fresh : PlainCookie) (cs : List PlainCookie) (a b : List JarStep) → AreRight fresh cs a → AreRight fresh (after_steps fresh cs a) b → AreRight fresh cs (a ++ b)
right_append fresh cs [] b h k = k
right_append fresh cs (s ∷ ss) b h k = (h.0, right_append fresh (after_step fresh cs s) ss b h.1 k)

pub removals_right : (fresh : PlainCookie) (cs : List PlainCookie) (gone ps : List ℕ) → AreRight fresh cs (removals cs gone ps)
removals_right fresh cs gone [] = tt
removals_right fresh cs gone (p ∷ ps) = ((refl, refl), removals_right fresh (remove cs (place_now gone p)) (p ∷ gone) ps)

put_right : (place : ℕ) (cs : List PlainCookie) → IsRight cs (put_step place cs)
put_right place cs = at (nat_lt place (length cs)) refl
  where
    at : (b : Bool) → nat_lt place (length cs) ≡ b → IsRight cs (cond b (Replace place (rank place cs) (persists_at place cs)) (Insert place (rank place cs)))
    at true is = (ltb-true place (length cs) is, refl, refl)
    at false is = refl

pub right_steps : (kind : CellKind) (now : ℤ) (fresh : PlainCookie) (cs : List PlainCookie) → AreRight fresh cs (steps kind now fresh cs)
right_steps kind now fresh cs = at (is_expired now fresh) (nat_lt (place_of fresh cs) (length cs))
  where
    at : (a b : Bool) → AreRight fresh cs (cond a (cond b (remove_step (place_of fresh cs) cs ∷ []) []) (removals cs [] (going kind now fresh cs) ++ put_step (place_now (going kind now fresh cs) (place_of fresh cs)) (after_steps fresh cs (removals cs [] (going kind now fresh cs))) ∷ []))
    at true true = ((refl, refl), tt)
    at true false = tt
    at false b = right_append fresh cs (removals cs [] (going kind now fresh cs)) _ (removals_right fresh cs [] (going kind now fresh cs)) (put_right _ _, tt)

-- the row changes of a store, done on what was kept, give what is kept of the new list
pub rows_keep : (kind : CellKind) (now : ℤ) (fresh : PlainCookie) (cs : List PlainCookie) → after_rows (persistent_part cs) (rows_of_steps fresh (steps kind now fresh cs)) ≡ persistent_part (stored kind now fresh cs)
rows_keep kind now fresh cs = steps_kept fresh cs (steps kind now fresh cs) (right_steps kind now fresh cs)
