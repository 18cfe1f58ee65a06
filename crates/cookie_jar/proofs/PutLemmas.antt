-- What putting a cookie makes of the weight of a cell.
use Rattle.std.proofs.Common.{◌≡◌, ℕ, ◌+◌, ◌-◌, ◌≤◌, ◌<◌, ℤ, Bool, true, false, cond, not, List, [], ◌∷◌, ◌++◌, length, get_or, refl, ap, ◌∙◌, sym, arith, ⊎_elim}
use Rattle.std.specs.Prelude.{nat_lt, ◌==◌, Some, is_some, slice_get}
use Rattle.std.specs.List.{sum_by, count_by, list_any, range_with_len, remove}
use Rattle.std.proofs.lemmas.Bool.{false≢true, ltb-true, ltb-false}
use Rattle.std.proofs.lemmas.Bool.Decides.{nat_tests}
use Rattle.std.proofs.lemmas.List.{length-set, length-append}
use Rattle.std.proofs.lemmas.List.FromFn.{length-range_with_len}
use Rattle.std.proofs.lemmas.List.Sums.{get_or-le-sum_by, sum_by-cons, sum_by-set, sum_by-append, prefix_len-le-length}
use Rattle.std.proofs.lemmas.Option.{get_or_from_slice_get, slice_get_cases}
use Rattle.partition_limits.specs.declared.tally.CellKind.{CellKind}
use Rattle.partition_limits.specs.declared.tally.CellKind.TheVariants.{Own, Partition}
use Rattle.partition_limits.specs.declared.tally.Tally.{Tally}
use Rattle.partition_limits.specs.Limits.{fits}
use Rattle.cookie_jar.specs.Cookie.{PlainCookie, IsCell, same, counted, keeps_limits, pair_bytes}
use Rattle.cookie_jar.specs.Lifetime.{is_expired}
use Rattle.cookie_jar.specs.Performed.{after_removals}
use Rattle.cookie_jar.specs.Steps.{place_of, put, going, place_now, removals, put_step, steps, after_steps}
use Rattle.cookie_jar.proofs.CellLemmas.{fits_less}
use Rattle.cookie_jar.proofs.StepLaws.{put_there, put_last, rows_hold}

-- a cookie that is put makes a cell heavier by no more than itself
put_sum : (f : PlainCookie → ℕ) (fresh : PlainCookie) (cs : List PlainCookie) → sum_by f (put fresh cs) ≤ sum_by f cs + f fresh
put_sum f fresh cs = at (nat_lt (place_of fresh cs) (length cs)) refl
  where
    at : (b : Bool) → nat_lt (place_of fresh cs) (length cs) ≡ b → sum_by f (put fresh cs) ≤ sum_by f cs + f fresh
    at true is =
        let lt = ltb-true _ _ is in
        rw (put_there fresh cs lt) (omega (arith, sum_by-set f cs (place_of fresh cs) fresh fresh lt))
    at false is =
        let top = prefix_len-le-length (λ d. not (same fresh d)) cs in
        let one : sum_by f (fresh ∷ []) ≡ f fresh + 0 = sum_by-cons f fresh [] in
        rw (put_last fresh cs (omega (arith, top, ltb-false _ _ is)), sum_by-append f cs (fresh ∷ [])) (omega (arith, one))

put_count : (fresh : PlainCookie) (cs : List PlainCookie) → length (put fresh cs) ≤ length cs + 1
put_count fresh cs = at (nat_lt (place_of fresh cs) (length cs)) refl
  where
    at : (b : Bool) → nat_lt (place_of fresh cs) (length cs) ≡ b → length (put fresh cs) ≤ length cs + 1
    at true is =
        let lt = ltb-true _ _ is in
        rw (put_there fresh cs lt) (omega (arith, length-set cs (place_of fresh cs) fresh))
    at false is =
        let top = prefix_len-le-length (λ d. not (same fresh d)) cs in
        rw (put_last fresh cs (omega (arith, top, ltb-false _ _ is))) (omega (arith, length-append cs (fresh ∷ [])))

-- no cookie goes where the tally holds one more
pub none_goes : (kind : CellKind) (tally : Tally) (now : ℤ) (fresh : PlainCookie) (cs : List PlainCookie) → IsCell kind tally cs
    → fits kind (tally.cookies + 1) (tally.bytes + counted kind fresh) ≡ true → going kind now fresh cs ≡ []
none_goes kind tally now fresh cs cell h =
    let light : keeps_limits kind (put fresh cs) ≡ true =
    fits_less kind _ _ _ _ h (omega (arith, cell.cookies, put_count fresh cs)) (omega (arith, cell.bytes, put_sum (counted kind) fresh cs)) in
    rw (rows_hold kind now (put fresh cs), light) refl

-- a cookie that was read at a place
pub read_within : (cs : List PlainCookie) (place : ℕ) (old : PlainCookie) → Some old ≡ slice_get cs place → (place < length cs) × (get_or cs place old ≡ old)
read_within cs place old e =
    (⊎_elim (λ inside. inside.1) (λ past. absurd (false≢true (sym (ap is_some (e ∙ past.1))))) (slice_get_cases cs place).1, get_or_from_slice_get cs place old old (sym e))

-- it counts for no more than the tally
pub read_counts : (kind : CellKind) (tally : Tally) (cs : List PlainCookie) (place : ℕ) (old : PlainCookie) → IsCell kind tally cs → Some old ≡ slice_get cs place → counted kind old ≤ tally.bytes
read_counts kind tally cs place old cell e =
    let read = read_within cs place old e in
    omega (arith, cell.bytes, get_or-le-sum_by (counted kind) cs place old read.0, ap (counted kind) read.1)

-- no cookie goes where the tally holds one in the place of the same one
pub none_goes_there : (kind : CellKind) (tally : Tally) (now : ℤ) (fresh : PlainCookie) (cs : List PlainCookie) (place : ℕ) (old : PlainCookie) → IsCell kind tally cs → place ≡ place_of fresh cs → Some old ≡ slice_get cs place
    → fits kind tally.cookies (tally.bytes - counted kind old + counted kind fresh) ≡ true → going kind now fresh cs ≡ []
none_goes_there kind tally now fresh cs place old cell here e h =
    let read = read_within cs (place_of fresh cs) old (e ∙ ap (slice_get cs) here) in
    let there = ap (counted kind) read.1 in
    let light : keeps_limits kind (put fresh cs) ≡ true =
    rw (put_there fresh cs read.0) (fits_less kind _ _ _ _ h (omega (arith, cell.cookies, length-set cs (place_of fresh cs) fresh))
    (omega (arith, cell.bytes, there, sum_by-set (counted kind) cs (place_of fresh cs) fresh old read.0, get_or-le-sum_by (counted kind) cs (place_of fresh cs) old read.0))) in
    rw (rows_hold kind now (put fresh cs), light) refl

-- a cell's tally is small
pub small_tally : (kind : CellKind) (tally : Tally) (cs : List PlainCookie) → IsCell kind tally cs → tally.bytes ≤ 10240
small_tally Own tally cs cell = let none = own_sum cs in omega (arith, cell.bytes, none)
  where
    own_sum : (cs : List PlainCookie) → sum_by (counted Own) cs ≡ 0
    own_sum [] = refl
    own_sum (c ∷ cs) = let more = own_sum cs in let one : sum_by (counted Own) (c ∷ cs) ≡ 0 + sum_by (counted Own) cs = sum_by-cons (counted Own) c cs in omega (arith, more, one)
small_tally Partition tally cs cell = within cell.within
  where
    within : keeps_limits Partition cs ≡ true → tally.bytes ≤ 10240
    within h = grind (arith, nat_tests, h, cell.bytes)

-- a cookie of a text is small
pub small_pair : (kind : CellKind) (c : PlainCookie) → pair_bytes c ≤ 4096 → counted kind c ≤ 10240
small_pair Own c le = omega arith
small_pair Partition c le = omega (arith, le)

-- no place moves where none has gone
range_count : (n m : ℕ) → count_by (λ q. not (list_any (λ g. g == q) [])) (range_with_len n m) ≡ m
range_count n m = all (range_with_len n m) ∙ length-range_with_len n m
  where
    all : (xs : List ℕ) → count_by (λ q. not (list_any (λ g. g == q) [])) xs ≡ length xs
    all [] = refl
    all (x ∷ xs) = let more = all xs in sum_by-cons (λ q. cond (not (list_any (λ g. g == q) [])) 1 0) x xs ∙ omega (arith, more)

pub place_stays : (place : ℕ) → place_now [] place ≡ place
place_stays place = range_count 0 place

-- removals are done alike, whichever cookie is put after them
pub all_removed : (fresh : PlainCookie) (cs : List PlainCookie) (gone ps : List ℕ) → after_removals cs (removals cs gone ps) ≡ after_steps fresh cs (removals cs gone ps)
all_removed fresh cs gone [] = refl
all_removed fresh cs gone (p ∷ ps) = all_removed fresh (remove cs (place_now gone p)) (p ∷ gone) ps

-- the step of storing one, where none goes
pub steps_alone : (cs : List PlainCookie) (gone : List ℕ) (place : ℕ) → gone ≡ []
    → put_step place cs ∷ [] ≡ removals cs [] gone ++ put_step (place_now gone place) (after_removals cs (removals cs [] gone)) ∷ []
steps_alone cs gone place none = rw none (ap (λ p. put_step p cs ∷ []) (sym (place_stays place)))

-- the steps of storing a cookie that is not expired
pub steps_are : (kind : CellKind) (now : ℤ) (fresh : PlainCookie) (cs : List PlainCookie) (gone : List ℕ) (place : ℕ) → is_expired now fresh ≡ false
    → gone ≡ going kind now fresh cs → place ≡ place_of fresh cs → removals cs [] gone ++ put_step (place_now gone place) (after_removals cs (removals cs [] gone)) ∷ [] ≡ steps kind now fresh cs
steps_are kind now fresh cs gone place live went here =
    rw (went, here, live) (ap (λ xs. removals cs [] (going kind now fresh cs) ++ put_step (place_now (going kind now fresh cs) (place_of fresh cs)) xs ∷ []) (all_removed fresh cs [] (going kind now fresh cs)))
