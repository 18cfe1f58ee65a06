-- The list after a store is the list with the fresh cookie put, without those that go.
use Rattle.std.proofs.Common.{◌≡◌, ℤ, ℕ, zero, suc, ◌+◌, ◌-◌, ◌<◌, ◌≤◌, Bool, true, false, cond, not, List, [], ◌∷◌, ◌++◌, map, take, drop, length, refl, ap, ◌∙◌, sym, arith, subst}
use Rattle.std.specs.Prelude.{◌||◌, ◌==◌, slice_set, nat_lt}
use Rattle.std.specs.List.{count_by, insert, remove, range_with_len, sum_by, filter, enumerate_from}
use Rattle.std.proofs.lemmas.Bool.{eqb-false, eq-eqb, ne_eqb, ltb-true, ltb-false, lt-ltb, le-ltb, le-leb, false≢true}
use Rattle.std.proofs.lemmas.List.Sums.{sum_by-cons, prefix_len-le-length, fold-append}
use Rattle.std.proofs.lemmas.List.{set_split, take_all, drop_all, length-map, length-append, length-drop, length-take-le, map-append}
use Rattle.partition_limits.specs.Victims.{others_from, without, fresh_row, rows_of}
pub use Rattle.partition_limits.proofs.VictimLaws.{among}
use Rattle.partition_limits.proofs.VictimLaws.{victims_apart, victims_fit}
use Rattle.partition_limits.specs.declared.tally.CellKind.TheVariants.{Own, Partition}
use Rattle.partition_limits.specs.declared.excess.Weighed.{Weighed}
use Rattle.partition_limits.specs.Limits.{holds, fits}
use Rattle.partition_limits.specs.declared.tally.CellKind.{CellKind}
use Rattle.cookie_jar.specs.Cookie.{PlainCookie, same, keeps_limits, counted}
use Rattle.cookie_jar.specs.Steps.{place_now, removals, after_steps, after_step, put_step, place_of, put, going, stored, weigh}
use Rattle.cookie_jar.specs.Lifetime.{is_expired}

abbrev pub place_from : ℕ → List ℕ → ℕ → ℕ
place_from n gone k = count_by (λ q. not (among q gone)) (range_with_len n k)

pub place_more : (n : ℕ) (gone : List ℕ) (k : ℕ) → place_from n gone (suc k) ≡ cond (not (among n gone)) 1 0 + place_from (n + 1) gone k
place_more n gone k = sum_by-cons (λ q. cond (not (among q gone)) 1 0) n (range_with_len (n + 1) k)

-- a place before them is no matter
earlier_gone : {X : Type 0} (p n : ℕ) (gone : List ℕ) (xs : List X) → p < n → others_from n (p ∷ gone) xs ≡ others_from n gone xs
earlier_gone p n gone [] lt = refl
earlier_gone p n gone (x ∷ xs) lt =
    let ne = ne_eqb p n (λ e. omega (arith, e)) in
    rw ne (ap (λ r. cond (among n gone) r (x ∷ r)) (earlier_gone p (n + 1) gone xs (omega arith)))

-- the removal of one more, at its place of now
pub remove_now : {X : Type 0} (n k p : ℕ) (gone : List ℕ) (xs : List X) → p ≡ n + k → k < length xs → among p gone ≡ false → remove (others_from n gone xs) (place_from n gone k) ≡ others_from n (p ∷ gone) xs
remove_now n k p gone [] e lt out = absurd (omega arith)
remove_now n zero p gone (x ∷ xs) e lt out =
    let here : p ≡ n = omega (arith, e) in
    let out_here : among n gone ≡ false = ap (λ q. among q gone) (sym here) ∙ out in
    rw (out_here, eq-eqb p n here) (sym (earlier_gone p (n + 1) gone xs (omega arith)))
remove_now n (suc k) p gone (x ∷ xs) e lt out =
    let ne = ne_eqb p n (λ h. omega (arith, h, e)) in
    rw (place_more n gone k, ne) (at (among n gone) (remove_now (n + 1) k p gone xs (omega (arith, e)) (omega arith) out))
  where
    at : (b : Bool) → remove (others_from (n + 1) gone xs) (place_from (n + 1) gone k) ≡ others_from (n + 1) (p ∷ gone) xs
        → remove (cond b (others_from (n + 1) gone xs) (x ∷ others_from (n + 1) gone xs)) (cond (not b) 1 0 + place_from (n + 1) gone k) ≡ cond b (others_from (n + 1) (p ∷ gone) xs) (x ∷ others_from (n + 1) (p ∷ gone) xs)
    at true ih = let z : 0 + place_from (n + 1) gone k ≡ place_from (n + 1) gone k = omega arith in rw z ih
    at false ih = let z : 1 + place_from (n + 1) gone k ≡ suc (place_from (n + 1) gone k) = omega arith in rw z (ap (λ r. x ∷ r) ih)

-- an item in the place of another that stays
pub set_now : {X : Type 0} (n k p : ℕ) (gone : List ℕ) (xs : List X) (y : X) → p ≡ n + k → k < length xs → among p gone ≡ false → slice_set (others_from n gone xs) (place_from n gone k) y ≡ others_from n gone (slice_set xs k y)
set_now n k p gone [] y e lt out = absurd (omega arith)
set_now n zero p gone (x ∷ xs) y e lt out =
    let here : p ≡ n = omega (arith, e) in
    let out_here : among n gone ≡ false = ap (λ q. among q gone) (sym here) ∙ out in
    rw out_here refl
set_now n (suc k) p gone (x ∷ xs) y e lt out =
    rw (place_more n gone k) (at (among n gone) (set_now (n + 1) k p gone xs y (omega (arith, e)) (omega arith) out))
  where
    at : (b : Bool) → slice_set (others_from (n + 1) gone xs) (place_from (n + 1) gone k) y ≡ others_from (n + 1) gone (slice_set xs k y)
        → slice_set (cond b (others_from (n + 1) gone xs) (x ∷ others_from (n + 1) gone xs)) (cond (not b) 1 0 + place_from (n + 1) gone k) y ≡ cond b (others_from (n + 1) gone (slice_set xs k y)) (x ∷ others_from (n + 1) gone (slice_set xs k y))
    at true ih = let z : 0 + place_from (n + 1) gone k ≡ place_from (n + 1) gone k = omega arith in rw z ih
    at false ih = let z : 1 + place_from (n + 1) gone k ≡ suc (place_from (n + 1) gone k) = omega arith in rw z (ap (λ r. x ∷ r) ih)

-- an item at the end
pub insert_now : {X : Type 0} (n p : ℕ) (gone : List ℕ) (xs : List X) (y : X) → p ≡ n + length xs → among p gone ≡ false → insert (others_from n gone xs) (place_from n gone (length xs)) y ≡ others_from n gone (xs ++ y ∷ [])
insert_now n p gone [] y e out =
    let here : p ≡ n = omega (arith, e) in
    let out_here : among n gone ≡ false = ap (λ q. among q gone) (sym here) ∙ out in
    rw out_here refl
insert_now n p gone (x ∷ xs) y e out = rw (place_more n gone (length xs)) (at (among n gone) (insert_now (n + 1) p gone xs y (omega (arith, e)) out))
  where
    at : (b : Bool) → insert (others_from (n + 1) gone xs) (place_from (n + 1) gone (length xs)) y ≡ others_from (n + 1) gone (xs ++ y ∷ [])
        → insert (cond b (others_from (n + 1) gone xs) (x ∷ others_from (n + 1) gone xs)) (cond (not b) 1 0 + place_from (n + 1) gone (length xs)) y ≡ cond b (others_from (n + 1) gone (xs ++ y ∷ [])) (x ∷ others_from (n + 1) gone (xs ++ y ∷ []))
    at true ih = let z : 0 + place_from (n + 1) gone (length xs) ≡ place_from (n + 1) gone (length xs) = omega arith in rw z ih
    at false ih = let z : 1 + place_from (n + 1) gone (length xs) ≡ suc (place_from (n + 1) gone (length xs)) = omega arith in rw z (ap (λ r. x ∷ r) ih)

-- places of the first list, each once and none gone before
abbrev pub AreApart : ℕ → List ℕ → List ℕ → Type 0
AreApart n gone [] = Unit {0}
AreApart n gone (p ∷ ps) = (p < n) × (among p gone ≡ false) × AreApart n (p ∷ gone) ps

abbrev pub gone_after : List ℕ → List ℕ → List ℕ
gone_after gone [] = gone
gone_after gone (p ∷ ps) = gone_after (p ∷ gone) ps

pub removals_leave : (fresh : PlainCookie) (cs : List PlainCookie) (gone ps : List ℕ) → AreApart (length cs) gone ps
    → after_steps fresh (without gone cs) (removals (without gone cs) gone ps) ≡ without (gone_after gone ps) cs
removals_leave fresh cs gone [] h = refl
removals_leave fresh cs gone (p ∷ ps) h =
    ap (λ left. after_steps fresh left (removals left (p ∷ gone) ps)) (remove_now 0 p p gone cs (omega arith) h.0 h.1) ∙ removals_leave fresh cs (p ∷ gone) ps h.2

abbrev pub goes : ℕ → List ℕ → ℕ
goes q ps = count_by (λ p. p == q) ps

pub apart_from : (n : ℕ) (gone ps : List ℕ) → ((q : ℕ) → goes q ps + cond (among q gone) 1 0 ≤ cond (nat_lt q n) 1 0) → AreApart n gone ps
apart_from n gone [] h = tt
apart_from n gone (p ∷ ps) h = (at_below (nat_lt p n) refl here, at_out (among p gone) refl here, apart_from n (p ∷ gone) ps (λ q. next q (p == q) (p == q) refl refl))
  where
    here : 1 + goes p ps + cond (among p gone) 1 0 ≤ cond (nat_lt p n) 1 0
    here = let one = h p in let more : goes p (p ∷ ps) ≡ 1 + goes p ps = rw (sum_by-cons (λ r. cond (r == p) 1 0) p ps, eq-eqb p p refl) refl in omega (arith, one, more)

    at_below : (b : Bool) → nat_lt p n ≡ b → 1 + goes p ps + cond (among p gone) 1 0 ≤ cond b 1 0 → p < n
    at_below true is le = ltb-true p n is
    at_below false is le = absurd (omega (arith, le))

    at_out : (b : Bool) → among p gone ≡ b → 1 + goes p ps + cond b 1 0 ≤ cond (nat_lt p n) 1 0 → b ≡ false
    at_out true is le = absurd (at_one (nat_lt p n) le)
      where
        at_one : (t : Bool) → 1 + goes p ps + 1 ≤ cond t 1 0 → ⊥
        at_one true le = omega (arith, le)
        at_one false le = omega (arith, le)
    at_out false is le = refl

    next : (q : ℕ) (b c : Bool) → (p == q) ≡ b → c ≡ b → goes q ps + cond (c || among q gone) 1 0 ≤ cond (nat_lt q n) 1 0
    next q true true is e = let all = h q in let more : goes q (p ∷ ps) ≡ 1 + goes q ps = rw (sum_by-cons (λ r. cond (r == q) 1 0) p ps, is) refl in omega (arith, all, more)
    next q false false is e = let all = h q in let more : goes q (p ∷ ps) ≡ 0 + goes q ps = rw (sum_by-cons (λ r. cond (r == q) 1 0) p ps, is) refl in omega (arith, all, more)
    next q true false is e = absurd (false≢true e)
    next q false true is e = absurd (false≢true (sym e))

pub among_after : (q : ℕ) (gone ps : List ℕ) → among q (gone_after gone ps) ≡ (among q ps || among q gone)
among_after q gone [] = refl
among_after q gone (p ∷ ps) = among_after q (p ∷ gone) ps ∙ turn (p == q) (among q ps) (among q gone)
  where
    turn : (a b c : Bool) → (b || (a || c)) ≡ ((a || b) || c)
    turn true true c = refl
    turn true false c = refl
    turn false true c = refl
    turn false false c = refl

same_gone : {X : Type 0} (n : ℕ) (a b : List ℕ) (xs : List X) → ((q : ℕ) → among q a ≡ among q b) → others_from n a xs ≡ others_from n b xs
same_gone n a b [] h = refl
same_gone n a b (x ∷ xs) h = rw (h n, same_gone (n + 1) a b xs h) refl

pub no_more : (b : Bool) → (b || false) ≡ b
no_more true = refl
no_more false = refl

pub none_gone : {X : Type 0} (n : ℕ) (xs : List X) → others_from n [] xs ≡ xs
none_gone n [] = refl
none_gone n (x ∷ xs) = ap (λ r. x ∷ r) (none_gone (n + 1) xs)

-- the removals of these places, from the whole list
pub removals_from_all : (fresh : PlainCookie) (cs : List PlainCookie) (ps : List ℕ) → AreApart (length cs) [] ps → after_steps fresh cs (removals cs [] ps) ≡ without ps cs
removals_from_all fresh cs ps h =
    ap (λ all. after_steps fresh all (removals all [] ps)) (sym (none_gone 0 cs)) ∙ removals_leave fresh cs [] ps h
    ∙ same_gone 0 (gone_after [] ps) ps cs (λ q. among_after q [] ps ∙ no_more (among q ps))

pub place_end : {X : Type 0} (n : ℕ) (gone : List ℕ) (xs : List X) → place_from n gone (length xs) ≡ length (others_from n gone xs)
place_end n gone [] = refl
place_end n gone (x ∷ xs) = rw (place_more n gone (length xs)) (at (among n gone) (place_end (n + 1) gone xs))
  where
    at : (b : Bool) → place_from (n + 1) gone (length xs) ≡ length (others_from (n + 1) gone xs)
        → cond (not b) 1 0 + place_from (n + 1) gone (length xs) ≡ length (cond b (others_from (n + 1) gone xs) (x ∷ others_from (n + 1) gone xs))
    at true ih = omega (arith, ih)
    at false ih = omega (arith, ih)

pub place_within : {X : Type 0} (n k p : ℕ) (gone : List ℕ) (xs : List X) → p ≡ n + k → k < length xs → among p gone ≡ false → place_from n gone k < length (others_from n gone xs)
place_within n k p gone [] e lt out = absurd (omega arith)
place_within n zero p gone (x ∷ xs) e lt out =
    let here : p ≡ n = omega (arith, e) in
    let out_here : among n gone ≡ false = ap (λ q. among q gone) (sym here) ∙ out in
    rw out_here (omega arith)
place_within n (suc k) p gone (x ∷ xs) e lt out =
    rw (place_more n gone k) (at (among n gone) (place_within (n + 1) k p gone xs (omega (arith, e)) (omega arith) out))
  where
    at : (b : Bool) → place_from (n + 1) gone k < length (others_from (n + 1) gone xs)
        → cond (not b) 1 0 + place_from (n + 1) gone k < length (cond b (others_from (n + 1) gone xs) (x ∷ others_from (n + 1) gone xs))
    at true ih = omega (arith, ih)
    at false ih = omega (arith, ih)

-- the fresh cookie in its place
pub put_there : (fresh : PlainCookie) (cs : List PlainCookie) → place_of fresh cs < length cs → put fresh cs ≡ slice_set cs (place_of fresh cs) fresh
put_there fresh cs lt = let e : place_of fresh cs + 1 ≡ suc (place_of fresh cs) = omega arith in rw e (sym (set_split cs (place_of fresh cs) fresh lt))

pub put_last : (fresh : PlainCookie) (cs : List PlainCookie) → place_of fresh cs ≡ length cs → put fresh cs ≡ cs ++ fresh ∷ []
put_last fresh cs e = rw (e, take_all (length cs) cs (omega arith), drop_all (length cs + 1) cs (omega arith)) refl

last_step : (fresh : PlainCookie) (cs : List PlainCookie) (gone : List ℕ) → among (place_of fresh cs) gone ≡ false
    → after_step fresh (without gone cs) (put_step (place_now gone (place_of fresh cs)) (without gone cs)) ≡ without gone (put fresh cs)
last_step fresh cs gone out = at (nat_lt (place_of fresh cs) (length cs)) refl
  where
    at : (b : Bool) → nat_lt (place_of fresh cs) (length cs) ≡ b → after_step fresh (without gone cs) (put_step (place_now gone (place_of fresh cs)) (without gone cs)) ≡ without gone (put fresh cs)
    at true is =
        let lt = ltb-true _ _ is in
        rw (lt-ltb _ _ (place_within 0 (place_of fresh cs) (place_of fresh cs) gone cs (omega arith) lt out), put_there fresh cs lt)
        (set_now 0 (place_of fresh cs) (place_of fresh cs) gone cs fresh (omega arith) lt out)
    at false is =
        let e : place_of fresh cs ≡ length cs = let le = prefix_len-le-length (λ c. not (same fresh c)) cs in omega (arith, le, ltb-false _ _ is) in
        let past = le-ltb (place_from 0 gone (length cs)) (length (others_from 0 gone cs)) (omega (arith, place_end 0 gone cs)) in
        ap (λ k. after_step fresh (without gone cs) (put_step (place_now gone k) (without gone cs))) e
        ∙ rw past (insert_now 0 (length cs) gone cs fresh (omega arith) (ap (λ q. among q gone) (sym e) ∙ out)) ∙ ap (without gone) (sym (put_last fresh cs e))

put_length : (fresh : PlainCookie) (cs : List PlainCookie) → (place_of fresh cs ≤ length cs) × (length (put fresh cs) ≡ place_of fresh cs + (1 + (length cs - (place_of fresh cs + 1))))
put_length fresh cs =
    let le : place_of fresh cs ≤ length cs = prefix_len-le-length (λ c. not (same fresh c)) cs in
    let back = length-drop (place_of fresh cs + 1) cs in
    let front : length (take (place_of fresh cs) cs) ≡ place_of fresh cs = length-take-le (place_of fresh cs) cs le in
    (le, length-append (take (place_of fresh cs) cs) (fresh ∷ drop (place_of fresh cs + 1) cs) ∙ omega (arith, back, front))

goes_among : (q : ℕ) (ps : List ℕ) → among q ps ≡ true → 1 ≤ goes q ps
goes_among q [] h = absurd (false≢true h)
goes_among q (p ∷ ps) h = rw (sum_by-cons (λ r. cond (r == q) 1 0) p ps) (at (p == q) (goes_among q ps) h)
  where
    at : (t : Bool) → (among q ps ≡ true → 1 ≤ goes q ps) → (t || among q ps) ≡ true → 1 ≤ cond t 1 0 + goes q ps
    at true ih h = omega arith
    at false ih h = let more = ih h in omega (arith, more)

victims_of : (kind : CellKind) (now : ℤ) (fresh : PlainCookie) (cs : List PlainCookie) (q : ℕ) → goes q (going kind now fresh cs) + cond (q == place_of fresh cs) 1 0 ≤ cond (nat_lt q (length (put fresh cs))) 1 0
victims_of kind now fresh cs q =
    let long = length-map (put fresh cs) (weigh kind now) in
    let size = put_length fresh cs in
    subst (λ n. goes q (going kind now fresh cs) + cond (q == place_of fresh cs) 1 0 ≤ cond (nat_lt q n) 1 0) long
    (victims_apart kind (map (weigh kind now) (put fresh cs)) (place_of fresh cs) q (omega (arith, long, size.0, size.1)))

-- the fresh cookie never goes
pub fresh_stays : (kind : CellKind) (now : ℤ) (fresh : PlainCookie) (cs : List PlainCookie) → among (place_of fresh cs) (going kind now fresh cs) ≡ false
fresh_stays kind now fresh cs = at (among (place_of fresh cs) (going kind now fresh cs)) refl
  where
    at : (b : Bool) → among (place_of fresh cs) (going kind now fresh cs) ≡ b → b ≡ false
    at false is = refl
    at true is = absurd (at_one (nat_lt (place_of fresh cs) (length (put fresh cs))) (subst (λ t. goes (place_of fresh cs) (going kind now fresh cs) + cond t 1 0 ≤ cond (nat_lt (place_of fresh cs) (length (put fresh cs))) 1 0) (eq-eqb (place_of fresh cs) (place_of fresh cs) refl) (victims_of kind now fresh cs (place_of fresh cs))) (goes_among (place_of fresh cs) (going kind now fresh cs) is))
      where
        at_one : (t : Bool) → goes (place_of fresh cs) (going kind now fresh cs) + 1 ≤ cond t 1 0 → 1 ≤ goes (place_of fresh cs) (going kind now fresh cs) → ⊥
        at_one true a b = omega (arith, a, b)
        at_one false a b = omega (arith, a, b)

pub going_apart : (kind : CellKind) (now : ℤ) (fresh : PlainCookie) (cs : List PlainCookie) → AreApart (length cs) [] (going kind now fresh cs)
going_apart kind now fresh cs = apart_from (length cs) [] (going kind now fresh cs) (λ q. at q (nat_lt q (length cs)) refl (q == place_of fresh cs) refl (nat_lt q (length (put fresh cs))) refl (victims_of kind now fresh cs q))
  where
    at : (q : ℕ) (a : Bool) → nat_lt q (length cs) ≡ a → (b : Bool) → (q == place_of fresh cs) ≡ b → (c : Bool) → nat_lt q (length (put fresh cs)) ≡ c
        → goes q (going kind now fresh cs) + cond b 1 0 ≤ cond c 1 0 → goes q (going kind now fresh cs) + 0 ≤ cond a 1 0
    at q true ia b ib true ic h = omega (arith, h)
    at q true ia b ib false ic h = omega (arith, h)
    at q false ia true ib true ic h = omega (arith, h)
    at q false ia true ib false ic h = omega (arith, h)
    at q false ia false ib false ic h = omega (arith, h)
    at q false ia false ib true ic h =
        absurd (let ne = eqb-false q (place_of fresh cs) ib in let size = put_length fresh cs in let lt = ltb-true _ _ ic in let ge = ltb-false _ _ ia in
        ne (omega (arith, size.0, size.1, lt, ge)))

-- the list after a store: the fresh cookie put, and those that go left out
pub stored_is : (kind : CellKind) (now : ℤ) (fresh : PlainCookie) (cs : List PlainCookie) → is_expired now fresh ≡ false → stored kind now fresh cs ≡ without (going kind now fresh cs) (put fresh cs)
stored_is kind now fresh cs live =
    let gone = going kind now fresh cs in
    let first = removals cs [] gone in
    let left = removals_from_all fresh cs gone (going_apart kind now fresh cs) in
    rw live (fold-append (after_step fresh) cs first (put_step (place_now gone (place_of fresh cs)) (after_steps fresh cs first) ∷ [])
    ∙ ap (λ xs. after_step fresh xs (put_step (place_now gone (place_of fresh cs)) xs)) left ∙ last_step fresh cs gone (fresh_stays kind now fresh cs))

others_map : {X Y : Type 0} (f : X → Y) (n : ℕ) (gone : List ℕ) (xs : List X) → others_from n gone (map f xs) ≡ map f (others_from n gone xs)
others_map f n gone [] = refl
others_map f n gone (x ∷ xs) = at (among n gone) (others_map f (n + 1) gone xs)
  where
    at : (b : Bool) → others_from (n + 1) gone (map f xs) ≡ map f (others_from (n + 1) gone xs)
        → cond b (others_from (n + 1) gone (map f xs)) (f x ∷ others_from (n + 1) gone (map f xs)) ≡ map f (cond b (others_from (n + 1) gone xs) (x ∷ others_from (n + 1) gone xs))
    at true ih = ih
    at false ih = ap (λ r. f x ∷ r) ih

rows_sum : (kind : CellKind) (now : ℤ) (cs : List PlainCookie) → sum_by (λ r. r.bytes) (map (weigh kind now) cs) ≡ sum_by (counted kind) cs
rows_sum kind now [] = refl
rows_sum kind now (c ∷ cs) = let e = rows_sum kind now cs in rw (sum_by-cons (λ r. r.bytes) (weigh kind now c) (map (weigh kind now) cs), sum_by-cons (counted kind) c cs) (omega (arith, e))

pub rows_hold : (kind : CellKind) (now : ℤ) (cs : List PlainCookie) → holds kind (map (weigh kind now) cs) ≡ keeps_limits kind cs
rows_hold kind now cs = ap (λ n. fits kind n (sum_by (λ r. r.bytes) (map (weigh kind now) cs))) (length-map cs (weigh kind now)) ∙ ap (fits kind (length cs)) (rows_sum kind now cs)

none_fresh : (p n : ℕ) (rows : List Weighed) → p < n → filter (λ c. c.0 == p) (enumerate_from n rows) ≡ []
none_fresh p n [] lt = refl
none_fresh p n (r ∷ rows) lt = rw (ne_eqb n p (λ e. omega (arith, e))) (none_fresh p (n + 1) rows (omega arith))

one_fresh : (p n : ℕ) (a : List Weighed) (x : Weighed) (b : List Weighed) → p ≡ n + length a → filter (λ c. c.0 == p) (enumerate_from n (a ++ x ∷ b)) ≡ (p, x) ∷ []
one_fresh p n [] x b e = let here : n ≡ p = omega (arith, e) in rw (eq-eqb n p here, none_fresh p (n + 1) b (omega (arith, e))) (ap (λ q. (q, x) ∷ []) here)
one_fresh p n (r ∷ a) x b e = rw (ne_eqb n p (λ h. omega (arith, h, e))) (one_fresh p (n + 1) a x b (omega (arith, e)))

-- a store leaves a cell within its limits
pub stored_fits : (kind : CellKind) (now : ℤ) (fresh : PlainCookie) (cs : List PlainCookie) → is_expired now fresh ≡ false → counted kind fresh ≤ 10240 → keeps_limits kind (stored kind now fresh cs) ≡ true
stored_fits kind now fresh cs live small =
    let rows = map (weigh kind now) (put fresh cs) in
    let place = place_of fresh cs in
    let size = put_length fresh cs in
    let front : place ≡ 0 + length (map (weigh kind now) (take place cs)) = omega (arith, length-map (take place cs) (weigh kind now), length-take-le place cs size.0) in
    let alone : fresh_row place rows ≡ (place, weigh kind now fresh) ∷ [] =
    ap (λ rs. fresh_row place rs) (map-append (weigh kind now) (take place cs) (fresh ∷ drop (place + 1) cs)) ∙ one_fresh place 0 (map (weigh kind now) (take place cs)) (weigh kind now fresh) (map (weigh kind now) (drop (place + 1) cs)) front in
    let fit = victims_fit kind rows place (ap (λ cs. holds kind (rows_of cs)) alone ∙ one_fits kind now fresh small) in
    ap (keeps_limits kind) (stored_is kind now fresh cs live) ∙ sym (rows_hold kind now (without (going kind now fresh cs) (put fresh cs)))
    ∙ ap (holds kind) (sym (others_map (weigh kind now) 0 (going kind now fresh cs) (put fresh cs))) ∙ fit
  where
    one_fits : (kind : CellKind) (now : ℤ) (fresh : PlainCookie) → counted kind fresh ≤ 10240 → holds kind (weigh kind now fresh ∷ []) ≡ true
    one_fits Own now fresh le = refl
    one_fits Partition now fresh le = le-leb (0 + counted Partition fresh) 10240 (omega (arith, le))
