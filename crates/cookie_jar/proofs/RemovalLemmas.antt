-- A plan of removals over flags.
use mathlib.Core.Path.{fun_ext}
use Rattle.std.proofs.Common.{◌≡◌, ℤ, ℕ, zero, suc, ◌+◌, ◌<◌, ◌≤◌, Bool, cond, not, List, [], ◌∷◌, ◌++◌, map, take, drop, length, get_or, refl, ap, ◌∙◌, sym, arith}
use Rattle.std.specs.List.{count_by, list_any, remove, range_with_len}
use Rattle.std.specs.Prelude.{◌||◌, Some, None, is_some, slice_get, slice_set}
use Rattle.std.proofs.lemmas.Bool.{false≢true, le-ltb, lt-ltb}
use Rattle.std.proofs.Math.Bool.{or-false}
use Rattle.std.proofs.lemmas.Option.{slice_get_within}
use Rattle.partition_limits.specs.declared.tally.CellKind.{CellKind}
use Rattle.std.proofs.lemmas.List.Sums.{sum_by-cons, prefix_len-le-length}
use Rattle.std.proofs.lemmas.List.{take-map, drop-map, take_more, append_assoc, length-map, map-set, map-append}
use Rattle.cookie_jar.specs.declared.step.JarStep.{JarStep}
use Rattle.std.proofs.Math.Seq.{drop-cons}
use Rattle.cookie_jar.specs.Cookie.{PlainCookie, same}
use Rattle.cookie_jar.specs.declared.step.JarStep.TheVariants.{Insert, Replace, Remove}
use Rattle.cookie_jar.specs.Steps.{weigh, put, place_of, place_now, persists_at, rank, removal_at, removals, remove_step, put_step}
use Rattle.cookie_jar.specs.Lifetime.{is_persistent}
use Rattle.cookie_jar.specs.Flags.{flag_removal, flag_put}
use Rattle.cookie_jar.specs.Performed.{after_removals}
use Rattle.cookie_jar.proofs.CellLemmas.{map-remove}
use Rattle.cookie_jar.proofs.HeaderLemmas.{some_there}
use Rattle.cookie_jar.proofs.StepLaws.{among, gone_after, among_after, no_more, put_there, put_last}

-- what is left after some removals
abbrev pub left_after : List PlainCookie → List ℕ → List ℕ → List PlainCookie
left_after cs gone [] = cs
left_after cs gone (p ∷ ps) = left_after (remove cs (place_now gone p)) (p ∷ gone) ps

-- that is what the removals leave
pub left_is : (cs : List PlainCookie) (gone ps : List ℕ) → after_removals cs (removals cs gone ps) ≡ left_after cs gone ps
left_is cs gone [] = refl
left_is cs gone (p ∷ ps) = left_is (remove cs (place_now gone p)) (p ∷ gone) ps

-- what is counted or found in a list of images
pub count_map : {A B : Type 0} (f : A → B) (test : B → Bool) (xs : List A) → count_by (λ x. test (f x)) xs ≡ count_by test (map f xs)
count_map f test [] = refl
count_map f test (x ∷ xs) =
    let e = count_map f test xs in
    rw (sum_by-cons (λ y. cond (test (f y)) 1 0) x xs, sum_by-cons (λ y. cond (test y) 1 0) (f x) (map f xs)) (omega (arith, e))

pub any_map : {A B : Type 0} (f : A → B) (test : B → Bool) (xs : List A) → list_any (λ x. test (f x)) xs ≡ list_any test (map f xs)
any_map f test [] = refl
any_map f test (x ∷ xs) = ap (λ r. test (f x) || r) (any_map f test xs)

pub flag_removal_is : (place : ℕ) (cs : List PlainCookie) → flag_removal place (map is_persistent cs) ≡ remove_step place cs
flag_removal_is place cs =
    rw (take-map is_persistent place cs, sym (count_map is_persistent (λ b. b) (take place cs)), drop-map is_persistent place cs, take-map is_persistent 1 (drop place cs), sym (any_map is_persistent (λ b. b) (take 1 (drop place cs)))) refl

place_same : (a b : List ℕ) (p : ℕ) → ((q : ℕ) → among q a ≡ among q b) → place_now a p ≡ place_now b p
place_same a b p h = ap (λ (f : ℕ → Bool). count_by f (range_with_len 0 p)) (fun_ext (λ q. ap not (h q)))

pub left_more : (cs : List PlainCookie) (gone a : List ℕ) (p : ℕ) → left_after cs gone (a ++ p ∷ []) ≡ remove (left_after cs gone a) (place_now (gone_after gone a) p)
left_more cs gone [] p = refl
left_more cs gone (q ∷ a) p = left_more (remove cs (place_now gone q)) (q ∷ gone) a p

pub gone_more : (gone a : List ℕ) (p : ℕ) → gone_after gone (a ++ p ∷ []) ≡ p ∷ gone_after gone a
gone_more gone [] p = refl
gone_more gone (q ∷ a) p = gone_more (q ∷ gone) a p

-- places are counted alike from those that have gone in either order
pub place_after : (a : List ℕ) (p : ℕ) → place_now a p ≡ place_now (gone_after [] a) p
place_after a p = place_same a (gone_after [] a) p (λ q. sym (among_after q [] a ∙ no_more (among q a)))

-- one more removal
pub removals_more : (cs : List PlainCookie) (gone ps : List ℕ) (i d : ℕ) → i < length ps
    → removals (left_after cs [] (take i ps)) gone (drop i ps)
    ≡ remove_step (place_now gone (get_or ps i d)) (left_after cs [] (take i ps)) ∷ removals (remove (left_after cs [] (take i ps)) (place_now gone (get_or ps i d))) (get_or ps i d ∷ gone) (drop (suc i) ps)
removals_more cs gone ps i d lt = ap (removals (left_after cs [] (take i ps)) gone) (drop-cons ps i d lt)

pub map_both : {A B C : Type 0} (f : A → B) (g : B → C) (xs : List A) → map g (map f xs) ≡ map (λ x. g (f x)) xs
map_both f g [] = refl
map_both f g (x ∷ xs) = ap (λ r. g (f x) ∷ r) (map_both f g xs)

-- a loop's step
pub plan_step : (cs : List PlainCookie) (ps : List ℕ) (i d : ℕ) (steps more : List JarStep) (flags rest : List Bool) (place : ℕ) → i < length ps
    → place ≡ place_now (take i ps) (get_or ps i d)
    → more ≡ steps ++ flag_removal place flags ∷ []
    → rest ≡ remove flags place
    → removals cs [] ps ≡ steps ++ removals (left_after cs [] (take i ps)) (gone_after [] (take i ps)) (drop i ps)
    → flags ≡ map is_persistent (left_after cs [] (take i ps))
    → (removals cs [] ps ≡ more ++ removals (left_after cs [] (take (i + 1) ps)) (gone_after [] (take (i + 1) ps)) (drop (i + 1) ps)) × (rest ≡ map is_persistent (left_after cs [] (take (i + 1) ps)))
plan_step cs ps i d steps more flags rest place lt here pushed dropped so_far alike =
    let p = get_or ps i d in
    let cur = left_after cs [] (take i ps) in
    let gone = gone_after [] (take i ps) in
    let now : place ≡ place_now gone p = here ∙ place_after (take i ps) p in
    let left : left_after cs [] (take (i + 1) ps) ≡ remove cur (place_now gone p) = ap (left_after cs []) (take_more ps i d lt) ∙ left_more cs [] (take i ps) p in
    let went : gone_after [] (take (i + 1) ps) ≡ p ∷ gone = ap (gone_after []) (take_more ps i d lt) ∙ gone_more [] (take i ps) p in
    let next : i + 1 ≡ suc i = omega arith in
    let step : flag_removal place flags ≡ remove_step (place_now gone p) cur = ap (flag_removal place) alike ∙ flag_removal_is place cur ∙ ap (λ n. remove_step n cur) now in
    let tail = removals (remove cur (place_now gone p)) (p ∷ gone) (drop (suc i) ps) in
    let rest_is : removals (left_after cs [] (take (i + 1) ps)) (gone_after [] (take (i + 1) ps)) (drop (i + 1) ps) ≡ tail =
    ap (λ xs. removals xs (gone_after [] (take (i + 1) ps)) (drop (i + 1) ps)) left ∙ ap (λ g. removals (remove cur (place_now gone p)) g (drop (i + 1) ps)) went ∙ ap (λ n. removals (remove cur (place_now gone p)) (p ∷ gone) (drop n ps)) next in (
      so_far ∙ ap (λ r. steps ++ r) (removals_more cs gone ps i d lt) ∙ sym (ap (λ m. m ++ removals (left_after cs [] (take (i + 1) ps)) (gone_after [] (take (i + 1) ps)) (drop (i + 1) ps)) (pushed ∙ ap (λ s. steps ++ s ∷ []) step)
          ∙ append_assoc steps (remove_step (place_now gone p) cur ∷ []) _ ∙ ap (λ r. steps ++ remove_step (place_now gone p) cur ∷ r) rest_is),
      dropped ∙ ap (λ xs. remove xs place) alike ∙ sym (map-remove is_persistent cur place) ∙ ap (λ n. map is_persistent (remove cur n)) now ∙ ap (map is_persistent) (sym left),
    )

pub flag_put_is : (place : ℕ) (cs : List PlainCookie) → flag_put place (map is_persistent cs) ≡ put_step place cs
flag_put_is place cs =
    rw (
      take-map is_persistent place cs,
      sym (count_map is_persistent (λ b. b) (take place cs)),
      drop-map is_persistent place cs,
      take-map is_persistent 1 (drop place cs),
      sym (any_map is_persistent (λ b. b) (take 1 (drop place cs))),
      length-map cs is_persistent,
    ) refl

persists_there : (place : ℕ) (cs : List PlainCookie) (c : PlainCookie) → Some c ≡ slice_get cs place → persists_at place cs ≡ is_persistent c
persists_there place cs c there = ap (list_any is_persistent) (some_there cs place c there) ∙ or-false (is_persistent c)

past_end : (cs : List PlainCookie) (p : ℕ) → None ≡ slice_get cs p → length cs ≤ p
past_end [] p h = omega arith
past_end (c ∷ cs) zero h = absurd (false≢true (ap is_some h))
past_end (c ∷ cs) (suc p) h = let rest = past_end cs p h in omega (arith, rest)

-- the steps at a place where a cookie is, and at one where none is
pub remove_there : (place : ℕ) (cs : List PlainCookie) (c : PlainCookie) → Some c ≡ slice_get cs place → Remove place (rank place cs) (is_persistent c) ∷ [] ≡ removal_at place cs
remove_there place cs c there =
    ap (λ was. Remove place (rank place cs) was ∷ []) (sym (persists_there place cs c there))
    ∙ ap (λ b. cond b (remove_step place cs ∷ []) []) (sym (lt-ltb place (length cs) (slice_get_within cs place c (sym there))))

pub put_there_is : (place : ℕ) (cs : List PlainCookie) (c : PlainCookie) → Some c ≡ slice_get cs place → Replace place (rank place cs) (is_persistent c) ≡ put_step place cs
put_there_is place cs c there =
    ap (Replace place (rank place cs)) (sym (persists_there place cs c there))
    ∙ ap (λ b. cond b (Replace place (rank place cs) (persists_at place cs)) (Insert place (rank place cs))) (sym (lt-ltb place (length cs) (slice_get_within cs place c (sym there))))

pub put_past_is : (place : ℕ) (cs : List PlainCookie) → None ≡ slice_get cs place → Insert place (rank place cs) ≡ put_step place cs
put_past_is place cs none = ap (λ b. cond b (Replace place (rank place cs) (persists_at place cs)) (Insert place (rank place cs))) (sym (le-ltb place (length cs) (past_end cs place none)))

pub rows_there : (kind : CellKind) (now : ℤ) (f : PlainCookie) (cs : List PlainCookie) (place : ℕ) → place ≡ place_of f cs → place < length (map (weigh kind now) cs)
    → slice_set (map (weigh kind now) cs) place (weigh kind now f) ≡ map (weigh kind now) (put f cs)
rows_there kind now f cs place e lt =
    let long = length-map cs (weigh kind now) in
    ap (λ n. slice_set (map (weigh kind now) cs) n (weigh kind now f)) e ∙ sym (map-set (weigh kind now) cs (place_of f cs) f) ∙ ap (map (weigh kind now)) (sym (put_there f cs (omega (arith, e, lt, long))))

pub rows_last : (kind : CellKind) (now : ℤ) (f : PlainCookie) (cs : List PlainCookie) (place : ℕ) → place ≡ place_of f cs → length (map (weigh kind now) cs) ≤ place
    → map (weigh kind now) cs ++ weigh kind now f ∷ [] ≡ map (weigh kind now) (put f cs)
rows_last kind now f cs place e le =
    let long = length-map cs (weigh kind now) in
    let top = prefix_len-le-length (λ d. not (same f d)) cs in
    sym (map-append (weigh kind now) cs (f ∷ [])) ∙ ap (map (weigh kind now)) (sym (put_last f cs (omega (arith, e, le, long, top))))
