-- Cells that were read: what storing a cookie leaves of one, and the ranks of its steps.
use Rattle.std.proofs.Common.{◌≡◌, ℤ, ℕ, suc, ◌+◌, ◌<◌, ◌≤◌, Bool, true, false, cond, List, [], ◌∷◌, take, drop, length, refl, sym, ap, subst, arith, length-append, ◌∙◌}
use Rattle.std.specs.Prelude.{◌==◌, FitsSigned, nat_lt}
use Rattle.std.specs.Int.{w64}
use Rattle.std.specs.List.{All, enumerate_from, list_any, remove}
use Rattle.std.proofs.lemmas.List.{length-drop, length-map, length-take}
use Rattle.std.proofs.lemmas.List.Sums.{count_by-le-length}
use Rattle.std.proofs.lemmas.List.FromFn.{length-enumerate_from}
use Rattle.std.proofs.lemmas.List.Elements.{All-append, All-cons, All-drop, All-head, All-nil, All-set, All-tail, All-take}
use Rattle.stored_cookie.specs.StoredCookie.{PlainCookie}
use Rattle.partition_limits.specs.declared.tally.CellKind.{CellKind}
use Rattle.cookie_jar.specs.Cookie.{counted}
use Rattle.cookie_jar.specs.declared.step.JarStep.{JarStep}
use Rattle.cookie_jar.specs.declared.step.JarStep.TheVariants.{Insert, Replace, Remove}
use Rattle.cookie_jar.specs.Lifetime.{is_expired, is_persistent}
use Rattle.cookie_jar.specs.Sending.{marked, used}
use Rattle.cookie_jar.specs.Steps.{after_step, after_steps, going, live_steps, persists_at, place_now, place_of, put_step, rank, removal_at, remove_step, removals, steps, stored}
use Rattle.cookie_jar.proofs.CellLemmas.{count_small}
use Rattle.cookie_jar.proofs.MarkLemmas.{marked_from}
use Rattle.cookie_jar.proofs.StepLaws.{stored_fits}
use Rattle.agent_model.specs.CookieCells.{Cookies}
use Rattle.spelled_model.specs.Rows.{IsReadCell}

-- a cookie began at a moment of 64 bits
abbrev pub IsTimed : PlainCookie → Type 0
IsTimed c = FitsSigned w64 c.creation

pub none_read : IsReadCell []
none_read = record { few = omega arith; times = All-nil IsTimed }

-- either of two cells
pub either_read : (b : Bool) (xs ys : Cookies) → IsReadCell xs → IsReadCell ys → IsReadCell (cond b xs ys)
either_read true xs ys first second = first
either_read false xs ys first second = second

-- ---- last uses

length_marked : (places : List ℕ) (now : ℤ) (cs : Cookies) → length (marked places now cs) ≡ length cs
length_marked places now cs = length-map (enumerate_from 0 cs) (λ c. cond (list_any (λ p. p == c.0) places) (used now c.1) c.1) ∙ length-enumerate_from 0 cs

times_marked : (n : ℕ) (places : List ℕ) (now : ℤ) (cs : Cookies) → All IsTimed cs → All IsTimed (marked_from n places now cs)
times_marked n places now [] all = All-nil IsTimed
times_marked n places now (c ∷ cs) all =
    All-cons IsTimed (cond (list_any (λ p. p == n) places) (used now c) c) (marked_from (n + 1) places now cs)
    (at (list_any (λ p. p == n) places) (All-head IsTimed c cs all)) (times_marked (n + 1) places now cs (All-tail IsTimed c cs all))
  where
    at : (b : Bool) → IsTimed c → IsTimed (cond b (used now c) c)
    at true is = is
    at false is = is

pub marked_read : (places : List ℕ) (now : ℤ) (cs : Cookies) → IsReadCell cs → IsReadCell (marked places now cs)
marked_read places now cs read = record { few = let few = read.few in omega (arith, length_marked places now cs, few); times = times_marked 0 places now cs read.times }

-- ---- steps

-- a step has a rank with room in one byte
abbrev pub IsLow : JarStep → Type 0
IsLow (Insert place r) = r < 256
IsLow (Replace place r was) = r < 256
IsLow (Remove place r was) = r < 256

rank_low : (place : ℕ) (cs : Cookies) → length cs ≤ 180 → rank place cs < 256
rank_low place cs few = omega (arith, count_by-le-length is_persistent (take place cs), length-take place cs, few)

pub length_remove : (cs : Cookies) (place : ℕ) → length (remove cs place) ≤ length cs
length_remove cs place = omega (arith, length-append (take place cs) (drop (suc place) cs), length-take place cs, length-drop (suc place) cs)

removals_low : (cs : Cookies) (gone places : List ℕ) → length cs ≤ 180 → All IsLow (removals cs gone places)
removals_low cs gone [] few = All-nil IsLow
removals_low cs gone (p ∷ ps) few =
    let left = remove cs (place_now gone p) in
    All-cons IsLow (remove_step (place_now gone p) cs) (removals left (p ∷ gone) ps) (rank_low (place_now gone p) cs few)
    (removals_low left (p ∷ gone) ps (omega (arith, length_remove cs (place_now gone p), few)))

removals_shrink : (fresh : PlainCookie) (cs : Cookies) (gone places : List ℕ) → length (after_steps fresh cs (removals cs gone places)) ≤ length cs
removals_shrink fresh cs gone [] = omega arith
removals_shrink fresh cs gone (p ∷ ps) =
    let left = remove cs (place_now gone p) in
    omega (arith, removals_shrink fresh left (p ∷ gone) ps, length_remove cs (place_now gone p))

put_low : (place : ℕ) (cs : Cookies) → length cs ≤ 180 → IsLow (put_step place cs)
put_low place cs few = by (nat_lt place (length cs))
  where
    by : (b : Bool) → IsLow (cond b (Replace place (rank place cs) (persists_at place cs)) (Insert place (rank place cs)))
    by true = rank_low place cs few
    by false = rank_low place cs few

module _ (kind : CellKind) (now : ℤ) (fresh : PlainCookie) (cs : Cookies) where
  live_low : length cs ≤ 180 → All IsLow (live_steps kind now fresh cs)
  live_low few =
      let gone = going kind now fresh cs in
      let first = removals cs [] gone in
      let left = after_steps fresh cs first in
      let last = put_step (place_now gone (place_of fresh cs)) left in
      All-append IsLow first (last ∷ []) (removals_low cs [] gone few)
      (All-cons IsLow last [] (put_low (place_now gone (place_of fresh cs)) left (omega (arith, removals_shrink fresh cs [] gone, few))) (All-nil IsLow))

  removal_low : length cs ≤ 180 → All IsLow (removal_at (place_of fresh cs) cs)
  removal_low few = by (nat_lt (place_of fresh cs) (length cs))
    where
      by : (b : Bool) → All IsLow (cond b (remove_step (place_of fresh cs) cs ∷ []) [])
      by true = All-cons IsLow (remove_step (place_of fresh cs) cs) [] (rank_low (place_of fresh cs) cs few) (All-nil IsLow)
      by false = All-nil IsLow

  -- the ranks of the steps of a store
  pub steps_low : length cs ≤ 180 → All IsLow (steps kind now fresh cs)
  steps_low few = by (is_expired now fresh)
    where
      by : (b : Bool) → All IsLow (cond b (removal_at (place_of fresh cs) cs) (live_steps kind now fresh cs))
      by true = removal_low few
      by false = live_low few

-- ---- what a store leaves

step_timed : (fresh : PlainCookie) → IsTimed fresh → (cs : Cookies) → All IsTimed cs → (s : JarStep) → All IsTimed (after_step fresh cs s)
step_timed fresh timed cs all (Insert place r) = All-append IsTimed (take place cs) (fresh ∷ drop place cs) (All-take IsTimed place cs all) (All-cons IsTimed fresh (drop place cs) timed (All-drop IsTimed place cs all))
step_timed fresh timed cs all (Replace place r was) = All-set IsTimed cs place fresh timed all
step_timed fresh timed cs all (Remove place r was) = All-append IsTimed (take place cs) (drop (suc place) cs) (All-take IsTimed place cs all) (All-drop IsTimed (suc place) cs all)

steps_timed : (fresh : PlainCookie) → IsTimed fresh → (ss : List JarStep) (cs : Cookies) → All IsTimed cs → All IsTimed (after_steps fresh cs ss)
steps_timed fresh timed [] cs all = all
steps_timed fresh timed (s ∷ ss) cs all = steps_timed fresh timed ss (after_step fresh cs s) (step_timed fresh timed cs all s)

pub stored_read : (kind : CellKind) (now : ℤ) (fresh : PlainCookie) (cs : Cookies) → counted kind fresh ≤ 10240 → IsTimed fresh → IsReadCell cs → IsReadCell (stored kind now fresh cs)
stored_read kind now fresh cs small timed read =
    record { few = by (is_expired now fresh) refl; times = steps_timed fresh timed (steps kind now fresh cs) cs read.times }
  where
    removed : (b : Bool) → length (after_steps fresh cs (cond b (remove_step (place_of fresh cs) cs ∷ []) [])) ≤ 180
    removed true = let few = read.few in omega (arith, length_remove cs (place_of fresh cs), few)
    removed false = read.few

    by : (b : Bool) → is_expired now fresh ≡ b → length (stored kind now fresh cs) ≤ 180
    by true is =
        subst (λ left. length left ≤ 180) (sym (ap (λ b. after_steps fresh cs (cond b (removal_at (place_of fresh cs) cs) (live_steps kind now fresh cs))) is))
        (removed (nat_lt (place_of fresh cs) (length cs)))
    by false is = count_small kind (length (stored kind now fresh cs)) _ (stored_fits kind now fresh cs is small)
