-- There is a header exactly where the places of some cookie are told.
use Rattle.std.proofs.Common.{◌≡◌, ℕ, zero, suc, ◌+◌, ◌<◌, ◌==◌, Bool, true, false, not, ◌&&◌, ◌||◌, cond, List, [], ◌∷◌, ◌++◌, length, map, filter, fold, take, drop, Some, None, refl, ap, ◌∙◌, arith}
use Rattle.std.specs.List.{enumerate_from}
use Rattle.std.proofs.lemmas.Bool.Decides.{Decides-eqb}
use Rattle.cookie_jar.specs.Cookie.{PlainCookie}
use Rattle.cookie_jar.specs.Sending.{PlainSent, in_order, joined, ordered, sent_at, sent_of, stands_before}
use Rattle.cookie_jar.specs.Sending as sending
use Rattle.agent_model.specs.CookieUse.{CookieUse}
use Rattle.agent_model.specs.CookieStore.{BothCells, header_text, own_places, partition_places, sent}

-- a list is not empty
abbrev full : {A : Type 0} → List A → Bool
full [] = false
full (x ∷ xs) = true

full-append : {A : Type 0} (xs ys : List A) → full (xs ++ ys) ≡ (full xs || full ys)
full-append [] ys = refl
full-append (x ∷ xs) ys = refl

or_false : (b : Bool) → b ≡ (b || false)
or_false true = refl
or_false false = refl

or_true : (b : Bool) → true ≡ (b || true)
or_true true = refl
or_true false = refl

full-in_order : (ts : List PlainSent) (s : PlainSent) → full (in_order ts s) ≡ true
full-in_order [] s = refl
full-in_order (t ∷ ts) s = at (stands_before s t)
  where
    at : (b : Bool) → full (cond b (s ∷ t ∷ ts) (t ∷ in_order ts s)) ≡ true
    at true = refl
    at false = refl

full-fold : (ts ss : List PlainSent) → full (fold in_order ts ss) ≡ (full ts || full ss)
full-fold ts [] = or_false (full ts)
full-fold ts (s ∷ ss) = full-fold (in_order ts s) ss ∙ ap (λ b. b || full ss) (full-in_order ts s) ∙ or_true (full ts)

full-at : {A B : Type 0} (f : A → B) (p : ℕ) (xs : List A) → p < length xs → full (map f (take 1 (drop p xs))) ≡ true
full-at f p [] within = absurd (omega (arith, within))
full-at f zero (x ∷ xs) within = refl
full-at f (suc p) (x ∷ xs) within = full-at f p xs (omega (arith, within))

-- the first place of those that pass a test is one of the list
first_within : {A : Type 0} (test : ℕ × A → Bool) (n : ℕ) (xs : List A) (p : ℕ) (ps : List ℕ)
    → map (λ c. c.0) (filter test (enumerate_from n xs)) ≡ p ∷ ps → p < n + length xs
first_within test n [] p ps is = cc
first_within test n (x ∷ xs) p ps is = at (test (n, x)) is (first_within test (n + 1) xs p ps)
  where
    at : (b : Bool) → map (λ c. c.0) (cond b ((n, x) ∷ filter test (enumerate_from (n + 1) xs)) (filter test (enumerate_from (n + 1) xs))) ≡ p ∷ ps
        → (map (λ c. c.0) (filter test (enumerate_from (n + 1) xs)) ≡ p ∷ ps → p < n + 1 + length xs)
        → p < n + length (x ∷ xs)
    at true is later = let first : n ≡ p = cc in omega (arith, first)
    at false is later = omega (arith, later is)

not_zero : (n : ℕ) → true ≡ not (suc n == 0)
not_zero n = at (suc n == 0) refl
  where
    at : (b : Bool) → (suc n == 0) ≡ b → true ≡ not b
    at true is = absurd (omega (arith, (Decides-eqb (suc n) 0).0 is))
    at false is = refl

full-sent_of : (partitioned : Bool) (places : List ℕ) (cs : List PlainCookie) → ((p : ℕ) (ps : List ℕ) → places ≡ p ∷ ps → p < length cs)
    → full (sent_of partitioned places cs) ≡ not (length places == 0)
full-sent_of partitioned [] cs within = refl
full-sent_of partitioned (p ∷ ps) cs within =
    full-append (sent_at partitioned cs p) (sent_of partitioned ps cs)
    ∙ ap (λ b. b || full (sent_of partitioned ps cs)) (full-at _ p cs (within p ps refl))
    ∙ not_zero (length ps)

header_by : (ss : List PlainSent) (none : Bool) → full ss ≡ not none → header_text ss ≡ cond none None (Some (joined ss))
header_by [] true is = refl
header_by [] false is = cc
header_by (s ∷ ss) true is = cc
header_by (s ∷ ss) false is = refl

both_none : (a b : Bool) → (not a || not b) ≡ not (a && b)
both_none true b = refl
both_none false b = refl

pub header_is : (now : ℕ) (how : CookieUse) (both : BothCells)
    → header_text (sent now how both)
    ≡ cond ((length (own_places now how both) == 0) && (length (partition_places now how both) == 0)) None (Some (joined (sent now how both)))
header_is now how both =
    let own = own_places now how both in
    let partition = partition_places now how both in
    header_by (sent now how both) ((length own == 0) && (length partition == 0))
    (full-fold [] (sending.sent both.own own both.partition partition)
    ∙ full-append (sent_of false own both.own) (sent_of true partition both.partition)
    ∙ ap (λ b. b || full (sent_of true partition both.partition)) (full-sent_of false own both.own (λ p ps is. omega (arith, first_within _ 0 both.own p ps is)))
    ∙ ap (λ b. not (length own == 0) || b) (full-sent_of true partition both.partition (λ p ps is. omega (arith, first_within _ 0 both.partition p ps is)))
    ∙ both_none (length own == 0) (length partition == 0))
