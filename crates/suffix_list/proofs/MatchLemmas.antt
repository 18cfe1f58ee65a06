-- The prevailing rule over all rules is what the longest fitting end of a host gives.
use Rattle.std.proofs.Common.{◌≡◌, ℕ, suc, ◌-◌, ◌≤◌, ◌⊎◌, inl, inr, ⊎_elim, Bool, true, false, cond, not, List, [], ◌∷◌, length, map, refl, ap, ◌∙◌, sym, arith, length-drop}
use Rattle.std.specs.Prelude.{max, nat_lt, ◌&&◌, ◌||◌, filter, fold}
use Rattle.std.specs.List.{list_any}
use Rattle.std.proofs.lemmas.Bool.{false_from_ne_true, both_ways, and_parts, and_from, or_parts, or_cases, cases_Bool, cases_lt}
use lib.Pointwise.{pointwise_long}
use Rattle.suffix_list.specs.Suffix.{Rule, last_of, covers, matches_labels, most_labels, prevailing_labels, stands_for}
use Rattle.suffix_list.specs.Names.{longest}
use Rattle.suffix_list.proofs.LabelLemmas.{last_of_more, last_of_all}

-- a rule that covers labels has as many
covers-length : (labels : List (List ℕ)) (rule : Rule) → covers labels rule ≡ true → length rule.labels ≡ length labels
covers-length labels rule holds = pointwise_long stands_for rule.labels labels holds

covers-other : (labels : List (List ℕ)) (rule : Rule) → (length rule.labels ≡ length labels → ⊥) → covers labels rule ≡ false
covers-other labels rule other = false_from_ne_true (covers labels rule) (λ holds. other (covers-length labels rule holds))

-- a rule that matches has no more labels
pub matches-length : (labels : List (List ℕ)) (rule : Rule) → matches_labels labels rule ≡ true → length rule.labels ≤ length labels
matches-length labels rule holds =
    let same = covers-length (last_of (length rule.labels) labels) rule holds in
    omega (arith, length-drop (length labels - length rule.labels) labels)

-- a rule that covers the labels matches them
matches-covered : (labels : List (List ℕ)) (rule : Rule) → covers labels rule ≡ true → matches_labels labels rule ≡ true
matches-covered labels rule holds =
    let same = covers-length labels rule holds in
    let all : length labels ≤ length rule.labels = omega arith in
    ap (λ ls. covers ls rule) (last_of_all (length rule.labels) labels all) ∙ holds

-- a rule that matches covers all the labels, or matches those behind the first
matches-more : (label : List ℕ) (labels : List (List ℕ)) (rule : Rule) → matches_labels (label ∷ labels) rule ≡ (covers (label ∷ labels) rule || matches_labels labels rule)
matches-more label labels rule =
    ⊎_elim
    (λ longer.
    let all : suc (length labels) ≤ length rule.labels = omega arith in
    let none = covers-other (last_of (length rule.labels) labels) rule (λ same. absurd (omega (arith, length-drop (length labels - length rule.labels) labels))) in
    ap (λ ls. covers ls rule) (last_of_all (length rule.labels) (label ∷ labels) all) ∙ or_none (covers (label ∷ labels) rule) (matches_labels labels rule) none)
    (λ short.
    let none = covers-other (label ∷ labels) rule (λ same. absurd (omega arith)) in
    ap (λ ls. covers ls rule) (last_of_more (length rule.labels) label labels short) ∙ sym (ap (λ b. b || matches_labels labels rule) none))
    (cases_lt (length labels) (length rule.labels))
  where
    or_none : (a b : Bool) → b ≡ false → a ≡ (a || b)
    or_none true b none = refl
    or_none false b none = sym none

-- rules of which each that covers the labels is left out match only what is behind the first
same_filter : (test : Rule → Bool) (label : List ℕ) (labels : List (List ℕ)) (rules : List Rule)
    → list_any (λ rule. test rule && covers (label ∷ labels) rule) rules ≡ false
    → filter (λ rule. test rule && matches_labels (label ∷ labels) rule) rules ≡ filter (λ rule. test rule && matches_labels labels rule) rules
same_filter test label labels [] out = refl
same_filter test label labels (rule ∷ rules) out =
    let parts = or_parts (test rule && covers (label ∷ labels) rule) (list_any (λ r. test r && covers (label ∷ labels) r) rules) out in
    let first = ap (λ b. test rule && b) (matches-more label labels rule) ∙ left_out (test rule) (covers (label ∷ labels) rule) (matches_labels labels rule) parts.0 in
    let later = same_filter test label labels rules parts.1 in
    ap (λ b. cond b (rule ∷ filter (λ r. test r && matches_labels (label ∷ labels) r) rules) (filter (λ r. test r && matches_labels (label ∷ labels) r) rules)) first
    ∙ ap (λ rs. cond (test rule && matches_labels labels rule) (rule ∷ rs) rs) later
  where
    left_out : (a b c : Bool) → (a && b) ≡ false → (a && (b || c)) ≡ (a && c)
    left_out false b c out = refl
    left_out true true c out = absurd (both_ways true out refl)
    left_out true false c out = refl

-- where a rule covers the labels, the longest of those that match has as many
longest_covers : (test : Rule → Bool) (labels : List (List ℕ)) (rules : List Rule) (most : ℕ) → most ≤ length labels
    → (list_any (λ rule. test rule && covers labels rule) rules ≡ true) ⊎ (most ≡ length labels)
    → fold max most (map (λ rule. length rule.labels) (filter (λ rule. test rule && matches_labels labels rule) rules)) ≡ length labels
longest_covers test labels [] most below (inl found) = absurd (both_ways false refl found)
longest_covers test labels [] most below (inr same) = same
longest_covers test labels (rule ∷ rules) most below found =
    ⊎_elim
    (λ in_.
    let parts = and_parts (test rule) (matches_labels labels rule) in_ in
    let short = matches-length labels rule parts.1 in
    let still : max most (length rule.labels) ≤ length labels = omega arith in
    let rest = longest_covers test labels rules (max most (length rule.labels)) still (taken below short found) in
    ap (λ b. fold max most (map (λ r. length r.labels) (cond b (rule ∷ filter (λ r. test r && matches_labels labels r) rules) (filter (λ r. test r && matches_labels labels r) rules)))) in_ ∙ rest)
    (λ out.
    let rest = longest_covers test labels rules most below (passed out found) in
    ap (λ b. fold max most (map (λ r. length r.labels) (cond b (rule ∷ filter (λ r. test r && matches_labels labels r) rules) (filter (λ r. test r && matches_labels labels r) rules)))) out ∙ rest)
    (cases_Bool (test rule && matches_labels labels rule))
  where
    taken : most ≤ length labels → length rule.labels ≤ length labels
        → (list_any (λ r. test r && covers labels r) (rule ∷ rules) ≡ true) ⊎ (most ≡ length labels)
        → (list_any (λ r. test r && covers labels r) rules ≡ true) ⊎ (max most (length rule.labels) ≡ length labels)
    taken below short (inr same) = inr (omega arith)
    taken below short (inl found) =
        ⊎_elim
        (λ here. let same = covers-length labels rule (and_parts (test rule) (covers labels rule) here).1 in inr (omega arith))
        (λ later. inl later)
        (or_cases (test rule && covers labels rule) (list_any (λ r. test r && covers labels r) rules) found)

    passed : (test rule && matches_labels labels rule) ≡ false
        → (list_any (λ r. test r && covers labels r) (rule ∷ rules) ≡ true) ⊎ (most ≡ length labels)
        → (list_any (λ r. test r && covers labels r) rules ≡ true) ⊎ (most ≡ length labels)
    passed out (inr same) = inr same
    passed out (inl found) =
        ⊎_elim
        (λ here.
        let parts = and_parts (test rule) (covers labels rule) here in
        absurd (both_ways (test rule && matches_labels labels rule) out (and_from (test rule) (matches_labels labels rule) parts.0 (matches-covered labels rule parts.1))))
        (λ later. inl later)
        (or_cases (test rule && covers labels rule) (list_any (λ r. test r && covers labels r) rules) found)

-- the longest of the rules that match, found end by end
pub longest_is : (test : Rule → Bool) (rules : List Rule) (labels : List (List ℕ))
    → most_labels (filter (λ rule. test rule && matches_labels labels rule) rules) ≡ longest test rules labels
longest_is test rules [] = longest_covers test [] rules 0 (omega arith) (inr refl)
longest_is test rules (label ∷ labels) =
    step (longest_is test rules labels) (list_any (λ rule. test rule && covers (label ∷ labels) rule) rules) refl
  where
    step : most_labels (filter (λ rule. test rule && matches_labels labels rule) rules) ≡ longest test rules labels
        → (b : Bool) → list_any (λ rule. test rule && covers (label ∷ labels) rule) rules ≡ b
        → most_labels (filter (λ rule. test rule && matches_labels (label ∷ labels) rule) rules) ≡ cond b (length (label ∷ labels)) (longest test rules labels)
    step later true found = longest_covers test (label ∷ labels) rules 0 (omega arith) (inl found)
    step later false out = ap most_labels (same_filter test label labels rules out) ∙ later

-- a filter of a filter
pub filter-both : (p q : Rule → Bool) (rules : List Rule) → filter p (filter q rules) ≡ filter (λ rule. p rule && q rule) rules
filter-both p q [] = refl
filter-both p q (rule ∷ rules) = first (filter-both p q rules) (p rule) (q rule) refl
  where
    first : filter p (filter q rules) ≡ filter (λ r. p r && q r) rules
        → (a b : Bool) → p rule ≡ a → filter p (cond b (rule ∷ filter q rules) (filter q rules)) ≡ cond (a && b) (rule ∷ filter (λ r. p r && q r) rules) (filter (λ r. p r && q r) rules)
    first later true true pa = ap (λ b. cond b (rule ∷ filter p (filter q rules)) (filter p (filter q rules))) pa ∙ ap (λ rs. rule ∷ rs) later
    first later false true pa = ap (λ b. cond b (rule ∷ filter p (filter q rules)) (filter p (filter q rules))) pa ∙ later
    first later true false pa = later
    first later false false pa = later

-- where none of the rules that pass q passes p, the filter by q is the one by q and not p
filter-without : (p q : Rule → Bool) (rules : List Rule) → list_any p (filter q rules) ≡ false → filter q rules ≡ filter (λ rule. not (p rule) && q rule) rules
filter-without p q [] out = refl
filter-without p q (rule ∷ rules) out = first (filter-without p q rules) (p rule) (q rule) refl out
  where
    first : (list_any p (filter q rules) ≡ false → filter q rules ≡ filter (λ r. not (p r) && q r) rules)
        → (a b : Bool) → p rule ≡ a → list_any p (cond b (rule ∷ filter q rules) (filter q rules)) ≡ false
        → cond b (rule ∷ filter q rules) (filter q rules) ≡ cond (not a && b) (rule ∷ filter (λ r. not (p r) && q r) rules) (filter (λ r. not (p r) && q r) rules)
    first later true true pa out = absurd (both_ways (p rule) (or_parts (p rule) (list_any p (filter q rules)) out).0 pa)
    first later false true pa out = ap (λ rs. rule ∷ rs) (later (or_parts (p rule) (list_any p (filter q rules)) out).1)
    first later true false pa out = later out
    first later false false pa out = later out

-- the prevailing rule, where it is known whether an exception matches
pub prevailing_is : (rules : List Rule) (labels : List (List ℕ)) (most : ℕ) → most ≡ longest (λ rule. rule.is_exception) rules labels
    → nat_lt 0 most ≡ list_any (λ rule. rule.is_exception) (filter (matches_labels labels) rules)
    → prevailing_labels (filter (matches_labels labels) rules) ≡ cond (nat_lt 0 most) (most - 1) (max 1 (longest (λ rule. not rule.is_exception) rules labels))
prevailing_is rules labels most same found = by (nat_lt 0 most) (sym found)
  where
    by : (b : Bool) → list_any (λ rule. rule.is_exception) (filter (matches_labels labels) rules) ≡ b
        → prevailing_labels (filter (matches_labels labels) rules) ≡ cond b (most - 1) (max 1 (longest (λ rule. not rule.is_exception) rules labels))
    by true is =
        ap (λ b. cond b (most_labels (filter (λ rule. rule.is_exception) (filter (matches_labels labels) rules)) - 1) (max 1 (most_labels (filter (matches_labels labels) rules)))) is
        ∙ ap (λ n. n - 1) (ap most_labels (filter-both (λ rule. rule.is_exception) (matches_labels labels) rules) ∙ longest_is (λ rule. rule.is_exception) rules labels ∙ sym same)
    by false is =
        ap (λ b. cond b (most_labels (filter (λ rule. rule.is_exception) (filter (matches_labels labels) rules)) - 1) (max 1 (most_labels (filter (matches_labels labels) rules)))) is
        ∙ ap (λ n. max 1 n) (ap most_labels (filter-without (λ rule. rule.is_exception) (matches_labels labels) rules is) ∙ longest_is (λ rule. not rule.is_exception) rules labels)
