-- The domain of a host is a label suffix of the host, and the domain of a domain is itself.
use Rattle.std.proofs.Common.{◌≡◌, ℕ, zero, suc, ◌+◌, ◌-◌, ◌<◌, ◌≤◌, ◌==◌, ◌⊎◌, inl, inr, ⊎_elim, Bool, true, false, cond, List, [], ◌∷◌, ◌++◌, length, drop, map, refl, ap, ◌∙◌, sym, arith, append_assoc, length-drop, drop-drop}
use Rattle.std.specs.Prelude.{max, ◌&&◌, ◌||◌, filter, fold, Some, None, unwrap_or}
use Rattle.std.specs.List.{list_any, join_with_byte, onto_first}
use Rattle.std.proofs.lemmas.Bool.{both_ways, false_from_ne_true, cond-true, cond-false, cases_lt}
use Rattle.std.proofs.lemmas.Bool.Decides.{nat_tests}
use Rattle.std.proofs.lemmas.List.{drop_all}
use Rattle.std.proofs.lemmas.Slice.Eq.{bytes_eq-Decides}
use Rattle.suffix_list.specs.Suffix.{Rule, labels_of, last_of, last_labels, covers, matches_labels, most_labels, prevailing_labels, suffix_labels, is_public_suffix, domain}
use Rattle.suffix_list.proofs.LabelLemmas.{join_labels, some_label, last_labels_all}
use Rattle.suffix_list.proofs.MatchLemmas.{filter-both, matches-length}

-- a text ends as another one, or behind one of its dots
abbrev pub EndsAt : List ℕ → List ℕ → Type 0
EndsAt name rest = (rest ≡ name) ⊎ ((front : List ℕ) × (name ≡ front ++ 46 ∷ rest))

onto_first-length : (b : ℕ) (labels : List (List ℕ)) → 0 < length labels → length (onto_first b labels) ≡ length labels
onto_first-length b [] some = absurd (omega arith)
onto_first-length b (label ∷ labels) some = refl

onto_first-behind : (b : ℕ) (labels : List (List ℕ)) → 0 < length labels → drop 1 (onto_first b labels) ≡ drop 1 labels
onto_first-behind b [] some = absurd (omega arith)
onto_first-behind b (label ∷ labels) some = refl

-- what stands behind the first dot has the labels but for the first
behind_dot : (name : List ℕ) → 1 < length (labels_of name)
    → (front : List ℕ) × ((rest : List ℕ) × ((name ≡ front ++ 46 ∷ rest) × (drop 1 (labels_of name) ≡ labels_of rest)))
behind_dot [] many = absurd (omega arith)
behind_dot (b ∷ bytes) many = by (λ more. behind_dot bytes more) (b == 46) refl many
  where
    by : (1 < length (labels_of bytes) → (front : List ℕ) × ((rest : List ℕ) × ((bytes ≡ front ++ 46 ∷ rest) × (drop 1 (labels_of bytes) ≡ labels_of rest))))
        → (dot : Bool) → (b == 46) ≡ dot → 1 < length (cond dot ([] ∷ labels_of bytes) (onto_first b (labels_of bytes)))
        → (front : List ℕ) × ((rest : List ℕ) × ((b ∷ bytes ≡ front ++ 46 ∷ rest) × (drop 1 (cond dot ([] ∷ labels_of bytes) (onto_first b (labels_of bytes))) ≡ labels_of rest)))
    by later true at many =
        let same : b ≡ 46 = grind (arith, nat_tests) in
        ([], (bytes, (ap (λ c. c ∷ bytes) same, refl)))
    by later false at many =
        let some = some_label bytes in
        let more : 1 < length (labels_of bytes) = omega (arith, onto_first-length b (labels_of bytes) some) in
        let found = later more in
        (b ∷ found.0, (found.1.0, (ap (λ bs. b ∷ bs) found.1.1.0, onto_first-behind b (labels_of bytes) some ∙ found.1.1.1)))

drop_more : (count : ℕ) (labels : List (List ℕ)) → drop count (drop 1 labels) ≡ drop (suc count) labels
drop_more zero [] = refl
drop_more (suc count) [] = refl
drop_more count (label ∷ labels) = refl

-- without some of its first labels, a name is a text that it ends at
labels_behind : (count : ℕ) (name : List ℕ) → count < length (labels_of name)
    → (rest : List ℕ) × ((labels_of rest ≡ drop count (labels_of name)) × EndsAt name rest)
labels_behind zero name some = (name, (refl, inl refl))
labels_behind (suc count) name some =
    let first = behind_dot name (omega arith) in
    let front = first.0 in
    let rest = first.1.0 in
    let fewer : length (labels_of rest) ≡ length (labels_of name) - 1 = ap length (sym first.1.1.1) ∙ length-drop 1 (labels_of name) in
    let found = labels_behind count rest (omega arith) in
    let labels : labels_of found.0 ≡ drop (suc count) (labels_of name) = found.1.0 ∙ ap (drop count) (sym first.1.1.1) ∙ drop_more count (labels_of name) in (
      found.0,
      (
        labels,
        inr (⊎_elim
            (λ same. (front, first.1.1.0 ∙ ap (λ r. front ++ 46 ∷ r) (sym same)))
            (λ dotted. (front ++ 46 ∷ dotted.0, first.1.1.0 ∙ ap (λ r. front ++ 46 ∷ r) dotted.1 ∙ sym (append_assoc front (46 ∷ dotted.0) (46 ∷ found.0))))
            found.1.1),
      ),
    )

-- the last labels of a name are a text that it ends at
pub last_labels_end : (count : ℕ) (name : List ℕ) → 0 < count
    → (labels_of (last_labels count name) ≡ last_of count (labels_of name)) × EndsAt name (last_labels count name)
last_labels_end count name some =
    let has = some_label name in
    let found = labels_behind (length (labels_of name) - count) name (omega arith) in
    let same : last_labels count name ≡ found.0 = ap (join_with_byte 46) (sym found.1.0) ∙ join_labels found.0 in
    (ap labels_of same ∙ found.1.0, ⊎_elim (λ whole. inl (same ∙ whole)) (λ dotted. inr (dotted.0, dotted.1 ∙ ap (λ r. dotted.0 ++ 46 ∷ r) (sym same))) found.1.1)

-- a name that is not empty is not its last labels where it has more
pub last_labels_fewer : (count : ℕ) (name : List ℕ) → count < length (labels_of name) → (name ≡ [] → ⊥) → last_labels count name ≡ name → ⊥
last_labels_fewer zero name fewer some same =
    some (sym same ∙ ap (join_with_byte 46) (drop_all (length (labels_of name) - 0) (labels_of name) (omega arith)))
last_labels_fewer (suc count) name fewer some same =
    let ends = (last_labels_end (suc count) name (omega arith)).0 in
    let long : length (labels_of name) ≡ length (last_of (suc count) (labels_of name)) = ap length (sym (ap labels_of same) ∙ ends) in
    let left : length (last_of (suc count) (labels_of name)) ≡ suc count = length-drop (length (labels_of name) - suc count) (labels_of name) ∙ omega (arith, fewer) in
    absurd (omega (arith, long, left, fewer))

-- the domain of a host is a text that the host ends at
pub domain_end : (rules : List Rule) (host : List ℕ) → EndsAt host (domain rules host)
domain_end rules host = by (is_public_suffix rules host)
  where
    by : (b : Bool) → EndsAt host (unwrap_or (cond b None (Some (last_labels (suffix_labels rules host + 1) host))) host)
    by true = inl refl
    by false = (last_labels_end (suffix_labels rules host + 1) host (omega arith)).1

-- of labels that are cut short in front, the last ones are those of all
last_of_last : (count most : ℕ) (labels : List (List ℕ)) → count ≤ most → most ≤ length labels → last_of count (last_of most labels) ≡ last_of count labels
last_of_last count most labels few fits =
    let cut : length (last_of most labels) ≡ most = omega (arith, length-drop (length labels - most) labels) in
    let places : (length labels - most) + (length (last_of most labels) - count) ≡ length labels - count = omega arith in
    drop-drop (length (last_of most labels) - count) (length labels - most) labels ∙ ap (λ n. drop n labels) places

-- a rule of few enough labels matches labels cut short in front as it matches all
matches_short : (most : ℕ) (labels : List (List ℕ)) (rule : Rule) → length rule.labels ≤ most → most ≤ length labels
    → matches_labels (last_of most labels) rule ≡ matches_labels labels rule
matches_short most labels rule few fits = ap (λ ls. covers ls rule) (last_of_last (length rule.labels) most labels few fits)

-- a longer rule matches none of them
matches_long : (most : ℕ) (labels : List (List ℕ)) (rule : Rule) → most < length rule.labels → most ≤ length labels
    → matches_labels (last_of most labels) rule ≡ false
matches_long most labels rule long fits =
    false_from_ne_true (matches_labels (last_of most labels) rule)
    (λ holds. let has = matches-length (last_of most labels) rule holds in absurd (omega (arith, length-drop (length labels - most) labels)))

-- the greatest of numbers and a first one is none below that
above_first : (numbers : List ℕ) (first : ℕ) → first ≤ fold max first numbers
above_first [] first = omega arith
above_first (number ∷ numbers) first = let later = above_first numbers (max first number) in omega arith

-- where no rule that passes a test and matches has more labels, the same ones match labels cut short
same_short : (test : Rule → Bool) (most : ℕ) (labels : List (List ℕ)) (rules : List Rule) (first : ℕ) → most ≤ length labels
    → fold max first (map (λ rule. length rule.labels) (filter (λ rule. test rule && matches_labels labels rule) rules)) ≤ most
    → filter (λ rule. test rule && matches_labels (last_of most labels) rule) rules ≡ filter (λ rule. test rule && matches_labels labels rule) rules
same_short test most labels [] first fits below = refl
same_short test most labels (rule ∷ rules) first fits below =
    by (λ n. same_short test most labels rules n fits) (test rule && matches_labels labels rule) refl below
  where
    rest : (Rule → Bool) → List Rule
    rest passes = filter (λ r. passes r) rules

    join : (a b : Bool) → a ≡ b → (xs ys : List Rule) → xs ≡ ys → cond a (rule ∷ xs) xs ≡ cond b (rule ∷ ys) ys
    join a b same xs ys later = (λ i. cond (same i) (rule ∷ later i) (later i))

    out : (a b : Bool) → (a && b) ≡ false → (c : Bool) → (c ≡ b) ⊎ (c ≡ false) → (a && c) ≡ false
    out false b fails c is = refl
    out true b fails c (inl same) = same ∙ fails
    out true b fails c (inr none) = none

    by : ((n : ℕ) → fold max n (map (λ r. length r.labels) (filter (λ r. test r && matches_labels labels r) rules)) ≤ most
        → filter (λ r. test r && matches_labels (last_of most labels) r) rules ≡ filter (λ r. test r && matches_labels labels r) rules)
        → (b : Bool) → (test rule && matches_labels labels rule) ≡ b
        → fold max first (map (λ r. length r.labels) (cond b (rule ∷ filter (λ r. test r && matches_labels labels r) rules) (filter (λ r. test r && matches_labels labels r) rules))) ≤ most
        → cond (test rule && matches_labels (last_of most labels) rule) (rule ∷ filter (λ r. test r && matches_labels (last_of most labels) r) rules) (filter (λ r. test r && matches_labels (last_of most labels) r) rules)
        ≡ cond b (rule ∷ filter (λ r. test r && matches_labels labels r) rules) (filter (λ r. test r && matches_labels labels r) rules)
    by later true at under =
        let above = above_first (map (λ r. length r.labels) (filter (λ r. test r && matches_labels labels r) rules)) (max first (length rule.labels)) in
        let few : length rule.labels ≤ most = omega arith in
        join _ _ (ap (λ c. test rule && c) (matches_short most labels rule few fits) ∙ at) _ _ (later (max first (length rule.labels)) under)
    by later false at under =
        join _ _
        (out (test rule) (matches_labels labels rule) at (matches_labels (last_of most labels) rule)
        (⊎_elim (λ long. inr (matches_long most labels rule long fits)) (λ few. inl (matches_short most labels rule few fits)) (cases_lt most (length rule.labels))))
        _ _ (later first under)

-- whether one of the rules passes a test follows from those that pass it
abbrev is_some_rule : List Rule → Bool
is_some_rule [] = false
is_some_rule (rule ∷ rules) = true

any_passing : (test : Rule → Bool) (rules : List Rule) → list_any test rules ≡ is_some_rule (filter test rules)
any_passing test [] = refl
any_passing test (rule ∷ rules) = by (any_passing test rules) (test rule)
  where
    by : list_any test rules ≡ is_some_rule (filter test rules) → (b : Bool) → (b || list_any test rules) ≡ is_some_rule (cond b (rule ∷ filter test rules) (filter test rules))
    by later true = refl
    by later false = later

-- one label more than the prevailing rule has prevailing rules of as many labels
prevailing_again : (rules : List Rule) (labels : List (List ℕ)) → prevailing_labels (filter (matches_labels labels) rules) < length labels
    → prevailing_labels (filter (matches_labels (last_of (prevailing_labels (filter (matches_labels labels) rules) + 1) labels)) rules) ≡ prevailing_labels (filter (matches_labels labels) rules)
prevailing_again rules labels fits = by (list_any is_exception (filter (matches_labels labels) rules)) refl
  where
    is_exception : Rule → Bool
    is_exception rule = rule.is_exception

    count : ℕ
    count = prevailing_labels (filter (matches_labels labels) rules)

    short : List (List ℕ)
    short = last_of (count + 1) labels

    by : (b : Bool) → list_any is_exception (filter (matches_labels labels) rules) ≡ b → prevailing_labels (filter (matches_labels short) rules) ≡ count
    by true any =
        let is : count ≡ most_labels (filter is_exception (filter (matches_labels labels) rules)) - 1 = cond-true _ _ _ any in
        let both = ap most_labels (filter-both is_exception (matches_labels labels) rules) in
        let same = same_short is_exception (count + 1) labels rules 0 (omega arith) (omega arith) in
        let passing : filter is_exception (filter (matches_labels short) rules) ≡ filter is_exception (filter (matches_labels labels) rules) =
        filter-both is_exception (matches_labels short) rules ∙ same ∙ sym (filter-both is_exception (matches_labels labels) rules) in
        let still : list_any is_exception (filter (matches_labels short) rules) ≡ true =
        any_passing is_exception (filter (matches_labels short) rules) ∙ ap is_some_rule passing ∙ sym (any_passing is_exception (filter (matches_labels labels) rules)) ∙ any in
        cond-true _ _ _ still ∙ ap (λ rs. most_labels rs - 1) passing ∙ sym is
    by false any =
        let is : count ≡ max 1 (most_labels (filter (matches_labels labels) rules)) = cond-false _ _ _ any in
        let same : filter (matches_labels short) rules ≡ filter (matches_labels labels) rules = same_short (λ rule. true) (count + 1) labels rules 0 (omega arith) (omega arith) in
        ap prevailing_labels same

-- the domain of a domain is itself
pub domain_again : (rules : List Rule) (host : List ℕ) → domain rules (domain rules host) ≡ domain rules host
domain_again rules host = by (is_public_suffix rules host) refl
  where
    count : ℕ
    count = suffix_labels rules host

    by : (b : Bool) → is_public_suffix rules host ≡ b
        → domain rules (unwrap_or (cond b None (Some (last_labels (count + 1) host))) host) ≡ unwrap_or (cond b None (Some (last_labels (count + 1) host))) host
    by true at = ap (λ b. unwrap_or (cond b None (Some (last_labels (count + 1) host))) host) at
    by false at =
        let fewer : count < length (labels_of host) =
        ⊎_elim (λ few. few)
        (λ all. absurd (both_ways _ at ((bytes_eq-Decides _ _).1 (last_labels_all count host all))))
        (cases_lt count (length (labels_of host))) in
        let found = last_labels_end (count + 1) host (omega arith) in
        let again : suffix_labels rules (last_labels (count + 1) host) ≡ count =
        ap (λ ls. prevailing_labels (filter (matches_labels ls) rules)) found.0 ∙ prevailing_again rules (labels_of host) fewer in
        let whole : length (labels_of (last_labels (count + 1) host)) ≤ count + 1 =
        omega (arith, ap length found.0, length-drop (length (labels_of host) - (count + 1)) (labels_of host)) in
        last (is_public_suffix rules (last_labels (count + 1) host))
        (ap (λ n. last_labels (n + 1) (last_labels (count + 1) host)) again ∙ last_labels_all (count + 1) (last_labels (count + 1) host) whole)
      where
        last : (b : Bool) → last_labels (suffix_labels rules (last_labels (count + 1) host) + 1) (last_labels (count + 1) host) ≡ last_labels (count + 1) host
            → unwrap_or (cond b None (Some (last_labels (suffix_labels rules (last_labels (count + 1) host) + 1) (last_labels (count + 1) host)))) (last_labels (count + 1) host) ≡ last_labels (count + 1) host
        last true same = refl
        last false same = same
