-- The names that a name ends in, and where no longer one can have a rule.
use Rattle.std.proofs.Common.{◌≡◌, ℕ, zero, suc, ◌+◌, ◌-◌, ◌<◌, ◌≤◌, ◌==◌, inl, inr, ⊎_elim, Bool, true, false, cond, List, [], ◌∷◌, ◌++◌, length, take, drop, map, refl, ap, ◌∙◌, sym, arith}
use Rattle.std.proofs.lemmas.Grind.{common_steps}
use Rattle.std.specs.Prelude.{nat_le, nat_lt, ◌&&◌, ◌||◌, codes, bytes_eq, string_bytes}
use Rattle.std.specs.Cmp.Lexicographic.{pointwise}
use Rattle.std.specs.List.{list_any, list_all, onto_first}
use Rattle.std.proofs.lemmas.Bool.{false_from_ne_true, both_ways, and_parts, or_left, or_right, or_parts, or_cases, cases_lt}
use Rattle.std.proofs.lemmas.Bool.Decides.{nat_tests}
use Rattle.std.proofs.lemmas.Slice.Eq.{bytes_eq-Decides, slice_eq-Decides}
use lib.Pointwise.{pointwise_long}
use Rattle.suffix_list.specs.declared.rules.KeptRule.{KeptRule}
use Rattle.suffix_list.specs.declared.marks.Marks.{Marks}
use Rattle.suffix_list.specs.Suffix.{Rule, labels_of, last_of, covers, stands_for}
use Rattle.suffix_list.specs.ListText.{is_label, is_rule}
use Rattle.suffix_list.specs.Names.{BeginsLabel, Names, TellsOf, is_behind, is_inner_of, inner_labels, longest, marks_at, plain_rule}
use Rattle.suffix_list.proofs.LabelLemmas.{some_label, last_of_more, last_of_all}
use Rattle.suffix_list.proofs.KeptLemmas.{labels_stand}
use Rattle.suffix_list.proofs.LookupLemmas.{longest_later}

onto_first-append : (b : ℕ) (labels more : List (List ℕ)) → 0 < length labels → onto_first b (labels ++ more) ≡ onto_first b labels ++ more
onto_first-append b [] more some = absurd (omega arith)
onto_first-append b (label ∷ labels) more some = refl

-- the labels before a dot and those behind it
labels_of-dot : (front rest : List ℕ) → labels_of (front ++ 46 ∷ rest) ≡ labels_of front ++ labels_of rest
labels_of-dot [] rest = refl
labels_of-dot (b ∷ front) rest = by (labels_of-dot front rest) (b == 46)
  where
    by : labels_of (front ++ 46 ∷ rest) ≡ labels_of front ++ labels_of rest → (dot : Bool)
        → cond dot ([] ∷ labels_of (front ++ 46 ∷ rest)) (onto_first b (labels_of (front ++ 46 ∷ rest))) ≡ cond dot ([] ∷ labels_of front) (onto_first b (labels_of front)) ++ labels_of rest
    by later true = ap (λ ls. [] ∷ ls) later
    by later false = ap (onto_first b) later ∙ onto_first-append b (labels_of front) (labels_of rest) (some_label front)

-- the labels of a name are those from a label on, behind others
pub front_labels : (name : List ℕ) (start : ℕ) → BeginsLabel name start → (front : List (List ℕ)) × (labels_of name ≡ front ++ labels_of (drop start name))
front_labels name start (inl none) = ([], ap (λ n. labels_of (drop n name)) (sym none))
front_labels name start (inr dotted) =
    let dot = dotted.0 in
    let inside = dotted.2 in
    let is = dotted.3 in
    let whole : name ≡ take dot name ++ 46 ∷ drop (dot + 1) name = grind (arith, common_steps) in (
      labels_of (take dot name),
      ap labels_of whole ∙ labels_of-dot (take dot name) (drop (dot + 1) name) ∙ ap (λ n. labels_of (take dot name) ++ labels_of (drop n name)) (sym dotted.1),
    )

drop_front : (n : ℕ) (front rest : List ℕ) → n ≤ length front → drop n (front ++ rest) ≡ drop n front ++ rest
drop_front zero front rest within = refl
drop_front (suc n) [] rest within = absurd (omega (arith, within))
drop_front (suc n) (b ∷ front) rest within = drop_front n front rest (omega (arith, within))

-- one label more, which ends before the dot of the first
pub label_before : (name : List ℕ) (start before : ℕ) → BeginsLabel name start → 0 < start → before ≤ start - 1
    → labels_of (drop before (take (start - 1) name)) ≡ drop before (take (start - 1) name) ∷ []
    → labels_of (drop before name) ≡ drop before (take (start - 1) name) ∷ labels_of (drop start name)
label_before name start before (inl none) some within one = absurd (omega (arith, none, some))
label_before name start before (inr dotted) some within one =
    let dot = dotted.0 in
    let inside = dotted.2 in
    let is = dotted.3 in
    let at : start - 1 ≡ dot = omega (arith, dotted.1) in
    let low : before ≤ dot = omega (arith, at, within) in
    let whole : name ≡ take dot name ++ 46 ∷ drop (dot + 1) name = grind (arith, common_steps) in
    let long : length (take dot name) ≡ dot = grind (arith, common_steps) in
    ap labels_of (ap (drop before) whole ∙ drop_front before (take dot name) (46 ∷ drop (dot + 1) name) (omega (arith, long, low))) ∙ labels_of-dot (drop before (take dot name)) (drop (dot + 1) name)
    ∙ (λ i. labels_of (drop before (take (sym at i) name)) ++ labels_of (drop (sym dotted.1 i) name))
    ∙ ap (λ ls. ls ++ labels_of (drop start name)) one

-- labels stand behind a label and others
behind_front : (first : List ℕ) (front labels : List (List ℕ)) → is_behind labels (first ∷ (front ++ labels)) ≡ true
behind_front first [] labels =
    or_left (pointwise bytes_eq labels labels) (is_behind labels labels)
    ((slice_eq-Decides {E = bytes_eq} bytes_eq-Decides labels labels (pointwise bytes_eq labels labels) refl).1 refl)
behind_front first (next ∷ front) labels =
    or_right (pointwise bytes_eq (next ∷ (front ++ labels)) labels) (is_behind labels (next ∷ (front ++ labels))) (behind_front next front labels)

-- they stand behind one of the last labels too, where these are more
behind_short : (most : ℕ) (labels all : List (List ℕ)) → length labels < most → is_behind labels all ≡ true → is_behind labels (last_of most all) ≡ true
behind_short most labels [] few is = absurd (both_ways false refl is)
behind_short most labels (first ∷ later) few is =
    ⊎_elim
    (λ long.
    let left : most ≤ length later = omega (arith, long) in
    ap (is_behind labels) (last_of_more most first later left)
    ∙ ⊎_elim
    (λ same. absurd (omega (arith, pointwise_long bytes_eq later labels same, few, left)))
    (λ behind. behind_short most labels later few behind)
    (or_cases (pointwise bytes_eq later labels) (is_behind labels later) is))
    (λ short. ap (is_behind labels) (last_of_all most (first ∷ later) short) ∙ is)
    (cases_lt most (length (first ∷ later)))

-- the labels of a rule behind its first stand for themselves
rest_labels : (e : Bool) (pattern : List ℕ) (patterns : List (List ℕ)) → is_rule (record { is_exception = e; labels = pattern ∷ patterns }) ≡ true → list_all is_label patterns ≡ true
rest_labels true pattern patterns is =
    let parts = and_parts (list_all is_label (pattern ∷ patterns)) (nat_le 2 (length (pattern ∷ patterns))) is in
    (and_parts (is_label pattern) (list_all is_label patterns) parts.0).1
rest_labels false pattern patterns is = by (bytes_eq pattern (codes "*")) is
  where
    by : (star : Bool) → list_all is_label (cond star patterns (pattern ∷ patterns)) ≡ true → list_all is_label patterns ≡ true
    by true is = is
    by false is = (and_parts (is_label pattern) (list_all is_label patterns) is).1

-- labels in front of which a rule covers more stand behind one of its labels
covers_behind : (e : Bool) (patterns : List (List ℕ)) (first : List ℕ) (front labels : List (List ℕ)) → is_rule (record { is_exception = e; labels = patterns }) ≡ true
    → pointwise stands_for patterns (first ∷ (front ++ labels)) ≡ true → is_behind labels patterns ≡ true
covers_behind e [] first front labels is holds = absurd (both_ways false refl holds)
covers_behind e (pattern ∷ patterns) first front labels is holds =
    let later = (and_parts (stands_for pattern first) (pointwise stands_for patterns (front ++ labels)) holds).1 in
    let named = sym (labels_stand patterns (front ++ labels) (rest_labels e pattern patterns is)) ∙ later in
    let same : patterns ≡ front ++ labels = (slice_eq-Decides {E = bytes_eq} bytes_eq-Decides patterns (front ++ labels) (pointwise bytes_eq patterns (front ++ labels)) refl).0 named in
    ap (λ ps. is_behind labels (pattern ∷ ps)) same ∙ behind_front pattern front labels

-- no rule covers more labels than those of a name that no rule has behind others
none_covers : (test : Rule → Bool) (name first : List ℕ) (front : List (List ℕ)) (kept : List KeptRule) → length (labels_of name) ≤ inner_labels
    → list_all (λ rule. is_rule (plain_rule rule)) kept ≡ true → list_any (is_inner_of name) kept ≡ false
    → list_any (λ rule. test rule && covers (first ∷ (front ++ labels_of name)) rule) (map plain_rule kept) ≡ false
none_covers test name first front [] few are none = refl
none_covers test name first front (rule ∷ kept) few are none =
    let parts = and_parts (is_rule (plain_rule rule)) (list_all (λ r. is_rule (plain_rule r)) kept) are in
    let nones = or_parts (is_inner_of name rule) (list_any (is_inner_of name) kept) none in
    let here : covers (first ∷ (front ++ labels_of name)) (plain_rule rule) ≡ false =
    false_from_ne_true (covers (first ∷ (front ++ labels_of name)) (plain_rule rule))
    (λ holds. both_ways (is_inner_of name rule) nones.0
    (behind_short (inner_labels + 1) (labels_of name) (labels_of (string_bytes rule.name)) (omega (arith, few))
    (covers_behind rule.is_exception (labels_of (string_bytes rule.name)) first front (labels_of name) parts.0 holds))) in
    ap (λ b. (test (plain_rule rule) && b) || list_any (λ r. test r && covers (first ∷ (front ++ labels_of name)) r) (map plain_rule kept)) here
    ∙ out (test (plain_rule rule)) (none_covers test name first front kept few parts.1 nones.1)
  where
    out : (b : Bool) {c : Bool} → c ≡ false → ((b && false) || c) ≡ false
    out true is = is
    out false is = is

-- what the longest rule is does not change with more labels in front of such a name
longest_ended : (test : Rule → Bool) (name : List ℕ) (front : List (List ℕ)) (kept : List KeptRule) → length (labels_of name) ≤ inner_labels
    → list_all (λ rule. is_rule (plain_rule rule)) kept ≡ true → list_any (is_inner_of name) kept ≡ false
    → longest test (map plain_rule kept) (front ++ labels_of name) ≡ longest test (map plain_rule kept) (labels_of name)
longest_ended test name [] kept few are none = refl
longest_ended test name (first ∷ front) kept few are none =
    longest_later test (map plain_rule kept) (first ∷ (front ++ labels_of name)) first (front ++ labels_of name) refl (none_covers test name first front kept few are none)
    ∙ longest_ended test name front kept few are none

-- where the look-up does not go on, the longest rule at a host is the longest so far
pub at_last : (test : Rule → Bool) (names : Names) (kept : List KeptRule) (host : List ℕ) (start count : ℕ) (here : Marks) → TellsOf names kept → BeginsLabel host start
    → here ≡ marks_at names (drop start host) → count ≡ length (labels_of (drop start host)) → (nat_lt 0 start && (here.is_inner || nat_lt inner_labels count)) ≡ false
    → longest test (map plain_rule kept) (labels_of (drop start host)) ≡ longest test (map plain_rule kept) (labels_of host)
at_last test names kept host start count here tells begins is counted ends = by (nat_lt 0 start) refl ends
  where
    by : (some : Bool) → nat_lt 0 start ≡ some → (some && (here.is_inner || nat_lt inner_labels count)) ≡ false
        → longest test (map plain_rule kept) (labels_of (drop start host)) ≡ longest test (map plain_rule kept) (labels_of host)
    by false at ends = let first : start ≡ 0 = grind (arith, nat_tests) in ap (λ n. longest test (map plain_rule kept) (labels_of (drop n host))) first
    by true at ends =
        let nones = or_parts here.is_inner (nat_lt inner_labels count) ends in
        let few : length (labels_of (drop start host)) ≤ inner_labels = grind (arith, nat_tests, nones.1, counted) in
        let none : list_any (is_inner_of (drop start host)) kept ≡ false = sym (ap (λ m. m.is_inner) (is ∙ tells.1 (drop start host))) ∙ nones.0 in
        let front = front_labels host start begins in
        sym (ap (longest test (map plain_rule kept)) front.1 ∙ longest_ended test (drop start host) front.0 kept few tells.0 none)
