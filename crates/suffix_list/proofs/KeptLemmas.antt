-- What the names of kept rules say of the rules.
use Rattle.std.proofs.Common.{◌≡◌, ℕ, ◌-◌, ◌<◌, Bool, true, false, cond, not, List, [], ◌∷◌, ◌++◌, length, map, refl, ap, ◌∙◌, sym, arith}
use Rattle.std.specs.Prelude.{max, nat_lt, nat_le, ◌&&◌, ◌||◌, filter, fold, codes, bytes_eq, string_bytes}
use Rattle.std.specs.Cmp.Lexicographic.{pointwise}
use Rattle.std.specs.List.{list_any, list_all, join_with_byte}
use Rattle.std.proofs.lemmas.Bool.{false_from_ne_true, both_ways, and_parts, cond-true, cond-false, or_left, or_right, lt-ltb}
use Rattle.std.proofs.lemmas.Bool.Decides.{same_from_decides}
use Rattle.std.proofs.lemmas.Slice.Eq.{bytes_eq-Decides, slice_eq-Decides}
use Rattle.suffix_list.specs.declared.rules.KeptRule.{KeptRule}
use Rattle.suffix_list.specs.Suffix.{Rule, labels_of, covers, matches_labels, stands_for, suffix_labels}
use Rattle.suffix_list.specs.ListText.{is_label, is_rule, beside_star}
use Rattle.suffix_list.specs.Names.{plain_rule, is_named, is_parent_named, is_exception_named, longest}
use Rattle.suffix_list.proofs.LabelLemmas.{join_labels, some_label}
use Rattle.suffix_list.proofs.MatchLemmas.{longest_is, prevailing_is}

-- a label that stands for itself is no `*`
label_no_star : (pattern : List ℕ) → is_label pattern ≡ true → bytes_eq pattern (codes "*") ≡ false
label_no_star pattern is = false_from_ne_true (bytes_eq pattern (codes "*")) (λ star. both_ways (is_label pattern) (ap is_label ((bytes_eq-Decides pattern (codes "*")).0 star)) is)

label_stands : (pattern label : List ℕ) → is_label pattern ≡ true → stands_for pattern label ≡ bytes_eq pattern label
label_stands pattern label is = ap (λ b. b || bytes_eq pattern label) (label_no_star pattern is)

pub labels_stand : (patterns labels : List (List ℕ)) → list_all is_label patterns ≡ true → pointwise stands_for patterns labels ≡ pointwise bytes_eq patterns labels
labels_stand [] [] is = refl
labels_stand [] (label ∷ labels) is = refl
labels_stand (pattern ∷ patterns) [] is = refl
labels_stand (pattern ∷ patterns) (label ∷ labels) is =
    let parts = and_parts (is_label pattern) (list_all is_label patterns) is in
    ap (λ b. b && pointwise stands_for patterns labels) (label_stands pattern label parts.0) ∙ ap (λ b. bytes_eq pattern label && b) (labels_stand patterns labels parts.1)

-- names are the same where their labels are
pub labels_eq : (a b : List ℕ) → pointwise bytes_eq (labels_of a) (labels_of b) ≡ bytes_eq a b
labels_eq a b =
    let ds = slice_eq-Decides {E = bytes_eq} bytes_eq-Decides (labels_of a) (labels_of b) (pointwise bytes_eq (labels_of a) (labels_of b)) refl in
    same_from_decides (pointwise bytes_eq (labels_of a) (labels_of b)) (bytes_eq a b)
    (λ eq. sym (join_labels a) ∙ ap (join_with_byte 46) (ds.0 eq) ∙ join_labels b, λ same. ds.1 (ap labels_of same))
    (bytes_eq-Decides a b)

-- an exception covers the labels of its own name alone
covers_exception : (name : List ℕ) (rule : KeptRule) → is_rule (plain_rule rule) ≡ true
    → ((plain_rule rule).is_exception && covers (labels_of name) (plain_rule rule)) ≡ is_exception_named name rule
covers_exception name rule is = by rule.is_exception refl
  where
    by : (b : Bool) → rule.is_exception ≡ b → (b && covers (labels_of name) (plain_rule rule)) ≡ (b && bytes_eq (string_bytes rule.name) name)
    by false at = refl
    by true at =
        let parts = and_parts (list_all is_label (labels_of (string_bytes rule.name))) (nat_le 2 (length (labels_of (string_bytes rule.name)))) (sym (cond-true rule.is_exception _ _ at) ∙ is) in
        labels_stand (labels_of (string_bytes rule.name)) (labels_of name) parts.0 ∙ labels_eq (string_bytes rule.name) name

-- patterns with a leftmost `*` at most stand for labels with their own or a `*` in front
star_or_same : (patterns : List (List ℕ)) (label : List ℕ) (labels : List (List ℕ)) → list_all is_label (beside_star patterns) ≡ true
    → pointwise stands_for patterns (label ∷ labels) ≡ (pointwise bytes_eq patterns (label ∷ labels) || pointwise bytes_eq patterns (codes "*" ∷ labels))
star_or_same [] label labels is = refl
star_or_same (pattern ∷ patterns) label labels is = by (bytes_eq pattern (codes "*")) refl
  where
    both : (a e : Bool) → e ≡ ((a && e) || e)
    both true true = refl
    both true false = refl
    both false true = refl
    both false false = refl

    one : (a : Bool) → a ≡ (a || false)
    one true = refl
    one false = refl

    by : (b : Bool) → bytes_eq pattern (codes "*") ≡ b
        → ((b || bytes_eq pattern label) && pointwise stands_for patterns labels) ≡ ((bytes_eq pattern label && pointwise bytes_eq patterns labels) || (b && pointwise bytes_eq patterns labels))
    by true at =
        let rest = sym (ap (list_all is_label) (cond-true (bytes_eq pattern (codes "*")) patterns (pattern ∷ patterns) at)) ∙ is in
        labels_stand patterns labels rest ∙ both (bytes_eq pattern label) (pointwise bytes_eq patterns labels)
    by false at =
        let rest = sym (ap (list_all is_label) (cond-false (bytes_eq pattern (codes "*")) patterns (pattern ∷ patterns) at)) ∙ is in
        let parts = and_parts (is_label pattern) (list_all is_label patterns) rest in
        ap (λ b. bytes_eq pattern label && b) (labels_stand patterns labels parts.1) ∙ one (bytes_eq pattern label && pointwise bytes_eq patterns labels)

-- a rule that is no exception covers labels where it has their name, or `*` and the name behind the
-- first label
covers_named : (name label parent : List ℕ) (rule : KeptRule) → labels_of name ≡ label ∷ labels_of parent → is_rule (plain_rule rule) ≡ true
    → (not (plain_rule rule).is_exception && covers (labels_of name) (plain_rule rule)) ≡ (is_named name rule || is_parent_named parent rule)
covers_named name label parent rule same is = by rule.is_exception refl
  where
    by : (b : Bool) → rule.is_exception ≡ b
        → (not b && covers (labels_of name) (plain_rule rule)) ≡ ((not b && bytes_eq (string_bytes rule.name) name) || (not b && bytes_eq (string_bytes rule.name) (codes "*." ++ parent)))
    by true at = refl
    by false at =
        let rest = sym (cond-false rule.is_exception _ _ at) ∙ is in
        ap (pointwise stands_for (labels_of (string_bytes rule.name))) same
        ∙ star_or_same (labels_of (string_bytes rule.name)) label (labels_of parent) rest
        ∙ ap (λ b. b || pointwise bytes_eq (labels_of (string_bytes rule.name)) (codes "*" ∷ labels_of parent)) (sym (ap (pointwise bytes_eq (labels_of (string_bytes rule.name))) same) ∙ labels_eq (string_bytes rule.name) name)
        ∙ ap (λ b. bytes_eq (string_bytes rule.name) name || b) (labels_eq (string_bytes rule.name) (codes "*." ++ parent))

-- the same of a list of rules
pub any_exception : (name : List ℕ) (kept : List KeptRule) → list_all (λ rule. is_rule (plain_rule rule)) kept ≡ true
    → list_any (is_exception_named name) kept ≡ list_any (λ rule. rule.is_exception && covers (labels_of name) rule) (map plain_rule kept)
any_exception name [] are = refl
any_exception name (rule ∷ kept) are =
    let parts = and_parts (is_rule (plain_rule rule)) (list_all (λ r. is_rule (plain_rule r)) kept) are in
    ap (λ b. b || list_any (is_exception_named name) kept) (sym (covers_exception name rule parts.0))
    ∙ ap (λ b. ((plain_rule rule).is_exception && covers (labels_of name) (plain_rule rule)) || b) (any_exception name kept parts.1)

or_mix : (a b c d : Bool) → ((a || b) || (c || d)) ≡ ((a || c) || (b || d))
or_mix true b c d = refl
or_mix false true true d = refl
or_mix false true false d = refl
or_mix false false c d = refl

pub any_named : (name label parent : List ℕ) (kept : List KeptRule) → labels_of name ≡ label ∷ labels_of parent → list_all (λ rule. is_rule (plain_rule rule)) kept ≡ true
    → (list_any (is_named name) kept || list_any (is_parent_named parent) kept) ≡ list_any (λ rule. not rule.is_exception && covers (labels_of name) rule) (map plain_rule kept)
any_named name label parent [] same are = refl
any_named name label parent (rule ∷ kept) same are =
    let parts = and_parts (is_rule (plain_rule rule)) (list_all (λ r. is_rule (plain_rule r)) kept) are in
    or_mix (is_named name rule) (list_any (is_named name) kept) (is_parent_named parent rule) (list_any (is_parent_named parent) kept)
    ∙ ap (λ b. b || (list_any (is_named name) kept || list_any (is_parent_named parent) kept)) (sym (covers_named name label parent rule same parts.0))
    ∙ ap (λ b. (not (plain_rule rule).is_exception && covers (labels_of name) (plain_rule rule)) || b) (any_named name label parent kept same parts.1)

-- the longest exception that matches has a label, since each rule has one
some_most : (test : Rule → Bool) (labels : List (List ℕ)) (kept : List KeptRule) (most : ℕ)
    → nat_lt 0 (fold max most (map (λ rule. length rule.labels) (filter (λ rule. test rule && matches_labels labels rule) (map plain_rule kept))))
    ≡ (nat_lt 0 most || list_any test (filter (matches_labels labels) (map plain_rule kept)))
some_most test labels [] most = one (nat_lt 0 most)
  where
    one : (a : Bool) → a ≡ (a || false)
    one true = refl
    one false = refl
some_most test labels (rule ∷ kept) most =
    by (λ n. some_most test labels kept n) (test (plain_rule rule)) (matches_labels labels (plain_rule rule)) refl
  where
    by : ((n : ℕ) → nat_lt 0 (fold max n (map (λ r. length r.labels) (filter (λ r. test r && matches_labels labels r) (map plain_rule kept)))) ≡ (nat_lt 0 n || list_any test (filter (matches_labels labels) (map plain_rule kept))))
        → (a b : Bool) → test (plain_rule rule) ≡ a
        → nat_lt 0 (fold max most (map (λ r. length r.labels) (cond (a && b) (plain_rule rule ∷ filter (λ r. test r && matches_labels labels r) (map plain_rule kept)) (filter (λ r. test r && matches_labels labels r) (map plain_rule kept)))))
        ≡ (nat_lt 0 most || list_any test (cond b (plain_rule rule ∷ filter (matches_labels labels) (map plain_rule kept)) (filter (matches_labels labels) (map plain_rule kept))))
    by later true true at =
        let has = some_label (string_bytes rule.name) in
        let more : 0 < max most (length (labels_of (string_bytes rule.name))) = omega arith in
        later (max most (length (labels_of (string_bytes rule.name))))
        ∙ or_left (nat_lt 0 (max most (length (labels_of (string_bytes rule.name))))) (list_any test (filter (matches_labels labels) (map plain_rule kept))) (lt-ltb 0 (max most (length (labels_of (string_bytes rule.name)))) more)
        ∙ sym (or_right (nat_lt 0 most) (test (plain_rule rule) || list_any test (filter (matches_labels labels) (map plain_rule kept))) (or_left (test (plain_rule rule)) (list_any test (filter (matches_labels labels) (map plain_rule kept))) at))
    by later false true at = later most ∙ ap (λ b. nat_lt 0 most || (b || list_any test (filter (matches_labels labels) (map plain_rule kept)))) (sym at)
    by later true false at = later most
    by later false false at = later most

pub any_longest : (test : Rule → Bool) (labels : List (List ℕ)) (kept : List KeptRule)
    → nat_lt 0 (longest test (map plain_rule kept) labels) ≡ list_any test (filter (matches_labels labels) (map plain_rule kept))
any_longest test labels kept = ap (λ n. nat_lt 0 n) (sym (longest_is test (map plain_rule kept) labels)) ∙ some_most test labels kept 0

-- the prevailing rule of kept rules, from the longest of each kind
pub prevailing_kept : (kept : List KeptRule) (host : List ℕ) → suffix_labels (map plain_rule kept) host
    ≡ cond (nat_lt 0 (longest (λ rule. rule.is_exception) (map plain_rule kept) (labels_of host)))
    (longest (λ rule. rule.is_exception) (map plain_rule kept) (labels_of host) - 1)
    (max 1 (longest (λ rule. not rule.is_exception) (map plain_rule kept) (labels_of host)))
prevailing_kept kept host =
    prevailing_is (map plain_rule kept) (labels_of host) (longest (λ rule. rule.is_exception) (map plain_rule kept) (labels_of host)) refl
    (any_longest (λ rule. rule.is_exception) (labels_of host) kept)
