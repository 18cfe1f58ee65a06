-- What the look-up's names are after one more rule.
use Rattle.std.proofs.Common.{◌≡◌, ℕ, ◌<◌, Bool, true, false, cond, not, refl, ap, ◌∙◌, sym, List, [], ◌∷◌, ◌++◌, length, arith}
use Rattle.std.specs.Prelude.{◌&&◌, ◌||◌, bytes_eq, string_bytes, String, codes, Some, unwrap_or}
use Rattle.std.specs.declared.alloc.Global.{Global}
use Rattle.std.specs.Cmp.Lexicographic.{pointwise}
use Rattle.std.specs.HashMap.{UpdatesBy, get_by_text}
use Rattle.std.specs.List.{list_any, list_all}
use Rattle.std.specs.String.{string_eq}
use Rattle.std.proofs.lemmas.Bool.{or_right}
use Rattle.std.proofs.lemmas.List.Folds.{list_any-append, list_all-append}
use Rattle.std.proofs.lemmas.Slice.Eq.{bytes_eq-Decides}
use Rattle.std.proofs.lemmas.Map.Text.{hash_map_updates_text}
use Rattle.suffix_list.specs.declared.marks.Marks.{Marks}
use Rattle.suffix_list.specs.declared.rules.KeptRule.{KeptRule}
use Rattle.suffix_list.specs.Suffix.{labels_of}
use Rattle.suffix_list.specs.ListText.{is_rule}
use Rattle.suffix_list.specs.Names.{Names, plain_rule, no_marks, inner_marks, joined, marks_at, marks_among, name_marks, parent_marks, end_marks, marks_behind, is_behind, is_inner_of, is_named, is_parent_named, is_exception_named}
use Rattle.suffix_list.proofs.LabelLemmas.{some_label}
use Rattle.suffix_list.proofs.KeptLemmas.{labels_eq}

or_false : (b : Bool) → b ≡ (b || false)
or_false true = refl
or_false false = refl

-- no marks join to no more
pub joined_none : (marks : Marks) → marks ≡ joined marks no_marks
joined_none marks = λ i. record { is_rule = or_false marks.is_rule i; is_parent = or_false marks.is_parent i; is_exception = or_false marks.is_exception i; is_inner = or_false marks.is_inner i }

-- the name that is put in has the joined marks, and the others have theirs
pub mark_put : (names after : Names) (key : String Global) (name other : List ℕ) (all more : Marks) → UpdatesBy string_eq (λ k. string_eq key k) names after (Some all)
    → string_bytes key ≡ name → all ≡ joined (marks_at names name) more
    → marks_at after other ≡ cond (bytes_eq name other) (joined (marks_at names other) more) (marks_at names other)
mark_put names after key name other all more updates same is =
    ap (λ found. unwrap_or found no_marks) (hash_map_updates_text (string_bytes key) names after (Some all) updates other)
    ∙ ap (λ bytes. unwrap_or (cond (bytes_eq bytes other) (Some all) (get_by_text names other)) no_marks) same
    ∙ by (bytes_eq name other) refl
  where
    by : (b : Bool) → bytes_eq name other ≡ b
        → unwrap_or (cond b (Some all) (get_by_text names other)) no_marks ≡ cond b (joined (marks_at names other) more) (marks_at names other)
    by true at = is ∙ ap (λ bytes. joined (marks_at names bytes) more) ((bytes_eq-Decides name other).0 at)
    by false at = refl

-- what is put at one name, as what is joined at each
put_joined : (b : Bool) (old more marks : Marks) → cond b more no_marks ≡ marks → cond b (joined old more) old ≡ joined old marks
put_joined true old more marks is = ap (joined old) is
put_joined false old more marks is = joined_none old ∙ ap (joined old) is

-- the name of a rule
pub name_noted : (rule : KeptRule) (bytes name : List ℕ) (old more : Marks) → bytes ≡ string_bytes rule.name
    → more ≡ record { is_rule = not rule.is_exception; is_parent = false; is_exception = rule.is_exception; is_inner = false }
    → cond (bytes_eq bytes name) (joined old more) old ≡ joined old (name_marks name rule)
name_noted rule bytes name old more same is =
    put_joined (bytes_eq bytes name) old more (name_marks name rule)
    (ap (λ m. cond (bytes_eq bytes name) m no_marks) is ∙ by (bytes_eq bytes name) rule.is_exception ∙ ap (λ bs. record { is_rule = not rule.is_exception && bytes_eq bs name; is_parent = false; is_exception = rule.is_exception && bytes_eq bs name; is_inner = false }) same)
  where
    by : (b e : Bool) → ◌≡◌ {A = Marks} (cond b (record { is_rule = not e; is_parent = false; is_exception = e; is_inner = false }) no_marks) (record { is_rule = not e && b; is_parent = false; is_exception = e && b; is_inner = false })
    by true true = refl
    by true false = refl
    by false true = refl
    by false false = refl

-- what stands behind a `*.`
pub parent_noted : (rule : KeptRule) (parent name : List ℕ) (old : Marks) → is_parent_named name rule ≡ bytes_eq parent name
    → cond (bytes_eq parent name) (joined old (record no_marks { is_parent = true })) old ≡ joined old (parent_marks name rule)
parent_noted rule parent name old is =
    put_joined (bytes_eq parent name) old (record no_marks { is_parent = true }) (parent_marks name rule)
    (by (bytes_eq parent name) ∙ ap (λ b. record no_marks { is_parent = b }) (sym is))
  where
    by : (b : Bool) → ◌≡◌ {A = Marks} (cond b (record no_marks { is_parent = true }) no_marks) (record no_marks { is_parent = b })
    by true = refl
    by false = refl

pub parent_absent : (rule : KeptRule) (name : List ℕ) (old : Marks) → is_parent_named name rule ≡ false → old ≡ joined old (parent_marks name rule)
parent_absent rule name old is = joined_none old ∙ ap (λ b. joined old (record no_marks { is_parent = b })) (sym is)

-- a name is `*.` and another where its first label is `*` and the rest are the other's
pub starred_name : (name label : List ℕ) (behind : List (List ℕ)) (parent : List ℕ) → labels_of name ≡ label ∷ behind
    → bytes_eq name (codes "*." ++ parent) ≡ (bytes_eq label (codes "*") && pointwise bytes_eq behind (labels_of parent))
starred_name name label behind parent same = sym (labels_eq name (codes "*." ++ parent)) ∙ ap (λ ls. pointwise bytes_eq ls (codes "*" ∷ labels_of parent)) same

pub starred_none : (parent : List ℕ) (star : Bool) → (star && pointwise bytes_eq [] (labels_of parent)) ≡ false
starred_none parent false = refl
starred_none parent true = no_labels (labels_of parent) (some_label parent)
  where
    no_labels : (labels : List (List ℕ)) → 0 < length labels → pointwise bytes_eq [] labels ≡ false
    no_labels [] some = absurd (omega arith)
    no_labels (label ∷ labels) some = refl

-- a name that is marked as inner is so with the mark again
pub inner_again : (names : Names) (name other : List ℕ) → (marks_at names name).is_inner ≡ true
    → marks_at names other ≡ cond (bytes_eq name other) (joined (marks_at names other) inner_marks) (marks_at names other)
inner_again names name other is = by (bytes_eq name other) refl
  where
    again : (marks : Marks) → marks.is_inner ≡ true → marks ≡ joined marks inner_marks
    again marks is = λ i. record {
      is_rule = or_false marks.is_rule i;
      is_parent = or_false marks.is_parent i;
      is_exception = or_false marks.is_exception i;
      is_inner = (is ∙ sym (or_right marks.is_inner true refl)) i;
    }

    by : (b : Bool) → bytes_eq name other ≡ b → marks_at names other ≡ cond b (joined (marks_at names other) inner_marks) (marks_at names other)
    by true at = again (marks_at names other) (ap (λ bytes. (marks_at names bytes).is_inner) (sym ((bytes_eq-Decides name other).0 at)) ∙ is)
    by false at = refl

-- what stands behind the first label of a name, and what stands behind the later ones
pub behind_noted : (name label more other : List ℕ) (old mid new : Marks) → labels_of name ≡ label ∷ labels_of more
    → mid ≡ cond (bytes_eq more other) (joined old inner_marks) old → new ≡ joined mid (marks_behind other more) → new ≡ joined old (marks_behind other name)
behind_noted name label more other old mid new split first later =
    later ∙ ap (λ m. joined m (marks_behind other more)) first
    ∙ by (bytes_eq more other) (is_behind (labels_of other) (labels_of more))
    ∙ ap (λ b. joined old (record no_marks { is_inner = b || is_behind (labels_of other) (labels_of more) })) (sym (labels_eq more other))
    ∙ ap (λ ls. joined old (record no_marks { is_inner = is_behind (labels_of other) ls })) (sym split)
  where
    three : (a c : Bool) → ((a || true) || c) ≡ (a || true)
    three true c = refl
    three false c = refl

    by : (b c : Bool) → joined (cond b (joined old inner_marks) old) (record no_marks { is_inner = c }) ≡ joined old (record no_marks { is_inner = b || c })
    by true c = λ i. record {
      is_rule = sym (or_false (old.is_rule || false)) i;
      is_parent = sym (or_false (old.is_parent || false)) i;
      is_exception = sym (or_false (old.is_exception || false)) i;
      is_inner = three old.is_inner c i;
    }
    by false c = refl

-- nothing stands behind a single label
pub behind_none : (name label other : List ℕ) (old : Marks) → labels_of name ≡ label ∷ [] → old ≡ joined old (marks_behind other name)
behind_none name label other old whole =
    joined_none old
    ∙ ap (λ b. joined old (record no_marks { is_inner = b })) (sym (ap (is_behind (labels_of other)) whole ∙ ap (λ b. b || false) (starred_none other true)))

-- one more rule in the list and in the marks
pub marks_more : (kept more : List KeptRule) (rule : KeptRule) (name : List ℕ) (was mid next now : Marks) → more ≡ kept ++ (rule ∷ []) → was ≡ marks_among kept name
    → mid ≡ joined was (name_marks name rule) → next ≡ joined mid (parent_marks name rule) → now ≡ joined next (end_marks name rule) → now ≡ marks_among more name
marks_more kept more rule name was mid next now is before named behind ended =
    ended ∙ ap (λ m. joined m (end_marks name rule)) (behind ∙ ap (λ m. joined m (parent_marks name rule)) (named ∙ ap (λ m. joined m (name_marks name rule)) before))
    ∙ (λ i. record {
      is_rule = any_first (list_any (is_named name) kept) (is_named name rule) i;
      is_parent = any_second (list_any (is_parent_named name) kept) (is_parent_named name rule) i;
      is_exception = any_first (list_any (is_exception_named name) kept) (is_exception_named name rule) i;
      is_inner = any_third (list_any (is_inner_of name) kept) (is_inner_of name rule) i;
    })
    ∙ (λ i. record {
      is_rule = sym (list_any-append (is_named name) kept (rule ∷ [])) i;
      is_parent = sym (list_any-append (is_parent_named name) kept (rule ∷ [])) i;
      is_exception = sym (list_any-append (is_exception_named name) kept (rule ∷ [])) i;
      is_inner = sym (list_any-append (is_inner_of name) kept (rule ∷ [])) i;
    })
    ∙ ap (λ rules. marks_among rules name) (sym is)
  where
    any_first : (a b : Bool) → (((a || b) || false) || false) ≡ (a || (b || false))
    any_first true b = refl
    any_first false true = refl
    any_first false false = refl

    any_second : (a b : Bool) → (((a || false) || b) || false) ≡ (a || (b || false))
    any_second true b = refl
    any_second false b = refl

    any_third : (a b : Bool) → (((a || false) || false) || b) ≡ (a || (b || false))
    any_third true b = refl
    any_third false true = refl
    any_third false false = refl

pub rules_more : (kept more : List KeptRule) (rule : KeptRule) → more ≡ kept ++ (rule ∷ []) → list_all (λ r. is_rule (plain_rule r)) kept ≡ true → is_rule (plain_rule rule) ≡ true → list_all (λ r. is_rule (plain_rule r)) more ≡ true
rules_more kept more rule is before here =
    ap (list_all (λ r. is_rule (plain_rule r))) is ∙ list_all-append (λ r. is_rule (plain_rule r)) kept (rule ∷ [])
    ∙ ap (λ b. b && (is_rule (plain_rule rule) && true)) before ∙ ap (λ b. b && true) here
