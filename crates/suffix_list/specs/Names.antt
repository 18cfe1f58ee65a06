-- The names of the rules of a list, with their marks, and what the look-up finds by them.
-- Only private functions see it.
use Rattle.std.specs.Prelude.{ℕ, ◌+◌, ◌≡◌, ◌<◌, ◌⊎◌, Bool, true, false, not, ◌&&◌, ◌||◌, if◌then◌else◌}
use Rattle.std.specs.Prelude.{List, [], ◌∷◌, ◌++◌, length, get_or, codes, bytes_eq, String, string_bytes}
use Rattle.std.specs.Prelude.{Option, Some, None, unwrap_or}
use Rattle.std.specs.List.{list_all, list_any}
use Rattle.std.specs.Cmp.Lexicographic.{pointwise}
use Rattle.std.specs.HashMap.{HashMap, get_by_text}
use Rattle.std.specs.Str.{byte}
use Rattle.std.specs.declared.alloc.Global.{Global}
use Rattle.std.specs.declared.hash.BuildHasherDefault.{BuildHasherDefault}
use Rattle.std.specs.declared.hash.FoldHasher.{FoldHasher}
use Rattle.suffix_list.specs.declared.marks.Marks.{Marks}
use Rattle.suffix_list.specs.declared.rules.KeptRule.{KeptRule}
use Rattle.suffix_list.specs.ListText.{is_rule}
use Rattle.suffix_list.specs.Suffix.{Rule, labels_of, last_of, last_labels, covers}

-- the last labels of a name and one more, and none where the last labels are the name
abbrev pub one_label_more : ℕ → List ℕ → Option (List ℕ)
one_label_more count name =
    if bytes_eq (last_labels count name) name then None else Some (last_labels (count + 1) name)

-- the labels of what follows a label, if anything does
abbrev pub labels_after : Option (List ℕ) → List (List ℕ)
labels_after None = []
labels_after (Some rest) = labels_of rest

-- a label of the name begins at a place: at its first byte, or behind a dot
abbrev pub BeginsLabel : List ℕ → ℕ → Type 0
BeginsLabel name start =
    (start ≡ 0)
    ⊎ ((dot : ℕ) × (start ≡ dot + 1) × (dot < length name) × (get_or name dot 0 ≡ byte "."))

-- a rule, from its name
abbrev pub plain_rule : KeptRule → Rule
plain_rule rule =
    record { is_exception = rule.is_exception; labels = labels_of (string_bytes rule.name) }

-- an exception of this name
abbrev pub is_exception_named : List ℕ → KeptRule → Bool
is_exception_named name rule = rule.is_exception && bytes_eq (string_bytes rule.name) name

-- a rule of this name that is no exception
abbrev pub is_named : List ℕ → KeptRule → Bool
is_named name rule = not rule.is_exception && bytes_eq (string_bytes rule.name) name

-- a rule `*.` and this name
abbrev pub is_parent_named : List ℕ → KeptRule → Bool
is_parent_named name rule =
    not rule.is_exception && bytes_eq (string_bytes rule.name) (codes "*." ++ name)

-- the most labels of a name that is marked as inner
abbrev pub inner_labels : ℕ
inner_labels = 8

-- labels that stand behind the first or a later one of these
abbrev pub is_behind : List (List ℕ) → List (List ℕ) → Bool
is_behind labels [] = false
is_behind labels (first ∷ later) = pointwise bytes_eq later labels || is_behind labels later

-- the name of a rule has more labels, and then this name, which has `inner_labels` at most
abbrev pub is_inner_of : List ℕ → KeptRule → Bool
is_inner_of name rule =
    is_behind (labels_of name) (last_of (inner_labels + 1) (labels_of (string_bytes rule.name)))

-- names with their marks
abbrev pub Names : Type 0
Names = HashMap (String Global) Marks (BuildHasherDefault FoldHasher)

-- the marks of a name that is none of a rule
abbrev pub no_marks : Marks
no_marks = record { is_rule = false; is_parent = false; is_exception = false; is_inner = false }

-- the marks of a name that other names end in
abbrev pub inner_marks : Marks
inner_marks = record no_marks { is_inner = true }

-- the marks of a name
abbrev pub marks_at : Names → List ℕ → Marks
marks_at names name = unwrap_or (get_by_text names name) no_marks

-- the marks of either
abbrev pub joined : Marks → Marks → Marks
joined a b = record {
  is_rule = a.is_rule || b.is_rule;
  is_parent = a.is_parent || b.is_parent;
  is_exception = a.is_exception || b.is_exception;
  is_inner = a.is_inner || b.is_inner;
}

-- what a name is by the name of a rule
abbrev pub name_marks : List ℕ → KeptRule → Marks
name_marks name rule = record {
  is_rule = is_named name rule;
  is_parent = false;
  is_exception = is_exception_named name rule;
  is_inner = false;
}

-- what a name is by what stands behind the `*.` of a rule
abbrev pub parent_marks : List ℕ → KeptRule → Marks
parent_marks name rule = record no_marks { is_parent = is_parent_named name rule }

-- what a name is by the labels of another
abbrev pub marks_behind : List ℕ → List ℕ → Marks
marks_behind name text =
    record no_marks { is_inner = is_behind (labels_of name) (labels_of text) }

-- what a name is by what stands behind the dots of a rule
abbrev pub end_marks : List ℕ → KeptRule → Marks
end_marks name rule = record no_marks { is_inner = is_inner_of name rule }

-- the marks are as before, joined with what the name is by this rule
abbrev pub Notes : (List ℕ → KeptRule → Marks) → Names → Names → KeptRule → Type 0
Notes marks old new rule =
    (name : List ℕ) → marks_at new name ≡ joined (marks_at old name) (marks name rule)

-- what a name is by all of these rules
abbrev pub marks_among : List KeptRule → List ℕ → Marks
marks_among kept name = record {
  is_rule = list_any (is_named name) kept;
  is_parent = list_any (is_parent_named name) kept;
  is_exception = list_any (is_exception_named name) kept;
  is_inner = list_any (is_inner_of name) kept;
}

-- the marks are those of these rules, which meet the conditions on rules
abbrev pub TellsOf : Names → List KeptRule → Type 0
TellsOf names kept = (list_all (λ rule. is_rule (plain_rule rule)) kept ≡ true)
    × ((name : List ℕ) → marks_at names name ≡ marks_among kept name)

-- the text is there, and is this name
abbrev pub is_text : Option (List ℕ) → List ℕ → Bool
is_text None name = false
is_text (Some text) name = bytes_eq text name

-- the number of labels of the longest of these rules that passes the test and matches the labels,
-- and 0 where there is none
abbrev pub longest : (Rule → Bool) → List Rule → List (List ℕ) → ℕ
longest test rules [] = 0
longest test rules (label ∷ labels) =
    if list_any (λ rule. test rule && covers (label ∷ labels) rule) rules
    then length (label ∷ labels)
    else longest test rules labels
