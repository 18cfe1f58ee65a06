-- The public suffix and the registrable domain of a host, over all the rules of a list.
-- Source: Public Suffix List, "Formal Algorithm", whose steps are numbered here.
-- A host is the bytes of an ASCII name, and a label is the bytes between two dots.
-- Our own choice: a host is divided at every dot, so a label may be empty. Of several matching
-- exceptions, on which the list says nothing, the one with most labels prevails.
use Rattle.std.specs.Prelude.{ℕ, ◌+◌, ◌-◌, max, Bool, ◌==◌, ◌||◌, if◌then◌else◌, List, length, map, filter, fold, drop, codes, bytes_eq, Option, Some, None, unwrap_or}
use Rattle.std.specs.List.{list_any, join_with_byte, slice_split}
use Rattle.std.specs.Cmp.Lexicographic.{pointwise}
use Rattle.std.specs.Str.{byte}

-- a rule: whether it begins with `!`, and its labels, leftmost first
pub record Rule : Type 0 where
  pub is_exception : Bool
  pub labels : List (List ℕ)

-- the parts of a name between its dots
abbrev pub labels_of : List ℕ → List (List ℕ)
labels_of name = slice_split (λ b. b == byte ".") name

-- the last of these labels, as many as asked for, or all where there are no more
abbrev pub last_of : ℕ → List (List ℕ) → List (List ℕ)
last_of count labels = drop (length labels - count) labels

-- the host's last labels, with the dots between them
abbrev pub last_labels : ℕ → List ℕ → List ℕ
last_labels count host = join_with_byte (byte ".") (last_of count (labels_of host))

-- a rule's label stands for one label of a host: `*` for any, another for itself
abbrev pub stands_for : List ℕ → List ℕ → Bool
stands_for pattern label = bytes_eq pattern (codes "*") || bytes_eq pattern label

-- the rule has as many labels as are given, and each stands for the one at its place
abbrev pub covers : List (List ℕ) → Rule → Bool
covers labels rule = pointwise stands_for rule.labels labels

-- 1: the rule's labels stand for the last of these labels
abbrev pub matches_labels : List (List ℕ) → Rule → Bool
matches_labels labels rule = covers (last_of (length rule.labels) labels) rule

-- 1: the rule matches the host
abbrev pub matches : List ℕ → Rule → Bool
matches host rule = matches_labels (labels_of host) rule

-- the number of labels of the longest of these rules, and 0 where there is none
abbrev pub most_labels : List Rule → ℕ
most_labels rules = fold max 0 (map (λ rule. length rule.labels) rules)

-- 2 to 5: the number of labels of the prevailing rule, from the matching ones. An exception goes
-- before the others and loses its leftmost label. Without a match the rule is `*`.
abbrev pub prevailing_labels : List Rule → ℕ
prevailing_labels matching =
    let exceptions = filter (λ rule. rule.is_exception) matching in
    if list_any (λ rule. rule.is_exception) matching then most_labels exceptions - 1
    else max 1 (most_labels matching)

-- 6: how many of the host's last labels are its public suffix
abbrev pub suffix_labels : List Rule → List ℕ → ℕ
suffix_labels rules host = prevailing_labels (filter (matches host) rules)

-- 6: the host's last labels, as many as the prevailing rule has
abbrev pub public_suffix : List Rule → List ℕ → List ℕ
public_suffix rules host = last_labels (suffix_labels rules host) host

-- whether a name is its own public suffix
abbrev pub is_public_suffix : List Rule → List ℕ → Bool
is_public_suffix rules name = bytes_eq (public_suffix rules name) name

-- 7: the public suffix and one label more, and none where the host is its own public suffix
abbrev pub registrable_domain : List Rule → List ℕ → Option (List ℕ)
registrable_domain rules host =
    if is_public_suffix rules host then None
    else Some (last_labels (suffix_labels rules host + 1) host)

-- the registrable domain, or the host itself where there is none
abbrev pub domain : List Rule → List ℕ → List ℕ
domain rules host = unwrap_or (registrable_domain rules host) host
