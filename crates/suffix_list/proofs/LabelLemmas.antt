-- The labels of a name: its first label and the rest, and its last labels.
use Rattle.std.proofs.Common.{◌≡◌, ◌==◌, ℕ, suc, ◌+◌, ◌-◌, ◌<◌, ◌≤◌, inr, List, [], ◌∷◌, ◌++◌, length, get_or, take, drop, Some, None, refl, ap, ◌∙◌, sym, arith, All, false, drop-drop, length-drop}
use Rattle.std.proofs.lemmas.Grind.{common_steps}
use Rattle.memchr.specs.Find.{IsFirstByte, IsLastByte}
use Rattle.std.specs.List.{join_with_byte}
use Rattle.std.proofs.lemmas.Bool.{ne_eqb, eq-eqb, eqb-true}
use Rattle.std.proofs.lemmas.List.{drop_all, get_or-drop}
use Rattle.std.proofs.lemmas.List.Elements.{All-from_get_or}
use Rattle.std.proofs.lemmas.List.Splits.{slice_split_at, slice_split_none, join_with_byte-slice_split, length-slice_split}
use Rattle.suffix_list.specs.Suffix.{labels_of, last_of, last_labels}
use Rattle.suffix_list.specs.Names.{BeginsLabel}

-- the first dot ends the first label
pub labels_of-dotted : (name : List ℕ) (dot : ℕ) → IsFirstByte (λ b. b == 46) name (Some dot) → labels_of name ≡ take dot name ∷ labels_of (drop (dot + 1) name)
labels_of-dotted name dot first =
    let inside = first.0.high in
    let is : get_or name dot 0 ≡ 46 = eqb-true (get_or name dot 0) 46 first.1 in
    let whole : name ≡ take dot name ++ 46 ∷ drop (dot + 1) name = grind (arith, common_steps) in
    let free : All (λ b. (b == 46) ≡ false) (take dot name) = All-from_get_or (λ b. (b == 46) ≡ false) (take dot name) 0
    (λ k below. let before : k < dot = grind (arith, common_steps) in
    let same : get_or (take dot name) k 0 ≡ get_or name k 0 = grind (arith, common_steps) in
    rw same (ne_eqb (get_or name k 0) 46 (λ e. first.0.before k (omega arith) before (eq-eqb _ 46 e)))) in
    ap labels_of whole ∙ slice_split_at (λ b. b == 46) (take dot name) 46 (drop (dot + 1) name) free refl

-- a name without a dot is one label
pub labels_of-whole : (name : List ℕ) → IsFirstByte (λ b. b == 46) name None → labels_of name ≡ name ∷ []
labels_of-whole name none = slice_split_none (λ b. b == 46) name
    (All-from_get_or (λ b. (b == 46) ≡ false) name 0 (λ k inside. ne_eqb (get_or name k 0) 46 (λ e. none k (omega arith) inside (eq-eqb _ 46 e))))

-- what stands behind the last dot is one label
pub last_label : (name : List ℕ) (dot : ℕ) → IsLastByte (λ b. b == 46) name (Some dot) → labels_of (drop (dot + 1) name) ≡ drop (dot + 1) name ∷ []
last_label name dot last = slice_split_none (λ b. b == 46) (drop (dot + 1) name)
    (All-from_get_or (λ b. (b == 46) ≡ false) (drop (dot + 1) name) 0
    (λ k inside.
    rw (get_or-drop (dot + 1) name k 0)
    (ne_eqb (get_or name (dot + 1 + k) 0) 46 (λ e. last.0.after (dot + 1 + k) (omega arith) (omega (arith, inside, length-drop (dot + 1) name)) (eq-eqb _ 46 e)))))

-- the last dot before a place ends what stands before a label
pub last_begins : (name : List ℕ) (end dot : ℕ) → IsLastByte (λ b. b == 46) (take end name) (Some dot) → BeginsLabel name (dot + 1)
last_begins name end dot last =
    let inside : dot < length (take end name) = last.0.high in
    let is : get_or (take end name) dot 0 ≡ 46 = eqb-true (get_or (take end name) dot 0) 46 last.1 in
    let within : dot < length name = grind (arith, common_steps) in
    let same : get_or name dot 0 ≡ 46 = grind (arith, common_steps) in
    inr (dot, refl, within, same)

-- the labels give the name back
pub join_labels : (name : List ℕ) → join_with_byte 46 (labels_of name) ≡ name
join_labels name = join_with_byte-slice_split 46 name

-- there is a label
pub some_label : (name : List ℕ) → 0 < length (labels_of name)
some_label name = omega (arith, length-slice_split (λ b. b == 46) name)

-- where there are no more labels than are asked for, the last labels are the name
pub last_labels_all : (count : ℕ) (name : List ℕ) → length (labels_of name) ≤ count → last_labels count name ≡ name
last_labels_all count name few =
    let none : length (labels_of name) - count ≡ 0 = omega arith in
    ap (λ n. join_with_byte 46 (drop n (labels_of name))) none ∙ join_labels name

-- where more labels are left than are asked for, the first one does not count
pub last_of_more : (count : ℕ) (label : List ℕ) (labels : List (List ℕ)) → count ≤ length labels → last_of count (label ∷ labels) ≡ last_of count labels
last_of_more count label labels few =
    let more : suc (length labels) - count ≡ suc (length labels - count) = omega arith in
    ap (λ n. drop n (label ∷ labels)) more

-- where as many are asked for as there are, they are all
pub last_of_all : (count : ℕ) (labels : List (List ℕ)) → length labels ≤ count → last_of count labels ≡ labels
last_of_all count labels few =
    let none : length labels - count ≡ 0 = omega arith in
    ap (λ n. drop n labels) none

pub last_of_rest : (count : ℕ) (name label rest : List ℕ) → labels_of name ≡ label ∷ labels_of rest → count < length (labels_of name) → last_of count (labels_of rest) ≡ last_of count (labels_of name)
last_of_rest count name label rest same many =
    let longer : length (labels_of name) ≡ suc (length (labels_of rest)) = ap length same in
    let few : count ≤ length (labels_of rest) = omega arith in
    sym (ap (last_of count) same ∙ last_of_more count label (labels_of rest) few)

-- behind a label that is left are the labels from the next place on
pub behind_next : (place : ℕ) (labels : List (List ℕ)) (label : List ℕ) (rest : List (List ℕ)) → drop place labels ≡ label ∷ rest → drop (place + 1) labels ≡ rest
behind_next place labels label rest is = sym (drop-drop 1 place labels) ∙ ap (drop 1) is

-- behind the last label that is left is none
pub behind_last : (place from : ℕ) (labels : List (List ℕ)) (label : List ℕ) → drop place labels ≡ label ∷ [] → place < from → drop from labels ≡ []
behind_last place from labels label is above = drop_all from labels (omega (arith, ap length is, length-drop place labels))
