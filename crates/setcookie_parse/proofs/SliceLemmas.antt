-- Each text of an answer stands in the text that was read.
use Rattle.std.proofs.Common.{◌≡◌, ℕ, ◌+◌, ◌-◌, Bool, true, false, List, [], ◌∷◌, ◌++◌, length, take, drop, Option, Some, None, IfSome, if◌then◌else◌, refl, subst, ap, ◌∙◌, sym, append_assoc}
use Rattle.std.specs.Prelude.{⊤, ℤ, ◌==◌, nat_lt}
use Rattle.std.specs.List.{list_any, before_first, after_first, slice_split, slice_index, join_with_byte, prefix_len, suffix_len}
use Rattle.std.specs.Option.{option_or, option_and_then}
use Rattle.std.proofs.lemmas.List.{take-append-drop, append-nil}
use Rattle.std.proofs.lemmas.List.Splits.{join_with_byte-slice_split}
use Rattle.setcookie_parse.specs.declared.attribute.Kind.{Kind}
use Rattle.setcookie_parse.specs.declared.attribute.Kind.TheVariants.{Domain, Path}
use Rattle.setcookie_parse.specs.declared.cookie.DropCause.TheVariants.{TooLong, Empty}
use Rattle.setcookie_parse.specs.SetCookie.{IsSliceOf, AreSlices, CookieText, Parsed, cookie_of, Kept, Dropped, trimmed, is_blank, is_equals, is_semicolon, name_of, value_of, attribute_value, kind_of, last_of, domain_of, path_of, domain_in, path_in, without_dot, answer_of}

append_nothing : (xs : List ℕ) → xs ≡ xs ++ []
append_nothing xs = sym (append-nil xs)

itself : (text : List ℕ) → IsSliceOf text text
itself text = ([], [], append_nothing text)

nothing : (text : List ℕ) → IsSliceOf text []
nothing text = ([], text, refl)

-- a slice of a slice
within : (whole middle part : List ℕ) → IsSliceOf whole middle → IsSliceOf middle part → IsSliceOf whole part
within whole middle part outer inner = (
  outer.0 ++ inner.0,
  inner.1 ++ outer.1,
  outer.2 ∙ ap (λ m. outer.0 ++ (m ++ outer.1)) inner.2 ∙ simp append_assoc,
)

of_take : (n : ℕ) (text : List ℕ) → IsSliceOf text (take n text)
of_take n text = ([], drop n text, sym (take-append-drop n text))

of_drop : (n : ℕ) (text : List ℕ) → IsSliceOf text (drop n text)
of_drop n text = (take n text, [], sym (take-append-drop n text) ∙ ap (λ rest. take n text ++ rest) (append_nothing (drop n text)))

of_trimmed : (text : List ℕ) → IsSliceOf text (trimmed text)
of_trimmed text =
    let rest = drop (prefix_len is_blank text) text in
    within text rest (trimmed text) (of_drop (prefix_len is_blank text) text) (of_take (length rest - suffix_len is_blank rest) rest)

chosen : (text a b : List ℕ) (test : Bool) → IsSliceOf text a → IsSliceOf text b → IsSliceOf text (if test then a else b)
chosen text a b true first second = first
chosen text a b false first second = second

of_name : (pair : List ℕ) → IsSliceOf pair (name_of pair)
of_name pair =
    let front = before_first is_equals pair in
    chosen pair (trimmed front) [] (list_any is_equals pair)
    (within pair front (trimmed front) (of_take _ pair) (of_trimmed front)) (nothing pair)

of_value : (pair : List ℕ) → IsSliceOf pair (value_of pair)
of_value pair =
    let back = after_first is_equals pair in
    chosen pair (trimmed back) (trimmed pair) (list_any is_equals pair)
    (within pair back (trimmed back) (of_drop _ pair) (of_trimmed back)) (of_trimmed pair)

of_attribute : (piece : List ℕ) → IsSliceOf piece (attribute_value piece)
of_attribute piece =
    let back = after_first is_equals piece in
    within piece back (trimmed back) (of_drop _ piece) (of_trimmed back)

-- each of some pieces is a slice of the text
abbrev AllSlices : List ℕ → List (List ℕ) → Type 0
AllSlices text [] = ⊤
AllSlices text (piece ∷ pieces) = IsSliceOf text piece × AllSlices text pieces

all_within : (whole middle : List ℕ) (pieces : List (List ℕ)) → IsSliceOf whole middle → AllSlices middle pieces → AllSlices whole pieces
all_within whole middle [] outer all = tt
all_within whole middle (piece ∷ pieces) outer all = (within whole middle piece outer all.0, all_within whole middle pieces outer all.1)

-- the pieces that are joined stand in the whole
of_joined : (b : ℕ) (pieces : List (List ℕ)) → AllSlices (join_with_byte b pieces) pieces
of_joined b [] = tt
of_joined b (x ∷ []) = (itself x, tt)
of_joined b (x ∷ y ∷ xs) =
    let rest = join_with_byte b (y ∷ xs) in
    let whole = x ++ (b ∷ rest) in
    let back : whole ≡ (x ++ b ∷ []) ++ (rest ++ []) =
    ap (λ r. x ++ (b ∷ r)) (append_nothing rest) ∙ sym (append_assoc x (b ∷ []) (rest ++ [])) in (
      ([], b ∷ rest, refl),
      all_within whole rest (y ∷ xs) (x ++ b ∷ [], [], back) (of_joined b (y ∷ xs)),
    )

-- the pieces of a text stand in it
of_pieces : (text : List ℕ) → AllSlices text (slice_split is_semicolon text)
of_pieces text =
    let whole = join_with_byte-slice_split 59 text in
    subst (λ all. AllSlices all (slice_split is_semicolon text)) whole (of_joined 59 (slice_split is_semicolon text))

-- what is said of a piece stands in its value
abbrev SaysSlice : (Option Kind → List ℕ → Option (List ℕ)) → Type 0
SaysSlice said = (kind : Option Kind) (value : List ℕ) → IfSome (said kind value) (IsSliceOf value)

either : (text : List ℕ) (a b : Option (List ℕ)) → IfSome a (IsSliceOf text) → IfSome b (IsSliceOf text)
    → IfSome (option_or a b) (IsSliceOf text)
either text None b first second = second
either text (Some x) b first second = first

outwards : (text value : List ℕ) (said : Option (List ℕ)) → IsSliceOf text value → IfSome said (IsSliceOf value) → IfSome said (IsSliceOf text)
outwards text value None outer inner = tt
outwards text value (Some x) outer inner = within text value x outer inner

of_last : (text : List ℕ) (said : Option Kind → List ℕ → Option (List ℕ)) → SaysSlice said
    → (pieces : List (List ℕ)) → AllSlices text pieces → IfSome (last_of said pieces) (IsSliceOf text)
of_last text said says [] all = tt
of_last text said says (piece ∷ pieces) all =
    either text (last_of said pieces) (said (kind_of piece) (attribute_value piece))
    (of_last text said says pieces all.1)
    (outwards text (attribute_value piece) (said (kind_of piece) (attribute_value piece))
    (within text piece (attribute_value piece) all.0 (of_attribute piece))
    (says (kind_of piece) (attribute_value piece)))

domain_says : SaysSlice domain_of
domain_says (Some Domain) value = itself value
domain_says _ value = tt

path_says : SaysSlice path_of
path_says (Some Path) value = itself value
path_says _ value = tt

some_chosen : (text a : List ℕ) (test : Bool) → IsSliceOf text a → IfSome (if test then Some a else None) (IsSliceOf text)
some_chosen text a true slice = slice
some_chosen text a false slice = tt

of_domain : (text : List ℕ) (said : Option (List ℕ)) → IfSome said (IsSliceOf text) → IfSome (option_and_then domain_in said) (IsSliceOf text)
of_domain text None slice = tt
of_domain text (Some value) slice =
    let rest = without_dot value in
    some_chosen text rest (nat_lt 0 (length rest))
    (within text value rest slice (chosen value (drop 1 value) value (slice_index value 0 == 46) (of_drop 1 value) (itself value)))

of_path : (text : List ℕ) (said : Option (List ℕ)) → IfSome said (IsSliceOf text) → IfSome (option_and_then path_in said) (IsSliceOf text)
of_path text None slice = tt
of_path text (Some value) slice = some_chosen text value (slice_index value 0 == 47) slice

kept_or_dropped : (text : List ℕ) (long none : Bool) (cookie : CookieText) → AreSlices text (Kept cookie)
    → AreSlices text (if long then Dropped TooLong else (if none then Dropped Empty else Kept cookie))
kept_or_dropped text true none cookie slices = tt
kept_or_dropped text false true cookie slices = tt
kept_or_dropped text false false cookie slices = slices

of_answer : (text pair : List ℕ) (pieces : List (List ℕ)) (now : ℤ) → IsSliceOf text pair → AllSlices text pieces
    → AreSlices text (answer_of pair pieces now)
of_answer text pair pieces now first all =
    let octets = length (name_of pair) + length (value_of pair) in
    kept_or_dropped text (nat_lt 4096 octets) (octets == 0) (cookie_of pair pieces now) (
      within text pair (name_of pair) first (of_name pair),
      within text pair (value_of pair) first (of_value pair),
      of_domain text (last_of domain_of pieces) (of_last text domain_of domain_says pieces all),
      of_path text (last_of path_of pieces) (of_last text path_of path_says pieces all),
    )

-- the texts of an answer to a text that is divided at its first semicolon
pub of_divided : (text pair : List ℕ) (pieces : List (List ℕ)) (now : ℤ) (answer : Parsed)
    → slice_split is_semicolon text ≡ pair ∷ pieces → answer ≡ answer_of pair pieces now → AreSlices text answer
of_divided text pair pieces now answer split same =
    let all : AllSlices text (pair ∷ pieces) = subst (AllSlices text) split (of_pieces text) in
    subst (AreSlices text) (sym same) (of_answer text pair pieces now all.0 all.1)
