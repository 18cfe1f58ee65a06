-- The kind of a piece, by its name and its value.
use Rattle.std.proofs.Common.{◌≡◌, ℕ, ◌≤◌, false, nat_lt, List, length, Option, None, if◌then◌else◌, ap, ◌∙◌, sym, arith}
use Rattle.std.proofs.lemmas.Bool.Decides.{nat_tests}
use Rattle.case_tables.specs.Rows.{first_value, same_in_any_case}
use Rattle.setcookie_parse.specs.declared.attribute.Kind.{Kind}
use Rattle.setcookie_parse.specs.SetCookie.{attribute_name, attribute_value, kinds, kind_of}

short_enough : {A : Type 0} (length limit : ℕ) (found : Option A) → length ≤ limit
    → found ≡ (if nat_lt limit length then None else found)
short_enough {A} length limit found short =
    let test : nat_lt limit length ≡ false = grind (arith, nat_tests) in
    sym (ap (λ b. if b then None else found) test)

pub kind_is : (piece name value : List ℕ) (found : Option Kind) → name ≡ attribute_name piece → value ≡ attribute_value piece
    → length value ≤ 1024 → found ≡ first_value (λ other. same_in_any_case other name) kinds → found ≡ kind_of piece
kind_is piece name value found named valued short kind =
    let few : length (attribute_value piece) ≤ 1024 = omega (arith, ap length valued) in
    kind ∙ ap (λ n. first_value (λ other. same_in_any_case other n) kinds) named
    ∙ short_enough (length (attribute_value piece)) 1024 (first_value (λ other. same_in_any_case other (attribute_name piece)) kinds) few
