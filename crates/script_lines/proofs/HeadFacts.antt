-- Heads of lines, so that a wrong rule in the specs does not check.
use Rattle.std.proofs.Common.{◌≡◌, refl, ap, length, List, ℕ, [], ◌∷◌, Option, Some, None, Result, Ok, Err, option_map}
use Rattle.std.specs.Prelude.{codes, nat_le}
use Rattle.std.proofs.lemmas.Bool.{cond-true, cond-false}
use Rattle.serde_json.proofs.OnLiterals.{serde_json_on_literals}
use Rattle.serde_json.specs.Read.{read}
use Rattle.script_lines.specs.Script.{PlainFault, BadField, BadHeader}
use Rattle.script_actions.specs.Action.{HeadField}
use Rattle.script_lines.specs.Fields.{field_of, defaulted, head_list}
use Rattle.script_lines.specs.Heads.{few}
use Rattle.script_lines.specs.Items.{each_of}

-- what the member `a` of a line is as a head
abbrev head : List ℕ → Option (Result (List HeadField) PlainFault)
head line = option_map (field_of 1 (defaulted (codes "a") head_list [])) (read line)

abbrev bad : Option (Result (List HeadField) PlainFault)
bad = Some (Err (BadField 1 (codes "a")))

abbrev bad_header : Option (Result (List HeadField) PlainFault)
bad_header = Some (Err (BadHeader 1))

abbrev field : List ℕ → List ℕ → HeadField
field name value = record { name = name; value = value }

absent : head (codes "{}") ≡ Some (Ok [])
unfolding serde_json_on_literals
absent = refl

no_field : head (codes "{\"a\":[]}") ≡ Some (Ok [])
unfolding serde_json_on_literals each_of
no_field = refl

-- a name is kept in its own case, and one name may stand twice
two_fields : head (codes "{\"a\":[[\"Set-Cookie\",\"a=b\"],[\"Set-Cookie\",\"\"]]}") ≡ Some (Ok (field (codes "Set-Cookie") (codes "a=b") ∷ field (codes "Set-Cookie") [] ∷ []))
unfolding serde_json_on_literals each_of
two_fields = refl

-- a value may have a tab and a control character
value_of_controls : head (codes "{\"a\":[[\"!\",\"\\t\\u0001\"]]}") ≡ Some (Ok (field (codes "!") (9 ∷ 1 ∷ []) ∷ []))
unfolding serde_json_on_literals each_of
value_of_controls = refl

no_list : head (codes "{\"a\":{\"b\":\"c\"}}") ≡ bad
unfolding serde_json_on_literals
no_list = refl

null_head : head (codes "{\"a\":null}") ≡ bad
unfolding serde_json_on_literals
null_head = refl

texts : head (codes "{\"a\":[\"b\",\"c\"]}") ≡ bad
unfolding serde_json_on_literals each_of
texts = refl

pair_of_none : head (codes "{\"a\":[[]]}") ≡ bad
unfolding serde_json_on_literals each_of
pair_of_none = refl

pair_of_one : head (codes "{\"a\":[[\"b\"]]}") ≡ bad
unfolding serde_json_on_literals each_of
pair_of_one = refl

pair_of_three : head (codes "{\"a\":[[\"b\",\"c\",\"d\"]]}") ≡ bad
unfolding serde_json_on_literals each_of
pair_of_three = refl

name_is_no_text : head (codes "{\"a\":[[1,\"c\"]]}") ≡ bad
unfolding serde_json_on_literals each_of
name_is_no_text = refl

value_is_no_text : head (codes "{\"a\":[[\"b\",null]]}") ≡ bad
unfolding serde_json_on_literals each_of
value_is_no_text = refl

name_of_no_letter : head (codes "{\"a\":[[\"\",\"c\"]]}") ≡ bad_header
unfolding serde_json_on_literals each_of
name_of_no_letter = refl

name_with_a_space : head (codes "{\"a\":[[\"b\",\"c\"],[\"b c\",\"d\"]]}") ≡ bad_header
unfolding serde_json_on_literals each_of
name_with_a_space = refl

value_with_a_nul : head (codes "{\"a\":[[\"b\",\"c\\u0000\"]]}") ≡ bad_header
unfolding serde_json_on_literals each_of
value_with_a_nul = refl

value_with_a_line_feed : head (codes "{\"a\":[[\"b\",\"\\nc\"]]}") ≡ bad_header
unfolding serde_json_on_literals each_of
value_with_a_line_feed = refl

value_with_a_return : head (codes "{\"a\":[[\"b\",\"\\r\"]]}") ≡ bad_header
unfolding serde_json_on_literals each_of
value_with_a_return = refl

-- the form of the whole head comes before each name and value
form_first : head (codes "{\"a\":[[\"b c\",\"\\n\"],[\"d\"]]}") ≡ bad
unfolding serde_json_on_literals each_of
form_first = refl

-- at the limit of fields, and one past it
head_of_64 : (fields : List HeadField) → length fields ≡ 64 → few fields ≡ Some fields
head_of_64 fields many = cond-true _ _ _ (ap (λ n. nat_le n 64) many)

head_of_65 : (fields : List HeadField) → length fields ≡ 65 → few fields ≡ None
head_of_65 fields many = cond-false _ _ _ (ap (λ n. nat_le n 64) many)
