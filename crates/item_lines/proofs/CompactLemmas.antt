-- A value whose numbers have 64 bits is known by its compact text.
use Rattle.std.proofs.Common.{◌≡◌, ◌+◌, ◌<◌, pos, negsuc, List, [], Option, Some, None, refl, sym, ap, ap₂, ◌∙◌, append-nil, arith}
use Rattle.std.specs.Prelude.{unwrap_or}
use Rattle.json.specs.Token.{Token}
use Rattle.json.specs.Lex.{tokens}
use Rattle.json.specs.Json as json
use Rattle.json.specs.Json.{value}
use Rattle.json.specs.Print.{IsNumber}
use Rattle.json.specs.Tree.{json_tokens, depth, HasNumbers, ItemsHaveNumbers, MembersHaveNumbers}
use Rattle.json.proofs.Printed.Decimals.{IsNumber-decimal, IsNumber-signed_decimal}
use Rattle.json.proofs.Printed.Tokens.{tokens-print}
use Rattle.json.proofs.Printed.Trees.{value-json_tokens, ArePrintable-json_tokens}
use Rattle.serde_json.specs.Data.{Num, unsigned, negative, float, Data, null, boolean, number, string, array, object, Items, no_items, item, Members, no_members, member}
use Rattle.serde_json.specs.Read.{number_of}
use Rattle.serde_json.specs.Written.{compact_text, number_text, outline, items_outline, members_outline}
use Rattle.serde_json.proofs.Numbers.{number_of-decimal, number_of-negative}
use Rattle.serde_json.proofs.Texts.{print-outline}
use Rattle.item_lines.specs.Numbers.{IsShort, HasShortNumbers, ItemsHaveShortNumbers, MembersHaveShortNumbers}

number_is_one : (n : Num) → IsShort n → IsNumber (number_text n)
number_is_one (unsigned n) short = IsNumber-decimal n short
number_is_one (negative (pos n)) short = absurd short
number_is_one (negative (negsuc n)) short = IsNumber-signed_decimal (negsuc n) short
number_is_one (float x) short = absurd short

number_is_read : (n : Num) → IsShort n → number_of (number_text n) ≡ Some n
number_is_read (unsigned n) short = number_of-decimal n short
number_is_read (negative (pos n)) short = absurd short
number_is_read (negative (negsuc n)) short = number_of-negative n short
number_is_read (float x) short = absurd short

mutual
  has_numbers : (d : Data) → HasShortNumbers d → HasNumbers (outline d)
  has_numbers null short = tt
  has_numbers (boolean b) short = tt
  has_numbers (number n) short = number_is_one n short
  has_numbers (string s) short = tt
  has_numbers (array ds) short = items_have_numbers ds short
  has_numbers (object ms) short = members_have_numbers ms short

  items_have_numbers : (ds : Items) → ItemsHaveShortNumbers ds → ItemsHaveNumbers (items_outline ds)
  items_have_numbers no_items short = tt
  items_have_numbers (item d ds) short = (has_numbers d short.0, items_have_numbers ds short.1)

  members_have_numbers : (ms : Members) → MembersHaveShortNumbers ms → MembersHaveNumbers (members_outline ms)
  members_have_numbers no_members short = tt
  members_have_numbers (member k d ms) short = (has_numbers d short.0, members_have_numbers ms short.1)

-- the value that an outline is of
abbrev mutual
  data_of : json.Json → Data
  data_of json.null = null
  data_of (json.boolean b) = boolean b
  data_of (json.number s) = number (unwrap_or (number_of s) (unsigned 0))
  data_of (json.string s) = string s
  data_of (json.array js) = array (items_in js)
  data_of (json.object ms) = object (members_in ms)

  items_in : json.Items → Items
  items_in json.no_items = no_items
  items_in (json.item j js) = item (data_of j) (items_in js)

  members_in : json.Members → Members
  members_in json.no_members = no_members
  members_in (json.member k j ms) = member k (data_of j) (members_in ms)

mutual
  data_is_read : (d : Data) → HasShortNumbers d → data_of (outline d) ≡ d
  data_is_read null short = refl
  data_is_read (boolean b) short = refl
  data_is_read (number n) short = ap (λ o. number (unwrap_or o (unsigned 0))) (number_is_read n short)
  data_is_read (string s) short = refl
  data_is_read (array ds) short = ap array (items_are_read ds short)
  data_is_read (object ms) short = ap object (members_are_read ms short)

  items_are_read : (ds : Items) → ItemsHaveShortNumbers ds → items_in (items_outline ds) ≡ ds
  items_are_read no_items short = refl
  items_are_read (item d ds) short = ap₂ item (data_is_read d short.0) (items_are_read ds short.1)

  members_are_read : (ms : Members) → MembersHaveShortNumbers ms → members_in (members_outline ms) ≡ ms
  members_are_read no_members short = refl
  members_are_read (member k d ms) short = ap₂ (member k) (data_is_read d short.0) (members_are_read ms short.1)

-- what was read, or null
abbrev read_or_null : Option (json.Json × List Token) → json.Json
read_or_null None = json.null
read_or_null (Some p) = p.0

text_tokens : (d : Data) → HasShortNumbers d → tokens (compact_text d) ≡ json_tokens (outline d)
text_tokens d short =
    ap tokens (sym (print-outline d)) ∙ tokens-print (json_tokens (outline d)) (ArePrintable-json_tokens (outline d) (has_numbers d short))

pub compact_same : (d e : Data) → HasShortNumbers d → HasShortNumbers e → compact_text d ≡ compact_text e → d ≡ e
compact_same d e short_d short_e same =
    let j = outline d in
    let k = outline e in
    let n = depth j + depth k in
    let read : (i : json.Json) → depth i < n + 1 → read_or_null (value n (json_tokens i)) ≡ i =
    λ i below. ap read_or_null (ap (value n) (sym (append-nil (json_tokens i))) ∙ value-json_tokens i n [] (omega (arith, below))) in
    let written : json_tokens j ≡ json_tokens k = sym (text_tokens d short_d) ∙ ap tokens same ∙ text_tokens e short_e in
    let outlines : j ≡ k = sym (read j (omega arith)) ∙ ap (λ ts. read_or_null (value n ts)) written ∙ read k (omega arith) in
    sym (data_is_read d short_d) ∙ ap data_of outlines ∙ data_is_read e short_e
