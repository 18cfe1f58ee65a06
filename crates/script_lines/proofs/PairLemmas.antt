-- A list of pairs of texts: its items one after another, as the grammar of JSON has them.
use Rattle.std.proofs.Common.{◌≡◌, refl, ap, sym, ◌∙◌, ℕ, suc, ◌-◌, ◌<◌, ◌≤◌, length, List, [], ◌∷◌, ◌++◌, map, Option, Some, None, option_map, option_and_then, arith}
use Rattle.json.specs.Token.{Token}
use Rattle.json.specs.Json as json
use Rattle.json.specs.Json.{Parse, after_end_array, items, parse_map, value}
use Rattle.json.proofs.Grammar.{items_end, items_more, left, skip_value-shorter, value-begin_array}
use Rattle.serde_json.specs.Data.{Data, array, string, Items, no_items, item}
use Rattle.serde_json.specs.Read.{converted, of_items, of_json}
use Rattle.serde_json.specs.View.{items_of}
use Rattle.script_lines.specs.Flat.{field_of_texts, items_of_pairs, pairs_data}
use Rattle.script_lines.specs.Heads.{few, field_of_pair, head_of_value}
use Rattle.script_lines.specs.Items.{all_there, each_of}
use Rattle.script_lines.specs.declared.pairs.Pair.{Pair}
use Rattle.script_lines.proofs.FlatLemmas.{converted_some}

-- ---- items of a list

-- these items before others
abbrev pub prepend : List Data → Items → Items
prepend [] later = later
prepend (d ∷ ds) later = item d (prepend ds later)

prepend_more : (ds : List Data) (d : Data) (later : Items) → prepend (ds ++ d ∷ []) later ≡ prepend ds (item d later)
prepend_more [] d later = refl
prepend_more (e ∷ ds) d later = ap (item e) (prepend_more ds d later)

prepend_none : (ds : List Data) → prepend ds no_items ≡ items_of ds
prepend_none [] = refl
prepend_none (d ∷ ds) = ap (item d) (prepend_none ds)

-- what is read from here on, behind these items
abbrev pub behind : List Data → Option (Items × List Token) → Option (Items × List Token)
behind ds later = parse_map (prepend ds) later

-- before any item was read
pub behind_none : (later : Option (Items × List Token)) → later ≡ behind [] later
behind_none None = refl
behind_none (Some p) = refl

after_item : (ds : List Data) (d : Data) (r : List Token) (o : Option Items)
    → behind ds (option_map (λ b. (b, r)) (option_map (item d) o)) ≡ behind (ds ++ d ∷ []) (option_map (λ b. (b, r)) o)
after_item ds d r None = refl
after_item ds d r (Some later) = ap (λ i. Some (i, r)) (sym (prepend_more ds d later))

with_item : (j : json.Json) (d : Data) (ds : List Data) → of_json j ≡ Some d → (o : Option (json.Items × List Token))
    → behind ds (converted of_items (parse_map (json.item j) o)) ≡ behind (ds ++ d ∷ []) (converted of_items o)
with_item j d ds e None = refl
with_item j d ds e (Some p) =
    ap (λ o. behind ds (option_map (λ b. (b, p.1)) (option_and_then (λ d. option_map (item d) (of_items p.0)) o))) e ∙ after_item ds d p.1 (of_items p.0)

-- an item that was read goes behind those before it
pub item_read : (p : Parse json.Json) (ds : List Data) (n : ℕ) (ts r : List Token) (d : Data)
    → 0 < n → after_end_array ts ≡ None → converted of_json (p ts) ≡ Some (d, r)
    → behind ds (converted of_items (items p n ts)) ≡ behind (ds ++ d ∷ []) (converted of_items (items p (n - 1) r))
item_read p ds n ts r d some more e =
    let j = converted_some of_json (p ts) d r e in
    ap (λ o. behind ds (converted of_items o)) (items_more p n ts r j.0 some more j.1) ∙ with_item j.0 d ds j.2 _

-- behind the last item
pub items_over : (p : Parse json.Json) (ds : List Data) (n : ℕ) (ts r : List Token)
    → length ts ≤ n → after_end_array ts ≡ Some r → behind ds (converted of_items (items p n ts)) ≡ Some (items_of ds, r)
items_over p ds n ts r enough e = ap (λ o. behind ds (converted of_items o)) (items_end p n ts r enough e) ∙ ap (λ i. Some (i, r)) (prepend_none ds)

array_twice : (r : List Token) (x : Option Items) → option_map (λ b. (b, r)) (option_map array x) ≡ parse_map array (option_map (λ a. (a, r)) x)
array_twice r None = refl
array_twice r (Some a) = refl

-- a list is its items
pub converted-array : (o : Option (json.Items × List Token)) → converted of_json (parse_map json.array o) ≡ parse_map array (converted of_items o)
converted-array None = refl
converted-array (Some p) = array_twice p.1 (of_items p.0)

-- a list that was read is the value, and takes at least one token
pub list_read : (ds : Items) (ts later r : List Token) → ts ≡ Token.begin_array ∷ later
    → converted of_items (items (value 125) (length later) later) ≡ Some (ds, r)
    → (converted of_json (value 126 ts) ≡ Some (array ds, r)) × (length r < length ts)
list_read ds ts later r is read =
    let whole : converted of_json (value 126 ts) ≡ Some (array ds, r) =
    ap (converted of_json) (ap (value 126) is ∙ value-begin_array 126 later (omega arith))
    ∙ converted-array (items (value 125) (length later) later) ∙ ap (parse_map array) read in
    (whole, skip_value-shorter 126 ts r (ap left (converted_some of_json (value 126 ts) (array ds) r whole).1))

-- ---- pairs

-- two texts between brackets are a pair
two_texts : (depth : ℕ) (a b : List ℕ) (r : List Token)
    → converted of_json (value (suc (suc depth)) (Token.begin_array ∷ Token.string a ∷ Token.string b ∷ Token.end_array ∷ r)) ≡ Some (array (item (string a) (item (string b) no_items)), r)
unfolding value items
two_texts depth a b r = refl

-- the tokens of a pair
pub pair_read : (a b : List ℕ) (ts r : List Token)
    → ts ≡ Token.begin_array ∷ Token.string a ∷ Token.string b ∷ Token.end_array ∷ r
    → converted of_json (value 125 ts) ≡ Some (array (item (string a) (item (string b) no_items)), r)
pair_read a b ts r is = ap (λ ts. converted of_json (value 125 ts)) is ∙ two_texts 123 a b r

-- pairs are the fields of a head
pub fields_of_items : (pairs : List Pair) → each_of field_of_pair (items_of_pairs pairs) ≡ Some (map field_of_texts pairs)
unfolding each_of
fields_of_items [] = refl
fields_of_items (pair ∷ pairs) = ap (all_there (Some (field_of_texts pair))) (fields_of_items pairs)

-- a list of pairs is a head by its form, where it is not too long
pub head_of_pairs : (pairs : List Pair) → head_of_value (pairs_data pairs) ≡ few (map field_of_texts pairs)
head_of_pairs pairs = ap (option_and_then few) (fields_of_items pairs)
