-- Lists of values, written value after value.
use Rattle.std.proofs.Common.{◌≡◌, sym, ap, ◌∙◌, ℕ, ◌+◌, ◌<◌, List, [], ◌∷◌, ◌++◌, length, drop, take, get_or, map, append_assoc}
use Rattle.std.proofs.lemmas.List.{at_drop_more, take_more}
use Rattle.json.specs.Token.{Token}
use Rattle.json.specs.Tree.{items_tokens}
use Rattle.serde_json.specs.Data.{Data}
use Rattle.serde_json.specs.View.{items_of}
use Rattle.serde_json.specs.Written.{items_outline}
use Rattle.row_lines.specs.Tokens.{tokens_of}
use Rattle.script_actions.specs.Action.{HeadField}
use Rattle.item_lines.specs.Line.{head_data}
use Rattle.item_lines.specs.Numbers.{HasShortNumbers, ItemsHaveShortNumbers}

-- the tokens of these values, and of the end of their list
abbrev pub left : {A : Type 0} → (A → Data) → List A → List Token
left of_value values = items_tokens (items_outline (items_of (map of_value values)))

-- a value more is written
pub left_more : {A : Type 0} (of_value : A → Data) (values : List A) (k : ℕ) (value d : A) → k < length values → value ≡ get_or values k d
    → left of_value (drop k values) ≡ tokens_of (of_value value) ++ left of_value (drop (k + 1) values)
left_more of_value values k value d inside here =
    at_drop_more (left of_value) values k d inside ∙ ap (λ v. tokens_of (of_value v) ++ left of_value (drop (k + 1) values)) (sym here)

-- what is written and what is left are the same after one more value
pub one_more : {A : Type 0} (of_value : A → Data) (values : List A) (k : ℕ) (value d : A) (whole old new : List Token) → k < length values → value ≡ get_or values k d
    → whole ≡ old ++ left of_value (drop k values) → new ≡ old ++ tokens_of (of_value value) → whole ≡ new ++ left of_value (drop (k + 1) values)
one_more of_value values k value d whole old new inside here before more =
    before ∙ ap (λ ts. old ++ ts) (left_more of_value values k value d inside here) ∙ sym (append_assoc old (tokens_of (of_value value)) (left of_value (drop (k + 1) values)))
    ∙ ap (λ ts. ts ++ left of_value (drop (k + 1) values)) (sym more)

-- the numbers of one more value
short_push : {A : Type 0} (of_value : A → Data) (values : List A) (value : A) → ItemsHaveShortNumbers (items_of (map of_value values)) → HasShortNumbers (of_value value)
    → ItemsHaveShortNumbers (items_of (map of_value (values ++ value ∷ [])))
short_push of_value [] value all one = (one, tt)
short_push of_value (v ∷ values) value all one = (all.0, short_push of_value values value all.1 one)

pub short_more : {A : Type 0} (of_value : A → Data) (values : List A) (k : ℕ) (value d : A) → k < length values → value ≡ get_or values k d
    → ItemsHaveShortNumbers (items_of (map of_value (take k values))) → HasShortNumbers (of_value value) → ItemsHaveShortNumbers (items_of (map of_value (take (k + 1) values)))
short_more of_value values k value d inside here all one =
    rw (take_more values k d inside, sym here) (short_push of_value (take k values) value all one)

-- a head has no number
pub short_head : (head : List HeadField) → HasShortNumbers (head_data head)
short_head [] = tt
short_head (field ∷ head) = ((tt, (tt, tt)), short_head head)
