-- The items of a list read one after another.
use Rattle.std.proofs.Common.{◌≡◌, ℕ, ◌+◌, ◌<◌, List, [], ◌∷◌, ◌++◌, length}
use Rattle.std.proofs.Common.{drop, get_or, Option, Some, None, option_map, refl, sym, ap, ◌∙◌, arith}
use Rattle.std.proofs.Common.{append_assoc, append-nil}
use Rattle.std.proofs.lemmas.List.{at_drop_more}
use Rattle.serde_json.specs.Data.{Data, Items, no_items, item}
use Rattle.serde_json.specs.View.{items_view, view}
use Rattle.serde_json.specs.declared.value.Value.{Value}
use Rattle.script_lines.specs.Items.{all_there, each_of, two_in}

-- what was read, and what comes later on
abbrev pub joined : {A : Type 0} → List A → Option (List A) → Option (List A)
joined done later = option_map (λ later. done ++ later) later

-- before any item was read
pub joined_none : {A : Type 0} (later : Option (List A)) → later ≡ joined [] later
joined_none (Some later) = refl
joined_none None = refl

joined_more : {A : Type 0} (done : List A) (first : A) (later : Option (List A)) → joined done (all_there (Some first) later) ≡ joined (done ++ first ∷ []) later
joined_more done first (Some later) = ap Some (sym (append_assoc done (first ∷ []) later))
joined_more done first None = refl

-- an item more was read
each_more : {A : Type 0} (of_value : Data → Option A) (done : List A) (value : Data) (values : Items) (first : A)
    → of_value value ≡ Some first → joined done (each_of of_value (item value values)) ≡ joined (done ++ first ∷ []) (each_of of_value values)
unfolding each_of
each_more of_value done value values first is =
    ap (λ o. joined done (all_there o (each_of of_value values))) is ∙ joined_more done first (each_of of_value values)

-- an item is of another form
each_fails : {A : Type 0} (of_value : Data → Option A) (done : List A) (value : Data) (values : Items)
    → of_value value ≡ None → joined done (each_of of_value (item value values)) ≡ None
unfolding each_of
each_fails of_value done value values is = ap (λ o. joined done (all_there o (each_of of_value values))) is

-- behind the last item
pub each_end : {A : Type 0} (of_value : Data → Option A) (done : List A) → joined done (each_of of_value no_items) ≡ Some done
unfolding each_of
each_end of_value done = ap Some (append-nil done)

-- the next item of a list was read
pub next_read : {A : Type 0} (of_value : Data → Option A) (done : List A) (values : List Value) (k : ℕ) (value : Value) (first : A)
    → k < length values → value ≡ get_or values k value → of_value (view value) ≡ Some first
    → joined done (each_of of_value (items_view (drop k values))) ≡ joined (done ++ first ∷ []) (each_of of_value (items_view (drop (k + 1) values)))
next_read of_value done values k value first inside here is =
    at_drop_more (λ later. joined done (each_of of_value (items_view later))) values k value inside
    ∙ ap (λ v. joined done (each_of of_value (items_view (v ∷ drop (k + 1) values)))) (sym here)
    ∙ each_more of_value done (view value) (items_view (drop (k + 1) values)) first is

-- the next item of a list is of another form
pub next_fails : {A : Type 0} (of_value : Data → Option A) (done : List A) (values : List Value) (k : ℕ) (value : Value)
    → k < length values → value ≡ get_or values k value → of_value (view value) ≡ None
    → joined done (each_of of_value (items_view (drop k values))) ≡ None
next_fails of_value done values k value inside here is =
    at_drop_more (λ later. joined done (each_of of_value (items_view later))) values k value inside
    ∙ ap (λ v. joined done (each_of of_value (items_view (v ∷ drop (k + 1) values)))) (sym here)
    ∙ each_fails of_value done (view value) (items_view (drop (k + 1) values)) is

-- a list of one value or none is no pair
pub two_of_few : (values : List Value) → length values < 2 → two_in (items_view values) ≡ None
two_of_few [] few = refl
two_of_few (a ∷ []) few = refl
two_of_few (a ∷ b ∷ more) few = absurd (omega (arith, few))

-- a list of three values or more is no pair
pub two_of_many : (values : List Value) → 2 < length values → two_in (items_view values) ≡ None
two_of_many [] many = absurd (omega (arith, many))
two_of_many (a ∷ []) many = absurd (omega (arith, many))
two_of_many (a ∷ b ∷ []) many = absurd (omega (arith, many))
two_of_many (a ∷ b ∷ c ∷ more) many = refl
