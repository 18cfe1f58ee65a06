-- A list of JSON, put item after item.
use Rattle.std.proofs.Common.{◌≡◌, refl, sym, ap, ◌∙◌, ℕ, ◌+◌, ◌<◌, true, List, [], ◌∷◌, ◌++◌, length, drop, get_or, map, append_assoc, Bool}
use Rattle.std.proofs.lemmas.List.{at_drop_more}
use Rattle.serde_json.specs.Data.{Data}
use Rattle.serde_json.specs.View.{items_of}
use Rattle.serde_json.specs.Written.{comma_if, compact_text, items_text}

-- the items of these values from here on, behind what was put
abbrev pub put_later : {A : Type 0} → (A → Data) → List ℕ → Bool → List A → List ℕ
put_later of_value done later values = done ++ items_text later (items_of (map of_value values))

-- a value more was put
pub put_more : {A : Type 0} (of_value : A → Data) (done : List ℕ) (later : Bool) (values : List A) (k : ℕ) (value d : A)
    → k < length values → value ≡ get_or values k d
    → put_later of_value done later (drop k values) ≡ put_later of_value ((done ++ comma_if later) ++ compact_text (of_value value)) true (drop (k + 1) values)
put_more of_value done later values k value d inside here =
    let rest = items_text true (items_of (map of_value (drop (k + 1) values))) in
    at_drop_more (put_later of_value done later) values k d inside
    ∙ ap (λ v. done ++ (comma_if later ++ (compact_text (of_value v) ++ rest))) (sym here)
    ∙ sym (append_assoc (done ++ comma_if later) (compact_text (of_value value)) rest ∙ append_assoc done (comma_if later) (compact_text (of_value value) ++ rest))

-- a list of mapped values
pub map-map : {A B C : Type 0} (f : B → C) (g : A → B) (xs : List A) → map f (map g xs) ≡ map (λ x. f (g x)) xs
map-map f g [] = refl
map-map f g (x ∷ xs) = ap (λ ys. f (g x) ∷ ys) (map-map f g xs)
