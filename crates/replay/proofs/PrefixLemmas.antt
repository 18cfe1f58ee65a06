-- What was taken in pieces, as a part of the whole.
use Rattle.std.proofs.Common.{◌≡◌, ℕ, ◌+◌, ◌<◌, List, ◌++◌, ◌∷◌, [], Option, drop, flat_map, get_or, take, length, sym, ap, subst, ◌∙◌, arith, length-append, append-nil, append_assoc}
use Rattle.std.proofs.lemmas.Grind.{flat_map-append}
use Rattle.std.proofs.lemmas.List.{take-append-drop, take-append-le, take_more}
use Rattle.std.proofs.Math.Seq.{take-append-add}
use Rattle.agent_base.specs.Streams.{Takes, TakesPrefix}
use Rattle.agent_base.proofs.Pieces.{takes_append}

-- a part of a piece, after what stands in front of it
pub prefix_then : (a b c : Option (List ℕ)) (front piece rest : List ℕ) → Takes a b front → TakesPrefix b c piece → TakesPrefix a c (front ++ (piece ++ rest))
prefix_then a b c front piece rest takes (count, within, more) = (
  length front + count,
  omega (arith, length-append front (piece ++ rest), length-append piece rest),
  subst (Takes a c) (sym (take-append-add front (piece ++ rest) count ∙ ap (λ x. front ++ x) (take-append-le count piece rest within)))
      (takes_append a b c front (take count piece) takes more),
)

-- a text of pieces up to one, that one, and the rest
pub pieces_at : {X : Type 0} (f : X → List ℕ) (xs : List X) (i : ℕ) (d : X) → i < length xs → flat_map f xs ≡ flat_map f (take i xs) ++ (f (get_or xs i d) ++ flat_map f (drop (i + 1) xs))
pieces_at f xs i d within =
    ap (flat_map f) (sym (take-append-drop (i + 1) xs))
    ∙ flat_map-append f (take (i + 1) xs) (drop (i + 1) xs)
    ∙ ap (λ t. t ++ flat_map f (drop (i + 1) xs)) (ap (flat_map f) (take_more xs i d within) ∙ flat_map-append f (take i xs) (get_or xs i d ∷ []) ∙ ap (λ t. flat_map f (take i xs) ++ t) (append-nil (f (get_or xs i d))))
    ∙ append_assoc (flat_map f (take i xs)) (f (get_or xs i d)) (flat_map f (drop (i + 1) xs))
