-- The lines of items, one after the other.
use Rattle.std.proofs.Common.{◌≡◌, ℕ, ◌+◌, ◌<◌, List, [], ◌∷◌, ◌++◌, get_or, length, map, take, refl, sym, ap, subst, ◌∙◌, append_assoc, append-nil, arith}
use Rattle.std.specs.List.{All}
use Rattle.std.proofs.lemmas.List.{length-map, length-take-le, map-append, take_more}
use Rattle.std.proofs.lemmas.List.Elements.{All-append, All-cons, All-nil}
use Rattle.item_lines.specs.Item.{item_text}
use Rattle.item_lines.specs.Numbers.{IsInRange}
use Rattle.item_lines.specs.Script.{items_text}
use Rattle.local_scripts.specs.Items.{AgentItem, item_of}
use Rattle.local_scripts.specs.declared.item.Item.{Item}

-- the lines of two lists of items
items_append : (n : ℕ) (xs ys : List AgentItem)
    → items_text n (xs ++ ys) ≡ items_text n xs ++ items_text (n + length xs) ys
unfolding items_text
items_append n [] ys =
    let same : n ≡ n + 0 = omega arith in
    ap (λ k. items_text k ys) same
items_append n (x ∷ xs) ys =
    let same : n + 1 + length xs ≡ n + length (x ∷ xs) = omega arith in
    ap (λ t. item_text n x ++ t) (items_append (n + 1) xs ys)
    ∙ ap (λ k. item_text n x ++ (items_text (n + 1) xs ++ items_text k ys)) same
    ∙ sym (append_assoc (item_text n x) (items_text (n + 1) xs) (items_text (n + length (x ∷ xs)) ys))

-- no item has no line
pub no_text : items_text 0 [] ≡ []
unfolding items_text
no_text = refl

one_text : (n : ℕ) (x : AgentItem) → items_text n (x ∷ []) ≡ item_text n x
unfolding items_text
one_text n x = append-nil (item_text n x)

module _ (items : List Item) (i : ℕ) (d : Item) (within : i < length items) where
  abbrev front : List AgentItem
  front = map item_of (take i items)

  abbrev next : AgentItem
  next = item_of (get_or items i d)

  one_more : map item_of (take (i + 1) items) ≡ front ++ next ∷ []
  one_more = ap (map item_of) (take_more items i d within) ∙ map-append item_of (take i items) (get_or items i d ∷ [])

  -- one line more
  pub text_more : items_text 0 (map item_of (take (i + 1) items)) ≡ items_text 0 front ++ item_text i next
  text_more =
      let long : length front ≡ i =
      length-map (take i items) item_of ∙ length-take-le i items (omega (arith, within)) in
      let count : 0 + length front ≡ i = omega (arith, long) in
      ap (items_text 0) one_more ∙ items_append 0 front (next ∷ [])
      ∙ ap (λ k. items_text 0 front ++ items_text k (next ∷ [])) count
      ∙ ap (λ t. items_text 0 front ++ t) (one_text i next)

  -- and one number more in range
  pub range_more : All IsInRange front → IsInRange next → All IsInRange (map item_of (take (i + 1) items))
  range_more all more = subst (All IsInRange) (sym one_more)
      (All-append IsInRange front (next ∷ []) all (All-cons IsInRange next [] more (All-nil IsInRange)))
