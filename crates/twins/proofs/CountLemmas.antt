-- Replies that were acknowledged, over some items.
use Rattle.std.proofs.Common.{◌≡◌, ℕ, ◌+◌, ◌<◌, ◌≤◌, Bool, true, false, not, ◌&&◌, List, [], ◌∷◌, ◌++◌, length, get_or, map, take, drop, refl, sym, ap, ◌∙◌, arith}
use Rattle.std.specs.Prelude.{◌==◌}
use Rattle.std.proofs.lemmas.Bool.{and_parts, eqb-true, true≢false}
use Rattle.std.proofs.lemmas.List.{map-append, take-append-drop, take_more}
use Rattle.unwinding.specs.LocalScript.{Happens, Restarts}
use Rattle.local_scripts.specs.Items.{AgentItem, item_of}
use Rattle.local_scripts.specs.declared.item.Item.{Item}
use Rattle.script_courses.specs.Twins.{acknowledged_in}

pub acknowledged_append : (xs ys : List AgentItem) → acknowledged_in (xs ++ ys) ≡ acknowledged_in xs + acknowledged_in ys
acknowledged_append [] ys = omega arith
acknowledged_append (Happens entry ∷ xs) ys = acknowledged_append xs ys
acknowledged_append (Restarts moment acknowledged kept ∷ xs) ys = omega (arith, acknowledged_append xs ys)

-- one item more
pub acknowledged_more : (items : List Item) (i : ℕ) (d : Item) → i < length items
    → acknowledged_in (map item_of (take (i + 1) items))
    ≡ acknowledged_in (map item_of (take i items)) + acknowledged_in (item_of (get_or items i d) ∷ [])
acknowledged_more items i d within =
    ap (λ (xs : List Item). acknowledged_in (map item_of xs)) (take_more items i d within)
    ∙ ap acknowledged_in (map-append item_of (take i items) (get_or items i d ∷ []))
    ∙ acknowledged_append (map item_of (take i items)) (item_of (get_or items i d) ∷ [])

-- of a front there are no more than of all
pub acknowledged_few : (items : List Item) (i : ℕ)
    → acknowledged_in (map item_of (take i items)) ≤ acknowledged_in (map item_of items)
acknowledged_few items i =
    let all : acknowledged_in (map item_of items) ≡ acknowledged_in
    (map item_of (take i items)) + acknowledged_in (map item_of (drop i items)) =
    ap (λ (xs : List Item). acknowledged_in (map item_of xs)) (sym (take-append-drop i items))
    ∙ ap acknowledged_in (map-append item_of (take i items) (drop i items))
    ∙ acknowledged_append (map item_of (take i items)) (map item_of (drop i items)) in
    omega (arith, all)

-- ---- ends

holds : (b : Bool) → not b ≡ false → b ≡ true
holds true is = refl
holds false is = absurd (true≢false is)

-- two ends with the same moment and counts
pub same_end : (moment other told others kept more : ℕ)
    → not (moment == other && (told == others && kept == more)) ≡ false
    → ◌≡◌ {A = AgentItem} (Restarts moment told kept) (Restarts other others more)
same_end moment other told others kept more is =
    let all = and_parts (moment == other) (told == others && kept == more) (holds _ is) in
    let both = and_parts (told == others) (kept == more) all.1 in
    λ i. Restarts (eqb-true moment other all.0 i) (eqb-true told others both.0 i) (eqb-true kept more both.1 i)
