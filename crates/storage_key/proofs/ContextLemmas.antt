-- The ancestor bit of a chain that begins with a site, and of a chain with a document more.
use Rattle.std.proofs.Common.{zero, suc, ◌≡◌, ◌<◌, ◌-◌, ℕ, Bool, true, false, not, arith, List, [], ◌∷◌, ◌++◌, length, get_or, Some, None, refl, ap, sym, ◌∙◌}
use Rattle.std.specs.Prelude.{◌&&◌, ◌||◌, Option}
use Rattle.std.specs.List.{list_all}
use Rattle.std.proofs.lemmas.Bool.{both_ways}
use Rattle.std.proofs.lemmas.List.Folds.{list_all-append}
use Rattle.std.proofs.lemmas.Option.{unwrap_or-slice_get}
use Rattle.origin_site.specs.Site.{PlainSite, same_plain_site}
use Rattle.storage_key.specs.Context.{has_only, is_first_by, is_first_party, is_of, top_of}
use Rattle.storage_key.specs.Key.{bit_by, own_bit, own_site}

and_parts : (a b : Bool) → (a && b) ≡ true → (a ≡ true) × (b ≡ true)
and_parts true b is = (refl, is)
and_parts false b is = absurd (both_ways false refl is)

passes_at : {X : Type 0} (p : X → Bool) (xs : List X) (i : ℕ) (d : X) → i < length xs → list_all p xs ≡ true
    → p (get_or xs i d) ≡ true
passes_at p [] i d low all = absurd (omega (arith, low))
passes_at p (x ∷ xs) zero d low all = (and_parts (p x) (list_all p xs) all).0
passes_at p (x ∷ xs) (suc i) d low all =
    passes_at p xs i d (omega (arith, low)) (and_parts (p x) (list_all p xs) all).1

-- where every document has the top's site, the last has
last_of : (top : PlainSite) (site : Option PlainSite) (below : List (Option PlainSite))
    → has_only top (site ∷ below) ≡ true → is_of top (own_site (site ∷ below)) ≡ true
last_of top site below all =
    let chain : List (Option PlainSite) = site ∷ below in
    let low : length chain - 1 < length chain = omega arith in
    ap (is_of top) (unwrap_or-slice_get chain (length chain - 1) None)
    ∙ passes_at (is_of top) chain (length chain - 1) None low all

bit_from : (only same : Bool) → (only ≡ true → same ≡ true) → not (only && same) ≡ not only
bit_from true same last = ap not (last refl)
bit_from false same last = refl

-- the bit of a chain is set where a document of it has not the top's site
pub bit-of-chain : (top : PlainSite) (chain : List (Option PlainSite)) → top_of chain ≡ Some top
    → own_bit chain ≡ not (has_only top chain)
bit-of-chain top [] is = absurd (cc is)
bit-of-chain top (site ∷ below) is = by (own_site (site ∷ below)) (last_of top site below)
  where
    chain : List (Option PlainSite)
    chain = site ∷ below

    none : (only : Bool) → (only ≡ true → false ≡ true) → true ≡ not only
    none true last = absurd (cc (last refl))
    none false last = refl

    by : (own : Option PlainSite) → (has_only top (site ∷ below) ≡ true → is_of top own ≡ true)
        → bit_by (site ∷ below) own ≡ not (has_only top (site ∷ below))
    by None last = none (has_only top (site ∷ below)) last
    by (Some own) last =
        ap (λ t. not (is_first_by t (site ∷ below) own)) is
        ∙ bit_from (has_only top (site ∷ below)) (same_plain_site top own) last

-- the top of a chain with documents more
pub top-below : (top : PlainSite) (chain more : List (Option PlainSite)) → top_of chain ≡ Some top → top_of (chain ++ more) ≡ Some top
top-below top [] more is = absurd (cc is)
top-below top (site ∷ below) more is = is

or_from : (a b : Bool) → not (a && (b && true)) ≡ (not a || not b)
or_from true true = refl
or_from true false = refl
or_from false b = refl

-- a document more: its bit is that of the chain above, or its site is not the top's
pub bit-below : (top : PlainSite) (chain : List (Option PlainSite)) (site : Option PlainSite) → top_of chain ≡ Some top
    → own_bit (chain ++ site ∷ []) ≡ (own_bit chain || not (is_of top site))
bit-below top chain site is =
    bit-of-chain top (chain ++ site ∷ []) (top-below top chain (site ∷ []) is)
    ∙ ap not (list_all-append (is_of top) chain (site ∷ []))
    ∙ or_from (has_only top chain) (is_of top site)
    ∙ ap (λ b. b || not (is_of top site)) (sym (bit-of-chain top chain is))

not_twice : (a : Bool) → not (not a) ≡ a
not_twice true = refl
not_twice false = refl

-- first party, from the bit and the top's site
pub first-of-chain : (top : PlainSite) (chain : List (Option PlainSite)) (url : PlainSite) → top_of chain ≡ Some top
    → is_first_party chain url ≡ (not (own_bit chain) && same_plain_site top url)
first-of-chain top chain url is =
    ap (λ t. is_first_by t chain url) is
    ∙ ap (λ b. b && same_plain_site top url)
    (sym (not_twice (has_only top chain)) ∙ ap not (sym (bit-of-chain top chain is)))
