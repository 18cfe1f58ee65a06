-- The addresses of the day: each is what its text stands for, so that reading refuses none.
use Rattle.std.proofs.Common.{◌≡◌, ◌<◌, ◌++◌, ◌∙◌, refl, sym, ap, map, get_or, arith}
use Rattle.std.specs.Prelude.{ℕ, List, codes, decimal, Ok}
use Rattle.std.specs.List.{range_with_len}
use Rattle.std.proofs.lemmas.List.FromFn.{get_or-map-range_with_len}
use Rattle.url.proofs.OnLiterals.{url_on_literals}
use Rattle.origin_site.specs.Address.{address_of}
use Rattle.generated_day.specs.Day.{address}

-- the text of a page's address, and of the address of what stands in pages
abbrev pub page_text : ℕ → List ℕ
page_text n = codes "https://s" ++ (decimal n ++ codes ".test/")

abbrev pub widget_text : ℕ → List ℕ
widget_text n = codes "https://w" ++ (decimal n ++ codes ".test/")

-- functions that agree on the numbers below a limit, as lists
at_each : {X : Type 0} (f g : ℕ → X) (limit n : ℕ) → map f (range_with_len 0 limit) ≡ map g (range_with_len 0 limit) → n < limit → f n ≡ g n
at_each f g limit n same below =
    sym (get_or-map-range_with_len f 0 limit n n (f n) below (omega arith))
    ∙ ap (λ l. get_or l n (f n)) same
    ∙ get_or-map-range_with_len g 0 limit n n (f n) below (omega arith)

pages : map (λ n. address_of (page_text n)) (range_with_len 0 40) ≡ map (λ n. Ok (address (codes "s") n)) (range_with_len 0 40)
unfolding url_on_literals
pages = refl

widgets : map (λ n. address_of (widget_text n)) (range_with_len 0 10) ≡ map (λ n. Ok (address (codes "w") n)) (range_with_len 0 10)
unfolding url_on_literals
widgets = refl

pub page_read : (n : ℕ) → n < 40 → address_of (page_text n) ≡ Ok (address (codes "s") n)
page_read n below = at_each (λ n. address_of (page_text n)) (λ n. Ok (address (codes "s") n)) 40 n pages below

pub widget_read : (n : ℕ) → n < 10 → address_of (widget_text n) ≡ Ok (address (codes "w") n)
widget_read n below = at_each (λ n. address_of (widget_text n)) (λ n. Ok (address (codes "w") n)) 10 n widgets below
