-- No place is marked, and no cookie is replaced.
use Rattle.std.proofs.Common.{arith, ap, not, sym, ◌≡◌, ◌∙◌, length}
use Rattle.std.specs.Prelude.{vec_len}
use Rattle.std.proofs.lemmas.Bool.Decides.{Decides-eqb}
use Rattle.web_cookies.specs.Becoming.{becomes_of}
use Rattle.web_cookies.proofs.ChangeLemmas.{stays}
use Rattle.web_cookies.proofs.change.is_nothing.Goals as goal

pub returns-then-is_empty : goal.returns-then-is_empty
returns-then-is_empty c = record {
  nothing = λ is kind cookies.
      let none = (Decides-eqb (vec_len c.in-Marked.places) 0).0 (sym c.is_empty.ensures ∙ c.if-is_empty.true) in
      let empty : length c.in-Marked.places.items ≡ 0 = omega (arith, c.in-Marked.places.ok.0, none) in
      ap (λ b. becomes_of kind b cookies) c.in-Marked.is
      ∙ stays c.in-Marked.places.items c.in-Marked.now c.in-Marked.new empty (c.is_none.ensures ∙ ap not is) kind cookies;
}
