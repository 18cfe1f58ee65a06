use Rattle.std.proofs.Common.{◌≡◌, ◌∙◌, ◌≤◌, ◌<◌, ◌++◌, ◌∷◌, [], ap, arith, length, refl, slice_index_or, sym, take}
use Rattle.std.proofs.lemmas.List.{take_all, take_more}
use Rattle.std.proofs.lemmas.Slice.Eq.{bytes_eq-Decides}
use Rattle.cookie_jar.proofs.cookie.have_equal_bytes.Goals as goal

pub loop-i-init : goal.loop-i-init
loop-i-init c = refl

pub loop-i-preserved : goal.loop-i-preserved
loop-i-preserved c =
    let a = c.args.a.now in
    let b = c.args.b.now in
    let i = c.loop-i.i in
    let within : i < length b = omega (arith, c.loop-i-test.true, c.if-a-b.false) in
    take_more a i 0 c.loop-i-test.true ∙ ap (λ l. l ++ slice_index_or a i 0 ∷ []) c.loop-i.invariant ∙ ap (λ x. take i b ++ x ∷ []) c.if-a-i.false ∙ sym (take_more b i 0 within)

pub returns : goal.returns
returns c =
    let a = c.args.a.now in
    let b = c.args.b.now in
    let i = c.loop-i.i in
    let end_a : length a ≤ i = omega (arith, c.loop-i-test.false) in
    let end_b : length b ≤ i = omega (arith, c.loop-i-test.false, c.if-a-b.false) in
    let same : a ≡ b = sym (take_all i a end_a) ∙ c.loop-i.invariant ∙ take_all i b end_b in
    sym ((bytes_eq-Decides a b).1 same)
