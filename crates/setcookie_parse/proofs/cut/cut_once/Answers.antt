-- The first of the byte, where it stands.
use Rattle.std.proofs.Common.{◌≡◌, ◌+◌, ◌<◌, ◌==◌, length, get_or, take, drop, ap, ◌∙◌, sym, rules, arith}
use Rattle.std.specs.List.{position_or_len}
use Rattle.std.proofs.lemmas.Str.{IsCharBoundary-after_ascii}
use Rattle.setcookie_parse.proofs.CutOnceLemmas.{byte_is, first_at, none_at}
use Rattle.setcookie_parse.proofs.cut.cut_once.Goals as goal

pub range_from-requires : goal.range_from-requires
range_from-requires c = λ some.
    let at = c.in-Some.ensures in
    let inside : c.in-Some.place < length c.args.text.now = omega (arith, at.0.high, ap length c.as_bytes.ensures.value) in
    let here : get_or c.args.text.now c.in-Some.place 0 ≡ c.args.byte = ap (λ bs. get_or bs c.in-Some.place 0) (sym c.as_bytes.ensures.value) ∙ byte_is _ _ at.1 in
    IsCharBoundary-after_ascii c.args.text.now c.in-Some.place c.utf8.text inside (omega (arith, here, c.requires.ascii))

pub returns-in-Some : goal.returns-in-Some
returns-in-Some c =
    let at = c.in-Some.ensures in
    let text = c.args.text.now in
    let place = c.in-Some.place in
    let same = c.as_bytes.ensures.value in
    let inside : place < length text = omega (arith, at.0.high, ap length same) in
    let first : position_or_len (λ b. b == c.args.byte) text ≡ place =
    ap (position_or_len (λ b. b == c.args.byte)) (sym same) ∙ first_at (λ b. b == c.args.byte) c.as_bytes.result.now place at.0.high (λ k lt. at.0.before k (omega arith) lt) at.1 in
    let front : c.range.result.now ≡ take place text = search (rules, c.range.ensures.value) in
    let rest : c.range_from.result.now ≡ drop (place + 1) text = search (rules, c.range_from.ensures.value) in (
      front ∙ ap (λ n. take n text) (sym first),
      rest ∙ ap (λ n. drop (n + 1) text) (sym first),
      omega (arith, first, inside),
    )

pub returns-in-None : goal.returns-in-None
returns-in-None c =
    let same = c.as_bytes.ensures.value in
    ap (position_or_len (λ b. b == c.args.byte)) (sym same) ∙ none_at (λ b. b == c.args.byte) c.as_bytes.result.now (λ k lt. c.in-None.ensures k (omega arith) lt) ∙ ap length same
