use Rattle.std.proofs.Common.{◌≡◌, Some, None, cond, length, map, take, drop, ◌-◌, string_bytes, true, false, ap, sym, refl, ◌∙◌, rules}
use Rattle.std.specs.Prelude.{bytes_eq}
use Rattle.command_line.specs.Walk.{value_in}
use Rattle.command_line.proofs.PairLemmas.{few_words, two_words}
use Rattle.command_line.proofs.options.value_named.Goals as goal

pub returns-in-empty : goal.returns-in-empty
unfolding value_in
returns-in-empty c = sym (c.pairs.invariant ∙ few_words (value_in c.args.name.now) None c.pairs.rest.now refl (λ word. refl) c.in-empty.len_below)

pub returns-then-eq : goal.returns-then-eq
unfolding value_in
returns-then-eq c =
    let found : c.deref.result.now ≡ string_bytes c.value-item.result = search rules in
    let named : bytes_eq (string_bytes c.other-item.result) c.args.name.now ≡ true = search rules in
    sym (c.pairs.invariant
    ∙ ap (value_in c.args.name.now) (two_words c.pairs.rest.now c.other-item.result c.value-item.result c.in-len2-up.len_at_least c.other-item.is c.value-item.is)
    ∙ ap (λ b. cond b (Some (string_bytes c.value-item.result)) (value_in c.args.name.now (map string_bytes (take (length c.pairs.rest.now - 2) (drop 2 c.pairs.rest.now))))) named
    ∙ ap Some (sym found))

pub pairs-preserved : goal.pairs-preserved
unfolding value_in
pairs-preserved c =
    let other : bytes_eq (string_bytes c.other-item.result) c.args.name.now ≡ false = search rules in
    c.pairs.invariant
    ∙ ap (value_in c.args.name.now) (two_words c.pairs.rest.now c.other-item.result c.value-item.result c.in-len2-up.len_at_least c.other-item.is c.value-item.is)
    ∙ ap (λ b. cond b (Some (string_bytes c.value-item.result)) (value_in c.args.name.now (map string_bytes (take (length c.pairs.rest.now - 2) (drop 2 c.pairs.rest.now))))) other
