use Rattle.std.proofs.Common.{◌≡◌, ◌&&◌, length, map, take, drop, ◌-◌, string_bytes, true, false, ap, sym, refl, ◌∙◌, rules}
use Rattle.std.specs.Prelude.{is_some, not}
use Rattle.command_line.specs.Options.{have_distinct_names, is_option, options_of, pairs_of}
use Rattle.command_line.specs.Walk.{value_in}
use Rattle.command_line.proofs.PairLemmas.{no_words, one_word, options_of_more, two_words}
use Rattle.command_line.proofs.options.are_options.Goals as goal

pub returns-in-empty : goal.returns-in-empty
unfolding pairs_of have_distinct_names
returns-in-empty c = sym (c.pairs.invariant ∙ no_words (λ ws. is_some (options_of ws)) c.pairs.rest.now c.in-empty.len_below)

pub returns-in-len1 : goal.returns-in-len1
unfolding pairs_of
returns-in-len1 c = sym (c.pairs.invariant ∙ one_word (λ ws. is_some (options_of ws)) false c.pairs.rest.now (λ word. refl) c.in-len1.len_at_least c.in-len1.len_below)

pub returns-then-not-is_new_option : goal.returns-then-not-is_new_option
returns-then-not-is_new_option c =
    let later = map string_bytes (take (length c.pairs.rest.now - 2) (drop 2 c.pairs.rest.now)) in
    let no_option : (is_option (string_bytes c.name-item.result, string_bytes c.value-item.result) && not (is_some (value_in (string_bytes c.name-item.result) later))) ≡ false = search rules in
    sym (c.pairs.invariant
    ∙ ap (λ ws. is_some (options_of ws)) (two_words c.pairs.rest.now c.name-item.result c.value-item.result c.in-len2-up.len_at_least c.name-item.is c.value-item.is)
    ∙ options_of_more (string_bytes c.name-item.result) (string_bytes c.value-item.result) later
    ∙ ap (λ b. b && is_some (options_of later)) no_option)

pub pairs-preserved : goal.pairs-preserved
pairs-preserved c =
    let later = map string_bytes (take (length c.pairs.rest.now - 2) (drop 2 c.pairs.rest.now)) in
    let an_option : (is_option (string_bytes c.name-item.result, string_bytes c.value-item.result) && not (is_some (value_in (string_bytes c.name-item.result) later))) ≡ true = search rules in
    c.pairs.invariant
    ∙ ap (λ ws. is_some (options_of ws)) (two_words c.pairs.rest.now c.name-item.result c.value-item.result c.in-len2-up.len_at_least c.name-item.is c.value-item.is)
    ∙ options_of_more (string_bytes c.name-item.result) (string_bytes c.value-item.result) later
    ∙ ap (λ b. b && is_some (options_of later)) an_option
