use Rattle.std.proofs.Common.{[], if◌then◌else◌, ap, ◌∙◌, sym}
use Rattle.std.specs.List.{after_first, before_first}
use Rattle.setcookie_parse.specs.SetCookie.{is_equals, trimmed}
use Rattle.setcookie_parse.proofs.CutOnceLemmas.{is_none, is_some}
use Rattle.setcookie_parse.proofs.attribute.split_pair.Goals as goal

pub returns-in-Some-clause-name : goal.returns-in-Some-clause-name
returns-in-Some-clause-name c =
    let pair = c.args.pair.now in
    c.trimmed.ensures ∙ ap trimmed c.in-Some.ensures.0
    ∙ sym (ap (λ there. if there then trimmed (before_first is_equals pair) else []) (is_some is_equals pair c.in-Some.ensures.2))

pub returns-in-Some-clause-value : goal.returns-in-Some-clause-value
returns-in-Some-clause-value c =
    let pair = c.args.pair.now in
    c.trimmed-in-Some.ensures ∙ ap trimmed c.in-Some.ensures.1
    ∙ sym (ap (λ there. if there then trimmed (after_first is_equals pair) else trimmed pair) (is_some is_equals pair c.in-Some.ensures.2))

pub returns-in-None-clause-name : goal.returns-in-None-clause-name
returns-in-None-clause-name c =
    let pair = c.args.pair.now in
    sym (ap (λ there. if there then trimmed (before_first is_equals pair) else []) (is_none is_equals pair c.in-None.ensures))

pub returns-in-None-clause-value : goal.returns-in-None-clause-value
returns-in-None-clause-value c =
    let pair = c.args.pair.now in
    c.trimmed-in-None.ensures
    ∙ sym (ap (λ there. if there then trimmed (after_first is_equals pair) else trimmed pair) (is_none is_equals pair c.in-None.ensures))
