use Rattle.std.proofs.Common.{rules, ◌≡◌, ◌∙◌, ap}
use Rattle.std.specs.Prelude.{not, ◌&&◌}
use Rattle.std.specs.List.{list_all}
use Rattle.std.proofs.lemmas.Iterator.Adapters.{YieldsList-from_bytes}
use Rattle.std.proofs.lemmas.Iterator.Search.{all_from_yields_List}
use Rattle.origin_site.specs.Own.{is_decimal_digit}
use Rattle.origin_site.proofs.own.is_number.Goals as goal

pub returns-then-not-is_empty : goal.returns-then-not-is_empty
returns-then-not-is_empty c =
    let all : c.all.result ≡ list_all is_decimal_digit c.args.label.now = all_from_yields_List is_decimal_digit _ _ c.all.result c.all.ensures.ran (YieldsList-from_bytes c.args.label.now c.bytes.ensures.rest) (λ x b q k. search rules) in
    all ∙ ap (λ empty. not empty && list_all is_decimal_digit c.args.label.now) c.if-not-is_empty.ensures
