use Rattle.std.proofs.Common.{◌∙◌, ◌≤◌, Ok, ap, length, subst, sym}
use Rattle.origin_site.specs.Address.{address_limit, ends_with_dot}
use Rattle.origin_site.proofs.OriginLemmas.{accepted}
use Rattle.origin_site.proofs.address.Address.of_url.Goals as goal

pub returns : goal.returns
returns c =
    let no_dot = ap ends_with_dot (sym c.host_of.ensures) ∙ sym c.ends_with_dot.ensures ∙ c.if-ends_with_dot.false in
    let short = subst (λ text. length text ≤ address_limit) c.as_str.ensures.value c.if-as_str-gt8192.false in
    accepted c.args.url c.in-Some.https c.in-Some.ensures no_dot short ∙ ap Ok (sym c.in_ok-taken.ensures)
