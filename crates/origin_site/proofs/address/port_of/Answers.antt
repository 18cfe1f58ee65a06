use Rattle.std.proofs.Common.{◌≡◌, ◌∙◌, Bool, Some, ap, cond, sym, ℕ}
use Rattle.std.specs.Prelude.{unwrap_or}
use Rattle.url.specs.Scheme.{default_port}
use Rattle.origin_site.proofs.OriginLemmas.{default_port_is, https_is, port_or, web_from_test}
use Rattle.origin_site.proofs.address.port_of.Goals as goal
use Rattle.origin_site.proofs.address.port_of.Goals.{then-https, else-https}

pub returns : goal.returns
returns c =
    let url = c.args.url.now in
    let web = https_is url (web_from_test url c.requires.web) in
    let own : Bool → ℕ = λ b. cond b 443 80 in
    let https = c.args.https in
    let chosen : c.if-https.default ≡ own https =
    elim c.if-https.branch [
      | then-https w ↦ w.default-is ∙ sym (ap own w.if-https.true)
      | else-https w ↦ w.default-is ∙ sym (ap own w.if-https.false)
    ] in
    let known : default_port url.scheme ≡ Some (own https) = ap default_port web.2 ∙ default_port_is web.0 ∙ ap (λ b. Some (own b)) (sym (c.requires.https ∙ web.1)) in
    c.unwrap_or.ensures ∙ ap (λ p. unwrap_or p c.if-https.default) c.port.ensures.value ∙ ap (unwrap_or url.port) chosen ∙ port_or url.port url.scheme (own https) known
