use Rattle.std.proofs.Common.{rules, ◌≡◌, ◌∙◌, ap, subst, sym}
use Rattle.origin_site.specs.Domain.{IsLabelSuffix, host_domain}
use Rattle.origin_site.proofs.SiteLemmas.{domain_suffix, host_domain_again}
use Rattle.origin_site.proofs.domain.domain_of.Goals as goal

pub returns-else-ip-clause-own : goal.returns-else-ip-clause-own
returns-else-ip-clause-own c =
    let value : c.unwrap_or.result.now ≡ host_domain c.args.list.now.rules c.args.ip c.args.host.now = search rules in
    ap (host_domain c.args.list.now.rules c.args.ip) value ∙ host_domain_again c.args.list.now.rules c.args.ip c.args.host.now ∙ sym value

pub returns-else-ip-clause-suffix : goal.returns-else-ip-clause-suffix
returns-else-ip-clause-suffix c =
    let value : c.unwrap_or.result.now ≡ host_domain c.args.list.now.rules c.args.ip c.args.host.now = search rules in
    subst (IsLabelSuffix c.args.ip c.args.host.now) (sym value) (domain_suffix c.args.list.now.rules c.args.ip c.args.host.now)
