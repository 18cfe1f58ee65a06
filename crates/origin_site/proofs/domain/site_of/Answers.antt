use Rattle.std.proofs.Common.{◌∙◌, ap, sym}
use Rattle.std.specs.Prelude.{string_bytes}
use Rattle.origin_site.specs.Domain.{host_domain}
use Rattle.origin_site.proofs.SiteLemmas.{own_site, site_of_host, suffix_reads}
use Rattle.origin_site.proofs.domain.site_of.Goals as goal

pub invariant_of-result : goal.invariant_of-result
invariant_of-result c = record {
  reads = site_of_host c.args.origin.now.https c.args.origin.now.ip (string_bytes c.in_ok-from_str.field-0)
      (suffix_reads c.args.origin.now.https c.args.origin.now.ip (string_bytes c.args.origin.now.host) c.as_str.result.now c.domain_of-host.result.now (string_bytes c.in_ok-from_str.field-0)
      c.args.origin.now.suffixes c.as_str.ensures.value c.domain_of-host.ensures.suffix c.in_ok-from_str.ensures.ok);
}

pub returns-clause-own : goal.returns-clause-own
returns-clause-own c =
    let text = c.in_ok-from_str.ensures.ok in
    own_site c.args.list.now.rules c.args.origin.now.https c.args.origin.now.ip (string_bytes c.in_ok-from_str.field-0)
    (suffix_reads c.args.origin.now.https c.args.origin.now.ip (string_bytes c.args.origin.now.host) c.as_str.result.now c.domain_of-host.result.now (string_bytes c.in_ok-from_str.field-0)
    c.args.origin.now.suffixes c.as_str.ensures.value c.domain_of-host.ensures.suffix text)
    (ap (host_domain c.args.list.now.rules c.args.origin.now.ip) text ∙ c.domain_of-host.ensures.own ∙ sym text)
