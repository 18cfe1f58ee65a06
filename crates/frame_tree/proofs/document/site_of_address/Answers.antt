-- The domain of the host is one of its label suffixes, each of which reads back.
use Rattle.std.specs.Prelude.{string_bytes}
use Rattle.origin_site.proofs.SiteLemmas.{site_of_host, suffix_reads}
use Rattle.frame_tree.proofs.document.site_of_address.Goals as goal

pub invariant_of-result : goal.invariant_of-result
invariant_of-result c =
    let url = c.args.address.now in
    record {
      reads = site_of_host url.https url.ip (string_bytes c.in_ok-from_str.field-0)
          (suffix_reads url.https url.ip (string_bytes url.host) c.as_str.result.now c.domain_of-host.result.now (string_bytes c.in_ok-from_str.field-0)
          url.suffixes c.as_str.ensures.value c.domain_of-host.ensures.suffix c.in_ok-from_str.ensures.ok);
    }
