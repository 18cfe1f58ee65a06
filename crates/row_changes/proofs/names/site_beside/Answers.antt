-- A label suffix of the origin's host is a host, whose site's text reads back.
use Rattle.std.proofs.Common.{refl}
use Rattle.std.specs.Prelude.{string_bytes}
use Rattle.origin_site.proofs.SiteLemmas.{site_of_host, suffix_reads}
use Rattle.row_changes.proofs.names.site_beside.Goals as goal

pub invariant_of-result : goal.invariant_of-result
invariant_of-result c =
    let origin = c.args.origin.now in
    let host = string_bytes c.in_ok-from_str-in-Some.field-0 in
    record {
      reads = site_of_host origin.https origin.ip host
          (suffix_reads origin.https origin.ip (string_bytes origin.host) (string_bytes origin.host) c.in-Some.host.now host
          origin.suffixes refl c.in-Some.ensures.1 c.in_ok-from_str-in-Some.ensures.ok);
    }
