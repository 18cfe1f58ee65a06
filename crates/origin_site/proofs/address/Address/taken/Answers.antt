use Rattle.origin_site.proofs.OriginLemmas.{IsRead, reads_back, web_from_test, same_reads}
use Rattle.origin_site.proofs.SuffixLemmas.{same_suffixes, suffixes_read_back}
use Rattle.std.proofs.Common.{rules}
use Rattle.origin_site.proofs.address.Address.taken.Goals as goal

pub invariant_of-result : goal.invariant_of-result
invariant_of-result c =
    let read : IsRead c.args.url = record {
      valid = c.path.ensures.valid;
      web = web_from_test c.args.url c.requires.web;
      no_dot = c.requires.no_dot;
      short = c.requires.short;
    } in
    record {
      reads = same_reads (search rules) (search rules) (search rules) (search rules) (reads_back c.args.url read);
      suffixes = same_suffixes (search rules) (search rules) (search rules) (suffixes_read_back c.args.url read);
    }
