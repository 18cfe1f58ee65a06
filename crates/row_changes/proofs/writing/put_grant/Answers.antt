use Rattle.std.proofs.Common.{◌++◌}
use Rattle.origin_site.specs.Plain.{plain_site}
use Rattle.origin_site.specs.Site.{site_text}
use Rattle.std.proofs.lemmas.Result.{on_ok_weaker}
use Rattle.row_changes.specs.Fields.{text_bytes, signed_bytes}
use Rattle.row_changes.specs.Spelling.{answer_byte}
use Rattle.row_changes.proofs.WritingLemmas.{grant_joined}
use Rattle.row_changes.proofs.writing.put_grant.Goals as goal

pub returns-clause-bytes : goal.returns-clause-bytes
returns-clause-bytes c =
    let row = c.args.row.now in
    let sites = text_bytes (site_text (plain_site row.top)) ++ text_bytes (site_text (plain_site row.site)) in
    on_ok_weaker c.put_signed.result
    (λ last. grant_joined c.args.out.now.items sites c.put_sites.new.out.items c.put_byte.new.out.items c.put_signed.new.out.items (signed_bytes row.until) c.answer_byte.result (answer_byte row.granted)
    c.in_ok-put_sites.ensures.bytes c.in_ok-put_byte.ensures.bytes c.answer_byte.ensures last)
    c.put_signed.ensures.bytes
