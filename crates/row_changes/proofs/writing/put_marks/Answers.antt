use Rattle.std.proofs.Common.{refl, pos}
use Rattle.std.specs.Prelude.{unwrap_or}
use Rattle.cookie_jar.specs.Plain.{plain_cookie}
use Rattle.std.proofs.lemmas.Result.{on_ok_weaker}
use Rattle.row_changes.specs.Fields.{signed_bytes}
use Rattle.row_changes.specs.Spelling.{flags_byte, same_site_byte}
use Rattle.row_changes.proofs.WritingLemmas.{marks_joined}
use Rattle.row_changes.proofs.writing.put_marks.Goals as goal

pub returns-clause-bytes : goal.returns-clause-bytes
returns-clause-bytes c =
    let cookie = c.args.cookie.now in
    let expiry = signed_bytes (unwrap_or cookie.expiry (pos 0)) in
    on_ok_weaker c.put_expiry.result
    (λ last. marks_joined c.args.out.now.items c.put_byte.new.out.items c.put_byte-2.new.out.items c.put_signed.new.out.items c.put_expiry.new.out.items (signed_bytes cookie.creation)
    expiry expiry c.flags_byte.result (flags_byte (plain_cookie cookie)) c.same_site_byte.result (same_site_byte cookie.same_site)
    c.in_ok-put_byte.ensures.bytes c.flags_byte.ensures c.in_ok-put_byte-2.ensures.bytes c.same_site_byte.ensures c.in_ok-put_signed.ensures.bytes last refl)
    c.put_expiry.ensures.bytes
