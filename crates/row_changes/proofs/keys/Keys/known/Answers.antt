-- What is kept is the spelling of its key, so the bytes that begin with it say this key.
use Rattle.std.proofs.Common.{◌∙◌}
use Rattle.storage_key.specs.Plain.{plain_key}
use Rattle.row_changes.specs.LastKey.{IsSpelling}
use Rattle.row_changes.proofs.KeyLemmas.{again}
use Rattle.row_changes.proofs.keys.Keys.known.Goals as goal

pub returns-in-Some-strip_prefix : goal.returns-in-Some-strip_prefix
returns-in-Some-strip_prefix c =
    let key = plain_key c.in-Some.last.key in
    let kept : IsSpelling c.in-Some.last.bytes.items key = c.in-Some.last.spelling in
    let spelling : IsSpelling c.as_slice.result.now key = (kept.0, c.as_slice.ensures.value ∙ kept.1) in
    let cases = c.in-Some-strip_prefix.ensures.cases in
    record { known = again c.as_slice.result.now c.args.bytes.now c.in-Some-strip_prefix.rest.now key spelling cases.0 cases.1 }
