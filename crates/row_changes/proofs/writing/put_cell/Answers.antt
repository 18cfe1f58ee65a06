use Rattle.std.proofs.Common.{◌++◌, ap, ◌∙◌}
use Rattle.std.specs.Prelude.{string_bytes}
use Rattle.origin_site.specs.Plain.{plain_site}
use Rattle.origin_site.specs.Site.{site_text}
use Rattle.std.proofs.lemmas.Result.{on_ok_weaker}
use Rattle.row_changes.specs.Fields.{bit_byte, text_bytes}
use Rattle.row_changes.proofs.WritingLemmas.{partition_joined}
use Rattle.row_changes.proofs.writing.put_cell.Goals as goal

pub returns-in_ok-put_byte-in-Partition-2-clause-bytes : goal.returns-in_ok-put_byte-in-Partition-2-clause-bytes
returns-in_ok-put_byte-in-Partition-2-clause-bytes c =
    let cell = c.in-Partition in
    rw cell.is
    (on_ok_weaker c.put_text-in-Partition.result
    (λ last. partition_joined c.args.out.now.items c.put_byte-in-Partition.new.out.items c.put_site.new.out.items c.put_byte-in-Partition-2.new.out.items c.put_text-in-Partition.new.out.items
    (text_bytes (site_text (plain_site cell.top))) (text_bytes (string_bytes cell.domain)) c.bit_byte.result (bit_byte cell.bit)
    c.in_ok-put_byte-in-Partition.ensures.bytes c.in_ok-put_site-in-Partition.ensures.bytes c.in_ok-put_byte-in-Partition-2.ensures.bytes c.bit_byte.ensures
    (last ∙ ap (λ text. c.put_byte-in-Partition-2.new.out.items ++ text_bytes text) c.as_str-in-Partition.ensures.value))
    c.put_text-in-Partition.ensures.bytes)
