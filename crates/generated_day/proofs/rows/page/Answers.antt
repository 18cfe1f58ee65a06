use Rattle.std.proofs.Common.{rules, ◌≡◌, ◌∙◌, ap}
use Rattle.origin_site.specs.Address.{address_of}
use Rattle.generated_day.proofs.AddressFacts.{page_text, page_read}
use Rattle.generated_day.proofs.rows.page.Goals as goal

pub read-requires : goal.read-requires
read-requires c =
    let text : c.as_str.result.now ≡ page_text c.args.number = search rules in
    let read = ap address_of text ∙ page_read c.args.number (search rules) in
    search (rules, read)

pub returns : goal.returns
returns c =
    let text : c.as_str.result.now ≡ page_text c.args.number = search rules in
    let read = ap address_of text ∙ page_read c.args.number (search rules) in
    search (rules, read)
