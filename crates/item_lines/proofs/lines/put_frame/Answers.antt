use Rattle.std.proofs.Common.{◌≡◌, rules, Some, subst, sym}
use Rattle.std.specs.Prelude.{option_map, string_bytes}
use Rattle.origin_site.specs.Plain.{plain_address}
use Rattle.item_lines.specs.Members.{PutsLast, framed}
use Rattle.item_lines.proofs.MemberLemmas.{after, after_plain, begun}
use Rattle.item_lines.proofs.lines.put_frame.Goals as goal

pub returns-in-Some : goal.returns-in-Some
returns-in-Some c =
    let t1 : c.as_str.result.now ≡ string_bytes c.in-Some.text.value = search rules in
    let url = plain_address c.args.url.now in
    let f1 = subst (λ text. PutsLast c.put_sandboxed.result c.put_number-2.new.writer c.put_sandboxed.new.writer (framed c.args.at url (Some text))) t1 c.put_sandboxed.ensures in
    let f2 = subst (λ found. PutsLast c.put_sandboxed.result c.put_number-2.new.writer c.put_sandboxed.new.writer (framed c.args.at url (option_map (λ text. string_bytes text.value) found))) (sym c.in-Some.is) f1 in
    begun c.in_ok-begin.ensures.puts
    (after_plain c.in_ok-put_truth.ensures.puts (after_plain c.in_ok-put_text.ensures.puts (after c.in_ok-put_number.ensures (after c.in_ok-put_head.ensures (after c.in_ok-put_number-2.ensures f2)))))

pub returns-in-None : goal.returns-in-None
returns-in-None c =
    let url = plain_address c.args.url.now in
    let f1 = subst (λ found. PutsLast c.put_place.result c.put_number-2.new.writer c.put_place.new.writer (framed c.args.at url (option_map (λ text. string_bytes text.value) found))) (sym c.in-None.is) c.put_place.ensures in
    begun c.in_ok-begin.ensures.puts
    (after_plain c.in_ok-put_truth.ensures.puts (after_plain c.in_ok-put_text.ensures.puts (after c.in_ok-put_number.ensures (after c.in_ok-put_head.ensures (after c.in_ok-put_number-2.ensures f1)))))
