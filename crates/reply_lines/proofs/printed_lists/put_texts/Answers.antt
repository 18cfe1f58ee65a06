use Rattle.std.proofs.Common.{◌≡◌, ◌++◌, ◌∷◌, [], false, true, ℕ, List, Bor, ◌+◌, drop, get_or, refl, ap, sym, ◌∙◌, map, append_assoc, rules}
use Rattle.serde_json.specs.Data.{string}
use Rattle.serde_json.specs.View.{items_of}
use Rattle.serde_json.specs.Written.{comma_if, compact_text, items_text}
use Rattle.reply_lines.proofs.ListLemmas.{map-map, put_later, put_more}
use Rattle.reply_lines.proofs.printed_lists.put_texts.Goals as goal

pub loop-text-init : goal.loop-text-init
loop-text-init c =
    let line = c.args.line.now.items in
    let texts = c.args.texts.now in
    let begun : c.put.new.line.items ≡ line ++ 91 ∷ [] = search rules in
    ap (λ values. line ++ 91 ∷ items_text false (items_of values)) (map-map string (λ t. t.now) texts)
    ∙ sym (append_assoc line (91 ∷ []) (items_text false (items_of (map (λ t. string t.now) texts))))
    ∙ ap (λ done. put_later (λ t. string t.now) done false texts) (sym begun)

pub loop-text-preserved : goal.loop-text-preserved
loop-text-preserved c =
    let l = c.loop-text in
    let texts = c.args.texts.now in
    let none : Bor (List ℕ) = record { ref_ptr = (0, 0); now = [] } in
    let text = get_or texts l.text-index none in
    let more : c.put_quoted.new.line.items ≡ (l.line.items ++ comma_if l.later) ++ compact_text (string text.now) =
    c.in_ok-put_quoted.ensures ∙ ap (λ done. done ++ compact_text (string text.now)) c.in_ok-put_comma.ensures in
    l.invariant ∙ put_more (λ t. string t.now) l.line.items l.later texts l.text-index text none c.loop-text-test.true refl
    ∙ ap (λ done. put_later (λ t. string t.now) done true (drop (l.text-index + 1) texts)) (sym more)
