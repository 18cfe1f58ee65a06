use Rattle.std.proofs.Common.{◌++◌, append_assoc, append-nil, ap, subst, sym, ◌∙◌, map, take, take_all, arith}
use Rattle.std.specs.List.{All}
use Rattle.std.proofs.lemmas.List.Elements.{All-nil}
use Rattle.item_lines.specs.Item.{item_text}
use Rattle.item_lines.specs.Numbers.{IsInRange}
use Rattle.item_lines.specs.Script.{items_text}
use Rattle.local_scripts.specs.Items.{item_of}
use Rattle.shown_scripts.proofs.TextLemmas.{no_text, range_more, text_more}
use Rattle.shown_scripts.proofs.lines.put_items.Goals as goal

pub loop-number-init : goal.loop-number-init
loop-number-init c =
    let before = c.args.text.now.items in
    record {
      text = sym (ap (λ t. before ++ t) no_text ∙ append-nil before);
      range = All-nil IsInRange;
    }

pub loop-number-preserved : goal.loop-number-preserved
loop-number-preserved c =
    let items = c.args.items.now in
    let i = c.loop-number.number in
    let item = c.index-items-number.result in
    let before = c.args.text.now.items in
    let front = items_text 0 (map item_of (take i items)) in
    let within = c.loop-number-test.true in
    record {
      text = c.in_ok-print_item.ensures.line
          ∙ ap (λ t. t ++ item_text i (item_of item)) c.loop-number.invariant.text
          ∙ append_assoc before front (item_text i (item_of item))
          ∙ ap (λ x. before ++ (front ++ item_text i (item_of x))) c.index-items-number.is
          ∙ ap (λ t. before ++ t) (sym (text_more items i item within));
      range = range_more items i item within c.loop-number.invariant.range
          (subst (λ x. IsInRange (item_of x)) c.index-items-number.is c.in_ok-print_item.ensures.range);
    }

pub returns : goal.returns
returns c =
    let items = c.args.items.now in
    let all = take_all c.loop-number.number items (omega (arith, c.loop-number-test.false)) in
    record {
      lines = c.loop-number.invariant.text
          ∙ ap (λ xs. c.args.text.now.items ++ items_text 0 (map item_of xs)) all;
      range = subst (λ xs. All IsInRange (map item_of xs)) all c.loop-number.invariant.range;
    }
