use Rattle.std.proofs.Common.{◌++◌, ap, subst, ◌∙◌, map, arith}
use Rattle.std.specs.List.{All}
use Rattle.std.proofs.lemmas.List.{length-map}
use Rattle.item_lines.specs.Item.{end_text}
use Rattle.item_lines.specs.Numbers.{IsInRange}
use Rattle.item_lines.specs.Script.{items_text}
use Rattle.local_scripts.specs.Items.{item_of}
use Rattle.twins.specs.Scripts.{end_in}
use Rattle.shown_scripts.proofs.lines.text_of.Goals as goal

pub returns : goal.returns
returns c =
    let script = c.args.script.now in
    record {
      text = record {
        few = omega (arith, length-map script.entries.items item_of, script.entries.ok.0, script.entries.ok.1);
        entries_fit = subst (λ xs. All IsInRange (map item_of xs)) c.deref.ensures.value c.in_ok-put_items.ensures.range;
        end_fits = c.in_ok-print_end.ensures.range;
        is = c.in_ok-print_end.ensures.line
            ∙ ap (λ t. t ++ end_text (end_in script)) (c.in_ok-put_items.ensures.lines
            ∙ ap (λ t. t ++ items_text 0 (map item_of c.deref.result.now)) c.new-text.ensures.items
            ∙ ap (λ xs. items_text 0 (map item_of xs)) c.deref.ensures.value);
      };
    }
