use Rattle.std.proofs.Common.{◌≡◌, ◌++◌, List, OnOk, Some, None, length, slice_get, ap, refl, subst, sym, ◌∙◌}
use Rattle.std.specs.Prelude.{option_map}
use Rattle.std.proofs.lemmas.Option.{slice_get-map, slice_get_past, slice_get_read}
use Rattle.local_scripts.specs.Items.{item_of}
use Rattle.local_scripts.specs.declared.item.Item.{Item}
use Rattle.twins.specs.Scripts.{end_in}
use Rattle.shown_scripts.specs.Lines.{IsLineInRange, line_or_end}
use Rattle.shown_scripts.proofs.places.put_at.Goals as goal

pub returns-in-Some : goal.returns-in-Some
returns-in-Some c =
    let script = c.args.script.now in
    let place = c.args.place in
    let items : List Item = c.deref.result.now in
    let there = c.in-Some.ensures.lookup in
    let found : slice_get items place ≡ Some c.in-Some.item.now =
    slice_get_read items (length items) place c.in-Some.item.now refl there.3.0 there.1 in
    let is = slice_get-map item_of script.entries.items place
    ∙ ap (option_map item_of) (ap (λ xs. slice_get xs place) (sym c.deref.ensures.value) ∙ found) in
    record {
      line = subst (λ o. OnOk c.print_item.result
          (c.print_item.new.text.items ≡ c.args.text.now.items ++ line_or_end place o (end_in script)))
          (sym is) c.print_item.ensures.line;
      range = subst (λ o. OnOk c.print_item.result (IsLineInRange o (end_in script))) (sym is) c.print_item.ensures.range;
    }

pub returns-in-None : goal.returns-in-None
returns-in-None c =
    let script = c.args.script.now in
    let place = c.args.place in
    let items : List Item = c.deref.result.now in
    let found : slice_get items place ≡ None = slice_get_past items place c.in-None.ensures.lookup.3 in
    let is = slice_get-map item_of script.entries.items place
    ∙ ap (option_map item_of) (ap (λ xs. slice_get xs place) (sym c.deref.ensures.value) ∙ found) in
    record {
      line = subst (λ o. OnOk c.print_end.result
          (c.print_end.new.text.items ≡ c.args.text.now.items ++ line_or_end place o (end_in script)))
          (sym is) c.print_end.ensures.line;
      range = subst (λ o. OnOk c.print_end.result (IsLineInRange o (end_in script))) (sym is) c.print_end.ensures.range;
    }
