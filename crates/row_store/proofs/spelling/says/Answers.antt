-- What the bytes say is this row change, another one, or nothing.
use Rattle.std.proofs.Common.{arith, ap, sym, ◌∙◌}
use Rattle.std.specs.Prelude.{option_map}
use Rattle.row_changes.specs.Plain.{plain_change}
use Rattle.row_store.proofs.SpellingLemmas.{nothing_said, something_said}
use Rattle.row_store.proofs.spelling.says.Goals as goal

pub returns-in-Some : goal.returns-in-Some
returns-in-Some c = record {
  spelled = something_said (plain_change c.args.change.now)
      c.args.bytes.now c.requires.bytes c.changes_read_back.ensures.reads_back
      (plain_change c.in-Some.said) c.in-Some.field-0-1.now c.same_change.result
      c.changes_read_back.ensures.one_spelling (λ i. omega (arith, c.type_inv.bytes i))
      (sym c.in_ok-said.ensures.change ∙ ap (option_map (λ f. (plain_change f.0, f.1.now))) c.in-Some.is)
      c.same_change.ensures.same;
}

pub returns-in-None : goal.returns-in-None
returns-in-None c = record {
  spelled = nothing_said (plain_change c.args.change.now)
      c.args.bytes.now c.requires.bytes c.changes_read_back.ensures.reads_back
      (sym c.in_ok-said.ensures.change ∙ ap (option_map (λ f. (plain_change f.0, f.1.now))) c.in-None.is);
}
