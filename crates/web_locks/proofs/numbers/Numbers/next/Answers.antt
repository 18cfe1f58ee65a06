-- The first key behind a number.
use Rattle.std.proofs.Common.{◌∙◌, ap}
use Rattle.std.specs.Ordering.{nat_cmp}
use Rattle.key_map.specs.Entries.{next_key}
use Rattle.web_locks.specs.Numbers.{first_after}
use Rattle.web_locks.proofs.NumberLemmas.{next_of_keys}
use Rattle.web_locks.proofs.numbers.Numbers.next.Goals as goal

pub returns : goal.returns
returns c = record {
  next =
      c.copied.ensures
      ∙ c.next_key.ensures.key
      ∙ ap (λ o. next_key nat_cmp o c.self.inside.set) c.as_ref.ensures.value
      ∙ next_of_keys c.args.after c.self.inside.set
      ∙ ap (first_after c.args.after) c.self.view_is;
}
