-- What the pairs lose, the weight loses.
use Rattle.std.proofs.Common.{◌≡◌, ◌∙◌, ap, arith, sym, Some, None}
use Rattle.std.specs.Prelude.{option_map, string_bytes}
use Rattle.local_area.specs.Area.{area_get, area_weight}
use Rattle.local_area.proofs.PairsLemmas.{area_weight-remove, area_remove-absent}
use Rattle.local_area.proofs.area.Area.remove.Goals as goal

pub overflow_sub-self : goal.overflow_sub-self
overflow_sub-self c =
    let found : area_get c.args.name.now c.self.inside.pairs ≡ Some (string_bytes c.in_ok-value.value) =
    sym (ap (option_map string_bytes) (sym c.in_ok-value.was) ∙ c.remove.ensures.value) in
    omega (arith, c.self.invariant.weight, area_weight-remove c.args.name.now (string_bytes c.in_ok-value.value) c.self.inside.pairs c.self.invariant.distinct found)

pub invariant_of-self-2 : goal.invariant_of-self-2
invariant_of-self-2 c =
    let found : area_get c.args.name.now c.self.inside.pairs ≡ Some (string_bytes c.in_ok-value.value) =
    sym (ap (option_map string_bytes) (sym c.in_ok-value.was) ∙ c.remove.ensures.value) in
    record {
      distinct = c.remove.ensures.distinct;
      weight = omega (arith, c.self.invariant.weight, area_weight-remove c.args.name.now (string_bytes c.in_ok-value.value) c.self.inside.pairs c.self.invariant.distinct found, ap area_weight c.remove.ensures.removed);
      within = omega arith;
    }

pub invariant_of-self : goal.invariant_of-self
invariant_of-self c =
    let none : None ≡ area_get c.args.name.now c.self.inside.pairs =
    ap (option_map string_bytes) (sym c.in_err-value.was) ∙ c.remove.ensures.value in
    let same : c.remove.new.self ≡ c.self.inside.pairs =
    c.remove.ensures.removed ∙ area_remove-absent _ _ c.self.invariant.distinct (sym none) in
    record {
      distinct = c.remove.ensures.distinct;
      weight = c.self.invariant.weight ∙ sym (ap area_weight same);
      within = c.self.invariant.within;
    }
