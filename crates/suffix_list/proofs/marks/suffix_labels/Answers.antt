use Rattle.std.proofs.Common.{◌≡◌, ℕ, Bool, ◌∙◌, ◌+◌, ◌-◌, ◌<◌, ap, sym, refl, cond, drop, take, length, map, [], ◌∷◌, arith, true, false}
use Rattle.std.specs.Prelude.{nat_lt, max, ◌&&◌, ◌||◌}
use Rattle.std.proofs.lemmas.Bool.{and_parts, lt-ltb}
use Rattle.std.proofs.lemmas.Bool.Decides.{nat_tests}
use Rattle.std.proofs.lemmas.List.{take_all}
use Rattle.suffix_list.specs.Suffix.{labels_of}
use Rattle.suffix_list.specs.Names.{inner_labels, marks_at, plain_rule}
use Rattle.suffix_list.proofs.PassLemmas.{adds, excepts, exception_more, rule_more, prevailing_found}
use Rattle.suffix_list.proofs.LookupLemmas.{longest_last}
use Rattle.suffix_list.proofs.EndLemmas.{label_before, at_last}
use Rattle.suffix_list.proofs.marks.suffix_labels.Goals as goal

pub labels-init : goal.labels-init
labels-init c =
    let names = c.args.names.now in
    let host = c.args.host.now in
    let start = c.label_start-start.result in
    let label = drop start host in
    let all : take (length host) host ≡ host = take_all (length host) host (omega arith) in
    let one : labels_of label ≡ label ∷ [] = rw all at c.label_start-start.ensures.label in
    let is : c.marks_of-here.result ≡ marks_at names label = c.marks_of-here.ensures ∙ ap (marks_at names) c.name_from.ensures in
    let counted : 1 ≡ length (labels_of label) = sym (ap length one) in
    record {
      begins = c.label_start-start.ensures.begins;
      room = omega (arith, c.label_start-start.ensures.within);
      here = is;
      count = counted;
      exceptions = λ kept tells. c.count_if-exception.ensures ∙ ap (λ m. cond m.is_exception 1 0) is
          ∙ exception_more names kept label label [] 0 1 tells one counted refl;
      rules = λ kept tells. sym (longest_last adds (map plain_rule kept) (labels_of label) label one);
    }

some_start : (start : ℕ) (b : Bool) → (nat_lt 0 start && b) ≡ true → 0 < start
some_start start b is = let parts = and_parts (nat_lt 0 start) b is in grind (arith, nat_tests, parts.0)

pub label_start-start-requires-in-labels : goal.label_start-start-requires-in-labels
label_start-start-requires-in-labels c = omega (arith, c.labels.invariant.room)

pub overflow_add-count : goal.overflow_add-count
overflow_add-count c =
    let some = some_start c.labels.start (c.labels.here.is_inner || nat_lt inner_labels c.labels.count) (sym c.goes_on.ensures ∙ c.labels-test.true) in
    omega (arith, c.labels.invariant.room, some)

pub labels-smaller : goal.labels-smaller
labels-smaller c =
    let some = some_start c.labels.start (c.labels.here.is_inner || nat_lt inner_labels c.labels.count) (sym c.goes_on.ensures ∙ c.labels-test.true) in
    omega (arith, c.label_start-start-in-labels.ensures.within, some)

pub labels-preserved : goal.labels-preserved
labels-preserved c =
    let names = c.args.names.now in
    let host = c.args.host.now in
    let start = c.labels.start in
    let before = c.label_start-start-in-labels.result in
    let some = some_start start (c.labels.here.is_inner || nat_lt inner_labels c.labels.count) (sym c.goes_on.ensures ∙ c.labels-test.true) in
    let label = drop before (take (start - 1) host) in
    let split : labels_of (drop before host) ≡ label ∷ labels_of (drop start host) =
    label_before host start before c.labels.invariant.begins some c.label_start-start-in-labels.ensures.within c.label_start-start-in-labels.ensures.label in
    let is : c.marks_of-here-in-labels.result ≡ marks_at names (drop before host) = c.marks_of-here-in-labels.ensures ∙ ap (marks_at names) c.name_from-in-labels.ensures in
    let counted : c.labels.count + 1 ≡ length (labels_of (drop before host)) = omega (arith, ap length split, c.labels.invariant.count) in
    record {
      begins = c.label_start-start-in-labels.ensures.begins;
      room = omega (arith, c.label_start-start-in-labels.ensures.within, some, c.labels.invariant.room);
      here = is;
      count = counted;
      exceptions = λ kept tells. c.count_if-exception-in-labels.ensures ∙ ap (λ m. cond m.is_exception (c.labels.count + 1) c.labels.exception) is
          ∙ exception_more names kept (drop before host) label (labels_of (drop start host)) c.labels.exception (c.labels.count + 1) tells split counted (c.labels.invariant.exceptions kept tells);
      rules = λ kept tells. c.count_if-longest.ensures
          ∙ ap (λ b. cond b (c.labels.count + 1) c.labels.longest) c.has_rule.ensures
          ∙ (λ i. cond ((is i).is_rule || (c.labels.invariant.here i).is_parent) (c.labels.count + 1) c.labels.longest)
          ∙ rule_more names kept (drop before host) label (drop start host) c.labels.longest (c.labels.count + 1) tells split counted (c.labels.invariant.rules kept tells);
    }

pub returns-then-exception-gt0 : goal.returns-then-exception-gt0
returns-then-exception-gt0 c = λ kept tells.
    let ends = sym c.goes_on.ensures ∙ c.labels-test.false in
    let inv = c.labels.invariant in
    sym (ap (λ b. cond b (c.labels.exception - 1) c.labels.longest) (lt-ltb 0 c.labels.exception c.if-exception-gt0.true))
    ∙ prevailing_found kept c.args.host.now c.labels.exception c.labels.longest
    (inv.exceptions kept tells ∙ at_last excepts c.args.names.now kept c.args.host.now c.labels.start c.labels.count c.labels.here tells inv.begins inv.here inv.count ends)
    (inv.rules kept tells ∙ ap (λ n. max 1 n) (at_last adds c.args.names.now kept c.args.host.now c.labels.start c.labels.count c.labels.here tells inv.begins inv.here inv.count ends))

pub returns-else-exception-gt0 : goal.returns-else-exception-gt0
returns-else-exception-gt0 c = λ kept tells.
    let none : nat_lt 0 c.labels.exception ≡ false = grind (arith, nat_tests, c.if-exception-gt0.false) in
    let ends = sym c.goes_on.ensures ∙ c.labels-test.false in
    let inv = c.labels.invariant in
    sym (ap (λ b. cond b (c.labels.exception - 1) c.labels.longest) none)
    ∙ prevailing_found kept c.args.host.now c.labels.exception c.labels.longest
    (inv.exceptions kept tells ∙ at_last excepts c.args.names.now kept c.args.host.now c.labels.start c.labels.count c.labels.here tells inv.begins inv.here inv.count ends)
    (inv.rules kept tells ∙ ap (λ n. max 1 n) (at_last adds c.args.names.now kept c.args.host.now c.labels.start c.labels.count c.labels.here tells inv.begins inv.here inv.count ends))
