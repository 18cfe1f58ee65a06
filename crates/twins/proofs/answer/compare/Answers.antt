use Rattle.std.proofs.Common.{map, [], ◌∷◌, sym, ap, ◌∙◌, arith}
use Rattle.local_scripts.specs.Items.{item_of}
use Rattle.script_courses.specs.Twins.{acknowledged_in}
use Rattle.twins.specs.Scripts.{end_in, entries_in}
use Rattle.twins.proofs.CountLemmas.{acknowledged_append, same_end}
use Rattle.twins.proofs.answer.compare.Goals as goal

pub acknowledged-requires : goal.acknowledged-requires
acknowledged-requires c =
    let one = c.args.one.now in
    record {
      few = omega (
        arith,
        acknowledged_append (entries_in one) (end_in one ∷ []),
        c.requires.few,
        ap (λ items. acknowledged_in (map item_of items)) c.deref-3.ensures.value,
      );
    }

pub overflow_add-result : goal.overflow_add-result
overflow_add-result c =
    let one = c.args.one.now in
    omega (
      arith,
      acknowledged_append (entries_in one) (end_in one ∷ []),
      c.requires.few,
      c.acknowledged.ensures.count,
      ap (λ items. acknowledged_in (map item_of items)) c.deref-3.ensures.value,
    )

pub returns : goal.returns
returns c =
    let one = c.args.one.now in
    let other = c.args.other.now in
    record {
      compares = (
        ap (map item_of) (sym c.deref.ensures.value) ∙ c.in_default.ensures.first ∙ ap (map item_of) c.deref-2.ensures.value,
        same_end one.end.moment other.end.moment one.end.acknowledged other.end.acknowledged one.end.kept
            other.end.kept (sym c.ne.ensures ∙ c.if-ne.false),
        omega (
          arith,
          acknowledged_append (entries_in one) (end_in one ∷ []),
          c.acknowledged.ensures.count,
          ap (λ items. acknowledged_in (map item_of items)) c.deref-3.ensures.value,
        ),
      );
    }
