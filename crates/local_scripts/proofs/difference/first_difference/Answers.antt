use Rattle.std.proofs.Common.{◌≡◌, ℕ, map, take, subst, Some, ap, sym, ◌∙◌, arith}
use Rattle.std.proofs.lemmas.List.{length-map}
use Rattle.local_scripts.specs.Items.{item_of}
use Rattle.local_scripts.proofs.FrontLemmas.{fronts_more, read_at, ends_differ}
use Rattle.local_scripts.proofs.difference.first_difference.Goals as goal

pub loop-place-preserved : goal.loop-place-preserved
loop-place-preserved c =
    let place = c.loop-place.place in
    fronts_more (map item_of c.args.a.now) (map item_of c.args.b.now) place c.loop-place.invariant
    (read_at item_of c.args.a.now place c.index-a-place.result (omega arith) c.index-a-place.is
    ∙ ap Some (c.same_item.ensures.same.0 c.if-not-same_item.false)
    ∙ sym (read_at item_of c.args.b.now place c.index-b-place.result (omega arith) c.index-b-place.is))

pub returns-else-a-b : goal.returns-else-a-b
returns-else-a-b c =
    let xs = map item_of c.args.a.now in
    let ys = map item_of c.args.b.now in
    let place = c.min-shorter.result in
    let reached : c.loop-place.place ≡ place = omega (arith, c.loop-place-test.false, c.loop-place.auto.place-end) in
    record {
      first = record {
        fronts = subst (λ (k : ℕ). take k xs ≡ take k ys) reached c.loop-place.invariant;
        items = ends_differ xs ys place (rw (length-map c.args.a.now item_of, length-map c.args.b.now item_of) c.min-shorter.ensures)
            (rw (length-map c.args.a.now item_of, length-map c.args.b.now item_of) c.if-a-b.false);
      };
    }
