use Rattle.std.proofs.Common.{◌≡◌, ◌++◌, ◌∷◌, ◌+◌, [], take, ap, sym, ◌∙◌, subst}
use Rattle.std.specs.Prelude.{map}
use Rattle.std.specs.List.{All}
use Rattle.std.proofs.lemmas.List.{map-append, take_all, take_more}
use Rattle.std.proofs.lemmas.List.Elements.{All-push}
use Rattle.row_changes.specs.Appended.{HasTexts}
use Rattle.row_changes.specs.Body.{rows_bytes}
use Rattle.row_changes.specs.Plain.{plain_change, plain_ref}
use Rattle.row_changes.specs.Spelling.{change_bytes}
use Rattle.row_changes.proofs.WritingLemmas.{grown_then, rows_joined}
use Rattle.row_changes.proofs.writing.put_rows.Goals as goal

pub loop-change-preserved : goal.loop-change-preserved
loop-change-preserved c =
    let changes = c.args.changes.now in
    let index = c.loop-change.change-index in
    let before = map plain_change (take index changes) in
    let change = plain_change c.change-item.result in
    let same : plain_ref c.borrowed.result ≡ change = c.borrowed.ensures.same in
    let more : map plain_change (take (index + 1) changes) ≡ before ++ change ∷ [] =
    ap (map plain_change) (take_more changes index c.change-item.result c.loop-change-test.true ∙ ap (λ x. take index changes ++ x ∷ []) (sym c.change-item.is))
    ∙ map-append plain_change (take index changes) (c.change-item.result ∷ []) in
    record {
      bytes = rows_joined before change c.args.out.now.items c.loop-change.out.items c.put_change.new.out.items c.loop-change.invariant.bytes
          (c.in_ok-put_change.ensures.bytes ∙ ap (λ x. c.loop-change.out.items ++ change_bytes x) same)
          ∙ ap (λ x. c.args.out.now.items ++ rows_bytes x) (sym more);
      texts = subst (All HasTexts) (sym more) (All-push HasTexts before change c.loop-change.invariant.texts (subst HasTexts same c.in_ok-put_change.ensures.texts));
      front = grown_then c.loop-change.invariant.front c.in_ok-put_change.ensures.front;
    }

pub returns-clause-texts : goal.returns-clause-texts
returns-clause-texts c =
    subst (λ x. All HasTexts (map plain_change x)) (take_all c.loop-change.change-index c.args.changes.now c.loop-change-test.false) c.loop-change.invariant.texts
