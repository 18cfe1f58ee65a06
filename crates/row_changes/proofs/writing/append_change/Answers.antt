use Rattle.std.proofs.Common.{◌≡◌, ◌++◌, ◌∷◌, [], ap, sym, append-nil, arith, rules}
use Rattle.std.specs.Int.{w32, to_le_bytes}
use Rattle.std.proofs.lemmas.Result.{on_ok_weaker}
use Rattle.row_changes.specs.Plain.{plain_ref}
use Rattle.row_changes.specs.Spelling.{change_bytes}
use Rattle.row_changes.proofs.WritingLemmas.{appended_by, front_kept, grown_by, one_has_texts}
use Rattle.row_changes.proofs.writing.append_change.Goals as goal

pub returns-in_err-extend_from_slice : goal.returns-in_err-extend_from_slice
returns-in_err-extend_from_slice c = record {
  appended = front_kept (plain_ref c.args.change ∷ []) c.args.out.now.items c.extend_from_slice.new.self.items c.from_residual.result c.from_residual.ensures.0
      (grown_by _ c.extend_from_slice.result c.extend_from_slice.ensures.items);
}

pub returns : goal.returns
returns c =
    let change = plain_ref c.args.change in
    let first : c.extend_from_slice.new.self.items ≡ c.args.out.now.items ++ to_le_bytes w32 1 = search rules in
    record {
      appended = appended_by (change ∷ []) c.args.out.now.items c.extend_from_slice.new.self.items c.put_change.new.out.items (to_le_bytes w32 1) (change_bytes change) c.put_change.result
          first
          c.put_change.ensures.bytes
          (on_ok_weaker c.put_change.result (one_has_texts change) c.put_change.ensures.texts)
          c.put_change.ensures.front
          (ap (λ x. to_le_bytes w32 1 ++ x) (sym (append-nil (change_bytes change))))
          (omega arith);
    }
