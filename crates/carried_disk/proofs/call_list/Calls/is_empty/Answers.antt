use Rattle.std.proofs.Common.{arith, ap, ◌∙◌, sym}
use Rattle.disk_model.proofs.Records.{vec_len-items}
use Rattle.carried_disk.specs.CallBuffers.{CallList}
use Rattle.carried_disk.proofs.CallLemmas.{none_left, left_none}
use Rattle.carried_disk.proofs.call_list.Calls.is_empty.Goals as goal

pub returns : goal.returns
returns c =
    let i = c.self.inside in
    let is = ap (λ (l : CallList). l.left) c.self.view_is in (
      λ e. sym is ∙ none_left i.calls.items i.bytes.items i.next i.from c.len.result (omega (arith, vec_len-items i.calls, c.len.ensures)) e,
      λ e. left_none i.calls.items i.bytes.items i.next i.from c.len.result (omega (arith, vec_len-items i.calls, c.len.ensures)) (omega (arith, c.len.ensures, c.self.invariant.0)) (is ∙ e),
    )
