use Rattle.std.proofs.Common.{◌≡◌, ◌++◌, ◌∷◌, [], List, drop, length, arith, ap, ◌∙◌, ◌≤◌}
use Rattle.std.proofs.lemmas.List.{drop-append-le}
use Rattle.disk_model.specs.History.{synced}
use Rattle.disk_model.proofs.Records.{vec_len-items}
use Rattle.carried_disk.specs.declared.call_list.ListedCall.{ListedCall}
use Rattle.carried_disk.specs.declared.call_list.ListedCall.TheVariants as listed
use Rattle.carried_disk.specs.CallBuffers.{CallList, events_of, written}
use Rattle.carried_disk.proofs.CallLemmas.{written_push, events_sync}
use Rattle.carried_disk.proofs.call_list.Calls.push_sync.Goals as goal

pub invariant_of-self : goal.invariant_of-self
invariant_of-self c =
    let i = c.self.inside in
    let within : i.next ≤ length i.calls.items = omega (arith, vec_len-items i.calls, c.self.invariant.0) in
    let calls : drop i.next c.push_reserved.new.self.items ≡ drop i.next i.calls.items ++ listed.Sync ∷ [] =
    ap (λ (l : List ListedCall). drop i.next l) c.push_reserved.ensures.items ∙ drop-append-le i.next i.calls.items (listed.Sync ∷ []) within in (
      omega (arith, c.self.invariant.0, c.push_reserved.ensures.len),
      c.self.invariant.1,
      omega (arith, ap written calls, written_push (drop i.next i.calls.items) listed.Sync, c.self.invariant.2),
    )

pub returns-clause-left : goal.returns-clause-left
returns-clause-left c =
    let i = c.self.inside in
    let within : i.next ≤ length i.calls.items = omega (arith, vec_len-items i.calls, c.self.invariant.0) in
    let calls : drop i.next c.push_reserved.new.self.items ≡ drop i.next i.calls.items ++ listed.Sync ∷ [] =
    ap (λ (l : List ListedCall). drop i.next l) c.push_reserved.ensures.items ∙ drop-append-le i.next i.calls.items (listed.Sync ∷ []) within in
    ap (λ (l : List ListedCall). events_of l (drop i.from i.bytes.items)) calls
    ∙ events_sync (drop i.next i.calls.items) (drop i.from i.bytes.items)
    ∙ ap (λ (l : CallList). l.left ++ synced ∷ []) c.self.view_is
