use Rattle.std.proofs.Common.{◌≡◌, ◌+◌, ◌++◌, ◌∷◌, [], List, ℕ, drop, length, arith, ap, ◌∙◌, ◌≤◌, length-append}
use Rattle.std.specs.Prelude.{vec_len, vec_capacity}
use Rattle.std.proofs.lemmas.List.{drop-append-le}
use Rattle.disk_model.specs.History.{wrote}
use Rattle.disk_model.proofs.Records.{vec_len-items}
use Rattle.carried_disk.specs.declared.call_list.ListedCall.{ListedCall}
use Rattle.carried_disk.specs.declared.call_list.ListedCall.TheVariants as listed
use Rattle.carried_disk.specs.CallBuffers.{CallList, events_of, written}
use Rattle.carried_disk.proofs.CallLemmas.{written_push, events_write, is_extended}
use Rattle.carried_disk.proofs.call_list.Calls.push_write.Goals as goal

pub invariant_of-self : goal.invariant_of-self
invariant_of-self c =
    let i = c.self.inside in
    let b = c.args.bytes.now in
    let room : vec_len i.bytes + length b ≤ vec_capacity i.bytes = omega (arith, ap (λ (l : CallList). l.byte_room) c.self.view_is, c.requires.byte_room) in
    let bytes : c.extend_from_slice.new.self.items ≡ i.bytes.items ++ b = is_extended c.extend_from_slice.result i.bytes.items b c.extend_from_slice.new.self.items c.extend_from_slice.ensures.items (c.extend_from_slice.ensures.succeeds room) in
    let within : i.next ≤ length i.calls.items = omega (arith, vec_len-items i.calls, c.self.invariant.0) in
    let within_bytes : i.from ≤ length i.bytes.items = omega (arith, vec_len-items i.bytes, c.self.invariant.1) in
    let more = listed.Write c.args.at (length b) in
    let calls : drop i.next c.push_reserved.new.self.items ≡ drop i.next i.calls.items ++ more ∷ [] =
    ap (λ (l : List ListedCall). drop i.next l) c.push_reserved.ensures.items ∙ drop-append-le i.next i.calls.items (more ∷ []) within in
    let rest : drop i.from c.extend_from_slice.new.self.items ≡ drop i.from i.bytes.items ++ b =
    ap (λ (l : List ℕ). drop i.from l) bytes ∙ drop-append-le i.from i.bytes.items b within_bytes in (
      omega (arith, c.self.invariant.0, c.push_reserved.ensures.len),
      omega (arith, within_bytes, vec_len-items c.extend_from_slice.new.self, ap length bytes, length-append i.bytes.items b),
      omega (arith, ap written calls, written_push (drop i.next i.calls.items) more, c.self.invariant.2, ap length rest, length-append (drop i.from i.bytes.items) b),
    )

pub returns-clause-left : goal.returns-clause-left
returns-clause-left c =
    let i = c.self.inside in
    let b = c.args.bytes.now in
    let room : vec_len i.bytes + length b ≤ vec_capacity i.bytes = omega (arith, ap (λ (l : CallList). l.byte_room) c.self.view_is, c.requires.byte_room) in
    let bytes : c.extend_from_slice.new.self.items ≡ i.bytes.items ++ b = is_extended c.extend_from_slice.result i.bytes.items b c.extend_from_slice.new.self.items c.extend_from_slice.ensures.items (c.extend_from_slice.ensures.succeeds room) in
    let within : i.next ≤ length i.calls.items = omega (arith, vec_len-items i.calls, c.self.invariant.0) in
    let within_bytes : i.from ≤ length i.bytes.items = omega (arith, vec_len-items i.bytes, c.self.invariant.1) in
    let more = listed.Write c.args.at (length b) in
    let calls : drop i.next c.push_reserved.new.self.items ≡ drop i.next i.calls.items ++ more ∷ [] =
    ap (λ (l : List ListedCall). drop i.next l) c.push_reserved.ensures.items ∙ drop-append-le i.next i.calls.items (more ∷ []) within in
    let rest : drop i.from c.extend_from_slice.new.self.items ≡ drop i.from i.bytes.items ++ b =
    ap (λ (l : List ℕ). drop i.from l) bytes ∙ drop-append-le i.from i.bytes.items b within_bytes in
    ap (λ (l : List ListedCall). events_of l (drop i.from c.extend_from_slice.new.self.items)) calls
    ∙ ap (λ (l : List ℕ). events_of (drop i.next i.calls.items ++ more ∷ []) l) rest
    ∙ events_write (drop i.next i.calls.items) (drop i.from i.bytes.items) c.args.at b c.self.invariant.2
    ∙ ap (λ (l : CallList). l.left ++ wrote c.args.at b ∷ []) c.self.view_is
