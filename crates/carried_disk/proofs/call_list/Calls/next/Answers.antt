use Rattle.std.proofs.Common.{◌≡◌, ◌+◌, ◌-◌, ◌<◌, ◌∷◌, List, ℕ, suc, take, drop, length, arith, ap, ◌∙◌, sym, subst, get_or}
use Rattle.disk_model.specs.History.{Event, wrote}
use Rattle.carried_disk.specs.declared.call_list.ListedCall.{ListedCall}
use Rattle.carried_disk.specs.declared.call_list.ListedCall.TheVariants as listed
use Rattle.carried_disk.specs.CallBuffers.{CallList, events_of}
use Rattle.carried_disk.proofs.CallLemmas.{listed_next}
use Rattle.carried_disk.proofs.call_list.Calls.next.Goals as goal

pub returns-in-Write : goal.returns-in-Write
returns-in-Write c =
    let i = c.self.inside in
    let at = c.in-Write.at in
    let len = c.in-Write.len in
    let look = c.in_ok-at.ensures.lookup in
    let below : i.next < length i.calls.items = omega (arith, look.3.0, ap length c.deref.ensures.value) in
    let P : List ListedCall → Type 0 = λ l. listed.Write at len ≡ get_or l i.next (listed.Write at len) in
    let there : P i.calls.items = subst P c.deref.ensures.value (sym c.in-Write.is ∙ look.3.1 (listed.Write at len)) in
    let rest : List Event = events_of (drop (suc i.next) i.calls.items) (drop len (drop i.from i.bytes.items)) in
    let size : len ≡ i.from + len - i.from = omega arith in (
      rest,
      sym (ap (λ (l : CallList). l.left) c.self.view_is)
          ∙ ap (λ (l : List ListedCall). events_of l (drop i.from i.bytes.items)) (listed_next i.calls.items i.next (listed.Write at len) below there)
          ∙ ap (λ (k : ℕ). wrote at (take k (drop i.from i.bytes.items)) ∷ rest) size
          ∙ ap (λ (l : List ℕ). wrote at (take (i.from + len - i.from) (drop i.from l)) ∷ rest) (sym c.deref-in-Write.ensures.value),
    )

pub returns-in-Sync : goal.returns-in-Sync
returns-in-Sync c =
    let i = c.self.inside in
    let look = c.in_ok-at.ensures.lookup in
    let below : i.next < length i.calls.items = omega (arith, look.3.0, ap length c.deref.ensures.value) in
    let P : List ListedCall → Type 0 = λ l. listed.Sync ≡ get_or l i.next listed.Sync in
    let there : P i.calls.items = subst P c.deref.ensures.value (sym c.in-Sync.is ∙ look.3.1 listed.Sync) in (
      events_of (drop (suc i.next) i.calls.items) (drop i.from i.bytes.items),
      sym (ap (λ (l : CallList). l.left) c.self.view_is)
          ∙ ap (λ (l : List ListedCall). events_of l (drop i.from i.bytes.items)) (listed_next i.calls.items i.next listed.Sync below there),
    )
