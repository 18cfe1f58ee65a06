use Rattle.std.proofs.Common.{List, ℕ, ◌≤◌, length, sym, subst}
use Rattle.disk_model.specs.Image.{greatest_end}
use Rattle.disk_model.proofs.Placed.{placed_shorter}
use Rattle.disk_model.proofs.medium.Medium.restart.Goals as goal

pub recover-requires : goal.recover-requires
recover-requires c =
    let i = c.self.inside in
    let k = c.self.invariant.0 in
    record {
      within = subst (λ (r : List (ℕ × ℕ)). greatest_end 0 r ≤ length i.contents.items) (sym c.deref_mut.ensures.value) k.within;
      shorter = λ e. let placed = rw e at k.placed in placed_shorter i.synced.items i.contents.items i.contents.items i.ranges.items placed;
      untouched = λ e. let none = k.untouched e in rw c.deref_mut.ensures.value none;
    }
