-- What the buffers of a disk in memory hold after each change.
use Rattle.std.proofs.Common.{◌≡◌, inl, ℕ, ◌+◌, ◌≤◌, Bool, true, false, List, [], ◌∷◌, ◌++◌, length, take, drop, arith, refl, sym, ◌∙◌, ap, length-append, length-take, length-drop}
use Rattle.std.specs.Prelude.{Vec, vec_len, nat_le, max, if◌then◌else◌}
use Rattle.std.specs.declared.alloc.Global.{Global}
use Rattle.disk_model.specs.History.{Held, Event, wrote, synced, missed, overlaid, after, replay, at_first, Grows}
use Rattle.disk_model.specs.MediumBuffers.{AreBuffersOf, unless_fresh}
use Rattle.disk_model.specs.ImageLaws.{end_push}
use Rattle.disk_model.specs.Laws.{overlaid-written}
use Rattle.disk_model.proofs.Past.{replay-push}
use Rattle.disk_model.proofs.Placed.{none_placed, placed_write}

overlaid_len : (file : List ℕ) (at : ℕ) (bytes : List ℕ) → at ≤ length file → length (overlaid file at bytes) ≡ max (length file) (at + length bytes)
overlaid_len file at bytes le = (overlaid-written file at bytes le).len

module _ (contents synced_bytes : List ℕ) (fresh : Bool) (ranges : List (ℕ × ℕ)) (first : List ℕ) (events : List Event) (kept : AreBuffersOf contents synced_bytes fresh ranges first events) where
  replayed : (e : Event) → replay (at_first first) (events ++ e ∷ []) ≡ after (record { contents = contents; synced = unless_fresh fresh contents synced_bytes; ranges = ranges }) e
  replayed e = replay-push (at_first first) events e ∙ ap (λ (h : Held). after h e) kept.replayed

  pub kept_write : (at : ℕ) (bytes : List ℕ) → at ≤ length contents
      → AreBuffersOf (overlaid contents at bytes) (unless_fresh fresh contents synced_bytes) false (ranges ++ (at, length bytes) ∷ []) first (events ++ wrote at bytes ∷ [])
  kept_write at bytes place = record {
    replayed = replayed (wrote at bytes);
    within = omega (arith, end_push 0 ranges at (length bytes), kept.within, overlaid_len contents at bytes place);
    placed = placed_write (unless_fresh fresh contents synced_bytes) contents (overlaid contents at bytes) ranges at bytes place (overlaid-written contents at bytes place) kept.placed;
    untouched = λ e. absurd (cc);
  }

  pub kept_sync : (now : List ℕ) → unless_fresh fresh contents now ≡ contents → AreBuffersOf contents now fresh [] first (events ++ synced ∷ [])
  kept_sync now is_synced = record {
    replayed = replayed synced ∙ ap (λ (l : List ℕ). record { contents = contents; synced = l; ranges = [] }) (sym is_synced);
    within = omega arith;
    placed = rw is_synced (none_placed contents contents);
    untouched = λ e. refl;
  }

  pub kept_miss : AreBuffersOf contents synced_bytes fresh ranges first (events ++ missed ∷ [])
  kept_miss = record { replayed = replayed missed; within = kept.within; placed = kept.placed; untouched = kept.untouched }

-- the past has grown by this event
pub grown : (first : List ℕ) (events : List Event) (end writes end' writes' : ℕ) (e : Event)
    → Grows (record { first = first; events = events; room_end = end; room_writes = writes })
    (record { first = first; events = events ++ e ∷ []; room_end = end'; room_writes = writes' })
    (after (replay (at_first first) events) e)
grown first events end writes end' writes' e = record {
  first = refl;
  events = inl (e, refl);
  stands = replay-push (at_first first) events e;
}

pub length-overlaid : (file : List ℕ) (at : ℕ) (bytes : List ℕ) (end : ℕ) → length file ≤ end → at + length bytes ≤ end → length (overlaid file at bytes) ≤ end
unfolding overlaid
length-overlaid file at bytes end le fits = elim (nat_le at (length file)) as (λ b. length (if b then take at file ++ bytes ++ drop (at + length bytes) file else file) ≤ end) [
  | true ↦ simp (length-append, length-take, length-drop) (omega arith)
  | false ↦ le
]

pub vec_len-items : {A : Type 0} (v : Vec A Global) → vec_len v ≡ length v.items
vec_len-items v = omega (arith, v.ok.0)
