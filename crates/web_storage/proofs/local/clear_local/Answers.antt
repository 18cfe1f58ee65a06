-- An area that is there is emptied, and where there is none it is empty already.
use Rattle.std.proofs.Common.{◌≡◌, ap, sym, [], true, ◌∙◌}
use Rattle.std.specs.Prelude.{is_some, unwrap_or}
use Rattle.unwinding.specs.FiniteCells.{get_cell, set_cell}
use Rattle.storage_key.specs.Key.{key_order}
use Rattle.storage_key.specs.Plain.{plain_key}
use Rattle.storage_key.proofs.OrderLemmas.{key_order_total, key_order_same}
use Rattle.key_map.specs.Entries.{map_get}
use Rattle.buckets.specs.Shed.{with_pairs}
use Rattle.web_storage.specs.Stored.{areas_in, keys_in}
use Rattle.web_storage.proofs.OrderOfKeys.{order, alike}
use Rattle.web_storage.proofs.HeldLemmas.{area_or, some_area}
use Rattle.web_storage.proofs.SessionWrites.{cell_itself}
use Rattle.web_storage.proofs.WriteLemmas.{dropped_same, held_found, pairs_written}
use Rattle.web_storage.proofs.local.clear_local.Goals as goal
use Rattle.web_storage.proofs.local.clear_local.Goals.{in-Some, in-None}

pub returns-clause-areas : goal.returns-clause-areas
returns-clause-areas c =
    let shed = c.args.shed.now in
    let key = plain_key c.args.key.now in
    ap areas_in c.drop_fresh.ensures.dropped ∙ (dropped_same order alike c.args.key.now c.match-area_mut.shed).0
    ∙ elim c.match-area_mut.branch [
      | in-Some w ↦
          let there : is_some (map_get order c.args.key.now shed) ≡ true =
          some_area (map_get order c.args.key.now shed) (ap is_some (sym w.in-Some.ensures.area)) in
          let is : c.area_mut.follows.lender w.clear.new.self ≡ with_pairs order c.args.key.now w.clear.new.self shed =
          rw w.in-Some.is at (c.area_mut.follows.holds w.clear.new.self) in
          ap areas_in w.shed-is ∙ ap areas_in is ∙ (pairs_written order alike c.args.key.now w.clear.new.self shed there).0
          ∙ ap (λ pairs. set_cell key_order key pairs (areas_in shed)) w.clear.ensures.empty
      | in-None w ↦
          let none : get_cell key_order (areas_in shed) key ≡ [] =
          sym (held_found order alike c.args.key.now shed) ∙ sym (area_or (map_get order c.args.key.now shed))
          ∙ ap (λ o. unwrap_or o []) (sym w.in-None.ensures.area) in
          ap areas_in w.shed-is ∙ ap areas_in c.area_mut.follows.holds-at-none
          ∙ sym (cell_itself key_order key_order_total key_order_same key (areas_in shed))
          ∙ ap (λ pairs. set_cell key_order key pairs (areas_in shed)) none
    ]

pub returns-clause-modes : goal.returns-clause-modes
returns-clause-modes c =
    let shed = c.args.shed.now in
    ap keys_in c.drop_fresh.ensures.dropped ∙ (dropped_same order alike c.args.key.now c.match-area_mut.shed).1
    ∙ elim c.match-area_mut.branch [
      | in-Some w ↦
          let there : is_some (map_get order c.args.key.now shed) ≡ true =
          some_area (map_get order c.args.key.now shed) (ap is_some (sym w.in-Some.ensures.area)) in
          let is : c.area_mut.follows.lender w.clear.new.self ≡ with_pairs order c.args.key.now w.clear.new.self shed =
          rw w.in-Some.is at (c.area_mut.follows.holds w.clear.new.self) in
          ap keys_in w.shed-is ∙ ap keys_in is ∙ (pairs_written order alike c.args.key.now w.clear.new.self shed there).1
      | in-None w ↦ ap keys_in w.shed-is ∙ ap keys_in c.area_mut.follows.holds-at-none
    ]
