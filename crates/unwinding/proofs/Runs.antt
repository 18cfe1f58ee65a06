-- The machine of one site over entries, one part after another.
use Rattle.std.proofs.Common.{◌≡◌, List, [], ◌∷◌, ◌++◌, refl, sym, ap, ◌∙◌, append_assoc}
use Rattle.unwinding.specs.Machine.{Machine}
use Rattle.unwinding.specs.LocalEntries.{EntryOf}
use Rattle.unwinding.specs.OneSite.{OwnOf, own_step, own_reply, entry_replies, own_after}

module _ {Site Cell Cells Partition Content Rest Line Event Reply Change : Type 0}
    (m : Machine Site Cell Cells Partition Content Rest Line Event Reply Change) where
  pub run_append : (s : Site) (own : OwnOf m) (es fs : List (EntryOf m)) → entry_replies m s own (es ++ fs) ≡ entry_replies m s own es ++ entry_replies m s (own_after m s own es) fs
  run_append s own [] fs = refl
  run_append s own (e ∷ es) fs = ap (λ x. own_reply m s own e ++ x) (run_append s (own_step m s own e) es fs) ∙ sym (append_assoc (own_reply m s own e) (entry_replies m s (own_step m s own e) es) _)

  pub after_append : (s : Site) (own : OwnOf m) (es fs : List (EntryOf m)) → own_after m s own (es ++ fs) ≡ own_after m s (own_after m s own es) fs
  after_append s own [] fs = refl
  after_append s own (e ∷ es) fs = after_append s (own_step m s own e) es fs
