-- A file means one thing.
use Rattle.std.proofs.Common.{◌≡◌, ℕ, true, false, List, inl, inr, sym, subst, ◌∙◌}
use Rattle.journal.specs.Frame.{Frame}
use Rattle.journal.specs.Opening.{IsWithin}
use Rattle.journal.specs.Region.{Runs}
use Rattle.journal.specs.declared.open_fault.OpenFault.TheVariants.{NotAStore}
use Rattle.journal.proofs.Refusals.{runs_unique, store_born, store_is_born, store_right}
use Rattle.journal.proofs.Unique.{store_unique}
use Rattle.durable_model.specs.Saved.{Saved, nothing_saved}
use Rattle.row_store.specs.Bodies.{Refuses, Takes}
use Rattle.row_store.specs.FileLaws.{FilesMeanOne, StoresHaveNoFault, StoresMeanOne}
use Rattle.row_store.specs.OneMeaning.{apart, one_count, one_fault, one_state}

-- frames lead to one state
frames_lead : (frames : List Frame) (d e : Saved) (m n : ℕ) → Runs Takes true nothing_saved 0 frames d m
    → Runs Takes true nothing_saved 0 frames e n → (d ≡ e) × (m ≡ n)
frames_lead frames d e m n =
    runs_unique Takes Refuses nothing_saved one_state one_count one_fault apart frames true nothing_saved d e 0 m n

pub stores_mean_one : StoresMeanOne
stores_mean_one digest other file d e m n one two =
    let same = store_unique digest other file one.0 two.0 one.1 two.1 in
    let led = frames_lead two.0 d e m n (subst (λ frames. Runs Takes true nothing_saved 0 frames d m) same.0 one.2) two.2 in
    (same.1, led.0, led.1)

pub files_mean_one : FilesMeanOne
files_mean_one digest other file d e m n (inl one) (inl two) =
    let same = stores_mean_one digest other file d e m n one two in (same.1, same.2)
files_mean_one digest other file d e m n (inl one) (inr two) = absurd (store_is_born digest file one.0 one.1 two.0)
files_mean_one digest other file d e m n (inr one) (inl two) = absurd (store_is_born other file two.0 two.1 one.0)
files_mean_one digest other file d e m n (inr one) (inr two) = (one.1 ∙ sym two.1, one.2 ∙ sym two.2)

pub stores_have_no_fault : StoresHaveNoFault
stores_have_no_fault digest file d n offset stands fault =
    let born = store_born digest file stands.0 stands.1 in
    store_right Takes Refuses nothing_saved one_state one_count one_fault apart false digest file stands.0 d n
    (NotAStore offset) any_length stands.1 stands.2 (any_length, born.0, born.1, fault)
  where
    any_length : IsWithin false file
    any_length off = cc
