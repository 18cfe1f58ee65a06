-- What the store of an agent stands for.
use Rattle.std.proofs.Common.{◌≡◌, inl, ℕ, List, Some, true, sym, ap, subst, ◌∙◌}
use Rattle.std.specs.Prelude.{⊤, MatchResult, Result, unwrap_or}
use Rattle.std.specs.Result.{result_err, result_unwrap_or}
use Rattle.disk_model.specs.Disk.{LeavesOnly, Stays, View}
use Rattle.disk_model.specs.DiskLaws.{IsLawful}
use Rattle.journal.specs.Journal.{JournalView}
use Rattle.journal.specs.Opening.{FileMeans}
use Rattle.journal.specs.Region.{Runs, StandsForState}
use Rattle.journal.specs.Frame.{IsSecond}
use Rattle.journal.proofs.Moments.{started, stays_on}
use Rattle.journal.proofs.Refusals.{means_unique}
use Rattle.journal.proofs.Unique.{store_unique}
use Rattle.open_store.specs.Standing.{IsRoomier}
use Rattle.open_store.proofs.StoreLemmas as store
use Rattle.durable_model.specs.Saved.{Saved, nothing_saved}
use Rattle.row_store.specs.Bodies.{Counted, Refuses, Takes}
use Rattle.row_opening.specs.Opened.{IsAtBase}

-- a file stands for one state
means_one : (digest other file : List ℕ) (s t : Saved) (m n : ℕ)
    → FileMeans Takes nothing_saved digest file s m
    → FileMeans Takes nothing_saved other file t n → (s ≡ t) × (m ≡ n)
means_one =
    means_unique Takes Refuses nothing_saved
    (λ s kind body t u m n one two.
    ap (λ (r : Result Counted ℕ). (result_unwrap_or r (t, m)).0) (sym one ∙ two))
    (λ s kind body t u m n one two.
    ap (λ (r : Result Counted ℕ). (result_unwrap_or r (t, m)).1) (sym one ∙ two))
    (λ s kind body o p one two.
    ap (λ (r : Result Counted ℕ). unwrap_or (result_err r) o) (sym one ∙ two))
    (λ s kind body t n o took refused.
    subst (λ (r : Result Counted ℕ). MatchResult r (λ _. ⊤) (λ _. ⊥)) (sym took ∙ refused) tt)

pub stands_one : (digest file : List ℕ) (s t : Saved) (m n : ℕ)
    → StandsForState Takes nothing_saved digest file s m
    → StandsForState Takes nothing_saved digest file t n → (s ≡ t) × (m ≡ n)
stands_one digest file s t m n one two = means_one digest digest file s t m n (inl one) (inl two)

-- and under one list
pub one_store : (digest other file : List ℕ) (s t : Saved) (m n : ℕ)
    → StandsForState Takes nothing_saved digest file s m
    → StandsForState Takes nothing_saved other file t n → (digest ≡ other) × (s ≡ t)
one_store digest other file s t m n one two = (
  (store_unique digest other file one.0 two.0 one.1 two.1).1,
  (means_one digest other file s t m n (inl one) (inl two)).0,
)

pub contents_stand : (j : JournalView) (v : View) (base : Saved)
    → IsAtBase j v base → (c : List ℕ) → v.contents ≡ Some c
    → StandsForState Takes nothing_saved j.digest c base j.changes
contents_stand j v base at = store.contents_stand Takes nothing_saved j v base at

pub images_stand : (j : JournalView) (v : View) (base : Saved)
    → IsAtBase j v base → (c : List ℕ) → v.may_leave c
    → StandsForState Takes nothing_saved j.digest c base j.changes
images_stand j v base at = store.images_stand Takes nothing_saved j v base at

pub images_second : (j : JournalView) (v : View) (base : Saved)
    → IsAtBase j v base → (c : List ℕ) → v.may_leave c → IsSecond c
images_second j v base at = store.images_second Takes nothing_saved j v base at

-- nothing was done but that room was made
pub nothing_left : (v w : View) (P : List ℕ → Type 0) → IsLawful v → Stays v w
    → ((c : List ℕ) → v.may_leave c → P c) → LeavesOnly v w P
nothing_left v w P laws stays here = stays_on v v w P (started v P laws.only_now here) stays

-- room was made
pub roomier_base : (j k : JournalView) (v w : View) (base : Saved)
    → IsRoomier j k v w → IsAtBase j v base → IsAtBase k w base
roomier_base j k v w base roomier at = record {
  rests = roomier.rests at.rests;
  usable = ap (λ (i : JournalView). i.shut) roomier.journal ∙ at.usable;
  stands = λ c told.
      let here = at.stands c (sym roomier.stays.contents ∙ told) in
      let changes = ap (λ (i : JournalView). i.changes) roomier.journal in (
        here.0,
        roomier.stands c here.0 here.1,
        subst (λ (n : ℕ). Runs Takes true nothing_saved 0 here.0 base n) (sym changes) here.2,
      );
}
