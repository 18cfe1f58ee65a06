-- What a store stands for, and what a commit and a checkpoint make of it.
use Rattle.std.proofs.Common.{◌≡◌, inl, inr, ℕ, ◌+◌, ◌%◌, ◌^◌, ◌<◌, true, false, Bool, List, [], ◌∷◌, ◌++◌, length, Some, refl, sym, ap, subst, ◌∙◌, arith}
use Rattle.std.specs.Prelude.{Err, Ok, OnErr, OnOk, Result, is_err}
use Rattle.disk_model.specs.Disk.{Device, LeavesOnly, View}
use Rattle.disk_model.specs.DiskLaws.{IsLawful}
use Rattle.journal.specs.Journal.{IsAtRest, IsBeforeOrAfter, IsBeforeOrSnapshot, JournalView, StandsInFile, next_frame, since_of, snapshot_frame}
use Rattle.journal.specs.Region.{Runs, StandsForState}
use Rattle.journal.specs.Frame.{Frame, IsSecond}
use Rattle.journal.proofs.Meanings.{checkpoint_stands_for, commit_stands_for}
use Rattle.journal.proofs.Moments.{started, weaker}
use Rattle.journal.proofs.Refusals.{store_of}
use Rattle.journal.proofs.Runs.{runs_push}
use Rattle.open_store.specs.Commits.{BodyLeads, CommitDevice, IsEither, IsEither2}
use Rattle.open_store.specs.Standing.{IsReady, StandsAt}

some_is : {A : Type 0} (a b : A) → Some a ≡ Some b → a ≡ b
some_is a b e = cc

twice : (n : ℕ) → n % 2 ^ 64 % 2 ^ 64 ≡ n % 2 ^ 64
twice n = omega arith

module _ {S : Type 0} (takes : S → Bool → List ℕ → S → ℕ → Type 0) (empty : S) where
  module _ (j : JournalView) (v : View) (base : S) (at : StandsAt takes empty j v base) where
    pub contents_stand : (c : List ℕ) → v.contents ≡ Some c
        → StandsForState takes empty j.digest c base j.changes
    contents_stand c told =
        let here = at.stands c told in (here.0, store_of j c here.0 here.1, here.2)

    pub images_stand : (c : List ℕ) → v.may_leave c
        → StandsForState takes empty j.digest c base j.changes
    images_stand c left = contents_stand c (at.rests.settled c left)

  -- ---- other frames in the file

  module _ (j k : JournalView) (v w : View) (now : List Frame → List Frame) where
    -- a call made these frames of those that stood in the file
    abbrev Leaves : Type 0
    Leaves = (c : List ℕ) (frames : List Frame) → v.contents ≡ Some c → StandsInFile j c frames
        → (d : List ℕ) × (w.contents ≡ Some d) × StandsInFile k d (now frames)

    -- the store stands for the state that they lead to
    leaves_at : (base next : S) → IsLawful v → IsLawful w → w.tells ≡ v.tells → IsAtRest k w
        → k.shut ≡ false → StandsAt takes empty j v base → Leaves
        → ((frames : List Frame) → Runs takes true empty 0 frames base j.changes
        → Runs takes true empty 0 (now frames) next k.changes)
        → StandsAt takes empty k w next
    leaves_at base next before after tells rests usable at leaves runs = record {
      rests = rests;
      usable = usable;
      stands = λ c here.
          let was = before.told (sym tells ∙ after.tells_contents c here) in
          let stood = at.stands was.0 was.1 in
          let done = leaves was.0 stood.0 was.1 stood.1 in
          let same : done.0 ≡ c = some_is done.0 c (sym done.1 ∙ here) in (
            now stood.0,
            subst (λ (e : List ℕ). StandsInFile k e (now stood.0)) same done.2,
            runs stood.0 stood.2,
          );
    }

  -- ---- an empty body

  nothing_leads : (base next : S) (body : List ℕ) (changes : ℕ) → length body ≡ 0
      → BodyLeads takes base body changes next → (changes ≡ 0) × (next ≡ base)
  nothing_leads base next body changes none (inl empty_body) = (empty_body.1, empty_body.2)
  nothing_leads base next body changes none (inr leads) =
      absurd (omega (arith, none, leads.0))

  pub nothing_done : (j : JournalView) (v : View) (base next : S) (body : List ℕ) (changes : ℕ)
      → length body ≡ 0 → StandsAt takes empty j v base → BodyLeads takes base body changes next
      → StandsAt takes empty j v next × (j.changes % 2 ^ 64 ≡ (j.changes + changes) % 2 ^ 64)
  nothing_done j v base next body changes none at leads =
      let same = nothing_leads base next body changes none leads in
      (subst (λ (d : S). StandsAt takes empty j v d) (sym same.1) at, omega (arith, same.0))

  -- and it has version 2
  pub images_second : (j : JournalView) (v : View) (base : S) → StandsAt takes empty j v base → (c : List ℕ) → v.may_leave c → IsSecond c
  images_second j v base at c left = (at.stands c (at.rests.settled c left)).1.second

  pub nothing_moments : (j : JournalView) (v : View) (base next : S) (later : ℕ) → IsLawful v
      → StandsAt takes empty j v base
      → LeavesOnly v v (IsEither takes empty j.digest base j.changes next later)
  nothing_moments j v base next later laws at =
      started v (IsEither takes empty j.digest base j.changes next later) laws.only_now
      (λ c left. (images_second j v base at c left, inl (images_stand j v base at c left)))

  -- ---- a body with a byte

  something_leads : (base next : S) (body : List ℕ) (changes : ℕ) → 0 < length body
      → BodyLeads takes base body changes next → takes base false body next changes
  something_leads base next body changes some (inl empty_body) =
      absurd (omega (arith, some, ap length empty_body.0))
  something_leads base next body changes some (inr leads) = leads.1

  module _ (j k : JournalView) (v w : View) (body : List ℕ) (changes : ℕ)
      (some : 0 < length body) where
    abbrev Acknowledged : Type 0
    Acknowledged = Leaves j k v w (λ frames. frames ++ next_frame j body changes ∷ [])

    pub commit_done : {T E : Type 0} (result : Result T E) → IsLawful v → IsLawful w
        → w.tells ≡ v.tells → OnOk result (IsAtRest k w) → k.shut ≡ is_err result
        → OnOk result
        (k ≡ record j {
          end = j.end + 18 + length body;
          changes = (j.changes + changes) % 2 ^ 64;
          room = k.room;
        })
        → OnOk result Acknowledged
        → OnOk result
        ((base next : S) → StandsAt takes empty j v base
        → BodyLeads takes base body changes next
        → StandsAt takes empty k w next
        × (k.changes % 2 ^ 64 ≡ (j.changes + changes) % 2 ^ 64))
    commit_done (Ok x) before after tells rests shut done acknowledged = λ base next at leads.
        let f = next_frame j body changes in
        let count = ap (λ (i : JournalView). i.changes) done in
        let taken = something_leads base next body changes some leads in (
          leaves_at j k v w (λ frames. frames ++ f ∷ []) base next before after tells rests shut at
              acknowledged (λ frames runs.
              subst (λ (n : ℕ). Runs takes true empty 0 (frames ++ f ∷ []) next n) (sym count)
              (runs_push takes true empty 0 frames base j.changes f next changes runs some taken refl)),
          ap (λ (n : ℕ). n % 2 ^ 64) count ∙ twice (j.changes + changes),
        )
    commit_done (Err e) before after tells rests shut done acknowledged = tt

    pub commit_moments : (base next : S) → StandsAt takes empty j v base
        → BodyLeads takes base body changes next → IsLawful v → v.tells ≡ true
        → ((c : List ℕ) (frames : List Frame) → v.contents ≡ Some c → StandsInFile j c frames
        → LeavesOnly v w (IsBeforeOrAfter j.digest frames (next_frame j body changes)))
        → LeavesOnly v w
        (IsEither takes empty j.digest base j.changes next ((j.changes + changes) % 2 ^ 64))
    commit_moments base next at leads laws tells moments =
        let told = laws.told tells in
        let stood = at.stands told.0 told.1 in
        weaker v w (IsBeforeOrAfter j.digest stood.0 (next_frame j body changes))
        (IsEither takes empty j.digest base j.changes next ((j.changes + changes) % 2 ^ 64))
        (λ file there. (
          there.0,
          commit_stands_for takes empty j.digest file body stood.0 base next
              j.changes changes stood.2 some (something_leads base next body changes some leads) there,
        ))
        (moments told.0 stood.0 told.1 stood.1)

  -- ---- a snapshot

  -- the snapshot alone stands for the state that its body is of
  snapshot_runs : (j : JournalView) (digest body : List ℕ) (next : S) (counted : ℕ)
      → takes empty true body next counted
      → Runs takes true empty 0 (snapshot_frame j digest body ∷ []) next j.changes
  snapshot_runs j digest body next counted taken = (next, counted, refl, taken, tt, (refl, refl))

  module _ (j k : JournalView) (v w : View) (digest body : List ℕ) where
    abbrev Snapped : Type 0
    Snapped = Leaves j k v w (λ frames. snapshot_frame j digest body ∷ [])

    pub checkpoint_done : {T E : Type 0} (result : Result T E) → IsLawful v → IsLawful w
        → w.tells ≡ v.tells → OnOk result (IsAtRest k w) → k.shut ≡ is_err result
        → OnOk result (k.changes ≡ j.changes) → OnOk result Snapped
        → OnOk result
        ((base next : S) (counted : ℕ) → StandsAt takes empty j v base
        → takes empty true body next counted → StandsAt takes empty k w next)
    checkpoint_done (Ok x) before after tells rests shut count acknowledged =
        λ base next counted at taken.
        let snapshot = snapshot_frame j digest body ∷ [] in
        leaves_at j k v w (λ frames. snapshot) base next before after tells rests shut at
        acknowledged (λ frames runs.
        subst (λ (n : ℕ). Runs takes true empty 0 snapshot next n) (sym count)
        (snapshot_runs j digest body next counted taken))
    checkpoint_done (Err e) before after tells rests shut count acknowledged = tt

    pub checkpoint_moments : (base next : S) (counted : ℕ) → StandsAt takes empty j v base
        → takes empty true body next counted → IsLawful v → v.tells ≡ true
        → ((c : List ℕ) (frames : List Frame) → v.contents ≡ Some c → StandsInFile j c frames
        → LeavesOnly v w (IsBeforeOrSnapshot j.digest frames (snapshot_frame j digest body)))
        → LeavesOnly v w
        (IsEither2 takes empty j.digest base j.changes digest next j.changes)
    checkpoint_moments base next counted at taken laws tells moments =
        let told = laws.told tells in
        let stood = at.stands told.0 told.1 in
        let snapshot = snapshot_frame j digest body in
        weaker v w (IsBeforeOrSnapshot j.digest stood.0 snapshot)
        (IsEither2 takes empty j.digest base j.changes digest next j.changes)
        (λ file there. (
          there.0,
          checkpoint_stands_for takes empty j.digest digest file body stood.0
              base next j.changes counted stood.2 taken there,
        ))
        (moments told.0 stood.0 told.1 stood.1)

-- no change was made since a snapshot
pub since_none : (j : JournalView) → j.changes < 2 ^ 64 → j.base ≡ j.changes → since_of j ≡ 0
since_none j fits same = omega (arith, fits, same)

-- ---- what a commit or a checkpoint answers

pub commit_ready : {T E : Type 0} (result : Result T E) (k : JournalView) (w : View)
    → OnOk result (IsAtRest k w) → k.shut ≡ is_err result → OnOk result (IsReady k w)
commit_ready (Ok x) k w rests shut = record { usable = shut; rests = rests }
commit_ready (Err e) k w rests shut = tt

pub commit_digest : {T E : Type 0} (result : Result T E) (j k : JournalView) (end changes : ℕ)
    → OnOk result (k ≡ record j { end = end; changes = changes; room = k.room })
    → OnErr result (k ≡ record j { shut = true; room = k.room }) → k.digest ≡ j.digest
commit_digest (Ok x) j k end changes done failed = ap (λ (i : JournalView). i.digest) done
commit_digest (Err e) j k end changes done failed = ap (λ (i : JournalView). i.digest) failed

pub commit_device : {T E : Type 0} (most writes : ℕ) (result : Result T E) (v w : View)
    → Device most writes result v w → CommitDevice most result v w
commit_device most writes (Ok x) v w device = record {
  tells = device.faults.tells;
  later = device.calls.later;
  calls = device.calls.most;
  failed = tt;
  fine = record {
    faults = device.faults.cause.still;
    off = device.faults.ok.after ∙ sym device.faults.ok.before;
    failures = device.faults.ok.failures;
    cuts = device.faults.ok.cuts;
  };
}
commit_device most writes (Err e) v w device = record {
  tells = device.faults.tells;
  later = device.calls.later;
  calls = device.calls.most;
  failed = (device.faults.cause.failed, device.faults.err);
  fine = tt;
}

-- what holds of each meaning holds of all
pub on_each : {T E A : Type 0} (result : Result T E) (P : A → Type 0)
    → ((x : A) → OnOk result (P x)) → OnOk result ((x : A) → P x)
on_each (Ok x) P each = each
on_each (Err e) P each = tt
