-- A store of which the rows are written as one snapshot.
use Rattle.std.proofs.Common.{◌≡◌, inl, ℕ, true, List, sym, ◌∙◌, ap, subst}
use Rattle.std.specs.Prelude.{Some}
use Rattle.disk_model.specs.Disk.{LeavesOnly, Stays, View}
use Rattle.disk_model.specs.DiskLaws.{IsLawful}
use Rattle.journal.specs.Frame.{Frame}
use Rattle.journal.specs.Journal.{IsAtRest, IsBeforeOrSnapshot, JournalView, StandsInFile, snapshot_frame}
use Rattle.journal.specs.Region.{Runs, TakesOf}
use Rattle.journal.proofs.Moments.{and_then, started, stays_on}
use Rattle.open_store.specs.Commits.{IsEither2}
use Rattle.open_store.specs.Standing.{StandsAt}
use Rattle.open_store.proofs.StoreLemmas.{checkpoint_moments, images_second, images_stand}

module _ {S : Type 0} (takes : TakesOf S) (empty : S) (j : JournalView) (v : View) (base next : S) (given : List ℕ) (at : StandsAt takes empty j v base) where
  abbrev pub Either : List ℕ → Type 0
  Either = IsEither2 takes empty j.digest base j.changes given next j.changes

  -- before the first call
  pub still_leaves : IsLawful v → LeavesOnly v v Either
  still_leaves laws = started v Either laws.only_now (λ c left. (images_second takes empty j v base at c left, inl (images_stand takes empty j v base at c left)))

  module _ (k : JournalView) (r : View) (stays : Stays v r) (same : k ≡ record j { room = k.room }) (rests : IsAtRest k r) (stands : (c : List ℕ) (frames : List Frame) → StandsInFile j c frames → StandsInFile k c frames) where
    -- once room is made
    pub reserved_at : StandsAt takes empty k r base
    reserved_at = record {
      rests = rests;
      usable = ap (λ (i : JournalView). i.shut) same ∙ at.usable;
      stands = λ c told.
          let here = at.stands c (sym stays.contents ∙ told) in
          (here.0, stands c here.0 here.1, subst (λ (n : ℕ). Runs takes true empty 0 here.0 base n) (sym (ap (λ (i : JournalView). i.changes) same)) here.2);
    }

    pub reserved_leaves : IsLawful v → LeavesOnly v r Either
    reserved_leaves laws = stays_on v v r Either (still_leaves laws) stays

    -- and the snapshot is written
    pub rewritten_leaves : (k' : JournalView) (w : View) (digest body : List ℕ) (counted : ℕ) → IsLawful v → IsLawful r → v.tells ≡ true → digest ≡ given → takes empty true body next counted
        → ((c : List ℕ) (frames : List Frame) → r.contents ≡ Some c → StandsInFile k c frames → LeavesOnly r w (IsBeforeOrSnapshot k.digest frames (snapshot_frame k digest body)))
        → LeavesOnly v w Either
    rewritten_leaves k' w digest body counted before after tells is taken moments =
        let made = checkpoint_moments takes empty k k' r w digest body base next counted reserved_at taken after (stays.tells ∙ tells) moments in
        let own = ap (λ (i : JournalView). i.digest) same in
        let count = ap (λ (i : JournalView). i.changes) same in
        let at_own = subst (λ (d : List ℕ). LeavesOnly r w (IsEither2 takes empty d base k.changes digest next k.changes)) own made in
        let at_count = subst (λ (n : ℕ). LeavesOnly r w (IsEither2 takes empty j.digest base n digest next n)) count at_own in
        let at_given = subst (λ (d : List ℕ). LeavesOnly r w (IsEither2 takes empty j.digest base j.changes d next j.changes)) is at_count in
        and_then v r w Either (reserved_leaves before) at_given
