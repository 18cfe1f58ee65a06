-- What a store leaves that is opened and whose rows are then written anew.
use Rattle.std.proofs.Common.{◌≡◌, inl, inr, ⊎_elim, ℕ, ◌<◌, ◌≤◌, Bool, true, false, List, arith, sym, ◌∙◌, ap, subst}
use Rattle.std.specs.Prelude.{◌⊎◌, Ok, IsErrOf, Some}
use Rattle.std.proofs.lemmas.Bool.{cases_lt}
use Rattle.disk_model.specs.Disk.{LeavesOnly, View}
use Rattle.disk_model.specs.DiskLaws.{IsLawful}
use Rattle.journal.specs.Frame.{IsSecond}
use Rattle.journal.specs.Store.{IsUnborn}
use Rattle.journal.specs.Opening.{FileMeans, IsOpening, OpensUnder}
use Rattle.journal.specs.Region.{StandsForState, TakesOf}
use Rattle.journal.specs.declared.open_fault.OpenFault.TheVariants.{DeviceFault}
use Rattle.journal.proofs.Moments.{and_then, weaker}
use Rattle.journal.proofs.Refusals.{store_is_born}
use Rattle.journal.proofs.Unique.{store_unique}
use Rattle.open_store.specs.Reopens.{IsReopening, IsStood, LeavesAnew}

module _ {S : Type 0} (takes : TakesOf S) (empty : S) (given : List ℕ) where
  -- what a file stands for, with the given digest where it is unborn
  abbrev pub Means : (kept file : List ℕ) → S → ℕ → Type 0
  Means kept file d n = StandsForState takes empty kept file d n ⊎ (IsUnborn file × (kept ≡ given) × (d ≡ empty) × (n ≡ 0))

  pub file_means : (kept file : List ℕ) (d : S) (n : ℕ) → FileMeans takes empty kept file d n → OpensUnder given file kept → Means kept file d n
  file_means kept file d n (inl stands) under = inl stands
  file_means kept file d n (inr unborn) (inl store) = absurd (store_is_born kept file store.0 store.1 unborn.0)
  file_means kept file d n (inr unborn) (inr under) = inr (unborn.0, under.1, unborn.1, unborn.2)

  pub means_file : (kept file : List ℕ) (d : S) (n : ℕ) → Means kept file d n → FileMeans takes empty kept file d n
  means_file kept file d n (inl stands) = inl stands
  means_file kept file d n (inr unborn) = inr (unborn.0, unborn.2, unborn.3)

  -- it opens under that digest alone
  pub opens_kept : (own kept file : List ℕ) (d : S) (n : ℕ) → Means kept file d n → OpensUnder given file own → own ≡ kept
  opens_kept own kept file d n (inl stands) (inl store) = (store_unique own kept file store.0 stands.0 store.1 stands.1).1
  opens_kept own kept file d n (inl stands) (inr under) = absurd (store_is_born kept file stands.0 stands.1 under.0)
  opens_kept own kept file d n (inr unborn) (inl store) = absurd (store_is_born own file store.0 store.1 unborn.0)
  opens_kept own kept file d n (inr unborn) (inr under) = under.1 ∙ sym unborn.1

  module _ (moves : S → S) (goes : List ℕ → S → Bool) (quiet : goes given empty ≡ false) where
    -- it stands for a state still, or for what stays of it
    abbrev pub Either : (kept : List ℕ) → S → ℕ → List ℕ → Type 0
    Either kept d n file = StandsForState takes empty kept file d n ⊎ StandsForState takes empty given file (moves d) n

    abbrev pub Migrating : (old new : List ℕ) → Type 0
    Migrating old new = (kept : List ℕ) × (d : S) × (n : ℕ) × StandsForState takes empty kept old d n × (goes kept d ≡ true) × IsSecond new × Either kept d n new

    abbrev pub OpeningUnder : (old new : List ℕ) → Type 0
    OpeningUnder old new = IsOpening given old new ⊎ Migrating old new

    -- a file that stays, or is written anew
    abbrev pub Settling : (kept : List ℕ) → S → ℕ → (old new : List ℕ) → Type 0
    Settling kept d n old new = (new ≡ old) ⊎ ((goes kept d ≡ true) × IsSecond new × Either kept d n new)

    no_both : (b : Bool) (P : Type 0) → b ≡ true → b ≡ false → P
    no_both b P is not = absurd (cc)

    -- nothing is written anew of an unborn file
    pub migrating : (kept old new : List ℕ) (d : S) (n : ℕ) → Means kept old d n → goes kept d ≡ true → IsSecond new → Either kept d n new → Migrating old new
    migrating kept old new d n (inl stands) is second either = (kept, d, n, stands, is, second, either)
    migrating kept old new d n (inr unborn) is second either =
        no_both (goes kept d) (Migrating old new) is
        (ap (λ (k : List ℕ). goes k d) unborn.1 ∙ ap (λ (e : S). goes given e) unborn.2 ∙ quiet)

    module _ (kept : List ℕ) (d : S) (n : ℕ) (v m w : View) (between : IsLawful m) (now : List ℕ) (told : m.contents ≡ Some now) (second : LeavesOnly m w (Settling kept d n now)) where
      here : m.left_since m.moment now
      here = between.counts_now m.moment now (omega arith) (between.contents_may_stay now told)

      -- an opening, and then what follows it
      pub opening_leaves : (c : List ℕ) → Means kept c d n → LeavesOnly v m (IsOpening given c) → LeavesOnly v w (OpeningUnder c)
      opening_leaves c means first =
          let at_now : IsOpening given c now = first.each now (between.earlier v.moment m.moment now first.later here) in
          and_then v m w (OpeningUnder c) (weaker v m (IsOpening given c) (OpeningUnder c) (λ file is. inl is) first)
          (weaker m w (Settling kept d n now) (OpeningUnder c)
          (λ file. ⊎_elim (λ (same : file ≡ now). inl (subst (λ (f : List ℕ). IsOpening given c f) (sym same) at_now))
          (λ (r : (goes kept d ≡ true) × IsSecond file × Either kept d n file). inr (migrating kept c file d n means r.0 r.1 r.2))) second)

      -- and the same behind a cut of the power
      pub reopening_leaves : IsLawful w → IsStood takes empty given kept v d n → ((t : ℕ) (file : List ℕ) → m.left_since t file → IsReopening given v file)
          → (t : ℕ) (file : List ℕ) → w.left_since t file → (was : List ℕ) × v.may_leave was × OpeningUnder was file
      reopening_leaves after stood since t file left =
          let P = λ (f : List ℕ). (was : List ℕ) × v.may_leave was × OpeningUnder was f in
          let opened : (u : ℕ) (f : List ℕ) → m.left_since u f → P f = λ u f was_left. let o = since u f was_left in (o.0, o.1, inl o.2) in
          let settled : (f : List ℕ) → Settling kept d n now f → P f = λ f. ⊎_elim
          (λ (same : f ≡ now). subst P (sym same) (opened m.moment now here))
          (λ (r : (goes kept d ≡ true) × IsSecond f × Either kept d n f). (stood.0, stood.1, inr (migrating kept stood.0 f d n (file_means kept stood.0 d n stood.3 stood.2) r.0 r.1 r.2))) in
          ⊎_elim
          (λ (over : m.moment < t). settled file (second.each file (after.earlier m.moment t file (omega (arith, over)) left)))
          (λ (le : t ≤ m.moment). ⊎_elim (λ (was : m.left_since t file). opened t file was) (λ (s : Settling kept d n now file). settled file s) (second.before t file le left))
          (cases_lt m.moment t)

no_device : {T : Type 0} (x : T) (P : Type 0) → IsErrOf {T = T} (Ok x) DeviceFault → P
no_device x P e = absurd (cc)

-- a restart that was `Ok` did not fail at once
pub since_restart : {T : Type 0} (x : T) (v m : View) (P : List ℕ → Type 0) → LeavesAnew (Ok x) v m P → (t : ℕ) (file : List ℕ) → m.left_since t file → P file
since_restart x v m P (inl failed) = no_device x ((t : ℕ) (file : List ℕ) → m.left_since t file → P file) failed.answer
since_restart x v m P (inr since) = since
