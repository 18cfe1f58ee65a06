-- What an opening after a cut of the power finds.
use Rattle.std.proofs.Common.{◌≡◌, inl, inr, ⊎_elim, ℕ, ◌<◌, ◌≤◌, true, Bool, List, [], length, Some, None, sym, ◌∙◌, subst, arith}
use Rattle.std.specs.Prelude.{◌⊎◌, Err, IfErr, IfOk, IsErrOf, MatchResult, Ok, Option, Result}
use Rattle.std.proofs.lemmas.Bool.{cases_lt}
use Rattle.std.proofs.lemmas.Bool.Decides.{nat_tests}
use Rattle.disk_model.specs.Disk.{Goes, IsSettled, LeavesOnly, Makes, View}
use Rattle.disk_model.specs.DiskLaws.{IsLawful}
use Rattle.journal.specs.Opening.{FileMeans, IsExcused, IsOpening, IsUpgrade, OpensUnder}
use Rattle.journal.specs.Opening.{opening_calls}
use Rattle.journal.specs.Region.{StandsForState}
use Rattle.journal.specs.Frame.{IsSecond}
use Rattle.journal.specs.Store.{IsOpen, IsStore, IsUnborn}
use Rattle.journal.specs.declared.open_fault.OpenFault.{OpenFault}
use Rattle.journal.specs.declared.open_fault.OpenFault.TheVariants.{DeviceFault}
use Rattle.journal.proofs.Moments.{goes_from}
use Rattle.journal.proofs.Refusals.{store_born, store_is_born}
use Rattle.journal.proofs.Unique.{store_unique}
use Rattle.open_store.specs.Reopens.{IsFound, IsStood, IsReopening, LeavesAnew}
use Rattle.open_store.specs.Reopens.{LeavesStores}

-- the opening of a born file of version 2 is one sync
born_calls : (file : List ℕ) → IsOpen file 0 × (1 < length file) → IsSecond file
    → opening_calls file ≡ 1
born_calls file (gate, long) second =
    let shut = gate.1 in grind (arith, nat_tests, shut, long, second)

-- the calls of an opening of this file are all that are made
same_calls : {T : Type 0} (result : Result T OpenFault) (file : List ℕ) (v r w : View)
    → opening_calls file ≡ 1 → r.changing ≡ v.changing → Makes (opening_calls file) result r w
    → Makes 1 result v w
same_calls (Ok j) file v r w one same made = record {
  later = omega (arith, one, same, made.later);
  most = omega (arith, one, same, made.most);
  all = omega (arith, one, same, made.all);
}
same_calls (Err why) file v r w one same made = record {
  later = omega (arith, one, same, made.later);
  most = omega (arith, one, same, made.most);
  all = tt;
}

module _ {S : Type 0} (takes : S → Bool → List ℕ → S → ℕ → Type 0) (empty : S)
    (digest : List ℕ) (v : View) (now : Option (List ℕ)) (laws : IsLawful v)
    (tells : v.tells ≡ true) (stores : LeavesStores takes empty digest v)
    (goes : Goes (λ _ d. v.may_leave d) v.contents now) where
  -- what the restart of a disk leaves
  left : (d : List ℕ) × (now ≡ Some d) × v.may_leave d
  left =
      let told = laws.told tells in
      goes_from (λ _ d. v.may_leave d) v.contents now told.0 goes told.1

  left_stands : (base : S) × (last : ℕ) × StandsForState takes empty digest left.0 base last
  left_stands = (stores tells left.0 left.2).1

  module _ {T : Type 0} (state : S) (changes : T → ℕ) where
    abbrev Means : Result T OpenFault → Type 0
    Means result = (c held : List ℕ) (s : S) (n : ℕ) → now ≡ Some c
        → FileMeans takes empty held c s n
        → MatchResult result (λ j. (state ≡ s) × (changes j ≡ n)) IsExcused

    -- a store opens under its own digest
    own_digest : (given file own : List ℕ) (base : S) (last : ℕ)
        → StandsForState takes empty digest file base last → OpensUnder given file own
        → own ≡ digest
    own_digest given file own base last stands (inl store) =
        (store_unique own digest file store.0 stands.0 store.1 stands.1).1
    own_digest given file own base last stands (inr unborn) =
        absurd (store_is_born digest file stands.0 stands.1 unborn.0)

    pub reopened_found : (given : List ℕ) (own : T → List ℕ) (result : Result T OpenFault)
        → Means result
        → IfOk result (λ j. (c : List ℕ) → now ≡ Some c → OpensUnder given c (own j))
        → IfOk result (λ j. (own j ≡ digest) × IsFound takes empty digest v state (changes j))
    reopened_found given own (Ok j) means under =
        let here = left in
        let stands = left_stands in
        let same = means here.0 digest stands.0 stands.1 here.1 (inl stands.2) in (
          own_digest given here.0 (own j) stands.0 stands.1 stands.2 (under here.0 here.1),
          (
            here.0,
            here.2,
            subst (λ (n : ℕ). StandsForState takes empty digest here.0 state n) (sym same.1)
                (subst (λ (s : S). StandsForState takes empty digest here.0 s stands.1)
                (sym same.0) stands.2),
          ),
        )
    reopened_found given own (Err why) means under = tt

    pub reopened_excused : (result : Result T OpenFault) → Means result
        → IfErr result IsExcused
    reopened_excused (Ok j) means = tt
    reopened_excused (Err why) means =
        let here = left in
        let stands = left_stands in means here.0 digest stands.0 stands.1 here.1 (inl stands.2)

  -- where the restart left a store, its opening is one sync
  pub reopened_calls : {T : Type 0} (result : Result T OpenFault) (r w : View)
      → r.contents ≡ now → r.changing ≡ v.changing
      → ((c : List ℕ) → r.contents ≡ Some c → Makes (opening_calls c) result r w)
      → Makes 1 result v w
  reopened_calls result r w is same made =
      let here = left in
      let stands = left_stands in
      same_calls result here.0 v r w
      (born_calls here.0 (store_born digest here.0 stands.2.0 stands.2.1) (stores tells here.0 here.2).0) same
      (made here.0 (is ∙ here.1))

-- what a restart left stands for what was opened, under its own digest
pub reopened_stood : {S T : Type 0} (takes : S → Bool → List ℕ → S → ℕ → Type 0) (empty : S)
    (given : List ℕ) (v : View) (now : Option (List ℕ))
    → IsLawful v → v.tells ≡ true → Goes (λ _ d. v.may_leave d) v.contents now
    → (own : T → List ℕ) (state : S) (changes : T → ℕ) (result : Result T OpenFault)
    → IfOk result (λ j. (c : List ℕ) → now ≡ Some c → OpensUnder given c (own j))
    → IfOk result (λ j. (c : List ℕ) → now ≡ Some c
    → FileMeans takes empty (own j) c state (changes j))
    → IfOk result (λ j. IsStood takes empty given (own j) v state (changes j))
reopened_stood takes empty given v now laws tells goes own state changes (Ok j) under stood =
    let told = laws.told tells in
    let here = goes_from (λ _ d. v.may_leave d) v.contents now told.0 goes told.1 in
    (here.0, here.2, under here.0 here.1, stood here.0 here.1)
reopened_stood takes empty given v now laws tells goes own state changes (Err why) under stood = tt

-- ---- moments since the restart

some_is : (a b : List ℕ) → Some a ≡ Some b → b ≡ a
some_is a b e = cc

no_file : {P : Type 0} (c : List ℕ) → None ≡ Some c → P
no_file c e = absurd (cc)

-- the past begins at a restart of the disk that went well, and an opening follows it
module _ (digest : List ℕ) (v r w : View) (before : IsLawful v) (between : IsLawful r)
    (after : IsLawful w) (tells : w.tells ≡ v.tells)
    (goes : Goes (λ _ d. v.may_leave d) v.contents r.contents)
    (anew : (t : ℕ) (c : List ℕ) → r.left_since t c → r.contents ≡ Some c)
    (opens : IsSettled r → (c : List ℕ) → r.contents ≡ Some c
    → LeavesOnly r w (IsOpening digest c)) where
  pub nothing_pending : IsSettled r
  nothing_pending c may =
      anew r.moment c (between.counts_now r.moment c (omega arith) may)

  -- what a cut may leave right behind the restart, it might have left before
  pub fewer_at_restart : (c : List ℕ) → r.may_leave c → v.may_leave c
  fewer_at_restart c may = from v.contents goes (nothing_pending c may)
    where
      from : (old : Option (List ℕ)) → Goes (λ _ d. v.may_leave d) old r.contents
          → r.contents ≡ Some c → v.may_leave c
      from None none here = no_file c (sym none ∙ here)
      from (Some was) next here =
          subst (λ (d : List ℕ). v.may_leave d) (some_is c next.0 (sym here ∙ next.1)) next.2

  -- what is told since a moment, of a file that the restart left
  told_since : (c : List ℕ) → r.contents ≡ Some c → (t : ℕ) (file : List ℕ)
      → w.left_since t file → IsOpening digest c file
  told_since c here t file left =
      let since = opens nothing_pending c here in
      ⊎_elim
      (λ (over : r.moment < t).
      since.each file (after.earlier r.moment t file (omega (arith, over)) left))
      (λ (le : t ≤ r.moment).
      ⊎_elim
      (λ (was : r.left_since t file). inl (some_is c file (sym here ∙ anew t file was)))
      (λ (now : IsOpening digest c file). now) (since.before t file le left))
      (cases_lt r.moment t)

  pub reopened_moments : {T : Type 0} (result : Result T OpenFault)
      → LeavesAnew result v w (IsReopening digest v)
  reopened_moments result = inr (λ t file left.
      let told = before.told (sym tells ∙ after.untold t file left) in
      let here =
      goes_from (λ _ d. v.may_leave d) v.contents r.contents told.0 goes told.1 in
      (here.0, here.2, told_since here.0 here.1 t file left))

-- the same of another answer, and of what follows
pub anew_as : {T U : Type 0} (x : Result T OpenFault) (y : Result U OpenFault) (v w : View)
    (P Q : List ℕ → Type 0) → (IsErrOf x DeviceFault → IsErrOf y DeviceFault)
    → ((file : List ℕ) → P file → Q file) → LeavesAnew x v w P → LeavesAnew y v w Q
anew_as x y v w P Q same to (inl at_once) = inl (record {
  answer = same at_once.answer;
  failed = at_once.failed;
  calls = at_once.calls;
  fewer = at_once.fewer;
})
anew_as x y v w P Q same to (inr since) = inr (λ t file left. to file (since t file left))

pub same_ok : {T U : Type 0} (x : T) (y : U) → IsErrOf (Ok x) DeviceFault
    → IsErrOf (Ok y) DeviceFault
same_ok x y e = cc

pub same_err : {T U : Type 0} (why : OpenFault)
    → IsErrOf {T = T} (Err why) DeviceFault
    → IsErrOf {T = U} (Err why) DeviceFault
same_err why e = cc

-- where a cut might have left nothing but stores, nothing is made
pub nothing_made : {S : Type 0} (takes : S → Bool → List ℕ → S → ℕ → Type 0) (empty : S)
    (digest : List ℕ) (v : View) → IsLawful v → LeavesStores takes empty digest v
    → (file : List ℕ) → IsReopening digest v file → v.may_leave file
nothing_made takes empty digest v laws stores file there =
    let was = there.0 in
    let may = there.1 in
    let tells = laws.untold v.moment was (laws.counts_now v.moment was (omega arith) may) in
    let second = (stores tells was may).0 in
    let stood = (stores tells was may).1 in
    let frames = stood.2.0 in
    ⊎_elim (λ (same : file ≡ was). subst (λ (c : List ℕ). v.may_leave c) (sym same) may)
    (⊎_elim (λ (up : IsUpgrade was file). absurd (second up.first))
    (λ (made : IsUnborn was × (IsUnborn file ⊎ IsStore digest file [])).
    absurd (store_is_born digest was frames stood.2.1 made.0)))
    there.2

-- what a cut may leave now, it might have left before
pub fewer_now : {T : Type 0} (result : Result T OpenFault) (v w : View) → IsLawful w
    → LeavesAnew result v w (λ file. v.may_leave file) → (file : List ℕ) → w.may_leave file
    → v.may_leave file
fewer_now result v w laws (inl at_once) file may = at_once.fewer file may
fewer_now result v w laws (inr since) file may =
    since w.moment file (laws.counts_now w.moment file (omega arith) may)
