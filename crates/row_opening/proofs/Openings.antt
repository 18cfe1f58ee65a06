-- What an opening under a list answers, by what the journal's opening answers and what follows it.
use Rattle.std.proofs.Common.{◌≡◌, inl, inr, ℕ, ◌+◌, Bool, true, false, List, bytes_eq, not, arith, refl, sym, ◌∙◌, ap, subst}
use Rattle.std.specs.Prelude.{◌⊎◌, ◌&&◌, Result, Ok, Err, IfOk, IfErr, IsErrOf, MatchResult, if◌then◌else◌}
use Rattle.std.proofs.lemmas.Slice.Eq.{bytes_eq-Decides}
use Rattle.disk_model.specs.Disk.{Makes, View}
use Rattle.journal.specs.Journal.{JournalView}
use Rattle.journal.specs.Opening.{IsWithin, opening_calls}
use Rattle.journal.specs.declared.open_fault.OpenFault.{OpenFault}
use Rattle.suffix_list.specs.ListText.{RuleList}
use Rattle.durable_model.specs.Migrate.{IsUnder, stays_whole}
use Rattle.durable_model.specs.Saved.{IsValid, Saved, nothing_saved}
use Rattle.spelled_model.specs.Rows.{IsReadSavedUnder}
use Rattle.row_store.specs.Bodies.{Takes}
use Rattle.row_store.specs.Laws.{IsSpelledState, IsSpelledStateUnder, IsStorable, SnapshotsAreSpelled, SnapshotsMean}
use Rattle.row_store.specs.Listing.{listed}
use Rattle.row_changes.specs.Body.{rows_bytes}
use Rattle.row_store.specs.Stored.{HasNoSession, saved_of}
use Rattle.row_store.specs.declared.parts.Parts.{Parts}
use Rattle.open_store.specs.Reopens.{LeavesStores}
use Rattle.row_store.specs.FileLaws.{StoresMeanOne}
use Rattle.row_opening.specs.Opened.{IsAtBase, IsFound, IsOpened, LeavesUnder}
use Rattle.row_opening.specs.Settling.{settle_calls}
use Rattle.row_opening.specs.Under.{MakesCalls, MeansUnder, calls_under, checkpoint_calls, migrates}

-- ---- whether rows are written anew

and_true : (a b : Bool) → a ≡ true → b ≡ true → not (a && b) ≡ false
and_true a b one two = ap (λ x. not (x && b)) one ∙ ap (λ x. not x) two

and_false : (a b : Bool) → (a ≡ false) ⊎ (b ≡ false) → not (a && b) ≡ true
and_false true b (inl is) = absurd (cc)
and_false false b e = refl
and_false true b (inr is) = ap (λ x. not x) is

-- a state all of which stays under the list that it is under is not written anew
pub stays_quiet : (list : RuleList) (kept : List ℕ) (d : Saved) → kept ≡ list.digest → stays_whole list.rules d ≡ true → migrates list kept d ≡ false
stays_quiet list kept d same whole = and_true (bytes_eq kept list.digest) (stays_whole list.rules d) ((bytes_eq-Decides kept list.digest).1 same) whole

pub other_goes : (list : RuleList) (kept : List ℕ) (d : Saved) → (bytes_eq kept list.digest ≡ false) ⊎ (stays_whole list.rules d ≡ false) → migrates list kept d ≡ true
other_goes list kept d = and_false (bytes_eq kept list.digest) (stays_whole list.rules d)

-- ---- what was opened

pub snapshot_takes : SnapshotsMean → SnapshotsAreSpelled → (d : Saved) (body : List ℕ) → IsStorable d → IsSpelledState d → body ≡ rows_bytes (listed d) → Takes nothing_saved true body d 0
snapshot_takes mean are d body storable spelled is = subst (λ (b : List ℕ). Takes nothing_saved true b d 0) (sym is) (mean nothing_saved d storable (are d storable spelled))

pub is_opened : (list : RuleList) (j : JournalView) (w : View) (parts rows : Parts) → parts ≡ rows → IsAtBase j w (saved_of rows) → j.digest ≡ list.digest → IsUnder list.rules (saved_of rows) → IsValid (saved_of rows)
    → (IsUnder list.rules (saved_of rows) → IsReadSavedUnder list.rules (saved_of rows)) → IsStorable (saved_of rows) → (IsUnder list.rules (saved_of rows) → IsSpelledStateUnder list.rules (saved_of rows)) → HasNoSession rows.storage → IsOpened list j w parts
is_opened list j w parts rows same at digest under valid read storable spelled sessions =
    subst (λ (p : Parts). IsOpened list j w p) (sym same)
    (record { at = at; digest = digest; under = under; valid = valid; keys = read under; storable = storable; spelled = spelled under; sessions = sessions })

-- ---- what the clauses of two calls say together

pub both_ways : {T E : Type 0} (r : Result T E) (P Q : T → Type 0) (X : E → Type 0) → IfOk r P → IfErr r X → ((v : T) → P v → Q v) → MatchResult r Q X
both_ways (Ok v) P Q X ok err to = to v ok
both_ways (Err e) P Q X ok err to = err

pub if_ok : {T E : Type 0} (r : Result T E) (P Q : T → Type 0) → ((v : T) → P v → Q v) → IfOk r P → IfOk r Q
if_ok (Ok v) P Q to ok = to v ok
if_ok (Err e) P Q to ok = tt

-- a refusal of the one is one of the other
pub same_error : {T U : Type 0} (w why : OpenFault) → IsErrOf {T = T} (Err w) why → IsErrOf {T = U} (Err w) why
same_error w why e = cc

-- ---- its calls

module _ (list : RuleList) (file own : List ℕ) (d : Saved) (n : ℕ) (means : MeansUnder list.digest own file d n) where
  -- those of the journal, and of what follows
  pub calls_of : {T : Type 0} (result : Result T OpenFault) (v w : View) → Makes (opening_calls file + settle_calls list own d) result v w
      → ((kept : List ℕ) (e : Saved) (m : ℕ) → IsWithin true file → MeansUnder list.digest kept file e m → (own ≡ kept) × (d ≡ e))
      → MakesCalls list file result v w
  calls_of result v w made same = record {
    exactly = λ kept e m within other.
        let is = same kept e m within other in
        subst (λ (k : List ℕ). Makes (calls_under list k e file) result v w) is.0
        (subst (λ (x : Saved). Makes (calls_under list own x file) result v w) is.1 made);
    others = by (migrates list own d) refl;
  }
    where
      by : (b : Bool) → migrates list own d ≡ b → Makes (opening_calls file) result v w
          ⊎ ((kept : List ℕ) × (e : Saved) × (m : ℕ) × MeansUnder list.digest kept file e m × (migrates list kept e ≡ true) × Makes (opening_calls file + checkpoint_calls) result v w)
      by true is = inr (own, d, n, means, is, subst (λ (x : Bool). Makes (opening_calls file + (if x then checkpoint_calls else 0)) result v w) is made)
      by false is = inl (subst (λ (k : ℕ). Makes k result v w) (omega arith) (subst (λ (x : Bool). Makes (opening_calls file + (if x then checkpoint_calls else 0)) result v w) is made))

-- ---- behind a cut of the power

-- where a cut may leave nothing but stores under a list, these are stores under its digest
pub leaves_stores : (list : RuleList) (view : View) → LeavesUnder list view → LeavesStores Takes nothing_saved list.digest view
leaves_stores list view stores = λ tells file may. let is = stores tells file may in (is.0, (is.1.0, is.1.1, is.1.2))

-- and what is found is a state under the list
pub found_under : StoresMeanOne → (list : RuleList) (view : View) (d : Saved) (n : ℕ) → LeavesUnder list view → view.tells ≡ true → IsFound list.digest view d n → IsUnder list.rules d
found_under one list view d n stores tells found =
    let is = stores tells found.0 found.1 in
    let same = one list.digest list.digest found.0 is.1.0 d is.1.1 n is.1.2 found.2 in
    subst (λ (e : Saved). IsUnder list.rules e) same.1 is.1.3

pub no_calls : (b : Bool) → b ≡ false → (if b then checkpoint_calls else 0) ≡ 0
no_calls true is = absurd (cc)
no_calls false is = refl
