-- How many calls an opening makes, whatever is made of what it gives, and of a file that is unborn.
use Rattle.std.proofs.Common.{◌≡◌, inl, inr, ⊎_elim, ℕ, ◌+◌, false, List, refl, ap, arith}
use Rattle.std.specs.Prelude.{Ok, Err, if◌then◌else◌}
use Rattle.disk_model.specs.Disk.{Makes, View}
use Rattle.journal.specs.Opening.{opening_calls}
use Rattle.journal.specs.declared.open_fault.OpenFault.{OpenFault}
use Rattle.suffix_list.specs.ListText.{RuleList}
use Rattle.suffix_list.specs.Suffix.{Rule}
use Rattle.durable_model.specs.Migrate.{IsUnder}
use Rattle.durable_model.specs.Saved.{Saved, nothing_saved}
use Rattle.durable_model.proofs.MigrateLemmas.{states_migrate}
use Rattle.row_opening.specs.Under.{MakesCalls, calls_under, checkpoint_calls, migrates}
use Rattle.row_opening.proofs.Openings.{stays_quiet}
use Rattle.row_opening.proofs.Steps.{makes_refused}

-- ---- another answer after the same calls

pub made_ok : {T U : Type 0} (calls : ℕ) (x : T) (y : U) (v w : View)
    → Makes {E = OpenFault} calls (Ok x) v w → Makes {E = OpenFault} calls (Ok y) v w
made_ok calls x y v w made = record { later = made.later; most = made.most; all = made.all }

pub makes_ok : {T U : Type 0} (list : RuleList) (file : List ℕ) (x : T) (y : U) (v w : View)
    → MakesCalls list file (Ok x) v w → MakesCalls list file (Ok y) v w
makes_ok list file x y v w made = record {
  exactly = λ kept d n within means. made_ok _ x y v w (made.exactly kept d n within means);
  others =
      ⊎_elim (λ few. inl (made_ok _ x y v w few))
      (λ more. inr (more.0, more.1, more.2, more.3, more.4, made_ok _ x y v w more.5))
      made.others;
}

pub makes_err : {T U : Type 0} (list : RuleList) (file : List ℕ) (why : OpenFault) (v w : View)
    → MakesCalls {T = T} list file (Err why) v w → MakesCalls {T = U} list file (Err why) v w
makes_err list file why v w made = record {
  exactly = λ kept d n within means. makes_refused why _ v w (made.exactly kept d n within means);
  others =
      ⊎_elim (λ few. inl (makes_refused why _ v w few))
      (λ more. inr (more.0, more.1, more.2, more.3, more.4, makes_refused why _ v w more.5))
      made.others;
}

-- ---- what is not written anew

-- a state under a list is not, where its store is under the list
pub still_under : (list : RuleList) (d : Saved) → IsUnder list.rules d
    → migrates list list.digest d ≡ false
still_under list d under =
    stays_quiet list list.digest d refl ((states_migrate list.rules d).only under)

-- nothing stays as it is
pub nothing_under : (rules : List Rule) → IsUnder rules nothing_saved
nothing_under rules =
    let law = states_migrate rules nothing_saved in law.whole law.nothing

-- so that what is made of an unborn file takes the journal's calls alone
pub unborn_calls : (list : RuleList) (file : List ℕ)
    → calls_under list list.digest nothing_saved file ≡ opening_calls file
unborn_calls list file =
    let none : calls_under list list.digest nothing_saved file ≡ opening_calls file + 0 =
    ap (λ b. opening_calls file + (if b then checkpoint_calls else 0))
    (still_under list nothing_saved (nothing_under list.rules)) in
    omega (arith, none)
