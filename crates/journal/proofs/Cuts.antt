-- What the cuts to come say of an opening.
use Rattle.std.proofs.Common.{◌≡◌, inl, inr, ℕ, ◌+◌, ◌-◌, ◌^◌, ◌<◌, min, false, List, [], ◌∷◌, arith, sym, ◌∙◌, subst}
use Rattle.std.specs.Prelude.{Some, Result, Ok, Err, OnOk}
use Rattle.disk_model.specs.Disk.{View, HasFailed, IsNextCut, Makes}
use Rattle.disk_model.specs.DiskLaws.{IsLawful}
use Rattle.journal.specs.Opening.{AnswersByCuts, Opens}
use Rattle.journal.specs.declared.open_fault.OpenFault.{OpenFault}

-- the first of the cuts to come lies ahead
pub first_ahead : (v : View) (cut : ℕ) (cuts : List ℕ) → IsLawful v → v.cuts ≡ Some (cut ∷ cuts) → v.changing < cut
first_ahead v cut cuts laws told = laws.cuts_ahead (cut ∷ cuts) told 0 0 (omega arith)

-- a call that failed while the power was on is the next cut
pub fails_by_cut : (v w : View) (cuts : List ℕ) → HasFailed v w → v.off ≡ false → v.cuts ≡ Some cuts → IsNextCut (Some cuts) w.cuts w.changing
fails_by_cut v w cuts (inl was) on told = absurd (let e = sym was.before ∙ on in cc)
fails_by_cut v w cuts (inr failed) on told = subst (λ c. IsNextCut c w.cuts w.changing) told failed.cut

passes : {T : Type 0} (v w : View) (result : Result T OpenFault) (calls cut : ℕ) (cuts : List ℕ) → IsLawful w → Opens result v w → Makes calls result v w
    → v.cuts ≡ Some (cut ∷ cuts) → OnOk result (min (v.changing + calls) (2 ^ 64 - 1) < cut)
passes v w (Ok j) calls cut cuts laws opens makes told = omega (arith, makes.all, first_ahead w cut cuts laws (opens.ok.cuts ∙ told))
passes v w (Err why) calls cut cuts laws opens makes told = tt

pub answers_by_cuts : {T : Type 0} (v w : View) (result : Result T OpenFault) (calls : ℕ) (cuts : List ℕ) → IsLawful v → IsLawful w
    → Opens result v w → Makes calls result v w → v.off ≡ false → v.cuts ≡ Some cuts → AnswersByCuts result v.changing calls cuts
answers_by_cuts v w result calls [] before after opens makes on told = λ fails. fails_by_cut v w [] (opens.failed fails) on told
answers_by_cuts v w result calls (cut ∷ cuts) before after opens makes on told = (
  passes v w result calls cut cuts after opens makes told,
  λ fails.
      let is = (fails_by_cut v w (cut ∷ cuts) (opens.failed fails) on told).1 in
      (first_ahead v cut cuts before told, omega (arith, is, makes.most)),
)
