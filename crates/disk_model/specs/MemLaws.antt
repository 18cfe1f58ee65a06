-- What a disk in memory tells keeps to the laws of a disk.
-- Source: none.
use Rattle.std.proofs.Common.{◌≡◌, ℕ, ◌<◌, true, List, arith, subst, refl}
use Rattle.std.specs.Prelude.{Some, None, All, length, ◌==◌, nat_lt}
use Rattle.std.proofs.lemmas.Bool.{cond_both, ltb-true}
use Rattle.std.proofs.lemmas.List.Elements.{All-weaker, filter_passes}
use Rattle.disk_model.specs.DiskLaws.{IsLawful}
use Rattle.disk_model.specs.History.{Past, held, ImageOf}
use Rattle.disk_model.specs.Laws.{contents_stay, now_counts, now_only}
use Rattle.disk_model.specs.MemDisk.{MemView, view_of, numbers_of, numbers_ahead, told_cuts}
use Rattle.disk_model.specs.Schedule.{Plan}

some_is : (a b : List ℕ) → Some a ≡ Some b → a ≡ b
some_is a b e = cc

is_contents : (past : Past) (c : List ℕ) → Some (held past).contents ≡ Some c
    → ImageOf (held past) c
is_contents past c is =
    let P : List ℕ → Type 0 = λ l. ImageOf (held past) l in
    subst P (some_is (held past).contents c is) (contents_stay past.first past.events)

told_ahead : (plan : Plan) (cuts : List ℕ) → told_cuts plan ≡ Some cuts
    → All (λ cut. plan.calls < cut) cuts
told_ahead plan cuts is =
    cond_both (length plan.fails == 0) (Some (numbers_ahead plan)) None
    (λ told. told ≡ Some cuts → All (λ cut. plan.calls < cut) cuts)
    (λ _ are.
    subst (All (λ cut. plan.calls < cut)) (some_is (numbers_ahead plan) cuts are) lie_ahead)
    (λ _ none. none_is none) is
  where
    lie_ahead : All (λ cut. plan.calls < cut) (numbers_ahead plan)
    lie_ahead =
        All-weaker (λ cut. nat_lt plan.calls cut ≡ true) (λ cut. plan.calls < cut)
        (ltb-true plan.calls) (numbers_ahead plan)
        (filter_passes (nat_lt plan.calls) (numbers_of plan.cuts))

    none_is : {A : Type 0} → None ≡ Some cuts → A
    none_is e = cc

-- what a disk in memory tells keeps to the laws
pub mem_lawful : (disk : MemView) → IsLawful (view_of disk)
mem_lawful disk = record {
  counts_now = λ t c le image. now_counts disk.past.first disk.past.events disk.base t c le image;
  only_now = λ c since. now_only disk.past.first disk.past.events disk.base c since;
  earlier = λ s t c le since. (since.0, since.1, omega (arith, le, since.2), since.3);
  told = λ e. ((held disk.past).contents, refl);
  tells_contents = λ c is. refl;
  contents_may_stay = λ c is. is_contents disk.past c is;
  untold = λ t c since. refl;
  cuts_ahead = λ cuts is. told_ahead disk.plan cuts is;
}
