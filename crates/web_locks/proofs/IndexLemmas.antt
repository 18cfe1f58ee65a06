-- What finds the requests, as one is noted or forgotten.
use Rattle.std.proofs.Common.{◌≡◌, ℕ, Bool, true, false, List, refl, sym, ap, arith, ◌∙◌}
use Rattle.std.specs.Prelude.{◌&&◌, nat_eq, bytes_eq, string_bytes}
use Rattle.std.specs.Cmp.{Equal-is, IsTotalOrder, both_ways}
use Rattle.std.specs.Cmp.Lexicographic.{slice_cmp, nat_list_cmp_total}
use Rattle.std.specs.FinMap.{nat_cmp-IsAntisymmetric, slice_cmp-IsAntisymmetric}
use Rattle.std.specs.Ordering.{is_eq, nat_cmp, ordering_then}
use Rattle.std.specs.Rc.{rc_value}
use Rattle.std.specs.declared.cmp.Ordering.{Ordering}
use Rattle.std.specs.declared.cmp.Ordering.TheVariants.{Less, Equal, Greater}
use Rattle.std.proofs.lemmas.Bool.Decides.{nat_tests}
use Rattle.std.proofs.lemmas.Cmp.{tied_itself}
use Rattle.std.proofs.lemmas.Slice.Eq.{bytes_eq-Decides}
use Rattle.agent_base.specs.declared.refusals.Label.{Label}
use Rattle.key_map.proofs.EntriesLemmas.{eq-flip}
use Rattle.web_locks.specs.declared.resource.OwnId.{OwnId}
use Rattle.web_locks.specs.Lock.{PlainLock, is_owned}
use Rattle.web_locks.specs.Index.{SharedResource, has_id, id_order, shared_order}
use Rattle.web_locks.specs.Owners.{label_order}

then_tie : (a b : Ordering) → is_eq (ordering_then a b) ≡ (is_eq a && is_eq b)
then_tie Less b = refl
then_tie Equal b = refl
then_tie Greater b = refl

number_tie : (a b : ℕ) → is_eq (nat_cmp a b) ≡ nat_eq b a
number_tie a b = grind (arith, Equal-is, nat_tests)

text_tie : (a b : List ℕ) → is_eq (slice_cmp nat_cmp a b) ≡ bytes_eq b a
text_tie a b =
    both_ways (is_eq (slice_cmp nat_cmp a b)) (bytes_eq b a)
    (λ is. (bytes_eq-Decides b a).1 (sym (slice_cmp-IsAntisymmetric nat_cmp-IsAntisymmetric a b ((Equal-is (slice_cmp nat_cmp a b)).0 is))))
    (λ is. (Equal-is (slice_cmp nat_cmp a b)).1
    (ap (slice_cmp nat_cmp a) ((bytes_eq-Decides b a).0 is) ∙ tied_itself nat_list_cmp_total a))

label_tie : (a b : Label) → is_eq (label_order a b) ≡ (nat_eq b.tab a.tab && nat_eq b.frame a.frame)
label_tie a b =
    then_tie (nat_cmp a.tab b.tab) (nat_cmp a.frame b.frame)
    ∙ ap (λ t. t && is_eq (nat_cmp a.frame b.frame)) (number_tie a.tab b.tab)
    ∙ ap (λ t. nat_eq b.tab a.tab && t) (number_tie a.frame b.frame)

module _ {K : Type 0} where
  -- the group of a request's document
  pub owner_group : (lock : PlainLock K) (q : Label) → is_eq (label_order lock.owner q) ≡ is_owned q lock
  owner_group lock q = label_tie lock.owner q

  -- and that of its number
  pub id_group : (lock : PlainLock K) (q : OwnId) → is_eq (id_order (record { owner = lock.owner; id = lock.id }) q) ≡ has_id q lock
  id_group lock q =
      then_tie (label_order lock.owner q.owner) (nat_cmp lock.id q.id)
      ∙ ap (λ t. t && is_eq (nat_cmp lock.id q.id)) (label_tie lock.owner q.owner)
      ∙ ap (λ t. (nat_eq q.owner.tab lock.owner.tab && nat_eq q.owner.frame lock.owner.frame) && t) (number_tie lock.id q.id)

  -- and that of its name
  pub shared_group : (cmp : K → K → Ordering) → IsTotalOrder cmp → (r q : SharedResource K)
      → is_eq (shared_order cmp r q)
      ≡ (is_eq (cmp (rc_value q).key (rc_value r).key) && bytes_eq (string_bytes (rc_value q).name) (string_bytes (rc_value r).name))
  shared_group cmp order r q =
      then_tie (cmp (rc_value r).key (rc_value q).key) (slice_cmp nat_cmp (string_bytes (rc_value r).name) (string_bytes (rc_value q).name))
      ∙ ap (λ t. t && is_eq (slice_cmp nat_cmp (string_bytes (rc_value r).name) (string_bytes (rc_value q).name)))
      (eq-flip cmp order (rc_value r).key (rc_value q).key)
      ∙ ap (λ t. is_eq (cmp (rc_value q).key (rc_value r).key) && t) (text_tie (string_bytes (rc_value r).name) (string_bytes (rc_value q).name))

and_swap : (a b : Bool) → (a && b) ≡ (b && a)
and_swap true true = refl
and_swap true false = refl
and_swap false true = refl
and_swap false false = refl

-- a test that is made for some
pub where_group : (wanted tie test : Bool) → tie ≡ test → (wanted && tie) ≡ (test && wanted)
where_group wanted tie test same = ap (λ t. wanted && t) same ∙ and_swap wanted test
