-- Groups after one of their numbers was added or went.
use Rattle.std.proofs.Common.{◌≡◌, ℕ, Bool, true, false, cond, List, [], ◌∷◌, Option, Some, None, refl, sym, ap, arith, ◌∙◌}
use Rattle.std.specs.Prelude.{unwrap_or, is_some, is_err, not, length, ◌==◌, Result, Ok, Err, OnOk, OnErr}
use Rattle.std.proofs.lemmas.Bool.Decides.{nat_tests}
use Rattle.std.specs.Cmp.{IsTotalOrder}
use Rattle.std.specs.Ordering.{is_eq}
use Rattle.std.specs.declared.cmp.Ordering.{Ordering}
use Rattle.std.proofs.lemmas.Cmp.{tied_itself}
use Rattle.key_map.specs.Entries.{map_get, map_put, map_set, map_remove}
use Rattle.key_map.proofs.EntriesLemmas.{eq-flip, map_get-put, map_get-set, map_get-remove, map_get-same}
use Rattle.web_locks.specs.Numbers.{with_number, without_number}
use Rattle.web_locks.specs.Groups.{Adds, AddsAtMost, Removes, SameGroups, group_of}
use Rattle.web_locks.proofs.NumberLemmas.{without_with}

module _ {G : Type 0} (cmp : G → G → Ordering) (order : IsTotalOrder cmp) where
  -- the numbers found at each group, where one is written
  found_at : (b : Bool) (g q : G) (numbers : List ℕ) (old : List (G × List ℕ))
      → unwrap_or (cond b (Some numbers) (map_get cmp q old)) [] ≡ cond b numbers (group_of cmp q old)
  found_at true g q numbers old = refl
  found_at false g q numbers old = refl

  -- equal groups have the same numbers
  pub alike_group : (g q : G) (groups : List (G × List ℕ)) → is_eq (cmp g q) ≡ true → group_of cmp q groups ≡ group_of cmp g groups
  alike_group g q groups same = ap (λ o. unwrap_or o []) (sym (map_get-same cmp order g q groups same))

  here : (b : Bool) (g q : G) (f : List ℕ → List ℕ) (groups : List (G × List ℕ)) → is_eq (cmp g q) ≡ b
      → cond b (f (group_of cmp g groups)) (group_of cmp q groups) ≡ cond b (f (group_of cmp q groups)) (group_of cmp q groups)
  here true g q f groups same = ap f (sym (alike_group g q groups same))
  here false g q f groups same = refl

  -- a group that is written in its place
  pub written : (g q : G) (f : List ℕ → List ℕ) (numbers : List ℕ) (old new : List (G × List ℕ)) → Some numbers ≡ map_get cmp g old
      → new ≡ map_set cmp g (f numbers) old
      → group_of cmp q new ≡ cond (is_eq (cmp g q)) (f (group_of cmp q old)) (group_of cmp q old)
  written g q f numbers old new found is =
      ap (group_of cmp q) is
      ∙ ap (λ o. unwrap_or o []) (map_get-set cmp order q g (f numbers) old (ap is_some (sym found)))
      ∙ ap (λ b. unwrap_or (cond b (Some (f numbers)) (map_get cmp q old)) []) (eq-flip cmp order q g)
      ∙ found_at (is_eq (cmp g q)) g q (f numbers) old
      ∙ ap (λ ns. cond (is_eq (cmp g q)) (f ns) (group_of cmp q old)) (ap (λ o. unwrap_or o []) found)
      ∙ here (is_eq (cmp g q)) g q f old refl

  same_both : {A : Type 0} (b : Bool) (x : A) → cond b x x ≡ x
  same_both true x = refl
  same_both false x = refl

  -- a group that is given the numbers that it has
  pub written_same : (g q : G) (numbers : List ℕ) (old new : List (G × List ℕ)) → Some numbers ≡ map_get cmp g old
      → new ≡ map_set cmp g numbers old → group_of cmp q new ≡ group_of cmp q old
  written_same g q numbers old new found is =
      written g q (λ ns. ns) numbers old new found is ∙ same_both (is_eq (cmp g q)) (group_of cmp q old)

  -- the numbers of the group itself
  pub written_here : (g : G) (before numbers : List ℕ) (old new : List (G × List ℕ)) → Some before ≡ map_get cmp g old
      → new ≡ map_set cmp g numbers old → group_of cmp g new ≡ numbers
  written_here g before numbers old new found is =
      written g g (λ ns. numbers) before old new found is
      ∙ ap (λ o. cond (is_eq o) numbers (group_of cmp g old)) (tied_itself order g)

  absent_step : (b : Bool) (g q : G) (f : List ℕ → List ℕ) (old : List (G × List ℕ)) → is_eq (cmp g q) ≡ b → map_get cmp g old ≡ None
      → cond b (f []) (group_of cmp q old) ≡ cond b (f (group_of cmp q old)) (group_of cmp q old)
  absent_step true g q f old same none = ap f (sym (alike_group g q old same ∙ ap (λ o. unwrap_or o []) none))
  absent_step false g q f old same none = refl

  stays_step : (b : Bool) (numbers : List ℕ) (g q : G) (n : ℕ) (old : List (G × List ℕ)) → is_eq (cmp g q) ≡ b → map_get cmp g old ≡ None
      → group_of cmp q old ≡ cond b (without_number n (group_of cmp q old)) (group_of cmp q old)
  stays_step true numbers g q n old same none =
      let empty : group_of cmp q old ≡ [] = alike_group g q old same ∙ ap (λ o. unwrap_or o []) none in
      empty ∙ sym (ap (without_number n) empty)
  stays_step false numbers g q n old same none = refl

  -- no number goes from a group that is not there
  pub removes_none : (g : G) (n : ℕ) (old : List (G × List ℕ)) → map_get cmp g old ≡ None → Removes cmp (λ q. is_eq (cmp g q)) n old old
  removes_none g n old none q = stays_step (is_eq (cmp g q)) [] g q n old refl none

  -- a group that is new
  pub made : (g q : G) (numbers : List ℕ) (old new : List (G × List ℕ)) → new ≡ map_put cmp g numbers old
      → group_of cmp q new ≡ cond (is_eq (cmp g q)) numbers (group_of cmp q old)
  made g q numbers old new is =
      ap (group_of cmp q) is
      ∙ ap (λ o. unwrap_or o []) (map_get-put cmp order q g numbers old)
      ∙ ap (λ b. unwrap_or (cond b (Some numbers) (map_get cmp q old)) []) (eq-flip cmp order q g)
      ∙ found_at (is_eq (cmp g q)) g q numbers old

  -- a group that is new, with its first number
  pub made_first : (g : G) (n : ℕ) (numbers : List ℕ) (old new : List (G × List ℕ)) → map_get cmp g old ≡ None → numbers ≡ n ∷ []
      → new ≡ map_put cmp g numbers old → Adds cmp (λ q. is_eq (cmp g q)) n old new
  made_first g n numbers old new none one is q =
      made g q numbers old new is
      ∙ ap (λ ns. cond (is_eq (cmp g q)) ns (group_of cmp q old)) one
      ∙ absent_step (is_eq (cmp g q)) g q (with_number n) old refl none

  none_at : (b : Bool) (g q : G) (old : List (G × List ℕ)) → unwrap_or (cond b None (map_get cmp q old)) [] ≡ cond b [] (group_of cmp q old)
  none_at true g q old = refl
  none_at false g q old = refl

  -- a group that goes
  pub gone : (g q : G) (old new : List (G × List ℕ)) → new ≡ map_remove cmp g old
      → group_of cmp q new ≡ cond (is_eq (cmp g q)) [] (group_of cmp q old)
  gone g q old new is =
      ap (group_of cmp q) is ∙ ap (λ o. unwrap_or o []) (map_get-remove cmp order q g old) ∙ none_at (is_eq (cmp g q)) g q old

  gone_step : (b : Bool) (g q : G) (number : ℕ) (old mid : List (G × List ℕ)) → is_eq (cmp g q) ≡ b
      → group_of cmp g mid ≡ [] → group_of cmp q mid ≡ cond b (without_number number (group_of cmp q old)) (group_of cmp q old)
      → cond b [] (group_of cmp q mid) ≡ cond b (without_number number (group_of cmp q old)) (group_of cmp q old)
  gone_step true g q number old mid same none is = sym none ∙ sym (alike_group g q mid same) ∙ is
  gone_step false g q number old mid same none is = is

  -- a group that goes, since it has no numbers left
  pub emptied : (g : G) (number : ℕ) (old mid new : List (G × List ℕ)) → Removes cmp (λ q. is_eq (cmp g q)) number old mid
      → group_of cmp g mid ≡ [] → new ≡ map_remove cmp g mid → Removes cmp (λ q. is_eq (cmp g q)) number old new
  emptied g number old mid new removes none is q =
      gone g q mid new is ∙ gone_step (is_eq (cmp g q)) g q number old mid refl none (removes q)

most_step : (b : Bool) (number : ℕ) (numbers : List ℕ)
    → cond b (without_number number (cond b (with_number number numbers) numbers)) (cond b (with_number number numbers) numbers)
    ≡ cond b (without_number number numbers) numbers
most_step true number numbers = without_with number numbers
most_step false number numbers = refl

module _ {G : Type 0} (cmp : G → G → Ordering) (within : G → Bool) (number : ℕ) (old new : List (G × List ℕ)) where
  -- what was added is at most added
  pub added_at_most : Adds cmp within number old new → AddsAtMost cmp within number old new
  added_at_most adds q =
      ap (λ ns. cond (within q) (without_number number ns) ns) (adds q) ∙ most_step (within q) number (group_of cmp q old)

  pub same_at_most : SameGroups cmp old new → AddsAtMost cmp within number old new
  same_at_most same q = ap (λ ns. cond (within q) (without_number number ns) ns) (same q)

  -- the same of other groups that are no others
  pub adds_alike : (also : G → Bool) → ((q : G) → within q ≡ also q) → Adds cmp within number old new → Adds cmp also number old new
  adds_alike also same adds q =
      adds q ∙ ap (λ b. cond b (with_number number (group_of cmp q old)) (group_of cmp q old)) (same q)

  pub most_alike : (also : G → Bool) → ((q : G) → within q ≡ also q) → AddsAtMost cmp within number old new → AddsAtMost cmp also number old new
  most_alike also same most q =
      ap (λ b. cond b (without_number number (group_of cmp q new)) (group_of cmp q new)) (sym (same q))
      ∙ most q
      ∙ ap (λ b. cond b (without_number number (group_of cmp q old)) (group_of cmp q old)) (same q)

  pub removes_alike : (also : G → Bool) → ((q : G) → within q ≡ also q) → Removes cmp within number old new → Removes cmp also number old new
  removes_alike also same removes q =
      removes q ∙ ap (λ b. cond b (without_number number (group_of cmp q old)) (group_of cmp q old)) (same q)

pub none_from : {A : Type 0} (o : Option A) → false ≡ is_some o → o ≡ None
none_from None is = refl
none_from (Some x) is = absurd (cc is)

pub empty_numbers : (xs : List ℕ) → not (length xs == 0) ≡ false → xs ≡ []
empty_numbers [] is = refl
empty_numbers (x ∷ xs) is = grind (arith, nat_tests)

-- what holds of either answer
pub on_either : {T E : Type 0} {P Q R : Type 0} (result : Result T E) → OnOk result P → OnErr result Q → (P → R) → (Q → R) → R
on_either (Ok x) p q f g = f p
on_either (Err e) p q f g = g q

pub ok_from : {T E P : Type 0} (result : Result T E) → is_err result ≡ false → OnOk result P → P
ok_from (Ok x) is p = p
ok_from (Err e) is p = absurd (cc is)
