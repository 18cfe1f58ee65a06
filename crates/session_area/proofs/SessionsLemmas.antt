-- The areas of tabs after a write at one tab.
use Rattle.std.proofs.Common.{◌≡◌, ◌≢◌, ℕ, Bool, true, false, cond, List, [], ◌∷◌, Option, Some, None, Bor, refl, arith, subst, sym, ap, ◌∙◌}
use Rattle.std.specs.Prelude.{unwrap_or, is_some, MatchOption, OnSome, option_copied, not, length, ◌==◌}
use Rattle.std.proofs.lemmas.Bool.Decides.{nat_tests}
use Rattle.std.specs.declared.cmp.Ordering.{Ordering}
use Rattle.std.specs.List.{AllZip}
use Rattle.std.specs.Cmp.{Equal-is, nat_cmp_total}
use Rattle.key_map.proofs.EntriesLemmas.{map_get-set, eq-flip}
use Rattle.std.specs.Ordering.{nat_cmp, is_eq}
use Rattle.local_area.specs.Area.{Pair}
use Rattle.key_map.specs.Entries.{map_get, map_set, IsCopy, HasSameValues}
use Rattle.session_area.specs.Sessions.{areas_of, ChangesTab, SameAreas}

-- a tab is told from another
itself : (tab : ℕ) → is_eq (nat_cmp tab tab) ≡ true
itself tab = grind (arith, Equal-is)

one : (tab other : ℕ) → is_eq (nat_cmp tab other) ≡ true → tab ≡ other
one tab other same = grind (arith, Equal-is)

apart : (tab other : ℕ) → tab ≢ other → is_eq (nat_cmp tab other) ≡ false
apart tab other differ = grind (arith, Equal-is)

module _ {K : Type 0} where
  -- what is found at each tab, where one is written
  abbrev pub Finds : ℕ → Option (List (K × List Pair)) → (old new : List (ℕ × List (K × List Pair))) → Type 0
  Finds tab value old new = (q : ℕ) → map_get nat_cmp q new ≡ cond (is_eq (nat_cmp tab q)) value (map_get nat_cmp q old)

  pub ChangesTab-found : (tab : ℕ) (value : Option (List (K × List Pair))) (old new : List (ℕ × List (K × List Pair))) → Finds tab value old new
      → ChangesTab tab (unwrap_or value []) old new
  ChangesTab-found tab value old new finds = record {
    here = rw (finds tab, itself tab) refl;
    elsewhere = λ other differ. rw (finds other, apart tab other differ) refl;
  }

  same_step : (value : Option (List (K × List Pair))) (b : Bool) → (b ≡ true → value ≡ None)
      → unwrap_or (cond b (Some []) value) [] ≡ unwrap_or value []
  same_step value true none = rw (none refl) refl
  same_step value false none = refl

  -- a tab that was not there has no areas, and neither has one that was made
  pub SameAreas-made : (tab : ℕ) (old new : List (ℕ × List (K × List Pair))) → Finds tab (Some []) old new
      → map_get nat_cmp tab old ≡ None → SameAreas old new
  SameAreas-made tab old new finds missing =
      λ q. rw (finds q) (same_step (map_get nat_cmp q old) (is_eq (nat_cmp tab q))
      (λ same. let is : tab ≡ q = one tab q same in rw (← is) missing))

  -- a tab that was there and is written
  pub ChangesTab-set : (tab : ℕ) (here areas : List (K × List Pair)) (old new : List (ℕ × List (K × List Pair))) → Some here ≡ map_get nat_cmp tab old
      → new ≡ map_set nat_cmp tab areas old → ChangesTab tab areas old new
  ChangesTab-set tab here areas old new found is =
      ChangesTab-found tab (Some areas) old new (λ q.
      ap (map_get nat_cmp q) is
      ∙ map_get-set nat_cmp nat_cmp_total q tab areas old (ap is_some (sym found))
      ∙ ap (λ b. cond b (Some areas) (map_get nat_cmp q old)) (eq-flip nat_cmp nat_cmp_total q tab))

  -- a tab that is given the areas that it has, while all tabs stay
  pub ChangesTab-same : (tab : ℕ) (areas : List (K × List Pair)) (old new : List (ℕ × List (K × List Pair))) → SameAreas old new
      → areas ≡ areas_of tab old → ChangesTab tab areas old new
  ChangesTab-same tab areas old new same is = record {
    here = same tab ∙ sym is;
    elsewhere = λ other differ. same other;
  }

  -- a tab whose areas are those that it had
  pub SameAreas-changed : (tab : ℕ) (areas : List (K × List Pair)) (old new : List (ℕ × List (K × List Pair))) → ChangesTab tab areas old new
      → areas ≡ areas_of tab old → SameAreas old new
  SameAreas-changed tab areas old new changes same = λ q. at q (is_eq (nat_cmp tab q)) refl
    where
      at : (q : ℕ) (b : Bool) → is_eq (nat_cmp tab q) ≡ b → areas_of q new ≡ areas_of q old
      at q true is = subst (λ n. areas_of n new ≡ areas_of n old) (one tab q is) (changes.here ∙ same)
      at q false is = changes.elsewhere q (λ tie. absurd (cc (subst (λ n. is_eq (nat_cmp tab n) ≡ true) tie (itself tab), is)))

  -- a tab that is written twice
  pub ChangesTab-twice : (tab : ℕ) (one two : List (K × List Pair)) (old mid new : List (ℕ × List (K × List Pair)))
      → ChangesTab tab one old mid → ChangesTab tab two mid new → ChangesTab tab two old new
  ChangesTab-twice tab one two old mid new first second = record {
    here = second.here;
    elsewhere = λ other differ. second.elsewhere other differ ∙ first.elsewhere other differ;
  }

  -- a tab that is written after all tabs stayed
  pub ChangesTab-after : (tab : ℕ) (areas : List (K × List Pair)) (old mid new : List (ℕ × List (K × List Pair)))
      → SameAreas old mid → ChangesTab tab areas mid new → ChangesTab tab areas old new
  ChangesTab-after tab areas old mid new same changes = record {
    here = changes.here;
    elsewhere = λ other differ. changes.elsewhere other differ ∙ same other;
  }

  copied_step : (cmp : K → K → Ordering) (a b : List (K × List Pair)) (c d : Option (List (K × List Pair))) (t : Bool)
      → HasSameValues cmp a b → HasSameValues cmp (unwrap_or c []) (unwrap_or d [])
      → HasSameValues cmp (unwrap_or (cond t (Some a) c) []) (unwrap_or (cond t (Some b) d) [])
  copied_step cmp a b c d true here rest = here
  copied_step cmp a b c d false here rest = rest

  both_some : (C : K → K → Type 0) (D : List Pair → List Pair → Type 0) (a b : List (K × List Pair)) (c d : Option (List (K × List Pair))) (t : Bool)
      → IsCopy C D a b → IsCopy C D (unwrap_or c []) (unwrap_or d [])
      → IsCopy C D (unwrap_or (cond t (Some a) c) []) (unwrap_or (cond t (Some b) d) [])
  both_some C D a b c d true here rest = here
  both_some C D a b c d false here rest = rest

  -- tabs whose maps are clones
  pub areas_of-clone : (C : K → K → Type 0) (old new : List (ℕ × List (K × List Pair)))
      → AllZip (λ e f. (f.0 ≡ e.0) × IsCopy C (λ area clone. clone ≡ area) e.1 f.1) old new
      → (tab : ℕ) → IsCopy C (λ area clone. clone ≡ area) (areas_of tab old) (areas_of tab new)
  areas_of-clone C [] [] zip tab = tt
  areas_of-clone C [] (f ∷ fs) zip tab = absurd zip
  areas_of-clone C (e ∷ es) [] zip tab = absurd zip
  areas_of-clone C (e ∷ es) (f ∷ fs) zip tab =
      rw zip.0.0 (both_some C (λ area clone. clone ≡ area) e.1 f.1 _ _ (is_eq (nat_cmp tab e.0)) zip.0.1 (areas_of-clone C es fs zip.1 tab))

pub none_from : {A : Type 0} (o : Option A) → false ≡ is_some o → o ≡ None
none_from None is = refl
none_from (Some x) is = absurd (cc is)

pub both_none : {A : Type 0} (b : Bool) → ◌≡◌ {A = Option A} None (cond b None None)
both_none true = refl
both_none false = refl

-- the areas of a tab that are lent, where there are any
pub areas_lent : {X : Type 0} (lent : Option (Bor (List X))) (at : Option (List X)) → option_copied lent ≡ at
    → MatchOption lent (unwrap_or at [] ≡ []) (λ areas. areas.now ≡ unwrap_or at [])
areas_lent None at is = sym (ap (λ o. unwrap_or o []) is)
areas_lent (Some areas) at is = ap (λ o. unwrap_or o []) is

pub on_some : {A P Q : Type 0} (o : Option A) → (P → Q) → OnSome o P → OnSome o Q
on_some None f p = tt
on_some (Some x) f p = f p

pub empty_length : {A : Type 0} (xs : List A) → not (length xs == 0) ≡ false → xs ≡ []
empty_length [] is = refl
empty_length (x ∷ xs) is = grind (arith, nat_tests)
