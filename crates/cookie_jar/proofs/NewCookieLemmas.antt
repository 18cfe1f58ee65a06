-- The cookie that a new one replaces, from what stands at its place.
use Rattle.std.proofs.Common.{◌≡◌, ℤ, ℕ, Bool, true, false, cond, not, List, [], ◌∷◌, refl, ap, ◌∙◌, sym, subst}
use Rattle.std.specs.Prelude.{Option, Some, None, IfSome, IsTrue, option_map, slice_get, is_some, unwrap_or}
use Rattle.std.specs.List.{find}
use Rattle.std.proofs.lemmas.List.Folds.{find_at}
use Rattle.std.proofs.lemmas.Map.Entries.{option_filter}
use Rattle.partition_limits.specs.declared.tally.CellKind.{CellKind}
use Rattle.cookie_jar.specs.declared.plan.StoredKind.{StoredKind}
use Rattle.cookie_jar.specs.declared.step.JarStep.{JarStep}
use Rattle.cookie_jar.specs.Cookie.{PlainCookie, same}
use Rattle.cookie_jar.specs.Lifetime.{is_expired}
use Rattle.cookie_jar.specs.NewCookie.{replaced, kind_with}
use Rattle.cookie_jar.specs.Planned.{plan_of}
use Rattle.cookie_jar.specs.Steps.{place_of, steps}

pub replaced_at : (now : ℤ) (new : PlainCookie) (cs : List PlainCookie) (place : ℕ) → place ≡ place_of new cs
    → option_map (λ c. c.creation) (option_filter (λ c. not (is_expired now c)) (slice_get cs place)) ≡ option_map (λ c. c.creation) (replaced now new cs)
replaced_at now new cs place here =
    ap (λ o. option_map (λ c. c.creation) (option_filter (λ c. not (is_expired now c)) o)) (ap (slice_get cs) here ∙ sym (find_at (λ c. same new c) cs))

found_is_same : (new : PlainCookie) (cs : List PlainCookie) → IfSome (find (λ c. same new c) cs) (λ c. IsTrue (same new c))
found_is_same new [] = tt
found_is_same new (c ∷ cs) = at (same new c) refl (found_is_same new cs)
  where
    at : (b : Bool) → same new c ≡ b → IfSome (find (λ c. same new c) cs) (λ c. IsTrue (same new c)) → IfSome (cond b (Some c) (find (λ c. same new c) cs)) (λ c. IsTrue (same new c))
    at true is later = is
    at false is later = later

-- what stands at the place of a new cookie is the same one
pub same_at_place : (new : PlainCookie) (cs : List PlainCookie) (place : ℕ) → place ≡ place_of new cs → IfSome (slice_get cs place) (λ c. IsTrue (same new c))
same_at_place new cs place here =
    subst (λ o. IfSome o (λ c. IsTrue (same new c))) (find_at (λ c. same new c) cs ∙ ap (slice_get cs) (sym here)) (found_is_same new cs)

pub some_map : (o : Option PlainCookie) → is_some (option_map (λ c. c.creation) o) ≡ is_some o
some_map None = refl
some_map (Some c) = refl

-- a plan from its parts
pub plan_is : (kind : CellKind) (now : ℤ) (new : PlainCookie) (cs : List PlainCookie) (old : Option ℤ) (word : StoredKind) (ss : List JarStep) (f : PlainCookie)
    → old ≡ option_map (λ c. c.creation) (replaced now new cs) → word ≡ kind_with now new (is_some old)
    → f ≡ record new { creation = unwrap_or old new.creation } → ss ≡ steps kind now f cs
    → record { kind = word; steps = ss; fresh = f } ≡ plan_of kind now new cs
plan_is kind now new cs old word ss f is named fresh done = rw (done, fresh, named, is, some_map (replaced now new cs)) refl

-- the same steps of an equal cookie at an equal moment
pub steps_at : (f d : PlainCookie) → f ≡ d → (n now : ℤ) → n ≡ now → (kind : CellKind) (cs : List PlainCookie) (ss : List JarStep) → ss ≡ steps kind n d cs → ss ≡ steps kind now f cs
steps_at f d fresh n now e kind cs ss is = is ∙ ap (λ m. steps kind m d cs) e ∙ ap (λ x. steps kind now x cs) (sym fresh)
