-- A plan that replaces one cookie, and does that alone, does not depend on when cookies were used.
use Rattle.std.proofs.Common.{◌≡◌, ℤ, ℕ, zero, suc, ◌+◌, ◌<◌, ◌≤◌, Bool, true, false, cond, not, List, [], ◌∷◌, ◌++◌, map, take, drop, length, get_or, refl, ap, ◌∙◌, sym, arith, subst}
use Rattle.std.specs.Prelude.{◌||◌, ◌==◌, ◌-◌, nat_lt, slice_get, Some, None, option_map, is_some, unwrap_or, IfSome, Result, Ok, Err, MatchResult, ⊤}
use Rattle.std.specs.List.{count_by, find, list_any}
use Rattle.std.proofs.lemmas.Bool.{false≢true, and_from, lt-ltb}
use Rattle.std.proofs.lemmas.List.{length-map, map-append, take-map, drop-map}
use Rattle.std.proofs.lemmas.Map.Entries.{option_filter}
use Rattle.agent_base.specs.Answers.{Answers}
use Rattle.suffix_list.specs.Suffix.{Rule}
use Rattle.setcookie_parse.specs.SetCookie.{CookieText}
use Rattle.partition_limits.specs.declared.tally.CellKind.{CellKind}
use Rattle.partition_limits.specs.declared.tally.CellKind.TheVariants.{Own, Partition}
use Rattle.partition_limits.specs.Limits.{fits}
use Rattle.cookie_jar.specs.declared.cause.CookieDrop.{CookieDrop}
use Rattle.cookie_jar.specs.declared.cause.CookieDrop.TheVariants as why
use Rattle.cookie_jar.specs.declared.step.JarStep.{JarStep}
use Rattle.cookie_jar.specs.declared.step.JarStep.TheVariants.{Insert, Replace, Remove}
use Rattle.cookie_jar.specs.Access.{PlainAccess}
use Rattle.cookie_jar.specs.Cookie.{PlainCookie, PlainJar, copies, counted, keeps_limits, same}
use Rattle.cookie_jar.specs.Drops.{dropped, is_live_such, is_overlaid, is_same_http_only}
use Rattle.cookie_jar.specs.Lifetime.{is_expired, is_persistent}
use Rattle.cookie_jar.specs.NewCookie.{kind_with, lower_domain, made_with, own_domain, renewed, replaced, stored_kind}
use Rattle.cookie_jar.specs.Performed.{CanPut, CanReplace, after_removals}
use Rattle.cookie_jar.specs.Persistent.{RowReplace, kept_cookie, row_fits}
use Rattle.cookie_jar.specs.Planned.{PlainPlan, place_replaced, plan_of, planned, replacement_of, unless_dropped}
use Rattle.cookie_jar.specs.Sending.{marked, used}
use Rattle.cookie_jar.specs.Steps.{going, persists_at, place_of, put, put_step, rank, remove_step, removal_at, removals, live_steps, steps}
use Rattle.partition_limits.specs.Victims.{without}
use Rattle.cookie_jar.proofs.MarkLemmas.{marked_from, marked_copies}
use Rattle.cookie_jar.proofs.NewCookieLemmas.{some_map}
use Rattle.cookie_jar.proofs.PerformLemmas.{performs}
use Rattle.cookie_jar.proofs.PlanLemmas.{plan_fits, planned_plan}
use Rattle.cookie_jar.proofs.PutLemmas.{small_pair, steps_alone, steps_are}
use Rattle.cookie_jar.proofs.RemovalLemmas.{any_map, count_map}
use Rattle.cookie_jar.proofs.StepLaws.{none_gone, rows_hold, stored_fits, stored_is}
use Rattle.cookie_jar.proofs.ValidLaws.{counted_kept, map_sum}

-- a use changes the last use alone
used_kept : (n : ℕ) (ps : List ℕ) (now : ℤ) (cs : List PlainCookie) → map kept_cookie (marked_from n ps now cs) ≡ map kept_cookie cs
used_kept n ps now [] = refl
used_kept n ps now (c ∷ cs) = λ i. at (list_any (λ p. p == n) ps) i ∷ used_kept (n + 1) ps now cs i
  where
    at : (b : Bool) → kept_cookie (cond b (used now c) c) ≡ kept_cookie c
    at true = refl
    at false = refl

-- ---- what does not look at the last use

kept_drop : (rules : List Rule) (text : CookieText) (access : PlainAccess) (now : ℤ) (cs : List PlainCookie) → dropped rules text access now (map kept_cookie cs) ≡ dropped rules text access now cs
kept_drop rules text access now cs =
    let new = made_with (own_domain rules access (lower_domain text)) text access now in
    rw (← any_map kept_cookie (is_live_such now (is_overlaid access new)) cs, ← any_map kept_cookie (is_live_such now (is_same_http_only new)) cs) refl

kept_creation : (now : ℤ) (new : PlainCookie) (cs : List PlainCookie) → option_map (λ c. c.creation) (replaced now new (map kept_cookie cs)) ≡ option_map (λ c. c.creation) (replaced now new cs)
kept_creation now new [] = refl
kept_creation now new (c ∷ cs) = at (same new c) (kept_creation now new cs)
  where
    live : (e : Bool) → option_map (λ c. c.creation) (cond (not e) (Some (kept_cookie c)) None) ≡ option_map (λ c. c.creation) (cond (not e) (Some c) None)
    live true = refl
    live false = refl

    at : (b : Bool) → option_map (λ c. c.creation) (replaced now new (map kept_cookie cs)) ≡ option_map (λ c. c.creation) (replaced now new cs)
        → option_map (λ c. c.creation) (option_filter (λ c. not (is_expired now c)) (cond b (Some (kept_cookie c)) (find (λ c. same new c) (map kept_cookie cs))))
        ≡ option_map (λ c. c.creation) (option_filter (λ c. not (is_expired now c)) (cond b (Some c) (find (λ c. same new c) cs)))
    at true more = live (is_expired now c)
    at false more = more

kept_place : (fresh : PlainCookie) (cs : List PlainCookie) → place_of fresh (map kept_cookie cs) ≡ place_of fresh cs
kept_place fresh [] = refl
kept_place fresh (c ∷ cs) = ap (λ n. cond (not (same fresh c)) (1 + n) 0) (kept_place fresh cs)

kept_rank : (place : ℕ) (cs : List PlainCookie) → rank place (map kept_cookie cs) ≡ rank place cs
kept_rank place cs = ap (count_by is_persistent) (take-map kept_cookie place cs) ∙ sym (count_map kept_cookie is_persistent (take place cs))

kept_persists : (place : ℕ) (cs : List PlainCookie) → persists_at place (map kept_cookie cs) ≡ persists_at place cs
kept_persists place cs =
    ap (λ r. list_any is_persistent (take 1 r)) (drop-map kept_cookie place cs) ∙ ap (list_any is_persistent) (take-map kept_cookie 1 (drop place cs)) ∙ sym (any_map kept_cookie is_persistent (take 1 (drop place cs)))

all_kept : (kind : CellKind) (cs : List PlainCookie) → keeps_limits kind (map kept_cookie cs) ≡ keeps_limits kind cs
all_kept kind cs = λ i. fits kind (length-map cs kept_cookie i) (map_sum (counted kind) (counted_kept kind) cs i)

put_kept : (fresh : PlainCookie) (cs : List PlainCookie) → map kept_cookie (put fresh cs) ≡ take (place_of fresh cs) (map kept_cookie cs) ++ kept_cookie fresh ∷ drop (place_of fresh cs + 1) (map kept_cookie cs)
put_kept fresh cs =
    let p = place_of fresh cs in
    map-append kept_cookie (take p cs) (fresh ∷ drop (p + 1) cs)
    ∙ (λ i. sym (take-map kept_cookie p cs) i ++ kept_cookie fresh ∷ sym (drop-map kept_cookie (p + 1) cs) i)

-- ---- of two cells whose cookies differ in their last use alone

module _ (cs ds : List PlainCookie) (alike : map kept_cookie cs ≡ map kept_cookie ds) where
  by : {X : Type 0} (of : List PlainCookie → X) → ((xs : List PlainCookie) → of (map kept_cookie xs) ≡ of xs) → of cs ≡ of ds
  by of kept = sym (kept cs) ∙ ap of alike ∙ kept ds

  both_hold : (kind : CellKind) (fresh : PlainCookie) → keeps_limits kind (put fresh cs) ≡ keeps_limits kind (put fresh ds)
  both_hold kind fresh =
      let place = by (place_of fresh) (kept_place fresh) in
      sym (all_kept kind (put fresh cs)) ∙ ap (keeps_limits kind) (put_kept fresh cs
      ∙ (λ i. take (place i) (alike i) ++ kept_cookie fresh ∷ drop (place i + 1) (alike i)) ∙ sym (put_kept fresh ds)) ∙ all_kept kind (put fresh ds)

  both_put : (fresh : PlainCookie) → put_step (place_of fresh cs) cs ≡ put_step (place_of fresh ds) ds
  both_put fresh =
      let p = place_of fresh ds in
      let long = by length (λ xs. length-map xs kept_cookie) in
      let ranks = by (rank p) (kept_rank p) in
      let persists = by (persists_at p) (kept_persists p) in
      ap (λ p. put_step p cs) (by (place_of fresh) (kept_place fresh))
      ∙ (λ i. cond (nat_lt p (long i)) (Replace p (ranks i) (persists i)) (Insert p (ranks i)))

  both_renewed : (now : ℤ) (new : PlainCookie) → renewed now new cs ≡ renewed now new ds
  both_renewed now new = ap (λ o. record new { creation = unwrap_or o new.creation }) (by (λ xs. option_map (λ c. c.creation) (replaced now new xs)) (kept_creation now new))

  both_kind : (now : ℤ) (new : PlainCookie) → stored_kind now new cs ≡ stored_kind now new ds
  both_kind now new =
      ap (kind_with now new) (sym (some_map (replaced now new cs)) ∙ ap is_some (by (λ xs. option_map (λ c. c.creation) (replaced now new xs)) (kept_creation now new)) ∙ some_map (replaced now new ds))

-- ---- steps that replace one cookie

-- the cookie is not expired, and none goes
replaces_alone : (kind : CellKind) (now : ℤ) (fresh : PlainCookie) (cs : List PlainCookie) → is_some (place_replaced (steps kind now fresh cs)) ≡ true
    → (is_expired now fresh ≡ false) × (going kind now fresh cs ≡ [])
replaces_alone kind now fresh cs = at (is_expired now fresh) refl
  where
    gone : (g : List ℕ) → going kind now fresh cs ≡ g → (last : JarStep) → is_some (place_replaced (removals cs [] g ++ last ∷ [])) ≡ true → going kind now fresh cs ≡ []
    gone [] is last h = is
    gone (p ∷ ps) is last h = absurd (false≢true h)

    at : (b : Bool) → is_expired now fresh ≡ b → is_some (place_replaced (cond b (removal_at (place_of fresh cs) cs) (live_steps kind now fresh cs))) ≡ true
        → (is_expired now fresh ≡ false) × (going kind now fresh cs ≡ [])
    at true is h = absurd (expired (nat_lt (place_of fresh cs) (length cs)) h)
      where
        expired : (b : Bool) → is_some (place_replaced (cond b (remove_step (place_of fresh cs) cs ∷ []) [])) ≡ true → ⊥
        expired true h = false≢true h
        expired false h = false≢true h
    at false is h = (is, gone (going kind now fresh cs) refl _ h)

alone : (kind : CellKind) (now : ℤ) (fresh : PlainCookie) (cs : List PlainCookie) → is_expired now fresh ≡ false → going kind now fresh cs ≡ []
    → put_step (place_of fresh cs) cs ∷ [] ≡ steps kind now fresh cs
alone kind now fresh cs live none =
    steps_alone cs (going kind now fresh cs) (place_of fresh cs) none ∙ steps_are kind now fresh cs (going kind now fresh cs) (place_of fresh cs) live refl refl

steps_alike : (kind : CellKind) (now : ℤ) (fresh : PlainCookie) (cs ds : List PlainCookie) → map kept_cookie cs ≡ map kept_cookie ds → counted kind fresh ≤ 10240
    → is_some (place_replaced (steps kind now fresh cs)) ≡ true → steps kind now fresh ds ≡ steps kind now fresh cs
steps_alike kind now fresh cs ds alike small h =
    let it = replaces_alone kind now fresh cs h in
    let whole : without (going kind now fresh cs) (put fresh cs) ≡ put fresh cs = ap (λ g. without g (put fresh cs)) it.1 ∙ none_gone 0 (put fresh cs) in
    let light : keeps_limits kind (put fresh ds) ≡ true =
    sym (both_hold cs ds alike kind fresh) ∙ ap (keeps_limits kind) (sym (stored_is kind now fresh cs it.0 ∙ whole)) ∙ stored_fits kind now fresh cs it.0 small in
    let none : going kind now fresh ds ≡ [] = rw (rows_hold kind now (put fresh ds), light) refl in
    sym (alone kind now fresh ds it.0 none) ∙ ap (λ s. s ∷ []) (sym (both_put cs ds alike fresh)) ∙ alone kind now fresh cs it.0 it.1

-- ---- a plan that replaces one cookie

plan_alike : (kind : CellKind) (now : ℤ) (new : PlainCookie) (cs ds : List PlainCookie) → map kept_cookie cs ≡ map kept_cookie ds → counted kind new ≤ 10240
    → is_some (place_replaced (plan_of kind now new cs).steps) ≡ true → plan_of kind now new ds ≡ plan_of kind now new cs
plan_alike kind now new cs ds alike small h = λ i. record {
  kind = sym (both_kind cs ds alike now new) i;
  steps = (ap (λ f. steps kind now f ds) (sym (both_renewed cs ds alike now new)) ∙ steps_alike kind now (renewed now new cs) cs ds alike (subst (λ n. n ≤ 10240) (weighs kind) small) h) i;
  fresh = sym (both_renewed cs ds alike now new) i;
}
  where
    weighs : (kind : CellKind) → counted kind new ≡ counted kind (renewed now new cs)
    weighs Own = refl
    weighs Partition = refl

-- what stands at a place is the same cookie
found_there : (f : PlainCookie) (cs : List PlainCookie) (i : ℕ) → i < length cs → same f (get_or cs i f) ≡ true → list_any (λ d. same f d) (take 1 (drop i cs)) ≡ true
found_there f [] i lt h = absurd (omega arith)
found_there f (c ∷ cs) zero lt h = ap (λ b. b || false) h
found_there f (c ∷ cs) (suc i) lt h = found_there f cs i (omega arith) h

replace_fits : (kind : CellKind) (fresh : PlainCookie) (cs : List PlainCookie) (place : ℕ) → CanReplace kind fresh cs place → row_fits kind cs (RowReplace place fresh) ≡ true
replace_fits kind fresh cs place can = and_from _ _ (lt-ltb place (length cs) can.there) (and_from _ _ (found_there fresh cs place can.there can.alike) can.limits)

-- it stays the plan where cookies of the cell were used before, and its cookie can be put
pub plan_used : (rules : List Rule) (text : CookieText) (access : PlainAccess) (jar : PlainJar) (now : ℤ) (r : Result PlainPlan CookieDrop) → length text.name + length text.value ≤ 4096
    → ((c : PlainCookie) → copies c jar.cookies ≤ 1) → Answers (λ p. p) why.NoMemory (planned rules text access jar.kind now jar.cookies) r
    → MatchResult r (λ p. IfSome (replacement_of p) (λ x. (places : List ℕ) (at : ℤ) → (planned rules text access jar.kind now (marked places at jar.cookies) ≡ Ok p)
    × (row_fits jar.kind (marked places at jar.cookies) (RowReplace x.0 x.1) ≡ true))) (λ w. ⊤)
plan_used rules text access jar now (Err w) pair once h = tt
plan_used rules text access jar now (Ok p) pair once h = from p.steps refl
  where
    new : PlainCookie
    new = made_with (own_domain rules access (lower_domain text)) text access now

    stays : (place r : ℕ) (was : Bool) → p.steps ≡ Replace place r was ∷ [] → (places : List ℕ) (at : ℤ)
        → (planned rules text access jar.kind now (marked places at jar.cookies) ≡ Ok p) × (row_fits jar.kind (marked places at jar.cookies) (RowReplace place p.fresh) ≡ true)
    stays place r was is places at =
        let cookies = marked places at jar.cookies in
        let alike : map kept_cookie jar.cookies ≡ map kept_cookie cookies = sym (used_kept 0 places at jar.cookies) in
        let replaces = ap (λ (q : PlainPlan). is_some (place_replaced q.steps)) (planned_plan (plan_of jar.kind now new jar.cookies) p (dropped rules text access now jar.cookies) h) ∙ ap (λ ss. is_some (place_replaced ss)) is in
        let plans = plan_alike jar.kind now new jar.cookies cookies alike (small_pair jar.kind new pair) replaces in
        let drops = sym (by jar.cookies cookies alike (dropped rules text access now) (kept_drop rules text access now)) in
        let same : planned rules text access jar.kind now cookies ≡ Ok p = (λ i. unless_dropped (plans i) (drops i)) ∙ h in
        let fit = plan_fits rules text access (record jar { cookies = cookies }) now (Ok p) pair (λ c. subst (λ n. n ≤ 1) (sym (marked_copies c places at jar.cookies)) (once c)) same in
        let done = performs (record jar { cookies = cookies }) p fit in
        (same, replace_fits jar.kind p.fresh cookies place (subst (λ ss. CanPut jar.kind p.fresh (after_removals cookies ss) (slice_get ss (length ss - 1))) is done.0))

    from : (ss : List JarStep) → p.steps ≡ ss → IfSome {T = ℕ × PlainCookie} (option_map (λ place. (place, p.fresh)) (place_replaced ss)) (λ x. (places : List ℕ) (at : ℤ)
        → (planned rules text access jar.kind now (marked places at jar.cookies) ≡ Ok p) × (row_fits jar.kind (marked places at jar.cookies) (RowReplace x.0 x.1) ≡ true))
    from [] is = tt
    from (Insert place r ∷ ss) is = tt
    from (Remove place r was ∷ ss) is = tt
    from (Replace place r was ∷ []) is = stays place r was is
    from (Replace place r was ∷ s ∷ ss) is = tt
