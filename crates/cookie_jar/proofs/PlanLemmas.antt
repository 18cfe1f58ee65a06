-- A plan, or why a cookie is dropped, from the parts of both.
use Rattle.std.proofs.Common.{◌≡◌, ℤ, ℕ, Bool, true, false, List, [], ◌∷◌, map, refl, ap, ◌∙◌, sym, subst, inl, ⊎_elim}
use Rattle.std.specs.Prelude.{◌&&◌, ◌||◌, not, Option, Some, None, Result, Ok, Err, IsOk, IsErrOf, is_ok, MatchResult, ⊤, ◌+◌, ◌≤◌, length}
use Rattle.std.proofs.lemmas.Bool.{false≢true}
use Rattle.agent_base.specs.Answers.{Answers, Decides}
use Rattle.std.specs.List.{list_any}
use Rattle.suffix_list.specs.Suffix.{Rule}
use Rattle.setcookie_parse.specs.SetCookie.{CookieText}
use Rattle.partition_limits.specs.declared.tally.CellKind.{CellKind}
use Rattle.cookie_jar.specs.declared.cookie.Cookie.{Cookie}
use Rattle.cookie_jar.specs.declared.cause.CookieDrop.{CookieDrop}
use Rattle.cookie_jar.specs.declared.cause.CookieDrop.TheVariants as why
use Rattle.cookie_jar.specs.Access.{PlainAccess}
use Rattle.cookie_jar.specs.Cookie.{PlainCookie, PlainJar, copies}
use Rattle.cookie_jar.specs.Plain.{plain_cookie}
use Rattle.cookie_jar.specs.NewCookie.{has_such, made_with, own_domain}
use Rattle.cookie_jar.specs.Drops as spec
use Rattle.cookie_jar.specs.NewCookie.{lower_domain}
use Rattle.cookie_jar.specs.Planned.{PlainPlan, IsPlanFor, plan_of, planned, planned_with, unless_dropped}
use Rattle.cookie_jar.proofs.RemovalLemmas.{any_map}

-- the later rows, where each is known
pub rows_are : (rules : List Rule) (lower own : Option (List ℕ)) (text : CookieText) (access : PlainAccess) (now : ℤ) (new : PlainCookie) (xs : List Cookie)
    (b0 b1 b2 b3 b4 b5 b6 b7 b8 b9 b10 b11 b12 : Bool)
    → own ≡ own_domain rules access lower → new ≡ made_with own text access now
    → b0 ≡ has_such (spec.is_other_suffix rules access) lower
    → b1 ≡ has_such (spec.is_mismatch rules access) own
    → b2 ≡ (text.secure && not access.https)
    → b3 ≡ (text.http_only && access.script)
    → b4 ≡ (not text.secure && (not access.https && list_any (λ x. spec.is_live_such now (spec.is_overlaid access new) (plain_cookie x)) xs))
    → b5 ≡ (not (spec.is_none text.same_site) && spec.is_cross_site access)
    → b6 ≡ (spec.is_none text.same_site && not text.secure)
    → b7 ≡ (spec.has_prefix spec.secure_prefix text.name && not text.secure)
    → b8 ≡ (spec.has_prefix spec.host_prefix text.name && not (spec.is_for_host text new))
    → b9 ≡ spec.is_nameless_prefix text
    → b10 ≡ (access.script && list_any (λ x. spec.is_live_such now (spec.is_same_http_only new) (plain_cookie x)) xs)
    → b11 ≡ (text.partitioned && not text.secure)
    → b12 ≡ spec.is_third_party text access
    → spec.first_drop ((b0, why.PublicSuffix) ∷ (b1, why.DomainMismatch) ∷ (b2, why.NotSecureUrl) ∷ (b3, why.HttpOnlyFromScript) ∷ (b4, why.OverlaysSecure) ∷ (b5, why.SameSite)
    ∷ (b6, why.NoneNeedsSecure) ∷ (b7, why.SecurePrefix) ∷ (b8, why.HostPrefix) ∷ (b9, why.NamelessPrefix) ∷ (b10, why.OverwritesHttpOnly) ∷ (b11, why.PartitionedNeedsSecure)
    ∷ (b12, why.ThirdParty) ∷ [])
    ≡ spec.first_drop (spec.later_rows rules lower text access now (map plain_cookie xs))
rows_are rules lower own text access now new xs b0 b1 b2 b3 b4 b5 b6 b7 b8 b9 b10 b11 b12 o n e0 e1 e2 e3 e4 e5 e6 e7 e8 e9 e10 e11 e12 =
    let overlaid = e4 ∙ ap (λ b. not text.secure && (not access.https && b)) (any_map plain_cookie (spec.is_live_such now (spec.is_overlaid access new)) xs) in
    let overwrites = e10 ∙ ap (λ b. access.script && b) (any_map plain_cookie (spec.is_live_such now (spec.is_same_http_only new)) xs) in
    rw (e0, e1, e2, e3, overlaid, e5, e6, e7, e8, e9, overwrites, e11, e12, n, o) refl

-- nothing drops the cookie
pub plan_stands : (rules : List Rule) (lower : Option (List ℕ)) (text : CookieText) (access : PlainAccess) (kind : CellKind) (now : ℤ) (cs : List PlainCookie)
    → spec.first_drop (spec.later_rows rules lower text access now cs) ≡ None
    → planned_with rules lower text access kind now cs ≡ Ok (plan_of kind now (made_with (own_domain rules access lower) text access now) cs)
plan_stands rules lower text access kind now cs none = rw none refl

-- something drops it
pub plan_drops : (rules : List Rule) (lower : Option (List ℕ)) (text : CookieText) (access : PlainAccess) (kind : CellKind) (now : ℤ) (cs : List PlainCookie) (drop : CookieDrop)
    → spec.first_drop (spec.later_rows rules lower text access now cs) ≡ Some drop → planned_with rules lower text access kind now cs ≡ Err drop
plan_drops rules lower text access kind now cs drop some = rw some refl

pub decides : {T E : Type 0} (r : Result T E) (x : T) (m : E) (expected : Result T E) → MatchResult r (λ p. p ≡ x) (λ w. w ≡ m) → expected ≡ Ok x → Decides (λ p. p) m expected r
decides (Ok p) x m expected h e = e ∙ ap Ok (sym h)
decides (Err w) x m expected h e = inl (h, ap is_ok e)

-- a Domain in ASCII is decided by the later rows
pub planned_is : (rules : List Rule) (text : CookieText) (access : PlainAccess) (kind : CellKind) (now : ℤ) (cs : List PlainCookie) → spec.is_not_ascii_domain text ≡ false
    → planned_with rules (lower_domain text) text access kind now cs ≡ planned rules text access kind now cs
planned_is rules text access kind now cs h = rw h refl

-- want of memory
abbrev pub is_memory : CookieDrop → Bool
is_memory why.NoMemory = true
is_memory _ = false

never : (rows : List (Bool × CookieDrop)) (d : CookieDrop) → list_any (λ row. is_memory row.1) rows ≡ false → spec.first_drop rows ≡ Some d → is_memory d ≡ false
never [] d h e = absurd (false≢true (ap is_there e))
  where
    is_there : Option CookieDrop → Bool
    is_there None = false
    is_there (Some x) = true
never (row ∷ rows) d h e = at row.0 row.1 (λ k. never rows d k) h e
  where
    memory_of : Option CookieDrop → Bool
    memory_of None = false
    memory_of (Some x) = is_memory x

    split : (a b : Bool) → (a || b) ≡ false → (a ≡ false) × (b ≡ false)
    split true b h = absurd (false≢true (sym h))
    split false b h = (refl, h)

    at : (b : Bool) (w : CookieDrop) → (list_any (λ row. is_memory row.1) rows ≡ false → spec.first_drop rows ≡ Some d → is_memory d ≡ false)
        → (is_memory w || list_any (λ row. is_memory row.1) rows) ≡ false → spec.first_drop ((b, w) ∷ rows) ≡ Some d → is_memory d ≡ false
    at true w ih h e = sym (ap memory_of e) ∙ (split (is_memory w) _ h).0
    at false w ih h e = ih (split (is_memory w) _ h).1 e

-- what is planned is no want of memory
pub planned_sure : (rules : List Rule) (lower : Option (List ℕ)) (text : CookieText) (access : PlainAccess) (kind : CellKind) (now : ℤ) (cs : List PlainCookie) (r : Result PlainPlan CookieDrop)
    → Decides (λ p. p) why.NoMemory (planned_with rules lower text access kind now cs) r → IsErrOf r why.NoMemory → IsOk (planned_with rules lower text access kind now cs)
planned_sure rules lower text access kind now cs r h is = at (spec.first_drop (spec.later_rows rules lower text access now cs)) refl
  where
    rest : (d : CookieDrop) → spec.first_drop (spec.later_rows rules lower text access now cs) ≡ Some d → (r : Result PlainPlan CookieDrop)
        → Decides (λ p. p) why.NoMemory (Err d) r → IsErrOf r why.NoMemory → ⊥
    rest d e (Ok p) h is = false≢true (ap is_ok h)
    rest d e (Err w) h is = false≢true (sym (never (spec.later_rows rules lower text access now cs) d refl e) ∙ memory_of_it)
      where
        drop_of : Result PlainPlan CookieDrop → Bool
        drop_of (Ok p) = true
        drop_of (Err x) = is_memory x

        memory_of_it : is_memory d ≡ true
        memory_of_it = ⊎_elim (λ free. absurd (false≢true free.1)) (λ same. ap drop_of same ∙ ap drop_of is) h

    at : (o : Option CookieDrop) → spec.first_drop (spec.later_rows rules lower text access now cs) ≡ o → IsOk (unless_dropped (plan_of kind now (made_with (own_domain rules access lower) text access now) cs) o)
    at None e = refl
    at (Some d) e = absurd (rest d e r (subst (λ x. Decides (λ p. p) why.NoMemory x r) (plan_drops rules lower text access kind now cs d e) h) is)

abbrev from_ok : PlainPlan → Result PlainPlan CookieDrop → PlainPlan
from_ok d (Ok p) = p
from_ok d (Err w) = d

-- a plan is the one that the cell and the cookie give
pub planned_plan : (plan p : PlainPlan) (o : Option CookieDrop) → unless_dropped plan o ≡ Ok p → plan ≡ p
planned_plan plan p None h = ap (from_ok plan) h
planned_plan plan p (Some w) h = absurd (false≢true (ap is_ok h))

-- what is planned for a cell is a plan for it
pub plan_fits : (rules : List Rule) (text : CookieText) (access : PlainAccess) (jar : PlainJar) (now : ℤ) (r : Result PlainPlan CookieDrop) → length text.name + length text.value ≤ 4096 → ((c : PlainCookie) → copies c jar.cookies ≤ 1)
    → Answers (λ p. p) why.NoMemory (planned rules text access jar.kind now jar.cookies) r → MatchResult r (λ p. IsPlanFor jar p) (λ w. ⊤)
plan_fits rules text access jar now (Ok p) pair once h = subst (IsPlanFor jar) (planned_plan _ p _ h) (now, refl, pair, once)
plan_fits rules text access jar now (Err w) pair once h = tt
