-- What storing the cookie of a text does to a cell, or why the cookie is dropped.
-- Source: RFC 6265bis, "Storage Model".
-- Our own choice: nothing is done to the cell of a dropped cookie.
use Rattle.std.specs.Prelude.{◌≡◌, ℕ, ℤ, ◌≤◌, List, [], ◌∷◌, Option, Some, None, option_map}
use Rattle.std.specs.Prelude.{Result, Ok, Err}
use Rattle.suffix_list.specs.Suffix.{Rule}
use Rattle.setcookie_parse.specs.SetCookie.{CookieText, pair_limit}
use Rattle.partition_limits.specs.declared.tally.CellKind.{CellKind}
use Rattle.cookie_jar.specs.declared.cause.CookieDrop.{CookieDrop}
use Rattle.cookie_jar.specs.declared.plan.StoredKind.{StoredKind}
use Rattle.cookie_jar.specs.declared.step.JarStep.{JarStep}
use Rattle.cookie_jar.specs.declared.step.JarStep.TheVariants.{Replace}
use Rattle.cookie_jar.specs.Access.{PlainAccess}
use Rattle.cookie_jar.specs.Cookie.{PlainCookie, PlainJar, copies, pair_bytes}
use Rattle.cookie_jar.specs.Drops.{dropped, first_drop, later_rows}
use Rattle.cookie_jar.specs.NewCookie.{made_with, lower_domain, own_domain}
use Rattle.cookie_jar.specs.NewCookie.{renewed, stored_kind}
use Rattle.cookie_jar.specs.Steps.{steps}

-- what storing does: in a word, in steps, and the cookie that the steps put
pub record PlainPlan : Type 0 where
  pub kind : StoredKind
  pub steps : List JarStep
  pub fresh : PlainCookie

-- what storing a new cookie does
abbrev pub plan_of : CellKind → ℤ → PlainCookie → List PlainCookie → PlainPlan
plan_of cell now new cs =
    record {
      kind = stored_kind now new cs;
      steps = steps cell now (renewed now new cs) cs;
      fresh = renewed now new cs;
    }

-- a plan, where nothing drops the cookie
abbrev pub unless_dropped : PlainPlan → Option CookieDrop → Result PlainPlan CookieDrop
unless_dropped plan None = Ok plan
unless_dropped plan (Some why) = Err why

-- what storing the cookie of a text does, once its Domain is in lower case and ASCII
abbrev pub planned_with : List Rule → Option (List ℕ) → CookieText → PlainAccess → CellKind → ℤ
    → List PlainCookie → Result PlainPlan CookieDrop
planned_with rules lower text access cell now cs =
    unless_dropped
    (plan_of cell now (made_with (own_domain rules access lower) text access now) cs)
    (first_drop (later_rows rules lower text access now cs))

-- what storing the cookie of a text does
abbrev pub planned : List Rule → CookieText → PlainAccess → CellKind → ℤ → List PlainCookie
    → Result PlainPlan CookieDrop
planned rules text access cell now cs =
    unless_dropped
    (plan_of cell now (made_with (own_domain rules access (lower_domain text)) text access now) cs)
    (dropped rules text access now cs)

-- a plan is one for a cell as it stands, in which no two cookies are the same
abbrev pub IsPlanFor : PlainJar → PlainPlan → Type 0
IsPlanFor jar plan =
    (now : ℤ) × (plan.steps ≡ steps jar.kind now plan.fresh jar.cookies)
    × (pair_bytes plan.fresh ≤ pair_limit) × ((c : PlainCookie) → copies c jar.cookies ≤ 1)

-- the place at which steps replace a cookie, where they do that alone
abbrev pub place_replaced : List JarStep → Option ℕ
place_replaced (Replace place rank was ∷ []) = Some place
place_replaced _ = None

-- the place and the cookie of a plan that replaces one cookie, and does that alone
abbrev pub replacement_of : PlainPlan → Option (ℕ × PlainCookie)
replacement_of plan = option_map (λ place. (place, plan.fresh)) (place_replaced plan.steps)

-- what a store answers: its kind and its steps
pub record PlainStored : Type 0 where
  pub kind : StoredKind
  pub steps : List JarStep

-- the answer of doing what was planned
abbrev pub stored_of : PlainPlan → PlainStored
stored_of plan = record { kind = plan.kind; steps = plan.steps }

-- the answer of storing
abbrev pub stored_answer : Result PlainPlan CookieDrop → Result PlainStored CookieDrop
stored_answer (Ok plan) = Ok (stored_of plan)
stored_answer (Err why) = Err why
