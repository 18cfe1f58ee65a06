-- What a request for storage access comes to: the first row of a table that applies.
-- Source: Storage Access API, "requestStorageAccess()" and "hasStorageAccess()"; HTML, "Tracking
-- user activation", for what is consumed.
-- Our own choice: the order of the rows; a denial of before consumes nothing. A frame at the
-- top-level site that is not first party asks like any other.
use Rattle.std.specs.Prelude.{◌≡◌, ℤ, Bool, true, false, not, ◌&&◌, ◌||◌}
use Rattle.std.specs.Prelude.{List, [], ◌∷◌, Option, Some, None, option_map}
use Rattle.std.specs.List.{find}
use Rattle.access_grants.specs.declared.facts.Answer.{Answer}
use Rattle.access_grants.specs.declared.facts.Answer.TheVariants.{Grant, Deny, Dismiss}
use Rattle.access_grants.specs.declared.facts.Facts.{Facts}
use Rattle.access_grants.specs.declared.outcome.Decision.{Decision}
use Rattle.access_grants.specs.declared.outcome.Decision.TheVariants as decision
use Rattle.access_grants.specs.declared.outcome.Outcome.{Outcome}
use Rattle.access_grants.specs.declared.outcome.Refusal.{Refusal}
use Rattle.access_grants.specs.declared.outcome.Refusal.TheVariants as why
use Rattle.access_grants.specs.declared.permission.GrantState.{GrantState}
use Rattle.access_grants.specs.declared.permission.GrantState.TheVariants as state
use Rattle.access_grants.specs.Grant.{permission_at}

-- refused without a prompt: nothing is kept, set or consumed
abbrev pub refused : Refusal → Outcome
refused why = record {
  decision = decision.Refused why;
  kept = None;
  sets_flag = false;
  consumes = false;
}

-- granted without a prompt: nothing is kept or consumed
abbrev pub granted : Bool → Outcome
granted sets_flag = record {
  decision = decision.Granted false;
  kept = None;
  sets_flag = sets_flag;
  consumes = false;
}

-- granted by the prompt's answer, which is kept; the activation stays
abbrev pub granted_now : ℤ → Outcome
granted_now now = record {
  decision = decision.Granted true;
  kept = Some (permission_at true now);
  sets_flag = true;
  consumes = false;
}

-- denied by the prompt's answer, which is kept; the activation is consumed
abbrev pub denied_now : ℤ → Outcome
denied_now now = record {
  decision = decision.Refused why.DeniedNow;
  kept = Some (permission_at false now);
  sets_flag = false;
  consumes = true;
}

-- the prompt is closed: nothing is kept; the activation is consumed
abbrev pub dismissed : Outcome
dismissed = record {
  decision = decision.Refused why.Dismissed;
  kept = None;
  sets_flag = false;
  consumes = true;
}

-- whether access is granted to the pair
abbrev pub is_granted : GrantState → Bool
is_granted state.Granted = true
is_granted state.Denied = false
is_granted state.Unset = false

-- whether access is denied to the pair
abbrev pub is_denied : GrantState → Bool
is_denied state.Granted = false
is_denied state.Denied = true
is_denied state.Unset = false

-- whether the answer is a grant
abbrev pub is_grant : Answer → Bool
is_grant Grant = true
is_grant Deny = false
is_grant Dismiss = false

-- whether the answer is a denial
abbrev pub is_deny : Answer → Bool
is_deny Grant = false
is_deny Deny = true
is_deny Dismiss = false

-- whether the prompt is closed without an answer
abbrev pub is_dismiss : Answer → Bool
is_dismiss Grant = false
is_dismiss Deny = false
is_dismiss Dismiss = true

-- the rows of the prompt: whether a row applies, and what the request then comes to
abbrev pub prompt_rows : Answer → ℤ → List (Bool × Outcome)
prompt_rows answer now =
    (is_grant answer, granted_now now)
    ∷ (is_deny answer, denied_now now)
    ∷ (is_dismiss answer, dismissed)
    ∷ []

-- the rows of the table; the last are those of the prompt
abbrev pub request_rows : Facts → GrantState → Answer → ℤ → List (Bool × Outcome)
request_rows facts state answer now =
    (facts.opaque, refused why.Opaque)
    ∷ (not facts.secure, refused why.Insecure)
    ∷ (facts.deny, refused why.Policy)
    ∷ (not facts.sandbox_allows, refused why.Sandbox)
    ∷ (facts.first || facts.flag, granted false)
    ∷ (is_granted state, granted true)
    ∷ (is_denied state, refused why.Denied)
    ∷ (not facts.active, refused why.NoActivation)
    ∷ prompt_rows answer now

-- the outcome of the first row that applies
abbrev pub first_row : List (Bool × Outcome) → Option Outcome
first_row rows = option_map (λ row. row.1) (find (λ row. row.0) rows)

-- whether a document has access to its unpartitioned cookies
abbrev pub has_access : Facts → Bool
has_access facts = not facts.opaque && (facts.secure && (facts.first || facts.flag))

-- whether the answer to a request is a grant
abbrev pub is_grant_decision : Decision → Bool
is_grant_decision (decision.Granted prompted) = true
is_grant_decision (decision.Refused why) = false

-- after a grant the document has access, with its flag as the outcome leaves it
abbrev pub GivesAccess : Facts → Outcome → Type 0
GivesAccess facts outcome =
    is_grant_decision outcome.decision ≡ true
    → has_access (record facts { flag = facts.flag || outcome.sets_flag }) ≡ true
