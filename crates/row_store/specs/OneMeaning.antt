-- A body means one thing in a state: it leads to one state by one number of durable changes, or has
-- one first fault.
-- Source: none; it is about our own definitions.
use Rattle.std.specs.Prelude.{◌≡◌, ◌⊎◌, ⊤, ℕ, Bool, List, Err, MatchResult, Ok, Result, unwrap_or}
use Rattle.std.specs.Result.{result_err, result_unwrap_or}
use Rattle.std.proofs.Common.{ap, inl, inr, refl, subst, sym, ◌∙◌}
use Rattle.durable_model.specs.Saved.{Saved}
use Rattle.row_store.specs.Bodies.{Counted, Refuses, Takes, body_means}

module _ (d : Saved) (kind : Bool) (body : List ℕ) where
  pub one_state : (t u : Saved) (m n : ℕ) → Takes d kind body t m → Takes d kind body u n → t ≡ u
  one_state t u m n one two =
      ap (λ (r : Result Counted ℕ). (result_unwrap_or r (t, m)).0) (sym one ∙ two)

  pub one_count : (t u : Saved) (m n : ℕ) → Takes d kind body t m → Takes d kind body u n → m ≡ n
  one_count t u m n one two =
      ap (λ (r : Result Counted ℕ). (result_unwrap_or r (t, m)).1) (sym one ∙ two)

  pub one_fault : (o p : ℕ) → Refuses d kind body o → Refuses d kind body p → o ≡ p
  one_fault o p one two = ap (λ (r : Result Counted ℕ). unwrap_or (result_err r) o) (sym one ∙ two)

  pub apart : (t : Saved) (n o : ℕ) → Takes d kind body t n → Refuses d kind body o → ⊥
  apart t n o took refused =
      subst (λ (r : Result Counted ℕ). MatchResult r (λ _. ⊤) (λ _. ⊥)) (sym took ∙ refused) tt

  pub either : ((t : Saved) × (n : ℕ) × Takes d kind body t n) ⊎ ((o : ℕ) × Refuses d kind body o)
  either = by (body_means d kind body) refl
    where
      by : (r : Result Counted ℕ) → body_means d kind body ≡ r
          → ((t : Saved) × (n : ℕ) × Takes d kind body t n) ⊎ ((o : ℕ) × Refuses d kind body o)
      by (Ok read) is = inl (read.0, read.1, is)
      by (Err offset) is = inr (offset, is)
