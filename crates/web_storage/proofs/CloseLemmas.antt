-- A tab that was closed has no session area.
use Rattle.std.proofs.Common.{◌≡◌, ℕ, Bool, true, false, not, ◌&&◌, ◌||◌, List, [], ◌∷◌, refl}
use Rattle.std.specs.List.{list_all, list_any}
use Rattle.std.specs.FinMap.{keys}
use Rattle.agent_model.specs.Partition.{SessionKey, SessionAreas, session_order}
use Rattle.agent_model.specs.Sessions.{is_of_tab}
use Rattle.agent_model.proofs.HoldingsLemmas.{session_order_total, session_order_same}
use Rattle.agent_model.proofs.KeptLemmas as kept
use Rattle.web_storage.specs.Stored.{without_areas}

-- a test that each key fails passes for none
pub none_of : (test : SessionKey → Bool) (ks : List SessionKey) → list_all (λ k. not (test k)) ks ≡ true
    → list_any test ks ≡ false
none_of test [] pass = refl
none_of test (k ∷ ks) pass = at (test k) pass (none_of test ks)
  where
    at : (b : Bool) → (not b && list_all (λ k. not (test k)) ks) ≡ true
        → (list_all (λ k. not (test k)) ks ≡ true → list_any test ks ≡ false) → (b || list_any test ks) ≡ false
    at true pass later = cc
    at false pass later = later pass

pub none_after : (tab : ℕ) (sessions : SessionAreas) → list_any (is_of_tab tab) (keys (without_areas tab sessions)) ≡ false
none_after tab sessions =
    none_of (is_of_tab tab) _ (kept.kept_pass session_order session_order_total session_order_same sessions
    (λ key. not (is_of_tab tab key)))
