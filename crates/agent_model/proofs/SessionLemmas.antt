-- What the session areas are after a copy.
use Rattle.std.proofs.Common.{◌≡◌, ℕ, ◌==◌, Bool, true, false, cond, ◌&&◌, List, [], ◌∷◌, ◌++◌, map, Option, Some, None, refl, sym, ap, ◌∙◌}
use Rattle.std.proofs.lemmas.Bool.Decides.{Decides-eqb}
use Rattle.std.specs.List.{list_all}
use Rattle.std.specs.Option.{option_or}
use Rattle.std.specs.Cmp.{tied_then, unsigned_tied}
use Rattle.std.specs.Ordering.{nat_cmp, eq_by_cmp}
use Rattle.std.specs.FinMap.{get, find, entries, retain_keys, get-from_entries, get-entries}
use Rattle.unwinding.specs.FiniteCells.{Full}
use Rattle.unwinding.proofs.FiniteCellsLemmas.{get_kept, find_two}
use Rattle.origin_site.specs.Site.{PlainSite}
use Rattle.storage_key.specs.Key.{key_order}
use Rattle.local_area.specs.Area.{Pair}
use Rattle.agent_model.specs.Partition.{SessionKey, SessionAreas, session_order, Holdings, is_under}
use Rattle.agent_model.specs.Sessions.{is_of_tab, is_copied, for_tab, copy_sessions}
use Rattle.agent_model.proofs.KeptLemmas as kept
use Rattle.agent_model.proofs.HoldingsLemmas.{session_order_total, session_order_same}

-- ---- copy

-- two keys tie where their tabs are equal and their storage keys tie
session_tie : (a b : SessionKey) → eq_by_cmp session_order a b ≡ ((a.0 == b.0) && eq_by_cmp key_order a.1 b.1)
session_tie a b = sym (tied_then (nat_cmp a.0 b.0) (key_order a.1 b.1)) ∙ ap (λ t. t && eq_by_cmp key_order a.1 b.1) (unsigned_tied a.0 b.0)

module _ (site : PlainSite) (from to : ℕ) where
  and_first : (a b : Bool) → (a && b) ≡ true → a ≡ true
  and_first true b e = refl
  and_first false b e = e

  and_second : (a b : Bool) → (a && b) ≡ true → b ≡ true
  and_second true b e = e
  and_second false b e = cc

  -- a copy is found under the other tab as its original is under its own
  find_copy : (q : SessionKey) (es : List (SessionKey × Full Pair)) → list_all (is_copied site from) (map (λ e. e.0) es) ≡ true
      → find session_order q (map (for_tab to) es) ≡ cond (q.0 == to) (find session_order (from, q.1) es) None
  find_copy q [] pass = at (q.0 == to)
    where
      at : (b : Bool) → ◌≡◌ {A = Option (Full Pair)} None (cond b None None)
      at true = refl
      at false = refl
  find_copy q (e ∷ es) pass =
      ap (λ b. cond b (Some e.1) (find session_order q (map (for_tab to) es))) (session_tie q (to, e.0.1))
      ∙ at (q.0 == to) (eq_by_cmp key_order q.1 e.0.1) (find_copy q es (and_second (is_copied site from e.0) _ pass))
      ∙ sym (ap (λ b. cond (q.0 == to) (cond b (Some e.1) (find session_order (from, q.1) es)) None) same_tab)
    where
      of_tab : e.0.0 ≡ from
      of_tab = (Decides-eqb e.0.0 from).0 (and_first (is_of_tab from e.0) _ (and_first (is_copied site from e.0) _ pass))

      same_tab : eq_by_cmp session_order (from, q.1) e.0 ≡ eq_by_cmp key_order q.1 e.0.1
      same_tab = session_tie (from, q.1) e.0 ∙ ap (λ b. b && eq_by_cmp key_order q.1 e.0.1) ((Decides-eqb from e.0.0).1 (sym of_tab))

      at : (b t : Bool) → find session_order q (map (for_tab to) es) ≡ cond b (find session_order (from, q.1) es) None
          → cond (b && t) (Some e.1) (find session_order q (map (for_tab to) es)) ≡ cond b (cond t (Some e.1) (find session_order (from, q.1) es)) None
      at true true later = refl
      at true false later = later
      at false t later = later

  -- what the session areas are after a copy: those of the other tab come first
  pub get_copied : (held : Holdings) (q : SessionKey) → get (copy_sessions site from to held).sessions q
      ≡ option_or (cond (q.0 == to) (cond (is_under site q.1) (get held.sessions (from, q.1)) None) None) (get held.sessions q)
  get_copied held q =
      get-from_entries session_order_total (map (for_tab to) (entries copied) ++ entries held.sessions) q
      ∙ find_two session_order (map (for_tab to) (entries copied)) (entries held.sessions) q
      ∙ (λ i. option_or (first i) (sym (get-entries held.sessions q) i))
    where
      copied : SessionAreas
      copied = retain_keys held.sessions (is_copied site from)

      original : get copied (from, q.1) ≡ cond (is_under site q.1) (get held.sessions (from, q.1)) None
      original =
          get_kept session_order session_order_same (is_copied site from) held.sessions (from, q.1)
          ∙ ap (λ b. cond (b && is_under site q.1) (get held.sessions (from, q.1)) None) ((Decides-eqb from from).1 refl)

      first : find session_order q (map (for_tab to) (entries copied)) ≡ cond (q.0 == to) (cond (is_under site q.1) (get held.sessions (from, q.1)) None) None
      first =
          find_copy q (entries copied) (kept.kept_pass session_order session_order_total session_order_same held.sessions (is_copied site from))
          ∙ ap (λ v. cond (q.0 == to) v None) (sym (get-entries copied (from, q.1)) ∙ original)
