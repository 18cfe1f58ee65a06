-- Closings of tabs and copies of their session areas, at one site and in all.
use Rattle.std.proofs.Common.{◌≡◌, ℕ, ◌==◌, Bool, true, false, cond, not, Option, None, refl, sym, ap, ◌∙◌}
use Rattle.std.specs.Option.{option_or}
use Rattle.std.specs.Cmp.{nat_cmp_total}
use Rattle.std.specs.Ordering.{nat_cmp}
use Rattle.std.specs.FinMap.{nat_cmp-IsAntisymmetric, get, retain_keys}
use Rattle.unwinding.specs.FiniteCells.{Full}
use Rattle.unwinding.proofs.FiniteCellsLemmas.{get_kept}
use Rattle.origin_site.specs.Site.{PlainSite, same_plain_site}
use Rattle.local_area.specs.Area.{Pair}
use Rattle.agent_model.specs.Partition.{SessionKey, session_order, Holdings, is_under, tab_named, without_tab}
use Rattle.agent_model.specs.Sessions.{is_of_tab, has_session, close, copy_sessions}
use Rattle.one_store.specs.HeldAt.{held_at}
use Rattle.agent_model.proofs.KeptLemmas as kept
use Rattle.agent_model.proofs.KeptLemmas.{AgreesBut}
use Rattle.agent_model.proofs.HoldingsLemmas.{session_order_total, session_order_same}
use Rattle.agent_model.proofs.SessionLemmas.{get_copied}
use Rattle.one_store.proofs.HeldLemmas.{under_one, without_absent}

-- a session area is under a site
abbrev is_session_under : PlainSite → SessionKey → Bool
is_session_under site key = is_under site key.1

-- ---- close

-- at each site, where the tab is at none afterwards or is not told apart
pub close_seen : (site : PlainSite) (here after : ℕ → Bool) (number : ℕ) (held : Holdings) → AgreesBut nat_cmp number after here
    → held_at site after (close number held) ≡ close number (held_at site here held)
close_seen site here after number held alike =
    λ i. record (held_at site here held) { tabs = tabs i; sessions = sessions i }
  where
    tabs : retain_keys (without_tab number held).tabs after ≡ (without_tab number (held_at site here held)).tabs
    tabs = kept.kept_remove nat_cmp nat_cmp_total nat_cmp-IsAntisymmetric held.tabs after here number alike

    sessions : retain_keys (close number held).sessions (is_session_under site) ≡ (close number (held_at site here held)).sessions
    sessions = kept.kept_twice session_order session_order_total session_order_same held.sessions (λ key. not (is_of_tab number key)) (is_session_under site)

-- a tab that is not there, and has no session area, leaves all when it is closed
pub close_absent : (number : ℕ) (held : Holdings) → has_session number held ≡ false → tab_named number held ≡ None → close number held ≡ held
close_absent number held no_area no_tab =
    ap (λ sessions. record (without_tab number held) { sessions = sessions }) sessions ∙ without_absent number held no_tab
  where
    not_true : (b : Bool) → not b ≡ false → b ≡ true
    not_true true e = refl
    not_true false e = cc

    sessions : (close number held).sessions ≡ held.sessions
    sessions =
        kept.all_kept session_order session_order_total session_order_same held.sessions (λ key. not (is_of_tab number key))
        (λ key is. kept.none_passes session_order session_order_total session_order_same held.sessions (is_of_tab number) no_area key (not_true (is_of_tab number key) is))

-- ---- copy

module _ (site : PlainSite) (from to : ℕ) where
  -- at the site whose session areas are copied
  pub copy_seen : (here : ℕ → Bool) (held : Holdings) → held_at site here (copy_sessions site from to held) ≡ copy_sessions site from to (held_at site here held)
  copy_seen here held = ap (λ sessions. record (held_at site here held) { sessions = sessions }) (kept.kept_as session_order session_order_total session_order_same _ _ (is_session_under site) each)
    where
      at : (u t : Bool) (x y : Option (Full Pair)) → cond u (option_or (cond t (cond u x None) None) y) None ≡ option_or (cond t (cond u (cond u x None) None) None) (cond u y None)
      at true t x y = refl
      at false true x y = refl
      at false false x y = refl

      there : (q : SessionKey) → get (retain_keys held.sessions (is_session_under site)) q ≡ cond (is_under site q.1) (get held.sessions q) None
      there = get_kept session_order session_order_same (is_session_under site) held.sessions

      each : (q : SessionKey) → cond (is_under site q.1) (get (copy_sessions site from to held).sessions q) None ≡ get (copy_sessions site from to (held_at site here held)).sessions q
      each q =
          ap (λ v. cond (is_under site q.1) v None) (get_copied site from to held q)
          ∙ at (is_under site q.1) (q.0 == to) (get held.sessions (from, q.1)) (get held.sessions q)
          ∙ sym (get_copied site from to (held_at site here held) q ∙ (λ i. option_or (cond (q.0 == to) (cond (is_under site q.1) (there (from, q.1) i) None) None) (there q i)))

  -- at another site
  pub copy_unseen : (other : PlainSite) (here : ℕ → Bool) (held : Holdings) → same_plain_site other site ≡ false → held_at other here (copy_sessions site from to held) ≡ held_at other here held
  copy_unseen other here held apart =
      ap (λ sessions. record (held_at other here held) { sessions = sessions }) (kept.same_where session_order session_order_total session_order_same _ _ (is_session_under other) each)
    where
      at : (t : Bool) (x y : Option (Full Pair)) → option_or (cond t (cond false x None) None) y ≡ y
      at true x y = refl
      at false x y = refl

      each : (q : SessionKey) → is_under other q.1 ≡ true → get (copy_sessions site from to held).sessions q ≡ get held.sessions q
      each q is =
          get_copied site from to held q
          ∙ ap (λ u. option_or (cond (q.0 == to) (cond u (get held.sessions (from, q.1)) None) None) (get held.sessions q)) (under_one site other q.1 apart is)
          ∙ at (q.0 == to) (get held.sessions (from, q.1)) (get held.sessions q)
