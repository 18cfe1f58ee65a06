-- Whether a tab has session areas under a site, by its areas and by all session areas.
use Rattle.std.proofs.Common.{◌≡◌, ℕ, ◌==◌, Bool, true, false, cond, not, ◌&&◌, ◌||◌, List, [], ◌∷◌, Option, Some, None, refl, sym, ap, subst, ◌∙◌, arith, length}
use Rattle.std.proofs.lemmas.Bool.{true≢false}
use Rattle.std.proofs.lemmas.Bool.Decides.{nat_tests}
use Rattle.std.specs.List.{list_all, list_any, AllByRecursion}
use Rattle.std.specs.List.Sorted.{IsStrictlySortedBy}
use Rattle.std.specs.Map.{keys_of}
use Rattle.std.specs.Ordering.{eq_by_cmp, is_eq}
use Rattle.std.specs.Cmp.{eq_by_cmp_equiv}
use Rattle.std.specs.declared.cmp.Ordering.TheVariants.{Less}
use Rattle.std.specs.FinMap as finite
use Rattle.unwinding.specs.FiniteCells.{Full, get_cell, list_of}
use Rattle.key_map.proofs.FiniteKeys.{from_first}
use Rattle.key_map.specs.Entries.{entries_from, next_key}
use Rattle.origin_site.specs.Site.{PlainSite}
use Rattle.storage_key.specs.Key.{PlainKey, key_order}
use Rattle.storage_key.specs.Plain.{plain_key}
use Rattle.storage_key.specs.declared.key.StorageKey.{StorageKey}
use Rattle.storage_key.proofs.OrderLemmas.{key_order_total}
use Rattle.local_area.specs.Area.{Pair}
use Rattle.session_area.specs.Sessions.{areas_of}
use Rattle.agent_model.specs.Partition.{SessionAreas, SessionKey, is_under, session_order}
use Rattle.agent_model.specs.Sessions.{is_copied}
use Rattle.agent_model.proofs.HoldingsLemmas.{session_order_total, session_order_same}
use Rattle.agent_model.proofs.KeptLemmas as kept
use Rattle.web_storage.specs.Evicting.{key_cmp}
use Rattle.web_storage.specs.SiteSessions.{has_pairs_under, has_session_under}
use Rattle.web_storage.specs.Stored.{sessions_in}
use Rattle.web_storage.proofs.CloseLemmas.{none_of}
use Rattle.web_storage.proofs.SessionsLemmas.{pairs_or, session_at}
use Rattle.web_storage.proofs.SessionWrites.{Tabs}
use Rattle.web_storage.proofs.ShedLemmas.{found}
use Rattle.web_storage.proofs.EvictionCounts.{some_length}
use Rattle.web_storage.proofs.WriteLemmas.{tied_keys}
use Rattle.std.specs.Cmp.{on_total}

-- ---- values that are not there

nothing_full : (x : Option (Full Pair)) → list_of x ≡ [] → x ≡ None
nothing_full None is = refl
nothing_full (Some full) is = cc

no_pairs : (pairs : List Pair) → not (length pairs == 0) ≡ false → pairs ≡ []
no_pairs [] is = refl
no_pairs (p ∷ ps) is = absurd (true≢false (sym (some_length p ps) ∙ is))

first_false : (a b : Bool) → (a || b) ≡ false → (a ≡ false) × (b ≡ false)
first_false true b is = cc
first_false false b is = (refl, is)

-- where no key that passes a test has a value, no key passes it
no_key : (sessions : SessionAreas) (test : SessionKey → Bool)
    → ((key : SessionKey) → test key ≡ true → finite.get sessions key ≡ None)
    → list_any test (finite.keys sessions) ≡ false
no_key sessions test none =
    none_of test (finite.keys sessions)
    (subst (λ s. list_all (λ k. not (test k)) (finite.keys s) ≡ true)
    (kept.all_kept session_order session_order_total session_order_same sessions (λ k. not (test k))
    (λ k is. none k (passes (test k) is)))
    (kept.kept_pass session_order session_order_total session_order_same sessions (λ k. not (test k))))
  where
    passes : (b : Bool) → not b ≡ false → b ≡ true
    passes true is = refl
    passes false is = cc

-- ---- areas of a tab, in the order of their keys

module _ (site : PlainSite) where
  -- where no area under the site has pairs, a plain key under it has none
  none_found : (es : List (StorageKey × List Pair)) → list_any (has_pairs_under site) es ≡ false
      → (q : PlainKey) → is_under site q ≡ true → pairs_or (found q es) ≡ []
  none_found [] none q is = refl
  none_found (e ∷ es) none q is =
      at (eq_by_cmp key_order q (plain_key e.0)) refl
      (first_false (has_pairs_under site e) (list_any (has_pairs_under site) es) none)
      (λ later. none_found es later q is)
    where
      full : (b c : Bool) → (b && c) ≡ false → c ≡ true → b ≡ false
      full true c both under = cc
      full false c both under = refl

      at : (b : Bool) → eq_by_cmp key_order q (plain_key e.0) ≡ b
          → (has_pairs_under site e ≡ false) × (list_any (has_pairs_under site) es ≡ false)
          → (list_any (has_pairs_under site) es ≡ false → pairs_or (found q es) ≡ [])
          → pairs_or (cond b (Some e.1) (found q es)) ≡ []
      at true tie both more =
          no_pairs e.1 (full (not (length e.1 == 0)) (is_under site (plain_key e.0)) both.0
          (ap (is_under site) (sym (tied_keys q (plain_key e.0) tie)) ∙ is))
      at false tie both more = more both.1

  -- a key before all keys of some entries is none of theirs
  absent : (q : PlainKey) (k : StorageKey) → q ≡ plain_key k → (es : List (StorageKey × List Pair))
      → AllByRecursion (λ l. key_cmp k l ≡ Less) (keys_of es) → found q es ≡ None
  absent q k is [] all = refl
  absent q k is (e ∷ es) all =
      ap (λ p. cond (eq_by_cmp key_order p (plain_key e.0)) (Some e.1) (found q es)) is
      ∙ ap (λ o. cond (is_eq o) (Some e.1) (found q es)) all.0
      ∙ absent q k is es all.1

  -- where no plain key under the site has pairs, no area under it has
  none_full : (es : List (StorageKey × List Pair)) → IsStrictlySortedBy key_cmp (keys_of es)
      → ((q : PlainKey) → is_under site q ≡ true → pairs_or (found q es) ≡ []) → list_any (has_pairs_under site) es ≡ false
  unfolding IsStrictlySortedBy
  none_full [] sorted none = refl
  none_full (e ∷ es) sorted none = at (is_under site (plain_key e.0)) refl (none_full es sorted.1 later)
    where
      here : (b : Bool) → b ≡ true → pairs_or (cond b (Some e.1) (found (plain_key e.0) es)) ≡ [] → e.1 ≡ []
      here true is nothing = nothing
      here false is nothing = cc

      later : (q : PlainKey) → is_under site q ≡ true → pairs_or (found q es) ≡ []
      later q is = past (eq_by_cmp key_order q (plain_key e.0)) refl (none q is)
        where
          past : (b : Bool) → eq_by_cmp key_order q (plain_key e.0) ≡ b
              → pairs_or (cond b (Some e.1) (found q es)) ≡ [] → pairs_or (found q es) ≡ []
          past true tie nothing = ap pairs_or (absent q e.0 (tied_keys q (plain_key e.0) tie) es sorted.0)
          past false tie nothing = nothing

      at : (b : Bool) → is_under site (plain_key e.0) ≡ b → list_any (has_pairs_under site) es ≡ false
          → ((not (length e.1 == 0) && is_under site (plain_key e.0)) || list_any (has_pairs_under site) es) ≡ false
      at true is rest =
          (λ i. (not (length (here (eq_by_cmp key_order (plain_key e.0) (plain_key e.0))
          ((eq_by_cmp_equiv key_order_total).refl (plain_key e.0)) (none (plain_key e.0) is) i) == 0)
          && is_under site (plain_key e.0)) || list_any (has_pairs_under site) es)
          ∙ rest
      at false is rest = (λ i. (not (length e.1 == 0) && is i) || rest i) ∙ none_of_both (not (length e.1 == 0))
        where
          none_of_both : (b : Bool) → ((b && false) || false) ≡ false
          none_of_both true = refl
          none_of_both false = refl

  -- ---- and by all session areas

  module _ (tab : ℕ) (tabs : Tabs) where
    none_above : list_any (has_pairs_under site) (areas_of tab tabs) ≡ false
        → has_session_under site tab (sessions_in tabs) ≡ false
    unfolding get_cell
    none_above none = no_key (sessions_in tabs) (is_copied site tab) each
      where
        each : (key : SessionKey) → is_copied site tab key ≡ true → finite.get (sessions_in tabs) key ≡ None
        each key is = at (key.0 == tab) refl is
          where
            at : (b : Bool) → (key.0 == tab) ≡ b → (b && is_under site key.1) ≡ true → finite.get (sessions_in tabs) key ≡ None
            at true tie under =
                let same : key.0 ≡ tab = grind (arith, nat_tests) in
                nothing_full (finite.get (sessions_in tabs) key)
                (session_at key.0 key.1 tabs ∙ ap (λ n. pairs_or (found key.1 (areas_of n tabs))) same
                ∙ none_found (areas_of tab tabs) none key.1 under)
            at false tie under = cc

    none_below : IsStrictlySortedBy key_cmp (keys_of (areas_of tab tabs)) → has_session_under site tab (sessions_in tabs) ≡ false
        → list_any (has_pairs_under site) (areas_of tab tabs) ≡ false
    unfolding get_cell
    none_below sorted none = none_full (areas_of tab tabs) sorted each
      where
        of_tab : (b : Bool) → b ≡ true → (q : PlainKey) → is_under site q ≡ true → (b && is_under site q) ≡ true
        of_tab true is q under = under
        of_tab false is q under = cc

        each : (q : PlainKey) → is_under site q ≡ true → pairs_or (found q (areas_of tab tabs)) ≡ []
        each q is =
            sym (session_at tab q tabs)
            ∙ ap list_of (kept.none_passes session_order session_order_total session_order_same
            (sessions_in tabs) (is_copied site tab) none (tab, q)
            (of_tab (tab == tab) (grind (arith, nat_tests)) q is))

    -- a tab has a session area under the site where one of its areas there has pairs
    pub any_area : IsStrictlySortedBy key_cmp (keys_of (areas_of tab tabs))
        → list_any (has_pairs_under site) (areas_of tab tabs) ≡ has_session_under site tab (sessions_in tabs)
    any_area sorted = at (list_any (has_pairs_under site) (areas_of tab tabs))
        (has_session_under site tab (sessions_in tabs)) none_above (none_below sorted)
      where
        at : (a b : Bool) → (a ≡ false → b ≡ false) → (b ≡ false → a ≡ false) → a ≡ b
        at true true f g = refl
        at true false f g = g refl
        at false true f g = sym (f refl)
        at false false f g = refl

    -- and none where it has no areas
    pub no_area : areas_of tab tabs ≡ [] → false ≡ has_session_under site tab (sessions_in tabs)
    no_area none = sym (none_above (ap (list_any (has_pairs_under site)) none))

-- ---- a walk over the areas of a tab

-- the walk from the first key on meets all areas
pub from_all : (es all : List (StorageKey × List Pair)) (first : StorageKey) → IsStrictlySortedBy key_cmp (keys_of es)
    → Some first ≡ next_key key_cmp None es → all ≡ entries_from key_cmp first es → all ≡ es
from_all es all first sorted is from = from ∙ from_first key_cmp (on_total plain_key key_order_total) first es sorted is

module _ (site : PlainSite) (e : StorageKey × List Pair) (es : List (StorageKey × List Pair)) where
  -- an area that passes is found
  pub met : has_pairs_under site e ≡ true → true ≡ list_any (has_pairs_under site) (e ∷ es)
  met is = sym (ap (λ b. b || list_any (has_pairs_under site) es) is)

  -- and one that does not is left behind
  pub passed_by : has_pairs_under site e ≡ false → list_any (has_pairs_under site) (e ∷ es) ≡ list_any (has_pairs_under site) es
  passed_by is = ap (λ b. b || list_any (has_pairs_under site) es) is
