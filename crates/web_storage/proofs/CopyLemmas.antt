-- What a copy of the session areas of a tab under a site makes of all session areas.
use Rattle.std.proofs.Common.{◌≡◌, ℕ, ◌==◌, Bool, true, false, cond, not, ◌&&◌, ◌||◌, List, [], ◌∷◌, map, Option, Some, None, inl, inr, refl, sym, ap, subst, ◌∙◌, arith}
use Rattle.std.specs.Prelude.{◌⊎◌, Result, Ok, Err, OnOk}
use Rattle.std.proofs.lemmas.Bool.Decides.{nat_tests}
use Rattle.std.specs.Option.{option_or}
use Rattle.std.specs.Map.{keys_of}
use Rattle.std.specs.Ordering.{eq_by_cmp}
use Rattle.std.specs.FinMap as finite
use Rattle.unwinding.specs.FiniteCells.{Full, get_cell, list_of}
use Rattle.origin_site.specs.Site.{PlainSite}
use Rattle.storage_key.specs.Key.{PlainKey, key_order}
use Rattle.storage_key.specs.Plain.{plain_key}
use Rattle.storage_key.specs.declared.key.StorageKey.{StorageKey}
use Rattle.storage_key.proofs.OrderLemmas.{key_order_total}
use Rattle.local_area.specs.Area.{Pair}
use Rattle.key_map.specs.Entries.{map_get}
use Rattle.key_map.proofs.EntriesLemmas.{eq-flip}
use Rattle.key_map.proofs.PlainKeyLemmas.{found-key}
use Rattle.session_area.specs.Sessions.{areas_of, IsCopied, KeepsOthers, ChangesTab}
use Rattle.agent_model.specs.Partition.{Holdings, SessionAreas, session_order}
use Rattle.agent_model.specs.Sessions.{copy_sessions, has_session, is_of_tab}
use Rattle.agent_model.proofs.KeptLemmas as kept
use Rattle.agent_model.proofs.SessionLemmas.{get_copied}
use Rattle.web_storage.specs.Stored.{sessions_in, without_areas}
use Rattle.agent_model.specs.Partition.{is_under}
use Rattle.web_storage.specs.Evicting.{AreUnder, HasNone, is_one_of}
use Rattle.web_storage.proofs.OrderOfKeys.{order, alike}
use Rattle.web_storage.proofs.ShedLemmas.{found}
use Rattle.web_storage.proofs.EvictionLemmas.{among_plain}
use Rattle.web_storage.proofs.SessionsLemmas.{pairs_or, session_at}
use Rattle.agent_model.proofs.HoldingsLemmas.{session_order_total, session_order_same}
use Rattle.web_storage.proofs.SessionWrites.{Tabs, same_sessions, sessions_closed}
use Rattle.web_storage.proofs.WriteLemmas.{tied_keys}

-- ---- plain keys and keys of the program

-- a plain key is that of a key of the program, or no area stands at it
key_or_none : (q : PlainKey) (es : List (StorageKey × List Pair))
    → ((key : StorageKey) × (plain_key key ≡ q)) ⊎ (found q es ≡ None)
key_or_none q [] = inr refl
key_or_none q (e ∷ es) = at (eq_by_cmp key_order q (plain_key e.0)) refl (key_or_none q es)
  where
    at : (b : Bool) → eq_by_cmp key_order q (plain_key e.0) ≡ b → ((key : StorageKey) × (plain_key key ≡ q)) ⊎ (found q es ≡ None)
        → ((key : StorageKey) × (plain_key key ≡ q)) ⊎ (cond b (Some e.1) (found q es) ≡ None)
    at true tie later = inl (e.0, sym (tied_keys q (plain_key e.0) tie))
    at false tie later = later

-- a plain key that is none of some entries' has no area
not_one_of : (q : PlainKey) (es : List (StorageKey × List Pair))
    → is_one_of q (map plain_key (keys_of es)) ≡ false → found q es ≡ None
not_one_of q [] none = refl
not_one_of q (e ∷ es) none = at (eq_by_cmp key_order (plain_key e.0) q) refl none (not_one_of q es)
  where
    at : (b : Bool) → eq_by_cmp key_order (plain_key e.0) q ≡ b → (b || is_one_of q (map plain_key (keys_of es))) ≡ false
        → (is_one_of q (map plain_key (keys_of es)) ≡ false → found q es ≡ None)
        → cond (eq_by_cmp key_order q (plain_key e.0)) (Some e.1) (found q es) ≡ None
    at true tie none later = cc
    at false tie none later = ap (λ c. cond c (Some e.1) (found q es))
        (eq-flip key_order key_order_total q (plain_key e.0) ∙ tie) ∙ later none

-- ---- what is copied

both_none : (b : Bool) → ◌≡◌ {A = Option (List Pair)} None (cond b None None)
both_none true = refl
both_none false = refl

-- the area of a plain key among copies of those that pass a test
copied_at : (under : PlainKey → Bool) (keys : List StorageKey) (from to : List (StorageKey × List Pair))
    → ((q : PlainKey) → is_one_of q (map plain_key keys)
    ≡ (is_one_of q (map plain_key (keys_of from)) && under q)) → IsCopied order keys from to
    → (q : PlainKey) → found q to ≡ cond (under q) (found q from) None
copied_at under keys from to are copied q = at (key_or_none q to) (key_or_none q from)
  where
    one : (a u : Bool) (o : Option (List Pair)) → (a ≡ false → o ≡ None) → cond (a && u) o None ≡ cond u o None
    one true u o none = refl
    one false u o none = both_none u ∙ ap (λ x. cond u x None) (sym (none refl))

    of_key : (key : StorageKey) → found (plain_key key) to ≡ cond (under (plain_key key)) (found (plain_key key) from) None
    of_key key =
        sym (found-key plain_key key_order key_order_total order alike key to) ∙ copied key
        ∙ ap (λ b. cond b (map_get order key from) None)
        (among_plain keys key ∙ are (plain_key key))
        ∙ ap (λ o. cond (is_one_of (plain_key key) (map plain_key (keys_of from)) && under (plain_key key))
        o None) (found-key plain_key key_order key_order_total order alike key from)
        ∙ one (is_one_of (plain_key key) (map plain_key (keys_of from))) (under (plain_key key))
        (found (plain_key key) from) (not_one_of (plain_key key) from)

    at : ((key : StorageKey) × (plain_key key ≡ q)) ⊎ (found q to ≡ None)
        → ((key : StorageKey) × (plain_key key ≡ q)) ⊎ (found q from ≡ None)
        → found q to ≡ cond (under q) (found q from) None
    at (inl is) other = subst (λ k. found k to ≡ cond (under k) (found k from) None) is.1 (of_key is.0)
    at (inr none) (inl is) = subst (λ k. found k to ≡ cond (under k) (found k from) None) is.1 (of_key is.0)
    at (inr none) (inr nothing) = none ∙ both_none (under q) ∙ ap (λ o. cond (under q) o None) (sym nothing)

-- ---- all session areas

-- nothing is lost where a tab without session areas is closed
pub closed_same : (tab : ℕ) (sessions : SessionAreas) → HasNone tab sessions → without_areas tab sessions ≡ sessions
closed_same tab sessions none =
    kept.all_kept session_order session_order_total session_order_same sessions (λ key. not (key.0 == tab))
    (λ key is. let same : key.0 ≡ tab = of (key.0 == tab) refl is in ap (λ m. finite.get sessions (m, key.1)) same ∙ none key.1)
  where
    of : {n : ℕ} (b : Bool) → (n == tab) ≡ b → not b ≡ false → n ≡ tab
    of true tie is = grind (arith, nat_tests)
    of false tie is = cc

-- a tab of which no key of a session area is has none
pub none_of_tab : (tab : ℕ) (held : Holdings) → has_session tab held ≡ false → HasNone tab held.sessions
none_of_tab tab held none q =
    kept.none_passes session_order session_order_total session_order_same held.sessions (is_of_tab tab) none
    (tab, q) (grind (arith, nat_tests))

-- the session areas after a copy to a tab that had none
pub sessions_copied : (site : PlainSite) (from to : ℕ) (keys : List StorageKey) (old new : Tabs) (held : Holdings)
    → held.sessions ≡ sessions_in old → HasNone to (sessions_in old)
    → AreUnder site (map plain_key (keys_of (areas_of from old))) (map plain_key keys)
    → IsCopied order keys (areas_of from old) (areas_of to new) → KeepsOthers to old new
    → sessions_in new ≡ (copy_sessions site from to held).sessions
unfolding get_cell
sessions_copied site from to keys old new held is none are copied keeps = same_sessions _ _ each
  where
    here : (n : ℕ) (q : PlainKey) → pairs_or (found q (areas_of n old)) ≡ list_of (finite.get held.sessions (n, q))
    here n q = sym (session_at n q old) ∙ ap (λ s. list_of (finite.get s (n, q))) (sym is)

    cond_pairs : (b : Bool) (o : Option (List Pair)) → pairs_or (cond b o None) ≡ cond b (pairs_or o) []
    cond_pairs true o = refl
    cond_pairs false o = refl

    cond_list : (b : Bool) (o : Option (Full Pair)) → cond b (list_of o) [] ≡ list_of (cond b o None)
    cond_list true o = refl
    cond_list false o = refl

    or_none : (x : Option (Full Pair)) → option_or x None ≡ x
    or_none None = refl
    or_none (Some f) = refl

    at : (n : ℕ) (q : PlainKey) (b : Bool) → (n == to) ≡ b
        → pairs_or (found q (areas_of n new)) ≡ list_of (option_or
        (cond b (cond (is_under site q) (finite.get held.sessions (from, q)) None) None) (finite.get held.sessions (n, q)))
    at n q true tie =
        let same : n ≡ to = grind (arith, nat_tests) in
        let nothing : finite.get held.sessions (n, q) ≡ None =
        ap (λ s. finite.get s (n, q)) is ∙ ap (λ m. finite.get (sessions_in old) (m, q)) same ∙ none q in
        ap (λ m. pairs_or (found q (areas_of m new))) same
        ∙ ap pairs_or (copied_at (is_under site) keys (areas_of from old) (areas_of to new) are copied q)
        ∙ cond_pairs (is_under site q) (found q (areas_of from old))
        ∙ ap (λ p. cond (is_under site q) p []) (here from q)
        ∙ cond_list (is_under site q) (finite.get held.sessions (from, q))
        ∙ ap list_of (sym (or_none (cond (is_under site q) (finite.get held.sessions (from, q)) None)))
        ∙ ap (λ o. list_of (option_or (cond (is_under site q) (finite.get held.sessions (from, q)) None) o)) (sym nothing)
    at n q false tie =
        ap (λ areas. pairs_or (found q areas)) (keeps n (λ same. grind (arith, nat_tests, tie, same))) ∙ here n q

    each : (n : ℕ) (q : PlainKey) → get_cell session_order (sessions_in new) (n, q)
        ≡ get_cell session_order (copy_sessions site from to held).sessions (n, q)
    each n q = session_at n q new ∙ at n q (n == to) refl ∙ ap list_of (sym (get_copied site from to held (n, q)))

both_ok : {T E : Type 0} (r : Result T E) (A B C : Type 0) → (A → B → C) → OnOk r A → OnOk r B → OnOk r C
both_ok (Ok v) A B C f a b = f a b
both_ok (Err e) A B C f a b = tt

-- the session areas after a tab that has none was emptied, and got copies
pub after_copy : {T E : Type 0} (site : PlainSite) (from to : ℕ) (keys : List StorageKey)
    (old closed new : Tabs) (held : Holdings)
    → held.sessions ≡ sessions_in old → HasNone to (sessions_in old) → ChangesTab to [] old closed
    → AreUnder site (map plain_key (keys_of (areas_of from closed))) (map plain_key keys)
    → (r : Result T E) → OnOk r (IsCopied order keys (areas_of from closed) (areas_of to new))
    → OnOk r (KeepsOthers to closed new)
    → OnOk r (sessions_in new ≡ (copy_sessions site from to held).sessions)
after_copy site from to keys old closed new held is none changes are r copied keeps =
    both_ok r (IsCopied order keys (areas_of from closed) (areas_of to new)) (KeepsOthers to closed new) _
    (λ c k. sessions_copied site from to keys closed new held (is ∙ sym same)
    (λ q. ap (λ s. finite.get s (to, q)) same ∙ none q) are c k) copied keeps
  where
    same : sessions_in closed ≡ sessions_in old
    same = sessions_closed to old closed changes ∙ closed_same to (sessions_in old) none
