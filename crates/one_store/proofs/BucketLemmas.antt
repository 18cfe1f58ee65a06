-- Modes of buckets and evictions, at one site and in all.
use Rattle.std.proofs.Common.{◌≡◌, ℕ, Bool, true, false, cond, not, ◌&&◌, [], ◌∷◌, Some, None, refl, sym, ap, ◌∙◌}
use Rattle.std.specs.Prelude.{◌-◌, ◌^◌, min, is_some}
use Rattle.std.specs.FinMap as finite
use Rattle.origin_site.specs.Site.{PlainSite, same_plain_site}
use Rattle.storage_key.specs.Key.{PlainKey, key_order}
use Rattle.storage_key.proofs.OrderLemmas.{key_order_total, key_order_same}
use Rattle.local_area.specs.Area.{area_weight}
use Rattle.storage_events.specs.declared.event.AreaKind.TheVariants.{Local}
use Rattle.script_actions.specs.declared.words.Prompt.{Prompt}
use Rattle.reply_lines.specs.Reply.{Truth, Estimate, Cleared}
use Rattle.live_state.specs.Tabs.{PlainTab}
use Rattle.agent_model.specs.Partition.{Holdings, is_under}
use Rattle.row_changes.specs.Change.{SetMode}
use Rattle.agent_model.specs.Effects.{SharedCells, answers, changes_to}
use Rattle.agent_model.specs.Changes.{clears}
use Rattle.agent_model.specs.Documents.{Keyed, in_secure}
use Rattle.agent_model.specs.Buckets.{is_persistent, get_mode, get_usage, is_grant, made_persistent, persist_by, persist, is_evicted, areas_left, areas_taken, evict}
use Rattle.unwinding.proofs.FiniteCellsLemmas.{get_kept}
use Rattle.one_store.specs.HeldAt.{held_at, done_at}
use Rattle.agent_model.proofs.KeptLemmas as kept
use Rattle.agent_model.proofs.SecureLemmas.{secure_by}
use Rattle.one_store.proofs.HeldLemmas.{under_one}
use Rattle.one_store.proofs.AreaLemmas.{read_seen}

module _ (site : PlainSite) (here : ℕ → Bool) (held : Holdings) where
  -- a bucket under the site has the mode that it has in all, and another one is best-effort
  mode_there : (key : PlainKey) (b : Bool) → is_under site key ≡ b → is_persistent key (held_at site here held) ≡ is_some (cond b (finite.get held.persistent key) None)
  mode_there key b is = ap is_some (get_kept key_order key_order_same (is_under site) held.persistent key ∙ ap (λ u. cond u (finite.get held.persistent key) None) is)

  pub mode_seen : (key : PlainKey) → is_under site key ≡ true → is_persistent key (held_at site here held) ≡ is_persistent key held
  mode_seen key = mode_there key true

  pub mode_unseen : (key : PlainKey) → is_under site key ≡ false → is_persistent key (held_at site here held) ≡ false
  mode_unseen key = mode_there key false

  -- ---- at the site of the document

  module _ (asker : Keyed) (under : is_under site asker.key ≡ true) (cells : SharedCells) where
    pub get_mode_seen : get_mode asker cells (held_at site here held) ≡ done_at site here (get_mode asker cells held)
    get_mode_seen = ap (λ b. answers (Truth b) cells (held_at site here held)) (mode_seen asker.key under)

    pub get_usage_seen : get_usage asker cells (held_at site here held) ≡ done_at site here (get_usage asker cells held)
    get_usage_seen = read_seen site here Local asker under cells (λ pairs. Estimate (area_weight pairs)) held

    made_persistent_seen : made_persistent asker.key (held_at site here held) ≡ held_at site here (made_persistent asker.key held)
    made_persistent_seen =
        ap (λ keys. record (held_at site here held) { persistent = keys })
        (sym (kept.change_seen key_order key_order_total key_order_same held.persistent (is_under site) (is_under site) asker.key (Some tt) under (λ q apart. refl)))

    persist_by_seen : (before granted : Bool) → persist_by before granted asker cells (held_at site here held) ≡ done_at site here (persist_by before granted asker cells held)
    persist_by_seen true granted = refl
    persist_by_seen false true = ap (changes_to (SetMode asker.key ∷ []) (Truth true) cells) made_persistent_seen
    persist_by_seen false false = refl

    pub persist_seen : (tab : PlainTab) (answer : Prompt) → in_secure tab (persist answer) asker cells (held_at site here held) ≡ done_at site here (in_secure tab (persist answer) asker cells held)
    persist_seen tab answer =
        secure_by (λ does. does cells (held_at site here held) ≡ done_at site here (does cells held)) tab (persist answer) asker refl
        (ap (λ b. persist_by b (is_grant answer) asker cells (held_at site here held)) (mode_seen asker.key under)
        ∙ persist_by_seen (is_persistent asker.key held) (is_grant answer))

  -- ---- at another site

  module _ (asker : Keyed) (apart : is_under site asker.key ≡ false) (cells : SharedCells) where
    persist_by_unseen : (before granted : Bool) → held_at site here (persist_by before granted asker cells held).held ≡ held_at site here held
    persist_by_unseen true granted = refl
    persist_by_unseen false true =
        ap (λ keys. record (held_at site here held) { persistent = keys })
        (kept.change_unseen key_order key_order_total key_order_same held.persistent (is_under site) asker.key (Some tt) apart)
    persist_by_unseen false false = refl

    pub persist_unseen : (tab : PlainTab) (answer : Prompt) → held_at site here (in_secure tab (persist answer) asker cells held).held ≡ held_at site here held
    persist_unseen tab answer =
        secure_by (λ does. held_at site here (does cells held).held ≡ held_at site here held) tab (persist answer) asker refl
        (persist_by_unseen (is_persistent asker.key held) (is_grant answer))

-- ---- eviction

module _ (site : PlainSite) (here : ℕ → Bool) (held : Holdings) where
  -- the areas that are taken are all under the site
  taken_seen : areas_taken site (held_at site here held) ≡ areas_taken site held
  taken_seen = kept.same_kept key_order key_order_total key_order_same _ _ _ _ each
    where
      at : (key : PlainKey) (b : Bool) → is_under site key ≡ b
          → cond (b && not (is_persistent key (held_at site here held))) (cond b (finite.get held.areas key) None) None ≡ cond (b && not (is_persistent key held)) (finite.get held.areas key) None
      at key true is = ap (λ p. cond (not p) (finite.get held.areas key) None) (mode_seen site here held key is)
      at key false is = refl

      each : (key : PlainKey) → cond (is_evicted site (held_at site here held) key) (finite.get (finite.retain_keys held.areas (is_under site)) key) None ≡ cond (is_evicted site held key) (finite.get held.areas key) None
      each key =
          ap (λ v. cond (is_evicted site (held_at site here held) key) v None) (get_kept key_order key_order_same (is_under site) held.areas key)
          ∙ at key (is_under site key) refl

  left_seen : areas_left site (held_at site here held) ≡ finite.retain_keys (areas_left site held) (is_under site)
  left_seen = kept.same_kept key_order key_order_total key_order_same _ _ _ _ each
    where
      at : (key : PlainKey) (b : Bool) → is_under site key ≡ b
          → cond (not (b && not (is_persistent key (held_at site here held)))) (cond b (finite.get held.areas key) None) None ≡ cond b (cond (not (b && not (is_persistent key held))) (finite.get held.areas key) None) None
      at key true is = ap (λ p. cond (not (not p)) (finite.get held.areas key) None) (mode_seen site here held key is)
      at key false is = refl

      each : (key : PlainKey) → cond (not (is_evicted site (held_at site here held) key)) (finite.get (finite.retain_keys held.areas (is_under site)) key) None
          ≡ cond (is_under site key) (finite.get (areas_left site held) key) None
      each key =
          ap (λ v. cond (not (is_evicted site (held_at site here held) key)) v None) (get_kept key_order key_order_same (is_under site) held.areas key)
          ∙ at key (is_under site key) refl
          ∙ sym (ap (λ v. cond (is_under site key) v None) (get_kept key_order key_order_same (λ k. not (is_evicted site held k)) held.areas key))

  -- at the site itself
  pub evict_seen : (cells : SharedCells) → evict site cells (held_at site here held) ≡ done_at site here (evict site cells held)
  evict_seen cells = λ i.
      changes_to (clears (finite.keys (taken_seen i))) (Cleared (min (finite.len (taken_seen i)) (2 ^ 32 - 1))) cells (record (held_at site here held) { areas = left_seen i })

-- at another site
pub evict_unseen : (site other : PlainSite) (here : ℕ → Bool) (cells : SharedCells) (held : Holdings) → same_plain_site other site ≡ false → held_at other here (evict site cells held).held ≡ held_at other here held
evict_unseen site other here cells held apart =
    ap (λ areas. record (held_at other here held) { areas = areas }) (kept.same_where key_order key_order_total key_order_same _ _ (is_under other) each)
  where
    each : (key : PlainKey) → is_under other key ≡ true → finite.get (areas_left site held) key ≡ finite.get held.areas key
    each key is =
        get_kept key_order key_order_same (λ k. not (is_evicted site held k)) held.areas key
        ∙ ap (λ b. cond (not (b && not (is_persistent key held))) (finite.get held.areas key) None) (under_one site other key apart is)
