-- What actions on areas and buckets leave of session areas: those of every other tab.
use Rattle.std.proofs.Common.{◌≡◌, ◌==◌, ℕ, Bool, true, false, cond, List, [], ◌∷◌, Option, Some, None, refl, sym, ap, ◌∙◌}
use Rattle.std.proofs.lemmas.Bool.{true≢false}
use Rattle.std.proofs.lemmas.Bool.Decides.{Decides-eqb}
use Rattle.std.specs.Prelude.{codes, nat_lt}
use Rattle.std.specs.Ordering.{eq_by_cmp}
use Rattle.std.specs.FinMap.{get}
use Rattle.unwinding.specs.FiniteCells.{Full, set_cell}
use Rattle.agent_base.specs.declared.refusals.Label.{Label}
use Rattle.storage_key.specs.Key.{PlainKey}
use Rattle.frame_tree.specs.Document.{PlainDocument}
use Rattle.frame_tree.specs.Tree.{document_of}
use Rattle.storage_events.specs.declared.event.AreaKind.{AreaKind}
use Rattle.storage_events.specs.declared.event.AreaKind.TheVariants.{Local, Session}
use Rattle.storage_events.specs.Event.{PlainEvent}
use Rattle.local_area.specs.Area.{Pair, quota, area_remove, area_weight}
use Rattle.local_area.specs.Put.{PlainPut, same, added, changed}
use Rattle.frame_tree.specs.Keys.{key_of_document}
use Rattle.live_state.specs.Tabs.{PlainTab}
use Rattle.script_actions.specs.declared.words.Prompt.{Prompt}
use Rattle.reply_lines.specs.Reply.{Plain}
use Rattle.agent_model.specs.Partition.{SessionKey, session_order, Holdings, with_area}
use Rattle.agent_model.specs.Effects.{Done, Effect, SharedCells, answers}
use Rattle.agent_model.specs.Documents.{Keyed, by_document, by_key, in_secure, with_key}
use Rattle.agent_model.specs.AreaActions.{pairs_of, change_event, write, set_by, remove_by}
use Rattle.agent_model.specs.Buckets.{is_persistent, is_grant, persist_by, persist}
use Rattle.agent_model.proofs.KeptLemmas as kept
use Rattle.agent_model.proofs.SecureLemmas.{secure_by}
use Rattle.agent_model.proofs.HoldingsLemmas.{session_order_total, session_order_same}
use Rattle.agent_memory.proofs.OwnedLemmas.{SameAt}

-- a document with this label and key
abbrev pub keyed_by : Label → PlainDocument → PlainKey → Keyed
keyed_by label document key = record { at = label; document = document; key = key }

module _ (cells : SharedCells) (held : Holdings) (tab : ℕ) where
  -- an action that was done leaves the session areas of this tab
  abbrev pub Leaves : Done → Type 0
  Leaves done = SameAt tab held done.held

  -- ---- areas and buckets

  -- an area of another tab
  area_leaves : (kind : AreaKind) (other : ℕ) (key : PlainKey) (pairs : List Pair) → (tab == other) ≡ false
      → SameAt tab held (with_area kind other key pairs held)
  unfolding set_cell
  area_leaves Local other key pairs apart own = refl
  area_leaves Session other key pairs apart own = at pairs
    where
      untied_by : (b : Bool) → eq_by_cmp session_order (tab, own) (other, key) ≡ b → b ≡ false
      untied_by true tie =
          let equal : tab ≡ other = ap (λ (k : SessionKey). k.0)
          (kept.tied session_order session_order_total session_order_same (tab, own) (other, key) tie) in
          absurd (true≢false (sym ((Decides-eqb tab other).1 equal) ∙ apart))
      untied_by false tie = refl

      untied : eq_by_cmp session_order (tab, own) (other, key) ≡ false
      untied = untied_by (eq_by_cmp session_order (tab, own) (other, key)) refl

      changed_else : (x : Option (Full Pair)) → get (kept.changed_at (other, key) x held.sessions) (tab, own)
          ≡ get held.sessions (tab, own)
      changed_else x =
          kept.get_changed session_order session_order_total session_order_same held.sessions (other, key) x (tab, own)
          ∙ ap (λ b. cond b x (get held.sessions (tab, own))) untied

      at : (pairs : List Pair) → get (set_cell session_order (other, key) pairs held.sessions) (tab, own)
          ≡ get held.sessions (tab, own)
      at [] = changed_else None
      at (x ∷ xs) = changed_else (Some (record { first = x; rest = xs }))

  module _ (label : Label) (apart : (tab == label.tab) ≡ false) where
    module _ (document : PlainDocument) (key : PlainKey) (kind : AreaKind) where
      abbrev writer : Keyed
      writer = keyed_by label document key

      pub write_leaves : (pairs : List Pair) (event : PlainEvent) → Leaves (write kind writer pairs event cells held)
      write_leaves pairs event = area_leaves kind label.tab key pairs apart

      pub set_leaves : (answer : PlainPut) (name value : List ℕ) (pairs : List Pair)
          → Leaves (set_by answer kind writer name value pairs cells held)
      set_leaves answer name value pairs = by answer
        where
          stored : (b : Bool) (event : PlainEvent)
              → Leaves (cond b (answers (Plain (codes "quota")) cells held) (write kind writer pairs event cells held))
          stored true event = λ own. refl
          stored false event = write_leaves pairs event

          by : (answer : PlainPut) → Leaves (set_by answer kind writer name value pairs cells held)
          by same = λ own. refl
          by added = stored (nat_lt quota (area_weight pairs)) (change_event kind writer (Some name) None (Some value))
          by (changed before) = stored (nat_lt quota (area_weight pairs))
              (change_event kind writer (Some name) (Some before) (Some value))

      pub remove_leaves : (found : Option (List ℕ)) (name : List ℕ) → Leaves (remove_by found kind writer name cells held)
      remove_leaves None name = λ own. refl
      remove_leaves (Some before) name = write_leaves (area_remove name (pairs_of kind writer held))
          (change_event kind writer (Some name) (Some before) None)

    pub with_key_leaves : (open_tab : PlainTab) (action : Keyed → Effect)
        → ((document : PlainDocument) (key : PlainKey)
        → Leaves (action (keyed_by label document key) cells held)) → Leaves (with_key label open_tab action cells held)
    with_key_leaves open_tab action each = by_found (document_of label.frame open_tab.frames)
      where
        by_own : (document : PlainDocument) (key : Option PlainKey) → Leaves (by_key label document key action cells held)
        by_own document None = λ own. refl
        by_own document (Some key) = each document key

        by_found : (document : Option PlainDocument)
            → Leaves (by_document document (λ document. by_key label document
            (key_of_document label.frame open_tab.frames document) action) cells held)
        by_found None = λ own. refl
        by_found (Some document) = by_own document (key_of_document label.frame open_tab.frames document)

  pub persist_leaves : (open_tab : PlainTab) (answer : Prompt) (asker : Keyed)
      → Leaves (in_secure open_tab (persist answer) asker cells held)
  persist_leaves open_tab answer asker =
      secure_by (λ does. Leaves (does cells held)) open_tab (persist answer) asker (λ own. refl)
      (by (is_persistent asker.key held) (is_grant answer))
    where
      by : (before granted : Bool) → Leaves (persist_by before granted asker cells held)
      by true granted = λ own. refl
      by false true = λ own. refl
      by false false = λ own. refl
