-- Who hears of a change, at one site and in all.
use Rattle.std.proofs.Common.{◌≡◌, ℕ, Bool, true, false, cond, not, ◌&&◌, List, [], ◌∷◌, map, Option, Some, None, refl, sym, ap, ◌∙◌}
use Rattle.std.proofs.lemmas.Bool.{true≢false}
use Rattle.std.specs.Prelude.{option_and_then}
use Rattle.std.specs.Cmp.{nat_cmp_total}
use Rattle.std.specs.Ordering.{nat_cmp, eq_by_cmp}
use Rattle.std.specs.FinMap.{nat_cmp-IsAntisymmetric, get, retain_keys}
use Rattle.agent_base.specs.declared.refusals.Label.{Label}
use Rattle.origin_site.specs.Site.{PlainSite, same_plain_site}
use Rattle.storage_key.specs.Key.{PlainKey, key_order}
use Rattle.storage_key.proofs.OrderLemmas.{key_order_total, key_order_same}
use Rattle.frame_tree.specs.Document.{PlainDocument}
use Rattle.frame_tree.specs.Tree.{document_of}
use Rattle.storage_events.specs.declared.event.AreaKind.{AreaKind}
use Rattle.storage_events.specs.Audience.{in_reach, same_label}
use Rattle.storage_events.specs.Event.{PlainEvent}
use Rattle.live_state.specs.Tabs.{PlainTab, PlainFrameQueue}
use Rattle.frame_tree.specs.Keys.{key_of_document, key_of_frame}
use Rattle.live_state.specs.Queues.{queue_told}
use Rattle.agent_model.specs.Documents.{Keyed, by_document, with_document, by_key, with_key, hears_by, told_queue, told_tab, told}
use Rattle.agent_model.specs.Partition.{Holdings, Tabs, is_under, tab_named}
use Rattle.agent_model.specs.Effects.{SharedCells, Effect}
use Rattle.one_store.specs.HeldAt.{held_at, done_at, IsKeyed}
use Rattle.agent_model.proofs.KeptLemmas as kept
use Rattle.one_store.proofs.HeldLemmas.{under_one}

-- that documents have keys of their site is a matter of the tabs alone
pub keyed_by_tabs : (site : PlainSite) (here : ℕ → Bool) (held other : Holdings) → other.tabs ≡ held.tabs → IsKeyed site here held → IsKeyed site here other
keyed_by_tabs site here held other same keyed =
    record { under = λ number tab frame key is found. keyed.under number tab frame key is (sym (ap (λ tabs. get tabs number) same) ∙ found) }

-- ---- at the writer's site

-- the tabs at a site are told of a change as among all
pub told_seen : (kind : AreaKind) (writer : Keyed) (event : PlainEvent) (tabs : Tabs) (here : ℕ → Bool)
    → retain_keys (told kind writer event tabs) here ≡ told kind writer event (retain_keys tabs here)
told_seen kind writer event tabs here = kept.kept_mapped nat_cmp nat_cmp_total nat_cmp-IsAntisymmetric (told_tab kind writer event) tabs here

-- ---- at another site

neither : (a b : Bool) → (a && (b && false)) ≡ false
neither true true = refl
neither true false = refl
neither false b = refl

module _ (site : PlainSite) (kind : AreaKind) (writer : Keyed) (apart : is_under site writer.key ≡ false) where
  -- a key of the site is not the writer's
  other_key : (key : PlainKey) → is_under site key ≡ true → eq_by_cmp key_order writer.key key ≡ false
  other_key key under = at (eq_by_cmp key_order writer.key key) refl
    where
      at : (b : Bool) → eq_by_cmp key_order writer.key key ≡ b → b ≡ false
      at true tie =
          let same : is_under site writer.key ≡ is_under site key = ap (is_under site) (kept.tied key_order key_order_total key_order_same writer.key key tie) in
          cc
      at false tie = refl

  -- no document of the site hears
  not_heard : (reader : Label) (found : Option PlainKey) → ((key : PlainKey) → found ≡ Some key → is_under site key ≡ true) → hears_by kind writer reader found ≡ false
  not_heard reader None under = refl
  not_heard reader (Some key) under =
      ap (λ b. in_reach kind writer.at reader && (not (same_label reader writer.at) && b)) (other_key key (under key refl))
      ∙ neither (in_reach kind writer.at reader) (not (same_label reader writer.at))

  module _ (event : PlainEvent) where
    queues_kept : (number : ℕ) (tab : PlainTab) → ((frame : ℕ) (key : PlainKey) → key_of_frame frame tab.frames ≡ Some key → is_under site key ≡ true) → (queues : List PlainFrameQueue)
        → map (told_queue kind writer event number tab) queues ≡ queues
    queues_kept number tab under [] = refl
    queues_kept number tab under (queue ∷ queues) = λ i. one i ∷ queues_kept number tab under queues i
      where
        one : told_queue kind writer event number tab queue ≡ queue
        one = ap (λ b. cond b (queue_told (Some event) queue) queue) (not_heard (record { tab = number; frame = queue.frame }) (key_of_frame queue.frame tab.frames) (under queue.frame))

    -- a tab whose documents have keys of the site alone is told nothing
    tab_kept : (number : ℕ) (tab : PlainTab) → ((frame : ℕ) (key : PlainKey) → key_of_frame frame tab.frames ≡ Some key → is_under site key ≡ true) → told_tab kind writer event number tab ≡ tab
    tab_kept number tab under = ap (λ queues. record tab { queues = queues }) (queues_kept number tab under tab.queues)

    -- no tab of the site is told
    pub told_unseen : (here : ℕ → Bool) (held : Holdings) → IsKeyed site here held → retain_keys (told kind writer event held.tabs) here ≡ retain_keys held.tabs here
    told_unseen here held keyed =
        kept.mapped_unseen nat_cmp nat_cmp_total nat_cmp-IsAntisymmetric (told_tab kind writer event) held.tabs here
        (λ number tab is found. tab_kept number tab (λ frame key. keyed.under number tab frame key is found))

-- ---- an action of a document

-- the key of the document that acts is the key of its frame
own_key : (label : Label) (tab : PlainTab) (document : PlainDocument) → document_of label.frame tab.frames ≡ Some document
    → key_of_frame label.frame tab.frames ≡ key_of_document label.frame tab.frames document
own_key label tab document is = ap (option_and_then (key_of_document label.frame tab.frames)) is

module _ (site : PlainSite) (here : ℕ → Bool) (cells : SharedCells) (held : Holdings) (label : Label) (tab : PlainTab) (action : PlainDocument → Effect) where
  -- what the document of a frame does alike at a site, opaque or not, is done alike
  pub with_document_seen : ((document : PlainDocument) → document_of label.frame tab.frames ≡ Some document → action document cells (held_at site here held) ≡ done_at site here (action document cells held))
      → with_document label tab action cells (held_at site here held) ≡ done_at site here (with_document label tab action cells held)
  with_document_seen each = by_found (document_of label.frame tab.frames) refl
    where
      by_found : (document : Option PlainDocument) → document_of label.frame tab.frames ≡ document
          → by_document document action cells (held_at site here held) ≡ done_at site here (by_document document action cells held)
      by_found None there = refl
      by_found (Some document) there = each document there

  -- what it does not do at a site, is not done there
  pub with_document_unseen : ((document : PlainDocument) → document_of label.frame tab.frames ≡ Some document → held_at site here (action document cells held).held ≡ held_at site here held)
      → held_at site here (with_document label tab action cells held).held ≡ held_at site here held
  with_document_unseen each = by_found (document_of label.frame tab.frames) refl
    where
      by_found : (document : Option PlainDocument) → document_of label.frame tab.frames ≡ document → held_at site here (by_document document action cells held).held ≡ held_at site here held
      by_found None there = refl
      by_found (Some document) there = each document there

module _ (site : PlainSite) (here : ℕ → Bool) (cells : SharedCells) (held : Holdings) (keyed : IsKeyed site here held) (label : Label) (tab : PlainTab) (is : here label.tab ≡ true) (found : tab_named label.tab held ≡ Some tab)
    (action : Keyed → Effect) where
  -- what each document with a key of the site does alike, is done alike in a tab at the site
  pub with_key_seen : ((writer : Keyed) → is_under site writer.key ≡ true → action writer cells (held_at site here held) ≡ done_at site here (action writer cells held))
      → with_key label tab action cells (held_at site here held) ≡ done_at site here (with_key label tab action cells held)
  with_key_seen each = with_document_seen site here cells held label tab _ (λ document there. by_own document (key_of_document label.frame tab.frames document) (own_key label tab document there))
    where
      by_own : (document : PlainDocument) (key : Option PlainKey) → key_of_frame label.frame tab.frames ≡ key
          → by_key label document key action cells (held_at site here held) ≡ done_at site here (by_key label document key action cells held)
      by_own document None own = refl
      by_own document (Some key) own = each (record { at = label; document = document; key = key }) (keyed.under label.tab tab label.frame key is found own)

  -- what no such document does at another site, is not done there by a tab at the site
  pub with_key_unseen : (other : PlainSite) (there : ℕ → Bool) → same_plain_site other site ≡ false
      → ((writer : Keyed) → is_under other writer.key ≡ false → held_at other there (action writer cells held).held ≡ held_at other there held)
      → held_at other there (with_key label tab action cells held).held ≡ held_at other there held
  with_key_unseen other there apart each =
      with_document_unseen other there cells held label tab _ (λ document at. by_own document (key_of_document label.frame tab.frames document) (own_key label tab document at))
    where
      not_other : (key : PlainKey) (b : Bool) → is_under other key ≡ b → is_under site key ≡ true → b ≡ false
      not_other key true under own = absurd (true≢false (sym own ∙ under_one site other key apart under))
      not_other key false under own = refl

      by_own : (document : PlainDocument) (key : Option PlainKey) → key_of_frame label.frame tab.frames ≡ key → held_at other there (by_key label document key action cells held).held ≡ held_at other there held
      by_own document None own = refl
      by_own document (Some key) own =
          each (record { at = label; document = document; key = key })
          (not_other key (is_under other key) refl (keyed.under label.tab tab label.frame key is found own))
