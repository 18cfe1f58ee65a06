-- The documents that hear of a change: those of the tabs at the site of the key, or of the writer's tab.
use Rattle.std.proofs.Common.{◌≡◌, ◌+◌, ℕ, Bool, true, false, cond, not, List, [], ◌∷◌, ◌++◌, map, Option, Some, refl, ap, sym, ◌∙◌, append_assoc, arith}
use Rattle.std.specs.Prelude.{◌==◌, ◌&&◌, IfOk, Result, filter, nat_lt}
use Rattle.std.specs.Global.{Vec}
use Rattle.std.specs.List.{AllByRecursion, filter_map, flat_map, list_all, range_with_len}
use Rattle.std.specs.Option.{option_to_list}
use Rattle.std.specs.Ordering.{eq_by_cmp}
use Rattle.std.specs.Cmp.{Equal-is}
use Rattle.std.proofs.lemmas.Bool.{and_parts, eq-eqb}
use Rattle.std.proofs.lemmas.Bool.Decides.{nat_tests}
use Rattle.std.proofs.lemmas.List.{append-nil, map-append}
use Rattle.std.proofs.lemmas.List.Elements.{filter-append}
use Rattle.std.proofs.lemmas.Result.{IfOk-weaker}
use Rattle.agent_base.specs.declared.refusals.Label.{Label}
use Rattle.origin_site.proofs.SameLemmas.{same_plain_site-Decides}
use Rattle.storage_key.specs.Context.{is_of}
use Rattle.storage_key.specs.Key.{PlainKey, key_order}
use Rattle.storage_key.proofs.OrderLemmas.{key_order_same}
use Rattle.storage_key.specs.Plain.{plain_key}
use Rattle.storage_key.specs.declared.key.StorageKey.{StorageKey}
use Rattle.storage_key.specs.contracts.key.StorageKeyOrd.TheImpl.Laws as laws
use Rattle.storage_key.specs.contracts.key.StorageKeyPartialEq as eq
use Rattle.storage_events.specs.declared.event.AreaKind.{AreaKind}
use Rattle.storage_events.specs.declared.event.AreaKind.TheVariants.{Session}
use Rattle.storage_events.specs.Audience.{hears, in_reach, same_label}
use Rattle.frame_tree.specs.Tree.{IsTree}
use Rattle.frame_tree.specs.Keys.{key_of_frame}
use Rattle.live_state.specs.Documents.{documents, documents_in}
use Rattle.live_state.specs.Hearers.{hearers, hearers_by, hearers_in, hearing}
use Rattle.live_state.specs.Queues.{are_distinct, has_document}
use Rattle.live_state.specs.SiteTabs.{AreTrees, is_at, numbers_at}
use Rattle.live_state.specs.Tabs.{PlainTab, is_rising, tab_at}
use Rattle.live_state.proofs.DocumentLemmas.{filter_map-more}
use Rattle.live_state.proofs.ListLemmas.{filter_none}
use Rattle.live_state.proofs.OnceLemmas.{all-documents, kept-once, kept-there}
use Rattle.live_state.proofs.UnderLemmas.{key-under-top}

-- the equality of the program's keys is that of the plain keys
pub same_as_plain : (a b : StorageKey) → (eq.TheImpl.eq-value).it a b ≡ eq_by_cmp key_order (plain_key a) (plain_key b)
same_as_plain a b = laws.matches_eq-law a b

-- equal keys are one key
one_key : (a b : PlainKey) → eq_by_cmp key_order a b ≡ true → a ≡ b
one_key a b is = key_order_same a b ((Equal-is (key_order a b)).0 is)

module _ (kind : AreaKind) (writer : Label) (key : PlainKey) where
  pub hearing-append : (ds es : List (Label × PlainKey)) → hearing kind writer key (ds ++ es) ≡ hearing kind writer key ds ++ hearing kind writer key es
  hearing-append ds es =
      ap (map (λ d. d.0)) (filter-append (hears (eq_by_cmp key_order) kind writer key) ds es)
      ∙ map-append (λ d. d.0) (filter (hears (eq_by_cmp key_order) kind writer key) ds) (filter (hears (eq_by_cmp key_order) kind writer key) es)

  -- the hearers of one frame more
  pub hearing-next : (h : ℕ → Option (Label × PlainKey)) (before now after : List Label) (n : ℕ) (found : Option (Label × PlainKey))
      → found ≡ h n → now ≡ before ++ hearing kind writer key (filter_map h (range_with_len 0 n))
      → after ≡ now ++ hearing kind writer key (option_to_list found)
      → after ≡ before ++ hearing kind writer key (filter_map h (range_with_len 0 (n + 1)))
  hearing-next h before now after n found own so_far more =
      more
      ∙ ap (λ o. now ++ hearing kind writer key (option_to_list o)) own
      ∙ ap (λ l. l ++ hearing kind writer key (option_to_list (h n))) so_far
      ∙ append_assoc before (hearing kind writer key (filter_map h (range_with_len 0 n))) (hearing kind writer key (option_to_list (h n)))
      ∙ ap (λ l. before ++ l)
      (sym (ap (hearing kind writer key) (filter_map-more h n) ∙ hearing-append (filter_map h (range_with_len 0 n)) (option_to_list (h n))))

  -- tab by tab
  pub hearers-flat : (tabs : List PlainTab) → hearers kind writer key tabs ≡ flat_map (hearers_in kind writer key) tabs
  hearers-flat [] = refl
  hearers-flat (t ∷ ts) =
      hearing-append (documents_in t) (documents ts) ∙ ap (λ l. hearers_in kind writer key t ++ l) (hearers-flat ts)

  -- each hearer stands once, and is there
  pub hearers-once : {E : Type 0} (r : Result (Vec Label) E) (tabs : List PlainTab) → is_rising tabs ≡ true
      → IfOk r (λ to. to.items ≡ hearers kind writer key tabs) → IfOk r (λ to. are_distinct to.items ≡ true)
  hearers-once r tabs rising told =
      IfOk-weaker r _ _ (λ to is. ap are_distinct is ∙ kept-once (hears (eq_by_cmp key_order) kind writer key) tabs rising) told

  pub hearers-there : {E : Type 0} (r : Result (Vec Label) E) (tabs : List PlainTab) → is_rising tabs ≡ true
      → IfOk r (λ to. to.items ≡ hearers kind writer key tabs) → IfOk r (λ to. list_all (has_document tabs) to.items ≡ true)
  hearers-there r tabs rising told =
      IfOk-weaker r _ _ (λ to is. ap (list_all (has_document tabs)) is ∙ kept-there (hears (eq_by_cmp key_order) kind writer key) tabs rising) told

  -- no document of a tab hears where none does
  none_in : (tab : PlainTab) → ((frame : ℕ) (own : PlainKey) → key_of_frame frame tab.frames ≡ Some own
      → not (hears (eq_by_cmp key_order) kind writer key (record { tab = tab.number; frame = frame }, own)) ≡ true) → hearers_in kind writer key tab ≡ []
  none_in tab none =
      ap (map (λ d. d.0)) (filter_none (hears (eq_by_cmp key_order) kind writer key) (documents_in tab)
      (all-documents (λ d. not (hears (eq_by_cmp key_order) kind writer key d)) tab none))

  -- a tab at another site has none
  pub none-apart : (tab : PlainTab) → IsTree tab.frames → is_at key.top tab ≡ false → hearers_in kind writer key tab ≡ []
  none-apart tab tree apart = none_in tab (λ frame own is. by frame own is (hears (eq_by_cmp key_order) kind writer key (record { tab = tab.number; frame = frame }, own)) refl)
    where
      by : (frame : ℕ) (own : PlainKey) → key_of_frame frame tab.frames ≡ Some own → (b : Bool)
          → hears (eq_by_cmp key_order) kind writer key (record { tab = tab.number; frame = frame }, own) ≡ b → not b ≡ true
      by frame own is false heard = refl
      by frame own is true heard =
          let at : Label = record { tab = tab.number; frame = frame } in
          let reached = and_parts (in_reach kind writer at) (not (same_label at writer) && eq_by_cmp key_order key own) heard in
          let other = and_parts (not (same_label at writer)) (eq_by_cmp key_order key own) reached.1 in
          let same = one_key key own other.1 in
          let no : false ≡ true =
          sym apart
          ∙ ap (is_of key.top) (key-under-top frame tab.frames own tree is)
          ∙ (same_plain_site-Decides key.top own.top).1 (ap (λ (k : PlainKey). k.top) same) in absurd (cc no)

-- ---- lists of tabs

module _ {A : Type 0} (f : PlainTab → List A) where
  -- the tabs that have nothing may be left out
  pub flat-kept : (p : PlainTab → Bool) (tabs : List PlainTab) → AllByRecursion (λ t. p t ≡ false → f t ≡ []) tabs → flat_map f tabs ≡ flat_map f (filter p tabs)
  flat-kept p [] none = refl
  flat-kept p (t ∷ ts) none = by (p t) refl (flat-kept p ts none.1)
    where
      by : (b : Bool) → p t ≡ b → flat_map f ts ≡ flat_map f (filter p ts) → f t ++ flat_map f ts ≡ flat_map f (cond b (t ∷ filter p ts) (filter p ts))
      by true is rest = ap (λ l. f t ++ l) rest
      by false is rest = ap (λ l. l ++ flat_map f ts) (none.0 is) ∙ rest

  -- the tabs that are kept are found by their numbers
  pub flat-numbers : (g : ℕ → List A) (p : PlainTab → Bool) (tabs : List PlainTab) → AllByRecursion (λ t. g t.number ≡ f t) tabs
      → flat_map g (map (λ t. t.number) (filter p tabs)) ≡ flat_map f (filter p tabs)
  flat-numbers g p [] same = refl
  flat-numbers g p (t ∷ ts) same = by (p t) (flat-numbers g p ts same.1)
    where
      by : (b : Bool) → flat_map g (map (λ t. t.number) (filter p ts)) ≡ flat_map f (filter p ts)
          → flat_map g (map (λ (t : PlainTab). t.number) (cond b (t ∷ filter p ts) (filter p ts))) ≡ flat_map f (cond b (t ∷ filter p ts) (filter p ts))
      by true rest = ap (λ l. l ++ flat_map g (map (λ t. t.number) (filter p ts))) same.0 ∙ ap (λ l. f t ++ l) rest
      by false rest = rest

-- a tab of rising numbers is found by its number
found-each : (tabs : List PlainTab) → is_rising tabs ≡ true → AllByRecursion (λ t. tab_at t.number tabs ≡ Some t) tabs
found-each [] rising = tt
found-each (t ∷ ts) rising =
    let parts = and_parts (list_all (λ u. nat_lt t.number u.number) ts) (is_rising ts) rising in
    (ap (λ b. cond b (Some t) (tab_at t.number ts)) (eq-eqb t.number t.number refl), later ts parts.0 (found-each ts parts.1))
  where
    past : (u : PlainTab) → nat_lt t.number u.number ≡ true → (t.number == u.number) ≡ false
    past u low = grind (arith, nat_tests)

    later : (us : List PlainTab) → list_all (λ u. nat_lt t.number u.number) us ≡ true → AllByRecursion (λ u. tab_at u.number ts ≡ Some u) us
        → AllByRecursion (λ u. tab_at u.number (t ∷ ts) ≡ Some u) us
    later [] low found = tt
    later (u ∷ us) low found =
        let parts = and_parts (nat_lt t.number u.number) (list_all (λ u. nat_lt t.number u.number) us) low in
        (ap (λ b. cond b (Some t) (tab_at u.number ts)) (past u parts.0) ∙ found.0, later us parts.1 found.1)

weaker : {P Q : PlainTab → Type 0} → ((t : PlainTab) → P t → Q t) → (tabs : List PlainTab) → AllByRecursion P tabs → AllByRecursion Q tabs
weaker gives [] all = tt
weaker gives (t ∷ ts) all = (gives t all.0, weaker gives ts all.1)

-- ---- the hearers, by the numbers of the tabs

module _ (kind : AreaKind) (writer : Label) (key : PlainKey) (tabs : List PlainTab) (rising : is_rising tabs ≡ true) where
  -- those of the tabs at the key's site
  pub hearers-at : AreTrees tabs → hearers kind writer key tabs ≡ flat_map (λ n. hearers_by kind writer key (tab_at n tabs)) (numbers_at key.top tabs)
  hearers-at trees =
      hearers-flat kind writer key tabs
      ∙ flat-kept (hearers_in kind writer key) (is_at key.top) tabs (weaker (λ t tree apart. none-apart kind writer key t tree apart) tabs trees)
      ∙ sym (flat-numbers (hearers_in kind writer key) (λ n. hearers_by kind writer key (tab_at n tabs)) (is_at key.top) tabs
      (weaker (λ t found. ap (hearers_by kind writer key) found) tabs (found-each tabs rising)))

-- those of a session area, in the writer's tab
module _ (writer : Label) (key : PlainKey) where
  none_beside : (tab : PlainTab) → (tab.number == writer.tab) ≡ false → hearers_in Session writer key tab ≡ []
  none_beside tab apart = none_in Session writer key tab (λ frame own is.
      ap (λ b. not (b && (not (same_label (record { tab = tab.number; frame = frame }) writer) && eq_by_cmp key_order key own))) apart)

  none_later : (n : ℕ) (tabs : List PlainTab) → list_all (λ t. nat_lt n t.number) tabs ≡ true → writer.tab ≡ n
      → flat_map (hearers_in Session writer key) tabs ≡ []
  none_later n [] low same = refl
  none_later n (t ∷ ts) low same =
      let parts = and_parts (nat_lt n t.number) (list_all (λ t. nat_lt n t.number) ts) low in
      let apart : (t.number == writer.tab) ≡ false = grind (arith, nat_tests) in
      ap (λ l. l ++ flat_map (hearers_in Session writer key) ts) (none_beside t apart) ∙ none_later n ts parts.1 same

  pub hearers-session : (tabs : List PlainTab) → is_rising tabs ≡ true
      → hearers Session writer key tabs ≡ hearers_by Session writer key (tab_at writer.tab tabs)
  hearers-session tabs rising = hearers-flat Session writer key tabs ∙ each tabs rising
    where
      here : (t : PlainTab) → (t.number == writer.tab) ≡ true → writer.tab ≡ t.number
      here t is = grind (arith, nat_tests)

      each : (ts : List PlainTab) → is_rising ts ≡ true → flat_map (hearers_in Session writer key) ts ≡ hearers_by Session writer key (tab_at writer.tab ts)
      each [] rising = refl
      each (t ∷ ts) rising =
          let parts = and_parts (list_all (λ u. nat_lt t.number u.number) ts) (is_rising ts) rising in
          by (t.number == writer.tab) refl parts.0 (each ts parts.1)
        where
          by : (b : Bool) → (t.number == writer.tab) ≡ b → list_all (λ u. nat_lt t.number u.number) ts ≡ true
              → flat_map (hearers_in Session writer key) ts ≡ hearers_by Session writer key (tab_at writer.tab ts)
              → hearers_in Session writer key t ++ flat_map (hearers_in Session writer key) ts
              ≡ hearers_by Session writer key (cond b (Some t) (tab_at writer.tab ts))
          by true is low rest =
              ap (λ l. hearers_in Session writer key t ++ l) (none_later t.number ts low (here t is)) ∙ append-nil (hearers_in Session writer key t)
          by false is low rest = ap (λ l. l ++ flat_map (hearers_in Session writer key) ts) (none_beside t is) ∙ rest

-- ---- one document

module _ (kind : AreaKind) (writer : Label) (key own : StorageKey) (at : Label) where
  -- it hears by the program's keys as by the plain ones
  pub hears-plain : (heard : Bool) → heard ≡ hears ((eq.TheImpl.eq-value).it) kind writer key (at, own)
      → hears (eq_by_cmp key_order) kind writer (plain_key key) (at, plain_key own) ≡ heard
  hears-plain heard is =
      sym (is ∙ ap (λ b. in_reach kind writer at && (not (same_label at writer) && b)) (same_as_plain key own))

  pub one-hearer : (heard : Bool) → heard ≡ hears ((eq.TheImpl.eq-value).it) kind writer key (at, own) → (found : Option (Label × PlainKey)) → found ≡ Some (at, plain_key own)
      → hearing kind writer (plain_key key) (option_to_list found) ≡ cond heard (at ∷ []) []
  one-hearer heard is found there =
      ap (λ o. hearing kind writer (plain_key key) (option_to_list o)) there
      ∙ ap (λ b. map (λ (d : Label × PlainKey). d.0) (cond b ((at, plain_key own) ∷ []) [])) (hears-plain heard is)
      ∙ by heard
    where
      by : (b : Bool) → map (λ (d : Label × PlainKey). d.0) (cond b ((at, plain_key own) ∷ []) []) ≡ cond b (at ∷ []) []
      by true = refl
      by false = refl
