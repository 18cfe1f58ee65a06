-- Each document that has a key is listed once, and is there.
use Rattle.std.proofs.Common.{◌≡◌, ◌+◌, ◌<◌, ℕ, zero, suc, Bool, true, false, cond, not, List, [], ◌∷◌, ◌++◌, map, Option, Some, None, refl, ap, sym, ◌∙◌, arith}
use Rattle.std.specs.Prelude.{◌&&◌, ◌||◌, ◌==◌, filter, find, is_some, nat_eq, nat_lt, option_and_then, option_map}
use Rattle.std.specs.List.{cons_option, filter_map, list_all, list_any, range_with_len}
use Rattle.std.proofs.lemmas.Bool.{and_from, and_parts, eq-eqb}
use Rattle.std.proofs.lemmas.Bool.Decides.{nat_tests}
use Rattle.std.proofs.lemmas.List.{map-append}
use Rattle.std.proofs.lemmas.List.Folds.{list_all-append, list_all-map, list_any-append}
use Rattle.agent_base.specs.declared.refusals.Label.{Label}
use Rattle.storage_events.specs.Audience.{same_label}
use Rattle.storage_key.specs.Key.{PlainKey}
use Rattle.storage_key.specs.declared.key.StorageKey.{StorageKey}
use Rattle.frame_tree.specs.Document.{PlainDocument}
use Rattle.frame_tree.specs.Tree.{PlainFrame, document_of, has_frame}
use Rattle.frame_tree.specs.Keys.{key_of_document, key_of_frame}
use Rattle.live_state.specs.Documents.{documents, documents_in, frame_numbers, keyed, plain_keyed}
use Rattle.live_state.specs.Queues.{are_distinct, frames_by, has_document}
use Rattle.live_state.specs.Tabs.{PlainTab, is_rising, tab_at}
use Rattle.live_state.proofs.ListLemmas.{all_kept, all_true, all_weaker, is_some-find, is_some-map, not_true}

abbrev labels : List (Label × PlainKey) → List Label
labels documents = map (λ d. d.0) documents

-- a frame that has a key is there
some_by : (frame : ℕ) (frames : List PlainFrame) (o : Option PlainDocument) (key : PlainKey)
    → option_and_then (key_of_document frame frames) o ≡ Some key → is_some o ≡ true
some_by frame frames None key is = absurd (cc is)
some_by frame frames (Some d) key is = refl

pub frame-there : (frame : ℕ) (frames : List PlainFrame) (key : PlainKey) → key_of_frame frame frames ≡ Some key → has_frame frame frames ≡ true
frame-there frame frames key is =
    sym (is_some-find (λ f. f.frame == frame) frames)
    ∙ sym (is_some-map (λ f. f.document) (find (λ f. f.frame == frame) frames))
    ∙ some_by frame frames (document_of frame frames) key is

-- what each document of a tab that has a key has
all_step : (p : Label × PlainKey → Bool) (number frame : ℕ) (o : Option PlainKey) (rest : List (Label × PlainKey))
    → ((key : PlainKey) → o ≡ Some key → p (record { tab = number; frame = frame }, key) ≡ true) → list_all p rest ≡ true
    → list_all p (cons_option (option_map (λ key. (record { tab = number; frame = frame }, key)) o) rest) ≡ true
all_step p number frame None rest has all = all
all_step p number frame (Some key) rest has all = and_from (p (record { tab = number; frame = frame }, key)) (list_all p rest) (has key refl) all

all-keyed : (p : Label × PlainKey → Bool) (q : ℕ → Bool) (number : ℕ) (frames : List PlainFrame)
    → ((frame : ℕ) (key : PlainKey) → q frame ≡ true → key_of_frame frame frames ≡ Some key → p (record { tab = number; frame = frame }, key) ≡ true)
    → (numbers : List ℕ) → list_all q numbers ≡ true → list_all p (filter_map (keyed number frames) numbers) ≡ true
all-keyed p q number frames has [] within = refl
all-keyed p q number frames has (n ∷ ns) within =
    let parts = and_parts (q n) (list_all q ns) within in
    all_step p number n (key_of_frame n frames) (filter_map (keyed number frames) ns) (λ key is. has n key parts.0 is)
    (all-keyed p q number frames has ns parts.1)

-- what each label of a tab has
all-labels : (p : Label → Bool) (q : ℕ → Bool) (number : ℕ) (frames : List PlainFrame)
    → ((frame : ℕ) (key : PlainKey) → q frame ≡ true → key_of_frame frame frames ≡ Some key → p (record { tab = number; frame = frame }) ≡ true)
    → (numbers : List ℕ) → list_all q numbers ≡ true → list_all p (labels (filter_map (keyed number frames) numbers)) ≡ true
all-labels p q number frames has numbers within =
    list_all-map p (λ d. d.0) (filter_map (keyed number frames) numbers) ∙ all-keyed (λ d. p d.0) q number frames has numbers within

-- what each document of a tab has
pub all-documents : (p : Label × PlainKey → Bool) (tab : PlainTab)
    → ((frame : ℕ) (key : PlainKey) → key_of_frame frame tab.frames ≡ Some key → p (record { tab = tab.number; frame = frame }, key) ≡ true)
    → list_all p (documents_in tab) ≡ true
all-documents p tab has =
    all-keyed p (λ n. true) tab.number tab.frames (λ frame key any is. has frame key is) frame_numbers (all_true frame_numbers)

-- ---- no label stands twice

none_of : (at : Label) (ls : List Label) (p : Label → Bool) → ((l : Label) → p l ≡ true → same_label at l ≡ false) → list_all p ls ≡ true
    → list_any (same_label at) ls ≡ false
none_of at [] p differ all = refl
none_of at (l ∷ ls) p differ all =
    let parts = and_parts (p l) (list_all p ls) all in
    ap (λ b. b || list_any (same_label at) ls) (differ l parts.0) ∙ none_of at ls p differ parts.1

other_frame : (tab frame : ℕ) (l : Label) → nat_lt frame l.frame ≡ true → same_label (record { tab = tab; frame = frame }) l ≡ false
other_frame tab frame l low =
    let differ : nat_eq frame l.frame ≡ false = grind (arith, nat_tests) in
    ap (λ b. nat_eq tab l.tab && b) differ ∙ and_false (nat_eq tab l.tab)
  where
    and_false : (b : Bool) → (b && false) ≡ false
    and_false true = refl
    and_false false = refl

other_tab : (at l : Label) → nat_lt at.tab l.tab ≡ true → same_label at l ≡ false
other_tab at l low =
    let differ : nat_eq at.tab l.tab ≡ false = grind (arith, nat_tests) in ap (λ b. b && nat_eq at.frame l.frame) differ

range_above : (a b n : ℕ) → a < b → list_all (λ k. nat_lt a k) (range_with_len b n) ≡ true
range_above a b zero low = refl
range_above a b (suc n) low =
    let first : nat_lt a b ≡ true = grind (arith, nat_tests) in
    and_from (nat_lt a b) (list_all (λ k. nat_lt a k) (range_with_len (b + 1) n)) first (range_above a (b + 1) n (omega arith))

distinct_step : (number frame : ℕ) (o : Option PlainKey) (rest : List (Label × PlainKey))
    → list_any (same_label (record { tab = number; frame = frame })) (labels rest) ≡ false → are_distinct (labels rest) ≡ true
    → are_distinct (labels (cons_option (option_map (λ key. (record { tab = number; frame = frame }, key)) o) rest)) ≡ true
distinct_step number frame None rest none distinct = distinct
distinct_step number frame (Some key) rest none distinct =
    ap (λ b. not b && are_distinct (labels rest)) none ∙ distinct

distinct_range : (number : ℕ) (frames : List PlainFrame) (a n : ℕ) → are_distinct (labels (filter_map (keyed number frames) (range_with_len a n))) ≡ true
distinct_range number frames a zero = refl
distinct_range number frames a (suc n) =
    let rest : List (Label × PlainKey) = filter_map (keyed number frames) (range_with_len (a + 1) n) in
    distinct_step number a (key_of_frame a frames) rest
    (none_of (record { tab = number; frame = a }) (labels rest) (λ l. nat_lt a l.frame) (λ l low. other_frame number a l low)
    (all-labels (λ l. nat_lt a l.frame) (λ k. nat_lt a k) number frames (λ frame key low is. low) (range_with_len (a + 1) n) (range_above a (a + 1) n (omega arith))))
    (distinct_range number frames (a + 1) n)

distinct_in : (tab : PlainTab) → are_distinct (labels (documents_in tab)) ≡ true
unfolding frame_numbers
distinct_in tab = distinct_range tab.number tab.frames 0 256

distinct-append : (xs ys : List Label) → are_distinct xs ≡ true → are_distinct ys ≡ true
    → list_all (λ x. not (list_any (same_label x) ys)) xs ≡ true → are_distinct (xs ++ ys) ≡ true
distinct-append [] ys distinct more apart = more
distinct-append (x ∷ xs) ys distinct more apart =
    let own = and_parts (not (list_any (same_label x) xs)) (are_distinct xs) distinct in
    let parts = and_parts (not (list_any (same_label x) ys)) (list_all (λ x. not (list_any (same_label x) ys)) xs) apart in
    and_from (not (list_any (same_label x) (xs ++ ys))) (are_distinct (xs ++ ys))
    (ap not (list_any-append (same_label x) xs ys) ∙ neither (list_any (same_label x) xs) (list_any (same_label x) ys) own.0 parts.0)
    (distinct-append xs ys own.1 more parts.1)
  where
    neither : (a b : Bool) → not a ≡ true → not b ≡ true → not (a || b) ≡ true
    neither true b isnt other = absurd (cc isnt)
    neither false b isnt other = other

-- ---- over all tabs

-- the tabs of labels are higher where those of the tabs are
higher_labels : (n : ℕ) (tabs : List PlainTab) → list_all (λ tab. nat_lt n tab.number) tabs ≡ true
    → list_all (λ l. nat_lt n l.tab) (labels (documents tabs)) ≡ true
higher_labels n [] high = refl
higher_labels n (tab ∷ tabs) high =
    let parts = and_parts (nat_lt n tab.number) (list_all (λ tab. nat_lt n tab.number) tabs) high in
    ap (list_all (λ l. nat_lt n l.tab)) (map-append (λ d. d.0) (documents_in tab) (documents tabs))
    ∙ list_all-append (λ l. nat_lt n l.tab) (labels (documents_in tab)) (labels (documents tabs))
    ∙ and_from (list_all (λ l. nat_lt n l.tab) (labels (documents_in tab))) (list_all (λ l. nat_lt n l.tab) (labels (documents tabs)))
    (all-labels (λ l. nat_lt n l.tab) (λ k. true) tab.number tab.frames (λ frame key any is. parts.0) frame_numbers (all_true frame_numbers))
    (higher_labels n tabs parts.1)

no_label : (x : Label) (tabs : List PlainTab) → list_all (λ tab. nat_lt x.tab tab.number) tabs ≡ true → not (list_any (same_label x) (labels (documents tabs))) ≡ true
no_label x tabs high =
    ap not (none_of x (labels (documents tabs)) (λ l. nat_lt x.tab l.tab) (λ l low. other_tab x l low) (higher_labels x.tab tabs high))

documents-once : (tabs : List PlainTab) → is_rising tabs ≡ true → are_distinct (labels (documents tabs)) ≡ true
documents-once [] rising = refl
documents-once (tab ∷ tabs) rising =
    let parts = and_parts (list_all (λ t. nat_lt tab.number t.number) tabs) (is_rising tabs) rising in
    ap are_distinct (map-append (λ d. d.0) (documents_in tab) (documents tabs))
    ∙ distinct-append (labels (documents_in tab)) (labels (documents tabs)) (distinct_in tab) (documents-once tabs parts.1)
    (all-labels (λ x. not (list_any (same_label x) (labels (documents tabs)))) (λ k. true) tab.number tab.frames
    (λ frame key any is. no_label (record { tab = tab.number; frame = frame }) tabs parts.0) frame_numbers (all_true frame_numbers))

-- a document of a later tab
later_by : (tab : PlainTab) (tabs : List PlainTab) (l : Label) → (nat_lt tab.number l.tab && has_document tabs l) ≡ true → has_document (tab ∷ tabs) l ≡ true
later_by tab tabs l both =
    let parts = and_parts (nat_lt tab.number l.tab) (has_document tabs l) both in
    let differ : tab.number == l.tab ≡ false = grind (arith, nat_tests) in
    ap (λ b. has_frame l.frame (frames_by (cond b (Some tab) (tab_at l.tab tabs)))) differ ∙ parts.1

all_both : (p q : Label → Bool) (ls : List Label) → list_all p ls ≡ true → list_all q ls ≡ true → list_all (λ l. p l && q l) ls ≡ true
all_both p q [] one other = refl
all_both p q (l ∷ ls) one other =
    let first = and_parts (p l) (list_all p ls) one in
    let second = and_parts (q l) (list_all q ls) other in
    and_from (p l && q l) (list_all (λ l. p l && q l) ls) (and_from (p l) (q l) first.0 second.0) (all_both p q ls first.1 second.1)

documents-there : (tabs : List PlainTab) → is_rising tabs ≡ true → list_all (has_document tabs) (labels (documents tabs)) ≡ true
documents-there [] rising = refl
documents-there (tab ∷ tabs) rising =
    let parts = and_parts (list_all (λ t. nat_lt tab.number t.number) tabs) (is_rising tabs) rising in
    ap (list_all (has_document (tab ∷ tabs))) (map-append (λ d. d.0) (documents_in tab) (documents tabs))
    ∙ list_all-append (has_document (tab ∷ tabs)) (labels (documents_in tab)) (labels (documents tabs))
    ∙ and_from (list_all (has_document (tab ∷ tabs)) (labels (documents_in tab))) (list_all (has_document (tab ∷ tabs)) (labels (documents tabs)))
    (all-labels (has_document (tab ∷ tabs)) (λ k. true) tab.number tab.frames
    (λ frame key any is. ap (λ b. has_frame frame (frames_by (cond b (Some tab) (tab_at tab.number tabs)))) (eq-eqb tab.number tab.number refl)
    ∙ frame-there frame tab.frames key is) frame_numbers (all_true frame_numbers))
    (all_weaker (λ l. nat_lt tab.number l.tab && has_document tabs l) (has_document (tab ∷ tabs)) (λ l both. later_by tab tabs l both) (labels (documents tabs))
    (all_both (λ l. nat_lt tab.number l.tab) (has_document tabs) (labels (documents tabs)) (higher_labels tab.number tabs parts.0) (documents-there tabs parts.1)))

-- ---- the list of the program

labels_same : (list : List (Label × StorageKey)) → labels (map plain_keyed list) ≡ map (λ d. d.0) list
labels_same [] = refl
labels_same (d ∷ ds) = ap (λ ls. d.0 ∷ ls) (labels_same ds)

pub listed-once : (tabs : List PlainTab) (list : List (Label × StorageKey)) → is_rising tabs ≡ true
    → map plain_keyed list ≡ documents tabs → are_distinct (map (λ d. d.0) list) ≡ true
listed-once tabs list rising is =
    ap are_distinct (sym (labels_same list) ∙ ap labels is) ∙ documents-once tabs rising

pub listed-there : (tabs : List PlainTab) (list : List (Label × StorageKey)) → is_rising tabs ≡ true
    → map plain_keyed list ≡ documents tabs → list_all (λ d. has_document tabs d.0) list ≡ true
listed-there tabs list rising is =
    sym (list_all-map (has_document tabs) (λ d. d.0) list)
    ∙ ap (list_all (has_document tabs)) (sym (labels_same list) ∙ ap labels is)
    ∙ documents-there tabs rising

-- labels of documents, of which some are left out
any_left : (q : Label → Bool) (p : Label × PlainKey → Bool) (ds : List (Label × PlainKey)) → list_any q (labels ds) ≡ false
    → list_any q (labels (filter p ds)) ≡ false
any_left q p [] none = refl
any_left q p (d ∷ ds) none = by (q d.0) (p d) refl none (any_left q p ds)
  where
    by : (b left : Bool) → q d.0 ≡ b → (b || list_any q (labels ds)) ≡ false
        → (list_any q (labels ds) ≡ false → list_any q (labels (filter p ds)) ≡ false)
        → list_any q (labels (cond left (d ∷ filter p ds) (filter p ds))) ≡ false
    by true left is none rest = absurd (cc none)
    by false true is none rest = ap (λ b. b || list_any q (labels (filter p ds))) is ∙ rest none
    by false false is none rest = rest none

distinct_left : (p : Label × PlainKey → Bool) (ds : List (Label × PlainKey)) → are_distinct (labels ds) ≡ true → are_distinct (labels (filter p ds)) ≡ true
distinct_left p [] distinct = refl
distinct_left p (d ∷ ds) distinct =
    let parts = and_parts (not (list_any (same_label d.0) (labels ds))) (are_distinct (labels ds)) distinct in
    by (p d) (ap not (any_left (same_label d.0) p ds (not_true (list_any (same_label d.0) (labels ds)) parts.0))) (distinct_left p ds parts.1)
  where
    by : (left : Bool) → not (list_any (same_label d.0) (labels (filter p ds))) ≡ true → are_distinct (labels (filter p ds)) ≡ true
        → are_distinct (labels (cond left (d ∷ filter p ds) (filter p ds))) ≡ true
    by true apart rest = and_from (not (list_any (same_label d.0) (labels (filter p ds)))) (are_distinct (labels (filter p ds))) apart rest
    by false apart rest = rest

-- some of the documents are distinct and there too
pub kept-once : (p : Label × PlainKey → Bool) (tabs : List PlainTab) → is_rising tabs ≡ true → are_distinct (labels (filter p (documents tabs))) ≡ true
kept-once p tabs rising = distinct_left p (documents tabs) (documents-once tabs rising)

pub kept-there : (p : Label × PlainKey → Bool) (tabs : List PlainTab) → is_rising tabs ≡ true
    → list_all (has_document tabs) (labels (filter p (documents tabs))) ≡ true
kept-there p tabs rising =
    list_all-map (has_document tabs) (λ d. d.0) (filter p (documents tabs))
    ∙ all_kept p (λ d. has_document tabs d.0) (documents tabs)
    (sym (list_all-map (has_document tabs) (λ d. d.0) (documents tabs)) ∙ documents-there tabs rising)
