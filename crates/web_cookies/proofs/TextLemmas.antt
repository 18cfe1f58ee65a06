-- Texts that are stored one after another.
use Rattle.std.proofs.Common.{◌≡◌, ◌⊎◌, inl, inr, ℕ, pos, sym, Some, None, Bool, true, false, ◌||◌, cond, List, [], ◌∷◌, ◌++◌, map, filter, refl, ap, ◌∙◌, append_assoc, append-nil}
use Rattle.std.specs.Prelude.{codes, Result, Ok, Err, IfOk, OnOk}
use Rattle.agent_base.specs.Answers.{Answers}
use Rattle.setcookie_parse.specs.SetCookie.{CookieText, Kept}
use Rattle.partition_limits.specs.declared.tally.CellKind.{CellKind}
use Rattle.partition_limits.specs.declared.tally.CellKind.TheVariants as kind
use Rattle.cookie_jar.specs.declared.access.Destination.{Destination}
use Rattle.cookie_jar.specs.declared.access.Destination.TheVariants as to
use Rattle.cookie_jar.specs.declared.cause.CookieDrop.{CookieDrop}
use Rattle.cookie_jar.specs.declared.cause.CookieDrop.TheVariants as why
use Rattle.cookie_jar.specs.Access.{PlainAccess, destination}
use Rattle.cookie_jar.specs.Key.{PlainKey as PlainCell}
use Rattle.cookie_jar.specs.Planned.{PlainPlan, planned}
use Rattle.cookie_jar.specs.Steps.{after_steps}
use Rattle.row_changes.specs.Change.{PlainChange}
use Rattle.agent_model.specs.CookieCells.{Cookies}
use Rattle.agent_model.specs.CookieWords.{stored_word}
use Rattle.web_cookies.specs.CellsOfUse.{own_key}
use Rattle.web_cookies.specs.Words.{IsStored, IsWordOf, IsWordOfDrop, jar_left, rows_by, word_by}
use Rattle.std.specs.List.{list_any}
use Rattle.case_tables.specs.Rows.{same_in_any_case}
use Rattle.suffix_list.specs.Suffix.{Rule}
use Rattle.script_actions.specs.Action.{HeadField}
use Rattle.agent_model.specs.CookieUse.{CookieUse, access_of, own_cell, partition_cell, uses_own}
use Rattle.agent_model.specs.CookieStore.{BothCells, cookie_texts, done_by, dropped_by, store_parsed, store_text, store_texts, stored_in}

-- a field has a Set-Cookie text
abbrev pub is_text : HeadField → Bool
is_text field = same_in_any_case field.name (codes "Set-Cookie")

pub texts-append : (xs ys : List HeadField) → cookie_texts (xs ++ ys) ≡ cookie_texts xs ++ cookie_texts ys
texts-append [] ys = refl
texts-append (x ∷ xs) ys = at (is_text x) (texts-append xs ys)
  where
    at : (b : Bool) → cookie_texts (xs ++ ys) ≡ cookie_texts xs ++ cookie_texts ys
        → map (λ f. f.value) (cond b (x ∷ filter is_text (xs ++ ys)) (filter is_text (xs ++ ys)))
        ≡ map (λ f. f.value) (cond b (x ∷ filter is_text xs) (filter is_text xs)) ++ cookie_texts ys
    at true is = ap (λ r. x.value ∷ r) is
    at false is = is

-- a head without such a field has no texts
pub no_texts : {A : Type 0} (plain : A → HeadField) (head : List A) → list_any (λ field. is_text (plain field)) head ≡ false → cookie_texts (map plain head) ≡ []
no_texts plain [] none = refl
no_texts plain (x ∷ xs) none = at (is_text (plain x)) none (no_texts plain xs)
  where
    at : (b : Bool) → (b || list_any (λ field. is_text (plain field)) xs) ≡ false
        → (list_any (λ field. is_text (plain field)) xs ≡ false → cookie_texts (map plain xs) ≡ [])
        → map (λ f. f.value) (cond b (plain x ∷ filter is_text (map plain xs)) (filter is_text (map plain xs))) ≡ []
    at true none rest = cc
    at false none rest = rest none

-- ---- one text

-- what a plan that was done leaves of a jar, and its word
pub left_by : (expected : Result PlainPlan CookieDrop) (plan : PlainPlan) (old new : Cookies) (word : List ℕ) → expected ≡ Ok plan
    → new ≡ after_steps plan.fresh old plan.steps → word ≡ stored_word plan.kind
    → (new ≡ jar_left old expected) × (word ≡ word_by expected)
left_by expected plan old new word is left told = (left ∙ ap (jar_left old) (sym is), told ∙ ap word_by (sym is))

-- what two clauses say of one value, the first whatever it is
pub both_hold : {T E P : Type 0} (r : Result T E) (Q R : T → Type 0) → (P → (x : T) → Q x → R x) → OnOk r P → IfOk r Q → IfOk r R
both_hold (Ok x) Q R f p q = f p x q
both_hold (Err e) Q R f p q = tt

-- a dropped cookie leaves the jar, has no row changes, and is told by its word
pub drop_left : (expected : Result PlainPlan CookieDrop) (cause : CookieDrop) (old : Cookies) (word : List ℕ)
    → (cause ≡ why.NoMemory) ⊎ (expected ≡ Err cause) → IsWordOfDrop cause word
    → (old ≡ jar_left old expected) × (word ≡ word_by expected)
drop_left expected cause old word (inl free) told = absurd (told.0 free)
drop_left expected cause old word (inr fault) told = (ap (jar_left old) (sym fault), told.1 ∙ ap word_by (sym fault))

pub drop_rows : {T E : Type 0} (r : Result T E) (text : T → List ℕ) (expected : Result PlainPlan CookieDrop) (cause : CookieDrop) (cell : PlainCell) (rows : List PlainChange)
    → (cause ≡ why.NoMemory) ⊎ (expected ≡ Err cause) → IfOk r (λ x. IsWordOfDrop cause (text x))
    → OnOk r (rows ≡ rows ++ rows_by cell expected)
drop_rows (Ok x) text expected cause cell rows (inl free) told = absurd (told.0 free)
drop_rows (Ok x) text expected cause cell rows (inr fault) told = sym (append-nil rows) ∙ ap (λ p. rows ++ rows_by cell p) (sym fault)
drop_rows (Err e) text expected cause cell rows answer told = tt

-- the word for what was planned
pub word_told : (expected planned : Result PlainPlan CookieDrop) (word : List ℕ) → Answers (λ p. p) why.NoMemory expected planned → IsWordOf planned word
    → word ≡ word_by expected
word_told expected (Ok plan) word answer told = told ∙ ap word_by (sym answer)
word_told expected (Err cause) word (inl free) told = absurd (told.0 free)
word_told expected (Err cause) word (inr fault) told = told.1 ∙ ap word_by (sym fault)

-- a cookie that goes to the unpartitioned cell is one of a use that has it
pub own_used : (text : CookieText) (how : CookieUse) (access : PlainAccess) → access ≡ access_of how → to.Own ≡ destination text access → uses_own how ≡ true
own_used text how access is goes = at text.partitioned (uses_own how) (goes ∙ ap (destination text) is)
  where
    at : (partitioned used : Bool) → to.Own ≡ cond partitioned to.Partition (cond used to.Own to.Nowhere) → used ≡ true
    at true used e = cc
    at false true e = refl
    at false false e = cc

-- the key of that cell
pub own_key_used : (rules : List Rule) (how : CookieUse) → uses_own how ≡ true → own_key rules how ≡ Some (own_cell rules how)
own_key_used rules how used = ap (λ b. cond b (Some (own_cell rules how)) None) used

module _ (rules : List Rule) (now : ℕ) (how : CookieUse) (text : CookieText) (both : BothCells) where
  -- a plan for a cell leaves what its jar is, and is answered by its word
  own_done : (plan : Result PlainPlan CookieDrop)
      → IsStored (done_by (own_cell rules how) (λ cs. record both { own = cs }) both.own both plan) (record both { own = jar_left both.own plan }) (word_by plan)
  own_done (Ok plan) = (refl, refl)
  own_done (Err cause) = (refl, refl)

  partition_done : (plan : Result PlainPlan CookieDrop)
      → IsStored (done_by (partition_cell rules how) (λ cs. record both { partition = cs }) both.partition both plan) (record both { partition = jar_left both.partition plan }) (word_by plan)
  partition_done (Ok plan) = (refl, refl)
  partition_done (Err cause) = (refl, refl)

  none_done : (plan : Result PlainPlan CookieDrop) → IsStored (dropped_by both plan) both (word_by plan)
  none_done (Ok plan) = (refl, refl)
  none_done (Err cause) = (refl, refl)

  -- a plan for a cell has these row changes
  own_changes : (plan : Result PlainPlan CookieDrop)
      → rows_by (own_cell rules how) plan ≡ (done_by (own_cell rules how) (λ cs. record both { own = cs }) both.own both plan).changes
  own_changes (Ok plan) = refl
  own_changes (Err cause) = refl

  partition_changes : (plan : Result PlainPlan CookieDrop)
      → rows_by (partition_cell rules how) plan ≡ (done_by (partition_cell rules how) (λ cs. record both { partition = cs }) both.partition both plan).changes
  partition_changes (Ok plan) = refl
  partition_changes (Err cause) = refl

  none_changes : (plan : Result PlainPlan CookieDrop) → (dropped_by both plan).changes ≡ []
  none_changes (Ok plan) = refl
  none_changes (Err cause) = refl

  abbrev plan_in : CellKind → PlainAccess → Cookies → Result PlainPlan CookieDrop
  plan_in kind access cs = planned rules text access kind (pos now) cs

  module _ (access : PlainAccess) (is : access ≡ access_of how) where
    goes : (to : Destination) → to ≡ destination text access
        → store_parsed rules now how both (Kept text) ≡ stored_in to rules now how text both
    goes to at = ap (λ a. stored_in (destination text a) rules now how text both) (sym is) ∙ ap (λ d. stored_in d rules now how text both) (sym at)

    pub kept_own : to.Own ≡ destination text access → (k : CellKind) → k ≡ kind.Own → (new : Cookies) (word : List ℕ)
        → (new ≡ jar_left both.own (plan_in k access both.own)) × (word ≡ word_by (plan_in k access both.own))
        → IsStored (store_parsed rules now how both (Kept text)) (record { own = new; partition = both.partition }) word
    kept_own at k own new word left =
        let stored = goes to.Own at in
        let done = own_done (plan_in kind.Own (access_of how) both.own) in
        let planned_so : plan_in kind.Own (access_of how) both.own ≡ plan_in k access both.own = λ i. plan_in (sym own i) (sym is i) both.own in (
          ap (λ s. s.both) stored ∙ done.0 ∙ ap (λ p. record both { own = jar_left both.own p }) planned_so ∙ ap (λ cs. record both { own = cs }) (sym left.0),
          ap (λ s. s.word) stored ∙ done.1 ∙ ap word_by planned_so ∙ sym left.1,
        )

    pub kept_partition : to.Partition ≡ destination text access → (k : CellKind) → k ≡ kind.Partition → (new : Cookies) (word : List ℕ)
        → (new ≡ jar_left both.partition (plan_in k access both.partition)) × (word ≡ word_by (plan_in k access both.partition))
        → IsStored (store_parsed rules now how both (Kept text)) (record { own = both.own; partition = new }) word
    kept_partition at k partition new word left =
        let stored = goes to.Partition at in
        let done = partition_done (plan_in kind.Partition (access_of how) both.partition) in
        let planned_so : plan_in kind.Partition (access_of how) both.partition ≡ plan_in k access both.partition = λ i. plan_in (sym partition i) (sym is i) both.partition in (
          ap (λ s. s.both) stored ∙ done.0 ∙ ap (λ p. record both { partition = jar_left both.partition p }) planned_so
              ∙ ap (λ cs. record both { partition = cs }) (sym left.0),
          ap (λ s. s.word) stored ∙ done.1 ∙ ap word_by planned_so ∙ sym left.1,
        )

    pub kept_nowhere : to.Nowhere ≡ destination text access → (k : CellKind) → k ≡ kind.Own → (cookies : Cookies) → cookies ≡ [] → (word : List ℕ)
        → word ≡ word_by (plan_in k access cookies)
        → IsStored (store_parsed rules now how both (Kept text)) both word
    kept_nowhere at k own cookies none word is_word =
        let stored = goes to.Nowhere at in
        let done = none_done (plan_in kind.Own (access_of how) []) in
        let planned_so : plan_in kind.Own (access_of how) [] ≡ plan_in k access cookies = λ i. plan_in (sym own i) (sym is i) (sym none i) in
        (ap (λ s. s.both) stored ∙ done.0, ap (λ s. s.word) stored ∙ done.1 ∙ ap word_by planned_so ∙ sym is_word)

    -- and what is stored in them has these row changes
    pub rows_own : to.Own ≡ destination text access → (k : CellKind) → k ≡ kind.Own → (cell : PlainCell) → cell ≡ own_cell rules how
        → rows_by cell (plan_in k access both.own) ≡ (store_parsed rules now how both (Kept text)).changes
    rows_own at k own cell is_cell =
        ap (λ c. rows_by c (plan_in k access both.own)) is_cell
        ∙ (λ i. rows_by (own_cell rules how) (plan_in (own i) (is i) both.own))
        ∙ own_changes (plan_in kind.Own (access_of how) both.own)
        ∙ ap (λ s. s.changes) (sym (goes to.Own at))

    pub rows_partition : to.Partition ≡ destination text access → (k : CellKind) → k ≡ kind.Partition → (cell : PlainCell) → cell ≡ partition_cell rules how
        → rows_by cell (plan_in k access both.partition) ≡ (store_parsed rules now how both (Kept text)).changes
    rows_partition at k partition cell is_cell =
        ap (λ c. rows_by c (plan_in k access both.partition)) is_cell
        ∙ (λ i. rows_by (partition_cell rules how) (plan_in (partition i) (is i) both.partition))
        ∙ partition_changes (plan_in kind.Partition (access_of how) both.partition)
        ∙ ap (λ s. s.changes) (sym (goes to.Partition at))

    pub rows_nowhere : to.Nowhere ≡ destination text access → (store_parsed rules now how both (Kept text)).changes ≡ []
    rows_nowhere at = ap (λ s. s.changes) (goes to.Nowhere at) ∙ none_changes (plan_in kind.Own (access_of how) [])

-- ---- several texts

module _ (rules : List Rule) (now : ℕ) (how : CookieUse) where
  pub both-append : (xs ys : List (List ℕ)) (both : BothCells)
      → (store_texts rules now how both (xs ++ ys)).both ≡ (store_texts rules now how (store_texts rules now how both xs).both ys).both
  both-append [] ys both = refl
  both-append (x ∷ xs) ys both = both-append xs ys (store_text rules now how both x).both

  pub words-append : (xs ys : List (List ℕ)) (both : BothCells)
      → (store_texts rules now how both (xs ++ ys)).words
      ≡ (store_texts rules now how both xs).words ++ (store_texts rules now how (store_texts rules now how both xs).both ys).words
  words-append [] ys both = refl
  words-append (x ∷ xs) ys both = ap (λ r. (store_text rules now how both x).word ∷ r) (words-append xs ys (store_text rules now how both x).both)

  -- a field more
  pub texts_step : (fields : List HeadField) (field : HeadField) (old mid new : BothCells) (words more : List (List ℕ))
      → (store_texts rules now how old (cookie_texts fields)).both ≡ mid
      → words ≡ (store_texts rules now how old (cookie_texts fields)).words
      → (store_texts rules now how mid (cookie_texts (field ∷ []))).both ≡ new
      → more ≡ words ++ (store_texts rules now how mid (cookie_texts (field ∷ []))).words
      → ((store_texts rules now how old (cookie_texts (fields ++ field ∷ []))).both ≡ new)
      × (more ≡ (store_texts rules now how old (cookie_texts (fields ++ field ∷ []))).words)
  texts_step fields field old mid new words more is_mid is_words is_new is_more =
      let many = cookie_texts fields in
      let one = cookie_texts (field ∷ []) in (
        ap (λ ts. (store_texts rules now how old ts).both) (texts-append fields (field ∷ []))
            ∙ both-append many one old ∙ ap (λ b. (store_texts rules now how b one).both) is_mid ∙ is_new,
        is_more
            ∙ ap (λ w. w ++ (store_texts rules now how mid one).words) is_words
            ∙ ap (λ b. (store_texts rules now how old many).words ++ (store_texts rules now how b one).words) (sym is_mid)
            ∙ sym (words-append many one old)
            ∙ ap (λ ts. (store_texts rules now how old ts).words) (sym (texts-append fields (field ∷ []))),
      )

  pub changes-append : (xs ys : List (List ℕ)) (both : BothCells)
      → (store_texts rules now how both (xs ++ ys)).changes
      ≡ (store_texts rules now how both xs).changes ++ (store_texts rules now how (store_texts rules now how both xs).both ys).changes
  changes-append [] ys both = refl
  changes-append (x ∷ xs) ys both =
      let one = store_text rules now how both x in
      ap (λ r. one.changes ++ r) (changes-append xs ys one.both)
      ∙ sym (append_assoc one.changes (store_texts rules now how one.both xs).changes
      (store_texts rules now how (store_texts rules now how one.both xs).both ys).changes)

  -- a field more, and its row changes
  pub changes_step : (fields : List HeadField) (field : HeadField) (old mid : BothCells) (first rows more : List PlainChange)
      → (store_texts rules now how old (cookie_texts fields)).both ≡ mid
      → rows ≡ first ++ (store_texts rules now how old (cookie_texts fields)).changes
      → more ≡ rows ++ (store_texts rules now how mid (cookie_texts (field ∷ []))).changes
      → more ≡ first ++ (store_texts rules now how old (cookie_texts (fields ++ field ∷ []))).changes
  changes_step fields field old mid first rows more is_mid are_rows is_more =
      let many = cookie_texts fields in
      let one = cookie_texts (field ∷ []) in
      is_more
      ∙ ap (λ r. r ++ (store_texts rules now how mid one).changes) are_rows
      ∙ ap (λ b. (first ++ (store_texts rules now how old many).changes) ++ (store_texts rules now how b one).changes) (sym is_mid)
      ∙ append_assoc first (store_texts rules now how old many).changes (store_texts rules now how (store_texts rules now how old many).both one).changes
      ∙ ap (λ r. first ++ r) (sym (changes-append many one old))
      ∙ ap (λ ts. first ++ (store_texts rules now how old ts).changes) (sym (texts-append fields (field ∷ [])))
