-- What is stored in the place of the same cookie.
use Rattle.std.proofs.Common.{◌≡◌, ℕ, ℤ, pos, true, cond, List, [], ◌∷◌, map, Some, None, refl, sym, ap, subst, ◌∙◌, append-nil}
use Rattle.std.specs.Prelude.{IfSome, Ok, option_map, slice_set}
use Rattle.std.proofs.lemmas.Option.{some_pair_parts}
use Rattle.suffix_list.specs.Suffix.{Rule}
use Rattle.setcookie_parse.specs.SetCookie.{CookieText, Kept}
use Rattle.partition_limits.specs.declared.tally.CellKind.{CellKind}
use Rattle.partition_limits.specs.declared.tally.CellKind.TheVariants as kind
use Rattle.cookie_jar.specs.declared.access.Destination.TheVariants as to
use Rattle.cookie_jar.specs.declared.step.JarStep.{JarStep}
use Rattle.cookie_jar.specs.declared.step.JarStep.TheVariants.{Insert, Replace, Remove}
use Rattle.cookie_jar.specs.Access.{PlainAccess, destination}
use Rattle.cookie_jar.specs.Cookie.{PlainCookie}
use Rattle.cookie_jar.specs.Key.{PlainKey}
use Rattle.cookie_jar.specs.Persistent.{RowReplace, apply_row, row_fits, rows_of_steps}
use Rattle.cookie_jar.specs.Planned.{PlainPlan, place_replaced, planned, replacement_of}
use Rattle.cookie_jar.specs.Sending.{marked}
use Rattle.cookie_jar.specs.Steps.{after_steps}
use Rattle.agent_model.specs.CookieCells.{Cookies}
use Rattle.agent_model.specs.CookieUse.{CookieUse, access_of, own_cell, partition_cell}
use Rattle.agent_model.specs.CookieStore.{BothCells, in_cell, store_parsed, store_text, store_texts}
use Rattle.agent_model.specs.CookieWords.{stored_word}
use Rattle.web_cookies.specs.declared.in_place.InPlace.{InPlace}
use Rattle.web_cookies.specs.declared.in_place.Replaced.{Replaced}
use Rattle.web_cookies.specs.Becoming.{replaced_in}
use Rattle.web_cookies.specs.Cells.{cookies_at, kind_of}
use Rattle.web_cookies.specs.CellsOfUse.{cookies_if, found, partition_key}
use Rattle.web_cookies.specs.InPlace.{AreInPlace, IsInPlace, IsReplaced, both_used}
use Rattle.web_cookies.specs.Stored.{Entries}
use Rattle.web_cookies.specs.Words.{jar_left, rows_by, word_by}
use Rattle.web_cookies.proofs.TextLemmas.{kept_own, kept_partition, own_key_used, own_used, rows_own, rows_partition}

-- a cookie that is put where a plan replaces one leaves what the plan leaves
put_left : (kind : CellKind) (plan : PlainPlan) (cookies : Cookies) (place : ℕ) (cookie : PlainCookie) → replacement_of plan ≡ Some (place, cookie)
    → row_fits kind cookies (RowReplace place cookie) ≡ true → apply_row kind cookies (RowReplace place cookie) ≡ after_steps plan.fresh cookies plan.steps
put_left kind plan cookies place cookie is fits = ap (λ b. cond b (slice_set cookies place cookie) cookies) fits ∙ at plan.steps is
  where
    at : (ss : List JarStep) → option_map {U = ℕ × PlainCookie} (λ p. (p, plan.fresh)) (place_replaced ss) ≡ Some (place, cookie) → slice_set cookies place cookie ≡ after_steps plan.fresh cookies ss
    at [] is = cc
    at (Insert p r ∷ ss) is = cc
    at (Remove p r was ∷ ss) is = cc
    at (Replace p r was ∷ s ∷ ss) is = cc
    at (Replace p r was ∷ []) is = let parts = some_pair_parts p place plan.fresh cookie is in λ i. slice_set cookies (sym parts.0 i) (sym parts.1 i)

-- a plan that replaces a cookie, by what is told of it
pub plan_replaces : (rules : List Rule) (now : ℤ) (text : CookieText) (access : PlainAccess) (kind : CellKind) (old : Cookies) (cell : PlainKey) (plan : PlainPlan) (place : ℕ) (cookie : PlainCookie)
    → replacement_of plan ≡ Some (place, cookie)
    → IfSome (replacement_of plan) (λ r. (places : List ℕ) (used : ℤ) → (planned rules text access kind now (marked places used old) ≡ Ok plan) × (row_fits kind (marked places used old) (RowReplace r.0 r.1) ≡ true))
    → (places : List ℕ) (at : ℤ) → let cookies = marked places at old in let expected = planned rules text access kind now cookies in
    (apply_row kind cookies (RowReplace place cookie) ≡ jar_left cookies expected) × (stored_word plan.kind ≡ word_by expected)
    × (map (in_cell cell) (rows_of_steps plan.fresh plan.steps) ≡ rows_by cell expected)
plan_replaces rules now text access kind old cell plan place cookie is stays places at =
    let cookies = marked places at old in
    let stay = subst (λ o. IfSome o (λ r. (places : List ℕ) (used : ℤ) → (planned rules text access kind now (marked places used old) ≡ Ok plan) × (row_fits kind (marked places used old) (RowReplace r.0 r.1) ≡ true))) is stays places at in
    (put_left kind plan cookies place cookie is stay.1 ∙ ap (jar_left cookies) (sym stay.0), ap word_by (sym stay.0), ap (rows_by cell) (sym stay.0))

module _ (rules : List Rule) (now : ℕ) (how : CookieUse) (text : CookieText) (access : PlainAccess) (is : access ≡ access_of how) (entries : Entries) (stored : Replaced) where
  abbrev IsStoredAt : PlainKey → Type 0
  IsStoredAt cell = IsReplaced rules (pos now) text access (kind_of cell) (cookies_at cell entries) cell stored

  -- the cookie is put in the unpartitioned cell
  pub own_in_place : to.Own ≡ destination text access → (cell : PlainKey) → cell ≡ own_cell rules how → IsStoredAt cell
      → IsInPlace (λ both. store_parsed rules now how both (Kept text)) (found rules how entries) (record { own = Some stored.new; partition = None; rows = stored.rows }) stored.word.now
  own_in_place at cell here replaces own partition used =
      let there : (found rules how entries).own ≡ cookies_at (own_cell rules how) entries = ap (λ key. cookies_if key entries) (own_key_used rules how (own_used text how access is at)) in
      let both = both_used own partition used (found rules how entries) in
      let done = subst (λ cs. IsReplaced rules (pos now) text access kind.Own cs (own_cell rules how) stored) (sym there) (subst IsStoredAt here replaces) own used in (
        kept_own rules now how text both access is at kind.Own refl (replaced_in kind.Own (Some stored.new) both.own) stored.word.now (done.0, done.1),
        done.2 ∙ rows_own rules now how text both access is at kind.Own refl (own_cell rules how) refl,
      )

  -- or in the partitioned one
  pub partition_in_place : to.Partition ≡ destination text access → (cell : PlainKey) → cell ≡ partition_key rules how → IsStoredAt cell
      → IsInPlace (λ both. store_parsed rules now how both (Kept text)) (found rules how entries) (record { own = None; partition = Some stored.new; rows = stored.rows }) stored.word.now
  partition_in_place at cell here replaces own partition used =
      let both = both_used own partition used (found rules how entries) in
      let done = subst IsStoredAt here replaces partition used in (
        kept_partition rules now how text both access is at kind.Partition refl (replaced_in kind.Partition (Some stored.new) both.partition) stored.word.now (done.0, done.1),
        done.2 ∙ rows_partition rules now how text both access is at kind.Partition refl (partition_cell rules how) refl,
      )

-- one text of several
pub one_in_place : (rules : List Rule) (now : ℕ) (how : CookieUse) (both : BothCells) (stored : InPlace) (text word : List ℕ)
    → IsInPlace (λ both. store_text rules now how both text) both stored word → AreInPlace (λ both. store_texts rules now how both (text ∷ [])) both stored (word ∷ [])
one_in_place rules now how both stored text word is own partition used =
    let done = is own partition used in
    ((done.0.0, ap (λ w. w ∷ []) done.0.1), done.1 ∙ sym (append-nil (store_text rules now how (both_used own partition used both) text).changes))
