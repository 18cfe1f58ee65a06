-- Row changes that have a spelling where their texts are texts: those of the steps of a store.
use Rattle.std.proofs.Common.{◌≡◌, ℤ, ℕ, ◌<◌, Bool, true, false, List, [], ◌∷◌, map, Option, Some, None, refl}
use Rattle.std.specs.Prelude.{FitsSigned, is_some, ◌&&◌}
use Rattle.std.specs.Int.{w64}
use Rattle.std.specs.List.{All}
use Rattle.std.proofs.lemmas.List.Elements.{All-append, All-cons, All-head, All-map, All-nil, All-tail}
use Rattle.std.proofs.lemmas.Bool.{and_from, both_ways}
use Rattle.suffix_list.specs.Suffix.{Rule}
use Rattle.stored_cookie.specs.StoredCookie.{PlainCookie}
use Rattle.cookie_jar.specs.declared.step.JarStep.{JarStep}
use Rattle.cookie_jar.specs.declared.step.JarStep.TheVariants.{Insert, Replace, Remove}
use Rattle.cookie_jar.specs.Key.{PlainKey as PlainCell, OwnCell, PartitionCell}
use Rattle.cookie_jar.specs.Stays.{cookie_stays, domain_of_cell, name_stays}
use Rattle.cookie_jar.specs.Lifetime.{is_persistent}
use Rattle.cookie_jar.specs.Persistent.{CookieRow, RowInsert, RowReplace, RowRemove, insert_row, kept_cookie, remove_row, replace_row, rows_of_step, rows_of_steps}
use Rattle.row_changes.specs.Appended.{HasCellTexts, HasCookieTexts, HasTexts}
use Rattle.row_changes.specs.Change.{PlainChange}
use Rattle.row_changes.specs.Spelled.{HasSpelledFields, IsNamed, IsPlaced, IsSpelledUnder, suits}
use Rattle.agent_model.specs.CookieStore.{in_cell}
use Rattle.spelled_model.proofs.CellLemmas.{IsLow, IsTimed}
use Rattle.spelled_model.proofs.NameLemmas.{IsNamedDomain, IsNamedSite}

-- a row change has a spelling under the list where its texts are texts
abbrev pub Spells : List Rule → PlainChange → Type 0
Spells rules change = HasTexts change → IsSpelledUnder rules change

-- what of a cell's spelling is not about texts
abbrev pub IsNamedCell : List Rule → PlainCell → Type 0
IsNamedCell rules (OwnCell domain) = IsNamedDomain rules domain
IsNamedCell rules (PartitionCell top bit domain) = IsNamedSite rules top × IsNamedDomain rules domain

cell_spelled : (rules : List Rule) (cell : PlainCell) → IsNamedCell rules cell → HasCellTexts cell → IsNamed cell
cell_spelled rules (OwnCell domain) named texts = (texts, named.0)
cell_spelled rules (PartitionCell top bit domain) named texts = ((texts.0, named.0.0), texts.1, named.1.0)

cell_named : (rules : List Rule) (cell : PlainCell) → IsNamedCell rules cell → name_stays rules cell ≡ true
cell_named rules (OwnCell domain) named = named.1
cell_named rules (PartitionCell top bit domain) named = and_from _ _ named.0.1 named.1.1

module _ (rules : List Rule) (cell : PlainCell) (named : IsNamedCell rules cell) (fresh : PlainCookie) (timed : IsTimed fresh)
    (ends : (end : ℤ) → fresh.expiry ≡ Some end → FitsSigned w64 end) (fits : suits cell fresh ≡ true) (own : cookie_stays rules (domain_of_cell cell) fresh ≡ true) where
  kept_spelled : is_persistent fresh ≡ true → HasCookieTexts (kept_cookie fresh) → HasSpelledFields (kept_cookie fresh)
  kept_spelled lasts texts = by fresh.expiry refl lasts
    where
      by : (expiry : Option ℤ) → fresh.expiry ≡ expiry → is_some expiry ≡ true → HasSpelledFields (kept_cookie fresh)
      by None is lasts = absurd (both_ways false refl lasts)
      by (Some end) is lasts =
          record { name = texts.0; value = texts.1; domain = texts.2; path = texts.3; creation = timed; end = end; expiry = is; fits = ends end is; last = refl }

  placed_spelled : (place : ℕ) → place < 256 → is_persistent fresh ≡ true → HasCellTexts cell × HasCookieTexts (kept_cookie fresh) → IsPlaced cell place (kept_cookie fresh)
  placed_spelled place low lasts texts = (cell_spelled rules cell named texts.0, low, kept_spelled lasts texts.1, fits)

  placed_stays : (name_stays rules cell && cookie_stays rules (domain_of_cell cell) (kept_cookie fresh)) ≡ true
  placed_stays = and_from _ _ (cell_named rules cell named) own

  -- a change of the cell has a spelling
  abbrev RowSpells : CookieRow → Type 0
  RowSpells row = Spells rules (in_cell cell row)

  removed_spells : (r : ℕ) → r < 256 → All RowSpells (RowRemove r ∷ [])
  removed_spells r low = All-cons RowSpells (RowRemove r) [] (λ texts. ((cell_spelled rules cell named texts, low), cell_named rules cell named)) (All-nil RowSpells)

  inserted_spells : (r : ℕ) → r < 256 → is_persistent fresh ≡ true → All RowSpells (RowInsert r (kept_cookie fresh) ∷ [])
  inserted_spells r low lasts = All-cons RowSpells (RowInsert r (kept_cookie fresh)) [] (λ texts. (placed_spelled r low lasts texts, placed_stays)) (All-nil RowSpells)

  step_spells : (s : JarStep) → IsLow s → All RowSpells (rows_of_step fresh s)
  step_spells (Insert place r) low = by (is_persistent fresh) refl
    where
      by : (b : Bool) → is_persistent fresh ≡ b → All RowSpells (insert_row b r fresh)
      by true lasts = inserted_spells r low lasts
      by false lasts = All-nil RowSpells
  step_spells (Replace place r was) low = by (is_persistent fresh) was refl
    where
      by : (b was : Bool) → is_persistent fresh ≡ b → All RowSpells (replace_row b was r fresh)
      by true true lasts = All-cons RowSpells (RowReplace r (kept_cookie fresh)) [] (λ texts. (placed_spelled r low lasts texts, placed_stays)) (All-nil RowSpells)
      by true false lasts = inserted_spells r low lasts
      by false true lasts = removed_spells r low
      by false false lasts = All-nil RowSpells
  step_spells (Remove place r was) low = by was
    where
      by : (was : Bool) → All RowSpells (remove_row was r)
      by true = removed_spells r low
      by false = All-nil RowSpells

  rows_spell : (ss : List JarStep) → All IsLow ss → All RowSpells (rows_of_steps fresh ss)
  rows_spell [] low = All-nil RowSpells
  rows_spell (s ∷ ss) low = All-append RowSpells (rows_of_step fresh s) (rows_of_steps fresh ss) (step_spells s (All-head IsLow s ss low)) (rows_spell ss (All-tail IsLow s ss low))

  -- the row changes of steps with low ranks have a spelling
  pub steps_spell : (ss : List JarStep) → All IsLow ss → All (Spells rules) (map (in_cell cell) (rows_of_steps fresh ss))
  steps_spell ss low = All-map (Spells rules) (in_cell cell) (rows_of_steps fresh ss) (rows_spell ss low)
