-- What a row change makes of all unpartitioned cells is what it makes of each.
use Rattle.std.proofs.Common.{◌≡◌, Bool, true, false, cond, refl, sym, ap, subst, ◌∙◌}
use Rattle.std.specs.Prelude.{bytes_eq}
use Rattle.std.proofs.lemmas.Slice.Eq.{bytes_eq-Decides}
use Rattle.unwinding.specs.FiniteCells.{get_cell}
use Rattle.partition_limits.specs.declared.tally.CellKind.TheVariants as kind
use Rattle.cookie_jar.specs.Key.{PlainKey as PlainCell, OwnCell, PartitionCell}
use Rattle.cookie_jar.specs.Persistent.{CookieRow, RowInsert, RowReplace, RowRemove}
use Rattle.row_changes.specs.Change.{PlainChange, AreaPut, AreaRemove, AreaClear, SetMode, CookieInsert, CookieReplace, CookieRemove, Grant}
use Rattle.agent_model.specs.CookieCells.{CookieCells, Cookies, Domain, domain_order}
use Rattle.agent_model.specs.CookieStore.{in_cell}
use Rattle.agent_model.proofs.CookieCellsLemmas.{domain_order_total, domain_order_same}
use Rattle.durable_model.specs.RowEdits.{after_change, domain_of_change}
use Rattle.durable_model.specs.Keeping.{cell_changed, cells_alone, cells_changed, passes}
use Rattle.durable_model.proofs.CellsLemmas.{get_own}
use Rattle.durable_model.proofs.RowLemmas.{cell_elsewhere, leaves_cell}
use Rattle.durable_model.proofs.CellRowLemmas.{domain_in, made_in, own_alone, own_made}

module _ (test : Domain → Bool) (cells : CookieCells) where
  -- a cell after a row change of all, and of itself
  abbrev IsChanged : PlainChange → Domain → Type 0
  IsChanged change c =
      get_cell domain_order (cells_changed test change cells) c
      ≡ cond (test c) (cell_changed c change (get_cell domain_order cells c)) (get_cell domain_order cells c)

  -- a row change of no cell, or of another one
  of_other : (change : PlainChange) (c : Domain) → passes (bytes_eq c) (domain_of_change change) ≡ false → IsChanged change c
  of_other change c apart = all (passes test (domain_of_change change)) ∙ sym (one (test c))
    where
      there : Cookies
      there = get_cell domain_order cells c

      all : (b : Bool) → get_cell domain_order (cond b (after_change (cells_alone cells) change).cells cells) c ≡ there
      all true = leaves_cell c change there (cells_alone cells) apart refl
      all false = refl

      one : (b : Bool) → cond b (cell_changed c change there) there ≡ there
      one true = cell_elsewhere c change there apart
      one false = refl

  -- one of this cell
  of_own : (row : CookieRow) (c : Domain) → IsChanged (in_cell (OwnCell c) row) c
  of_own row c =
      ap (λ of. get_cell domain_order (cond (passes test of) (after_change (cells_alone cells) change).cells cells) c) (domain_in (OwnCell c) row) ∙ at (test c)
    where
      change : PlainChange
      change = in_cell (OwnCell c) row

      there : Cookies
      there = get_cell domain_order cells c

      at : (b : Bool) → get_cell domain_order (cond b (after_change (cells_alone cells) change).cells cells) c ≡ cond b (cell_changed c change there) there
      at true =
          ap (λ d. get_cell domain_order d.cells c) (own_made c row (cells_alone cells))
          ∙ get_own domain_order domain_order_total domain_order_same c (made_in kind.Own row there) cells
          ∙ sym (own_alone c row there)
      at false = refl

  of_cell : (cell : PlainCell) (row : CookieRow) (c : Domain) → IsChanged (in_cell cell row) c
  of_cell (PartitionCell top bit domain) row c = of_other (in_cell (PartitionCell top bit domain) row) c (ap (passes (bytes_eq c)) (domain_in (PartitionCell top bit domain) row))
  of_cell (OwnCell domain) row c = at (bytes_eq c domain) refl
    where
      at : (b : Bool) → bytes_eq c domain ≡ b → IsChanged (in_cell (OwnCell domain) row) c
      at true tie = subst (λ d. IsChanged (in_cell (OwnCell d) row) c) ((bytes_eq-Decides c domain).0 tie) (of_own row c)
      at false tie = of_other (in_cell (OwnCell domain) row) c (ap (passes (bytes_eq c)) (domain_in (OwnCell domain) row) ∙ tie)

  pub get_changed : (change : PlainChange) (c : Domain) → IsChanged change c
  get_changed (AreaPut key name value) c = of_other (AreaPut key name value) c refl
  get_changed (AreaRemove key name) c = of_other (AreaRemove key name) c refl
  get_changed (AreaClear key) c = of_other (AreaClear key) c refl
  get_changed (SetMode key) c = of_other (SetMode key) c refl
  get_changed (CookieInsert cell place cookie) c = of_cell cell (RowInsert place cookie) c
  get_changed (CookieReplace cell place cookie) c = of_cell cell (RowReplace place cookie) c
  get_changed (CookieRemove cell place) c = of_cell cell (RowRemove place) c
  get_changed (Grant row) c = of_other (Grant row) c refl
