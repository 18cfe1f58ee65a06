-- Row changes that lead from what was kept of a site and of the cells that it consults to what is
-- kept afterwards.
use Rattle.std.proofs.Common.{◌≡◌, ◌≤◌, true, List, [], ◌∷◌, Some, None, refl, sym, ap, subst, ◌∙◌}
use Rattle.std.specs.Prelude.{bytes_eq}
use Rattle.unwinding.specs.FiniteCells.{get_cell}
use Rattle.unwinding.specs.World.{is_in}
use Rattle.origin_site.specs.Site.{PlainSite}
use Rattle.origin_site.proofs.SameLemmas.{same_plain_site-Decides}
use Rattle.storage_key.specs.Context.{is_of}
use Rattle.stored_cookie.specs.StoredCookie.{PlainCookie}
use Rattle.cookie_jar.specs.Cookie.{copies}
use Rattle.cookie_jar.specs.Persistent.{persistent_part}
use Rattle.row_changes.specs.Change.{PlainChange}
use Rattle.reply_lines.specs.Reply.{PlainBody}
use Rattle.agent_model.specs.CookieCells.{Domain, domain_order}
use Rattle.agent_model.specs.PartitionedCells.{PartitionedCells, PartitionedKey, partitioned_order}
use Rattle.agent_model.specs.Partition.{Holdings}
use Rattle.agent_model.specs.Effects.{Done, SharedCells, answers, changes_to}
use Rattle.durable_model.specs.Saved.{Saved, SiteRows}
use Rattle.durable_model.specs.RowEdits.{AreValid, domain_of_change, edited, is_valid, top_of_change}
use Rattle.durable_model.specs.Keeping.{kept_cells, passes, rows_alone, rows_under}
use Rattle.durable_model.proofs.ProjectLemmas.{valid_here}
use Rattle.durable_model.proofs.RowLemmas.{AreAmong, AreUnder, IsAmong, IsUnder, cell_elsewhere, cookies_after, row_done, rows_after}

-- what is kept of what is held
abbrev pub rows_of : Holdings → SiteRows
rows_of held =
    record {
      areas = held.areas;
      persistent = held.persistent;
      cookies = kept_cells held.cookies;
      grants = held.grants;
    }

-- no cell has two cookies that are the same
pub record IsOnce (cells : SharedCells) (cookies : PartitionedCells) : Type 0 where
  pub own : (domain : Domain) (c : PlainCookie) → copies c (get_cell domain_order cells domain) ≤ 1
  pub partition : (key : PartitionedKey) (c : PlainCookie) → copies c (get_cell partitioned_order cookies key) ≤ 1

-- a durable state that has what was kept of a site and of these domains
abbrev pub HasKept : PlainSite → List Domain → SharedCells → SiteRows → Saved → Type 0
HasKept site names cells before d =
    (rows_under site d.under ≡ before) × ((domain : Domain) → is_in bytes_eq domain names ≡ true → get_cell domain_order d.cells domain ≡ persistent_part (get_cell domain_order cells domain))

-- What row changes of an event at a site lead to, where the event consults these domains: they are
-- under the site and of these domains alone, each is valid where it is done, and they make of what
-- was kept what is kept of what is left.
pub record Follows (site : PlainSite) (names : List Domain) (cells : SharedCells) (before : SiteRows) (changes : List PlainChange) (left : SharedCells) (held : Holdings) : Type 0 where
  pub under : AreUnder site changes
  pub among : AreAmong names changes
  pub valid : (d : Saved) → HasKept site names cells before d → AreValid d changes
  pub cell : (domain : Domain) → is_in bytes_eq domain names ≡ true → cookies_after domain changes (persistent_part (get_cell domain_order cells domain)) ≡ persistent_part (get_cell domain_order left domain)
  pub rows : rows_after site changes before ≡ rows_of held
  pub once : IsOnce left held.cookies

-- the same of what an action did
abbrev pub DoneFollows : PlainSite → List Domain → SharedCells → SiteRows → Done → Type 0
DoneFollows site names cells before done = Follows site names cells before done.changes done.cells done.held

module _ (site : PlainSite) (names : List Domain) (cells : SharedCells) where
  -- an answer alone
  pub stays : (held : Holdings) (body : PlainBody) → IsOnce cells held.cookies → DoneFollows site names cells (rows_of held) (answers body cells held)
  stays held body once = record { under = tt; among = tt; valid = λ d has. tt; cell = λ domain is. refl; rows = refl; once = once }

  pub is_here : is_of site (Some site) ≡ true
  is_here = (same_plain_site-Decides site site).1 refl

  -- one row change under the site, which is valid and done
  pub one_follows : (before : SiteRows) (change : PlainChange) (held : Holdings) (body : PlainBody)
      → domain_of_change change ≡ None → top_of_change change ≡ Some site → is_valid change (rows_alone before) ≡ true
      → (edited change (rows_alone before)).under ≡ rows_of held → IsOnce cells held.cookies
      → DoneFollows site names cells before (changes_to (change ∷ []) body cells held)
  one_follows before change held body apart top valid leads once =
      record {
        under = (at_top, tt);
        among = (at_none, tt);
        valid = λ d has. (valid_here site d change here ∙ ap (λ rows. is_valid change (rows_alone rows)) has.0 ∙ valid, tt);
        cell = λ domain is. cell_elsewhere domain change (persistent_part (get_cell domain_order cells domain)) (ap (passes (bytes_eq domain)) apart);
        rows = row_done site change before here valid ∙ leads;
        once = once;
      }
    where
      here : is_of site (top_of_change change) ≡ true
      here = ap (is_of site) top ∙ is_here

      at_top : IsUnder site (top_of_change change)
      at_top = subst (IsUnder site) (sym top) refl

      at_none : IsAmong names (domain_of_change change)
      at_none = subst (IsAmong names) (sym apart) tt
