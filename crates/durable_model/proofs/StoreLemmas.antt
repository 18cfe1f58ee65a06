-- What storing Set-Cookie texts changes of what both cells of a use keep.
use Rattle.std.proofs.Common.{◌≡◌, ℕ, pos, ◌+◌, ◌≤◌, Bool, true, false, cond, List, [], ◌∷◌, ◌++◌, length, Ok, Err, refl, sym, ap, subst, ◌∙◌}
use Rattle.std.specs.Prelude.{Result, bytes_eq}
use Rattle.unwinding.specs.FiniteCells.{get_cell, set_cell}
use Rattle.unwinding.specs.World.{is_in}
use Rattle.suffix_list.specs.Suffix.{Rule}
use Rattle.origin_site.proofs.SameLemmas.{same_plain_site-Decides}
use Rattle.setcookie_parse.specs.SetCookie.{CookieText, Parsed, Kept, Dropped, set_cookie_text}
use Rattle.stored_cookie.specs.StoredCookie.{PlainCookie}
use Rattle.partition_limits.specs.declared.tally.CellKind.{CellKind}
use Rattle.partition_limits.specs.declared.tally.CellKind.TheVariants as kind
use Rattle.cookie_jar.specs.declared.access.Destination.{Destination}
use Rattle.cookie_jar.specs.declared.access.Destination.TheVariants as to
use Rattle.cookie_jar.specs.declared.cause.CookieDrop.{CookieDrop}
use Rattle.cookie_jar.specs.Drops.{dropped}
use Rattle.cookie_jar.specs.Key.{OwnCell}
use Rattle.cookie_jar.specs.NewCookie.{made, renewed}
use Rattle.cookie_jar.specs.Persistent.{CookieRow, apply_rows, persistent_part, rows_of_steps}
use Rattle.cookie_jar.specs.Planned.{PlainPlan, plan_of, planned}
use Rattle.cookie_jar.specs.Steps.{steps}
use Rattle.cookie_jar.proofs.PlanLemmas.{planned_plan}
use Rattle.cookie_jar.proofs.PutLemmas.{small_pair}
use Rattle.cookie_jar.proofs.ValidLaws.{AreFitting, rows_fit, valid_rows}
use Rattle.row_changes.specs.Change.{PlainChange}
use Rattle.agent_model.specs.CookieCells.{Cookies, Domain, domain_order}
use Rattle.agent_model.specs.PartitionedCells.{PartitionedKey, partitioned_order}
use Rattle.agent_model.specs.CookieStore.{BothCells, StoredText, done_by, dropped_by, store_parsed, store_text, store_texts, stored_in}
use Rattle.agent_model.specs.CookieUse.{CookieUse, access_of, consulted_by, cookie_domain, key_of, own_cell, partition_cell, uses_own}
use Rattle.agent_model.proofs.PartitionedLemmas.{partitioned_order_total, partitioned_order_same}
use Rattle.durable_model.specs.Saved.{Saved, SiteRows}
use Rattle.durable_model.specs.RowEdits.{AreValid, after_changes}
use Rattle.durable_model.specs.Keeping.{rows_under}
use Rattle.durable_model.proofs.CellsLemmas.{set_known, set_twice, get_own}
use Rattle.durable_model.proofs.CellRowLemmas.{all_in, in_among, in_under, own_all, own_unseen, partition_all, puts_steps}
use Rattle.durable_model.proofs.EachValidLemmas.{cell_valid, cookies_left, rows_left, valid_append}
use Rattle.durable_model.proofs.ProjectLemmas.{cookies_here}
use Rattle.durable_model.proofs.StoredLemmas.{AreOnce, IsSmall, parsed_small, stays_once}
use Rattle.durable_model.proofs.RowLemmas.{AreAmong, AreUnder, among_append, bytes_itself, cookies_after, cookies_append, cookies_elsewhere, rows_after, rows_append, under_append}

module _ (rules : List Rule) (now : ℕ) (how : CookieUse) where
  abbrev domain : Domain
  domain = cookie_domain rules how

  abbrev key : PartitionedKey
  key = key_of rules how

  -- rows with these cookies in the partitioned cell
  abbrev pub with_kept : Cookies → SiteRows → SiteRows
  with_kept cookies rows = record rows { cookies = set_cell partitioned_order key cookies rows.cookies }

  -- row changes that lead from what both cells keep to what they keep afterwards
  pub record Stores (before after : BothCells) (changes : List PlainChange) : Type 0 where
    pub under : AreUnder how.top changes
    pub among : AreAmong (consulted_by rules how) changes
    pub valid : (d : Saved) → get_cell partitioned_order (rows_under how.top d.under).cookies key ≡ persistent_part before.partition
        → (uses_own how ≡ true → get_cell domain_order d.cells domain ≡ persistent_part before.own) → AreValid d changes
    pub own : uses_own how ≡ true → cookies_after domain changes (persistent_part before.own) ≡ persistent_part after.own
    pub partition : (rows : SiteRows) → get_cell partitioned_order rows.cookies key ≡ persistent_part before.partition
        → rows_after how.top changes rows ≡ with_kept (persistent_part after.partition) rows
    pub once : AreOnce after.own × AreOnce after.partition

  -- the same of a text that was stored
  abbrev TextStores : BothCells → StoredText → Type 0
  TextStores before one = Stores before one.both one.changes

  -- a use of its own cell consults its domain
  pub consults_own : uses_own how ≡ true → is_in bytes_eq domain (consulted_by rules how) ≡ true
  consults_own uses = ap (λ b. is_in bytes_eq domain (cond b (domain ∷ []) [])) uses ∙ ap (λ b. cond b true false) (bytes_itself domain)

  unchanged : (cookies : Cookies) (rows : SiteRows) → get_cell partitioned_order rows.cookies key ≡ cookies → rows ≡ with_kept cookies rows
  unchanged cookies rows is = ap (λ cells. record rows { cookies = cells }) (sym (set_known partitioned_order partitioned_order_total partitioned_order_same key cookies rows.cookies is))

  module _ (both : BothCells) (once : AreOnce both.own × AreOnce both.partition) where
    pub none_stores : Stores both both []
    none_stores = record { under = tt; among = tt; valid = λ d there own. tt; own = λ uses. refl; partition = λ rows is. unchanged (persistent_part both.partition) rows is; once = once }

    -- a text with a name and a value of few bytes
    module _ (text : CookieText) (small : length text.name + length text.value ≤ 4096) where
      -- the cookie of the text, as a cell has it afterwards
      abbrev new : Cookies → PlainCookie
      new cs = renewed (pos now) (made rules text (access_of how) (pos now)) cs

      abbrev planned_in : CellKind → Cookies → PlainPlan
      planned_in cell cs = plan_of cell (pos now) (made rules text (access_of how) (pos now)) cs

      -- a plan for the unpartitioned cell
      own_stores : uses_own how ≡ true → TextStores both (done_by (own_cell rules how) (λ cs. record both { own = cs }) both.own both (Ok (planned_in kind.Own both.own)))
      own_stores uses =
          record {
            under = in_under how.top (OwnCell domain) changed tt;
            among = in_among (consulted_by rules how) (OwnCell domain) changed (consults_own uses);
            valid = λ d there own.
                cell_valid (OwnCell domain) changed d (puts_steps (new both.own) (steps kind.Own (pos now) (new both.own) both.own))
                (subst (λ cookies. AreFitting kind.Own cookies changed) (sym (own uses))
                (rows_fit kind.Own (pos now) (new both.own) both.own (small_pair kind.Own (new both.own) small) once.0));
            own = λ is.
                own_all domain changed (persistent_part both.own) (puts_steps (new both.own) (steps kind.Own (pos now) (new both.own) both.own))
                ∙ valid_rows kind.Own (pos now) (new both.own) both.own (small_pair kind.Own (new both.own) small) once.0;
            partition = λ rows is. own_unseen how.top domain changed rows ∙ unchanged (persistent_part both.partition) rows is;
            once = (stays_once kind.Own (pos now) (new both.own) both.own once.0, once.1);
          }
        where
          changed : List CookieRow
          changed = rows_of_steps (new both.own) (steps kind.Own (pos now) (new both.own) both.own)

      -- a plan for the partitioned cell
      partition_stores : TextStores both (done_by (partition_cell rules how) (λ cs. record both { partition = cs }) both.partition both (Ok (planned_in kind.Partition both.partition)))
      partition_stores =
          record {
            under = in_under how.top (partition_cell rules how) changed refl;
            among = in_among (consulted_by rules how) (partition_cell rules how) changed tt;
            valid = λ d there own.
                cell_valid (partition_cell rules how) changed d (puts_steps (new both.partition) (steps kind.Partition (pos now) (new both.partition) both.partition))
                (subst (λ cookies. AreFitting kind.Partition cookies changed) (sym there ∙ cookies_here how.top d key ((same_plain_site-Decides how.top how.top).1 refl))
                (rows_fit kind.Partition (pos now) (new both.partition) both.partition (small_pair kind.Partition (new both.partition) small) once.1));
            own = λ uses. cookies_elsewhere [] domain (all_in (partition_cell rules how) changed) (persistent_part both.own) refl (in_among [] (partition_cell rules how) changed tt);
            partition = λ rows is.
                partition_all how.top how.context.bit domain changed rows (puts_steps (new both.partition) (steps kind.Partition (pos now) (new both.partition) both.partition))
                ∙ ap (λ found. with_kept (apply_rows kind.Partition found changed) rows) is
                ∙ ap (λ cookies. with_kept cookies rows)
                (valid_rows kind.Partition (pos now) (new both.partition) both.partition (small_pair kind.Partition (new both.partition) small) once.1);
            once = (once.0, stays_once kind.Partition (pos now) (new both.partition) both.partition once.1);
          }
        where
          changed : List CookieRow
          changed = rows_of_steps (new both.partition) (steps kind.Partition (pos now) (new both.partition) both.partition)

      -- wherever it goes, where it goes anywhere
      in_stores : (place : Destination) → (place ≡ to.Own → uses_own how ≡ true) → TextStores both (stored_in place rules now how text both)
      in_stores to.Own uses = by (planned rules text (access_of how) kind.Own (pos now) both.own) refl
        where
          by : (r : Result PlainPlan CookieDrop) → planned rules text (access_of how) kind.Own (pos now) both.own ≡ r
              → TextStores both (done_by (own_cell rules how) (λ cs. record both { own = cs }) both.own both r)
          by (Ok plan) is =
              subst (λ p. TextStores both (done_by (own_cell rules how) (λ cs. record both { own = cs }) both.own both (Ok p)))
              (planned_plan (planned_in kind.Own both.own) plan (dropped rules text (access_of how) (pos now) both.own) is) (own_stores (uses refl))
          by (Err cause) is = none_stores
      in_stores to.Partition uses = by (planned rules text (access_of how) kind.Partition (pos now) both.partition) refl
        where
          by : (r : Result PlainPlan CookieDrop) → planned rules text (access_of how) kind.Partition (pos now) both.partition ≡ r
              → TextStores both (done_by (partition_cell rules how) (λ cs. record both { partition = cs }) both.partition both r)
          by (Ok plan) is =
              subst (λ p. TextStores both (done_by (partition_cell rules how) (λ cs. record both { partition = cs }) both.partition both (Ok p)))
              (planned_plan (planned_in kind.Partition both.partition) plan (dropped rules text (access_of how) (pos now) both.partition) is) partition_stores
          by (Err cause) is = none_stores
      in_stores to.Nowhere uses = by (planned rules text (access_of how) kind.Own (pos now) [])
        where
          by : (r : Result PlainPlan CookieDrop) → TextStores both (dropped_by both r)
          by (Ok plan) = none_stores
          by (Err cause) = none_stores

      text_stores : TextStores both (store_parsed rules now how both (Kept text))
      text_stores = at text.partitioned (uses_own how) refl
        where
          at : (partitioned own : Bool) → uses_own how ≡ own → TextStores both (stored_in (cond partitioned to.Partition (cond own to.Own to.Nowhere)) rules now how text both)
          at true own is = in_stores to.Partition (λ other. cc)
          at false true is = in_stores to.Own (λ same. is)
          at false false is = in_stores to.Nowhere (λ other. cc)

    parsed_stores : (parsed : Parsed) → IsSmall parsed → TextStores both (store_parsed rules now how both parsed)
    parsed_stores (Kept text) small = text_stores text small
    parsed_stores (Dropped cause) small = none_stores

    pub one_stores : (text : List ℕ) → TextStores both (store_text rules now how both text)
    one_stores text = parsed_stores (set_cookie_text text (pos now)) (parsed_small text (pos now))

  -- one list of row changes behind another
  more_stores : (before between after : BothCells) (first more : List PlainChange) → Stores before between first → Stores between after more → Stores before after (first ++ more)
  more_stores before between after first more one two =
      record {
        under = under_append how.top first more one.under two.under;
        among = among_append (consulted_by rules how) first more one.among two.among;
        valid = λ d there own.
            valid_append d first more (one.valid d there own)
            (two.valid (after_changes d first)
            (ap (λ rows. get_cell partitioned_order rows.cookies key) (rows_left how.top first d ∙ one.partition (rows_under how.top d.under) there)
            ∙ get_own partitioned_order partitioned_order_total partitioned_order_same key (persistent_part between.partition) (rows_under how.top d.under).cookies)
            (λ uses. cookies_left domain first d ∙ ap (cookies_after domain first) (own uses) ∙ one.own uses));
        own = λ uses. cookies_append domain first more (persistent_part before.own) ∙ ap (cookies_after domain more) (one.own uses) ∙ two.own uses;
        partition = λ rows is.
            rows_append how.top first more rows ∙ ap (rows_after how.top more) (one.partition rows is)
            ∙ two.partition (with_kept (persistent_part between.partition) rows) (get_own partitioned_order partitioned_order_total partitioned_order_same key (persistent_part between.partition) rows.cookies)
            ∙ ap (λ cells. record rows { cookies = cells }) (set_twice partitioned_order partitioned_order_total partitioned_order_same key (persistent_part between.partition) (persistent_part after.partition) rows.cookies);
        once = two.once;
      }

  pub texts_store : (both : BothCells) → AreOnce both.own × AreOnce both.partition → (texts : List (List ℕ))
      → Stores both (store_texts rules now how both texts).both (store_texts rules now how both texts).changes
  texts_store both once [] = none_stores both once
  texts_store both once (text ∷ texts) =
      let one = one_stores both once text in
      let left = store_text rules now how both text in
      more_stores both left.both _ left.changes _ one (texts_store left.both one.once texts)
