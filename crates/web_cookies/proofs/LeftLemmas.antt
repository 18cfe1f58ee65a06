-- What the cells are, once both cells of a use were left different.
use Rattle.std.proofs.Common.{◌≡◌, Bool, true, false, cond, [], Option, Some, None, refl, sym, ap, ◌∙◌}
use Rattle.std.specs.Ordering.{eq_by_cmp}
use Rattle.unwinding.specs.FiniteCells.{get_cell, set_cell}
use Rattle.unwinding.proofs.FiniteCellsLemmas as cells
use Rattle.suffix_list.specs.Suffix.{Rule}
use Rattle.cookie_jar.specs.Key.{PlainKey, OwnCell}
use Rattle.reply_lines.specs.Reply.{PlainBody}
use Rattle.std.specs.Prelude.{List}
use Rattle.agent_model.specs.CookieCells.{Domain, domain_order}
use Rattle.agent_model.specs.PartitionedCells.{PartitionedKey, partitioned_order}
use Rattle.agent_model.specs.Partition.{Holdings}
use Rattle.agent_model.specs.Effects.{Effect}
use Rattle.agent_model.specs.CookieUse.{CookieUse, cookie_domain, key_of, uses_own}
use Rattle.agent_model.specs.CookieStore.{BothCells}
use Rattle.row_changes.specs.Change.{PlainChange}
use Rattle.agent_model.specs.Cookies.{both_found, leaves, own_left}
use Rattle.agent_model.proofs.CookieCellsLemmas.{domain_order_total, domain_order_same, same_cells}
use Rattle.agent_model.proofs.PartitionedLemmas.{partitioned_order_total, partitioned_order_same}
use Rattle.web_cookies.specs.Stored.{Entries, IsDoneBy, held_with, shared_in, partitioned_in}
use Rattle.web_cookies.specs.Cells.{cell_key, cookies_at}
use Rattle.web_cookies.specs.CellsOfUse.{HoldSame, cookies_if, found, is_key, left_at, own_key, partition_key}
use Rattle.web_cookies.proofs.CellLemmas.{shared_at, partitioned_at}

-- ---- the same cookies

-- keys that have the same cookies stand for the same cells
pub shared_same : (old new : Entries) → HoldSame old new → shared_in new ≡ shared_in old
shared_same old new same = same_cells _ _ (λ d. shared_at d new ∙ same (OwnCell d) ∙ sym (shared_at d old))

pub partitioned_same : (old new : Entries) → HoldSame old new → partitioned_in new ≡ partitioned_in old
partitioned_same old new same =
    cells.same_cells partitioned_order partitioned_order_total partitioned_order_same _ _
    (λ k. partitioned_at k new ∙ same (cell_key k) ∙ sym (partitioned_at k old))

module _ (rules : List Rule) (how : CookieUse) where
  own_same : (old new : Entries) → HoldSame old new → cookies_if (own_key rules how) new ≡ cookies_if (own_key rules how) old
  own_same old new same = at (own_key rules how)
    where
      at : (key : Option PlainKey) → cookies_if key new ≡ cookies_if key old
      at None = refl
      at (Some key) = same key

  -- a use finds the same among them
  pub found_same : (old new : Entries) → HoldSame old new → found rules how new ≡ found rules how old
  found_same old new same = λ i. record { own = own_same old new same i; partition = same (partition_key rules how) i }

  -- ---- what a use finds

  own_is : (entries : Entries)
      → cond (uses_own how) (get_cell domain_order (shared_in entries) (cookie_domain rules how)) [] ≡ cookies_if (own_key rules how) entries
  own_is entries = at (uses_own how)
    where
      at : (first : Bool)
          → cond first (get_cell domain_order (shared_in entries) (cookie_domain rules how)) [] ≡ cookies_if (cond first (Some (OwnCell (cookie_domain rules how))) None) entries
      at true = shared_at (cookie_domain rules how) entries
      at false = refl

  pub found_is : (entries : Entries) (held : Holdings) → both_found rules how (shared_in entries) (held_with entries held) ≡ found rules how entries
  found_is entries held = λ i. record { own = own_is entries i; partition = partitioned_at (key_of rules how) entries i }

  -- ---- what it leaves

  -- each key has what a use leaves there
  abbrev pub IsLeft : BothCells → (old new : Entries) → Type 0
  IsLeft both old new = (key : PlainKey) → cookies_at key new ≡ left_at rules how both key (cookies_at key old)

  module _ (both : BothCells) (old new : Entries) (left : IsLeft both old new) where
    pub shared_left : shared_in new ≡ own_left rules how both.own (shared_in old)
    shared_left = at (uses_own how) (λ d. shared_at d new ∙ left (OwnCell d) ∙ ap (λ r. cond (is_key (OwnCell d) (own_key rules how)) both.own r) (sym (shared_at d old)))
      where
        at : (first : Bool)
            → ((d : Domain) → get_cell domain_order (shared_in new) d ≡ cond (is_key (OwnCell d) (cond first (Some (OwnCell (cookie_domain rules how))) None)) both.own (get_cell domain_order (shared_in old) d))
            → shared_in new ≡ cond first (set_cell domain_order (cookie_domain rules how) both.own (shared_in old)) (shared_in old)
        at true is = same_cells _ _ (λ d. is d ∙ sym (cells.get_set domain_order domain_order_total domain_order_same d (cookie_domain rules how) both.own (shared_in old)))
        at false is = same_cells _ _ is

    pub partitioned_left : partitioned_in new ≡ set_cell partitioned_order (key_of rules how) both.partition (partitioned_in old)
    partitioned_left =
        cells.same_cells partitioned_order partitioned_order_total partitioned_order_same _ _
        (λ k. partitioned_at k new ∙ left (cell_key k)
        ∙ ap (λ b. cond (eq_by_cmp partitioned_order k (key_of rules how)) both.partition (cond b both.own (cookies_at (cell_key k) old))) (none k (uses_own how))
        ∙ ap (λ r. cond (eq_by_cmp partitioned_order k (key_of rules how)) both.partition r) (sym (partitioned_at k old))
        ∙ sym (cells.get_set partitioned_order partitioned_order_total partitioned_order_same k (key_of rules how) both.partition (partitioned_in old)))
      where
        none : (k : PartitionedKey) (first : Bool) → is_key (cell_key k) (cond first (Some (OwnCell (cookie_domain rules how))) None) ≡ false
        none k true = refl
        none k false = refl

    -- so an effect that leaves both cells so is done
    pub done_leaves : (does : Effect) (changes : List PlainChange) (body : PlainBody)
        → ((held : Holdings) → does (shared_in old) (held_with old held) ≡ leaves rules how both changes body (shared_in old) (held_with old held))
        → IsDoneBy does old new body
    done_leaves does changes body is = λ held. record {
      cells = shared_left ∙ sym (ap (λ done. done.cells) (is held));
      held = ap (λ cookies. record held { cookies = cookies }) partitioned_left ∙ sym (ap (λ done. done.held) (is held));
      body = sym (ap (λ done. done.body) (is held));
    }
