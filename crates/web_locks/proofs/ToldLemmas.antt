-- What finds the requests, after one was added, has gone or was given its lock.
use Rattle.std.proofs.Common.{◌≡◌, ℕ, Bool, true, false, cond, List, [], ◌∷◌, ◌++◌, Some, refl, sym, ap, ◌∙◌}
use Rattle.std.specs.Prelude.{◌&&◌, not, string_bytes}
use Rattle.std.specs.List.Sorted.{IsStrictlySortedBy}
use Rattle.std.specs.Map.{keys_of}
use Rattle.std.specs.Cmp.{IsTotalOrder}
use Rattle.std.specs.Ordering.{is_eq, nat_cmp}
use Rattle.std.specs.Rc.{rc_value}
use Rattle.std.specs.declared.cmp.Ordering.{Ordering}
use Rattle.key_map.specs.Entries.{map_set}
use Rattle.web_locks.specs.declared.index.Index.{Index}
use Rattle.web_locks.specs.declared.requests.Requests.{Requests}
use Rattle.web_locks.specs.Lock.{PlainLock, is_owned}
use Rattle.web_locks.specs.Requests.{holding}
use Rattle.web_locks.specs.Numbers.{without_number}
use Rattle.web_locks.specs.Groups.{Removes, group_of}
use Rattle.web_locks.specs.Index.{AreTold, AreToldBut, IsForgotten, IsNoted, KeepsBut, SharedResource, has_id, id_order, is_for, numbers_where, row_at, shared_order, stole_it, waits_for, without_row}
use Rattle.web_locks.specs.Owners.{label_order}
use Rattle.web_locks.specs.Kept.{IsIndexed}
use Rattle.web_locks.proofs.IndexLemmas.{shared_group}
use Rattle.web_locks.proofs.RowLemmas.{AreBelow, numbers_set, numbers_set_out, numbers_without, numbers_without_other, told_but, told_less, told_more, told_most, told_others}
use Rattle.web_locks.proofs.ServedLemmas.{below_without}
use Rattle.web_locks.proofs.TableLemmas.{and_both, in_line-alike, in_line-itself}

module _ {K : Type 0} (cmp : K → K → Ordering) (n : ℕ) (x : PlainLock K) where
  -- a row that is added is told of nowhere yet
  pub all_others : (index : Index K) (rows : List (ℕ × PlainLock K)) → AreBelow n rows → AreTold cmp index rows
      → AreToldBut cmp n x index (rows ++ (n, x) ∷ [])
  all_others index rows below told = record {
    ids = told_others id_order has_id n x index.ids rows below told.ids;
    owners = told_others label_order is_owned n x index.owners rows below told.owners;
    queues = told_others (shared_order cmp) (is_for cmp) n x index.queues rows below told.queues;
    waiting = told_others (shared_order cmp) (waits_for cmp) n x index.waiting rows below told.waiting;
    thieves = told_others (shared_order cmp) (stole_it cmp) n x index.thieves rows below told.thieves;
  }

  -- it is told of in part
  pub all_most : (old new : Index K) (rows : List (ℕ × PlainLock K)) → KeepsBut cmp n x old new → AreToldBut cmp n x old rows
      → AreToldBut cmp n x new rows
  all_most old new rows kept told = record {
    ids = told_most id_order has_id n x old.ids new.ids rows kept.ids told.ids;
    owners = told_most label_order is_owned n x old.owners new.owners rows kept.owners told.owners;
    queues = told_most (shared_order cmp) (is_for cmp) n x old.queues new.queues rows kept.queues told.queues;
    waiting = told_most (shared_order cmp) (waits_for cmp) n x old.waiting new.waiting rows kept.waiting told.waiting;
    thieves = told_most (shared_order cmp) (stole_it cmp) n x old.thieves new.thieves rows kept.thieves told.thieves;
  }

  -- it is told of
  pub all_more : (old new : Index K) (rows : List (ℕ × PlainLock K)) → AreBelow n rows → AreTold cmp old rows → IsNoted cmp n x old new
      → AreTold cmp new (rows ++ (n, x) ∷ [])
  all_more old new rows below told noted = record {
    ids = told_more id_order has_id n x old.ids new.ids rows below told.ids noted.ids;
    owners = told_more label_order is_owned n x old.owners new.owners rows below told.owners noted.owners;
    queues = told_more (shared_order cmp) (is_for cmp) n x old.queues new.queues rows below told.queues noted.queues;
    waiting = told_more (shared_order cmp) (waits_for cmp) n x old.waiting new.waiting rows below told.waiting noted.waiting;
    thieves = told_more (shared_order cmp) (stole_it cmp) n x old.thieves new.thieves rows below told.thieves noted.thieves;
  }

  -- of a row that is to go the others are told
  pub all_but : (index : Index K) (rows : List (ℕ × PlainLock K)) → IsStrictlySortedBy nat_cmp (keys_of rows) → row_at n rows ≡ Some x
      → AreTold cmp index rows → AreToldBut cmp n x index rows
  all_but index rows sorted found told = record {
    ids = told_but id_order has_id n x index.ids rows sorted found told.ids;
    owners = told_but label_order is_owned n x index.owners rows sorted found told.owners;
    queues = told_but (shared_order cmp) (is_for cmp) n x index.queues rows sorted found told.queues;
    waiting = told_but (shared_order cmp) (waits_for cmp) n x index.waiting rows sorted found told.waiting;
    thieves = told_but (shared_order cmp) (stole_it cmp) n x index.thieves rows sorted found told.thieves;
  }

  -- a row has gone, and is told of no more
  pub all_less : (old new : Index K) (rows : List (ℕ × PlainLock K)) → IsForgotten cmp n x old new → AreToldBut cmp n x old rows
      → AreTold cmp new (without_row n rows)
  all_less old new rows gone told = record {
    ids = told_less id_order has_id (λ q. has_id q x) n x old.ids new.ids rows (λ q on. on) told.ids gone.ids;
    owners = told_less label_order is_owned (λ q. is_owned q x) n x old.owners new.owners rows (λ q on. on) told.owners gone.owners;
    queues = told_less (shared_order cmp) (is_for cmp) (λ q. is_for cmp q x) n x old.queues new.queues rows (λ q on. on) told.queues gone.queues;
    waiting =
        told_less (shared_order cmp) (waits_for cmp) (λ q. is_for cmp q x) n x old.waiting new.waiting rows
        (λ q on. (and_both (is_for cmp q x) (not x.held) on).0) told.waiting gone.waiting;
    thieves =
        told_less (shared_order cmp) (stole_it cmp) (λ q. is_for cmp q x) n x old.thieves new.thieves rows
        (λ q on. (and_both (is_for cmp q x) x.stole on).0) told.thieves gone.thieves;
  }

  -- the requests are indexed once it has gone
  pub indexed_without : (old new : Requests K) → IsStrictlySortedBy nat_cmp (keys_of old.rows) → row_at n old.rows ≡ Some x → IsIndexed cmp old
      → new.made ≡ old.made → new.rows ≡ without_row n old.rows
      → ((lock : PlainLock K) → row_at n old.rows ≡ Some lock → AreToldBut cmp n lock old.index old.rows → AreTold cmp new.index new.rows) → IsIndexed cmp new
  indexed_without old new sorted found indexed made rows told = record {
    below = rw (made, rows) (below_without old.made n old.rows indexed.below);
    told = told x found (all_but old.index old.rows sorted found indexed.told);
  }

  -- a row whose request is given its lock waits no more
  pub all_held : IsTotalOrder cmp → (r : SharedResource K) (old new : Index K) (rows : List (ℕ × PlainLock K))
      → IsStrictlySortedBy nat_cmp (keys_of rows) → row_at n rows ≡ Some x → is_for cmp r x ≡ true → AreTold cmp old rows
      → new.ids ≡ old.ids → new.owners ≡ old.owners → new.queues ≡ old.queues → new.thieves ≡ old.thieves
      → Removes (shared_order cmp) (λ q. is_eq (shared_order cmp r q)) n old.waiting new.waiting
      → AreTold cmp new (map_set nat_cmp n (holding x) rows)
  all_held order r old new rows sorted found here told ids owners queues thieves removes = record {
    ids = λ q. ap (group_of id_order q) ids ∙ told.ids q ∙ sym (numbers_set (has_id q) n x (holding x) rows found refl);
    owners = λ q. ap (group_of label_order q) owners ∙ told.owners q ∙ sym (numbers_set (is_owned q) n x (holding x) rows found refl);
    queues = λ q. ap (group_of (shared_order cmp) q) queues ∙ told.queues q ∙ sym (numbers_set (is_for cmp q) n x (holding x) rows found refl);
    waiting = λ q. removes q ∙ at q (is_eq (shared_order cmp r q)) refl;
    thieves = λ q. ap (group_of (shared_order cmp) q) thieves ∙ told.thieves q ∙ sym (numbers_set (stole_it cmp q) n x (holding x) rows found refl);
  }
    where
      none : (b : Bool) → (b && false) ≡ false
      none true = refl
      none false = refl

      out : (q : SharedResource K) → numbers_where (waits_for cmp q) (map_set nat_cmp n (holding x) rows) ≡ numbers_where (waits_for cmp q) (without_row n rows)
      out q = numbers_set_out (waits_for cmp q) n x (holding x) rows sorted found (none (is_for cmp q x))

      -- a request for the same name
      alike : PlainLock K
      alike = record x { key = (rc_value r).key; name = string_bytes (rc_value r).name }

      apart : (q : SharedResource K) → is_eq (shared_order cmp r q) ≡ false → (b : Bool) → is_for cmp q x ≡ b → waits_for cmp q x ≡ false
      apart q off false is = rw is refl
      apart q off true is =
          let same : is_for cmp q alike ≡ true =
          sym (in_line-alike cmp order (rc_value q).key (string_bytes (rc_value q).name) x is alike)
          ∙ in_line-alike cmp order (rc_value r).key (string_bytes (rc_value r).name) x here alike
          ∙ in_line-itself cmp order alike in
          absurd (cc (sym off ∙ shared_group cmp order r q ∙ same))

      at : (q : SharedResource K) (b : Bool) → is_eq (shared_order cmp r q) ≡ b
          → cond b (without_number n (group_of (shared_order cmp) q old.waiting)) (group_of (shared_order cmp) q old.waiting)
          ≡ numbers_where (waits_for cmp q) (map_set nat_cmp n (holding x) rows)
      at q true is = ap (without_number n) (told.waiting q) ∙ sym (numbers_without (waits_for cmp q) n rows) ∙ sym (out q)
      at q false is =
          told.waiting q ∙ sym (numbers_without_other (waits_for cmp q) n x rows sorted found (apart q is (is_for cmp q x) refl)) ∙ sym (out q)
