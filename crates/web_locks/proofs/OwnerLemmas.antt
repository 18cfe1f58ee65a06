-- The documents that have requests, as they are found one behind another.
use Rattle.std.proofs.Common.{◌≡◌, ◌<◌, ◌≤◌, ℕ, Bool, true, false, cond, List, [], ◌∷◌, length, Option, Some, None, refl, sym, ap, arith, subst, ◌∙◌}
use Rattle.std.specs.Prelude.{filter, find, is_some, option_map, unwrap_or}
use Rattle.std.specs.List.{AllByRecursion}
use Rattle.std.specs.List.Sorted.{IsStrictlySortedBy}
use Rattle.std.specs.Map.{keys_of}
use Rattle.std.specs.Cmp.{Equal-is, IsTotalOrder, then_total, on_total, nat_cmp_total}
use Rattle.std.specs.Ordering.{is_eq, is_lt, ordering_reverse}
use Rattle.std.specs.declared.cmp.Ordering.{Ordering}
use Rattle.std.specs.declared.cmp.Ordering.TheVariants.{Less, Equal, Greater}
use Rattle.std.proofs.lemmas.Cmp.{alike_right, tied_itself}
use Rattle.agent_base.specs.declared.refusals.Label.{Label}
use Rattle.key_map.specs.Entries.{is_after, map_get, next_key}
use Rattle.web_locks.specs.Lock.{PlainLock, is_owned}
use Rattle.web_locks.specs.Owners.{IsFirstBehind, IsNextOwner, has_any, label_order}
use Rattle.web_locks.specs.Numbers.{first_after}
use Rattle.web_locks.specs.Groups.{group_of}
use Rattle.web_locks.specs.Index.{Tells, locks_of}
use Rattle.web_locks.proofs.GroupLemmas.{alike_group}
use Rattle.web_locks.proofs.RowLemmas.{some_is}
use Rattle.web_locks.proofs.ServedLemmas.{any_first}

less_apart : (o : Ordering) → is_lt o ≡ true → is_eq o ≡ false
less_apart Less is = refl
less_apart Equal is = absurd (cc is)
less_apart Greater is = refl

is_less : (o : Ordering) → is_lt o ≡ true → o ≡ Less
is_less Less is = refl
is_less Equal is = absurd (cc is)
is_less Greater is = absurd (cc is)

less_or_tied : (o : Ordering) → is_lt o ≡ false → is_eq o ≡ false → o ≡ Greater
less_or_tied Less is tie = absurd (cc is)
less_or_tied Equal is tie = absurd (cc tie)
less_or_tied Greater is tie = refl

-- what passes a test that is stronger is no more
weaker_count : {A : Type 0} (p q : A → Bool) → ((x : A) → p x ≡ true → q x ≡ true) → (xs : List A) → length (filter p xs) ≤ length (filter q xs)
weaker_count p q weaker [] = grind arith
weaker_count p q weaker (x ∷ xs) = at (p x) refl (q x) refl (weaker_count p q weaker xs)
  where
    at : (a : Bool) → p x ≡ a → (b : Bool) → q x ≡ b → length (filter p xs) ≤ length (filter q xs)
        → length (cond a (x ∷ filter p xs) (filter p xs)) ≤ length (cond b (x ∷ filter q xs) (filter q xs))
    at true e true f less = grind arith
    at true e false f less = absurd (cc (sym f ∙ weaker x e))
    at false e true f less = grind arith
    at false e false f less = less

module _ {G : Type 0} (cmp : G → G → Ordering) (order : IsTotalOrder cmp) where
  -- of two of which one alone is behind a key, none is tied to the other
  apart_before : (after : Option G) (q k : G) → is_after cmp after q ≡ true → is_after cmp after k ≡ false → is_eq (cmp q k) ≡ false
  apart_before None q k is off = absurd (cc off)
  apart_before (Some a) q k is off = at (is_eq (cmp q k)) refl
    where
      at : (b : Bool) → is_eq (cmp q k) ≡ b → is_eq (cmp q k) ≡ false
      at false tie = tie
      at true tie = absurd (cc (sym off ∙ ap is_lt (sym (alike_right order q k a ((Equal-is (cmp q k)).0 tie))) ∙ is))

  -- what is behind one that is behind a key is behind the key
  pub after_both : (after : Option G) (k q : G) → is_after cmp after k ≡ true → is_after cmp (Some k) q ≡ true → is_after cmp after q ≡ true
  after_both None k q is more = refl
  after_both (Some a) k q is more = ap is_lt (order.trans a k q (is_less (cmp a k) is) (is_less (cmp k q) more))

module _ {G V : Type 0} (cmp : G → G → Ordering) (order : IsTotalOrder cmp) where
  none_below : (q m : G) (es : List (G × V)) → cmp q m ≡ Less → AllByRecursion (λ k. cmp m k ≡ Less) (keys_of es) → map_get cmp q es ≡ None
  none_below q m [] less below = refl
  none_below q m (e ∷ es) less below = rw (ap is_eq (order.trans q m e.0 less below.0)) (none_below q m es less below.1)

  -- where no key is behind, none of these is there
  pub absent_none : (after : Option G) (q : G) (es : List (G × V)) → next_key cmp after es ≡ None → is_after cmp after q ≡ true → map_get cmp q es ≡ None
  absent_none after q [] none is = refl
  absent_none after q (e ∷ es) none is = at (is_after cmp after e.0) refl none (λ n. absent_none after q es n is)
    where
      at : (b : Bool) → is_after cmp after e.0 ≡ b → option_map (λ d. d.0) (cond b (Some e) (find (λ d. is_after cmp after d.0) es)) ≡ None
          → (next_key cmp after es ≡ None → map_get cmp q es ≡ None) → cond (is_eq (cmp q e.0)) (Some e.1) (map_get cmp q es) ≡ None
      at true on n later = absurd (cc n)
      at false off n later = rw (apart_before cmp order after q e.0 is off) (later n)

  -- nor is one before the first that is behind
  pub absent_before : (after : Option G) (q k : G) (es : List (G × V)) → IsStrictlySortedBy cmp (keys_of es) → next_key cmp after es ≡ Some k
      → is_after cmp after q ≡ true → is_lt (cmp q k) ≡ true → map_get cmp q es ≡ None
  unfolding IsStrictlySortedBy
  absent_before after q k [] sorted next is less = refl
  absent_before after q k (e ∷ es) sorted next is less =
      at (is_after cmp after e.0) refl next (λ n. absent_before after q k es sorted.1 n is less)
    where
      at : (b : Bool) → is_after cmp after e.0 ≡ b → option_map (λ d. d.0) (cond b (Some e) (find (λ d. is_after cmp after d.0) es)) ≡ Some k
          → (next_key cmp after es ≡ Some k → map_get cmp q es ≡ None) → cond (is_eq (cmp q e.0)) (Some e.1) (map_get cmp q es) ≡ None
      at true on one later =
          let below : is_lt (cmp q e.0) ≡ true = ap (λ x. is_lt (cmp q x)) (some_is e.0 k one) ∙ less in
          rw (less_apart (cmp q e.0) below) (none_below q e.0 es (is_less (cmp q e.0) below) sorted.0)
      at false off one later = rw (apart_before cmp order after q e.0 is off) (later one)

  -- the first that is behind is behind
  pub next_behind : (after : Option G) (k : G) (es : List (G × V)) → next_key cmp after es ≡ Some k → is_after cmp after k ≡ true
  next_behind after k [] next = absurd (cc next)
  next_behind after k (e ∷ es) next = at (is_after cmp after e.0) refl next (λ n. next_behind after k es n)
    where
      at : (b : Bool) → is_after cmp after e.0 ≡ b → option_map (λ d. d.0) (cond b (Some e) (find (λ d. is_after cmp after d.0) es)) ≡ Some k
          → (next_key cmp after es ≡ Some k → is_after cmp after k ≡ true) → is_after cmp after k ≡ true
      at true on one later = subst (λ x. is_after cmp after x ≡ true) (some_is e.0 k one) on
      at false off one later = later one

  -- fewer are behind it
  pub fewer_behind : (after : Option G) (k : G) (es : List (G × V)) → next_key cmp after es ≡ Some k
      → length (filter (λ e. is_after cmp (Some k) e.0) es) < length (filter (λ e. is_after cmp after e.0) es)
  fewer_behind after k [] next = absurd (cc next)
  fewer_behind after k (e ∷ es) next =
      at (is_after cmp after e.0) refl next (is_after cmp (Some k) e.0) refl (λ n. fewer_behind after k es n)
    where
      behind : is_after cmp after k ≡ true
      behind = next_behind after k (e ∷ es) next

      at : (b : Bool) → is_after cmp after e.0 ≡ b → option_map (λ d. d.0) (cond b (Some e) (find (λ d. is_after cmp after d.0) es)) ≡ Some k
          → (a : Bool) → is_after cmp (Some k) e.0 ≡ a
          → (next_key cmp after es ≡ Some k
          → length (filter (λ d. is_after cmp (Some k) d.0) es) < length (filter (λ d. is_after cmp after d.0) es))
          → length (cond a (e ∷ filter (λ d. is_after cmp (Some k) d.0) es) (filter (λ d. is_after cmp (Some k) d.0) es))
          < length (cond b (e ∷ filter (λ d. is_after cmp after d.0) es) (filter (λ d. is_after cmp after d.0) es))
      at true on one true more later =
          absurd (cc (sym more ∙ ap (λ x. is_lt (cmp k x)) (some_is e.0 k one) ∙ ap is_lt (tied_itself order k)))
      at true on one false more later =
          let fewer = weaker_count (λ d. is_after cmp (Some k) d.0) (λ d. is_after cmp after d.0) (λ d m. after_both cmp order after k d.0 behind m) es in
          omega (arith, fewer)
      at false off one true more later = absurd (cc (sym off ∙ after_both cmp order after k e.0 behind more))
      at false off one false more later = later one

pub label_total : IsTotalOrder label_order
label_total = then_total (on_total (λ (l : Label). l.tab) nat_cmp_total) (on_total (λ (l : Label). l.frame) nat_cmp_total)

-- the documents up to one have no requests, but for those that are not behind the one that was asked for
pub record ArePassed {K : Type 0} (after last : Option Label) (table : List (PlainLock K)) : Type 0 where
  pub none : (owner : Label) → is_after label_order after owner ≡ true → is_after label_order last owner ≡ false → has_any owner table ≡ false
  pub within : (owner : Label) → is_after label_order last owner ≡ true → is_after label_order after owner ≡ true

pub passed_none : {K : Type 0} (after : Option Label) (table : List (PlainLock K)) → ArePassed after after table
passed_none after table = record {
  none = λ owner is off. absurd (cc (sym is ∙ off));
  within = λ owner is. is;
}

module _ {K : Type 0} (groups : List (Label × List ℕ)) (rows : List (ℕ × PlainLock K)) (tells : Tells label_order is_owned groups rows)
    (sorted : IsStrictlySortedBy label_order (keys_of groups)) (after last : Option Label) (passed : ArePassed after last (locks_of rows)) where
  told_any : (owner : Label) → has_any owner (locks_of rows) ≡ is_some (first_after None (group_of label_order owner groups))
  told_any owner = sym (any_first (is_owned owner) rows) ∙ ap (λ ns. is_some (first_after None ns)) (sym (tells owner))

  absent : (owner : Label) → map_get label_order owner groups ≡ None → has_any owner (locks_of rows) ≡ false
  absent owner none = told_any owner ∙ ap (λ o. is_some (first_after None (unwrap_or o []))) none

  -- a document that has none is passed
  pub passed_more : (owner : Label) → next_key label_order last groups ≡ Some owner → has_any owner (locks_of rows) ≡ false
      → ArePassed after (Some owner) (locks_of rows)
  passed_more owner next empty = record {
    none = λ other is off. at other is off (is_after label_order last other) refl (is_lt (label_order other owner)) refl (is_eq (label_order owner other)) refl;
    within = λ other is. passed.within other (after_both label_order label_total last owner other (next_behind label_order label_total last owner groups next) is);
  }
    where
      at : (other : Label) → is_after label_order after other ≡ true → is_after label_order (Some owner) other ≡ false
          → (a : Bool) → is_after label_order last other ≡ a → (b : Bool) → is_lt (label_order other owner) ≡ b
          → (c : Bool) → is_eq (label_order owner other) ≡ c → has_any other (locks_of rows) ≡ false
      at other is off false e b f c h = passed.none other is e
      at other is off true e true f c h =
          absent other (absent_before label_order label_total last other owner groups sorted next e f)
      at other is off true e false f true h =
          told_any other
          ∙ ap (λ ns. is_some (first_after None ns)) (alike_group label_order label_total owner other groups h)
          ∙ sym (told_any owner)
          ∙ empty
      at other is off true e false f false h =
          let more = less_or_tied (label_order owner other) off h in
          absurd (cc (sym f ∙ ap is_lt (label_total.antisymm other owner ∙ ap ordering_reverse more)))

  -- a document that has one is the first behind
  pub first_behind : (owner : Label) → next_key label_order last groups ≡ Some owner → has_any owner (locks_of rows) ≡ true
      → IsFirstBehind after owner (locks_of rows)
  first_behind owner next some = record {
    behind = passed.within owner (next_behind label_order label_total last owner groups next);
    owns = some;
    first = λ other is less. at other is less (is_after label_order last other) refl;
  }
    where
      at : (other : Label) → is_after label_order after other ≡ true → is_lt (label_order other owner) ≡ true → (a : Bool) → is_after label_order last other ≡ a
          → has_any other (locks_of rows) ≡ false
      at other is less false e = passed.none other is e
      at other is less true e = absent other (absent_before label_order label_total last other owner groups sorted next e less)

  -- where no document is left none is behind
  pub none_behind : next_key label_order last groups ≡ None → IsNextOwner after None (locks_of rows)
  none_behind next = λ other is. at other is (is_after label_order last other) refl
    where
      at : (other : Label) → is_after label_order after other ≡ true → (a : Bool) → is_after label_order last other ≡ a
          → has_any other (locks_of rows) ≡ false
      at other is false e = passed.none other is e
      at other is true e = absent other (absent_none label_order label_total last other groups next e)
