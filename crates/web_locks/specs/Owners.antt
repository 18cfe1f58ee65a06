-- The documents that have requests, in their order.
-- Source: none.
-- Our own choice: documents are in the order of their tabs, and in a tab in the order of their
-- frames.
use Rattle.std.specs.Prelude.{◌≡◌, Bool, true, false, List, Option, Some, None}
use Rattle.std.specs.List.{list_any}
use Rattle.std.specs.Ordering.{is_lt, nat_cmp, ordering_then}
use Rattle.std.specs.declared.cmp.Ordering.{Ordering}
use Rattle.agent_base.specs.declared.refusals.Label.{Label}
use Rattle.key_map.specs.Entries.{is_after}
use Rattle.web_locks.specs.Lock.{PlainLock, is_owned}

-- documents in their order
abbrev pub label_order : Label → Label → Ordering
label_order a b = ordering_then (nat_cmp a.tab b.tab) (nat_cmp a.frame b.frame)

module _ {K : Type 0} where
  -- whether a document has a request
  abbrev pub has_any : Label → List (PlainLock K) → Bool
  has_any owner table = list_any (is_owned owner) table

  -- the first document behind this one that has a request
  pub record IsFirstBehind (after : Option Label) (next : Label)
      (table : List (PlainLock K)) : Type 0 where
    pub behind : is_after label_order after next ≡ true
    pub owns : has_any next table ≡ true
    pub first : (owner : Label) → is_after label_order after owner ≡ true
        → is_lt (label_order owner next) ≡ true → has_any owner table ≡ false

  -- the first document behind this one that has a request, or none where there is none
  abbrev pub IsNextOwner : Option Label → Option Label → List (PlainLock K) → Type 0
  IsNextOwner after (Some next) table = IsFirstBehind after next table
  IsNextOwner after None table =
      (owner : Label) → is_after label_order after owner ≡ true → has_any owner table ≡ false
