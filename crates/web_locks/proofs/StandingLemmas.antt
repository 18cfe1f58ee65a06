-- What the table keeps, call by call.
use Rattle.std.proofs.Common.{◌≡◌, ℕ, Bool, true, false, cond, not, List, [], ◌∷◌, ◌++◌, Option, Some, None, refl, sym, subst}
use Rattle.std.specs.Prelude.{◌&&◌, ◌||◌, filter, find}
use Rattle.std.specs.List.{AllByRecursion}
use Rattle.std.specs.Cmp.{IsTotalOrder}
use Rattle.std.specs.declared.cmp.Ordering.{Ordering}
use Rattle.agent_base.specs.declared.refusals.Label.{Label}
use Rattle.web_locks.specs.declared.request.LockMode.{LockMode}
use Rattle.web_locks.specs.Lock.{PlainLock, has_request, in_line, is_exclusive, is_request_of, line_of}
use Rattle.web_locks.specs.Queue.{fits, granted, is_grantable}
use Rattle.web_locks.specs.Requests.{holding, waiting, is_unsupported, released, released_by, requested}
use Rattle.web_locks.specs.Forms.{IsKept, IsOpen, IsLockTable, is_plain}
use Rattle.web_locks.proofs.LineLemmas.{formed_kept}
use Rattle.web_locks.proofs.CallLemmas.{none_kept, kept_released, kept_requested, steal_mode}
use Rattle.web_locks.proofs.TableLemmas.{filter_both}

module _ {K : Type 0} where
  abbrev pub ArePlain : List (PlainLock K) → Type 0
  ArePlain table = AllByRecursion (λ lock. is_plain lock ≡ true) table

  -- one that waits is plain with its lock, too
  pub plain_holding : (l : PlainLock K) → l.held ≡ false → is_plain l ≡ true → is_plain (holding l) ≡ true
  plain_holding l waits plain = at l.stole (subst (λ h. (not l.stole || h && is_exclusive l.mode) ≡ true) waits plain)
    where
      at : (s : Bool) → (not s || false && is_exclusive l.mode) ≡ true → (not s || true && is_exclusive l.mode) ≡ true
      at true is = absurd (cc is)
      at false is = refl

  pub plain_filter : (test : PlainLock K → Bool) (table : List (PlainLock K)) → ArePlain table → ArePlain (filter test table)
  plain_filter test [] plain = tt
  plain_filter test (l ∷ ls) plain = at (test l) (plain_filter test ls plain.1)
    where
      at : (b : Bool) → ArePlain (filter test ls) → ArePlain (cond b (l ∷ filter test ls) (filter test ls))
      at true later = (plain.0, later)
      at false later = later

  pub plain_push : (table : List (PlainLock K)) (x : PlainLock K) → ArePlain table → is_plain x ≡ true → ArePlain (table ++ x ∷ [])
  plain_push [] x plain is = (is, tt)
  plain_push (l ∷ ls) x plain is = (plain.0, plain_push ls x plain.1 is)

  -- a line that some have left
  pub line_left : (cmp : K → K → Ordering) (test : PlainLock K → Bool) (table : List (PlainLock K)) → IsKept cmp table
      → (key : K) (name : List ℕ) → IsOpen (line_of cmp key name (filter test table))
  line_left cmp test table kept key name =
      subst IsOpen (sym (filter_both (in_line cmp key name) test table)) (formed_kept test (line_of cmp key name table) (kept.formed key name))

module _ {K : Type 0} (cmp : K → K → Ordering) where
  pub standing_none : IsTotalOrder cmp → IsLockTable cmp []
  standing_none order = record { kept = none_kept cmp order; plain = tt }

  pub plain_granted : (key : K) (name : List ℕ) (table : List (PlainLock K)) (ms : List LockMode) → ArePlain table
      → ArePlain (granted cmp key name ms table)
  plain_granted key name [] ms plain = tt
  plain_granted key name (l ∷ ls) ms plain =
      at (in_line cmp key name l) l.held refl (fits l.mode ms) (λ ns. plain_granted key name ls ns plain.1)
    where
      at : (a h : Bool) → l.held ≡ h → (f : Bool) → ((ns : List LockMode) → ArePlain (granted cmp key name ns ls))
          → ArePlain (cond (not a || h) (l ∷ granted cmp key name ms ls) (cond f (holding l ∷ granted cmp key name (l.mode ∷ ms) ls) (l ∷ ls)))
      at true true held f later = (plain.0, later ms)
      at true false held true later = (plain_holding l held plain.0, later (l.mode ∷ ms))
      at true false held false later = plain
      at false h held f later = (plain.0, later ms)

  pub plain_released : (owner : Label) (id : ℕ) (found : Option (PlainLock K)) (table : List (PlainLock K)) → ArePlain table
      → ArePlain (released_by cmp owner id found table)
  plain_released owner id None table plain = plain
  plain_released owner id (Some lock) table plain =
      plain_granted lock.key lock.name (filter (λ y. not (is_request_of owner id y)) table) _ (plain_filter (λ y. not (is_request_of owner id y)) table plain)

  module _ (order : IsTotalOrder cmp) where
    pub standing_released : (owner : Label) (id : ℕ) (table : List (PlainLock K)) → IsLockTable cmp table → IsLockTable cmp (released cmp owner id table)
    standing_released owner id table standing = record {
      kept = kept_released cmp order owner id table standing.kept;
      plain = plain_released owner id (find (is_request_of owner id) table) table standing.plain;
    }

    plain_thief : (if_available : Bool) (x : PlainLock K) → is_unsupported if_available x ≡ false → x.stole ≡ true → is_plain (holding x) ≡ true
    plain_thief if_available x supported stole = rw (steal_mode cmp order if_available x supported stole) (at x.stole)
      where
        at : (s : Bool) → (not s || true) ≡ true
        at true = refl
        at false = refl

    plain_other : (h s e : Bool) → s ≡ false → (not s || h && e) ≡ true
    plain_other h true e is = absurd (cc is)
    plain_other h false e is = refl

    pub standing_requested : (if_available : Bool) (x : PlainLock K) (table : List (PlainLock K)) → is_unsupported if_available x ≡ false
        → has_request x.owner x.id table ≡ false → IsLockTable cmp table → IsLockTable cmp (requested cmp if_available x table)
    standing_requested if_available x table supported free standing = record {
      kept = kept_requested cmp order if_available x table supported free standing.kept;
      plain = at x.stole refl (is_grantable x.mode (line_of cmp x.key x.name table)) if_available;
    }
      where
        at : (s : Bool) → x.stole ≡ s → (g i : Bool)
            → ArePlain (cond s (filter (λ y. not (in_line cmp x.key x.name y && y.held)) table ++ holding x ∷ [])
            (cond g (table ++ holding x ∷ []) (cond i table (table ++ waiting x ∷ []))))
        at true stole g i = plain_push _ (holding x) (plain_filter _ table standing.plain) (plain_thief if_available x supported stole)
        at false stole true i = plain_push table (holding x) standing.plain (plain_other true x.stole (is_exclusive x.mode) stole)
        at false stole false true = standing.plain
        at false stole false false = plain_push table (waiting x) standing.plain (plain_other false x.stole (is_exclusive x.mode) stole)
