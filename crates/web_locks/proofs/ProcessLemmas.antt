-- The queue of a name, as it is processed request by request.
use Rattle.std.proofs.Common.{◌≡◌, ◌⊎◌, inl, inr, ℕ, Bool, true, false, cond, not, List, [], ◌∷◌, map, Option, Some, None, refl, sym, ap, subst, ◌∙◌}
use Rattle.std.specs.Prelude.{◌&&◌, ◌||◌, filter, find}
use Rattle.std.specs.List.{AllByRecursion, list_any}
use Rattle.std.specs.Ordering.{is_eq, nat_cmp}
use Rattle.std.specs.declared.cmp.Ordering.{Ordering}
use Rattle.key_map.specs.Entries.{map_set}
use Rattle.web_locks.specs.declared.request.LockMode.{LockMode}
use Rattle.web_locks.specs.declared.request.LockMode.TheVariants.{Exclusive, Shared}
use Rattle.web_locks.specs.Lock.{PlainLock, in_line, is_exclusive, line_of}
use Rattle.web_locks.specs.Queue.{fits, granted, held_modes, processed}
use Rattle.web_locks.specs.Requests.{holding}
use Rattle.web_locks.specs.Forms.{AllWaiting, IsAlone, IsLoose, IsOpen, IsStolen, is_plain}
use Rattle.web_locks.specs.Index.{locks_of}
use Rattle.web_locks.proofs.RowLemmas.{some_is}
use Rattle.web_locks.proofs.LineLemmas.{beside_shared, fits_alone, modes_loose}

-- modes beside which the same fits
abbrev pub AreAlike : List LockMode → List LockMode → Type 0
AreAlike ms ns = (fits Exclusive ms ≡ fits Exclusive ns) × (list_any is_exclusive ms ≡ list_any is_exclusive ns)

pub alike_fits : (mode : LockMode) (ms ns : List LockMode) → AreAlike ms ns → fits mode ms ≡ fits mode ns
alike_fits Exclusive ms ns alike = alike.0
alike_fits Shared ms ns alike = ap not alike.1

pub alike_more : (mode : LockMode) (ms ns : List LockMode) → AreAlike ms ns → AreAlike (mode ∷ ms) (mode ∷ ns)
alike_more mode ms ns alike = (refl, ap (λ b. is_exclusive mode || b) alike.1)

swap_step : (a b c : Bool) → (a || (b || c)) ≡ (b || (a || c))
swap_step true true c = refl
swap_step true false c = refl
swap_step false b c = refl

pub alike_swap : (m mode : LockMode) (ms ns : List LockMode) → AreAlike (mode ∷ ms) ns → AreAlike (mode ∷ m ∷ ms) (m ∷ ns)
alike_swap m mode ms ns alike =
    (refl, swap_step (is_exclusive mode) (is_exclusive m) (list_any is_exclusive ms) ∙ ap (λ b. is_exclusive m || b) alike.1)

module _ {K : Type 0} (cmp : K → K → Ordering) (key : K) (name : List ℕ) where
  -- whether a request waits in the line
  abbrev pub waits_here : PlainLock K → Bool
  waits_here lock = in_line cmp key name lock && not lock.held

  pub granted_alike : (table : List (PlainLock K)) (ms ns : List LockMode) → AreAlike ms ns → granted cmp key name ms table ≡ granted cmp key name ns table
  granted_alike [] ms ns alike = refl
  granted_alike (l ∷ ls) ms ns alike =
      at (not (in_line cmp key name l) || l.held) (fits l.mode ms) (fits l.mode ns) (alike_fits l.mode ms ns alike)
      (granted_alike ls ms ns alike) (granted_alike ls (l.mode ∷ ms) (l.mode ∷ ns) (alike_more l.mode ms ns alike))
    where
      at : (a f g : Bool) → f ≡ g → granted cmp key name ms ls ≡ granted cmp key name ns ls
          → granted cmp key name (l.mode ∷ ms) ls ≡ granted cmp key name (l.mode ∷ ns) ls
          → cond a (l ∷ granted cmp key name ms ls) (cond f (holding l ∷ granted cmp key name (l.mode ∷ ms) ls) (l ∷ ls))
          ≡ cond a (l ∷ granted cmp key name ns ls) (cond g (holding l ∷ granted cmp key name (l.mode ∷ ns) ls) (l ∷ ls))
      at true f g same kept more = ap (λ r. l ∷ r) kept
      at false true true same kept more = ap (λ r. holding l ∷ r) more
      at false true false same kept more = absurd (cc same)
      at false false true same kept more = absurd (cc same)
      at false false false same kept more = refl

  -- one that does not wait in the line is passed
  passed : (a h : Bool) (x y z : List (PlainLock K)) → (a && not h) ≡ false → cond (not a || h) x y ≡ x
  passed true true x y z is = refl
  passed true false x y z is = absurd (cc is)
  passed false h x y z is = refl

  reached : (a h : Bool) (x y : List (PlainLock K)) → (a && not h) ≡ true → cond (not a || h) x y ≡ y
  reached true true x y is = absurd (cc is)
  reached true false x y is = refl
  reached false h x y is = absurd (cc is)

  -- where none waits nothing is given
  pub granted_none : (table : List (PlainLock K)) (ms : List LockMode) → AllByRecursion (λ l. waits_here l ≡ false) table
      → granted cmp key name ms table ≡ table
  granted_none [] ms none = refl
  granted_none (l ∷ ls) ms none =
      passed (in_line cmp key name l) l.held (l ∷ granted cmp key name ms ls) _ [] none.0 ∙ ap (λ r. l ∷ r) (granted_none ls ms none.1)

  -- where the first that waits does not fit nothing is given
  pub granted_stops : (table : List (PlainLock K)) (ms : List LockMode) (x : PlainLock K) → find waits_here table ≡ Some x
      → fits x.mode ms ≡ false → granted cmp key name ms table ≡ table
  granted_stops [] ms x found stops = refl
  granted_stops (l ∷ ls) ms x found stops = at (waits_here l) refl found (λ later. granted_stops ls ms x later stops)
    where
      at : (b : Bool) → waits_here l ≡ b → cond b (Some l) (find waits_here ls) ≡ Some x
          → (find waits_here ls ≡ Some x → granted cmp key name ms ls ≡ ls) → granted cmp key name ms (l ∷ ls) ≡ l ∷ ls
      at true is one later =
          reached (in_line cmp key name l) l.held (l ∷ granted cmp key name ms ls) _ is
          ∙ ap (λ b. cond b (holding l ∷ granted cmp key name (l.mode ∷ ms) ls) (l ∷ ls))
          (ap (λ y. fits y.mode ms) (some_is l x one) ∙ stops)
      at false is one later =
          passed (in_line cmp key name l) l.held (l ∷ granted cmp key name ms ls) _ [] is ∙ ap (λ r. l ∷ r) (later one)

  -- ---- the first that waits is given its lock

  -- of numbered requests the first that waits has this number
  abbrev pub IsNext : ℕ → PlainLock K → List (ℕ × PlainLock K) → Type 0
  IsNext n x [] = ⊥
  IsNext n x (e ∷ es) =
      ((is_eq (nat_cmp n e.0) ≡ true) × (e.1 ≡ x) × (waits_here x ≡ true))
      ⊎ ((is_eq (nat_cmp n e.0) ≡ false) × (waits_here e.1 ≡ false) × IsNext n x es)

  modes_line : (l : PlainLock K) (ls : List (PlainLock K)) → waits_here l ≡ true → held_modes (line_of cmp key name (l ∷ ls)) ≡ held_modes (line_of cmp key name ls)
  modes_line l ls is = at (in_line cmp key name l) l.held refl is
    where
      at : (a h : Bool) → l.held ≡ h → (a && not h) ≡ true
          → held_modes (cond a (l ∷ line_of cmp key name ls) (line_of cmp key name ls)) ≡ held_modes (line_of cmp key name ls)
      at true true held is = absurd (cc is)
      at true false held is = rw held refl
      at false h held is = absurd (cc is)

  modes_held : (l : PlainLock K) (ls : List (PlainLock K)) → waits_here l ≡ true
      → held_modes (line_of cmp key name (holding l ∷ ls)) ≡ l.mode ∷ held_modes (line_of cmp key name ls)
  modes_held l ls is = at (in_line cmp key name l) l.held is
    where
      at : (a h : Bool) → (a && not h) ≡ true
          → held_modes (cond a (holding l ∷ line_of cmp key name ls) (line_of cmp key name ls)) ≡ l.mode ∷ held_modes (line_of cmp key name ls)
      at true h is = refl
      at false h is = absurd (cc is)

  -- the modes that are held then are as with one more
  pub modes_given : (n : ℕ) (x : PlainLock K) (rows : List (ℕ × PlainLock K)) → IsNext n x rows
      → AreAlike (x.mode ∷ held_modes (line_of cmp key name (locks_of rows)))
      (held_modes (line_of cmp key name (locks_of (map_set nat_cmp n (holding x) rows))))
  modes_given n x [] next = absurd next
  modes_given n x (e ∷ es) (inl next) =
      rw next.0 (rw next.1
      (subst (λ ms. AreAlike (x.mode ∷ ms) (held_modes (line_of cmp key name (holding x ∷ locks_of es)))) (sym (modes_line x (locks_of es) next.2))
      (subst (λ ns. AreAlike (x.mode ∷ held_modes (line_of cmp key name (locks_of es))) ns) (sym (modes_held x (locks_of es) next.2)) (refl, refl))))
  modes_given n x (e ∷ es) (inr next) =
      rw next.0 (at (in_line cmp key name e.1) e.1.held (modes_given n x es next.2))
    where
      at : (a h : Bool)
          → AreAlike (x.mode ∷ held_modes (line_of cmp key name (locks_of es)))
          (held_modes (line_of cmp key name (locks_of (map_set nat_cmp n (holding x) es))))
          → AreAlike (x.mode ∷ map (λ l. l.mode) (filter (λ l. l.held) (cond a (e.1 ∷ line_of cmp key name (locks_of es)) (line_of cmp key name (locks_of es)))))
          (map (λ l. l.mode) (filter (λ l. l.held) (cond a (e.1 ∷ line_of cmp key name (locks_of (map_set nat_cmp n (holding x) es)))
          (line_of cmp key name (locks_of (map_set nat_cmp n (holding x) es))))))
      at true h later = held_step e.1.held later
        where
          held_step : (h : Bool)
              → AreAlike (x.mode ∷ held_modes (line_of cmp key name (locks_of es)))
              (held_modes (line_of cmp key name (locks_of (map_set nat_cmp n (holding x) es))))
              → AreAlike (x.mode ∷ map (λ l. l.mode) (cond h (e.1 ∷ filter (λ l. l.held) (line_of cmp key name (locks_of es))) (filter (λ l. l.held) (line_of cmp key name (locks_of es)))))
              (map (λ l. l.mode) (cond h (e.1 ∷ filter (λ l. l.held) (line_of cmp key name (locks_of (map_set nat_cmp n (holding x) es))))
              (filter (λ l. l.held) (line_of cmp key name (locks_of (map_set nat_cmp n (holding x) es))))))
          held_step true rest =
              alike_swap e.1.mode x.mode (held_modes (line_of cmp key name (locks_of es)))
              (held_modes (line_of cmp key name (locks_of (map_set nat_cmp n (holding x) es)))) rest
          held_step false rest = rest
      at false h later = later

  -- and the rest of the queue is processed as before
  pub granted_next : (n : ℕ) (x : PlainLock K) (rows : List (ℕ × PlainLock K)) (ms ns : List LockMode) → IsNext n x rows
      → AreAlike (x.mode ∷ ms) ns → fits x.mode ms ≡ true
      → granted cmp key name ns (locks_of (map_set nat_cmp n (holding x) rows)) ≡ granted cmp key name ms (locks_of rows)
  granted_next n x [] ms ns next alike fit = absurd next
  granted_next n x (e ∷ es) ms ns (inl next) alike fit =
      rw next.0 (rw next.1
      (passed (in_line cmp key name (holding x)) true (holding x ∷ granted cmp key name ns (locks_of es)) _ [] (off (in_line cmp key name x))
      ∙ ap (λ r. holding x ∷ r) (sym (granted_alike (locks_of es) (x.mode ∷ ms) ns alike))
      ∙ sym (reached (in_line cmp key name x) x.held (x ∷ granted cmp key name ms (locks_of es)) _ next.2
      ∙ ap (λ b. cond b (holding x ∷ granted cmp key name (x.mode ∷ ms) (locks_of es)) (x ∷ locks_of es)) fit)))
    where
      off : (a : Bool) → (a && not true) ≡ false
      off true = refl
      off false = refl
  granted_next n x (e ∷ es) ms ns (inr next) alike fit =
      rw next.0
      (passed (in_line cmp key name e.1) e.1.held (e.1 ∷ granted cmp key name ns (locks_of (map_set nat_cmp n (holding x) es))) _ [] next.1
      ∙ ap (λ r. e.1 ∷ r) (granted_next n x es ms ns next.2 alike fit)
      ∙ sym (passed (in_line cmp key name e.1) e.1.held (e.1 ∷ granted cmp key name ms (locks_of es)) _ [] next.1))

  pub processed_next : (n : ℕ) (x : PlainLock K) (rows : List (ℕ × PlainLock K)) → IsNext n x rows
      → fits x.mode (held_modes (line_of cmp key name (locks_of rows))) ≡ true
      → processed cmp key name (locks_of (map_set nat_cmp n (holding x) rows)) ≡ processed cmp key name (locks_of rows)
  processed_next n x rows next fit =
      granted_next n x rows (held_modes (line_of cmp key name (locks_of rows))) _ next (modes_given n x rows next) fit

-- ---- whether the first that waits fits those that are held

plain_shared : (h s : Bool) (mode : LockMode) → mode ≡ Shared → (not s || h && is_exclusive mode) ≡ true → s ≡ false
plain_shared h false mode is plain = refl
plain_shared true true Exclusive is plain = absurd (cc is)
plain_shared true true Shared is plain = absurd (cc plain)
plain_shared false true mode is plain = absurd (cc plain)

plain_waiting : (h s e : Bool) → h ≡ false → (not s || h && e) ≡ true → s ≡ false
plain_waiting h false e is plain = refl
plain_waiting true true e is plain = absurd (cc is)
plain_waiting false true e is plain = absurd (cc plain)

none_fits : (mode : LockMode) → fits mode [] ≡ true
none_fits Exclusive = refl
none_fits Shared = refl

exclusive_not : (mode : LockMode) → (not (is_exclusive mode) && false) ≡ false
exclusive_not Exclusive = refl
exclusive_not Shared = refl

module _ {K : Type 0} where
  abbrev pub IsPlainLine : List (PlainLock K) → Type 0
  IsPlainLine ls = AllByRecursion (λ l. is_plain l ≡ true) ls

  any_stolen : (ls : List (PlainLock K)) → AllWaiting ls → IsPlainLine ls → list_any (λ l. l.stole) ls ≡ false
  any_stolen [] w plain = refl
  any_stolen (l ∷ ls) w plain =
      rw (plain_waiting l.held l.stole (is_exclusive l.mode) w.0 plain.0) (any_stolen ls w.1 plain.1)

  -- of those that are loose none has stolen its lock
  pub loose_stolen : (ls : List (PlainLock K)) → IsLoose ls → IsPlainLine ls → list_any (λ l. l.stole) ls ≡ false
  loose_stolen [] loose plain = refl
  loose_stolen (l ∷ ls) (inl loose) plain =
      rw (plain_shared l.held l.stole l.mode loose.1 plain.0) (loose_stolen ls loose.2 plain.1)
  loose_stolen (l ∷ ls) (inr loose) plain = any_stolen (l ∷ ls) loose plain

  stolen_stolen : (ls : List (PlainLock K)) → IsStolen ls → list_any (λ l. l.stole) ls ≡ true
  stolen_stolen [] s = absurd s
  stolen_stolen (l ∷ ls) (inl s) = rw s.2 refl
  stolen_stolen (l ∷ ls) (inr s) = or_true l.stole (list_any (λ l. l.stole) ls) (stolen_stolen ls s.1)
    where
      or_true : (a b : Bool) → b ≡ true → (a || b) ≡ true
      or_true true b is = refl
      or_true false b is = is

  -- whether a mode fits beside the first of a line: it waits, or both are shared
  abbrev pub fits_beside : LockMode → Option (PlainLock K) → Bool
  fits_beside mode None = true
  fits_beside mode (Some first) = not first.held || not (is_exclusive mode) && not (is_exclusive first.mode)

  abbrev pub first_of : List (PlainLock K) → Option (PlainLock K)
  first_of [] = None
  first_of (l ∷ ls) = Some l

  none_held : (ls : List (PlainLock K)) → AllWaiting ls → held_modes ls ≡ []
  none_held [] w = refl
  none_held (l ∷ ls) w = rw w.0 (none_held ls w.1)

  loose_fits : (mode : LockMode) (ls : List (PlainLock K)) → IsLoose ls → fits mode (held_modes ls) ≡ fits_beside mode (first_of ls)
  loose_fits mode [] loose = none_fits mode
  loose_fits Exclusive (l ∷ ls) (inl loose) = rw loose.0 refl
  loose_fits Shared (l ∷ ls) (inl loose) =
      rw loose.0 (rw loose.1 (beside_shared (Shared ∷ held_modes ls) (refl, modes_loose ls loose.2)))
  loose_fits mode (l ∷ ls) (inr loose) =
      ap (fits mode) (none_held (l ∷ ls) loose) ∙ none_fits mode ∙ sym (rw loose.0 refl)

  alone_fits : (mode : LockMode) (ls : List (PlainLock K)) → IsAlone ls → IsPlainLine ls
      → (not (list_any (λ l. l.stole) ls) && fits_beside mode (first_of ls)) ≡ false
  alone_fits mode [] alone plain = absurd alone
  alone_fits mode (l ∷ ls) (inl alone) plain = rw alone.0 (rw alone.1 (rw (exclusive_not mode) (and_false (not (l.stole || list_any (λ l. l.stole) ls)))))
    where
      and_false : (b : Bool) → (b && false) ≡ false
      and_false true = refl
      and_false false = refl
  alone_fits mode (l ∷ ls) (inr alone) plain =
      ap (λ b. not (l.stole || b) && fits_beside mode (Some l)) (stolen_stolen ls alone.1) ∙ at l.stole
    where
      at : (b : Bool) → (not (b || true) && fits_beside mode (Some l)) ≡ false
      at true = refl
      at false = refl

  -- a mode fits those that are held where none has stolen the lock, and it fits beside the first
  pub open_fits : (mode : LockMode) (ls : List (PlainLock K)) → IsOpen ls → IsPlainLine ls
      → fits mode (held_modes ls) ≡ (not (list_any (λ l. l.stole) ls) && fits_beside mode (first_of ls))
  open_fits mode ls (inl loose) plain =
      loose_fits mode ls loose ∙ sym (ap (λ b. not b && fits_beside mode (first_of ls)) (loose_stolen ls loose plain))
  open_fits mode ls (inr alone) plain = fits_alone mode ls alone ∙ sym (alone_fits mode ls alone plain)
