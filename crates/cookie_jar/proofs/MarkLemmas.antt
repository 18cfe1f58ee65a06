-- The cookies after the last use of some was set.
use Rattle.std.proofs.Common.{◌≡◌, ℤ, ℕ, zero, suc, ◌+◌, ◌<◌, ◌≤◌, Bool, true, false, cond, List, [], ◌∷◌, ◌++◌, map, take, drop, length, get_or, refl, ap, ◌∙◌, sym, arith}
use Rattle.std.specs.Prelude.{◌||◌, ◌==◌, slice_set}
use Rattle.std.specs.List.{list_any, enumerate_from, sum_by, filter}
use Rattle.std.proofs.Math.Seq.{take-append_seam}
use Rattle.std.proofs.lemmas.Bool.{eq-eqb, ne_eqb}
use Rattle.std.proofs.lemmas.List.{length-map}
use Rattle.std.proofs.lemmas.List.Folds.{list_any-append}
use Rattle.std.proofs.lemmas.List.FromFn.{length-enumerate_from}
use Rattle.std.proofs.lemmas.List.Sums.{sum_by-cons}
use Rattle.partition_limits.specs.declared.tally.CellKind.{CellKind}
use Rattle.partition_limits.specs.declared.tally.CellKind.TheVariants.{Own, Partition}
use Rattle.partition_limits.specs.declared.tally.Tally.{Tally}
use Rattle.cookie_jar.specs.declared.cookie.Cookie.{Cookie}
use Rattle.cookie_jar.specs.Plain.{plain_cookie}
use Rattle.cookie_jar.specs.Cookie.{PlainCookie, IsCell, copies, counted, same}
use Rattle.cookie_jar.specs.Lifetime.{is_persistent}
use Rattle.cookie_jar.specs.Marked.{used_at}
use Rattle.cookie_jar.specs.Persistent.{persistent_part, kept_cookie}
use Rattle.cookie_jar.specs.Sending.{marked, used}
use Rattle.cookie_jar.proofs.CellLemmas.{fits_less}

-- the same, where places are counted from n
abbrev pub marked_from : ℕ → List ℕ → ℤ → List PlainCookie → List PlainCookie
marked_from n places now cs = map (λ c. cond (list_any (λ p. p == c.0) places) (used now c.1) c.1) (enumerate_from n cs)

pub none_marked : (n : ℕ) (now : ℤ) (cs : List PlainCookie) → marked_from n [] now cs ≡ cs
none_marked n now [] = refl
none_marked n now (c ∷ cs) = ap (λ r. c ∷ r) (none_marked (n + 1) now cs)

one_more : (n p : ℕ) (ps : List ℕ) → list_any (λ q. q == n) (ps ++ p ∷ []) ≡ (list_any (λ q. q == n) ps || ((p == n) || false))
one_more n p ps = list_any-append (λ q. q == n) ps (p ∷ [])

-- a place before them is no matter
past_marked : (n p : ℕ) (ps : List ℕ) (now : ℤ) (cs : List PlainCookie) → p < n → marked_from n (ps ++ p ∷ []) now cs ≡ marked_from n ps now cs
past_marked n p ps now [] lt = refl
past_marked n p ps now (c ∷ cs) lt = rw (one_more n p ps, ne_eqb p n (λ e. omega (arith, e)), past_marked (n + 1) p ps now cs (omega arith)) (at (list_any (λ q. q == n) ps))
  where
    at : (b : Bool) → cond (b || false) (used now c) c ∷ marked_from (n + 1) ps now cs ≡ cond b (used now c) c ∷ marked_from (n + 1) ps now cs
    at true = refl
    at false = refl

more_marked : (n k p : ℕ) (ps : List ℕ) (now : ℤ) (cs : List PlainCookie) → p ≡ n + k → marked_from n (ps ++ p ∷ []) now cs ≡ used_at k now (marked_from n ps now cs)
more_marked n zero p ps now [] e = refl
more_marked n (suc k) p ps now [] e = refl
more_marked n zero p ps now (c ∷ cs) e = rw (one_more n p ps, eq-eqb p n (omega (arith, e)), past_marked (n + 1) p ps now cs (omega (arith, e))) (at (list_any (λ q. q == n) ps))
  where
    at : (b : Bool) → cond (b || true) (used now c) c ∷ marked_from (n + 1) ps now cs ≡ used now (cond b (used now c) c) ∷ marked_from (n + 1) ps now cs
    at true = refl
    at false = refl
more_marked n (suc k) p ps now (c ∷ cs) e = rw (one_more n p ps, ne_eqb p n (λ h. omega (arith, h, e)), more_marked (n + 1) k p ps now cs (omega (arith, e))) (at (list_any (λ q. q == n) ps))
  where
    at : (b : Bool) → cond (b || false) (used now c) c ∷ used_at k now (marked_from (n + 1) ps now cs) ≡ cond b (used now c) c ∷ used_at k now (marked_from (n + 1) ps now cs)
    at true = refl
    at false = refl

-- one more place
pub marked_more : (p : ℕ) (ps : List ℕ) (now : ℤ) (cs : List PlainCookie) → marked (ps ++ p ∷ []) now cs ≡ used_at p now (marked ps now cs)
marked_more p ps now cs = more_marked 0 p p ps now cs (omega arith)

-- what outlives a restart is not marked
kept_from : (n : ℕ) (ps : List ℕ) (now : ℤ) (cs : List PlainCookie) → persistent_part (marked_from n ps now cs) ≡ persistent_part cs
kept_from n ps now [] = refl
kept_from n ps now (c ∷ cs) = at (list_any (λ q. q == n) ps) (is_persistent c) (kept_from (n + 1) ps now cs)
  where
    at : (b a : Bool) → persistent_part (marked_from (n + 1) ps now cs) ≡ persistent_part cs
        → map kept_cookie (cond (is_persistent (cond b (used now c) c)) (cond b (used now c) c ∷ filter is_persistent (marked_from (n + 1) ps now cs)) (filter is_persistent (marked_from (n + 1) ps now cs)))
        ≡ map kept_cookie (cond (is_persistent c) (c ∷ filter is_persistent cs) (filter is_persistent cs))
    at true a ih = with_flag (is_persistent c) ih
      where
        with_flag : (a : Bool) → persistent_part (marked_from (n + 1) ps now cs) ≡ persistent_part cs
            → map kept_cookie (cond a (used now c ∷ filter is_persistent (marked_from (n + 1) ps now cs)) (filter is_persistent (marked_from (n + 1) ps now cs)))
            ≡ map kept_cookie (cond a (c ∷ filter is_persistent cs) (filter is_persistent cs))
        with_flag true ih = ap (λ r. kept_cookie c ∷ r) ih
        with_flag false ih = ih
    at false a ih = with_flag (is_persistent c) ih
      where
        with_flag : (a : Bool) → persistent_part (marked_from (n + 1) ps now cs) ≡ persistent_part cs
            → map kept_cookie (cond a (c ∷ filter is_persistent (marked_from (n + 1) ps now cs)) (filter is_persistent (marked_from (n + 1) ps now cs)))
            ≡ map kept_cookie (cond a (c ∷ filter is_persistent cs) (filter is_persistent cs))
        with_flag true ih = ap (λ r. kept_cookie c ∷ r) ih
        with_flag false ih = ih

pub kept_marked : (ps : List ℕ) (now : ℤ) (cs : List PlainCookie) → persistent_part (marked ps now cs) ≡ persistent_part cs
kept_marked ps now cs = kept_from 0 ps now cs

-- a sum of what no use changes
sum_from : (f : PlainCookie → ℕ) → ((now : ℤ) (c : PlainCookie) → f (used now c) ≡ f c) → (n : ℕ) (ps : List ℕ) (now : ℤ) (cs : List PlainCookie) → sum_by f (marked_from n ps now cs) ≡ sum_by f cs
sum_from f h n ps now [] = refl
sum_from f h n ps now (c ∷ cs) =
    let more = sum_from f h (n + 1) ps now cs in
    let first = at (list_any (λ q. q == n) ps) in
    rw (sum_by-cons f (cond (list_any (λ q. q == n) ps) (used now c) c) (marked_from (n + 1) ps now cs), sum_by-cons f c cs) (omega (arith, more, first))
  where
    at : (b : Bool) → f (cond b (used now c) c) ≡ f c
    at true = h now c
    at false = refl

-- no use makes a cookie another one's same
pub marked_copies : (c : PlainCookie) (ps : List ℕ) (now : ℤ) (cs : List PlainCookie) → copies c (marked ps now cs) ≡ copies c cs
marked_copies c ps now cs = sum_from (λ d. cond (same c d) 1 0) (λ now d. refl) 0 ps now cs

counted_used : (kind : CellKind) (now : ℤ) (c : PlainCookie) → counted kind (used now c) ≡ counted kind c
counted_used Own now c = refl
counted_used Partition now c = refl

marked_long : (ps : List ℕ) (now : ℤ) (cs : List PlainCookie) → length (marked ps now cs) ≡ length cs
marked_long ps now cs = length-map (enumerate_from 0 cs) _ ∙ length-enumerate_from 0 cs

-- what is written over a list by one of the same length
written_back : (n : ℕ) (xs ys : List Cookie) (ps : List ℕ) (now : ℤ) → n ≡ length xs → map plain_cookie ys ≡ marked ps now (map plain_cookie xs) → take n (ys ++ drop (length ys) xs) ≡ ys
written_back n xs ys ps now e is =
    let long : length ys ≡ length xs = sym (length-map ys plain_cookie) ∙ ap length is ∙ marked_long ps now (map plain_cookie xs) ∙ length-map xs plain_cookie in
    ap (λ m. take m (ys ++ drop (length ys) xs)) (e ∙ sym long) ∙ take-append_seam ys (drop (length ys) xs)

-- the cookies that are written over those that were read
pub mark_leaves : (n : ℕ) (xs read ys : List Cookie) (ps : List ℕ) (moment now : ℤ) → n ≡ length xs → read ≡ xs → moment ≡ now → map plain_cookie ys ≡ marked ps moment (map plain_cookie read)
    → map plain_cookie (take n (ys ++ drop (length ys) xs)) ≡ marked ps now (map plain_cookie xs)
mark_leaves n xs read ys ps moment now long same at is =
    let all = is ∙ ap (λ zs. marked ps moment (map plain_cookie zs)) same ∙ ap (λ m. marked ps m (map plain_cookie xs)) at in
    ap (map plain_cookie) (written_back n xs ys ps now long all) ∙ all

-- a cell stays one
pub marked_cell : (kind : CellKind) (tally : Tally) (ps : List ℕ) (now : ℤ) (cs : List PlainCookie) → IsCell kind tally cs → IsCell kind tally (marked ps now cs)
marked_cell kind tally ps now cs cell =
    let long = marked_long ps now cs in
    let heavy : sum_by (counted kind) (marked ps now cs) ≡ sum_by (counted kind) cs = sum_from (counted kind) (counted_used kind) 0 ps now cs in
    record {
      cookies = cell.cookies ∙ sym long;
      bytes = cell.bytes ∙ sym heavy;
      within = fits_less kind _ _ _ _ cell.within (omega (arith, long)) (omega (arith, heavy));
      distinct = λ c. omega (arith, marked_copies c ps now cs, cell.distinct c);
    }

-- one cookie's last use is set in its place
pub used_set : (xs : List Cookie) (p : ℕ) (now : ℤ) (d : Cookie) → p < length xs → map plain_cookie (slice_set xs p (record (get_or xs p d) { last = now })) ≡ used_at p now (map plain_cookie xs)
used_set [] p now d lt = absurd (omega arith)
used_set (x ∷ xs) zero now d lt = refl
used_set (x ∷ xs) (suc p) now d lt = ap (λ r. plain_cookie x ∷ r) (used_set xs p now d (omega arith))

-- none is there
pub used_past : (xs : List Cookie) (p : ℕ) (now : ℤ) → length xs ≤ p → map plain_cookie xs ≡ used_at p now (map plain_cookie xs)
used_past [] p now le = refl
used_past (x ∷ xs) zero now le = absurd (omega arith)
used_past (x ∷ xs) (suc p) now le = ap (λ r. plain_cookie x ∷ r) (used_past xs p now (omega arith))
