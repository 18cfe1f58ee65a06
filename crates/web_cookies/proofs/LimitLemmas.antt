-- What a jar holds after an edit, as its limits see it.
use Rattle.std.proofs.Common.{◌≡◌, ℕ, zero, suc, ◌+◌, ◌-◌, ◌<◌, ◌≤◌, Bool, true, false, cond, List, [], ◌∷◌, Option, Some, None, subst, length, get_or, take, drop, refl, sym, ap, ◌∙◌, arith}
use Rattle.std.specs.Prelude.{◌||◌, ◌&&◌, ◌==◌, nat_le, nat_lt, option_map, slice_get, slice_set, unwrap_or}
use Rattle.std.specs.List.{insert, list_any, sum_by}
use Rattle.std.proofs.lemmas.Bool.{and_left, and_parts, and_right, false≢true, le-leb, leb-true, lt-leb, lt-ltb, ne_eqb}
use Rattle.std.proofs.lemmas.Option.{get_or_from_slice_get, slice_get_within}
use Rattle.std.proofs.lemmas.List.{length-set}
use Rattle.std.proofs.lemmas.List.Edits.{length-insert}
use Rattle.std.proofs.lemmas.List.Sums.{sum_by-cons, sum_by-insert, sum_by-set, sum_by-take-le, get_or-le-sum_by}
use Rattle.partition_limits.specs.declared.tally.CellKind.{CellKind}
use Rattle.partition_limits.specs.declared.tally.CellKind.TheVariants.{Own, Partition}
use Rattle.partition_limits.specs.Limits.{fits}
use Rattle.cookie_jar.specs.Cookie.{PlainCookie, copies, counted, keeps_limits, same}
use Rattle.cookie_jar.specs.Persistent.{RowInsert, RowReplace, row_fits}

own_light : (cs : List PlainCookie) → sum_by (counted Own) cs ≡ 0
own_light [] = refl
own_light (c ∷ cs) = let rest = own_light cs in let all = sum_by-cons (counted Own) c cs in omega (arith, all, rest)

-- what counts in a cell within its limits is no more than the limit
pub light : (kind : CellKind) (cs : List PlainCookie) → keeps_limits kind cs ≡ true → sum_by (counted kind) cs ≤ 10240
light Own cs h = omega (arith, own_light cs)
light Partition cs h = leb-true (sum_by (counted Partition) cs) 10240 (and_parts _ _ h).1

-- the sum up to a place and of the item there, if there is one
pub sum_more : {X : Type 0} (f : X → ℕ) (xs : List X) (i : ℕ) → sum_by f (take (suc i) xs) ≡ sum_by f (take i xs) + unwrap_or (option_map f (slice_get xs i)) 0
sum_more f [] zero = refl
sum_more f [] (suc i) = refl
sum_more f (x ∷ xs) zero = let one = sum_by-cons f x [] in omega (arith, one)
sum_more f (x ∷ xs) (suc i) =
    let more = sum_by-cons f x (take (suc i) xs) in
    let before = sum_by-cons f x (take i xs) in
    let rest = sum_more f xs i in
    omega (arith, more, before, rest)

-- no more than the whole sum
pub sum_below : {X : Type 0} (f : X → ℕ) (xs : List X) (i : ℕ) → sum_by f (take i xs) + unwrap_or (option_map f (slice_get xs i)) 0 ≤ sum_by f xs
sum_below f xs i = let more = sum_more f xs i in let part = sum_by-take-le f xs (suc i) in omega (arith, more, part)

-- a look at a place finds what stands there
pub found_at : {X : Type 0} (p : X → Bool) (xs : List X) (i : ℕ) → list_any p (take 1 (drop i xs)) ≡ unwrap_or (option_map p (slice_get xs i)) false
found_at p [] zero = refl
found_at p [] (suc i) = refl
found_at p (x ∷ xs) zero = plain (p x)
  where
    plain : (b : Bool) → (b || false) ≡ b
    plain true = refl
    plain false = refl
found_at p (x ∷ xs) (suc i) = found_at p xs i

-- the limits with one more cookie
pub inserted_fits : (kind : CellKind) (cs : List PlainCookie) (p : ℕ) (c : PlainCookie) → p ≤ length cs
    → keeps_limits kind (insert cs p c) ≡ fits kind (length cs + 1) (sum_by (counted kind) cs + counted kind c)
inserted_fits kind cs p c le = rw (length-insert cs p c le, sum_by-insert (counted kind) cs p c) refl

-- the limits with another cookie in a place
pub replaced_fits : (kind : CellKind) (cs : List PlainCookie) (p : ℕ) (c d : PlainCookie) → p < length cs
    → keeps_limits kind (slice_set cs p c) ≡ fits kind (length cs) (sum_by (counted kind) cs - counted kind (get_or cs p d) + counted kind c)
replaced_fits kind cs p c d lt =
    let bytes : sum_by (counted kind) (slice_set cs p c) ≡ sum_by (counted kind) cs - counted kind (get_or cs p d) + counted kind c =
    omega (arith, sum_by-set (counted kind) cs p c d lt, get_or-le-sum_by (counted kind) cs p d lt) in
    rw (length-set cs p c, bytes) refl

-- ---- where a change is valid

module _ (kind : CellKind) (cs : List PlainCookie) (p : ℕ) (c : PlainCookie) where
  pub insert_valid : (f : Bool) → p ≤ length cs → (copies c cs == 0) ≡ true → f ≡ fits kind (length cs + 1) (sum_by (counted kind) cs + counted kind c)
      → f ≡ row_fits kind cs (RowInsert p c)
  insert_valid f le absent is =
      is ∙ sym (inserted_fits kind cs p c le)
      ∙ sym (ap (λ b. b && (copies c cs == 0 && keeps_limits kind (insert cs p c))) (le-leb p (length cs) le)
      ∙ ap (λ b. b && keeps_limits kind (insert cs p c)) absent)

  pub insert_past : length cs < p → false ≡ row_fits kind cs (RowInsert p c)
  insert_past lt = sym (and_left (nat_le p (length cs)) _ (lt-leb p (length cs) lt))

  pub insert_there : (copies c cs == 0) ≡ false → false ≡ row_fits kind cs (RowInsert p c)
  insert_there there = sym (and_right (nat_le p (length cs)) _ (and_left (copies c cs == 0) (keeps_limits kind (insert cs p c)) there))

  pub replace_past : slice_get cs p ≡ None → false ≡ row_fits kind cs (RowReplace p c)
  replace_past none = sym (and_right (nat_lt p (length cs)) _ (and_left _ (keeps_limits kind (slice_set cs p c)) (found_at (same c) cs p ∙ ap (λ o. unwrap_or (option_map (same c) o) false) none)))

  module _ (d : PlainCookie) (there : slice_get cs p ≡ Some d) where
    found : list_any (same c) (take 1 (drop p cs)) ≡ same c d
    found = found_at (same c) cs p ∙ ap (λ o. unwrap_or (option_map (same c) o) false) there

    pub replace_other : same c d ≡ false → false ≡ row_fits kind cs (RowReplace p c)
    replace_other other = sym (and_right (nat_lt p (length cs)) _ (and_left _ (keeps_limits kind (slice_set cs p c)) (found ∙ other)))

    pub replace_valid : (f : Bool) → same c d ≡ true → f ≡ fits kind (length cs) (sum_by (counted kind) cs - counted kind d + counted kind c)
        → f ≡ row_fits kind cs (RowReplace p c)
    replace_valid f is_same is =
        let lt = slice_get_within cs p d there in
        is ∙ ap (λ e. fits kind (length cs) (sum_by (counted kind) cs - counted kind e + counted kind c)) (sym (get_or_from_slice_get cs p d d there))
        ∙ sym (replaced_fits kind cs p c d lt)
        ∙ sym (ap (λ b. b && (list_any (same c) (take 1 (drop p cs)) && keeps_limits kind (slice_set cs p c))) (lt-ltb p (length cs) lt)
        ∙ ap (λ b. b && keeps_limits kind (slice_set cs p c)) (found ∙ is_same))

    pub counted_there : counted kind d ≤ sum_by (counted kind) cs
    counted_there = subst (λ e. counted kind e ≤ sum_by (counted kind) cs) (get_or_from_slice_get cs p d d there) (get_or-le-sum_by (counted kind) cs p d (slice_get_within cs p d there))

-- 1 for a cookie that is the same as another
abbrev alike : PlainCookie → PlainCookie → ℕ
alike c d = cond (same c d) 1 0

-- a cookie that is the same as the one at a place is not absent
pub copy_there : (c : PlainCookie) (cs : List PlainCookie) (p : ℕ) → unwrap_or (option_map (same c) (slice_get cs p)) false ≡ true → (copies c cs == 0) ≡ false
copy_there c cs p is = ne_eqb (copies c cs) 0 (λ none. let more = sum_below (alike c) cs p in let one = at (slice_get cs p) is in absurd (omega (arith, more, one, none)))
  where
    by : (b : Bool) → b ≡ true → ◌≡◌ {A = ℕ} (cond b 1 0) 1
    by true is = refl
    by false is = absurd (false≢true is)

    at : (o : Option PlainCookie) → unwrap_or (option_map (same c) o) false ≡ true → unwrap_or (option_map (alike c) o) 0 ≡ 1
    at None is = absurd (false≢true is)
    at (Some d) is = by (same c d) is

-- and else there is none more
pub copies_more : (c : PlainCookie) (cs : List PlainCookie) (p : ℕ) → unwrap_or (option_map (same c) (slice_get cs p)) false ≡ false
    → copies c (take p cs) ≡ 0 → copies c (take (suc p) cs) ≡ 0
copies_more c cs p is none = let more = sum_more (alike c) cs p in let still = at (slice_get cs p) is in omega (arith, more, still, none)
  where
    at : (o : Option PlainCookie) → unwrap_or (option_map (same c) o) false ≡ false → unwrap_or (option_map (alike c) o) 0 ≡ 0
    at None is = refl
    at (Some d) is = ap {B = ℕ} (λ b. cond b 1 0) is
