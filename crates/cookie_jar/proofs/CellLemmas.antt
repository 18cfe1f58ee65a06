-- What an edit of a cell keeps.
use mathlib.Core.Path.{fun_ext}
use Rattle.std.proofs.Common.{◌≡◌, ℕ, ◌+◌, ◌-◌, ◌≤◌, ◌<◌, Bool, true, false, cond, List, map, length, get_or, refl, ap, ◌∙◌, sym, arith}
use Rattle.std.specs.Prelude.{slice_set, bytes_eq, Result, IsOk, is_ok}
use Rattle.std.specs.Bool.{beq}
use Rattle.std.specs.List.{count_by, sum_by, insert, remove}
use Rattle.std.proofs.lemmas.Bool.Decides.{nat_tests}
use Rattle.std.proofs.lemmas.Bool.{and_parts}
use Rattle.std.proofs.lemmas.Slice.Eq.{bytes_eq-Decides}
use Rattle.std.proofs.lemmas.List.Edits.{length-remove, length-insert}
use Rattle.std.proofs.lemmas.List.Sums.{sum_by-remove, sum_by-insert, sum_by-set, get_or-le-sum_by}
use Rattle.std.proofs.lemmas.List.{length-set, take-map, drop-map, map-append}
use Rattle.std.proofs.Math.ListN.{get_or-map}
use Rattle.partition_limits.specs.declared.tally.CellKind.{CellKind}
use Rattle.partition_limits.specs.declared.tally.CellKind.TheVariants.{Own, Partition}
use Rattle.partition_limits.specs.declared.tally.Tally.{Tally}
use Rattle.partition_limits.specs.Limits.{fits}
use Rattle.cookie_jar.specs.Cookie.{PlainCookie, IsCell, counted, copies, same, keeps_limits}
use Rattle.cookie_jar.specs.Plain.{plain_cookie}
use Rattle.cookie_jar.specs.declared.cookie.Cookie.{Cookie}

pub map-remove : {A B : Type 0} (f : A → B) (xs : List A) (i : ℕ) → map f (remove xs i) ≡ remove (map f xs) i
map-remove f xs i = simp (map-append, take-map, drop-map)

pub map-insert : {A B : Type 0} (f : A → B) (xs : List A) (i : ℕ) (x : A) → map f (insert xs i x) ≡ insert (map f xs) i (f x)
map-insert f xs i x = simp (map-append, take-map, drop-map)

-- less fits where more does
pub fits_less : (k : CellKind) (m n a b : ℕ) → fits k n b ≡ true → m ≤ n → a ≤ b → fits k m a ≡ true
fits_less Own m n a b h le lb = grind (arith, nat_tests)
fits_less Partition m n a b h le lb = grind (arith, nat_tests)

-- a cookie of a cell counts for no more than the limit
pub counted_small : (k : CellKind) (n : ℕ) (cs : List PlainCookie) (p : ℕ) (d : PlainCookie) → fits k n (sum_by (counted k) cs) ≡ true → p < length cs → counted k (get_or cs p d) ≤ 10240
counted_small Own n cs p d h lt = omega arith
counted_small Partition n cs p d h lt = let le = get_or-le-sum_by (counted Partition) cs p d lt in grind (arith, nat_tests, le)

-- the count of cookies is small
pub count_small : (k : CellKind) (n b : ℕ) → fits k n b ≡ true → n ≤ 180
count_small Own n b h = grind (arith, nat_tests)
count_small Partition n b h = grind (arith, nat_tests)

-- no two cookies are the same without one of them
pub removed_once : (cs : List PlainCookie) (p : ℕ) (d : PlainCookie) → p < length cs → ((c : PlainCookie) → copies c cs ≤ 1) → (c : PlainCookie) → copies c (remove cs p) ≤ 1
removed_once cs p d lt once c = omega (arith, sum_by-remove (λ e. cond (same c e) 1 0) cs p d lt, once c)

-- a cell without the cookie at a place
pub removed_cell : (k : CellKind) (t : Tally) (cs : List PlainCookie) (p : ℕ) (d : PlainCookie) → IsCell k t cs → p < length cs
    → IsCell k (record { cookies = t.cookies - 1; bytes = t.bytes - counted k (get_or cs p d) }) (remove cs p)
removed_cell k t cs p d cell lt =
    let long = length-remove cs p lt in
    let heavy = sum_by-remove (counted k) cs p d lt in
    record {
      cookies = omega (arith, cell.cookies, long);
      bytes = omega (arith, cell.bytes, heavy);
      within = fits_less k _ _ _ _ cell.within (omega (arith, long)) (omega (arith, heavy));
      distinct = removed_once cs p d lt cell.distinct;
    }

-- what was read at a place, as contracts see it
pub read_at : (cs : List Cookie) (p : ℕ) (x : Cookie) → x ≡ get_or cs p x → plain_cookie x ≡ get_or (map plain_cookie cs) p (plain_cookie x)
read_at cs p x is = ap plain_cookie is ∙ sym (get_or-map plain_cookie cs p x)

beq_same : (a b : Bool) → beq a b ≡ true → a ≡ b
beq_same true true h = refl
beq_same true false h = sym h
beq_same false true h = h
beq_same false false h = refl

bytes_same : (xs ys : List ℕ) → bytes_eq xs ys ≡ true → xs ≡ ys
bytes_same xs ys h = (bytes_eq-Decides xs ys).0 h

-- same cookies are alike to every cookie
pub same_parts : (a b : PlainCookie) → same a b ≡ true → (a.name ≡ b.name) × (a.domain ≡ b.domain) × (a.host_only ≡ b.host_only) × (a.path ≡ b.path)
same_parts a b h =
    let one = and_parts _ _ h in
    let two = and_parts _ _ one.1 in
    let three = and_parts _ _ two.1 in
    (bytes_same _ _ one.0, bytes_same _ _ two.0, beq_same _ _ three.0, bytes_same _ _ three.1)

pub same_alike : (a b d : PlainCookie) → same a b ≡ true → same a d ≡ same b d
same_alike a b d h = let p = same_parts a b h in rw (p.0, p.1, p.2, p.3) refl

pub copies_alike : (a b : PlainCookie) (cs : List PlainCookie) → same a b ≡ true → copies a cs ≡ copies b cs
copies_alike a b cs h = ap (λ (f : PlainCookie → Bool). count_by f cs) (fun_ext (λ d. same_alike a b d h))

pub same_to : (c a b : PlainCookie) → same a b ≡ true → same c a ≡ same c b
same_to c a b h = let p = same_parts a b h in rw (p.0, p.1, p.2, p.3) refl

-- no two cookies are the same with one more that is not there
pub inserted_once : (cs : List PlainCookie) (p : ℕ) (x : PlainCookie) → copies x cs ≡ 0 → ((c : PlainCookie) → copies c cs ≤ 1) → (c : PlainCookie) → copies c (insert cs p x) ≤ 1
inserted_once cs p x absent once c = at (same c x) refl
  where
    at : (b : Bool) → same c x ≡ b → copies c (insert cs p x) ≤ 1
    at true is = let more = sum_by-insert (λ e. cond (same c e) 1 0) cs p x in let none = copies_alike c x cs is in let one : ◌≡◌ {A = ℕ} (cond (same c x) 1 0) 1 = rw is refl in omega (arith, more, none, one, absent)
    at false is = let more = sum_by-insert (λ e. cond (same c e) 1 0) cs p x in let one : ◌≡◌ {A = ℕ} (cond (same c x) 1 0) 0 = rw is refl in omega (arith, more, one, once c)

-- a cell with one more cookie
pub inserted_cell : (k : CellKind) (t : Tally) (cs : List PlainCookie) (p : ℕ) (x : PlainCookie) → IsCell k t cs → p ≤ length cs → copies x cs ≡ 0
    → keeps_limits k (insert cs p x) ≡ true → IsCell k (record { cookies = t.cookies + 1; bytes = t.bytes + counted k x }) (insert cs p x)
inserted_cell k t cs p x cell le absent within =
    record {
      cookies = omega (arith, cell.cookies, length-insert cs p x le);
      bytes = omega (arith, cell.bytes, sum_by-insert (counted k) cs p x);
      within = within;
      distinct = inserted_once cs p x absent cell.distinct;
    }

pub ok_then : {A E X : Type 0} (r : Result A E) (x y z : X) → IsOk r → z ≡ cond (is_ok r) x y → z ≡ x
ok_then r x y z h e = e ∙ ap (λ b. cond b x y) h

-- no two cookies are the same with a same one in the place of another
pub replaced_once : (cs : List PlainCookie) (p : ℕ) (x d : PlainCookie) → p < length cs → same x (get_or cs p d) ≡ true → ((c : PlainCookie) → copies c cs ≤ 1) → (c : PlainCookie) → copies c (slice_set cs p x) ≤ 1
replaced_once cs p x d lt is_same once c =
    let more = sum_by-set (λ e. cond (same c e) 1 0) cs p x d lt in
    let alike = ap {B = ℕ} (λ b. cond b 1 0) (same_to c x (get_or cs p d) is_same) in
    omega (arith, more, alike, once c)

-- a cell with a same cookie in the place of another
pub replaced_cell : (k : CellKind) (t : Tally) (cs : List PlainCookie) (p : ℕ) (x d : PlainCookie) → IsCell k t cs → p < length cs → same x (get_or cs p d) ≡ true
    → keeps_limits k (slice_set cs p x) ≡ true → IsCell k (record { cookies = t.cookies; bytes = t.bytes - counted k (get_or cs p d) + counted k x }) (slice_set cs p x)
replaced_cell k t cs p x d cell lt is_same within =
    record {
      cookies = omega (arith, cell.cookies, length-set cs p x);
      bytes = omega (arith, cell.bytes, sum_by-set (counted k) cs p x d lt, get_or-le-sum_by (counted k) cs p d lt);
      within = within;
      distinct = replaced_once cs p x d lt is_same cell.distinct;
    }
