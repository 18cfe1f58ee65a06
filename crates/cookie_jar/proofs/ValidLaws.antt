-- Each row change of a store is valid where it is done.
use Rattle.std.proofs.Common.{◌≡◌, ℤ, ℕ, zero, suc, ◌+◌, ◌<◌, ◌≤◌, Bool, true, false, cond, not, List, [], ◌∷◌, ◌++◌, map, take, drop, length, get_or, refl, ap, ◌∙◌, sym, arith, subst}
use Rattle.std.specs.Prelude.{◌||◌, slice_set, nat_lt}
use Rattle.std.specs.Bool.{beq}
use Rattle.std.proofs.lemmas.Slice.Eq.{bytes_eq-Decides}
use Rattle.std.proofs.lemmas.Grind.{flat_map-append}
use Rattle.std.specs.List.{list_any, insert, remove, sum_by, filter}
use Rattle.std.proofs.lemmas.Bool.{eq-eqb, ltb-true, ltb-false, lt-ltb, le-leb, and_from, false≢true}
use Rattle.std.proofs.lemmas.List.Sums.{sum_by-cons, sum_by-insert, sum_by-set, sum_by-append, fold-append, prefix_len-le-length}
use Rattle.std.proofs.lemmas.List.{length-map, drop-map, append-nil}
use Rattle.partition_limits.specs.declared.tally.CellKind.{CellKind}
use Rattle.partition_limits.specs.declared.tally.CellKind.TheVariants.{Own, Partition}
use Rattle.partition_limits.specs.Victims.{others_from, without}
use Rattle.cookie_jar.specs.Cookie.{PlainCookie, same, copies, counted, keeps_limits}
use Rattle.cookie_jar.specs.declared.step.JarStep.{JarStep}
use Rattle.cookie_jar.specs.declared.step.JarStep.TheVariants.{Insert, Replace}
use Rattle.cookie_jar.specs.Steps.{rank, persists_at, after_step, after_steps, removal_at, removals, live_steps, remove_step, put_step, place_now, steps, stored, going, place_of, put}
use Rattle.cookie_jar.specs.Lifetime.{is_persistent, is_expired}
use Rattle.cookie_jar.specs.Persistent.{CookieRow, RowInsert, persistent_part, kept_cookie, after_rows, row_edit, row_fits, apply_rows, rows_of_step, rows_of_steps, insert_row, remove_row, replace_row}
use Rattle.cookie_jar.proofs.CellLemmas.{fits_less, copies_alike, same_to}
use Rattle.cookie_jar.proofs.PersistentLaws.{persistent, rank_le, rank_below, drop_rank, remove_kept, insert_kept, replace_kept, steps_kept, removals_right, rows_keep}
use Rattle.cookie_jar.proofs.StepLaws.{among, place_from, place_more, place_end, place_within, going_apart, fresh_stays, stored_is, stored_fits, removals_from_all, put_there, put_last}

-- each row change is valid where it is done
abbrev pub AreFitting : CellKind → List PlainCookie → List CookieRow → Type 0
AreFitting kind cs [] = Unit {0}
AreFitting kind cs (row ∷ rows) = (row_fits kind cs row ≡ true) × AreFitting kind (row_edit cs row) rows

-- such row changes are done
fitting_done : (kind : CellKind) (cs : List PlainCookie) (rows : List CookieRow) → AreFitting kind cs rows → apply_rows kind cs rows ≡ after_rows cs rows
fitting_done kind cs [] fits = refl
fitting_done kind cs (row ∷ rows) fits = ap (λ b. apply_rows kind (cond b (row_edit cs row) cs) rows) fits.0 ∙ fitting_done kind (row_edit cs row) rows fits.1

-- one list of them behind another
fits_append : (kind : CellKind) (cs : List PlainCookie) (first more : List CookieRow) → AreFitting kind cs first → AreFitting kind (after_rows cs first) more → AreFitting kind cs (first ++ more)
fits_append kind cs [] more fits rest = rest
fits_append kind cs (row ∷ first) more fits rest = (fits.0, fits_append kind (row_edit cs row) first more fits.1 rest)

kept_length : (cs : List PlainCookie) → length (persistent_part cs) ≡ length (persistent cs)
kept_length cs = length-map (persistent cs) kept_cookie

remove_fits : (kind : CellKind) (i : ℕ) (cs : List PlainCookie) → AreFitting kind (persistent_part cs) (remove_row (persists_at i cs) (rank i cs))
remove_fits kind i cs = at (persists_at i cs) refl
  where
    at : (b : Bool) → persists_at i cs ≡ b → AreFitting kind (persistent_part cs) (remove_row b (rank i cs))
    at true is = (lt-ltb (rank i cs) (length (persistent_part cs)) (omega (arith, kept_length cs, rank_below i cs is)), tt)
    at false is = tt

-- what a cell within its limits keeps is within them
filter_sum_le : (f : PlainCookie → ℕ) (cs : List PlainCookie) → sum_by f (filter is_persistent cs) ≤ sum_by f cs
filter_sum_le f [] = omega arith
filter_sum_le f (c ∷ cs) = rw (sum_by-cons f c cs) (at (is_persistent c) (filter_sum_le f cs))
  where
    at : (b : Bool) → sum_by f (filter is_persistent cs) ≤ sum_by f cs → sum_by f (cond b (c ∷ filter is_persistent cs) (filter is_persistent cs)) ≤ f c + sum_by f cs
    at true ih = rw (sum_by-cons f c (filter is_persistent cs)) (omega (arith, ih))
    at false ih = omega (arith, ih)

pub map_sum : (f : PlainCookie → ℕ) → ((c : PlainCookie) → f (kept_cookie c) ≡ f c) → (cs : List PlainCookie) → sum_by f (map kept_cookie cs) ≡ sum_by f cs
map_sum f h [] = refl
map_sum f h (c ∷ cs) = let e = map_sum f h cs in let one = h c in rw (sum_by-cons f (kept_cookie c) (map kept_cookie cs), sum_by-cons f c cs) (omega (arith, e, one))

kept_sum_le : (f : PlainCookie → ℕ) → ((c : PlainCookie) → f (kept_cookie c) ≡ f c) → (cs : List PlainCookie) → sum_by f (persistent_part cs) ≤ sum_by f cs
kept_sum_le f h cs = omega (arith, map_sum f h (persistent cs), filter_sum_le f cs)

pub counted_kept : (kind : CellKind) (c : PlainCookie) → counted kind (kept_cookie c) ≡ counted kind c
counted_kept Own c = refl
counted_kept Partition c = refl

long_sum : (cs : List PlainCookie) → sum_by (λ c. 1) cs ≡ length cs
long_sum [] = refl
long_sum (c ∷ cs) = let e = long_sum cs in rw (sum_by-cons (λ d. 1) c cs) (omega (arith, e))

pub kept_limits : (kind : CellKind) (cs : List PlainCookie) → keeps_limits kind cs ≡ true → keeps_limits kind (persistent_part cs) ≡ true
kept_limits kind cs h = fits_less kind _ _ _ _ h (omega (arith, long_sum cs, long_sum (persistent_part cs), kept_sum_le (λ c. 1) (λ c. refl) cs)) (kept_sum_le (counted kind) (counted_kept kind) cs)

pub kept_copies : (c : PlainCookie) (cs : List PlainCookie) → copies c (persistent_part cs) ≤ copies c cs
kept_copies c cs = kept_sum_le (λ d. cond (same c d) 1 0) (λ d. refl) cs

beq_self : (b : Bool) → beq b b ≡ true
beq_self true = refl
beq_self false = refl

pub same_self : (c : PlainCookie) → same c c ≡ true
same_self c =
    and_from _ _ ((bytes_eq-Decides c.name c.name).1 refl) (and_from _ _ ((bytes_eq-Decides c.domain c.domain).1 refl) (and_from _ _ (beq_self c.host_only) ((bytes_eq-Decides c.path c.path).1 refl)))

-- an insert that leaves the limits and no two same cookies is valid
insert_valid : (kind : CellKind) (cs : List PlainCookie) (r : ℕ) (c : PlainCookie) → r ≤ length cs → copies c (insert cs r c) ≤ 1 → keeps_limits kind (insert cs r c) ≡ true → row_fits kind cs (RowInsert r c) ≡ true
insert_valid kind cs r c le once within =
    and_from _ _ (le-leb r (length cs) le) (and_from _ _ (eq-eqb (copies c cs) 0 (let more = sum_by-insert (λ d. cond (same c d) 1 0) cs r c in let one : ◌≡◌ {A = ℕ} (cond (same c c) 1 0) 1 = rw (same_self c) refl in omega (arith, more, one, once))) within)

-- the kept cookie at a persistent one's rank is the same one
head_same : (f : PlainCookie) (ds : List PlainCookie) → list_any is_persistent (take 1 ds) ≡ true → list_any (λ d. same f d) (take 1 ds) ≡ true → list_any (λ d. same (kept_cookie f) d) (take 1 (map kept_cookie (filter is_persistent ds))) ≡ true
head_same f [] h k = absurd (false≢true h)
head_same f (d ∷ ds) h k = at (is_persistent d) h
  where
    at : (b : Bool) → (b || false) ≡ true → list_any (λ d. same (kept_cookie f) d) (take 1 (map kept_cookie (cond b (d ∷ filter is_persistent ds) (filter is_persistent ds)))) ≡ true
    at true h = k
    at false h = absurd (false≢true h)

same_at_rank : (f : PlainCookie) (i : ℕ) (cs : List PlainCookie) → persists_at i cs ≡ true → list_any (λ d. same f d) (take 1 (drop i cs)) ≡ true → list_any (λ d. same (kept_cookie f) d) (take 1 (drop (rank i cs) (persistent_part cs))) ≡ true
same_at_rank f i cs h k =
    ap (λ ds. list_any (λ d. same (kept_cookie f) d) (take 1 ds)) (drop-map kept_cookie (rank i cs) (persistent cs) ∙ ap (map kept_cookie) (drop_rank i cs)) ∙ head_same f (drop i cs) h k

-- the fresh cookie can be put at a place, over the same one or at the end
pub record IsPut (kind : CellKind) (fresh : PlainCookie) (cs : List PlainCookie) (place : ℕ) : Type 0 where
  pub inside : place ≤ length cs
  pub there : place < length cs → list_any (λ d. same fresh d) (take 1 (drop place cs)) ≡ true
  pub limits : keeps_limits kind (after_step fresh cs (put_step place cs)) ≡ true
  pub once : (c : PlainCookie) → copies c (after_step fresh cs (put_step place cs)) ≤ 1

last_fits : (kind : CellKind) (fresh : PlainCookie) (i : ℕ) (cs : List PlainCookie) → IsPut kind fresh cs i
    → AreFitting kind (persistent_part cs) (rows_of_step fresh (put_step i cs))
last_fits kind fresh i cs put = at (nat_lt i (length cs)) refl put.limits put.once
  where
    replaced : (a b : Bool) → persists_at i cs ≡ b → (b ≡ true → list_any (λ d. same fresh d) (take 1 (drop i cs)) ≡ true)
        → keeps_limits kind (after_rows (persistent_part cs) (replace_row a b (rank i cs) fresh)) ≡ true → ((c : PlainCookie) → copies c (after_rows (persistent_part cs) (replace_row a b (rank i cs) fresh)) ≤ 1)
        → AreFitting kind (persistent_part cs) (replace_row a b (rank i cs) fresh)
    replaced true true is there within once = (and_from _ _ (lt-ltb (rank i cs) (length (persistent_part cs)) (omega (arith, kept_length cs, rank_below i cs is))) (and_from _ _ (same_at_rank fresh i cs is (there refl)) within), tt)
    replaced true false is there within once = (insert_valid kind (persistent_part cs) (rank i cs) (kept_cookie fresh) (omega (arith, kept_length cs, rank_le i cs)) (once (kept_cookie fresh)) within, tt)
    replaced false true is there within once = (lt-ltb (rank i cs) (length (persistent_part cs)) (omega (arith, kept_length cs, rank_below i cs is)), tt)
    replaced false false is there within once = tt

    added : (a : Bool) → keeps_limits kind (after_rows (persistent_part cs) (insert_row a (rank i cs) fresh)) ≡ true → ((c : PlainCookie) → copies c (after_rows (persistent_part cs) (insert_row a (rank i cs) fresh)) ≤ 1)
        → AreFitting kind (persistent_part cs) (insert_row a (rank i cs) fresh)
    added true within once = (insert_valid kind (persistent_part cs) (rank i cs) (kept_cookie fresh) (omega (arith, kept_length cs, rank_le i cs)) (once (kept_cookie fresh)) within, tt)
    added false within once = tt

    at : (b : Bool) → nat_lt i (length cs) ≡ b
        → keeps_limits kind (after_step fresh cs (cond b (Replace i (rank i cs) (persists_at i cs)) (Insert i (rank i cs)))) ≡ true
        → ((c : PlainCookie) → copies c (after_step fresh cs (cond b (Replace i (rank i cs) (persists_at i cs)) (Insert i (rank i cs)))) ≤ 1)
        → AreFitting kind (persistent_part cs) (rows_of_step fresh (cond b (Replace i (rank i cs) (persists_at i cs)) (Insert i (rank i cs))))
    at true is within once =
        let lt = ltb-true i (length cs) is in
        let e = replace_kept i fresh cs lt in
        replaced (is_persistent fresh) (persists_at i cs) refl (λ _. put.there lt) (ap (keeps_limits kind) (sym e) ∙ kept_limits kind (slice_set cs i fresh) within)
        (λ c. subst (λ k. copies c k ≤ 1) e (omega (arith, kept_copies c (slice_set cs i fresh), once c)))
    at false is within once =
        let e = insert_kept i fresh cs in
        added (is_persistent fresh) (ap (keeps_limits kind) (sym e) ∙ kept_limits kind (insert cs i fresh) within)
        (λ c. subst (λ k. copies c k ≤ 1) e (omega (arith, kept_copies c (insert cs i fresh), once c)))

removals_fit : (kind : CellKind) (fresh : PlainCookie) (cs : List PlainCookie) (gone ps : List ℕ) → AreFitting kind (persistent_part cs) (rows_of_steps fresh (removals cs gone ps))
removals_fit kind fresh cs gone [] = tt
removals_fit kind fresh cs gone (p ∷ ps) =
    let i = place_now gone p in
    let more = rows_of_steps fresh (removals (remove cs i) (p ∷ gone) ps) in
    fits_append kind (persistent_part cs) (rows_of_step fresh (remove_step i cs)) more (remove_fits kind i cs)
    (subst (λ k. AreFitting kind k more) (remove_kept i cs) (removals_fit kind fresh (remove cs i) (p ∷ gone) ps))

-- leaving out adds no copies
others_sum_le : (f : PlainCookie → ℕ) (n : ℕ) (gone : List ℕ) (cs : List PlainCookie) → sum_by f (others_from n gone cs) ≤ sum_by f cs
others_sum_le f n gone [] = omega arith
others_sum_le f n gone (c ∷ cs) = rw (sum_by-cons f c cs) (at (among n gone) (others_sum_le f (n + 1) gone cs))
  where
    at : (b : Bool) → sum_by f (others_from (n + 1) gone cs) ≤ sum_by f cs → sum_by f (cond b (others_from (n + 1) gone cs) (c ∷ others_from (n + 1) gone cs)) ≤ f c + sum_by f cs
    at true ih = omega (arith, ih)
    at false ih = rw (sum_by-cons f c (others_from (n + 1) gone cs)) (omega (arith, ih))

-- the same cookie stands at its place
place_same : (f : PlainCookie) (cs : List PlainCookie) → place_of f cs < length cs → list_any (λ d. same f d) (take 1 (drop (place_of f cs) cs)) ≡ true
place_same f [] lt = absurd (omega arith)
place_same f (c ∷ cs) lt = at (same f c) refl (λ h. place_same f cs h) lt
  where
    at : (b : Bool) → same f c ≡ b → (place_of f cs < length cs → list_any (λ d. same f d) (take 1 (drop (place_of f cs) cs)) ≡ true)
        → cond (not b) (1 + place_of f cs) 0 < length (c ∷ cs) → list_any (λ d. same f d) (take 1 (drop (cond (not b) (1 + place_of f cs) 0) (c ∷ cs))) ≡ true
    at true is ih h = ap (λ b. b || false) is
    at false is ih h = let e : 1 + place_of f cs ≡ suc (place_of f cs) = omega arith in rw e (ih (omega (arith, h)))

no_copies : (f : PlainCookie) (cs : List PlainCookie) → length cs ≤ place_of f cs → copies f cs ≡ 0
no_copies f [] le = refl
no_copies f (c ∷ cs) le = rw (sum_by-cons (λ d. cond (same f d) 1 0) c cs) (at (same f c) (λ h. no_copies f cs h) le)
  where
    at : (b : Bool) → (length cs ≤ place_of f cs → copies f cs ≡ 0) → length (c ∷ cs) ≤ cond (not b) (1 + place_of f cs) 0 → cond b 1 0 + copies f cs ≡ 0
    at true ih h = absurd (omega (arith, h))
    at false ih h = let none = ih (omega (arith, h)) in omega (arith, none)

-- a put leaves no two same cookies
put_once : (f : PlainCookie) (cs : List PlainCookie) → ((c : PlainCookie) → copies c cs ≤ 1) → (c : PlainCookie) → copies c (put f cs) ≤ 1
put_once f cs once c = at (nat_lt (place_of f cs) (length cs)) refl
  where
    added : (b : Bool) → same c f ≡ b → copies f cs ≡ 0 → copies c cs + cond b 1 0 ≤ 1
    added true is none = omega (arith, copies_alike c f cs is, none)
    added false is none = omega (arith, once c)

    at : (b : Bool) → nat_lt (place_of f cs) (length cs) ≡ b → copies c (put f cs) ≤ 1
    at true is =
        let lt = ltb-true (place_of f cs) (length cs) is in
        let more = sum_by-set (λ d. cond (same c d) 1 0) cs (place_of f cs) f f lt in
        let alike = ap {B = ℕ} (λ b. cond b 1 0) (same_to c f (get_or cs (place_of f cs) f) (found (place_of f cs) cs lt (place_same f cs lt))) in
        rw (put_there f cs lt) (omega (arith, more, alike, once c))
      where
        found : (i : ℕ) (ds : List PlainCookie) → i < length ds → list_any (λ d. same f d) (take 1 (drop i ds)) ≡ true → same f (get_or ds i f) ≡ true
        found i [] lt h = absurd (omega arith)
        found zero (d ∷ ds) lt h = plain (same f d) h
          where
            plain : (b : Bool) → (b || false) ≡ true → b ≡ true
            plain true h = refl
            plain false h = h
        found (suc i) (d ∷ ds) lt h = found i ds (omega arith) h
    at false is =
        let le = ltb-false (place_of f cs) (length cs) is in
        let top = prefix_len-le-length (λ d. not (same f d)) cs in
        rw (put_last f cs (omega (arith, le, top)), sum_by-append (λ d. cond (same c d) 1 0) cs (f ∷ [])) (let one : sum_by (λ d. cond (same c d) 1 0) (f ∷ []) ≡ cond (same c f) 1 0 + 0 = sum_by-cons (λ d. cond (same c d) 1 0) f [] in omega (arith, one, added (same c f) refl (no_copies f cs le)))

-- what stands first from a place that stays
head_now : (n k p : ℕ) (gone : List ℕ) (xs : List PlainCookie) → p ≡ n + k → k < length xs → among p gone ≡ false → take 1 (drop (place_from n gone k) (others_from n gone xs)) ≡ take 1 (drop k xs)
head_now n k p gone [] e lt out = absurd (omega arith)
head_now n zero p gone (x ∷ xs) e lt out =
    let here : p ≡ n = omega (arith, e) in
    let out_here : among n gone ≡ false = ap (λ q. among q gone) (sym here) ∙ out in
    rw out_here refl
head_now n (suc k) p gone (x ∷ xs) e lt out = rw (place_more n gone k) (at (among n gone) (head_now (n + 1) k p gone xs (omega (arith, e)) (omega arith) out))
  where
    at : (b : Bool) → take 1 (drop (place_from (n + 1) gone k) (others_from (n + 1) gone xs)) ≡ take 1 (drop k xs)
        → take 1 (drop (cond (not b) 1 0 + place_from (n + 1) gone k) (cond b (others_from (n + 1) gone xs) (x ∷ others_from (n + 1) gone xs))) ≡ take 1 (drop k xs)
    at true ih = let z : 0 + place_from (n + 1) gone k ≡ place_from (n + 1) gone k = omega arith in rw z ih
    at false ih = let z : 1 + place_from (n + 1) gone k ≡ suc (place_from (n + 1) gone k) = omega arith in rw z ih

-- no two cookies of a cell after a store are the same
pub stored_once : (kind : CellKind) (now : ℤ) (fresh : PlainCookie) (cs : List PlainCookie) → is_expired now fresh ≡ false → ((c : PlainCookie) → copies c cs ≤ 1) → (c : PlainCookie) → copies c (stored kind now fresh cs) ≤ 1
stored_once kind now fresh cs live once c =
    rw (stored_is kind now fresh cs live) (omega (arith, others_sum_le (λ d. cond (same c d) 1 0) 0 (going kind now fresh cs) (put fresh cs), put_once fresh cs once c))

-- the fresh cookie's step replaces the same one
there_now : (kind : CellKind) (now : ℤ) (fresh : PlainCookie) (cs : List PlainCookie)
    → place_now (going kind now fresh cs) (place_of fresh cs) < length (without (going kind now fresh cs) cs)
    → list_any (λ d. same fresh d) (take 1 (drop (place_now (going kind now fresh cs) (place_of fresh cs)) (without (going kind now fresh cs) cs))) ≡ true
there_now kind now fresh cs lt = at (nat_lt (place_of fresh cs) (length cs)) refl
  where
    at : (b : Bool) → nat_lt (place_of fresh cs) (length cs) ≡ b
        → list_any (λ d. same fresh d) (take 1 (drop (place_now (going kind now fresh cs) (place_of fresh cs)) (without (going kind now fresh cs) cs))) ≡ true
    at true is =
        let below = ltb-true (place_of fresh cs) (length cs) is in
        ap (list_any (λ d. same fresh d)) (head_now 0 (place_of fresh cs) (place_of fresh cs) (going kind now fresh cs) cs (omega arith) below (fresh_stays kind now fresh cs)) ∙ place_same fresh cs below
    at false is =
        let end : place_of fresh cs ≡ length cs = omega (arith, ltb-false (place_of fresh cs) (length cs) is, prefix_len-le-length (λ d. not (same fresh d)) cs) in
        let past : place_now (going kind now fresh cs) (place_of fresh cs) ≡ length (without (going kind now fresh cs) cs) = ap (place_now (going kind now fresh cs)) end ∙ place_end 0 (going kind now fresh cs) cs in
        absurd (omega (arith, past, lt))

-- the place of the last step is in the cell, or at its end
put_within : (kind : CellKind) (now : ℤ) (fresh : PlainCookie) (cs : List PlainCookie)
    → place_now (going kind now fresh cs) (place_of fresh cs) ≤ length (without (going kind now fresh cs) cs)
put_within kind now fresh cs = at (nat_lt (place_of fresh cs) (length cs)) refl
  where
    gone : List ℕ
    gone = going kind now fresh cs

    at : (b : Bool) → nat_lt (place_of fresh cs) (length cs) ≡ b → place_now gone (place_of fresh cs) ≤ length (without gone cs)
    at true is = let lt = place_within 0 (place_of fresh cs) (place_of fresh cs) gone cs (omega arith) (ltb-true _ _ is) (fresh_stays kind now fresh cs) in omega (arith, lt)
    at false is =
        let end : place_of fresh cs ≡ length cs = omega (arith, ltb-false (place_of fresh cs) (length cs) is, prefix_len-le-length (λ d. not (same fresh d)) cs) in
        let past : place_now gone (place_of fresh cs) ≡ length (without gone cs) = ap (place_now gone) end ∙ place_end 0 gone cs in
        omega (arith, past)

-- so the fresh cookie can be put there, after the removals
pub last_put : (kind : CellKind) (now : ℤ) (fresh : PlainCookie) (cs : List PlainCookie) → counted kind fresh ≤ 10240 → ((c : PlainCookie) → copies c cs ≤ 1) → is_expired now fresh ≡ false
    → let gone = going kind now fresh cs in IsPut kind fresh (after_steps fresh cs (removals cs [] gone)) (place_now gone (place_of fresh cs))
last_put kind now fresh cs small once live =
    let gone = going kind now fresh cs in
    let first = removals cs [] gone in
    let cur = after_steps fresh cs first in
    let place = place_now gone (place_of fresh cs) in
    let last = put_step place cur in
    let left : without gone cs ≡ cur = sym (removals_from_all fresh cs gone (going_apart kind now fresh cs)) in
    let whole : stored kind now fresh cs ≡ after_step fresh cur last = rw live (fold-append (after_step fresh) cs first (last ∷ [])) in
    record {
      inside = subst (λ xs. place ≤ length xs) left (put_within kind now fresh cs);
      there = subst (λ xs. place < length xs → list_any (λ d. same fresh d) (take 1 (drop place xs)) ≡ true) left (there_now kind now fresh cs);
      limits = ap (keeps_limits kind) (sym whole) ∙ stored_fits kind now fresh cs live small;
      once = λ c. subst (λ xs. copies c xs ≤ 1) whole (stored_once kind now fresh cs live once c);
    }

-- the row changes of one step alone
one_fits : (kind : CellKind) (fresh : PlainCookie) (k : List PlainCookie) (s : JarStep) → AreFitting kind k (rows_of_step fresh s) → AreFitting kind k (rows_of_steps fresh (s ∷ []))
one_fits kind fresh k s fits = subst (AreFitting kind k) (sym (append-nil (rows_of_step fresh s))) fits

live_fit : (kind : CellKind) (fresh : PlainCookie) (cs : List PlainCookie) (gone : List ℕ) (place : ℕ)
    → let first = removals cs [] gone in let cur = after_steps fresh cs first in
    IsPut kind fresh cur place → AreFitting kind (persistent_part cs) (rows_of_steps fresh (first ++ put_step place cur ∷ []))
live_fit kind fresh cs gone place put =
    let first = removals cs [] gone in
    let cur = after_steps fresh cs first in
    let last = put_step place cur in
    subst (AreFitting kind (persistent_part cs)) (sym (flat_map-append (rows_of_step fresh) first (last ∷ [])))
    (fits_append kind (persistent_part cs) (rows_of_steps fresh first) (rows_of_steps fresh (last ∷ [])) (removals_fit kind fresh cs [] gone)
    (subst (λ k. AreFitting kind k (rows_of_steps fresh (last ∷ []))) (sym (steps_kept fresh cs first (removals_right fresh cs [] gone)))
    (one_fits kind fresh (persistent_part cur) last (last_fits kind fresh place cur put))))

-- the row changes of a store are valid one after another
pub rows_fit : (kind : CellKind) (now : ℤ) (fresh : PlainCookie) (cs : List PlainCookie) → counted kind fresh ≤ 10240 → ((c : PlainCookie) → copies c cs ≤ 1)
    → AreFitting kind (persistent_part cs) (rows_of_steps fresh (steps kind now fresh cs))
rows_fit kind now fresh cs small once = at (is_expired now fresh) refl
  where
    gone_row : (b : Bool) → AreFitting kind (persistent_part cs) (rows_of_steps fresh (cond b (remove_step (place_of fresh cs) cs ∷ []) []))
    gone_row true = one_fits kind fresh (persistent_part cs) (remove_step (place_of fresh cs) cs) (remove_fits kind (place_of fresh cs) cs)
    gone_row false = tt

    at : (b : Bool) → is_expired now fresh ≡ b → AreFitting kind (persistent_part cs) (rows_of_steps fresh (cond b (removal_at (place_of fresh cs) cs) (live_steps kind now fresh cs)))
    at true is = gone_row (nat_lt (place_of fresh cs) (length cs))
    at false is = live_fit kind fresh cs (going kind now fresh cs) (place_now (going kind now fresh cs) (place_of fresh cs)) (last_put kind now fresh cs small once is)

-- and lead from what was kept to what is kept
pub valid_rows : (kind : CellKind) (now : ℤ) (fresh : PlainCookie) (cs : List PlainCookie) → counted kind fresh ≤ 10240 → ((c : PlainCookie) → copies c cs ≤ 1)
    → apply_rows kind (persistent_part cs) (rows_of_steps fresh (steps kind now fresh cs)) ≡ persistent_part (stored kind now fresh cs)
valid_rows kind now fresh cs small once =
    fitting_done kind (persistent_part cs) (rows_of_steps fresh (steps kind now fresh cs)) (rows_fit kind now fresh cs small once) ∙ rows_keep kind now fresh cs
