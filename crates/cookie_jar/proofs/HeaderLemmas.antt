-- The text of cookies that go out, one after another.
use Rattle.std.proofs.Common.{◌≡◌, ℕ, zero, suc, ◌+◌, ◌<◌, ◌≤◌, Bool, List, [], ◌∷◌, ◌++◌, map, take, drop, length, get_or, refl, ap, ◌∙◌, sym, arith}
use Rattle.std.specs.Prelude.{codes, Some, None, is_some, unwrap_or, slice_get, flat_map, fold}
use Rattle.std.proofs.lemmas.Bool.{false≢true}
use Rattle.std.proofs.lemmas.List.{append_assoc, append-nil, map-append, take_more}
use Rattle.std.proofs.lemmas.Grind.{flat_map-append}
use Rattle.std.proofs.lemmas.List.Sums.{fold-append}
use Rattle.cookie_jar.specs.declared.header_text.Sent.{Sent}
use Rattle.cookie_jar.specs.Cookie.{PlainCookie}
use Rattle.cookie_jar.specs.Sending.{PlainSent, sent_at, sent_of, in_order, joined, pair_text}
use Rattle.cookie_jar.specs.Sent.{plain_sent}
use Rattle.cookie_jar.specs.Plain.{plain_cookie}

-- one more pair
pair_more : (s : PlainSent) (ss : List PlainSent) (t : PlainSent) → joined (s ∷ (ss ++ t ∷ [])) ≡ joined (s ∷ ss) ++ (codes "; " ++ pair_text t.cookie)
pair_more s ss t =
    let front = flat_map (λ (u : PlainSent). codes "; " ++ pair_text u.cookie) ss in
    ap (λ r. pair_text s.cookie ++ r) (flat_map-append (λ (u : PlainSent). codes "; " ++ pair_text u.cookie) ss (t ∷ []) ∙ ap (λ r. front ++ r) (append-nil (codes "; " ++ pair_text t.cookie)))
    ∙ sym (append_assoc (pair_text s.cookie) front (codes "; " ++ pair_text t.cookie))

next_is : (xs : List Sent) (i : ℕ) (y : Sent) (text : List ℕ) → i < length xs → 0 < i → text ≡ joined (map plain_sent (take i xs))
    → (text ++ codes "; ") ++ pair_text (plain_cookie y.cookie.now) ≡ joined (map plain_sent (take i xs ++ y ∷ []))
next_is [] i y text lt pos so_far = absurd (omega arith)
next_is (x ∷ xs) zero y text lt pos so_far = absurd (omega arith)
next_is (x ∷ xs) (suc i) y text lt pos so_far =
    append_assoc text (codes "; ") (pair_text (plain_cookie y.cookie.now)) ∙ ap (λ t. t ++ (codes "; " ++ pair_text (plain_cookie y.cookie.now))) so_far
    ∙ sym (ap (λ r. joined (plain_sent x ∷ r)) (map-append plain_sent (take i xs) (y ∷ [])) ∙ pair_more (plain_sent x) (map plain_sent (take i xs)) (plain_sent y))

-- a loop's step: one more pair behind others
pub joined_next : (xs : List Sent) (i : ℕ) (y : Sent) (text new : List ℕ) → i < length xs → 0 < i → y ≡ get_or xs i y → text ≡ joined (map plain_sent (take i xs))
    → new ≡ (text ++ codes "; ") ++ pair_text (plain_cookie y.cookie.now) → new ≡ joined (map plain_sent (take (i + 1) xs))
joined_next xs i y text new lt pos is so_far pushed =
    pushed ∙ next_is xs i y text lt pos so_far
    ∙ sym (ap (λ ys. joined (map plain_sent ys)) (take_more xs i y lt ∙ ap (λ z. take i xs ++ z ∷ []) (sym is)))

first_is : (xs : List Sent) (i : ℕ) (y : Sent) (text : List ℕ) → i ≤ 0 → text ≡ joined (map plain_sent (take i xs))
    → text ++ pair_text (plain_cookie y.cookie.now) ≡ joined (map plain_sent (take i xs ++ y ∷ []))
first_is xs zero y text none so_far = ap (λ t. t ++ pair_text (plain_cookie y.cookie.now)) so_far ∙ sym (append-nil (pair_text (plain_cookie y.cookie.now)))
first_is xs (suc i) y text none so_far = absurd (omega arith)

-- the same of the first pair
pub joined_first : (xs : List Sent) (i : ℕ) (y : Sent) (text new : List ℕ) → i < length xs → i ≤ 0 → y ≡ get_or xs i y → text ≡ joined (map plain_sent (take i xs))
    → new ≡ text ++ pair_text (plain_cookie y.cookie.now) → new ≡ joined (map plain_sent (take (i + 1) xs))
joined_first xs i y text new lt none is so_far pushed =
    pushed ∙ first_is xs i y text none so_far
    ∙ sym (ap (λ ys. joined (map plain_sent ys)) (take_more xs i y lt ∙ ap (λ z. take i xs ++ z ∷ []) (sym is)))

-- what is read at a place
pub some_there : (cs : List PlainCookie) (p : ℕ) (c : PlainCookie) → Some c ≡ slice_get cs p → take 1 (drop p cs) ≡ c ∷ []
some_there [] p c h = absurd (false≢true (sym (ap is_some h)))
some_there (d ∷ ds) zero c h = ap (λ o. unwrap_or o d ∷ []) (sym h)
some_there (d ∷ ds) (suc p) c h = some_there ds p c h

none_there : (cs : List PlainCookie) (p : ℕ) → None ≡ slice_get cs p → take 1 (drop p cs) ≡ []
none_there [] zero h = refl
none_there [] (suc p) h = refl
none_there (d ∷ ds) zero h = absurd (false≢true (ap is_some h))
none_there (d ∷ ds) (suc p) h = none_there ds p h

-- a place without a cookie
pub none_added : (partitioned : Bool) (cs : List PlainCookie) (p : ℕ) (order : List PlainSent) → None ≡ slice_get cs p → order ≡ fold in_order order (sent_at partitioned cs p)
none_added partitioned cs p order h = sym (ap (λ found. fold in_order order (map (λ c. record { partitioned = partitioned; place = p; cookie = c }) found)) (none_there cs p h))

-- a place with one
pub one_added : (partitioned : Bool) (cs : List PlainCookie) (p : ℕ) (order : List PlainSent) (c : PlainCookie) → Some c ≡ slice_get cs p
    → in_order order (record { partitioned = partitioned; place = p; cookie = c }) ≡ fold in_order order (sent_at partitioned cs p)
one_added partitioned cs p order c h = sym (ap (λ found. fold in_order order (map (λ c. record { partitioned = partitioned; place = p; cookie = c }) found)) (some_there cs p c h))

-- a loop's step: one more place
pub sent_next : (partitioned : Bool) (ps : List ℕ) (i : ℕ) (cs : List PlainCookie) (order : List PlainSent) → i < length ps
    → fold in_order order (sent_of partitioned (take (i + 1) ps) cs) ≡ fold in_order (fold in_order order (sent_of partitioned (take i ps) cs)) (sent_at partitioned cs (get_or ps i 0))
sent_next partitioned ps i cs order lt =
    ap (λ qs. fold in_order order (sent_of partitioned qs cs)) (take_more ps i 0 lt)
    ∙ ap (fold in_order order) (flat_map-append (sent_at partitioned cs) (take i ps) (get_or ps i 0 ∷ []) ∙ ap (λ r. sent_of partitioned (take i ps) cs ++ r) (append-nil (sent_at partitioned cs (get_or ps i 0))))
    ∙ fold-append in_order order (sent_of partitioned (take i ps) cs) (sent_at partitioned cs (get_or ps i 0))
