-- Places that are picked from cookies, and from what contracts see of them.
use Rattle.std.proofs.Common.{◌≡◌, ℕ, ◌+◌, ◌<◌, ◌≤◌, ◌++◌, ◌∙◌, suc, Bool, true, false, cond, List, [], ◌∷◌, arith, append-nil, append_assoc, drop, drop-cons, get_or, length, map, refl, sym, ap}
use Rattle.std.specs.List.{filter, enumerate_from}
use Rattle.std.proofs.lemmas.List.{drop_all}
use Rattle.cookie_jar.specs.declared.cookie.Cookie.{Cookie}
use Rattle.cookie_jar.specs.Cookie.{PlainCookie}
use Rattle.cookie_jar.specs.Plain.{plain_cookie}

pub places_plain : (p : PlainCookie → Bool) (n : ℕ) (xs : List Cookie)
    → map (λ c. c.0) (filter (λ c. p (plain_cookie c.1)) (enumerate_from n xs)) ≡ map (λ c. c.0) (filter (λ c. p c.1) (enumerate_from n (map plain_cookie xs)))
places_plain p n [] = refl
places_plain p n (x ∷ xs) = at (p (plain_cookie x)) (places_plain p (n + 1) xs)
  where
    at : (b : Bool) → map (λ c. c.0) (filter (λ c. p (plain_cookie c.1)) (enumerate_from (n + 1) xs)) ≡ map (λ c. c.0) (filter (λ c. p c.1) (enumerate_from (n + 1) (map plain_cookie xs)))
        → map {A = ℕ × Cookie} (λ c. c.0) (cond b ((n, x) ∷ filter (λ c. p (plain_cookie c.1)) (enumerate_from (n + 1) xs)) (filter (λ c. p (plain_cookie c.1)) (enumerate_from (n + 1) xs)))
        ≡ map {A = ℕ × PlainCookie} (λ c. c.0) (cond b ((n, plain_cookie x) ∷ filter (λ c. p c.1) (enumerate_from (n + 1) (map plain_cookie xs))) (filter (λ c. p c.1) (enumerate_from (n + 1) (map plain_cookie xs))))
    at true ih = ap (λ r. n ∷ r) ih
    at false ih = ih

-- ---- places one after another

module _ (test : ℕ × Cookie → Bool) where
  abbrev pub places_from : ℕ → List Cookie → List ℕ
  places_from n xs = map (λ c. c.0) (filter test (enumerate_from n xs))

  -- the cookie at a place, among those that are left
  module _ (xs : List Cookie) (k : ℕ) (x : Cookie) (less : k < length xs) (is : x ≡ get_or xs k x) where
    left : drop k xs ≡ x ∷ drop (k + 1) xs
    left =
        let next : suc k ≡ k + 1 = omega arith in
        drop-cons xs k x less ∙ ap (λ y. y ∷ drop (suc k) xs) (sym is) ∙ ap (λ n. x ∷ drop n xs) next

    by_test : (b : Bool) → test (k, x) ≡ b → places_from k (drop k xs) ≡ cond b (k ∷ places_from (k + 1) (drop (k + 1) xs)) (places_from (k + 1) (drop (k + 1) xs))
    by_test b tells =
        ap (places_from k) left
        ∙ ap (λ t. map {A = ℕ × Cookie} {B = ℕ} (λ c. c.0) (cond t ((k, x) ∷ filter test (enumerate_from (k + 1) (drop (k + 1) xs))) (filter test (enumerate_from (k + 1) (drop (k + 1) xs))))) tells
        ∙ at b
      where
        at : (b : Bool) → map {A = ℕ × Cookie} {B = ℕ} (λ c. c.0) (cond b ((k, x) ∷ filter test (enumerate_from (k + 1) (drop (k + 1) xs))) (filter test (enumerate_from (k + 1) (drop (k + 1) xs))))
            ≡ cond b (k ∷ places_from (k + 1) (drop (k + 1) xs)) (places_from (k + 1) (drop (k + 1) xs))
        at true = refl
        at false = refl

    pub next_goes : (done new all : List ℕ) → new ≡ done ++ k ∷ [] → test (k, x) ≡ true → done ++ places_from k (drop k xs) ≡ all
        → new ++ places_from (k + 1) (drop (k + 1) xs) ≡ all
    next_goes done new all put goes so_far =
        ap (λ places. places ++ places_from (k + 1) (drop (k + 1) xs)) put
        ∙ append_assoc done (k ∷ []) (places_from (k + 1) (drop (k + 1) xs))
        ∙ ap (λ places. done ++ places) (sym (by_test true goes)) ∙ so_far

    pub next_stays : (done new all : List ℕ) → new ≡ done → test (k, x) ≡ false → done ++ places_from k (drop k xs) ≡ all
        → new ++ places_from (k + 1) (drop (k + 1) xs) ≡ all
    next_stays done new all put stays so_far =
        ap (λ places. places ++ places_from (k + 1) (drop (k + 1) xs)) put
        ∙ ap (λ places. done ++ places) (sym (by_test false stays)) ∙ so_far

  pub none_left : (xs : List Cookie) (k : ℕ) (done all : List ℕ) → length xs ≤ k → done ++ places_from k (drop k xs) ≡ all → done ≡ all
  none_left xs k done all past so_far =
      sym (append-nil done) ∙ ap (λ rest. done ++ places_from k rest) (sym (drop_all k xs past)) ∙ so_far
