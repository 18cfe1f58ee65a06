-- What a line between line feeds is, and where one ends.
use Rattle.std.proofs.Common.{◌≡◌, ℕ, suc, ◌+◌, ◌<◌, ◌==◌, Bool, true, false, not, List, [], ◌∷◌, ◌++◌, Some, None, length, get_or, take, drop, refl, arith}
use Rattle.std.proofs.lemmas.Bool.{eq-eqb, eqb-true, ne_eqb}
use Rattle.std.proofs.lemmas.Grind.{common_steps}
use Rattle.std.proofs.lemmas.List.Sums.{AllPass-from_list_all}
use Rattle.std.specs.List.{All}
use Rattle.memchr.specs.Find.{IsFirstByte}
use Rattle.line_session.specs.Asked.{is_one_line}

no_feed : (x : Bool) → not x ≡ true → x ≡ false
no_feed true other = cc
no_feed false other = refl

-- no byte of one line is a line feed
pub no_feeds : (line : List ℕ) → is_one_line line ≡ true → All (λ b. (b == 10) ≡ false) line
no_feeds line one = λ k d within. no_feed _ (AllPass-from_list_all (λ b. not (b == 10)) line one k d within)

-- ---- the first line feed

one_line : (line : List ℕ) → ((k : ℕ) → k < length line → get_or line k 0 ≡ 10 → ⊥) → is_one_line line ≡ true
one_line [] none = refl
one_line (x ∷ xs) none =
    let later = one_line xs (λ k inside. none (suc k) (omega arith)) in
    rw (ne_eqb x 10 (none 0 (omega arith))) later

-- bytes without one are of one line
pub all_one_line : (rest : List ℕ) → IsFirstByte (λ b. b == 10) rest None → is_one_line rest ≡ true
all_one_line rest none = one_line rest (λ k inside is. none k (omega arith) inside (eq-eqb _ 10 is))

module _ (rest : List ℕ) (end : ℕ) (first : IsFirstByte (λ b. b == 10) rest (Some end)) where
  -- what stands in front of it is of one line
  pub front_one_line : is_one_line (take end rest) ≡ true
  front_one_line = one_line (take end rest)
      (λ k below is.
      let inside = first.0.high in
      let before : k < end = grind (arith, common_steps) in
      let same : get_or (take end rest) k 0 ≡ get_or rest k 0 = grind (arith, common_steps) in
      first.0.before k (omega arith) before (eq-eqb _ 10 (rw same at is)))

  pub at_feed : rest ≡ take end rest ++ 10 ∷ drop (end + 1) rest
  at_feed =
      let inside = first.0.high in
      let is : get_or rest end 0 ≡ 10 = eqb-true (get_or rest end 0) 10 first.1 in
      grind (arith, common_steps)
