-- The longest rule at labels, from that behind their first.
use Rattle.std.proofs.Common.{◌≡◌, ℕ, suc, Bool, true, false, cond, List, [], ◌∷◌, length, refl, ap, ◌∙◌, sym}
use Rattle.std.specs.Prelude.{max, ◌&&◌}
use Rattle.std.specs.List.{list_any}
use Rattle.std.proofs.lemmas.Bool.{cond-false}
use Rattle.suffix_list.specs.Suffix.{Rule, covers}
use Rattle.suffix_list.specs.Names.{longest}

-- the longest rule is one that covers all labels, or that behind the first label
pub longest_step : (test : Rule → Bool) (rules : List Rule) (labels : List (List ℕ)) (label : List ℕ) (rest : List (List ℕ)) → labels ≡ label ∷ rest
    → longest test rules labels ≡ cond (list_any (λ rule. test rule && covers labels rule) rules) (length labels) (longest test rules rest)
longest_step test rules labels label rest same =
    ap (longest test rules) same
    ∙ (λ i. cond (list_any (λ rule. test rule && covers (sym same i) rule) rules) (length (sym same i)) (longest test rules rest))

-- none covers all labels: the longest is that behind the first label
pub longest_later : (test : Rule → Bool) (rules : List Rule) (labels : List (List ℕ)) (label : List ℕ) (rest : List (List ℕ)) → labels ≡ label ∷ rest
    → list_any (λ rule. test rule && covers labels rule) rules ≡ false → longest test rules labels ≡ longest test rules rest
longest_later test rules labels label rest same out =
    ap (longest test rules) same
    ∙ cond-false (list_any (λ rule. test rule && covers (label ∷ rest) rule) rules) (suc (length rest)) (longest test rules rest)
    (sym (ap (λ ls. list_any (λ rule. test rule && covers ls rule) rules) same) ∙ out)

-- the longest that covers a single label, and the rule `*`
pub longest_last : (test : Rule → Bool) (rules : List Rule) (labels : List (List ℕ)) (label : List ℕ) → labels ≡ label ∷ []
    → max 1 (longest test rules labels) ≡ 1
longest_last test rules labels label same = ap (λ ls. max 1 (longest test rules ls)) same ∙ by (list_any (λ rule. test rule && covers (label ∷ []) rule) rules)
  where
    by : (b : Bool) → max 1 (cond b 1 0) ≡ 1
    by true = refl
    by false = refl
