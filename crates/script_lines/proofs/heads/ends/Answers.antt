-- A byte that ends a value is there, or none is.
use Rattle.std.proofs.Common.{◌≡◌, ℕ, Bool, true, false, List, ◌==◌, get_or, Option, Some, None, refl, sym, ◌∙◌, arith}
use Rattle.std.specs.Prelude.{◌||◌, is_some}
use Rattle.std.specs.List.{list_any}
use Rattle.std.proofs.lemmas.List.Elements.{All-from_get_or}
use Rattle.std.proofs.lemmas.List.Folds.{list_any_at, list_any_none}
use Rattle.memchr.specs.Find.{IsFirstByte, is_byte3}
use Rattle.script_lines.specs.Heads.{ends_a_value}
use Rattle.script_lines.proofs.PlaceLemmas.{fails}
use Rattle.script_lines.proofs.heads.ends.Goals as goal

same : (b : ℕ) → is_byte3 0 10 13 b ≡ ends_a_value b
same b = at (b == 0) (b == 10) (b == 13)
  where
    at : (p q r : Bool) → ((p || q) || r) ≡ (p || (q || r))
    at true q r = refl
    at false q r = refl

found : (bytes : List ℕ) (place : Option ℕ) → IsFirstByte (is_byte3 0 10 13) bytes place → is_some place ≡ list_any ends_a_value bytes
found bytes (Some place) is = sym (list_any_at ends_a_value bytes place 0 is.0.high (sym (same (get_or bytes place 0)) ∙ is.1))
found bytes None is =
    sym (list_any_none ends_a_value bytes (All-from_get_or (λ b. ends_a_value b ≡ false) bytes 0
    (λ k lt. fails (ends_a_value (get_or bytes k 0)) (λ so. is k (omega arith) lt (same (get_or bytes k 0) ∙ so)))))

pub returns : goal.returns
returns c = c.is_some.ensures ∙ found c.args.value.now c.memchr3.result c.memchr3.ensures
