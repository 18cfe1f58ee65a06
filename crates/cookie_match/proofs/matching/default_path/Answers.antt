use Rattle.std.proofs.Common.{arith, ◌≡◌, ◌≤◌, Bool, true, false, length, refl, subst}
use Rattle.std.specs.Prelude.{nat_lt}
use Rattle.std.specs.Str.{IsCharBoundary}
use Rattle.std.proofs.lemmas.Bool.{ltb-true, ltb-false}
use Rattle.std.proofs.lemmas.Str.{IsCharBoundary-start}
use Rattle.cookie_match.proofs.matching.default_path.Goals as goal

pub range-requires-clause-end_boundary : goal.range-requires-clause-end_boundary
range-requires-clause-end_boundary c = at (nat_lt 0 c.last_slash.result) refl
  where
    at : (b : Bool) → nat_lt 0 c.last_slash.result ≡ b → IsCharBoundary c.args.path.now c.last_slash.result
    at true is =
        let below = c.last_slash.ensures.cut (ltb-true 0 c.last_slash.result is) in
        let within : c.last_slash.result ≤ length c.args.path.now = omega (arith, c.last_slash.ensures.value) in
        (within, λ lt wide. absurd (omega (arith, below, wide)))
    at false is =
        let none : 0 ≡ c.last_slash.result = omega (arith, ltb-false 0 c.last_slash.result is) in
        subst (IsCharBoundary c.args.path.now) none (IsCharBoundary-start c.args.path.now c.utf8.path)
