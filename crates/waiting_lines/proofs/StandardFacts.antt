-- Values from outside, so that a wrong rule in the specs does not check.
use Rattle.std.proofs.Common.{◌≡◌, refl, Some, [], ◌∷◌}
use Rattle.waiting_lines.specs.Waiting.{TakesFront, most_waiting}

-- 64 KiB
limit : most_waiting ≡ 65536
limit = refl

-- of 1, 2, 3 the first was taken behind 9, and the others wait
front : TakesFront (Some (9 ∷ [])) (Some (9 ∷ 1 ∷ [])) (1 ∷ 2 ∷ 3 ∷ []) (2 ∷ 3 ∷ [])
front = (1 ∷ [], (refl, refl))
