use Rattle.std.proofs.Common.{◌≡◌, ◌∷◌, List, ℕ, length, arith, ap, ◌∙◌, subst, refl, rules}
use Rattle.disk_model.specs.Disk.{Written}
use Rattle.journal.specs.Opening.{IsGrown}
use Rattle.journal.proofs.Moments.{goes_back, goes_weaker}
use Rattle.journal.proofs.Opened.{made_grown}
use Rattle.journal.proofs.Birth.{born_parts, is_second, opened, head_long}
use Rattle.journal.proofs.opening.make.Goals as goal

pub returns-clause-made : goal.returns-clause-made
returns-clause-made g c = λ d told.
    let digest = c.args.digest.now in
    let size : length digest ≡ 32 = search rules in
    let block = c.deref.ensures.value ∙ c.in-Ok.ensures in
    let was = goes_back _ _ _ d c.in-Ok-write_head.ensures.written told in
    let written = subst (λ (b : List ℕ). Written 0 (1 ∷ b) was.2.0 d) block was.2.2 in
    let o = opened digest was.2.0 d written in
    let parts = born_parts digest d size o.1 o.0 in
    record { kept = digest; head = parts.0; from = omega arith; fits = omega arith; frames_at = parts.1; sound = tt; second = is_second digest d size o.1; under = refl; end = refl; last = refl; base = refl }

pub returns-clause-long : goal.returns-clause-long
returns-clause-long g c =
    let V = g.D.Disk.view in
    let digest = c.args.digest.now in
    let size : length digest ≡ 32 = search rules in
    let block = c.deref.ensures.value ∙ c.in-Ok.ensures in
    goes_weaker _ IsGrown (V c.args.disk.now).contents (V c.write_head.new.disk).contents c.in-Ok-write_head.ensures.written
    (λ x d is w. made_grown c.deref.result.now x d (ap length block ∙ head_long digest size) w)

pub returns-in_default-write_head-clause-calls : goal.returns-in_default-write_head-clause-calls
returns-in_default-write_head-clause-calls g c = λ x is.
    let made = c.write_head.ensures.calls x is in
    record { later = made.later; most = made.most; all = tt }

pub returns-in_default-write_head-clause-any_moment : goal.returns-in_default-write_head-clause-any_moment
returns-in_default-write_head-clause-any_moment g c = λ x is.
    let size : length c.args.digest.now ≡ 32 = search rules in
    c.write_head.ensures.any_moment x c.args.digest.now is size (c.deref.ensures.value ∙ c.in-Ok.ensures)

pub returns-clause-any_moment : goal.returns-clause-any_moment
returns-clause-any_moment g c = λ x is.
    let size : length c.args.digest.now ≡ 32 = search rules in
    c.write_head.ensures.any_moment x c.args.digest.now is size (c.deref.ensures.value ∙ c.in-Ok.ensures)
