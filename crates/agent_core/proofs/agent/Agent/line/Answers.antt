-- An agent that is not up answers so, and nothing changes.
use Rattle.std.proofs.Common.{inl, inr, refl}
use Rattle.agent_core.proofs.LineLemmas.{never_up, not_power, stays_down}
use Rattle.agent_core.proofs.agent.Agent.line.Goals as goal

pub returns-in-Down-clause-means : goal.returns-in-Down-clause-means
returns-in-Down-clause-means g c = rw (← c.self.view_is) (λ a seen fits.
    (a, seen, stays_down _ _ _ a _ _ c.in-Down.is seen))

pub returns-in-Down-clause-any_moment : goal.returns-in-Down-clause-any_moment
returns-in-Down-clause-any_moment g c = rw (← c.self.view_is) (λ a seen is_up.
    absurd (never_up _ _ a seen (inl c.in-Down.is) is_up))

pub returns-in-Down-clause-device : goal.returns-in-Down-clause-device
returns-in-Down-clause-device g c = rw (← c.self.view_is) (λ up.
    absurd (not_power _ (inl c.in-Down.is) up))

pub returns-in-Spoilt-clause-means : goal.returns-in-Spoilt-clause-means
returns-in-Spoilt-clause-means g c = rw (← c.self.view_is) (λ a seen fits.
    (a, seen, (refl, λ d n left. left)))

pub returns-in-Spoilt-clause-any_moment : goal.returns-in-Spoilt-clause-any_moment
returns-in-Spoilt-clause-any_moment g c = rw (← c.self.view_is) (λ a seen is_up.
    absurd (never_up _ _ a seen (inr c.in-Spoilt.is) is_up))

pub returns-in-Spoilt-clause-device : goal.returns-in-Spoilt-clause-device
returns-in-Spoilt-clause-device g c = rw (← c.self.view_is) (λ up.
    absurd (not_power _ (inr c.in-Spoilt.is) up))

pub returns-in-Up-clause-off : goal.returns-in-Up-clause-off
returns-in-Up-clause-off g c = rw (← c.self.view_is) (λ off. absurd (off c.in-Up.is))

pub returns-in-Up-clause-means : goal.returns-in-Up-clause-means
returns-in-Up-clause-means g c = c.run.ensures.runs.means

pub returns-in-Up-clause-any_moment : goal.returns-in-Up-clause-any_moment
returns-in-Up-clause-any_moment g c = c.run.ensures.runs.any_moment

pub returns-in-Up-clause-rules : goal.returns-in-Up-clause-rules
returns-in-Up-clause-rules g c = c.run.ensures.runs.rules

pub returns-in-Up-clause-device : goal.returns-in-Up-clause-device
returns-in-Up-clause-device g c = λ up. c.run.ensures.runs.device

pub returns-in-Up-clause-idle : goal.returns-in-Up-clause-idle
returns-in-Up-clause-idle g c = c.run.ensures.runs.idle

pub returns-in-Up-clause-waits : goal.returns-in-Up-clause-waits
returns-in-Up-clause-waits g c = c.run.ensures.runs.waits

pub returns-in-Up-clause-spares : goal.returns-in-Up-clause-spares
returns-in-Up-clause-spares g c = c.run.ensures.runs.spares

pub returns-in-Up-clause-tried : goal.returns-in-Up-clause-tried
returns-in-Up-clause-tried g c = λ up. c.run.ensures.runs.tried

pub returns-in-Down-clause-tried : goal.returns-in-Down-clause-tried
returns-in-Down-clause-tried g c = rw (← c.self.view_is) (λ up.
    absurd (not_power _ (inl c.in-Down.is) up))

pub returns-in-Spoilt-clause-tried : goal.returns-in-Spoilt-clause-tried
returns-in-Spoilt-clause-tried g c = rw (← c.self.view_is) (λ up.
    absurd (not_power _ (inr c.in-Spoilt.is) up))
