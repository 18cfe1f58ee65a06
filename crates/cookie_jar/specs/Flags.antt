-- Steps read off flags that say which cookies are persistent, as private contracts have it.
use Rattle.std.specs.Prelude.{ℕ, Bool, nat_lt, List, length, take, drop, if◌then◌else◌}
use Rattle.std.specs.List.{count_by, list_any}
use Rattle.cookie_jar.specs.declared.step.JarStep.{JarStep}
use Rattle.cookie_jar.specs.declared.step.JarStep.TheVariants.{Insert, Replace, Remove}

-- the flags before a place that are set
abbrev pub flag_rank : ℕ → List Bool → ℕ
flag_rank place flags = count_by (λ b. b) (take place flags)

-- whether the flag at a place is set
abbrev pub flag_at : ℕ → List Bool → Bool
flag_at place flags = list_any (λ b. b) (take 1 (drop place flags))

-- the removal at a place
abbrev pub flag_removal : ℕ → List Bool → JarStep
flag_removal place flags = Remove place (flag_rank place flags) (flag_at place flags)

-- the step that puts a cookie at a place
abbrev pub flag_put : ℕ → List Bool → JarStep
flag_put place flags =
    if nat_lt place (length flags) then
    Replace place (flag_rank place flags) (flag_at place flags)
    else Insert place (flag_rank place flags)
