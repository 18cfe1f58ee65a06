-- The lines of a list one after another. Only private functions see it.
use Rattle.std.specs.Prelude.{ℕ, ◌+◌, nat_le, if◌then◌else◌, List, [], ◌∷◌, ◌++◌, length, Option, Some, None, Result, Ok, Err}
use Rattle.suffix_list.specs.declared.fault.ListFault.{ListFault}
use Rattle.suffix_list.specs.declared.fault.ListFault.TheVariants.{BadRule, TooManyRules}
use Rattle.suffix_list.specs.Suffix.{Rule}
use Rattle.suffix_list.specs.ListText.{is_bad, lines_of, rule_in, rule_limit}

-- the lines of what follows a line, if anything does
abbrev pub lines_after : Option (List ℕ) → List (List ℕ)
lines_after None = []
lines_after (Some rest) = lines_of rest

-- the rules with one more, if there is one
abbrev pub with_rule : ℕ → List Rule → Option Rule → Result (List Rule) ListFault
with_rule number rules None = Ok rules
with_rule number rules (Some rule) =
    if nat_le rule_limit (length rules) then Err (TooManyRules number) else Ok (rules ++ rule ∷ [])

-- the rules after the line of this number
abbrev pub rules_after : ℕ → List Rule → List ℕ → Result (List Rule) ListFault
rules_after number rules line =
    if is_bad line then Err (BadRule number) else with_rule number rules (rule_in line)

-- rules, or the fault of a line
abbrev pub Outcome : Type 0
Outcome = Result (List Rule) ListFault

-- what follows from the rules, unless there is a fault
abbrev pub unless_faulty : (List Rule → Outcome) → Outcome → Outcome
unless_faulty later (Ok rules) = later rules
unless_faulty later (Err why) = Err why

-- the rules after these lines, the first of which has this number
abbrev pub rules_from : ℕ → List Rule → List (List ℕ) → Result (List Rule) ListFault
rules_from number rules [] = Ok rules
rules_from number rules (line ∷ lines) =
    unless_faulty (λ more. rules_from (number + 1) more lines) (rules_after number rules line)
