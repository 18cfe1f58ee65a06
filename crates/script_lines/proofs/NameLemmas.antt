-- The rows that names stand for are those of the table.
use Rattle.std.proofs.Common.{◌≡◌, ℕ, Bool, true, false, cond, List, [], ◌∷◌, map, Option, Some, option_map, Result, refl, subst, sym}
use Rattle.std.specs.Prelude.{codes}
use Rattle.serde_json.specs.Data.{Data}
use Rattle.case_tables.specs.Rows.{first_value}
use Rattle.script_lines.specs.Steps.{by_row}
use Rattle.script_lines.specs.Names.{row_of}
use Rattle.script_lines.specs.Plain.{Reads}
use Rattle.script_actions.specs.Plain.{step_of}
use Rattle.script_actions.specs.declared.step.Step.{Step}
use Rattle.script_lines.specs.declared.script.ScriptFault.{ScriptFault}
use Rattle.script_lines.specs.declared.actions.ActionName.{ActionName}
use Rattle.script_lines.specs.declared.actions.ActionName.TheVariants as name

-- the names of the actions in the order of the table
abbrev pub names : List (List ℕ × ActionName)
names =
    (codes "tick", name.Tick)
    ∷ (codes "restart", name.Restart)
    ∷ (codes "open", name.Open)
    ∷ (codes "close", name.Close)
    ∷ (codes "go", name.Go)
    ∷ (codes "frame", name.Frame)
    ∷ (codes "nav", name.Nav)
    ∷ (codes "drop", name.Drop)
    ∷ (codes "click", name.Click)
    ∷ (codes "fetch", name.Fetch)
    ∷ (codes "set", name.Set)
    ∷ (codes "get", name.Get)
    ∷ (codes "del", name.Del)
    ∷ (codes "clear", name.Clear)
    ∷ (codes "len", name.Len)
    ∷ (codes "key", name.Key)
    ∷ (codes "events", name.Events)
    ∷ (codes "cookie", name.Cookie)
    ∷ (codes "setcookie", name.SetCookie)
    ∷ (codes "has", name.Has)
    ∷ (codes "request", name.Request)
    ∷ (codes "persisted", name.Persisted)
    ∷ (codes "estimate", name.Estimate)
    ∷ (codes "persist", name.Persist)
    ∷ (codes "evict", name.Evict) ∷ []

picked : {A B : Type 0} (f : A → B) (here : Bool) (row : List ℕ × A) (rows : Option (List ℕ × A)) (others : Option (List ℕ × B))
    → option_map f (option_map (λ row. row.1) rows) ≡ option_map (λ row. row.1) others
    → option_map f (option_map (λ row. row.1) (cond here (Some row) rows)) ≡ option_map (λ row. row.1) (cond here (Some (row.0, f row.1)) others)
picked f true row rows others same = refl
picked f false row rows others same = same

-- what the first row of a name stands for is the first of the rows that they stand for
pub first_value-map : {A B : Type 0} (f : A → B) (passes : List ℕ → Bool) (rows : List (List ℕ × A))
    → option_map f (first_value passes rows) ≡ first_value passes (map (λ row. (row.0, f row.1)) rows)
first_value-map f passes [] = refl
first_value-map f passes (row ∷ rows) = picked f (passes row.0) row _ _ (first_value-map f passes rows)

-- what reads the row of a name reads that of an equal one
pub of_row : {a b : ActionName} (number : ℕ) (line : Data) (read : Result Step ScriptFault)
    → a ≡ b → Reads step_of (by_row number (row_of b) line) read → Reads step_of (by_row number (row_of a) line) read
of_row number line read same reads = subst (λ n. Reads step_of (by_row number (row_of n) line) read) (sym same) reads
