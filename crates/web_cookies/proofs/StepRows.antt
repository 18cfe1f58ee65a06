-- The row changes of steps, one step after another.
use Rattle.std.proofs.Common.{◌≡◌, ℕ, Bool, true, false, List, [], ◌∷◌, ◌++◌, map, refl, ap, sym, ◌∙◌, append_assoc, append-nil}
use Rattle.std.proofs.lemmas.List.{map-append}
use Rattle.std.proofs.lemmas.List.Concat.{flat_map-append}
use Rattle.cookie_jar.specs.declared.step.JarStep.{JarStep}
use Rattle.cookie_jar.specs.Cookie.{PlainCookie}
use Rattle.cookie_jar.specs.Key.{PlainKey as PlainCell}
use Rattle.cookie_jar.specs.Persistent.{remove_row, replace_row, rows_of_step, rows_of_steps}
use Rattle.row_changes.specs.Change.{PlainChange}
use Rattle.agent_model.specs.CookieStore.{in_cell}

-- the row changes of one step more
pub rows_more : (cell : PlainCell) (fresh : PlainCookie) (before : List JarStep) (step : JarStep) (old mid new : List PlainChange)
    → mid ≡ old ++ map (in_cell cell) (rows_of_steps fresh before)
    → new ≡ mid ++ map (in_cell cell) (rows_of_step fresh step)
    → new ≡ old ++ map (in_cell cell) (rows_of_steps fresh (before ++ step ∷ []))
rows_more cell fresh before step old mid new first second =
    let so_far = map (in_cell cell) (rows_of_steps fresh before) in
    let one = map (in_cell cell) (rows_of_step fresh step) in
    let more : rows_of_steps fresh (before ++ step ∷ []) ≡ rows_of_steps fresh before ++ rows_of_step fresh step =
    flat_map-append (rows_of_step fresh) before (step ∷ []) ∙ ap (λ r. rows_of_steps fresh before ++ r) (append-nil (rows_of_step fresh step)) in
    second ∙ ap (λ r. r ++ one) first ∙ append_assoc old so_far one
    ∙ ap (λ r. old ++ r) (sym (ap (map (in_cell cell)) more ∙ map-append (in_cell cell) (rows_of_steps fresh before) (rows_of_step fresh step)))

-- a session cookie in the place of another removes the row of that
pub session_replaces : (was : Bool) (r : ℕ) (fresh : PlainCookie) → replace_row false was r fresh ≡ remove_row was r
session_replaces true r fresh = refl
session_replaces false r fresh = refl
