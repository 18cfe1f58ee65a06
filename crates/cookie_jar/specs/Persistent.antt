-- What storing a cookie does to the persistent cookies of a cell, by the ranks of its steps.
-- Source: RFC 6265bis, "Storage Model" (the persistent-flag).
-- Our own choice: the last use does not outlive a restart; a change that is not valid where it is
-- done leaves the cell as it is.
use Rattle.std.specs.Prelude.{ℕ, pos, Bool, true, false, ◌&&◌, nat_lt, nat_le, ◌==◌, List, []}
use Rattle.std.specs.Prelude.{◌∷◌, length, map, filter, fold, flat_map, if◌then◌else◌}
use Rattle.std.specs.Prelude.{slice_set, take, drop}
use Rattle.std.specs.List.{insert, remove, list_any}
use Rattle.partition_limits.specs.declared.tally.CellKind.{CellKind}
use Rattle.cookie_jar.specs.declared.step.JarStep.{JarStep}
use Rattle.cookie_jar.specs.declared.step.JarStep.TheVariants.{Insert, Replace, Remove}
use Rattle.cookie_jar.specs.Cookie.{PlainCookie, same, copies, keeps_limits}
use Rattle.cookie_jar.specs.Lifetime.{is_persistent}

-- a change of the persistent cookies of a cell
pub data CookieRow : Type 0 where
  RowInsert : (place : ℕ) (cookie : PlainCookie) → CookieRow
  RowReplace : (place : ℕ) (cookie : PlainCookie) → CookieRow
  RowRemove : (place : ℕ) → CookieRow

-- a cookie as it outlives a restart
abbrev pub kept_cookie : PlainCookie → PlainCookie
kept_cookie c = record c { last = pos 0 }

-- what of a cell outlives a restart
abbrev pub persistent_part : List PlainCookie → List PlainCookie
persistent_part cs = map kept_cookie (filter is_persistent cs)

-- the change of an insertion, by whether the cookie is persistent
abbrev pub insert_row : Bool → ℕ → PlainCookie → List CookieRow
insert_row true r fresh = RowInsert r (kept_cookie fresh) ∷ []
insert_row false r fresh = []

-- the change of a removal, by whether the cookie was persistent
abbrev pub remove_row : Bool → ℕ → List CookieRow
remove_row true r = RowRemove r ∷ []
remove_row false r = []

-- the change of a replacement, by whether the new and the old cookie are persistent
abbrev pub replace_row : Bool → Bool → ℕ → PlainCookie → List CookieRow
replace_row true true r fresh = RowReplace r (kept_cookie fresh) ∷ []
replace_row true false r fresh = RowInsert r (kept_cookie fresh) ∷ []
replace_row false true r fresh = RowRemove r ∷ []
replace_row false false r fresh = []

-- the changes of a step, at its rank
abbrev pub rows_of_step : PlainCookie → JarStep → List CookieRow
rows_of_step fresh (Insert place r) = insert_row (is_persistent fresh) r fresh
rows_of_step fresh (Replace place r was) = replace_row (is_persistent fresh) was r fresh
rows_of_step fresh (Remove place r was) = remove_row was r

-- the changes of steps, in their order
abbrev pub rows_of_steps : PlainCookie → List JarStep → List CookieRow
rows_of_steps fresh steps = flat_map (rows_of_step fresh) steps

-- the list after a change
abbrev pub row_edit : List PlainCookie → CookieRow → List PlainCookie
row_edit cs (RowInsert place c) = insert cs place c
row_edit cs (RowReplace place c) = slice_set cs place c
row_edit cs (RowRemove place) = remove cs place

-- the list after changes
abbrev pub after_rows : List PlainCookie → List CookieRow → List PlainCookie
after_rows cs rows = fold row_edit cs rows

-- whether a change is valid in a cell: its place, the cookie there, and the limits afterwards
abbrev pub row_fits : CellKind → List PlainCookie → CookieRow → Bool
row_fits kind cs (RowInsert place c) =
    nat_le place (length cs) && (copies c cs == 0 && keeps_limits kind (insert cs place c))
row_fits kind cs (RowReplace place c) =
    nat_lt place (length cs)
    && (list_any (λ d. same c d) (take 1 (drop place cs))
    && keeps_limits kind (slice_set cs place c))
row_fits kind cs (RowRemove place) = nat_lt place (length cs)

-- the list after a change, which does nothing where it is not valid
abbrev pub apply_row : CellKind → List PlainCookie → CookieRow → List PlainCookie
apply_row kind cs row = if row_fits kind cs row then row_edit cs row else cs

-- the list after such changes
abbrev pub apply_rows : CellKind → List PlainCookie → List CookieRow → List PlainCookie
apply_rows kind cs rows = fold (apply_row kind) cs rows
