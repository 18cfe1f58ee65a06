-- The rows of the table that the names in the code stand for.
use Rattle.script_actions.specs.Action.{PlainStep}
use Rattle.script_lines.specs.Rows.{Row}
use Rattle.script_lines.specs.Actions as table
use Rattle.script_lines.specs.declared.actions.ActionName.{ActionName}
use Rattle.script_lines.specs.declared.actions.ActionName.TheVariants as name

-- the row of the table that a name stands for
abbrev pub row_of : ActionName → Row PlainStep
row_of name.Tick = table.tick_row
row_of name.Restart = table.restart_row
row_of name.Open = table.open_row
row_of name.Close = table.close_row
row_of name.Go = table.go_row
row_of name.Frame = table.frame_row
row_of name.Nav = table.nav_row
row_of name.Drop = table.drop_row
row_of name.Click = table.click_row
row_of name.Fetch = table.fetch_row
row_of name.Set = table.set_row
row_of name.Get = table.get_row
row_of name.Del = table.del_row
row_of name.Clear = table.clear_row
row_of name.Len = table.len_row
row_of name.Key = table.key_row
row_of name.Events = table.events_row
row_of name.Cookie = table.cookie_row
row_of name.SetCookie = table.setcookie_row
row_of name.Has = table.has_row
row_of name.Request = table.request_row
row_of name.Persisted = table.persisted_row
row_of name.Estimate = table.estimate_row
row_of name.Persist = table.persist_row
row_of name.Evict = table.evict_row
