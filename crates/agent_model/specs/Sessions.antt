-- What loads and closings make of tabs and their session areas.
-- Source: HTML, "Navigables" and "Navigation"; Storage Standard, "Storage sheds", where a tab's
-- session storage is copied to one that its page opens.
-- Our own choice: a copy has the areas under the site that the opener is at, and no others. A tab
-- keeps its session areas while it is at other sites.
use Rattle.std.specs.Prelude.{ℕ, ◌==◌, ◌&&◌, Bool, not, List, ◌++◌, map, Some, None}
use Rattle.std.specs.List.{list_any}
use Rattle.std.specs.FinMap as finite
use Rattle.suffix_list.specs.Suffix.{Rule}
use Rattle.unwinding.specs.FiniteCells.{Full}
use Rattle.origin_site.specs.Address.{PlainAddress}
use Rattle.origin_site.specs.Site.{PlainSite}
use Rattle.local_area.specs.Area.{Pair}
use Rattle.frame_tree.specs.Calls.{opened}
use Rattle.script_actions.specs.declared.words.Method.{Method}
use Rattle.script_actions.specs.Action.{HeadField}
use Rattle.agent_model.specs.Partition.{SessionKey, Holdings, is_under}
use Rattle.agent_model.specs.TabChanges.{TabChange, Framed, Gone, tab_becomes}
use Rattle.agent_model.specs.Effects.{Effect}
use Rattle.agent_model.specs.CookieUses.{top_use}
use Rattle.agent_model.specs.Cookies.{request}

-- a tab has a fresh document at this address in its top frame, and no other, whatever it had before
abbrev pub arrival : List Rule → PlainAddress → TabChange
arrival rules url = Framed (opened rules url) (Some 0) None

-- a tab shows this address alone
abbrev pub show : List Rule → ℕ → PlainAddress → Holdings → Holdings
show rules number url held = tab_becomes number (arrival rules url) held

-- a tab reaches an address at a site at this moment, by this method, and the response has this head
abbrev pub arrive : List Rule → ℕ → PlainSite → ℕ → PlainAddress → Method → (same_site : Bool)
    → List HeadField → Effect
arrive rules now site number url method same_site head cells held =
    request rules now (top_use site url method same_site) head cells (show rules number url held)

-- a session area belongs to a tab
abbrev pub is_of_tab : ℕ → SessionKey → Bool
is_of_tab number key = key.0 == number

-- a tab has a session area, which is not empty
abbrev pub has_session : ℕ → Holdings → Bool
has_session number held = list_any (is_of_tab number) (finite.keys held.sessions)

-- a tab is closed, and its session areas are gone
abbrev pub close : ℕ → Holdings → Holdings
close number held =
    record (tab_becomes number Gone held) {
      sessions = finite.retain_keys held.sessions (λ key. not (is_of_tab number key));
    }

-- a session area is one of a tab, under a site
abbrev pub is_copied : PlainSite → ℕ → SessionKey → Bool
is_copied site from key = is_of_tab from key && is_under site key.1

-- a session area, for another tab
abbrev pub for_tab : ℕ → SessionKey × Full Pair → SessionKey × Full Pair
for_tab number entry = ((number, entry.0.1), entry.1)

-- a tab gets copies of another one's session areas under a site. Of two entries with one key
-- `from_entries` keeps the first, so that a copy stands in place of an area that the tab has.
abbrev pub copy_sessions : PlainSite → (from to : ℕ) → Holdings → Holdings
copy_sessions site from to held =
    let copied = finite.entries (finite.retain_keys held.sessions (is_copied site from)) in
    record held {
      sessions = finite.from_entries (map (for_tab to) copied ++ finite.entries held.sessions);
    }
