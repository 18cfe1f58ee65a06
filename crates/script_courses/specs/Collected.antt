-- What a program keeps of a run, for the local script of a site: plain values, and what each line
-- makes of them.
-- Source: none; these are the words of the general law.
-- Our own choice: of the cells that others have left different, the site's own domain alone is
-- kept, since an entry holds the cookies of every other domain anyway.
use Rattle.std.specs.Prelude.{ℕ, ◌+◌, Bool, false, List, [], ◌∷◌, ◌++◌, length, bytes_eq}
use Rattle.std.specs.Prelude.{if◌then◌else◌}
use Rattle.unwinding.specs.Durable.{DurableChange, changes_of_site, line_changes}
use Rattle.unwinding.specs.LocalEntries.{line_entries, line_touched}
use Rattle.unwinding.specs.LocalScript.{Restarts, happenings}
use Rattle.unwinding.specs.World.{is_in, line_reply, of_site}
use Rattle.suffix_list.specs.Suffix.{Rule}
use Rattle.origin_site.specs.Site.{PlainSite}
use Rattle.row_changes.specs.Change.{PlainChange}
use Rattle.script_actions.specs.Action.{PlainAction}
use Rattle.agent_model.specs.CookieCells.{Domain}
use Rattle.agent_model.specs.Lines.{AgentWorld}
use Rattle.agent_model.specs.TheMachine.{machine}
use Rattle.durable_model.specs.Histories.{AgentReply}
use Rattle.local_scripts.specs.Items.{AgentItem}

-- how many replies of a site there are, and how many durable changes
pub record Tally : Type 0 where
  pub replies : ℕ
  pub changes : ℕ

-- there is none
abbrev pub no_tally : Tally
no_tally = record { replies = 0; changes = 0 }

-- those of both
abbrev pub both : Tally → Tally → Tally
both a b = record { replies = a.replies + b.replies; changes = a.changes + b.changes }

-- the site's among some replies and durable changes
abbrev pub tally_of : List Rule → PlainSite → List AgentReply
    → List (DurableChange PlainSite PlainChange) → Tally
tally_of rules site told made =
    record {
      replies = length (of_site (machine rules) site told);
      changes = length (changes_of_site (machine rules) site made);
    }

-- What is kept: the items so far, whether events of other sites have left the cookies of the
-- site's domain different, and what is the site's of the lines of the open epoch, of those that
-- were acknowledged and of those that wait for their batch.
pub record Collected : Type 0 where
  pub items : List AgentItem
  pub changed : Bool
  pub answered : Tally
  pub waiting : Tally

-- ---- a line

-- the domains that others have left different, as far as they matter to the site
abbrev pub touched_by : PlainSite → Bool → List Domain
touched_by site changed = if changed then site.host ∷ [] else []

-- what is the site's of a line
abbrev pub line_tally : List Rule → PlainSite → AgentWorld → PlainAction → Tally
line_tally rules site world line =
    tally_of rules site (line_reply (machine rules) world line ∷ [])
    (line_changes (machine rules) world line)

-- ---- what each call of an agent makes of it

-- nothing has run
abbrev pub nothing_collected : Collected
nothing_collected =
    record { items = []; changed = false; answered = no_tally; waiting = no_tally }

-- a line was executed in this world, and waits for its batch
abbrev pub with_line : List Rule → PlainSite → AgentWorld → PlainAction → Collected → Collected
with_line rules site world line c =
    let touched = touched_by site c.changed in
    record {
      items = c.items ++ happenings (line_entries (machine rules) site touched world line);
      changed =
          is_in bytes_eq site.host (line_touched (machine rules) site touched world line);
      answered = c.answered;
      waiting = both c.waiting (line_tally rules site world line);
    }

-- what waits was committed
abbrev pub with_commit : Collected → Collected
with_commit c =
    record {
      items = c.items;
      changed = c.changed;
      answered = both c.answered c.waiting;
      waiting = no_tally;
    }

-- how an epoch is closed at this moment
abbrev pub closing : (moment : ℕ) → Collected → AgentItem
closing moment c = Restarts moment c.answered.replies c.answered.changes

-- the store was opened again at this moment: what waits is lost, and its entries stay
abbrev pub with_restart : (moment : ℕ) → Collected → Collected
with_restart moment c =
    record {
      items = c.items ++ closing moment c ∷ [];
      changed = c.changed;
      answered = no_tally;
      waiting = no_tally;
    }
